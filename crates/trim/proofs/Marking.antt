-- Marks of gates that are reached, while they are put.
use Rattle.std.proofs.Common.{◌≡◌, ℕ, ◌+◌, ◌<◌, ◌≤◌, ◌⊎◌, inl, inr, ⊎_elim, Bool, true, false, ◌||◌, ◌&&◌, List, length, take, get_or, Option, Some, refl, sym, ap, subst, ◌∙◌, arith}
use Rattle.std.proofs.lemmas.Bool.{and_from, and_parts, cases_eq, cases_order, eq-eqb, eqb-true, false≢true, ne_eqb, or_cases, or_left, or_right}
use Rattle.std.proofs.lemmas.List.{get_or-set_other, get_or-set_same, get_or_default}
use Rattle.std.proofs.Math.ListN.{set}
use Rattle.aig.specs.Circuits.{IsGate, IsNode}
use Rattle.aig.specs.declared.edge.And.{And}
use Rattle.aig.specs.declared.edge.Node.{Node}
use Rattle.aig.specs.declared.edge.Node.TheVariants.{Constant, Input, Gate}
use Rattle.aig.specs.declared.strategy.Output.{Output}
use Rattle.aig.specs.declared.strategy.Strategy.{Strategy}
use Rattle.trim.specs.Trimmed.{IsAt, IsOver, IsReached}
use Rattle.trim.specs.Trimmed.IsReached.{of_output, of_gate}
use Rattle.trim.specs.Marks.{AreMarks, gate_in, is_at, is_from, is_marked, is_over}
use Rattle.trim.proofs.Lists.{contains_more, contains_nil}

-- the gate that an edge comes from

node_from : (node : Node) (j : ℕ) → is_at (gate_in node) j ≡ true → node ≡ Gate j
node_from Constant j t = absurd (false≢true t)
node_from (Input i) j t = absurd (false≢true t)
node_from (Gate k) j t = ap Gate (eqb-true k j t)

pub from_node : (node : Node) (j : ℕ) → node ≡ Gate j → is_at (gate_in node) j ≡ true
from_node node j e = ap (λ (n : Node). is_at (gate_in n) j) e ∙ eq-eqb j j refl

pub over_true : (g : And) (j : ℕ) → IsOver g j → is_over g j ≡ true
over_true g j (inl e) = or_left (is_from g.left j) (is_from g.right j) (from_node g.left.node j e)
over_true g j (inr e) = or_right (is_from g.left j) (is_from g.right j) (from_node g.right.node j e)

pub over_from : (g : And) (j : ℕ) → is_over g j ≡ true → IsOver g j
over_from g j t =
    ⊎_elim (λ l. inl (node_from g.left.node j l)) (λ r. inr (node_from g.right.node j r))
    (or_cases (is_from g.left j) (is_from g.right j) t)

-- a gate comes from earlier gates

node_earlier : (n i j : ℕ) (node : Node) → IsNode n i node → node ≡ Gate j → j < i
node_earlier n i j Constant h e = absurd (cc)
node_earlier n i j (Input k) h e = absurd (cc)
node_earlier n i j (Gate k) h e = let same : k ≡ j = (cc) in let low : k < i = h in omega arith

pub over_earlier : (n i j : ℕ) (g : And) → IsGate n i g → IsOver g j → j < i
over_earlier n i j g is (inl e) = node_earlier n i j g.left.node is.left_stands e
over_earlier n i j g is (inr e) = node_earlier n i j g.right.node is.right_stands e

-- one mark

or_true : (b : Bool) → (b || true) ≡ true
or_true true = refl
or_true false = refl

or_false : (b : Bool) → (b || false) ≡ b
or_false true = refl
or_false false = refl

pub mark_set : (marks : List Bool) (place j : ℕ) (node : Node) → place < length marks → Some place ≡ gate_in node
    → is_marked (set marks place true) j ≡ (is_marked marks j || is_at (gate_in node) j)
mark_set marks place j node below is =
    ⊎_elim
    (λ (e : place ≡ j).
    ap (is_marked (set marks place true)) (sym e) ∙ get_or-set_same marks place true false below
    ∙ sym (ap (λ (b : Bool). is_marked marks j || b) (ap (λ (o : Option ℕ). is_at o j) (sym is) ∙ eq-eqb place j e)
    ∙ or_true (is_marked marks j)))
    (λ (ne : place ≡ j → ⊥).
    get_or-set_other marks place j true false (λ e. ne (sym e))
    ∙ sym (ap (λ (b : Bool). is_marked marks j || b) (ap (λ (o : Option ℕ). is_at o j) (sym is) ∙ ne_eqb place j ne)
    ∙ or_false (is_marked marks j)))
    (cases_eq place j)

-- outputs

pub marks_start : (s : Strategy) (marks : List Bool) → length marks ≡ length s.aig.gates
    → ((j : ℕ) → is_marked marks j ≡ false) → AreMarks s (take 0 s.outputs) (length s.aig.gates) marks
marks_start s marks room none = record {
  room = room;
  sound = λ j m. absurd (false≢true (sym (none j) ∙ m));
  first = λ o j c e. absurd (contains_nil o c);
  closed = λ g k j low m at over. let below : k < length s.aig.gates = at.0 in absurd (omega arith);
}

pub marks_output : (s : Strategy) (i : ℕ) (o : Output) (old new : List Bool) → i < length s.outputs
    → o ≡ get_or s.outputs i o → length new ≡ length s.aig.gates
    → ((j : ℕ) → is_marked new j ≡ (is_marked old j || is_from o.edge j))
    → AreMarks s (take i s.outputs) (length s.aig.gates) old
    → AreMarks s (take (i + 1) s.outputs) (length s.aig.gates) new
marks_output s i o old new below is room puts before = record {
  room = room;
  sound = λ j m. ⊎_elim (before.sound j)
      (λ t. of_output o j (i, below, sym is) (node_from o.edge.node j t))
      (or_cases (is_marked old j) (is_from o.edge j) (sym (puts j) ∙ m));
  first = λ p j c e. ⊎_elim
      (λ was. puts j ∙ or_left (is_marked old j) (is_from o.edge j) (before.first p j was e))
      (λ here. puts j ∙ or_right (is_marked old j) (is_from o.edge j)
      (from_node o.edge.node j (ap (λ (q : Output). q.edge.node) (is ∙ here) ∙ e)))
      (contains_more s.outputs i o p below c);
  closed = λ g k j low m at over. let last : k < length s.aig.gates = at.0 in absurd (omega arith);
}

-- gates

module _ (s : Strategy) (outputs : List Output) (i : ℕ) (old new : List Bool) (below : i < length s.aig.gates)
    (proper : (k : ℕ) (d : And) → k < length s.aig.gates → IsGate s.aig.inputs k (get_or s.aig.gates k d))
    (puts : (j : ℕ) (d : And) → is_marked new j
    ≡ (is_marked old j || (is_marked old i && is_over (get_or s.aig.gates i d) j)))
    (before : AreMarks s outputs (i + 1) old) where
  stays : (d : And) (j : ℕ) → is_marked old j ≡ true → is_marked new j ≡ true
  stays d j m = puts j d ∙ or_left (is_marked old j) (is_marked old i && is_over (get_or s.aig.gates i d) j) m

  -- a mark was there, or comes from the gate at i
  cases : (d : And) (j : ℕ) → is_marked new j ≡ true
      → (is_marked old j ≡ true) ⊎ ((is_marked old i ≡ true) × IsOver (get_or s.aig.gates i d) j)
  cases d j m =
      let g = get_or s.aig.gates i d in
      ⊎_elim (λ was. inl was)
      (λ both. let parts = and_parts (is_marked old i) (is_over g j) both in inr (parts.0, over_from g j parts.1))
      (or_cases (is_marked old j) (is_marked old i && is_over g j) (sym (puts j d) ∙ m))

  is_gate : (g : And) (k : ℕ) → IsAt s.aig.gates k g → IsGate s.aig.inputs k g
  is_gate g k at = subst (λ (h : And). IsGate s.aig.inputs k h) at.1 (proper k g at.0)

  -- a gate from i on that is marked was
  marked_before : (d : And) (k : ℕ) → i ≤ k → is_marked new k ≡ true → is_marked old k ≡ true
  marked_before d k low m =
      ⊎_elim (λ (was : is_marked old k ≡ true). was)
      (λ (c : (is_marked old i ≡ true) × IsOver (get_or s.aig.gates i d) k).
      let earlier : k < i = over_earlier s.aig.inputs i k (get_or s.aig.gates i d) (proper i d below) c.1 in
      absurd (omega arith))
      (cases d k m)

  closed_more : (g : And) (k j : ℕ) → i ≤ k → is_marked new k ≡ true → IsAt s.aig.gates k g → IsOver g j
      → is_marked new j ≡ true
  closed_more g k j low m at over =
      let was : is_marked old k ≡ true = marked_before g k low m in
      ⊎_elim
      (λ (e : i ≡ k).
      let same : get_or s.aig.gates i g ≡ g = ap (λ (x : ℕ). get_or s.aig.gates x g) e ∙ at.1 in
      puts j g ∙ or_right (is_marked old j) (is_marked old i && is_over (get_or s.aig.gates i g) j)
      (and_from (is_marked old i) (is_over (get_or s.aig.gates i g) j) (ap (is_marked old) e ∙ was)
      (ap (λ (h : And). is_over h j) same ∙ over_true g j over)))
      (λ (o : (i < k) ⊎ (k < i)). ⊎_elim
      (λ (h : i < k). stays g j (before.closed g k j (omega arith) was at over))
      (λ (h : k < i). absurd (omega arith)) o)
      (cases_order i k)

  pub marks_gate : length new ≡ length s.aig.gates → (d : And) → AreMarks s outputs i new
  marks_gate room d =
      let g = get_or s.aig.gates i d in
      record {
        room = room;
        sound = λ j m. ⊎_elim (before.sound j)
            (λ c. of_gate g i j (before.sound i c.0) (below, get_or_default s.aig.gates i g d below) c.1)
            (cases d j m);
        first = λ o j c e. stays d j (before.first o j c e);
        closed = closed_more;
      }

-- what is reached is marked
pub reached_marked : (s : Strategy) (marks : List Bool) → AreMarks s s.outputs 0 marks → (j : ℕ) → IsReached s j
    → is_marked marks j ≡ true
reached_marked s marks are j (of_output o k c e) = are.first o j c e
reached_marked s marks are j (of_gate g k i r at over) =
    are.closed g k j (omega arith) (reached_marked s marks are k r) at over
