-- A new circuit of the marked gates, one gate after the other.
use Rattle.std.proofs.Common.{◌≡◌, ℕ, ◌+◌, ◌<◌, ◌≤◌, ◌⊎◌, inl, inr, ⊎_elim, Bool, true, false, ◌&&◌, List, [], ◌∷◌, ◌++◌, length, get_or, Result, Ok, Err, refl, sym, ap, ap₂, subst, ◌∙◌, arith}
use Rattle.std.specs.Result.{IfOk}
use Rattle.std.proofs.lemmas.Bool.{cases_lt, false≢true}
use Rattle.std.proofs.lemmas.List.{get_or_append_left, get_or_default, get_or_push, length_push}
use Rattle.aig.specs.Circuits.{AreGates, AreProper, Circuit, Finds, Grows, IsConstant, IsEdge, IsGate, IsNode, Makes, Puts, gate_of, value_of, zero}
use Rattle.aig.specs.declared.edge.And.{And}
use Rattle.aig.specs.declared.edge.Edge.{Edge}
use Rattle.aig.specs.declared.edge.Node.{Node}
use Rattle.aig.specs.declared.edge.Node.TheVariants.{Constant, Input, Gate}
use Rattle.aig.specs.Strategies.{IsStrategy}
use Rattle.aig.specs.declared.strategy.Output.{Output}
use Rattle.aig.specs.declared.strategy.Strategy.{Strategy}
use Rattle.aig.proofs.Values.{edge_node, gate_at}
use Rattle.trim.specs.Trimmed.{IsOver, moved, moved_gate, moved_node}
use Rattle.trim.specs.Marks.{AreMarks, Rebuilds, edge_of, is_marked, rank, through}
use Rattle.trim.proofs.Marking.{over_earlier}
use Rattle.trim.proofs.Moves.{edge_same, edge_stands, gate_of_ordered, moved_ordered, node_known, node_moved, node_same, through_moved, value_moved}
use Rattle.trim.proofs.Ranks.{rank_marked, rank_onto, rank_rises, rank_same, rank_start, rank_unmarked}

abbrev pub any_gate : And
any_gate = record { left = zero; right = zero }

pub rebuilds_start : (old : Circuit) (marks : List Bool)
    → Rebuilds old marks 0 [] (record { inputs = old.inputs; gates = [] })
rebuilds_start old marks = record {
  inputs = refl;
  len = refl;
  size = sym (rank_start marks);
  edges = λ j d low m. absurd (let h : j < 0 = low in let no : ⊥ = omega arith in no);
  gates = λ j d low m. absurd (let h : j < 0 = low in let no : ⊥ = omega arith in no);
  values = λ j inputs low m. absurd (let h : j < 0 = low in let no : ⊥ = omega arith in no);
}

pub output_known : (s : Strategy) (items : List Output) (k n : ℕ) (o : Output) → IsStrategy s → items ≡ s.outputs
    → k < length items → o ≡ get_or items k o → n ≡ length s.aig.gates → IsNode s.aig.inputs n o.edge.node
output_known s items k n o is same below at len =
    let here : o ≡ get_or s.outputs k o = at ∙ ap (λ (os : List Output). get_or os k o) same in
    let low : k < length s.outputs = subst (λ (os : List Output). k < length os) same below in
    node_known s.aig.inputs (length s.aig.gates) n o.edge (get_or s.outputs k o).edge
    (edge_node s.aig (get_or s.outputs k o).edge (is.outputs k o low)) (ap (λ (p : Output). p.edge) here) len

pub rebuilds_first : (old : Circuit) (marks : List Bool) (table : List Edge) (new : Circuit) → table ≡ []
    → new ≡ record { inputs = old.inputs; gates = [] } → Rebuilds old marks 0 table new
rebuilds_first old marks table new none is = rw (none, is) (rebuilds_start old marks)

-- the value of a gate is that of its edges
pub value_of_gate : (old : Circuit) (inputs : List Bool) (i : ℕ) (d : And) → AreGates old.inputs old.gates
    → i < length old.gates → value_of old inputs (edge_of i)
    ≡ (value_of old inputs (get_or old.gates i d).left && value_of old inputs (get_or old.gates i d).right)
unfolding value_of
value_of_gate old inputs i d are below = gate_at old.inputs inputs old.gates i d are.proper below

split : (j i : ℕ) → j < i + 1 → (j < i) ⊎ (j ≡ i)
split j i h = ⊎_elim (λ (l : j < i). inl l) (λ (u : i ≤ j). inr (omega arith)) (cases_lt j i)

-- a gate that isn't marked has a constant in the table
pub rebuilds_same : (old : Circuit) (marks : List Bool) (i : ℕ) (table : List Edge) (new : Circuit) (e : Edge)
    → is_marked marks i ≡ false → Rebuilds old marks i table new → Rebuilds old marks (i + 1) (table ++ e ∷ []) new
rebuilds_same old marks i table new e none before = record {
  inputs = before.inputs;
  len = length_push table e ∙ ap (λ (n : ℕ). n + 1) before.len;
  size = before.size ∙ sym (rank_unmarked marks i none);
  edges = λ j d low m.
      let lower : j < i = earlier j low m in
      get_or_append_left table (e ∷ []) d j (let l : length table ≡ i = before.len in omega arith)
      ∙ before.edges j d lower m;
  gates = λ j d low m. before.gates j d (earlier j low m) m;
  values = λ j inputs low m. before.values j inputs (earlier j low m) m;
}
  where
    earlier : (j : ℕ) → j < i + 1 → is_marked marks j ≡ true → j < i
    earlier j low m =
        ⊎_elim (λ (h : j < i). h)
        (λ (h : j ≡ i). absurd (false≢true (sym none ∙ ap (is_marked marks) (sym h) ∙ m)))
        (split j i low)

module _ (s : Strategy) (marks : List Bool) (i : ℕ) (table : List Edge) (new : Circuit)
    (are : AreGates s.aig.inputs s.aig.gates) (marked : AreMarks s s.outputs 0 marks)
    (before : Rebuilds s.aig marks i table new) where
  -- the gates that a marked gate comes from are marked, and come earlier
  pub under : (k j : ℕ) (d : And) → k < length s.aig.gates → is_marked marks k ≡ true
      → IsOver (get_or s.aig.gates k d) j → (j < k) × (is_marked marks j ≡ true)
  under k j d below m over =
      let g = get_or s.aig.gates k d in (
        over_earlier s.aig.inputs k j g (are.proper k d below) over,
        marked.closed g k j (omega arith) m (below, get_or_default s.aig.gates k g d below) over,
      )

  module _ (d : And) (below : i < length s.aig.gates) (here : is_marked marks i ≡ true) where
    abbrev gate_here : And
    gate_here = get_or s.aig.gates i d

    abbrev place : ℕ → ℕ
    place = rank marks

    pub known : (j : ℕ) → IsOver gate_here j → get_or table j zero ≡ edge_of (place j)
    known j over = let u = under i j d below here over in before.edges j zero u.0 u.1

    pub stands_at : (node : Node) → IsNode s.aig.inputs i node → ((j : ℕ) → node ≡ Gate j → IsOver gate_here j)
        → (b : Bool) → IsEdge new (moved place (record { node = node; negated = b }))
    stands_at node is over b =
        edge_stands new s.aig.inputs (length new.gates) (moved place (record { node = node; negated = b }))
        before.inputs refl
        (node_moved place s.aig.inputs i (length new.gates) node is
        (λ j e. let u = under i j d below here (over j e) in
        let low : place j < place i = rank_rises marks j i u.1 u.0 in
        let size : length new.gates ≡ place i = before.size in omega arith))

    pub left_is : through table gate_here.left ≡ moved place gate_here.left
    left_is = through_moved place table gate_here.left (λ j e. known j (inl e))

    pub right_is : through table gate_here.right ≡ moved place gate_here.right
    right_is = through_moved place table gate_here.right (λ j e. known j (inr e))

    pub left_stands : IsEdge new (moved place gate_here.left)
    left_stands = stands_at gate_here.left.node (are.proper i d below).left_stands (λ j e. inl e) gate_here.left.negated

    pub right_stands : IsEdge new (moved place gate_here.right)
    right_stands =
        stands_at gate_here.right.node (are.proper i d below).right_stands (λ j e. inr e) gate_here.right.negated

    not_constant : (node : Node) → (IsConstant node → ⊥) → IsConstant (moved_node place node) → ⊥
    not_constant Constant h c = h tt
    not_constant (Input k) h c = c
    not_constant (Gate k) h c = c

    pub edges_proper : AreProper (moved place gate_here.left) (moved place gate_here.right)
    edges_proper =
        let is : IsGate s.aig.inputs i gate_here = are.proper i d below in
        record {
          left = not_constant gate_here.left.node is.left_proper;
          right = not_constant gate_here.right.node is.right_proper;
          differ = λ e. is.differ (node_same place gate_here.left.node gate_here.right.node
              (λ j k at_j at_k same. rank_same marks j k (under i j d below here (inl at_j)).1
              (under i k d below here (inr at_k)).1 same) e);
        }

    pub gate_is : gate_of new.inputs (moved place gate_here.left) (moved place gate_here.right)
        ≡ moved_gate place gate_here
    gate_is =
        ap (λ (n : ℕ). gate_of n (moved place gate_here.left) (moved place gate_here.right)) before.inputs
        ∙ gate_of_ordered s.aig.inputs (moved_gate place gate_here)
        (moved_ordered s.aig.inputs i place gate_here (are.proper i d below) (are.ordered i d below)
        (λ j k at_j at_k lower. rank_rises marks j k (under i j d below here (inr at_j)).1 lower))

    -- a gate that is found again would stand twice in the old circuit
    pub not_found : (next : Circuit) (e : Edge) → Finds new next (moved_gate place gate_here) e → ⊥
    not_found next e f =
        let size : length new.gates ≡ place i = before.size in
        let r = rank_onto marks i f.place (let z : f.place < length new.gates = f.within in omega arith) in
        let j = r.0 in
        let g = get_or s.aig.gates j d in
        let lower : j < length s.aig.gates = let z : j < i = r.1 in omega arith in
        let same : moved_gate place g ≡ moved_gate place gate_here =
        sym (before.gates j d r.1 r.2) ∙ ap (λ (k : ℕ). get_or new.gates k d) r.3 ∙ f.gate d in
        let left : g.left ≡ gate_here.left = edge_same place g.left gate_here.left
        (λ a b at_a at_b e. rank_same marks a b (under j a d lower r.2 (inl at_a)).1
        (under i b d below here (inl at_b)).1 e) (ap (λ (h : And). h.left) same) in
        let right : g.right ≡ gate_here.right = edge_same place g.right gate_here.right
        (λ a b at_a at_b e. rank_same marks a b (under j a d lower r.2 (inr at_a)).1
        (under i b d below here (inr at_b)).1 e) (ap (λ (h : And). h.right) same) in
        are.distinct j i d r.1 below (inl (left, right))

    module _ (next : Circuit) (e : Edge) (puts : Puts new next (moved_gate place gate_here) e)
        (value : (inputs : List Bool) → value_of next inputs e
        ≡ (value_of new inputs (moved place gate_here.left) && value_of new inputs (moved place gate_here.right)))
        (grows : Grows new next) where
      edge_is : (j : ℕ) → j ≡ i → e ≡ edge_of (place j)
      edge_is j is = puts.edge ∙ ap edge_of (before.size ∙ ap place (sym is))

      low : (j : ℕ) → j < i → is_marked marks j ≡ true → place j < length new.gates
      low j lower m =
          let size : length new.gates ≡ place i = before.size in
          let rises : place j < place i = rank_rises marks j i m lower in omega arith

      edges_more : (j : ℕ) (f : Edge) → (j < i) ⊎ (j ≡ i) → is_marked marks j ≡ true
          → get_or (table ++ e ∷ []) j f ≡ edge_of (place j)
      edges_more j f (inl lower) m =
          get_or_append_left table (e ∷ []) f j (let l : length table ≡ i = before.len in omega arith)
          ∙ before.edges j f lower m
      edges_more j f (inr is) m = get_or_push table e f j (before.len ∙ sym is) ∙ edge_is j is

      gates_more : (j : ℕ) (f : And) → (j < i) ⊎ (j ≡ i) → is_marked marks j ≡ true
          → get_or next.gates (place j) f ≡ moved_gate place (get_or s.aig.gates j f)
      gates_more j f (inl lower) m =
          ap (λ (gs : List And). get_or gs (place j) f) puts.gates
          ∙ get_or_append_left new.gates (moved_gate place gate_here ∷ []) f (place j) (low j lower m)
          ∙ before.gates j f lower m
      gates_more j f (inr is) m =
          ap (λ (gs : List And). get_or gs (place j) f) puts.gates
          ∙ get_or_push new.gates (moved_gate place gate_here) f (place j) (before.size ∙ ap place (sym is))
          ∙ ap (moved_gate place) (get_or_default s.aig.gates i d f below
          ∙ ap (λ (k : ℕ). get_or s.aig.gates k f) (sym is))

      value_under : (inputs : List Bool) (a : Edge) → ((j : ℕ) → a.node ≡ Gate j → IsOver gate_here j)
          → value_of new inputs (moved place a) ≡ value_of s.aig inputs a
      value_under inputs a over =
          value_moved s.aig new place inputs a
          (λ j at. let u = under i j d below here (over j at) in before.values j inputs u.0 u.1)

      values_more : (j : ℕ) (inputs : List Bool) → (j < i) ⊎ (j ≡ i) → is_marked marks j ≡ true
          → value_of next inputs (edge_of (place j)) ≡ value_of s.aig inputs (edge_of j)
      values_more j inputs (inl lower) m =
          grows.values inputs (edge_of (place j)) (edge_stands new s.aig.inputs (length new.gates) (edge_of (place j))
          before.inputs refl (low j lower m)) ∙ before.values j inputs lower m
      values_more j inputs (inr is) m =
          ap (value_of next inputs) (sym (edge_is j is)) ∙ value inputs
          ∙ ap₂ (λ a b. a && b) (value_under inputs gate_here.left (λ k at. inl at))
          (value_under inputs gate_here.right (λ k at. inr at))
          ∙ sym (value_of_gate s.aig inputs i d are below)
          ∙ ap (λ (k : ℕ). value_of s.aig inputs (edge_of k)) (sym is)

      pub rebuilds_more : Rebuilds s.aig marks (i + 1) (table ++ e ∷ []) next
      rebuilds_more = record {
        inputs = puts.inputs ∙ before.inputs;
        len = length_push table e ∙ ap (λ (n : ℕ). n + 1) before.len;
        size = ap length puts.gates ∙ length_push new.gates (moved_gate place gate_here)
            ∙ ap (λ (n : ℕ). n + 1) before.size ∙ sym (rank_marked marks i here);
        edges = λ j f lower m. edges_more j f (split j i lower) m;
        gates = λ j f lower m. gates_more j f (split j i lower) m;
        values = λ j inputs lower m. values_more j inputs (split j i lower) m;
      }

    -- what the conjunction of both edges gives
    pub rebuilds_and : {E : Type 0} (r : Result Edge E) (next : Circuit)
        → IfOk r (λ e. (inputs : List Bool) → value_of next inputs e
        ≡ (value_of new inputs (moved place gate_here.left) && value_of new inputs (moved place gate_here.right)))
        → IfOk r (λ e. Makes new next (moved place gate_here.left) (moved place gate_here.right) e)
        → Grows new next → IfOk r (λ e. Rebuilds s.aig marks (i + 1) (table ++ e ∷ []) next)
    rebuilds_and (Err f) next value makes grows = tt
    rebuilds_and (Ok e) next value makes grows =
        let fresh : Puts new next (gate_of new.inputs (moved place gate_here.left) (moved place gate_here.right)) e =
        ⊎_elim (λ f. absurd (not_found next e (subst (λ (g : And). Finds new next g e) gate_is f))) (λ p. p) makes in
        rebuilds_more next e (subst (λ (g : And). Puts new next g e) gate_is fresh) value grows

    pub rebuilds_by : {E : Type 0} (r : Result Edge E) (next : Circuit) (a b : Edge) → a ≡ moved place gate_here.left
        → b ≡ moved place gate_here.right
        → IfOk r (λ e. (inputs : List Bool) → value_of next inputs e ≡ (value_of new inputs a && value_of new inputs b))
        → (AreProper a b → IfOk r (λ e. Makes new next a b e)) → Grows new next
        → IfOk r (λ e. Rebuilds s.aig marks (i + 1) (table ++ e ∷ []) next)
    rebuilds_by r next a b is_a is_b value makes grows =
        rebuilds_and r next (rw (is_a, is_b) at value) ((rw (is_a, is_b) at makes) edges_proper) grows
