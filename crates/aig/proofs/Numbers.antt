-- Literals of edges, and the gate of two edges by their order.
use Rattle.std.proofs.Common.{◌≡◌, ℕ, ◌+◌, ◌*◌, ◌<◌, ◌≤◌, ⊎_elim, Bool, true, false, ◌&&◌, List, refl, sym, ap, ap₂, ◌∙◌, arith}
use Rattle.std.specs.Prelude.{if◌then◌else◌, nat_lt}
use Rattle.std.proofs.lemmas.Bool.{cases_lt, true≢false}
use Rattle.std.proofs.lemmas.Bool.Decides.{Decides-ltb}
use Rattle.aig.specs.Circuits.{IsNode, IsGate, IsOrdered, AreProper, edge_number, edge_value, gate_of, gate_value, node_number}
use Rattle.aig.specs.declared.edge.Edge.{Edge}
use Rattle.aig.specs.declared.edge.Node.{Node}
use Rattle.aig.specs.declared.edge.Node.TheVariants.{Constant, Input, Gate}
use Rattle.aig.specs.declared.edge.And.{And}

-- nodes that stand have different numbers
pub node_same : (inputs a b : ℕ) (m n : Node) → IsNode inputs a m → IsNode inputs b n
    → node_number inputs m ≡ node_number inputs n → m ≡ n
node_same inputs a b Constant Constant p q e = refl
node_same inputs a b Constant (Input i) p q e = absurd (omega arith)
node_same inputs a b Constant (Gate j) p q e = absurd (omega arith)
node_same inputs a b (Input i) Constant p q e = absurd (omega arith)
node_same inputs a b (Input i) (Input j) p q e = ap Input (let same : i ≡ j = omega arith in same)
node_same inputs a b (Input i) (Gate j) p q e = let below : i < inputs = p in absurd (omega arith)
node_same inputs a b (Gate i) Constant p q e = absurd (omega arith)
node_same inputs a b (Gate i) (Input j) p q e = let below : j < inputs = q in absurd (omega arith)
node_same inputs a b (Gate i) (Gate j) p q e = ap Gate (let same : i ≡ j = omega arith in same)

sign_same : (m n : ℕ) (s t : Bool) → 2 * m + (if s then 1 else 0) ≡ 2 * n + (if t then 1 else 0) → (m ≡ n) × (s ≡ t)
sign_same m n true true e = (omega arith, refl)
sign_same m n true false e = absurd (omega arith)
sign_same m n false true e = absurd (omega arith)
sign_same m n false false e = (omega arith, refl)

-- edges that stand have different literals
pub edge_same : (inputs a b : ℕ) (e f : Edge) → IsNode inputs a e.node → IsNode inputs b f.node
    → edge_number inputs e ≡ edge_number inputs f → e ≡ f
edge_same inputs a b e f p q h =
    let both = sign_same (node_number inputs e.node) (node_number inputs f.node) e.negated f.negated h in
    let Make : Node → Bool → Edge = λ node negated. record { node = node; negated = negated } in
    ap₂ Make (node_same inputs a b e.node f.node p q both.0) both.1

and_comm : (a b : Bool) → (a && b) ≡ (b && a)
and_comm true true = refl
and_comm true false = refl
and_comm false true = refl
and_comm false false = refl

module _ (n k : ℕ) (a b : Edge) where
  -- the gate of two edges, by which of them has the greater literal
  abbrev either_way : Bool → And
  either_way t = if t then (record { left = b; right = a }) else (record { left = a; right = b })

  abbrev less : Bool
  less = nat_lt (edge_number n a) (edge_number n b)

  pub gate_proper : IsNode n k a.node → IsNode n k b.node → AreProper a b → IsGate n k (gate_of n a b)
  gate_proper left right proper = by less
    where
      by : (t : Bool) → IsGate n k (either_way t)
      by true = record {
        left_stands = right;
        right_stands = left;
        left_proper = proper.right;
        right_proper = proper.left;
        differ = λ e. proper.differ (sym e);
      }
      by false = record {
        left_stands = left;
        right_stands = right;
        left_proper = proper.left;
        right_proper = proper.right;
        differ = proper.differ;
      }

  pub gate_ordered : IsNode n k a.node → IsNode n k b.node → AreProper a b → IsOrdered n (gate_of n a b)
  gate_ordered left right proper = by less refl
    where
      apart : edge_number n a ≡ edge_number n b → ⊥
      apart e = proper.differ (ap (λ (x : Edge). x.node) (edge_same n k k a b left right e))

      by : (t : Bool) → less ≡ t → IsOrdered n (either_way t)
      by true e = (Decides-ltb (edge_number n a) (edge_number n b)).0 e
      by false e = ⊎_elim (λ (h : edge_number n b < edge_number n a). h)
          (λ (h : edge_number n a ≤ edge_number n b). ⊎_elim
          (λ (l : edge_number n a < edge_number n b).
          absurd (true≢false (sym ((Decides-ltb (edge_number n a) (edge_number n b)).1 l) ∙ e)))
          (λ (u : edge_number n b ≤ edge_number n a). absurd (apart (omega arith)))
          (cases_lt (edge_number n a) (edge_number n b)))
          (cases_lt (edge_number n b) (edge_number n a))

  pub gate_both : (inputs values : List Bool)
      → gate_value inputs values (gate_of n a b) ≡ (edge_value inputs values a && edge_value inputs values b)
  gate_both inputs values = by less
    where
      by : (t : Bool)
          → gate_value inputs values (either_way t) ≡ (edge_value inputs values a && edge_value inputs values b)
      by true = and_comm (edge_value inputs values b) (edge_value inputs values a)
      by false = refl
