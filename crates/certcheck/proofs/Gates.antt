-- Gate clauses say that the gates have their values.
use Rattle.std.proofs.Common.{◌≡◌, ℕ, zero, suc, ◌+◌, ◌*◌, ◌<◌, ◌≤◌, Bool, true, false, not, ◌&&◌, ◌||◌, cond, List, [], ◌∷◌, ◌++◌, length, take, drop, get_or, set, refl, sym, ap, ap₂, ◌∙◌, subst, arith, length-append, append_assoc, append-nil}
use Rattle.std.proofs.lemmas.Bool.{and_parts, and_from}
use Rattle.std.proofs.lemmas.List.{set-get_or, take-append-drop, drop_more, get_or_append_left, get_or_at, length-take-le}
use Rattle.std.proofs.lemmas.List.Folds.{list_all-append}
use Rattle.calculus.specs.Rows.{Assignment}
use Rattle.aig.specs.Circuits.{signed, node_value, edge_value, gate_value, gate_values, value_of, IsNode, IsEdge, IsGate, AreGates, node_number, edge_number}
use Rattle.aig.specs.declared.edge.Edge.{Edge}
use Rattle.aig.specs.declared.edge.Node.{Node}
use Rattle.aig.specs.declared.edge.Node.TheVariants.{Constant, Input, Gate}
use Rattle.aig.specs.declared.edge.And.{And}
use Rattle.aig.proofs.Values.{pass_more, pass_end}
use Rattle.builder.specs.Rows.{flipped}
use Rattle.certcheck.specs.Check.{conjunction, gate_clauses}
use Rattle.certcheck.proofs.Numbers.{value_at, value_zero, value_suc, number_true, even_true, odd_true, flipped_true, holds, all_hold}

-- The assignment gives the inputs and the gates these values.
pub record Carries (σ : Assignment) (inputs : List Bool) (gates : List Bool) : Type 0 where
  pub of_inputs : (i : ℕ) → i < length inputs → σ (suc i) ≡ get_or inputs i false
  pub of_gates : (j : ℕ) → j < length gates → σ (suc (length inputs + j)) ≡ get_or gates j false

node_true : (σ : Assignment) (inputs gates : List Bool) (node : Node) → Carries σ inputs gates
    → IsNode (length inputs) (length gates) node → value_at σ (node_number (length inputs) node)
    ≡ node_value inputs gates node
node_true σ inputs gates Constant c h = value_zero σ
node_true σ inputs gates (Input i) c h =
    let next : i + 1 ≡ suc i = omega arith in
    ap (value_at σ) next ∙ value_suc σ i ∙ c.of_inputs i h
node_true σ inputs gates (Gate j) c h =
    let next : length inputs + j + 1 ≡ suc (length inputs + j) = omega arith in
    ap (value_at σ) next ∙ value_suc σ (length inputs + j) ∙ c.of_gates j h

signed_true : (σ : Assignment) (m : ℕ) (b : Bool) → number_true σ (2 * m + cond b 1 0) ≡ signed b (value_at σ m)
signed_true σ m true = odd_true σ (2 * m + 1) m refl
signed_true σ m false = let e : 2 * m + 0 ≡ 2 * m = omega arith in even_true σ (2 * m + 0) m e

-- the number of an edge has its value
pub edge_true : (σ : Assignment) (inputs gates : List Bool) (e : Edge) → Carries σ inputs gates
    → IsNode (length inputs) (length gates) e.node
    → number_true σ (edge_number (length inputs) e) ≡ edge_value inputs gates e
edge_true σ inputs gates e c h = signed_true σ (node_number (length inputs) e.node) e.negated
    ∙ ap (signed e.negated) (node_true σ inputs gates e.node c h)

-- the three clauses of a conjunction

three : Bool → Bool → Bool → Bool
three x p q = (not x || (p || false)) && ((not x || (q || false)) && ((x || (not p || (not q || false))) && true))

three_gives : (x p q : Bool) → three x p q ≡ true → x ≡ (p && q)
unfolding three
three_gives true true true e = refl
three_gives true true false e = sym e
three_gives true false q e = sym e
three_gives false true true e = e
three_gives false true false e = refl
three_gives false false q e = refl

three_from : (x p q : Bool) → x ≡ (p && q) → three x p q ≡ true
unfolding three
three_from true true true e = refl
three_from true true false e = sym e
three_from true false q e = sym e
three_from false true true e = e
three_from false true false e = refl
three_from false false q e = refl

is_three : (σ : Assignment) (l a b : ℕ) → all_hold σ (conjunction l a b) ≡ three (number_true σ l) (number_true σ a)
    (number_true σ b)
unfolding three
is_three σ l a b =
    ap (λ x. (x || (number_true σ a || false)) &&
    ((x || (number_true σ b || false)) &&
    ((number_true σ l || (number_true σ (flipped a) || (number_true σ (flipped b) || false))) && true)))
    (flipped_true σ l)
    ∙ ap₂ (λ p q. (not (number_true σ l) || (number_true σ a || false)) &&
    ((not (number_true σ l) || (number_true σ b || false)) && ((number_true σ l || (p || (q || false))) && true)))
    (flipped_true σ a) (flipped_true σ b)

-- a gate's variable is the conjunction of its edges
abbrev pub IsTrueGate : Assignment → ℕ → ℕ → And → Type 0
IsTrueGate σ inputs place g =
    σ (suc (inputs + place)) ≡
    (number_true σ (edge_number inputs g.left) && number_true σ (edge_number inputs g.right))

place_true : (σ : Assignment) (inputs place : ℕ) → number_true σ (2 * (inputs + place + 1)) ≡ σ (suc (inputs + place))
place_true σ inputs place =
    let e : 2 * (inputs + place + 1) ≡ 2 * suc (inputs + place) = omega arith in
    even_true σ (2 * (inputs + place + 1)) (suc (inputs + place)) e ∙ value_suc σ (inputs + place)

pub gates_give : (σ : Assignment) (inputs place : ℕ) (gates : List And)
    → all_hold σ (gate_clauses inputs place gates) ≡ true
    → (j : ℕ) (d : And) → j < length gates → IsTrueGate σ inputs (place + j) (get_or gates j d)
gates_give σ inputs place [] h j d below = absurd (omega arith)
gates_give σ inputs place (g ∷ gates) h zero d below =
    let m = edge_number inputs g.left in
    let n = edge_number inputs g.right in
    let parts = and_parts (all_hold σ (conjunction (2 * (inputs + place + 1)) m n))
    (all_hold σ (gate_clauses inputs (suc place) gates))
    (sym (list_all-append (holds σ) (conjunction (2 * (inputs + place + 1)) m n)
    (gate_clauses inputs (suc place) gates)) ∙ h) in
    let here : place + 0 ≡ place = omega arith in
    ap (λ k. σ (suc (inputs + k))) here ∙ sym (place_true σ inputs place)
    ∙ three_gives _ _ _ (sym (is_three σ (2 * (inputs + place + 1)) m n) ∙ parts.0)
gates_give σ inputs place (g ∷ gates) h (suc j) d below =
    let m = edge_number inputs g.left in
    let n = edge_number inputs g.right in
    let parts = and_parts (all_hold σ (conjunction (2 * (inputs + place + 1)) m n))
    (all_hold σ (gate_clauses inputs (suc place) gates))
    (sym (list_all-append (holds σ) (conjunction (2 * (inputs + place + 1)) m n)
    (gate_clauses inputs (suc place) gates)) ∙ h) in
    let here : place + suc j ≡ suc place + j = omega arith in
    ap (λ k. σ (suc (inputs + k))) here ∙ gates_give σ inputs (suc place) gates parts.1 j d (omega (arith, below))

pub gates_from : (σ : Assignment) (inputs place : ℕ) (gates : List And)
    → ((j : ℕ) (d : And) → j < length gates → IsTrueGate σ inputs (place + j) (get_or gates j d))
    → all_hold σ (gate_clauses inputs place gates) ≡ true
gates_from σ inputs place [] h = refl
gates_from σ inputs place (g ∷ gates) h =
    let m = edge_number inputs g.left in
    let n = edge_number inputs g.right in
    let here : place ≡ place + 0 = omega arith in
    list_all-append (holds σ) (conjunction (2 * (inputs + place + 1)) m n) (gate_clauses inputs (suc place) gates)
    ∙ and_from _ _
    (is_three σ (2 * (inputs + place + 1)) m n
    ∙ three_from _ _ _ (place_true σ inputs place ∙ ap (λ k. σ (suc (inputs + k))) here ∙ h zero g (omega arith)))
    (gates_from σ inputs (suc place) gates (λ j d below.
    let next : suc place + j ≡ place + suc j = omega arith in
    ap (λ k. σ (suc (inputs + k))) next ∙ h (suc j) d (omega (arith, below))))

-- from the clauses to the circuit's values

-- a list of values
pub listed : (ℕ → Bool) → ℕ → List Bool
listed f zero = []
listed f (suc n) = f zero ∷ listed (λ k. f (suc k)) n

pub listed_length : (f : ℕ → Bool) (n : ℕ) → length (listed f n) ≡ n
unfolding listed
listed_length f zero = refl
listed_length f (suc n) = ap suc (listed_length (λ k. f (suc k)) n)

pub listed_at : (f : ℕ → Bool) (n i : ℕ) → i < n → get_or (listed f n) i false ≡ f i
unfolding listed
listed_at f zero i below = absurd (omega arith)
listed_at f (suc n) zero below = refl
listed_at f (suc n) (suc i) below = listed_at (λ k. f (suc k)) n i (omega (arith, below))

node_wider : (n m k : ℕ) (node : Node) → m ≤ k → IsNode n m node → IsNode n k node
node_wider n m k Constant le h = tt
node_wider n m k (Input i) le h = h
node_wider n m k (Gate j) le h = let below : j < m = h in omega (arith, le, below)

any_gate : And
any_gate =
    record { left = record { node = Constant; negated = false }; right = record { node = Constant; negated = false } }

-- The gates' values that an assignment carries are the circuit's, where each gate is the conjunction of its edges.
module _ (σ : Assignment) (inputs values : List Bool) (gates : List And) (carries : Carries σ inputs values)
    (many : length values ≡ length gates) (are : AreGates (length inputs) gates)
    (true_gates : (j : ℕ) (d : And) → j < length gates → IsTrueGate σ (length inputs) j (get_or gates j d)) where
  gate_here : (j : ℕ) (d : And) → j < length gates → get_or values j false ≡ gate_value inputs values
      (get_or gates j d)
  gate_here j d below =
      let g = are.proper j d below in
      let low : j ≤ length values = omega (arith, many, below) in
      sym (carries.of_gates j (omega (arith, many, below))) ∙ true_gates j d below
      ∙ ap₂ (λ a b. a && b)
      (edge_true σ inputs values (get_or gates j d).left carries
      (node_wider (length inputs) j (length values) (get_or gates j d).left.node low g.left_stands))
      (edge_true σ inputs values (get_or gates j d).right carries
      (node_wider (length inputs) j (length values) (get_or gates j d).right.node low g.right_stands))

  passed : (j : ℕ) → j ≤ length gates → take j values ≡ gate_values inputs [] (take j gates)
  passed zero below = refl
  passed (suc j) below =
      let lower : j < length gates = omega (arith, below) in
      let next : j + 1 ≡ suc j = omega arith in
      ap (λ k. take k values) (sym next)
      ∙ pass_more (length inputs) inputs values values gates j any_gate lower (omega (arith, many, lower))
      (passed j (omega (arith, below))) (are.proper j any_gate lower)
      (sym (set-get_or values j false) ∙ ap (set values j) (gate_here j any_gate lower))
      ∙ ap (λ k. gate_values inputs [] (take k gates)) next

  pub value_is : (e : Edge) → IsEdge (record { inputs = length inputs; gates = gates }) e
      → value_of (record { inputs = length inputs; gates = gates }) inputs e ≡ edge_value inputs values e
  value_is e stands =
      sym (pass_end (record { inputs = length inputs; gates = gates }) inputs values (length gates) e refl
      (passed (length gates) (omega arith)) stands)

-- the circuit's own values

front_of : (inputs before : List Bool) (gates : List And) → (rest : List Bool)
    × (gate_values inputs before gates ≡ before ++ rest)
front_of inputs before [] = ([], sym (append-nil before))
front_of inputs before (g ∷ gates) =
    let r = front_of inputs (before ++ gate_value inputs before g ∷ []) gates in
    (gate_value inputs before g ∷ r.0, r.1 ∙ append_assoc before (gate_value inputs before g ∷ []) r.0)

parted : (inputs before : List Bool) (gates more : List And)
    → gate_values inputs before (gates ++ more) ≡ gate_values inputs (gate_values inputs before gates) more
parted inputs before [] more = refl
parted inputs before (g ∷ gates) more = parted inputs (before ++ gate_value inputs before g ∷ []) gates more

pub values_many : (inputs before : List Bool) (gates : List And)
    → length (gate_values inputs before gates) ≡ length before + length gates
values_many inputs before [] = omega arith
values_many inputs before (g ∷ gates) =
    let e = values_many inputs (before ++ gate_value inputs before g ∷ []) gates in
    let l = length-append before (gate_value inputs before g ∷ []) in
    omega (arith, e, l)

node_longer : (inputs values more : List Bool) (n : ℕ) (node : Node) → IsNode n (length values) node
    → node_value inputs (values ++ more) node ≡ node_value inputs values node
node_longer inputs values more n Constant h = refl
node_longer inputs values more n (Input i) h = refl
node_longer inputs values more n (Gate j) h = get_or_append_left values more false j h

-- each gate's value is the conjunction of its edges'
pub gate_at : (n : ℕ) (inputs : List Bool) (gates : List And) (j : ℕ) (d : And) → AreGates n gates → j < length gates
    → get_or (gate_values inputs [] gates) j false ≡ gate_value inputs (gate_values inputs [] gates) (get_or gates j d)
gate_at n inputs gates j d are below =
    let g = get_or gates j d in
    let before = gate_values inputs [] (take j gates) in
    let v = gate_value inputs before g in
    let rest = front_of inputs (before ++ v ∷ []) (drop (j + 1) gates) in
    let is_gate : IsGate n j g = are.proper j d below in
    let whole : gate_values inputs [] gates ≡ before ++ v ∷ rest.0 =
    ap (gate_values inputs [])
    (sym (take-append-drop j gates) ∙ ap (λ r. take j gates ++ r) (drop_more gates j d below))
    ∙ parted inputs [] (take j gates) (g ∷ drop (j + 1) gates) ∙ rest.1 ∙ append_assoc before (v ∷ []) rest.0 in
    let many : length before ≡ j = values_many inputs [] (take j gates)
    ∙ (let t : length (take j gates) ≡ j = length-take-le j gates (omega (arith, below)) in omega (arith, t)) in
    let left : edge_value inputs (before ++ v ∷ rest.0) g.left ≡ edge_value inputs before g.left =
    ap (signed g.left.negated)
    (node_longer inputs before (v ∷ rest.0) n g.left.node
    (subst (λ k. IsNode n k g.left.node) (sym many) is_gate.left_stands)) in
    let right : edge_value inputs (before ++ v ∷ rest.0) g.right ≡ edge_value inputs before g.right =
    ap (signed g.right.negated)
    (node_longer inputs before (v ∷ rest.0) n g.right.node
    (subst (λ k. IsNode n k g.right.node) (sym many) is_gate.right_stands)) in
    ap (λ vs. get_or vs j false) whole ∙ get_or_at before v rest.0 false j many
    ∙ sym (ap (λ vs. gate_value inputs vs g) whole ∙ ap₂ (λ a b. a && b) left right)

-- An assignment that carries the circuit's own values satisfies the gate clauses.
pub carried_gates : (σ : Assignment) (inputs : List Bool) (gates : List And) → AreGates (length inputs) gates
    → Carries σ inputs (gate_values inputs [] gates) → all_hold σ (gate_clauses (length inputs) 0 gates) ≡ true
carried_gates σ inputs gates are carries =
    gates_from σ (length inputs) 0 gates (λ j d below.
    let many : length (gate_values inputs [] gates) ≡ length gates = values_many inputs [] gates
    ∙ (let z : 0 + length gates ≡ length gates = omega arith in z) in
    let g = get_or gates j d in
    let is_gate : IsGate (length inputs) j g = are.proper j d below in
    let zeroth : 0 + j ≡ j = omega arith in
    let low : j ≤ length (gate_values inputs [] gates) = omega (arith, many, below) in
    ap (λ k. σ (suc (length inputs + k))) zeroth ∙ carries.of_gates j (omega (arith, many, below))
    ∙ gate_at (length inputs) inputs gates j d are below
    ∙ sym (ap₂ (λ a b. a && b)
    (edge_true σ inputs (gate_values inputs [] gates) g.left carries
    (node_wider (length inputs) j (length (gate_values inputs [] gates)) g.left.node low is_gate.left_stands))
    (edge_true σ inputs (gate_values inputs [] gates) g.right carries
    (node_wider (length inputs) j (length (gate_values inputs [] gates)) g.right.node low is_gate.right_stands))))
