-- Edges and gates at other places.
use Rattle.std.proofs.Common.{◌≡◌, ℕ, ◌+◌, ◌-◌, ◌*◌, ◌/◌, ◌%◌, ◌<◌, ◌≤◌, ◌==◌, Bool, true, false, cond, List, length, get_or, Some, None, refl, sym, ap, ap₂, ◌∙◌, arith}
use Rattle.std.specs.Prelude.{if◌then◌else◌, nat_lt}
use Rattle.std.proofs.lemmas.Bool.Decides.{Decides-ltb}
use Rattle.aig.specs.Circuits.{Circuit, IsEdge, IsGate, IsNode, IsOrdered, edge_number, gate_of, node_number, opposite, signed, value_of, zero}
use Rattle.aig.specs.declared.edge.And.{And}
use Rattle.aig.specs.declared.edge.Edge.{Edge}
use Rattle.aig.specs.declared.edge.Node.{Node}
use Rattle.aig.specs.declared.edge.Node.TheVariants.{Constant, Input, Gate}
use Rattle.aig.proofs.Values.{edge_node, node_wide}
use Rattle.trim.specs.Trimmed.{moved, moved_gate, moved_node}
use Rattle.trim.specs.Marks.{edge_of, gate_in, through}

-- the gate of a literal

half : (k : ℕ) (b : Bool) → (2 * k + cond b 1 0) / 2 ≡ k
half k true = omega arith
half k false = omega arith

odd : (k : ℕ) (b : Bool) → ((2 * k + cond b 1 0) % 2 == 1) ≡ b
odd k true = let r : (2 * k + 1) % 2 ≡ 1 = omega arith in rw r refl
odd k false = let r : (2 * k + 0) % 2 ≡ 0 = omega arith in rw r refl

pub odd_number : (n : ℕ) (e : Edge) (number : ℕ) → number ≡ edge_number n e → (number % 2 == 1) ≡ e.negated
odd_number n e number is = ap (λ (k : ℕ). k % 2 == 1) is ∙ odd (node_number n e.node) e.negated

no_gate : (n m : ℕ) (node : Node) → IsNode n m node → node_number n node ≤ n → None ≡ gate_in node
no_gate n m Constant h low = refl
no_gate n m (Input i) h low = refl
no_gate n m (Gate j) h low = absurd (omega arith)

the_gate : (n m : ℕ) (node : Node) → IsNode n m node → n < node_number n node
    → Some (node_number n node - n - 1) ≡ gate_in node
the_gate n m Constant h high = absurd (omega arith)
the_gate n m (Input i) h high = let below : i < n = h in absurd (omega arith)
the_gate n m (Gate j) h high = ap Some (let e : n + j + 1 - n - 1 ≡ j = omega arith in e)

node_low : (n m : ℕ) (node : Node) → IsNode n m node → node_number n node ≤ n + m
node_low n m Constant h = omega arith
node_low n m (Input i) h = let below : i < n = h in omega arith
node_low n m (Gate j) h = let below : j < m = h in omega arith

module _ (circuit : Circuit) (e : Edge) (inputs number : ℕ) (same : inputs ≡ circuit.inputs)
    (is : number ≡ edge_number circuit.inputs e) (stands : IsEdge circuit e) where
  variable : number / 2 ≡ node_number circuit.inputs e.node
  variable = ap (λ (k : ℕ). k / 2) is ∙ half (node_number circuit.inputs e.node) e.negated

  pub place_none : number / 2 ≤ inputs → None ≡ gate_in e.node
  place_none low =
      let v = variable in
      no_gate circuit.inputs (length circuit.gates) e.node (edge_node circuit e stands) (omega arith)

  pub place_some : inputs < number / 2 → Some (number / 2 - inputs - 1) ≡ gate_in e.node
  place_some high =
      let v = variable in
      ap₂ (λ (k n : ℕ). Some (k - n - 1)) v same
      ∙ the_gate circuit.inputs (length circuit.gates) e.node (edge_node circuit e stands) (omega arith)

  pub place_low : inputs < number / 2 → number / 2 - inputs - 1 < length circuit.gates
  place_low high =
      let v = variable in
      let low : node_number circuit.inputs e.node ≤ circuit.inputs + length circuit.gates =
      node_low circuit.inputs (length circuit.gates) e.node (edge_node circuit e stands) in
      omega arith

pub gate_below : (circuit : Circuit) (e : Edge) (j : ℕ) → IsEdge circuit e → Some j ≡ gate_in e.node
    → j < length circuit.gates
gate_below circuit e j stands is =
    by e.node (edge_node circuit e stands) is
  where
    by : (node : Node) → IsNode circuit.inputs (length circuit.gates) node → Some j ≡ gate_in node
        → j < length circuit.gates
    by Constant h s = absurd (cc)
    by (Input i) h s = absurd (cc)
    by (Gate k) h s = let same : j ≡ k = (cc) in let low : k < length circuit.gates = h in omega arith

-- an edge over the inputs and the first gates stands
pub edge_known : (circuit : Circuit) (k : ℕ) (e : Edge) → k ≤ length circuit.gates
    → IsNode circuit.inputs k e.node → IsEdge circuit e
unfolding IsEdge
edge_known circuit k e few h =
    node_wide circuit.inputs k circuit.inputs (length circuit.gates) e.node (omega arith) few h

pub node_known : (n i k : ℕ) (e f : Edge) → IsNode n i f.node → e ≡ f → k ≡ i → IsNode n k e.node
node_known n i k e f h same len = rw (same, len) h

-- what a table has

through_node : (place : ℕ → ℕ) (table : List Edge) (node : Node) (b : Bool)
    → ((j : ℕ) → node ≡ Gate j → get_or table j zero ≡ edge_of (place j))
    → through table (record { node = node; negated = b }) ≡ moved place (record { node = node; negated = b })
through_node place table Constant b h = refl
through_node place table (Input i) b h = refl
through_node place table (Gate j) true h = ap opposite (h j refl)
through_node place table (Gate j) false h = h j refl

pub through_moved : (place : ℕ → ℕ) (table : List Edge) (e : Edge)
    → ((j : ℕ) → e.node ≡ Gate j → get_or table j zero ≡ edge_of (place j)) → through table e ≡ moved place e
through_moved place table e h = through_node place table e.node e.negated h

-- where each gate has its own place, edges stay

node_stays : (place : ℕ → ℕ) (node : Node) → ((j : ℕ) → node ≡ Gate j → place j ≡ j) → moved_node place node ≡ node
node_stays place Constant h = refl
node_stays place (Input i) h = refl
node_stays place (Gate j) h = ap Gate (h j refl)

pub edge_stays : (place : ℕ → ℕ) (e : Edge) → ((j : ℕ) → e.node ≡ Gate j → place j ≡ j) → moved place e ≡ e
edge_stays place e h =
    ap (λ (n : Node). record { node = n; negated = e.negated }) (node_stays place e.node h)

-- values and standing

value_node : (old new : Circuit) (place : ℕ → ℕ) (inputs : List Bool) (node : Node) (b : Bool)
    → ((j : ℕ) → node ≡ Gate j → value_of new inputs (edge_of (place j)) ≡ value_of old inputs (edge_of j))
    → value_of new inputs (moved place (record { node = node; negated = b }))
    ≡ value_of old inputs (record { node = node; negated = b })
unfolding value_of
value_node old new place inputs Constant b h = refl
value_node old new place inputs (Input i) b h = refl
value_node old new place inputs (Gate j) b h = ap (signed b) (h j refl)

pub value_moved : (old new : Circuit) (place : ℕ → ℕ) (inputs : List Bool) (e : Edge)
    → ((j : ℕ) → e.node ≡ Gate j → value_of new inputs (edge_of (place j)) ≡ value_of old inputs (edge_of j))
    → value_of new inputs (moved place e) ≡ value_of old inputs e
value_moved old new place inputs e h = value_node old new place inputs e.node e.negated h

pub node_moved : (place : ℕ → ℕ) (n m k : ℕ) (node : Node) → IsNode n m node
    → ((j : ℕ) → node ≡ Gate j → place j < k) → IsNode n k (moved_node place node)
node_moved place n m k Constant h low = tt
node_moved place n m k (Input i) h low = h
node_moved place n m k (Gate j) h low = low j refl

pub edge_stands : (circuit : Circuit) (n m : ℕ) (e : Edge) → circuit.inputs ≡ n → m ≡ length circuit.gates
    → IsNode n m e.node → IsEdge circuit e
unfolding IsEdge
edge_stands circuit n m e inputs gates h = rw (inputs, ← gates) h

-- distinct nodes have distinct places

abbrev gate_number : Node → ℕ
gate_number Constant = 0
gate_number (Input i) = 0
gate_number (Gate j) = j

pub node_same : (place : ℕ → ℕ) (m n : Node)
    → ((j k : ℕ) → m ≡ Gate j → n ≡ Gate k → place j ≡ place k → j ≡ k)
    → moved_node place m ≡ moved_node place n → m ≡ n
node_same place Constant Constant h e = refl
node_same place Constant (Input i) h e = absurd (cc)
node_same place Constant (Gate j) h e = absurd (cc)
node_same place (Input i) Constant h e = absurd (cc)
node_same place (Input i) (Input j) h e = e
node_same place (Input i) (Gate j) h e = absurd (cc)
node_same place (Gate j) Constant h e = absurd (cc)
node_same place (Gate j) (Input i) h e = absurd (cc)
node_same place (Gate j) (Gate k) h e = ap Gate (h j k refl refl (ap gate_number e))

pub edge_same : (place : ℕ → ℕ) (a b : Edge)
    → ((j k : ℕ) → a.node ≡ Gate j → b.node ≡ Gate k → place j ≡ place k → j ≡ k)
    → moved place a ≡ moved place b → a ≡ b
edge_same place a b h e =
    ap₂ (λ (n : Node) (s : Bool). record { node = n; negated = s })
    (node_same place a.node b.node h (ap (λ (x : Edge). x.node) e)) (ap (λ (x : Edge). x.negated) e)

-- the order of a gate's edges

sign_low : (b : Bool) → cond b 1 0 ≤ 1
sign_low true = omega arith
sign_low false = omega arith

order_nodes : (n k r s : ℕ) (place : ℕ → ℕ) (a b : Node) → r ≤ 1 → s ≤ 1 → IsNode n k a → IsNode n k b
    → (b ≡ a → ⊥) → ((i j : ℕ) → a ≡ Gate i → b ≡ Gate j → i < j → place i < place j)
    → 2 * node_number n a + r < 2 * node_number n b + s
    → 2 * node_number n (moved_node place a) + r < 2 * node_number n (moved_node place b) + s
order_nodes n k r s place Constant Constant lr ls p q differ up h = h
order_nodes n k r s place Constant (Input i) lr ls p q differ up h = h
order_nodes n k r s place Constant (Gate j) lr ls p q differ up h = omega arith
order_nodes n k r s place (Input i) Constant lr ls p q differ up h = h
order_nodes n k r s place (Input i) (Input j) lr ls p q differ up h = h
order_nodes n k r s place (Input i) (Gate j) lr ls p q differ up h = let below : i < n = p in omega arith
order_nodes n k r s place (Gate i) Constant lr ls p q differ up h = absurd (omega arith)
order_nodes n k r s place (Gate i) (Input j) lr ls p q differ up h = let below : j < n = q in absurd (omega arith)
order_nodes n k r s place (Gate i) (Gate j) lr ls p q differ up h =
    let apart : i ≡ j → ⊥ = λ e. differ (ap Gate (sym e)) in
    let lower : i < j = lt_from i j (omega arith) apart in
    let higher : place i < place j = up i j refl refl lower in omega arith
  where
    lt_from : (x y : ℕ) → x ≤ y → (x ≡ y → ⊥) → x < y
    lt_from x y le ne = omega arith

pub moved_ordered : (n k : ℕ) (place : ℕ → ℕ) (g : And) → IsGate n k g → IsOrdered n g
    → ((i j : ℕ) → g.right.node ≡ Gate i → g.left.node ≡ Gate j → i < j → place i < place j)
    → IsOrdered n (moved_gate place g)
moved_ordered n k place g is ordered up =
    order_nodes n k (cond g.right.negated 1 0) (cond g.left.negated 1 0) place g.right.node g.left.node
    (sign_low g.right.negated) (sign_low g.left.negated) is.right_stands is.left_stands is.differ up ordered

pub gate_of_ordered : (n : ℕ) (g : And) → IsOrdered n g → gate_of n g.left g.right ≡ g
gate_of_ordered n g ordered = by (nat_lt (edge_number n g.left) (edge_number n g.right)) refl
  where
    by : (t : Bool) → nat_lt (edge_number n g.left) (edge_number n g.right) ≡ t
        → (if t then (record { left = g.right; right = g.left }) else (record { left = g.left; right = g.right })) ≡ g
    by true e =
        let lower : edge_number n g.left < edge_number n g.right =
        (Decides-ltb (edge_number n g.left) (edge_number n g.right)).0 e in absurd (omega arith)
    by false e = refl
