-- One more clause of a group.
use Rattle.std.proofs.Common.{◌≡◌, ℕ, suc, ◌+◌, ◌*◌, ◌<◌, ◌≤◌, Bool, true, false, cond, List, [], ◌∷◌, ◌++◌, length, map, take, get_or, sym, ap, ap₂, subst, ◌∙◌, arith, append_assoc, append-nil}
use Rattle.std.specs.List.{All}
use Rattle.std.proofs.lemmas.List.Elements.{All-cons}
use Rattle.prefix.specs.declared.quant.Quant.{Quant}
use Rattle.prefix.specs.declared.quant.Quant.TheVariants.{Exists, Forall}
use Rattle.std.proofs.lemmas.List.{map_more, map-append, take_more, length-map, length-take-le}
use Rattle.aig.specs.Circuits.{edge_number, node_number, IsNode, IsGate}
use Rattle.aig.specs.declared.edge.Edge.{Edge}
use Rattle.aig.specs.declared.edge.Node.{Node}
use Rattle.aig.specs.declared.edge.Node.TheVariants.{Constant, Input, Gate}
use Rattle.aig.specs.declared.edge.And.{And}
use Rattle.prefix.specs.Literal.{Literal}
use Rattle.calculus.specs.Rows.{Row}
use Rattle.builder.specs.Rows.{flipped}
use Rattle.certcheck.specs.Building.{lost_clause, selectors_before}
use Rattle.certcheck.specs.Check.{Named, units, conjunction, gate_clauses, falsified, satisfied, lost, lost_count, numbered, number_of}
use Rattle.builder.specs.Building.{Adds}
use Rattle.builder.specs.Building.{Kept}
use Rattle.builder.proofs.Adding.{adds_more, adds_none, adds_same}

gate_push : (inputs place : ℕ) (gs : List And) (g : And)
    → gate_clauses inputs place (gs ++ g ∷ []) ≡ gate_clauses inputs place gs
    ++ conjunction (2 * (inputs + (place + length gs) + 1)) (edge_number inputs g.left) (edge_number inputs g.right)
gate_push inputs place [] g =
    let a = edge_number inputs g.left in
    let b = edge_number inputs g.right in
    let here : place ≡ place + 0 = omega arith in
    ap (λ p. conjunction (2 * (inputs + p + 1)) a b) here
gate_push inputs place (h ∷ gs) g =
    let a = edge_number inputs g.left in
    let b = edge_number inputs g.right in
    let first = conjunction (2 * (inputs + place + 1)) (edge_number inputs h.left) (edge_number inputs h.right) in
    let next : suc place + length gs ≡ place + suc (length gs) = omega arith in
    ap (λ r. first ++ r) (gate_push inputs (suc place) gs g)
    ∙ sym (append_assoc first (gate_clauses inputs (suc place) gs)
    (conjunction (2 * (inputs + (suc place + length gs) + 1)) a b))
    ∙ ap (λ p. (first ++ gate_clauses inputs (suc place) gs) ++ conjunction (2 * (inputs + p + 1)) a b) next

falsified_push : (first : ℕ) (ns : List ℕ) (n : ℕ) → falsified first (units (ns ++ n ∷ [])) ≡ falsified first
    (units ns)
    ++ (flipped (2 * (first + length ns)) ∷ flipped n ∷ []) ∷ []
falsified_push first [] n = let here : first ≡ first + 0 = omega arith in
    ap (λ p. (flipped (2 * p) ∷ flipped n ∷ []) ∷ []) here
falsified_push first (m ∷ ns) n =
    let next : suc first + length ns ≡ first + suc (length ns) = omega arith in
    ap (λ r. (flipped (2 * first) ∷ flipped m ∷ []) ∷ r) (falsified_push (suc first) ns n
    ∙ ap (λ p. falsified (suc first) (units ns) ++ (flipped (2 * p) ∷ flipped n ∷ []) ∷ []) next)

-- what one selector says of a clause
abbrev pub pairs_of : ℕ → List ℕ → List (List ℕ)
pairs_of s ns = map (λ n. flipped s ∷ flipped n ∷ []) ns

falsified_last : (first : ℕ) (cs : List (List ℕ)) (c : List ℕ)
    → falsified first (cs ++ c ∷ []) ≡ falsified first cs ++ pairs_of (2 * (first + length cs)) c
falsified_last first [] c =
    let here : first ≡ first + 0 = omega arith in
    append-nil (pairs_of (2 * first) c) ∙ ap (λ p. pairs_of (2 * p) c) here
falsified_last first (d ∷ cs) c =
    let next : suc first + length cs ≡ first + suc (length cs) = omega arith in
    ap (λ r. pairs_of (2 * first) d ++ r) (falsified_last (suc first) cs c)
    ∙ sym (append_assoc (pairs_of (2 * first) d) (falsified (suc first) cs) (pairs_of (2 * (suc first + length cs)) c))
    ∙ ap (λ p. falsified first (d ∷ cs) ++ pairs_of (2 * p) c) next

-- one more element behind two maps
pub maps_more : {X Y Z : Type 0} (f : Y → Z) (g : X → Y) (xs : List X) (i : ℕ) (d : X) → i < length xs
    → map f (map g (take (i + 1) xs)) ≡ map f (map g (take i xs)) ++ f (g (get_or xs i d)) ∷ []
maps_more f g xs i d below =
    ap (map f) (map_more g xs i d below) ∙ map-append f (map g (take i xs)) (g (get_or xs i d) ∷ [])

module _ (first mid last : Kept) where
  pub units_step : (ns : List ℕ) (i d n : ℕ) → i < length ns → n ≡ get_or ns i d → Adds first mid (units (take i ns))
      → Adds mid last ((n ∷ []) ∷ [])
      → Adds first last (units (take (i + 1) ns))
  units_step ns i d n below is before now =
      adds_same first last (units (take i ns) ++ (n ∷ []) ∷ []) (units (take (i + 1) ns))
      (sym (map_more (λ m. m ∷ []) ns i d below ∙ ap (λ m. units (take i ns) ++ (m ∷ []) ∷ []) (sym is)))
      (adds_more first mid last (units (take i ns)) ((n ∷ []) ∷ []) before now)

  pub missed_step : (from : ℕ) (ns : List ℕ) (i d n : ℕ) → i < length ns → n ≡ get_or ns i d
      → Adds first mid (falsified from (units (take i ns)))
      → Adds mid last ((flipped (2 * (from + i)) ∷ flipped n ∷ []) ∷ [])
      → Adds first last (falsified from (units (take (i + 1) ns)))
  missed_step from ns i d n below is before now =
      let many : length (take i ns) ≡ i = length-take-le i ns (omega (arith, below)) in
      adds_same first last (falsified from (units (take i ns)) ++ (flipped (2 * (from + i)) ∷ flipped n ∷ []) ∷ [])
      (falsified from (units (take (i + 1) ns)))
      (sym (ap (λ l. falsified from (units l)) (take_more ns i d below)
      ∙ falsified_push from (take i ns) (get_or ns i d)
      ∙ ap (λ k. falsified from (units (take i ns)) ++
      (flipped (2 * (from + k)) ∷ flipped (get_or ns i d) ∷ []) ∷ []) many
      ∙ ap (λ m. falsified from (units (take i ns)) ++ (flipped (2 * (from + i)) ∷ flipped m ∷ []) ∷ []) (sym is)))
      (adds_more first mid last (falsified from (units (take i ns)))
      ((flipped (2 * (from + i)) ∷ flipped n ∷ []) ∷ []) before now)

  pub gates_step : (inputs : ℕ) (gates : List And) (i : ℕ) (d : And) → i < length gates
      → Adds first mid (gate_clauses inputs 0 (take i gates))
      → Adds mid last
      (conjunction (2 * (inputs + i + 1)) (edge_number inputs (get_or gates i d).left)
      (edge_number inputs (get_or gates i d).right))
      → Adds first last (gate_clauses inputs 0 (take (i + 1) gates))
  gates_step inputs gates i d below before now =
      let g = get_or gates i d in
      let a = edge_number inputs g.left in
      let b = edge_number inputs g.right in
      let many : length (take i gates) ≡ i = length-take-le i gates (omega (arith, below)) in
      let place : 0 + length (take i gates) ≡ i = omega (arith, many) in
      adds_same first last (gate_clauses inputs 0 (take i gates) ++ conjunction (2 * (inputs + i + 1)) a b)
      (gate_clauses inputs 0 (take (i + 1) gates))
      (sym (ap (gate_clauses inputs 0) (take_more gates i d below) ∙ gate_push inputs 0 (take i gates) g
      ∙ ap (λ p. gate_clauses inputs 0 (take i gates) ++ conjunction (2 * (inputs + p + 1)) a b) place))
      (adds_more first mid last (gate_clauses inputs 0 (take i gates))
      (conjunction (2 * (inputs + i + 1)) a b) before now)

  pub pairs_step : (ns : List Named) (s : ℕ) (c : Row) (i : ℕ) (d l : Literal) (n : ℕ) → i < length c
      → l ≡ get_or c i d → n ≡ number_of ns l
      → Adds first mid (pairs_of s (map (number_of ns) (take i c)))
      → Adds mid last ((flipped s ∷ flipped n ∷ []) ∷ [])
      → Adds first last (pairs_of s (map (number_of ns) (take (i + 1) c)))
  pairs_step ns s c i d l n below is number before now =
      let f : ℕ → List ℕ = λ m. flipped s ∷ flipped m ∷ [] in
      adds_same first last (pairs_of s (map (number_of ns) (take i c)) ++ f n ∷ [])
      (pairs_of s (map (number_of ns) (take (i + 1) c)))
      (sym (maps_more f (number_of ns) c i d below
      ∙ ap (λ m. pairs_of s (map (number_of ns) (take i c)) ++ f m ∷ []) (sym (number ∙ ap (number_of ns) is))))
      (adds_more first mid last (pairs_of s (map (number_of ns) (take i c))) (f n ∷ []) before now)

  pub falsified_step : (ns : List Named) (from : ℕ) (cs : List Row) (i : ℕ) (d c : Row) → i < length cs
      → c ≡ get_or cs i d
      → Adds first mid (falsified from (numbered ns (take i cs)))
      → Adds mid last (pairs_of (2 * (from + i)) (map (number_of ns) c))
      → Adds first last (falsified from (numbered ns (take (i + 1) cs)))
  falsified_step ns from cs i d c below is before now =
      let xs = numbered ns (take i cs) in
      let x = map (number_of ns) c in
      let many : length xs ≡ i =
      length-map (take i cs) (map (number_of ns)) ∙ length-take-le i cs (omega (arith, below)) in
      adds_same first last (falsified from xs ++ pairs_of (2 * (from + i)) x)
      (falsified from (numbered ns (take (i + 1) cs)))
      (sym (ap (falsified from) (map_more (map (number_of ns)) cs i d below
      ∙ ap (λ y. xs ++ map (number_of ns) y ∷ []) (sym is)) ∙ falsified_last from xs x
      ∙ ap (λ k. falsified from xs ++ pairs_of (2 * (from + k)) x) many))
      (adds_more first mid last (falsified from xs) (pairs_of (2 * (from + i)) x) before now)

  pub satisfied_step : (ns : List Named) (from : ℕ) (cs : List Row) (i : ℕ) (d c : Row) → i < length cs
      → c ≡ get_or cs i d
      → Adds first mid (satisfied from (numbered ns (take i cs)))
      → Adds mid last ((flipped (2 * from) ∷ map (number_of ns) c) ∷ [])
      → Adds first last (satisfied from (numbered ns (take (i + 1) cs)))
  satisfied_step ns from cs i d c below is before now =
      let f : List ℕ → List ℕ = λ x. flipped (2 * from) ∷ x in
      let xs = satisfied from (numbered ns (take i cs)) in
      adds_same first last (xs ++ f (map (number_of ns) c) ∷ []) (satisfied from (numbered ns (take (i + 1) cs)))
      (sym (maps_more f (map (number_of ns)) cs i d below
      ∙ ap (λ y. xs ++ f (map (number_of ns) y) ∷ []) (sym is)))
      (adds_more first mid last xs (f (map (number_of ns) c) ∷ []) before now)

  -- the clause at a place, for both winners
  pub lost_step : (winner : Quant) (ns : List Named) (from : ℕ) (cs : List Row) (i : ℕ) (d c : Row) (s : ℕ)
      → i < length cs → c ≡ get_or cs i d → s ≡ 2 * (from + selectors_before winner i)
      → Adds first mid (lost winner from (numbered ns (take i cs)))
      → Adds mid last (lost_clause winner s (map (number_of ns) c))
      → Adds first last (lost winner from (numbered ns (take (i + 1) cs)))
  lost_step Exists ns from cs i d c s below is own before now =
      falsified_step ns from cs i d c below is before
      (subst (λ k. Adds mid last (pairs_of k (map (number_of ns) c))) own now)
  lost_step Forall ns from cs i d c s below is own before now =
      let one : s ≡ 2 * from = omega (arith, own) in
      satisfied_step ns from cs i d c below is before
      (subst (λ k. Adds mid last ((flipped k ∷ map (number_of ns) c) ∷ [])) one now)

pub lost_none : (build : Kept) (winner : Quant) (first : ℕ) → Adds build build (lost winner first [])
lost_none build Exists first = adds_none build
lost_none build Forall first = adds_none build

-- the selector of a clause is small
pub place_small : (winner : Quant) (first : ℕ) (cs : List Row) (i : ℕ) → i < length cs
    → first + lost_count winner cs ≤ 1048577 → first + selectors_before winner i ≤ 1048576
place_small Exists first cs i below few = omega (arith, below, few)
place_small Forall first cs i below few = omega (arith, few)

-- literals of short clauses
abbrev IsLow : ℕ → Type 0
IsLow n = n < 2097154

pub all_one : (a : ℕ) → IsLow a → All IsLow (a ∷ [])
all_one a p = All-cons IsLow a [] p (λ k d below. absurd (omega (arith, below)))

pub all_two : (a b : ℕ) → IsLow a → IsLow b → All IsLow (a ∷ b ∷ [])
all_two a b p q = All-cons IsLow a (b ∷ []) p (all_one b q)

pub all_three : (a b c : ℕ) → IsLow a → IsLow b → IsLow c → All IsLow (a ∷ b ∷ c ∷ [])
all_three a b c p q r = All-cons IsLow a (b ∷ c ∷ []) p (all_two b c q r)

-- some gate, for a place past the end
pub any_gate : And
any_gate =
    record { left = record { node = Constant; negated = false }; right = record { node = Constant; negated = false } }

pub two_as : (first last : Kept) (x y z w : ℕ) → x ≡ z → y ≡ w → Adds first last ((x ∷ y ∷ []) ∷ [])
    → Adds first last ((z ∷ w ∷ []) ∷ [])
two_as first last x y z w e f a = adds_same first last ((x ∷ y ∷ []) ∷ []) ((z ∷ w ∷ []) ∷ [])
    (ap₂ (λ p q. (p ∷ q ∷ []) ∷ []) e f) a

-- three clauses of a conjunction
pub conjunction_step : (first mid late last : Kept) (l a b f g h k : ℕ) → f ≡ flipped l → g ≡ flipped l
    → h ≡ flipped a → k ≡ flipped b
    → Adds first mid ((f ∷ a ∷ []) ∷ []) → Adds mid late ((g ∷ b ∷ []) ∷ []) → Adds late last ((l ∷ h ∷ k ∷ []) ∷ [])
    → Adds first last (conjunction l a b)
conjunction_step first mid late last l a b f g h k e1 e2 e3 e4 p q r =
    adds_same first last ((f ∷ a ∷ []) ∷ (g ∷ b ∷ []) ∷ (l ∷ h ∷ k ∷ []) ∷ []) (conjunction l a b)
    (ap₂ (λ x y. (x ∷ a ∷ []) ∷ (y ∷ b ∷ []) ∷ (l ∷ h ∷ k ∷ []) ∷ []) e1 e2
    ∙ ap₂ (λ x y. (flipped l ∷ a ∷ []) ∷ (flipped l ∷ b ∷ []) ∷ (l ∷ x ∷ y ∷ []) ∷ []) e3 e4)
    (adds_more first mid last ((f ∷ a ∷ []) ∷ []) ((g ∷ b ∷ []) ∷ (l ∷ h ∷ k ∷ []) ∷ []) p
    (adds_more mid late last ((g ∷ b ∷ []) ∷ []) ((l ∷ h ∷ k ∷ []) ∷ []) q r))

-- the literal of an edge of a gate is small
node_small : (inputs place : ℕ) (node : Node) → IsNode inputs place node → node_number inputs node < inputs + place + 1
node_small inputs place Constant h = omega arith
node_small inputs place (Input i) h = let below : i < inputs = h in omega (arith, below)
node_small inputs place (Gate j) h = let below : j < place = h in omega (arith, below)

bit_small : (k m : ℕ) (b : Bool) → k < m → 2 * k + cond b 1 0 < 2 * m
bit_small k m true h = omega (arith, h)
bit_small k m false h = omega (arith, h)

pub edge_small : (inputs place : ℕ) (e : Edge) → IsNode inputs place e.node → inputs + place + 1 ≤ 1048577
    → edge_number inputs e < 2097154
edge_small inputs place e h room =
    let low = bit_small (node_number inputs e.node) (inputs + place + 1) e.negated
    (node_small inputs place e.node h) in
    omega (arith, low, room)

pub left_small : (inputs place : ℕ) (gates : List And) (l : Edge) (m n : ℕ)
    → IsGate inputs place (get_or gates place any_gate) → place < length gates
    → inputs + length gates ≤ 1048576 → l ≡ (get_or gates place any_gate).left → m ≡ inputs → n ≡ edge_number m l
    → n < 2097154
left_small inputs place gates l m n is below small e f number =
    let low = edge_small inputs place (get_or gates place any_gate).left is.left_stands
    (omega (arith, below, small)) in
    subst (λ k. k < 2097154) (sym (number ∙ ap (λ k. edge_number k l) f ∙ ap (edge_number inputs) e)) low

pub right_small : (inputs place : ℕ) (gates : List And) (l : Edge) (m n : ℕ)
    → IsGate inputs place (get_or gates place any_gate) → place < length gates
    → inputs + length gates ≤ 1048576 → l ≡ (get_or gates place any_gate).right → m ≡ inputs → n ≡ edge_number m l
    → n < 2097154
right_small inputs place gates l m n is below small e f number =
    let low = edge_small inputs place (get_or gates place any_gate).right is.right_stands
    (omega (arith, below, small)) in
    subst (λ k. k < 2097154) (sym (number ∙ ap (λ k. edge_number k l) f ∙ ap (edge_number inputs) e)) low
