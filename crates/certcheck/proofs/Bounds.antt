-- The literals of the check clauses are over its variables.
use Rattle.std.proofs.Common.{◌≡◌, ℕ, zero, suc, ◌+◌, ◌*◌, ◌<◌, ◌≤◌, ⊎_elim, Bool, true, false, cond, List, [], ◌∷◌, ◌++◌, length, map, get_or, Contains, Option, Some, None, sym, subst, arith, nat_eq}
use Rattle.std.proofs.lemmas.List.{length-map}
use Rattle.std.proofs.lemmas.List.Elements.{Contains-append_cases, All-contains}
use Rattle.prefix.specs.declared.quant.Quant.{Quant}
use Rattle.prefix.specs.declared.quant.Quant.TheVariants.{Exists, Forall}
use Rattle.prefix.specs.Literal.{Literal}
use Rattle.truth.specs.Truth.{assumed_value}
use Rattle.calculus.specs.Rows.{Row}
use Rattle.calculus.proofs.Lists.{contains_cons, contains_nil, contains_head, contains_tail, contains_map}
use Rattle.aig.specs.Circuits.{IsNode, IsEdge, IsGate, AreGates, edge_number, node_number}
use Rattle.aig.specs.Strategies.{IsStrategy}
use Rattle.aig.specs.declared.edge.Edge.{Edge}
use Rattle.aig.specs.declared.edge.Node.{Node}
use Rattle.aig.specs.declared.edge.Node.TheVariants.{Constant, Input, Gate}
use Rattle.aig.specs.declared.edge.And.{And}
use Rattle.aig.specs.declared.strategy.Output.{Output}
use Rattle.aig.specs.declared.strategy.Strategy.{Strategy}
use Rattle.aig.proofs.Values.{edge_node}
use Rattle.builder.specs.Rows.{flipped}
use Rattle.certcheck.specs.Check.{Named, named_inputs, named_outputs, named_output, names, number_in, number_of, number_when, numbered, given_of, given, given_outputs, units, conjunction, gate_clauses, falsified, satisfied, lost, lost_count, selectors, greatest, variable_count, check_clauses}
use Rattle.certcheck.proofs.Numbers.{flipped_below, when_below}

-- all literals are below twice this
abbrev pub AreBelow : ℕ → List (List ℕ) → Type 0
AreBelow m cs = (c : List ℕ) (n : ℕ) → Contains cs c → Contains c n → n < 2 * m

abbrev pub IsBelow : ℕ → List ℕ → Type 0
IsBelow m ns = (n : ℕ) → Contains ns n → n < 2 * m

below_nil : (m : ℕ) → IsBelow m []
below_nil m n i = absurd (contains_nil n i)

below_cons : (m k : ℕ) (ns : List ℕ) → k < 2 * m → IsBelow m ns → IsBelow m (k ∷ ns)
below_cons m k ns first rest n i = ⊎_elim (λ (e : k ≡ n). subst (λ x. x < 2 * m) e first) (λ j. rest n j)
    (contains_cons k ns n i)

below_more : (m : ℕ) (xs ys : List ℕ) → IsBelow m xs → IsBelow m ys → IsBelow m (xs ++ ys)
below_more m xs ys a b n i = ⊎_elim (λ j. a n j) (λ j. b n j) (Contains-append_cases xs ys n i)

are_nil : (m : ℕ) → AreBelow m []
are_nil m c n i j = absurd (contains_nil c i)

are_cons : (m : ℕ) (c : List ℕ) (cs : List (List ℕ)) → IsBelow m c → AreBelow m cs → AreBelow m (c ∷ cs)
are_cons m c cs first rest d n i j = ⊎_elim (λ e. first n (subst (λ x. Contains x n) (sym e) j)) (λ k. rest d n k j)
    (contains_cons c cs d i)

are_more : (m : ℕ) (xs ys : List (List ℕ)) → AreBelow m xs → AreBelow m ys → AreBelow m (xs ++ ys)
are_more m xs ys a b c n i j = ⊎_elim (λ k. a c n k j) (λ k. b c n k j) (Contains-append_cases xs ys c i)

units_below : (m : ℕ) (ns : List ℕ) → IsBelow m ns → AreBelow m (units ns)
units_below m [] h = are_nil m
units_below m (n ∷ ns) h = are_cons m (n ∷ []) (units ns)
    (below_cons m n [] (h n (contains_head n ns)) (below_nil m))
    (units_below m ns (λ k i. h k (contains_tail n ns k i)))

-- names
abbrev pub AreNamesBelow : ℕ → List Named → Type 0
AreNamesBelow m ns = (n : Named) → Contains ns n → n.number < 2 * m

pub inputs_below : (m place : ℕ) (xs : List ℕ) → place + length xs < m → AreNamesBelow m (named_inputs place xs)
inputs_below m place [] h n i = absurd (contains_nil n i)
inputs_below m place (x ∷ xs) h n i =
    ⊎_elim
    (λ (e : record { variable = x; number = 2 * suc place } ≡ n). subst (λ (k : Named). k.number < 2 * m) e
    (let low : 2 * suc place < 2 * m = omega (arith, h) in low))
    (λ j. inputs_below m (suc place) xs (omega (arith, h)) n j)
    (contains_cons (record { variable = x; number = 2 * suc place }) (named_inputs (suc place) xs) n i)

node_below : (inputs gates : ℕ) (node : Node) → IsNode inputs gates node → node_number inputs node < inputs + gates + 1
node_below inputs gates Constant h = omega arith
node_below inputs gates (Input i) h = let below : i < inputs = h in omega (arith, below)
node_below inputs gates (Gate j) h = let below : j < gates = h in omega (arith, below)

bit_below : (k m : ℕ) (b : Bool) → k < m → 2 * k + cond b 1 0 < 2 * m
bit_below k m true h = omega (arith, h)
bit_below k m false h = omega (arith, h)

edge_below : (inputs gates m : ℕ) (e : Edge) → IsNode inputs gates e.node → inputs + gates + 1 ≤ m
    → edge_number inputs e < 2 * m
edge_below inputs gates m e h le =
    let low = node_below inputs gates e.node h in
    bit_below (node_number inputs e.node) m e.negated (omega (arith, low, le))

pub outputs_below : (m : ℕ) (s : Strategy) → IsStrategy s → greatest s < m
    → AreNamesBelow m (named_outputs s.aig.inputs s.outputs)
outputs_below m s is h n i =
    let r = contains_map (named_output s.aig.inputs) s.outputs n i in
    subst (λ (k : Named). k.number < 2 * m) r.2
    (edge_below s.aig.inputs (length s.aig.gates) m r.0.edge
    (edge_node s.aig r.0.edge (All-contains (λ (o : Output). IsEdge s.aig o.edge) s.outputs r.0 is.outputs r.1))
    (omega (arith, h)))

pub given_below : (m : ℕ) (assumptions : List Literal) (ns : List Named) → AreNamesBelow m ns
    → IsBelow m (given assumptions ns)
given_below m assumptions [] h = below_nil m
given_below m assumptions (n ∷ ns) h =
    below_more m (given_of n.number (assumed_value assumptions n.variable)) (given assumptions ns)
    (of_below (assumed_value assumptions n.variable))
    (given_below m assumptions ns (λ k i. h k (contains_tail n ns k i)))
  where
    of_below : (o : Option Bool) → IsBelow m (given_of n.number o)
    of_below None = below_nil m
    of_below (Some b) = below_cons m (number_when b n.number) [] (when_below b n.number m (h n (contains_head n ns)))
        (below_nil m)

number_in_below : (m : ℕ) (ns : List Named) (x : ℕ) → 0 < m → AreNamesBelow m ns → number_in ns x < 2 * m
number_in_below m [] x some h = omega (arith, some)
number_in_below m (n ∷ ns) x some h =
    by (nat_eq n.variable x) (h n (contains_head n ns))
    (number_in_below m ns x some (λ k i. h k (contains_tail n ns k i)))
  where
    by : (b : Bool) → n.number < 2 * m → number_in ns x < 2 * m → cond b n.number (number_in ns x) < 2 * m
    by true own rest = own
    by false own rest = rest

numbered_below : (m : ℕ) (ns : List Named) (clauses : List Row) → 0 < m → AreNamesBelow m ns
    → AreBelow m (numbered ns clauses)
numbered_below m ns clauses some h c n i j =
    let r = contains_map (map (number_of ns)) clauses c i in
    let k = contains_map (number_of ns) r.0 n (subst (λ d. Contains d n) (sym r.2) j) in
    subst (λ x. x < 2 * m) k.2
    (when_below k.0.positive (number_in ns k.0.variable) m (number_in_below m ns k.0.variable some h))

-- gates
two_below : (m a b : ℕ) → a < 2 * m → b < 2 * m → IsBelow m (a ∷ b ∷ [])
two_below m a b p q = below_cons m a (b ∷ []) p (below_cons m b [] q (below_nil m))

three_below : (m a b c : ℕ) → a < 2 * m → b < 2 * m → c < 2 * m → IsBelow m (a ∷ b ∷ c ∷ [])
three_below m a b c p q r = below_cons m a (b ∷ c ∷ []) p (two_below m b c q r)

conjunction_below : (m l a b : ℕ) → l < 2 * m → a < 2 * m → b < 2 * m → AreBelow m (conjunction l a b)
conjunction_below m l a b own top bottom =
    are_cons m (flipped l ∷ a ∷ []) ((flipped l ∷ b ∷ []) ∷ (l ∷ flipped a ∷ flipped b ∷ []) ∷ [])
    (two_below m (flipped l) a (flipped_below l m own) top)
    (are_cons m (flipped l ∷ b ∷ []) ((l ∷ flipped a ∷ flipped b ∷ []) ∷ [])
    (two_below m (flipped l) b (flipped_below l m own) bottom)
    (are_cons m (l ∷ flipped a ∷ flipped b ∷ []) []
    (three_below m l (flipped a) (flipped b) own (flipped_below a m top) (flipped_below b m bottom)) (are_nil m)))

gates_below : (m inputs place : ℕ) (gates : List And) → inputs + place + length gates < m
    → ((j : ℕ) (d : And) → j < length gates → IsGate inputs (place + j) (get_or gates j d))
    → AreBelow m (gate_clauses inputs place gates)
gates_below m inputs place [] h are = are_nil m
gates_below m inputs place (g ∷ gates) h are =
    let gate = are zero g (omega arith) in
    let room : inputs + (place + 0) + 1 ≤ m = omega (arith, h) in
    let a = edge_number inputs g.left in
    let b = edge_number inputs g.right in
    let low : a < 2 * m = edge_below inputs (place + 0) m g.left gate.left_stands room in
    let low_b : b < 2 * m = edge_below inputs (place + 0) m g.right gate.right_stands room in
    let own : 2 * (inputs + place + 1) < 2 * m = omega (arith, h) in
    let l = 2 * (inputs + place + 1) in
    are_more m (conjunction l a b) (gate_clauses inputs (suc place) gates) (conjunction_below m l a b own low low_b)
    (gates_below m inputs (suc place) gates (omega (arith, h)) (λ j d below.
    let e : place + suc j ≡ suc place + j = omega arith in
    subst (λ p. IsGate inputs p (get_or gates j d)) e (are (suc j) d (omega (arith, below)))))

-- selectors
pair_below : (m s n : ℕ) → s < 2 * m → n < 2 * m → IsBelow m (flipped s ∷ flipped n ∷ [])
pair_below m s n a b = two_below m (flipped s) (flipped n) (flipped_below s m a) (flipped_below n m b)

falsified_below : (m first : ℕ) (cs : List (List ℕ)) → first + length cs ≤ m → AreBelow m cs
    → AreBelow m (falsified first cs)
falsified_below m first [] h are = are_nil m
falsified_below m first (c ∷ cs) h are =
    are_more m (map (λ n. flipped (2 * first) ∷ flipped n ∷ []) c) (falsified (suc first) cs)
    (λ d n i j.
    let r = contains_map (λ n. flipped (2 * first) ∷ flipped n ∷ []) c d i in
    let own : 2 * first < 2 * m = omega (arith, h) in
    pair_below m (2 * first) r.0 own (are c r.0 (contains_head c cs) r.1) n (subst (λ e. Contains e n) (sym r.2) j))
    (falsified_below m (suc first) cs (omega (arith, h)) (λ d n i j. are d n (contains_tail c cs d i) j))

satisfied_below : (m first : ℕ) (cs : List (List ℕ)) → first < m → AreBelow m cs → AreBelow m (satisfied first cs)
satisfied_below m first cs h are d n i j =
    let r = contains_map (λ c. flipped (2 * first) ∷ c) cs d i in
    let own : 2 * first < 2 * m = omega (arith, h) in
    below_cons m (flipped (2 * first)) r.0 (flipped_below (2 * first) m own) (λ k l. are r.0 k r.1 l) n
    (subst (λ e. Contains e n) (sym r.2) j)

lost_below : (winner : Quant) (m first : ℕ) (clauses : List Row) (cs : List (List ℕ)) → length cs ≡ length clauses
    → first + lost_count winner clauses ≤ m → AreBelow m cs
    → AreBelow m (lost winner first cs)
lost_below Exists m first clauses cs many h are = falsified_below m first cs (omega (arith, many, h)) are
lost_below Forall m first clauses cs many h are = satisfied_below m first cs (omega (arith, h)) are

selectors_below : (m first n : ℕ) → first + n ≤ m → IsBelow m (selectors first n)
selectors_below m first zero h = below_nil m
selectors_below m first (suc n) h = below_cons m (2 * first) (selectors (suc first) n) (omega (arith, h))
    (selectors_below m (suc first) n (omega (arith, h)))

pub names_below : (m : ℕ) (s : Strategy) → IsStrategy s → greatest s < m → AreNamesBelow m (names s)
names_below m s is h n i =
    ⊎_elim (λ j. inputs_below m 0 s.inputs (let e = is.inputs in omega (arith, h, e)) n j)
    (λ j. outputs_below m s is h n j)
    (Contains-append_cases (named_inputs 0 s.inputs) (named_outputs s.aig.inputs s.outputs) n i)

pub check_below : (clauses : List Row) (assumptions : List Literal) (s : Strategy) → IsStrategy s
    → AreGates s.aig.inputs s.aig.gates
    → AreBelow (variable_count clauses assumptions s + 1) (check_clauses clauses assumptions s)
check_below clauses assumptions s is gates =
    let m = variable_count clauses assumptions s + 1 in
    let low : greatest s < m = omega arith in
    let some : 0 < m = omega arith in
    let ns = given_outputs assumptions s in
    let first = greatest s + 1 in
    let second = greatest s + 1 + lost_count s.winner clauses in
    let e = selectors first (lost_count s.winner clauses) ++ selectors second (length ns) in
    let d = falsified second (units ns) in
    let c = lost s.winner first (numbered (names s) clauses) in
    let b = gate_clauses s.aig.inputs 0 s.aig.gates in
    let a = units (given assumptions (named_inputs 0 s.inputs)) in
    let inputs_many = is.inputs in
    let room : 0 + length s.inputs < m = omega (arith, low, inputs_many) in
    let of_a : AreBelow m a = units_below m (given assumptions (named_inputs 0 s.inputs))
    (given_below m assumptions (named_inputs 0 s.inputs) (inputs_below m 0 s.inputs room)) in
    let gates_room : s.aig.inputs + 0 + length s.aig.gates < m = omega (arith, low) in
    let of_b : AreBelow m b = gates_below m s.aig.inputs 0 s.aig.gates gates_room
    (λ j d below. let z : j ≡ 0 + j = omega arith in subst (λ p. IsGate s.aig.inputs p (get_or s.aig.gates j d)) z
    (gates.proper j d below)) in
    let many : length (numbered (names s) clauses) ≡ length clauses = length-map clauses (map (number_of (names s))) in
    let lost_room : first + lost_count s.winner clauses ≤ m = omega arith in
    let of_c : AreBelow m c = lost_below s.winner m first clauses (numbered (names s) clauses) many lost_room
    (numbered_below m (names s) clauses some (names_below m s is low)) in
    let units_many : length (units ns) ≡ length ns = length-map ns (λ n. n ∷ []) in
    let missed_room : second + length (units ns) ≤ m = omega (arith, units_many) in
    let of_d : AreBelow m d = falsified_below m second (units ns) missed_room
    (units_below m ns (given_below m assumptions (named_outputs s.aig.inputs s.outputs) (outputs_below m s is low))) in
    let last_room : second + length ns ≤ m = omega arith in
    let of_e : IsBelow m e = below_more m (selectors first (lost_count s.winner clauses))
    (selectors second (length ns))
    (selectors_below m first (lost_count s.winner clauses) lost_room)
    (selectors_below m second (length ns) last_room) in
    are_more m a (b ++ (c ++ (d ++ e ∷ []))) of_a
    (are_more m b (c ++ (d ++ e ∷ [])) of_b (are_more m c (d ++ e ∷ []) of_c
    (are_more m d (e ∷ []) of_d (are_cons m e [] of_e (are_nil m)))))
