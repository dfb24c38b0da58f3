-- Tables of names and of assumed values.
use Rattle.std.proofs.Common.{◌≡◌, ℕ, suc, ◌+◌, ◌*◌, ◌<◌, ◌≤◌, subst, Bool, true, false, cond, List, [], ◌∷◌, ◌++◌, length, take, get_or, Option, Some, None, refl, sym, ap, ◌∙◌, arith, nat_eq}
use Rattle.std.specs.Prelude.{IfSome, unwrap_or}
use Rattle.std.specs.Option.{option_or}
use Rattle.std.proofs.lemmas.List.{take_more, length-take-le, map_more}
use Rattle.prefix.specs.Literal.{Literal}
use Rattle.truth.specs.Truth.{assumed_value}
use Rattle.aig.specs.Circuits.{IsEdge, edge_number}
use Rattle.aig.specs.Strategies.{IsStrategy}
use Rattle.aig.specs.declared.strategy.Output.{Output}
use Rattle.aig.specs.declared.strategy.Strategy.{Strategy}
use Rattle.aig.proofs.Values.{edge_node}
use Rattle.calculus.proofs.Lists.{contains_head, contains_tail}
use Rattle.certcheck.proofs.Bounds.{AreNamesBelow, names_below}
use Rattle.certcheck.proofs.Groups.{edge_small}
use Rattle.certcheck.specs.Check.{Named, named_inputs, named_output, named_outputs, names, number_in, greatest}
use Rattle.certcheck.specs.Tables.{IsSmall, IsTableOf, entry_of, named}

or_assoc : {A : Type 0} (a b c : Option A) → option_or (option_or a b) c ≡ option_or a (option_or b c)
or_assoc None b c = refl
or_assoc (Some x) b c = refl

or_none : {A : Type 0} (a : Option A) → a ≡ option_or a None
or_none None = refl
or_none (Some x) = refl

pub named_append : (ns ms : List Named) (w : ℕ) → named (ns ++ ms) w ≡ option_or (named ns w) (named ms w)
named_append [] ms w = refl
named_append (n ∷ ns) ms w = by (nat_eq n.variable w) (named_append ns ms w)
  where
    by : (b : Bool) → named (ns ++ ms) w ≡ option_or (named ns w) (named ms w)
        → cond b (Some n.number) (named (ns ++ ms) w) ≡ option_or (cond b (Some n.number) (named ns w)) (named ms w)
    by true e = refl
    by false e = e

inputs_push : (place : ℕ) (xs : List ℕ) (y : ℕ) → named_inputs place (xs ++ y ∷ []) ≡ named_inputs place xs
    ++ record { variable = y; number = 2 * suc (place + length xs) } ∷ []
inputs_push place [] y = let e : place ≡ place + 0 = omega arith in
    ap (λ p. record { variable = y; number = 2 * suc p } ∷ []) e
inputs_push place (x ∷ xs) y =
    let e : suc place + length xs ≡ place + suc (length xs) = omega arith in
    ap (λ r. record { variable = x; number = 2 * suc place } ∷ r) (inputs_push (suc place) xs y
    ∙ ap (λ p. named_inputs (suc place) xs ++ record { variable = y; number = 2 * suc p } ∷ []) e)

-- the entry of one more name
step : (old : Option ℕ) (old_entry : Option ℕ) (ns ms : List Named) (n : Named) (w : ℕ) (new : Option ℕ)
    → ms ≡ ns ++ n ∷ []
    → old ≡ option_or old_entry (named ns w) → new ≡ option_or old (cond (nat_eq n.variable w) (Some n.number) None)
    → new ≡ option_or old_entry (named ms w)
step old old_entry ns ms n w new is before now =
    now ∙ ap (λ o. option_or o (cond (nat_eq n.variable w) (Some n.number) None)) before
    ∙ or_assoc old_entry (named ns w) (cond (nat_eq n.variable w) (Some n.number) None)
    ∙ ap (option_or old_entry) (sym (ap (λ l. named l w) is ∙ named_append ns (n ∷ []) w))

-- one more input
pub inputs_more : (inputs : List ℕ) (i d : ℕ) → i < length inputs → named_inputs 0 (take (i + 1) inputs)
    ≡ named_inputs 0 (take i inputs) ++ record { variable = get_or inputs i d; number = 2 * (i + 1) } ∷ []
inputs_more inputs i d below =
    let many : length (take i inputs) ≡ i = length-take-le i inputs (omega (arith, below)) in
    let place : 2 * suc (0 + length (take i inputs)) ≡ 2 * (i + 1) = omega (arith, many) in
    ap (named_inputs 0) (take_more inputs i d below) ∙ inputs_push 0 (take i inputs) (get_or inputs i d)
    ∙ ap (λ p. named_inputs 0 (take i inputs) ++ record { variable = get_or inputs i d; number = p } ∷ []) place

pub input_step : (inputs : List ℕ) (i d x number : ℕ) (old_entry old new : Option ℕ) (w : ℕ) → i < length inputs
    → x ≡ get_or inputs i d → number ≡ 2 * (i + 1)
    → old ≡ option_or old_entry (named (named_inputs 0 (take i inputs)) w)
    → new ≡ option_or old (cond (nat_eq x w) (Some number) None)
    → new ≡ option_or old_entry (named (named_inputs 0 (take (i + 1) inputs)) w)
input_step inputs i d x number old_entry old new w below is at before now =
    step old old_entry (named_inputs 0 (take i inputs)) (named_inputs 0 (take (i + 1) inputs))
    (record { variable = x; number = number }) w new
    (inputs_more inputs i d below
    ∙ ap (λ y. named_inputs 0 (take i inputs) ++ record { variable = y; number = 2 * (i + 1) } ∷ []) (sym is)
    ∙ ap (λ p. named_inputs 0 (take i inputs) ++ record { variable = x; number = p } ∷ []) (sym at))
    before now

pub output_step : (n : ℕ) (outputs : List Output) (i : ℕ) (o : Output) (old_entry old new : Option ℕ) (w : ℕ)
    → i < length outputs → o ≡ get_or outputs i o
    → old ≡ option_or old_entry (named (named_outputs n (take i outputs)) w)
    → new ≡ option_or old (cond (nat_eq (named_output n o).variable w) (Some (named_output n o).number) None)
    → new ≡ option_or old_entry (named (named_outputs n (take (i + 1) outputs)) w)
output_step n outputs i o old_entry old new w below is before now =
    step old old_entry (named_outputs n (take i outputs)) (named_outputs n (take (i + 1) outputs))
    (named_output n o) w new
    (map_more (named_output n) outputs i o below
    ∙ ap (λ p. named_outputs n (take i outputs) ++ named_output n p ∷ []) (sym is))
    before now

assumed_push : (ls : List Literal) (l : Literal) (w : ℕ) → assumed_value (ls ++ l ∷ []) w ≡ option_or
    (assumed_value ls w) (cond (nat_eq l.variable w) (Some l.positive) None)
assumed_push [] l w = refl
assumed_push (k ∷ ls) l w = by (nat_eq k.variable w) (assumed_push ls l w)
  where
    by : (b : Bool) → assumed_value (ls ++ l ∷ []) w ≡ option_or (assumed_value ls w)
        (cond (nat_eq l.variable w) (Some l.positive) None)
        → cond b (Some k.positive) (assumed_value (ls ++ l ∷ []) w) ≡ option_or
        (cond b (Some k.positive) (assumed_value ls w)) (cond (nat_eq l.variable w) (Some l.positive) None)
    by true e = refl
    by false e = e

pub assumed_step : (assumptions : List Literal) (i : ℕ) (d l : Literal) (x : ℕ) (b : Bool) (old new : Option Bool)
    (w : ℕ) → i < length assumptions → l ≡ get_or assumptions i d
    → x ≡ l.variable → b ≡ l.positive → old ≡ assumed_value (take i assumptions) w
    → new ≡ option_or old (cond (nat_eq x w) (Some b) None)
    → new ≡ assumed_value (take (i + 1) assumptions) w
assumed_step assumptions i d l x b old new w below is var sign before now =
    now ∙ ap (λ o. option_or o (cond (nat_eq x w) (Some b) None)) before
    ∙ ap (λ y. option_or (assumed_value (take i assumptions) w) (cond (nat_eq y w) (Some b) None)) var
    ∙ ap (λ p. option_or (assumed_value (take i assumptions) w) (cond (nat_eq l.variable w) (Some p) None)) sign
    ∙ sym (ap (λ ls. assumed_value ls w)
    (take_more assumptions i d below ∙ ap (λ k. take i assumptions ++ k ∷ []) (sym is))
    ∙ assumed_push (take i assumptions) l w)

-- the literal of an output's edge is small
pub output_small : (s : Strategy) (outputs : List Output) (i m n : ℕ) (o : Output) → IsStrategy s
    → greatest s ≤ 1048576 → outputs ≡ s.outputs → i < length outputs
    → o ≡ get_or outputs i o → m ≡ s.aig.inputs → n ≡ edge_number m o.edge → n < 2097154
output_small s outputs i m n o is small same below at inputs number =
    let there : i < length s.outputs = subst (λ (l : List Output). i < length l) same below in
    let here : o ≡ get_or s.outputs i o = at ∙ ap (λ l. get_or l i o) same in
    let stands : IsEdge s.aig o.edge = subst (λ (p : Output). IsEdge s.aig p.edge) (sym here) (is.outputs i o there) in
    let low = edge_small s.aig.inputs (length s.aig.gates) o.edge (edge_node s.aig o.edge stands)
    (omega (arith, small)) in
    subst (λ k. k < 2097154) (sym (number ∙ ap (λ k. edge_number k o.edge) inputs)) low

-- the table of all names
pub whole_table : (s : Strategy) (t0 t1 t2 : List (Option ℕ)) (vars : List ℕ) (w : ℕ) → t0 ≡ [] → vars ≡ s.inputs
    → entry_of t1 w ≡ option_or (entry_of t0 w) (named (named_inputs 0 vars) w)
    → entry_of t2 w ≡ option_or (entry_of t1 w) (named (named_outputs s.aig.inputs s.outputs) w)
    → entry_of t2 w ≡ named (names s) w
whole_table s t0 t1 t2 vars w none same first second =
    second
    ∙ ap (λ o. option_or o (named (named_outputs s.aig.inputs s.outputs) w))
    (first ∙ ap (λ (t : List (Option ℕ)). option_or (entry_of t w) (named (named_inputs 0 vars) w)) none
    ∙ ap (λ v. named (named_inputs 0 v) w) same)
    ∙ sym (named_append (named_inputs 0 s.inputs) (named_outputs s.aig.inputs s.outputs) w)

-- the number of the first name of a variable, 0 where it has none
pub number_named : (ns : List Named) (x : ℕ) → unwrap_or (named ns x) 0 ≡ number_in ns x
number_named [] x = refl
number_named (n ∷ ns) x = by (nat_eq n.variable x) (number_named ns x)
  where
    by : (b : Bool) → unwrap_or (named ns x) 0 ≡ number_in ns x
        → unwrap_or (cond b (Some n.number) (named ns x)) 0 ≡ cond b n.number (number_in ns x)
    by true e = refl
    by false e = e

-- numbers below a bound are so in a table too
named_below : (m : ℕ) (ns : List Named) → AreNamesBelow m ns → (x : ℕ) → IfSome (named ns x) (λ n. n < 2 * m)
named_below m [] h x = tt
named_below m (n ∷ ns) h x =
    by (nat_eq n.variable x) (h n (contains_head n ns)) (named_below m ns (λ k i. h k (contains_tail n ns k i)) x)
  where
    by : (b : Bool) → n.number < 2 * m → IfSome (named ns x) (λ k. k < 2 * m)
        → IfSome (cond b (Some n.number) (named ns x)) (λ k. k < 2 * m)
    by true own rest = own
    by false own rest = rest

pub table_small : (s : Strategy) (table : List (Option ℕ)) → IsStrategy s → greatest s ≤ 1048576
    → IsTableOf table (names s) → IsSmall table
table_small s table is small h x =
    subst (λ (o : Option ℕ). IfSome o (λ n. n < 2097154)) (sym (h x))
    (named_below 1048577 (names s) (names_below 1048577 s is (omega (arith, small))) x)

pub entry_small : (o : Option ℕ) → IfSome o (λ n. n < 2097154) → unwrap_or o 0 < 2097154
entry_small None h = omega arith
entry_small (Some n) h = h
