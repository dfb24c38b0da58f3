-- What rules that don't refuse tell.
use Rattle.std.proofs.Common.{◌≡◌, ℤ, pos, negsuc, nat_abs, Bool, true, false, List, ◌∷◌, None, Some, refl, arith}
use Rattle.std.specs.Prelude.{◌==◌, nat_lt, if◌then◌else◌}
use Rattle.std.proofs.lemmas.Bool.{eqb-false, ltb-false, or_parts}
use Rattle.qcir_reader.specs.Rules.{Outcome, first_of, is_no_name, is_no_variable, max_name}
use Rattle.qcir_reader.specs.Reads.{IsName}

-- no rule of the list refuses
pub none_refuses : (test : Bool) (o : Outcome) (rules : List (Bool × Outcome)) → first_of ((test, o) ∷ rules) ≡ None
    → (test ≡ false) × (first_of rules ≡ None)
none_refuses true o rules h = cc
none_refuses false o rules h = (refl, h)

-- a number that is a name
pub is_name : (n : ℤ) → is_no_name n ≡ false → IsName (nat_abs n)
is_name n h =
    let parts : ((nat_abs n == 0) ≡ false) × (nat_lt max_name (nat_abs n) ≡ false) = or_parts (nat_abs n == 0)
    (nat_lt max_name (nat_abs n)) h in
    let some : nat_abs n ≡ 0 → ⊥ = eqb-false (nat_abs n) 0 parts.0 in
    (omega (arith, some), ltb-false max_name (nat_abs n) parts.1)

pub is_variable : (n : ℤ) → is_no_variable n ≡ false → IsName (nat_abs n) × (n ≡ pos (nat_abs n))
is_variable (pos n) h = (is_name (pos n) h, refl)
is_variable (negsuc n) h = cc

pub first_test : (test : Bool) (o : Outcome) (rules : List (Bool × Outcome)) → first_of ((test, o) ∷ rules) ≡ None
    → test ≡ false
first_test test o rules h = (none_refuses test o rules h).0

pub if_none : {A : Type 0} (t : Bool) (x : A) → (if t then None else Some x) ≡ None → t ≡ true
if_none true x h = refl
if_none false x h = cc

pub if_some : {A : Type 0} (t : Bool) (x y : A) → (if t then None else Some x) ≡ Some y → (t ≡ false) × (y ≡ x)
if_some true x y h = cc
if_some false x y h = (refl, cc)

-- rules in turn
pub first_refuses : (t : Bool) (o : Outcome) (rules : List (Bool × Outcome)) → t ≡ true
    → first_of ((t, o) ∷ rules) ≡ Some o
first_refuses true o rules h = refl
first_refuses false o rules h = cc

pub next_rule : (t : Bool) (o : Outcome) (rules : List (Bool × Outcome)) → t ≡ false
    → first_of ((t, o) ∷ rules) ≡ first_of rules
next_rule true o rules h = cc
next_rule false o rules h = refl
