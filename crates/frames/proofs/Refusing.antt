-- Which refusal of a clause comes.
use Rattle.std.proofs.Common.{◌≡◌, ℕ, ◌+◌, ◌≤◌, ℤ, nat_abs, Bool, true, false, not, ◌&&◌, ◌||◌, List, [], ◌∷◌, length, map, refl, ap, sym, ◌∙◌, arith}
use Rattle.std.specs.Prelude.{◌==◌, eqb, if◌then◌else◌, nat_lt, nat_le, Option, Some, None, Result, Ok, Err, MatchOption, is_some, IsOkUnless}
use Rattle.std.specs.Option.{option_eq}
use Rattle.std.proofs.lemmas.Bool.{eqb-true}
use Rattle.std.proofs.lemmas.Bool.Decides.{nat_tests}
use Rattle.std.proofs.lemmas.List.{length-map}
use Rattle.prefix.specs.Scopes.{Scope, level_of}
use Rattle.prefix.specs.Refusals.{variable_refusal}
use Rattle.prefix.specs.declared.refusal.PrefixRefusal.{PrefixRefusal}
use Rattle.prefix.specs.declared.refusal.PrefixRefusal.TheVariants.{VarTwice, VarRange, ScopeRange}
use Rattle.clauses.specs.Clause.{ascending, variables_of}
use Rattle.frames.specs.Commands.{exceeds}
use Rattle.truth.specs.Limits.{max_clauses, max_literals}
use Rattle.frames.specs.declared.frames.Start.{Start}
use Rattle.frames.specs.declared.refusal.FrameRefusal.{FrameRefusal}
use Rattle.frames.specs.declared.refusal.FrameRefusal.TheVariants.{UnknownVar, Limit, NoMemory}
use Rattle.clauses.proofs.Ascending.{ascending_short}

-- what refuses a clause, from the three tests
abbrev pub tested : Bool → Bool → Bool → Option FrameRefusal
tested known tautology beyond = if not known then Some UnknownVar else if not tautology && beyond then Some Limit
    else None

abbrev pub Answers : Option FrameRefusal → Result (Unit {0}) FrameRefusal → Type 0
Answers refusal r = MatchOption refusal (IsOkUnless r NoMemory) (λ e. r ≡ Err e)

pub without_row : (known tautology beyond : Bool) (r : FrameRefusal) → known ≡ true → r
    ≡ (if not tautology && beyond then Limit else NoMemory) → Answers (tested known tautology beyond) (Err r)
without_row false tautology beyond r k e = absurd (cc)
without_row true true beyond r k e = e
without_row true false true r k e = ap Err e
without_row true false false r k e = e

pub put_answers : (known tautology beyond : Bool) (r : Result (Unit {0}) FrameRefusal) → known ≡ true → tautology
    ≡ false → (beyond ≡ true → r ≡ Err Limit) → (beyond ≡ false → IsOkUnless r NoMemory)
    → Answers (tested known tautology beyond) r
put_answers false tautology beyond r k t h g = absurd (cc)
put_answers true true beyond r k t h g = absurd (cc)
put_answers true false true r k t h g = h refl
put_answers true false false r k t h g = g refl

pub unmade : {X : Type 0} (t : Bool) (x r : X) → Some r ≡ (if t then None else Some x) → (t ≡ false) × (r ≡ x)
unmade true x r e = absurd (cc)
unmade false x r e = (refl, (let f : Some r ≡ Some x = e in cc))

pub is_one : (o : Option ℕ) → not (option_eq eqb o (Some 1)) ≡ false → o ≡ Some 1
is_one None e = absurd (let f : true ≡ false = e in cc)
is_one (Some n) e = by (n == 1) refl e
  where
    by : (b : Bool) → (n == 1) ≡ b → not b ≡ false → Some n ≡ Some 1
    by true f g = ap Some (eqb-true n 1 f)
    by false f g = absurd (let h : true ≡ false = g in cc)

-- a clause has at most as many variables as literals
pub variables_length : (clause : List ℤ) → length (variables_of clause) ≤ length clause
variables_length clause =
    let few : length (ascending (map nat_abs clause)) ≤ length (map nat_abs clause) =
    ascending_short (map nat_abs clause) in
    let same : length (map nat_abs clause) ≡ length clause = length-map clause nat_abs in
    omega (arith, few, same)

less_within : (m n a b : ℕ) → a ≤ b → nat_lt m (n + b) ≡ false → nat_lt m (n + a) ≡ false
less_within m n a b less e = grind (arith, nat_tests, less, e)

-- where a row of more literals goes beyond no limit, one of fewer doesn't
fewer_within : (clauses literals a b : ℕ) → a ≤ b → exceeds clauses literals b ≡ false
    → exceeds clauses literals a ≡ false
fewer_within clauses literals a b less e = by (nat_le max_clauses clauses) e
  where
    by : (full : Bool) → (full || nat_lt max_literals (literals + b)) ≡ false
        → (full || nat_lt max_literals (literals + a)) ≡ false
    by true f = f
    by false f = less_within max_literals literals a b less f

unless_beyond : (tautology beyond : Bool) → beyond ≡ false → NoMemory
    ≡ (if not tautology && beyond then Limit else NoMemory)
unless_beyond tautology true e = absurd (let f : true ≡ false = e in cc)
unless_beyond true false e = refl
unless_beyond false false e = refl

-- a clause that goes beyond no limit with all its literals is refused for want of memory
pub within_all : (clauses literals : ℕ) (clause : List ℤ) (tautology : Bool)
    → exceeds clauses literals (length clause) ≡ false
    → NoMemory
    ≡ (if not tautology && exceeds clauses literals (length (variables_of clause)) then Limit else NoMemory)
within_all clauses literals clause tautology e =
    unless_beyond tautology (exceeds clauses literals (length (variables_of clause)))
    (fewer_within clauses literals (length (variables_of clause)) (length clause) (variables_length clause) e)

-- what is known of a variable that the prefix takes

no_refusal : (o : Option PrefixRefusal) (r : Result ℕ PrefixRefusal) (v var : ℕ) → r ≡ Ok v
    → MatchOption o (r ≡ Ok var) (λ e. r ≡ Err e) → (o ≡ None) × (v ≡ var)
no_refusal None r v var is m = (refl, (let f : Ok v ≡ Ok var = sym is ∙ m in cc))
no_refusal (Some e) r v var is m = absurd (let f : Ok v ≡ Err e = sym is ∙ m in cc)

pub variable_is : (scopes : List Scope) (var scope : ℕ) (r : Result ℕ PrefixRefusal) (v : ℕ) → r ≡ Ok v
    → MatchOption (variable_refusal scopes var scope) (r ≡ Ok var) (λ e. r ≡ Err e) → v ≡ var
variable_is scopes var scope r v is m = (no_refusal (variable_refusal scopes var scope) r v var is m).1

pub variable_free : (scopes : List Scope) (var scope : ℕ) (r : Result ℕ PrefixRefusal) (v : ℕ) → r ≡ Ok v
    → MatchOption (variable_refusal scopes var scope) (r ≡ Ok var) (λ e. r ≡ Err e) → is_some (level_of scopes var)
    ≡ false
variable_free scopes var scope r v is m =
    by (var == 0 || nat_lt 1048576 var) (is_some (level_of scopes var)) (scope == 0 || nat_lt (length scopes) scope)
    (no_refusal (variable_refusal scopes var scope) r v var is m).0
  where
    by : (out there : Bool) (place : Bool) → (if out then Some VarRange else if there then Some VarTwice else if place
        then Some ScopeRange else None) ≡ None → there ≡ false
    by true there place e = absurd (let f : Some VarRange ≡ None = e in cc)
    by false true place e = absurd (let f : Some VarTwice ≡ None = e in cc)
    by false false place e = refl

-- the number of a group is in range, or it isn't

pub in_range : (b : Bool) (group number : ℕ) → Some number ≡ (if b then Some group else None)
    → (b ≡ true) × (number ≡ group)
in_range true group number e = (refl, (let f : Some number ≡ Some group = e in cc))
in_range false group number e = absurd (let f : Some number ≡ None = e in cc)

pub out_of_range : (b : Bool) (group : ℕ) (o : Option ℕ) → ((x : ℕ) → o ≡ Some x → ⊥)
    → o ≡ (if b then Some group else None) → b ≡ false
out_of_range true group o none e = absurd (none group e)
out_of_range false group o none e = refl

-- no frame is pushed

pub none_pushed : (starts : List Start) → (length starts == 0) ≡ true → starts ≡ []
none_pushed [] e = refl
none_pushed (s ∷ ss) e =
    let zero_is : length (s ∷ ss) ≡ 0 = eqb-true (length (s ∷ ss)) 0 e in
    absurd (omega (arith, zero_is))
