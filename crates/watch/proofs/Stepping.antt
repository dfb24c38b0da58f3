-- From list to list.
use Rattle.std.proofs.Common.{◌≡◌, ℕ, ◌+◌, ◌*◌, ◌<◌, ◌≤◌, Bool, true, false, cond, List, [], get_or, length, min, Option, Some, None, is_some, refl, sym, ap, subst, ◌∙◌, ⊎_elim, arith, nat_lt}
use Rattle.std.specs.Prelude.{slice_get}
use Rattle.std.proofs.lemmas.Bool.{cases_lt, cond-false, cond-true, lt-ltb, le-ltb}
use Rattle.prefix.specs.declared.quant.Quant.{Quant}
use Rattle.prefix.specs.Literal.{Literal}
use Rattle.prefix.specs.Scopes.{Scope}
use Rattle.prefix.specs.Sides.{bad_of}
use Rattle.truth.specs.Matrix.{Values, same}
use Rattle.truth.specs.Truth.{assumed_value}
use Rattle.calculus.specs.Search.{is_bad_if}
use Rattle.rows.specs.Arena.{Arena}
use Rattle.watch.specs.declared.board.Family.{Family}
use Rattle.watch.specs.declared.board.Family.TheVariants.{First, Second}
use Rattle.watch.specs.Families.{base_of, turn_of}
use Rattle.watch.specs.Links.{IsLinked, first_of}
use Rattle.watch.specs.Pairs.{bad_by, watch_name}
use Rattle.watch.specs.State.{AreHeld, AreKept, CalmFrom, GoOn, HasLists, IsFront, KeepsRows, NoneWaits, progress}
use Rattle.watch.specs.Walks.{IsBadWatch, IsSifting, IsWalking}
use Rattle.watch.proofs.Keeping.{AreKept-more, AreKept-restless, AreKept-unwalked, front_length, has_good_longer}
use Rattle.watch.proofs.Walking.{sifting_begins, sifting_more}
use Rattle.std.proofs.lemmas.List.{get_or-take}
use Rattle.std.proofs.lemmas.Option.{get_or_from_slice_get, slice_get-get_or, slice_get_within}

-- whose turn it is
apart : (f : Family) → f ≡ Second → f ≡ First → ⊥
apart f e e' = absurd (let n : 3 ≡ 0 = ap base_of (sym e ∙ e') in omega arith)

pub turn_first : (ones twos : ℕ) → turn_of ones twos ≡ First → min ones twos ≡ ones
turn_first ones twos e =
    ⊎_elim
    (λ (low : twos < ones). absurd (apart (turn_of ones twos)
    (cond-true (nat_lt twos ones) Second First (lt-ltb twos ones low)) e))
    (λ (high : ones ≤ twos). let is : min ones twos ≡ ones = omega arith in is)
    (cases_lt twos ones)

pub turn_second : (ones twos : ℕ) → turn_of ones twos ≡ Second → min ones twos ≡ twos
turn_second ones twos e =
    ⊎_elim
    (λ (low : twos < ones). let is : min ones twos ≡ twos = omega arith in is)
    (λ (high : ones ≤ twos). absurd (apart (turn_of ones twos) e
    (cond-false (nat_lt twos ones) Second First (le-ltb twos ones high))))
    (cases_lt twos ones)

-- the literal that one on a trail makes bad is bad
pub made_bad_watch : (pivot : Quant) (values : Values) (l : Literal) (name : ℕ) → values l.variable ≡ Some l.positive
    → name ≡ watch_name (bad_by pivot l) → IsBadWatch pivot values name
made_bad_watch pivot values l name is named = record {
  literal = bad_by pivot l;
  named = named;
  bad = ap (λ o. is_bad_if pivot o (bad_by pivot l)) is ∙ turned l.positive (bad_of pivot);
}
  where
    turned : (p d : Bool) → same (same p (same p d)) d ≡ true
    turned true true = refl
    turned true false = refl
    turned false true = refl
    turned false false = refl

-- there is a list for it
pub watch_low : (pivot : Quant) (size : ℕ) (l : Literal) (name : ℕ) → HasLists size l
    → name ≡ watch_name (bad_by pivot l) → name < size
watch_low pivot size l name lists named =
    let b = same l.positive (bad_of pivot) in
    let small : cond b 2 0 ≤ 2 = bit_small b in
    let low : 4 * l.variable + 4 ≤ size = lists in
    let is : name ≡ 4 * l.variable + cond b 2 0 = named in
    omega arith
  where
    bit_small : (b : Bool) → cond b 2 0 ≤ 2
    bit_small true = omega arith
    bit_small false = omega arith

-- the same literal
abbrev or_literal : Option Literal → Literal → Literal
or_literal None l = l
or_literal (Some m) l = m

some_literal : (a b : Literal) → Some a ≡ Some b → a ≡ b
some_literal a b e = ap (λ o. or_literal o a) e

-- a list is walked from its front, or from the row that was reached
pub walk_begins : (pivot : Quant) (seen : List Literal) (ones twos : ℕ) (at at' : Option ℕ) (heads : List (Option ℕ))
    (arena : Arena) (l : Literal) (name : ℕ) → IsLinked pivot heads arena (base_of (turn_of ones twos))
    → (is_some at ≡ true → IsWalking pivot seen ones twos at arena)
    → slice_get seen (min ones twos) ≡ Some l → name ≡ watch_name (bad_by pivot l)
    → (is_some at ≡ true → at' ≡ at) → (at ≡ None → at' ≡ first_of heads name)
    → IsSifting pivot (assumed_value seen) (base_of (turn_of ones twos)) name at' arena
walk_begins pivot seen ones twos None at' heads arena l name linked walking here named reached none =
    sifting_begins pivot (assumed_value seen) (base_of (turn_of ones twos)) name heads at' arena linked (none refl)
walk_begins pivot seen ones twos (Some id) at' heads arena l name linked walking here named reached none =
    let w = walking refl in
    let e : w.literal ≡ l = some_literal w.literal l (sym w.here ∙ here) in
    rw (reached refl, named)
    (subst (λ (m : Literal). IsSifting pivot (assumed_value seen) (base_of (turn_of ones twos))
    (watch_name (bad_by pivot m)) (Some id) arena) e w.sifting)

-- what stands at a place of a front stands there
at_front : (s t : List Literal) (k : ℕ) (l : Literal) → IsFront s t → slice_get s k ≡ Some l → slice_get t k ≡ Some l
at_front s t k l front at =
    let low = slice_get_within s k l at in
    let longer : length s ≤ length t = front_length s t front in
    let here : get_or s k l ≡ l = get_or_from_slice_get s k l l at in
    let there : get_or t k l ≡ get_or s k l = sym (get_or-take (length s) t k l low)
    ∙ ap (λ (xs : List Literal). get_or xs k l) (sym front) in
    slice_get-get_or t k l (omega arith) ∙ ap (λ (m : Literal). Some m) (there ∙ here)

-- a walk goes on when more literals are known
pub walking_more : (pivot : Quant) (seen seen' : List Literal) (ones twos : ℕ) (at : Option ℕ) (arena : Arena)
    → IsFront seen seen' → IsWalking pivot seen ones twos at arena → IsWalking pivot seen' ones twos at arena
walking_more pivot seen seen' ones twos at arena front w = record {
  literal = w.literal;
  here = at_front seen seen' (min ones twos) w.literal front w.here;
  sifting = sifting_more pivot (assumed_value seen) (assumed_value seen') (base_of (turn_of ones twos))
      (watch_name (bad_by pivot w.literal)) at arena (λ row good. has_good_longer pivot seen seen' row front good)
      w.sifting;
}

-- while list after list is walked
pub record IsStepping (pivot : Quant) (scopes : List Scope) (literals : List Literal) (calm : List ℕ)
    (first second : List (Option ℕ)) (old : Arena) (first' second' : List (Option ℕ)) (new : Arena) (ones twos : ℕ)
    (at : Option ℕ) : Type 0 where
  pub placed : AreKept pivot scopes (progress literals calm ones twos) first' second' new
  pub walking : is_some at ≡ true → IsWalking pivot literals ones twos at new
  pub kept : KeepsRows pivot old new
  pub none : NoneWaits pivot new
  pub same_first : length first' ≡ length first
  pub same_second : length second' ≡ length second

-- what is held is held when more literals are known
pub held_more : (pivot : Quant) (scopes : List Scope) (seen seen' : List Literal) (calm calm' : List ℕ) (ones twos : ℕ)
    (at : Option ℕ) (first second : List (Option ℕ)) (arena : Arena) → IsFront seen seen' → CalmFrom calm calm'
    → length calm' ≡ length seen' → AreHeld pivot scopes (progress seen calm ones twos) at first second arena
    → AreHeld pivot scopes (progress seen' calm' ones twos) at first second arena
held_more pivot scopes seen seen' calm calm' ones twos at first second arena front from size held = record {
  kept = AreKept-more pivot scopes seen calm ones twos first second arena held.kept seen' calm' front from
      (omega (arith, size));
  walking = λ some. walking_more pivot seen seen' ones twos at arena front (held.walking some);
}

-- and nothing of it counts as walked
pub held_fresh : (pivot : Quant) (scopes : List Scope) (seen : List Literal) (calm : List ℕ) (ones twos : ℕ)
    (at : Option ℕ) (first second : List (Option ℕ)) (arena : Arena)
    → AreHeld pivot scopes (progress seen calm ones twos) at first second arena
    → AreKept pivot scopes (progress seen [] 0 0) first second arena
held_fresh pivot scopes seen calm ones twos at first second arena held =
    AreKept-unwalked pivot scopes seen [] ones twos first second arena
    (AreKept-restless pivot scopes seen calm ones twos first second arena held.kept)

-- the rows that wait were looked at
pub held_examined : (pivot : Quant) (scopes : List Scope) (seen : List Literal) (calm : List ℕ) (ones twos : ℕ)
    (at at' : Option ℕ) (first second first' second' : List (Option ℕ)) (old new : Arena)
    → GoOn pivot scopes seen first second old first' second' new
    → (is_some at' ≡ true → (at' ≡ at) × (new ≡ old))
    → AreHeld pivot scopes (progress seen calm ones twos) at first second old
    → AreHeld pivot scopes (progress seen calm ones twos) at' first' second' new
held_examined pivot scopes seen calm ones twos at at' first second first' second' old new goes same held = record {
  kept = goes calm ones twos held.kept;
  walking = λ some.
      let e = same some in
      rw (e.0, e.1) (held.walking (ap is_some (sym e.0) ∙ some));
}
