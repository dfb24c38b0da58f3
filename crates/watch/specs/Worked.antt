-- Worked values: typed pairs of literals, names of lists, marks, and a watch that is told of a cut.
use Rattle.std.specs.Prelude.{◌≡◌, ℕ, true, false, List, [], ◌∷◌, Some, None}
use Rattle.prefix.specs.declared.quant.Quant.TheVariants.{Exists, Forall}
use Rattle.prefix.specs.Literal.{Literal}
use Rattle.prefix.specs.Scopes.{Scope}
use Rattle.truth.specs.Matrix.{Values}
use Rattle.truth.specs.Truth.{assumed_value}
use Rattle.rows.specs.Arena.{Arena, with_link, with_row}
use Rattle.watch.specs.Links.{is_attached, owner}
use Rattle.watch.specs.Pairs.{IsTyped, bad_by, good_by, held_name, is_free_pivot, is_good_now, is_partner, watch_name}
use Rattle.watch.specs.State.{IsGuarded, WatchState, looked, undone_to}

-- a variable as a literal
abbrev pub plus : ℕ → Literal
plus x = record { variable = x; positive = true }

-- its negation
abbrev pub minus : ℕ → Literal
minus x = record { variable = x; positive = false }

-- a 1, e 2 3, a 4
abbrev pub three_scopes : List Scope
three_scopes =
    record { quantifier = Forall; variables = 1 ∷ [] }
    ∷ record { quantifier = Exists; variables = 2 ∷ 3 ∷ [] }
    ∷ record { quantifier = Forall; variables = 4 ∷ [] }
    ∷ []

-- nothing is assigned
abbrev pub nothing : Values
nothing = assumed_value []

-- 1 and -2 are assigned
abbrev pub one_not_two : Values
one_not_two = assumed_value (plus 1 ∷ minus 2 ∷ [])

-- of the first row a literal is good then, of the other one none
abbrev pub two_good : List Literal
two_good = minus 1 ∷ plus 2 ∷ minus 2 ∷ []

abbrev pub none_good : List Literal
none_good = minus 1 ∷ plus 3 ∷ []

-- a row that isn't attached, and one that the watch of cubes has in its list 6
abbrev pub two_rows : Arena
two_rows = with_link (with_link (with_row (with_row [] (plus 1 ∷ [])) (plus 2 ∷ [])) 1 0 (Some 6)) 1 6 (Some 1)

-- a watch that looked at three literals
abbrev pub looked_at_three : WatchState
looked_at_three = record {
  first = [];
  second = [];
  seen = plus 1 ∷ plus 2 ∷ plus 3 ∷ [];
  kept = 3;
  calm = [];
  ones = 3;
  twos = 3;
  at = None;
  room = 3;
}

pub record WorkedPairs : Type 0 where
  pub two_pivots : IsTyped Exists three_scopes (plus 2) (minus 3)
  pub earlier_joins : IsTyped Exists three_scopes (plus 2) (plus 1)
  pub later_joins_not : IsTyped Exists three_scopes (plus 2) (plus 4) → ⊥
  pub pivot_comes_first : IsTyped Exists three_scopes (plus 1) (plus 2) → ⊥
  pub different : IsTyped Exists three_scopes (plus 2) (plus 2) → ⊥
  pub pivot_of_cubes : IsTyped Forall three_scopes (plus 4) (plus 3)
  pub partner : is_partner Exists three_scopes nothing (plus 2) (plus 1) ≡ true
  pub no_partner_later : is_partner Exists three_scopes nothing (plus 2) (plus 4) ≡ false
  pub no_partner_itself : is_partner Exists three_scopes nothing (plus 2) (plus 2) ≡ false
  pub no_partner_bad : is_partner Exists three_scopes one_not_two (plus 3) (plus 2) ≡ false
  pub free : is_free_pivot Exists three_scopes one_not_two (plus 3) ≡ true
  pub bad_is_not_free : is_free_pivot Exists three_scopes one_not_two (plus 2) ≡ false
  pub other_type_is_not_free : is_free_pivot Exists three_scopes nothing (plus 1) ≡ false
  pub good : is_good_now Exists one_not_two (minus 2) ≡ true
  pub bad_is_not_good : is_good_now Exists one_not_two (plus 2) ≡ false
  pub open_is_not_good : is_good_now Exists one_not_two (plus 3) ≡ false
  pub good_of_cubes : is_good_now Forall one_not_two (plus 2) ≡ true
  pub guarded : IsGuarded Exists one_not_two one_not_two one_not_two two_good (minus 1) (plus 2)
  pub guarded_before : IsGuarded Exists nothing nothing one_not_two none_good (minus 1) (plus 2)
  pub open_guards_not : IsGuarded Exists one_not_two nothing one_not_two none_good (minus 1) (plus 3) → ⊥

pub record WorkedLists : Type 0 where
  pub made_bad : bad_by Exists (plus 1) ≡ minus 1
  pub made_good : good_by Exists (plus 1) ≡ plus 1
  pub made_bad_of_cubes : bad_by Forall (plus 1) ≡ plus 1
  pub name : watch_name (minus 1) ≡ 4
  pub name_of_held : held_name (plus 1) ≡ 7
  pub attached : is_attached Forall two_rows 1 ≡ true
  pub not_to_clauses : is_attached Exists two_rows 1 ≡ false
  pub not_attached : is_attached Forall two_rows 0 ≡ false
  pub list : owner Forall two_rows 0 1 ≡ Some 6
  pub no_list : owner Forall two_rows 0 0 ≡ None
  pub list_of_the_other_side : owner Exists two_rows 0 1 ≡ None
  pub cut : looked (undone_to 1 looked_at_three) ≡ plus 1 ∷ []
  pub cut_beyond : looked (undone_to 7 looked_at_three) ≡ looked looked_at_three
  pub cut_twice : looked (undone_to 2 (undone_to 1 looked_at_three)) ≡ plus 1 ∷ []
