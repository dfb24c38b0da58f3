-- Worked values: what commands on groups come to.
use Rattle.std.specs.Prelude.{◌≡◌, pos, negsuc, true, false, List, [], ◌∷◌, ◌++◌, length, Some, None}
use Rattle.frames.specs.declared.refusal.FrameRefusal.TheVariants.{GroupFrame, GroupOpen, GroupRange, Limit, NoGroup}
use Rattle.frames.specs.Commands.{Activate, AddClause, CloseGroup, Command, Deactivate, OpenGroup, Pop, Push, refusal_of}
use Rattle.frames.specs.Fold.{state_of}
use Rattle.frames.specs.Groups.{Group, active_in, clauses_at, group_at, grouped_in, inactive_in, is_active, is_group, may_number, with_clause_at, with_group, with_mark}
use Rattle.frames.specs.State.{OpenFormula, all_clauses, clauses_in, open_clauses}
use Rattle.frames.specs.Worked.{minus, plus, refused_after, solved, two_scopes}

-- the clause 2, then group 7 with the clause 1 and a tautology, group 3 with the clause -1, and group 7 once more with
-- the clause 1 2
abbrev pub grouped : List Command
grouped = two_scopes
    ++ AddClause (pos 2 ∷ [])
    ∷ OpenGroup 7
    ∷ AddClause (pos 1 ∷ [])
    ∷ AddClause (pos 1 ∷ negsuc 0 ∷ [])
    ∷ CloseGroup
    ∷ OpenGroup 3
    ∷ AddClause (negsuc 0 ∷ [])
    ∷ CloseGroup
    ∷ OpenGroup 7
    ∷ AddClause (pos 1 ∷ pos 2 ∷ [])
    ∷ []

-- then group 7 inactive, and a pushed frame with the clause -2
abbrev pub parted : List Command
parted = grouped ++ CloseGroup ∷ Deactivate 7 ∷ Push ∷ AddClause (negsuc 1 ∷ []) ∷ []

-- two groups, of which the second is inactive
abbrev pub three : Group
three = record { number = 3; active = true; clauses = (minus 1 ∷ []) ∷ [] }

abbrev pub seven : Group
seven = record { number = 7; active = false; clauses = (plus 1 ∷ []) ∷ (plus 1 ∷ plus 2 ∷ []) ∷ [] }

abbrev pub two_groups : List Group
two_groups = three ∷ seven ∷ []

abbrev pub formula_of : List Command → OpenFormula
formula_of commands = (state_of commands).formula

pub record WorkedGroups : Type 0 where
  -- groups by number, and not as they came; a tautology stands in none
  pub groups : (formula_of grouped).groups ≡ three ∷ record seven { active = true } ∷ []
  pub current : (formula_of grouped).current ≡ Some 7
  pub others : clauses_in (formula_of grouped).frames ≡ (plus 2 ∷ []) ∷ []
  -- which clauses are open: those of frames before those of groups, and those of active groups alone
  pub all_open : open_clauses (formula_of grouped)
      ≡ (plus 2 ∷ []) ∷ (minus 1 ∷ []) ∷ (plus 1 ∷ []) ∷ (plus 1 ∷ plus 2 ∷ []) ∷ []
  pub turned_inactive : (formula_of parted).groups ≡ two_groups
  pub none_current : (formula_of parted).current ≡ None
  pub part_open : open_clauses (formula_of parted) ≡ (plus 2 ∷ []) ∷ (minus 2 ∷ []) ∷ (minus 1 ∷ []) ∷ []
  pub all : all_clauses (formula_of parted)
      ≡ (plus 2 ∷ []) ∷ (minus 2 ∷ []) ∷ (minus 1 ∷ []) ∷ (plus 1 ∷ []) ∷ (plus 1 ∷ plus 2 ∷ []) ∷ []
  -- a group is made active over a pushed frame, and a pop leaves groups as they are
  pub again : open_clauses (formula_of (parted ++ Activate 7 ∷ Pop ∷ []))
      ≡ (plus 2 ∷ []) ∷ (minus 1 ∷ []) ∷ (plus 1 ∷ []) ∷ (plus 1 ∷ plus 2 ∷ []) ∷ []
  pub left : (formula_of (parted ++ Pop ∷ [])).groups ≡ two_groups
  -- the words on lists of groups
  pub of_active : active_in two_groups ≡ (minus 1 ∷ []) ∷ []
  pub of_inactive : inactive_in two_groups ≡ (plus 1 ∷ []) ∷ (plus 1 ∷ plus 2 ∷ []) ∷ []
  pub of_all : grouped_in two_groups ≡ (minus 1 ∷ []) ∷ (plus 1 ∷ []) ∷ (plus 1 ∷ plus 2 ∷ []) ∷ []
  pub second : group_at two_groups 7 ≡ Some seven
  pub no_third : group_at two_groups 5 ≡ None
  pub there : is_group two_groups 3 ≡ true
  pub not_there : is_group two_groups 4 ≡ false
  pub first_active : is_active two_groups 3 ≡ true
  pub second_inactive : is_active two_groups 7 ≡ false
  pub third_inactive : is_active two_groups 5 ≡ false
  pub of_second : clauses_at two_groups 7 ≡ (plus 1 ∷ []) ∷ (plus 1 ∷ plus 2 ∷ []) ∷ []
  pub no_clauses : clauses_at two_groups 5 ≡ []
  pub between : with_group 5 two_groups ≡ three ∷ record { number = 5; active = true; clauses = [] } ∷ seven ∷ []
  pub in_front : with_group 1 two_groups ≡ record { number = 1; active = true; clauses = [] } ∷ two_groups
  pub behind : with_group 9 two_groups ≡ two_groups ++ record { number = 9; active = true; clauses = [] } ∷ []
  pub stays : with_group 7 two_groups ≡ two_groups
  pub turned : with_mark true 7 two_groups ≡ three ∷ record seven { active = true } ∷ []
  pub turned_off : with_mark false 3 two_groups ≡ record three { active = false } ∷ seven ∷ []
  pub joined : with_clause_at (plus 2 ∷ []) 3 two_groups
      ≡ record three { clauses = (minus 1 ∷ []) ∷ (plus 2 ∷ []) ∷ [] } ∷ seven ∷ []
  pub lowest : may_number 1 ≡ true
  pub zero : may_number 0 ≡ false
  pub highest : may_number 65536 ≡ true
  pub beyond : may_number 65537 ≡ false
  -- accepted clauses are counted, a tautology too, and what comes back once more; what is there isn't
  pub counted : (state_of parted).clauses ≡ 6
  pub returned : (state_of (parted ++ Activate 7 ∷ [])).clauses ≡ 8
  pub stayed : (state_of (parted ++ Activate 3 ∷ Deactivate 3 ∷ [])).clauses ≡ 6
  -- an accepted command on groups is a change, a refused one isn't
  pub changed : (state_of (solved ++ OpenGroup 1 ∷ [])).verdict ≡ None
  pub closed : (state_of (solved ++ OpenGroup 1 ∷ CloseGroup ∷ Deactivate 1 ∷ [])).verdict ≡ None
  pub unchanged : (state_of (solved ++ CloseGroup ∷ Activate 1 ∷ OpenGroup 0 ∷ [])) ≡ state_of solved
  -- refusals, in their order
  pub none_open : refused_after parted CloseGroup ≡ Some NoGroup
  pub zero_group : refused_after grouped (OpenGroup 0) ≡ Some GroupRange
  pub far_group : refused_after parted (OpenGroup 65537) ≡ Some GroupRange
  pub two_open : refused_after grouped (OpenGroup 7) ≡ Some GroupOpen
  pub in_frame : refused_after parted (OpenGroup 3) ≡ Some GroupFrame
  pub turned_zero : refused_after grouped (Activate 0) ≡ Some GroupRange
  pub no_group : refused_after grouped (Activate 4) ≡ Some NoGroup
  pub turned_open : refused_after grouped (Activate 3) ≡ Some GroupOpen
  pub off_zero : refused_after grouped (Deactivate 65537) ≡ Some GroupRange
  pub no_group_off : refused_after parted (Deactivate 4) ≡ Some NoGroup
  pub off_open : refused_after grouped (Deactivate 7) ≡ Some GroupOpen
  pub pushed_open : refused_after grouped Push ≡ Some GroupOpen
  -- the limit is on all clauses, those of inactive groups too
  pub full : (s : OpenFormula) → length (all_clauses s) ≡ 16777216 → refusal_of s (AddClause []) ≡ Some Limit
