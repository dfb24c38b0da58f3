-- Worked values: which rows are long learned ones, how many of them are attached, which are reasons, which may be
-- forgotten, and what forgetting leaves, with rows of both sides.
use Rattle.std.specs.Prelude.{◌≡◌, ◌+◌, ◌≤◌, ℕ, true, false, List, [], ◌∷◌, Option, Some}
use Rattle.prefix.specs.declared.quant.Quant.{Quant}
use Rattle.prefix.specs.declared.quant.Quant.TheVariants.{Exists, Forall}
use Rattle.prefix.specs.Scopes.{Scope}
use Rattle.prefix.specs.Sides.{opposite}
use Rattle.calculus.specs.Derivations.{Why}
use Rattle.calculus.specs.Derivations.Why.{Given, ReducedFrom, ResolvedFrom, FinishedFrom}
use Rattle.calculus.specs.Rows.{Row}
use Rattle.calculus.specs.Search.{Trail}
use Rattle.calculus.specs.Search.Cause.{Decided, Propagated}
use Rattle.calculus.specs.Worked.{plus}
use Rattle.calculus.specs.WorkedSearch.{alternating, bad, three}
use Rattle.derive.specs.State.{State, with_step}
use Rattle.search.specs.Forgetting.{AreLive, Clears, ComesBefore, Forgets, HasFewLong, HaveAllReasons, Lets, LetsOldest, Thins, is_held, is_reason, left_long, long_reasons, may_go, without_detached}
use Rattle.search.specs.Long.{is_kept_long, is_long, long_in}
use Rattle.search.specs.State.{IsSearching, IsTallied, SearchState, rows_of, with_long}
use Rattle.search.specs.Worked.{attached_to, detached, search_of, trail_of}

abbrev pub four : Row
four = plus 1 ∷ plus 2 ∷ plus 3 ∷ plus 4 ∷ []

-- a row of a side, as the step 0, which stands so, with these links
abbrev pub one_row : Quant → Why → Row → List (Option ℕ) → State
one_row side why row links = record {
  notes = Some (record { side = side; why = why; tag = 0 }) ∷ [];
  rows = Some (Some (record { literals = row; links = links }) ∷ []);
}

-- with the row 1 2 3 4 as its reduction, the step 1
abbrev pub with_reduction : Quant → Why → State
with_reduction side why =
    with_step (one_row side why (plus 9 ∷ []) detached) (record { side = side; why = ReducedFrom 0; tag = 0 }) four

-- a resolvent
abbrev pub resolvent : Why
resolvent = ResolvedFrom 7 8 6

-- a search over a row, with this trail
abbrev pub search_with : Quant → Row → List (Option ℕ) → Trail → SearchState
search_with side row links placed = search_of (one_row side resolvent row links) (trail_of placed)

-- 2 was propagated from a row
abbrev pub propagated_by : Quant → ℕ → Trail
propagated_by side id = record { literal = bad side 2; cause = Propagated id } ∷ []

-- a long learned row that is attached, with this trail
abbrev pub long_row : Quant → Trail → SearchState
long_row side placed = search_with side four (attached_to side) placed

-- two long learned rows of a side, the steps 0 and 1, with these links, both listed to be watched
abbrev pub two_rows : Quant → List (Option ℕ) → List (Option ℕ) → SearchState
two_rows side first second =
    record (search_of (record {
      notes = Some (record { side = side; why = resolvent; tag = 0 })
          ∷ Some (record { side = side; why = resolvent; tag = 0 }) ∷ [];
      rows = Some (Some (record { literals = four; links = first })
          ∷ Some (record { literals = four; links = second }) ∷ []);
    }) (trail_of [])) { watched = 0 ∷ 1 ∷ [] }

pub record WorkedForgetting (side : Quant) : Type 0 where
  -- a resolvent of four literals is long, one of three isn't
  pub learned : is_long (one_row side resolvent four detached) 0 ≡ true
  pub short : is_long (one_row side resolvent three detached) 0 ≡ false
  -- nor is an input clause; an initial cube is
  pub clause : is_long (one_row Exists Given four detached) 0 ≡ false
  pub cube : is_long (one_row Forall Given four detached) 0 ≡ true
  -- the reduction of a clause isn't; that of a cube or of a resolvent is, and so is a finish
  pub reduced_clause : is_long (with_reduction Exists Given) 1 ≡ false
  pub reduced_cube : is_long (with_reduction Forall Given) 1 ≡ true
  pub reduced : is_long (with_reduction side resolvent) 1 ≡ true
  pub finish : is_long (one_row side (FinishedFrom 7) four detached) 0 ≡ true
  -- no step is none
  pub no_step : is_long (one_row side resolvent four detached) 1 ≡ false
  -- it counts where it is attached to the watch of its side
  pub counts : is_kept_long (one_row side resolvent four (attached_to side)) 0 ≡ true
  pub one : long_in (one_row side resolvent four (attached_to side)) ≡ 1
  pub none_attached : long_in (one_row side resolvent four detached) ≡ 0
  pub elsewhere : long_in (one_row side resolvent four (attached_to (opposite side))) ≡ 0
  pub none_long : long_in (one_row side resolvent three (attached_to side)) ≡ 0
  pub tallied : IsTallied (with_long (long_row side []) 1)
  pub one_off : IsTallied (long_row side []) → ⊥
  -- it is a reason where one of its variables was propagated from it
  pub reason : is_reason (long_row side (propagated_by side 0)) 0 ≡ true
  pub other_row : is_reason (long_row side (propagated_by side 7)) 0 ≡ false
  pub decided : is_reason (long_row side (record { literal = bad side 2; cause = Decided } ∷ [])) 0 ≡ false
  pub other_variable : is_reason (search_with side (plus 1 ∷ plus 3 ∷ []) detached (propagated_by side 0)) 0 ≡ false
  -- it counts as a reason where it is attached and 2 was propagated from it
  pub by_long : long_reasons (long_row side (propagated_by side 0)) ≡ 1
  pub by_other : long_reasons (long_row side (propagated_by side 7)) ≡ 0
  pub by_detached : long_reasons (search_with side four detached (propagated_by side 0)) ≡ 0
  pub by_none : long_reasons (long_row side (record { literal = bad side 2; cause = Decided } ∷ [])) ≡ 0
  -- a long row may go, but not a reason, nor a short row
  pub may : may_go (long_row side []) 0 ≡ true
  pub may_not : may_go (long_row side (propagated_by side 0)) 0 ≡ false
  pub short_stays : may_go (search_with side three detached []) 0 ≡ false
  pub goes : Lets (long_row side []) (search_with side four detached [])
  pub stays : Lets (long_row side (propagated_by side 0)) (search_with side four detached (propagated_by side 0)) → ⊥
  -- 3 is listed before 5, and not behind it; of two rows the first goes first
  pub before : ComesBefore (3 ∷ 5 ∷ []) 3 5
  pub not_before : ComesBefore (3 ∷ 5 ∷ []) 5 3 → ⊥
  pub oldest : LetsOldest (two_rows side (attached_to side) (attached_to side))
      (two_rows side detached (attached_to side))
  pub newest : LetsOldest (two_rows side (attached_to side) (attached_to side))
      (two_rows side (attached_to side) detached) → ⊥
  -- what isn't attached is left out
  pub held : is_held (rows_of (long_row side [])) 0 ≡ true
  pub left : (without_detached (long_row side [])).watched ≡ 0 ∷ []
  pub left_out : (without_detached (search_with side four detached [])).watched ≡ []
  -- all reasons, and not all; a live step, and none
  pub all : HaveAllReasons (one_row side resolvent four detached) (propagated_by side 0) (0 ∷ [])
  pub not_all : HaveAllReasons (one_row side resolvent four detached) (propagated_by side 0) [] → ⊥
  pub live : AreLive (one_row side resolvent four detached) (0 ∷ [])
  pub not_live : AreLive (one_row side resolvent four detached) (1 ∷ []) → ⊥
  -- where 512 may be kept, these and one for each of three variables are few; where 17 may be, 20 are
  pub few : HasFewLong 512 (alternating side) (with_long (long_row side []) 515)
  pub many : HasFewLong 512 (alternating side) (with_long (long_row side []) 516) → ⊥
  pub fewer : HasFewLong 17 (alternating side) (with_long (long_row side []) 20)
  pub too_many : HasFewLong 17 (alternating side) (with_long (long_row side []) 21) → ⊥
  -- of 17 half are 8
  pub half : left_long 17 ≡ 8
  -- nothing needs to go; where few are attached nothing needs to be forgotten
  pub thins_none : (scopes : List Scope) (s : SearchState) → IsSearching scopes s → Thins scopes s s
  pub clears_none : (scopes : List Scope) (s : SearchState) → IsSearching scopes s → Clears scopes s s
  pub forgets_none : (kept : ℕ) (scopes : List Scope) (s : SearchState) → IsSearching scopes s
      → s.long ≤ kept + long_reasons s → Forgets kept scopes s s
  -- not with another trail, nor where a reason is detached
  pub thins_trail : Thins (alternating side) (long_row side []) (long_row side (propagated_by side 7)) → ⊥
  pub thins_reason : Thins (alternating side) (long_row side (propagated_by side 0))
      (search_with side four detached (propagated_by side 0)) → ⊥
  -- not where the list changes, or the count isn't that of the attached rows
  pub thins_list : Thins (alternating side) (long_row side []) (record (long_row side []) { watched = [] }) → ⊥
  pub thins_count : Thins (alternating side) (with_long (long_row side []) 1) (long_row side []) → ⊥
  -- not with another trail or count, nor where any row is detached, or attached
  pub clears_trail : Clears (alternating side) (long_row side []) (long_row side (propagated_by side 7)) → ⊥
  pub clears_count : Clears (alternating side) (long_row side []) (with_long (long_row side []) 1) → ⊥
  pub clears_row : Clears (alternating side) (long_row side []) (search_with side four detached []) → ⊥
  pub clears_more : Clears (alternating side) (search_with side four detached []) (long_row side []) → ⊥
  -- not with another trail, nor where a reason is detached, or the second of two rows
  pub forgets_trail : Forgets 512 (alternating side) (long_row side []) (long_row side (propagated_by side 7)) → ⊥
  pub forgets_reason : Forgets 512 (alternating side) (long_row side (propagated_by side 0))
      (search_with side four detached (propagated_by side 0)) → ⊥
  pub forgets_newest : Forgets 512 (alternating side) (two_rows side (attached_to side) (attached_to side))
      (two_rows side (attached_to side) detached) → ⊥
  -- where 512 may be kept, nothing changes with 512, nor with 513 of which one is a reason
  pub forgets_early : Forgets 512 (alternating side) (with_long (long_row side []) 512)
      (with_long (long_row side []) 256) → ⊥
  pub forgets_reasons : Forgets 512 (alternating side) (with_long (long_row side (propagated_by side 0)) 513)
      (with_long (long_row side (propagated_by side 0)) 257) → ⊥
  -- with 513 of which none is a reason 256 are left, neither 255 nor 257, and beside one that is a reason 257
  pub forgets_late : Forgets 512 (alternating side) (with_long (long_row side []) 513)
      (with_long (long_row side []) 513) → ⊥
  pub forgets_too_many : Forgets 512 (alternating side) (with_long (long_row side []) 513)
      (with_long (long_row side []) 255) → ⊥
  pub forgets_too_few : Forgets 512 (alternating side) (with_long (long_row side []) 513)
      (with_long (long_row side []) 257) → ⊥
  pub forgets_beside : Forgets 512 (alternating side) (with_long (long_row side (propagated_by side 0)) 514)
      (with_long (long_row side (propagated_by side 0)) 256) → ⊥
