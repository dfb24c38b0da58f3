-- Rows on the way to be cleaned.
use Rattle.std.proofs.Common.{◌≡◌, ℕ, ◌<◌, true, List, [], ◌++◌, length, take, drop, Contains, Option, Some, None, is_some, refl, sym, subst, ap, ◌∙◌, inl, inr, ⊎_elim}
use Rattle.std.specs.Prelude.{IsTrue, IsFalse}
use Rattle.std.specs.List.{list_any}
use Rattle.std.proofs.lemmas.Bool.{cases_Bool}
use Rattle.std.proofs.lemmas.List.{take-append-drop}
use Rattle.prefix.specs.declared.quant.Quant.{Quant}
use Rattle.prefix.specs.Literal.{Literal, negation}
use Rattle.prefix.specs.Scopes.{Scope}
use Rattle.calculus.specs.Rows.{IsRow, Row, is_pivot, reduce}
use Rattle.calculus.specs.Search.{Blocks, IsBadRow, IsCleanBut, IsLastBlocker, IsOrderedTrail, IsPending, IsUnitIn, Trail, cause_on, clashes_with, is_bad_if, is_bad_now, is_open, place_on, resolved_with, value_on}
use Rattle.calculus.specs.Search.Cause.{Propagated}
use Rattle.calculus.proofs.Analysis.{blocker_propagated}
use Rattle.calculus.proofs.Searching.{bad_assigned, bad_not_open, blocker_bad, unblocked_clean}
use Rattle.calculus.proofs.TrailLaws.{clean_cut, reason_from, unblocked_clean_but}
use Rattle.calculus.proofs.TrailMoves.{place_front, value_front}
use Rattle.calculus.proofs.Turns.{turn_no_clash, result_pending, result_blockers, result_keeps}
use Rattle.clean.specs.Reasons.{IsOnTheWay}
use Rattle.clean.specs.Cleaning.{IsCleaned, MayBeCleaned, before_kept}
use Rattle.clean.proofs.Fronts.{cause_front, clean_whole, ordered_front}

-- the start
pub starts_on : (pivot : Quant) (scopes : List Scope) (trail front : Trail) (kept : Option Literal) (row : Row)
    → before_kept kept trail ≡ front → MayBeCleaned pivot scopes trail kept row
    → IsOnTheWay pivot scopes front kept row
starts_on pivot scopes trail front None row is may = record {
  pending = subst (λ (t : Trail). IsPending pivot scopes (value_on t) None row) is may;
  keeps = λ k e. absurd (let g : None ≡ Some k = e in cc);
}
starts_on pivot scopes trail front (Some kept) row is may = record {
  pending = subst (λ (t : Trail). IsPending pivot scopes (value_on t) (Some kept) row) is may.others;
  keeps = λ k e.
      let same : kept ≡ k = let g : Some kept ≡ Some k = e in cc in (
        subst (λ (l : Literal). Contains row l) same may.stands,
        subst (λ (l : Literal). IsTrue (is_pivot pivot scopes l)) same may.pivot_type,
        subst (λ (l : Literal). IsTrue (is_open (value_on front) l)) same (subst
            (λ (t : Trail). IsTrue (is_open (value_on t) kept)) is may.open_yet),
      );
}

module _ (pivot : Quant) (scopes : List Scope) (front : Trail) (kept : Option Literal) (row : Row)
    (way : IsOnTheWay pivot scopes front kept row) where
  kept_open : (k : Literal) → kept ≡ Some k → is_open (value_on front) k ≡ true
  kept_open k e = (way.keeps k e).2

  -- a blocker is bad, and stands on the front
  pub way_bad : (f u : Literal) → Blocks pivot scopes (value_on front) row f u
      → is_bad_now pivot (value_on front) f ≡ true
  way_bad f u blocks = blocker_bad pivot scopes (value_on front)
      (place_on front) kept kept_open row way.pending f u blocks

  pub way_assigned : (f u : Literal) → Blocks pivot scopes (value_on front) row f u
      → is_some (value_on front f.variable) ≡ true
  way_assigned f u blocks = bad_assigned pivot (value_on front f.variable) f (way_bad f u blocks)

  pub way_within : (f u : Literal) → Blocks pivot scopes (value_on front) row f u
      → place_on front f.variable < length front
  way_within f u blocks = (place_front front [] f.variable (way_assigned f u blocks)).1

-- what one resolution gives
pub record IsTurned (pivot : Quant) (scopes : List Scope) (front : Trail) (kept : Option Literal) (row reason : Row)
    (f : Literal) : Type 0 where
  pub no_clash : IsFalse (clashes_with row reason f)
  pub way : IsOnTheWay pivot scopes front kept (reduce pivot scopes (resolved_with row reason f))
  pub blockers : (g u : Literal) → Blocks pivot scopes (value_on front)
      (reduce pivot scopes (resolved_with row reason f)) g u → place_on front g.variable < place_on front f.variable

pub one_turn : (pivot : Quant) (scopes : List Scope) (front : Trail) (kept : Option Literal) (row reason : Row)
    (f : Literal) → IsRow scopes row → IsRow scopes reason → IsOnTheWay pivot scopes front kept row
    → IsLastBlocker pivot scopes front row f → IsCleanBut pivot front (negation f) reason
    → IsTurned pivot scopes front kept row reason f
one_turn pivot scopes front kept row reason f is_row reason_row way last clean =
    let opens : (k : Literal) → kept ≡ Some k → is_open (value_on front) k ≡ true = λ k e. (way.keeps k e).2 in
    let bad = blocker_bad pivot scopes (value_on front)
    (place_on front) kept opens row way.pending f last.blocked last.blocks in
    let assigned = bad_assigned pivot (value_on front f.variable) f bad in
    let is_reason = reason_from pivot front f reason assigned clean in
    record {
      no_clash = turn_no_clash pivot scopes front kept opens row reason f is_row reason_row way.pending is_reason;
      way = record {
        pending = result_pending pivot scopes front kept opens row reason f is_row reason_row way.pending is_reason;
        keeps = λ k e.
            let was = way.keeps k e in (
              result_keeps pivot scopes front kept opens row reason f is_row reason_row way.pending is_reason k was.0
                  was.1
                  (λ same. bad_not_open pivot (value_on front k.variable) f (ap
                  (λ x. is_bad_if pivot (value_on front x) f) same ∙ bad) was.2),
              was.1,
              was.2,
            );
      };
      blockers = result_blockers pivot scopes front kept opens row reason f is_row reason_row way.pending is_reason
          assigned last.last;
    }

-- the end: nothing keeps an open literal from reduction
pub way_ends : (pivot : Quant) (scopes : List Scope) (trail : Trail) (kept : Option Literal) (end : ℕ) (row : Row)
    → before_kept kept trail ≡ take end trail → reduce pivot scopes row ≡ row
    → IsOnTheWay pivot scopes (take end trail) kept row
    → ((f u : Literal) → Blocks pivot scopes (value_on (take end trail)) row f u → ⊥)
    → IsCleaned pivot scopes trail kept row
way_ends pivot scopes trail None end row is reduced way free =
    let bad : IsBadRow pivot scopes (value_on trail) row = subst
    (λ (t : Trail). IsPending pivot scopes (value_on t) None row) (sym is) way.pending in
    let none : (f u : Literal) → Blocks pivot scopes (value_on trail) row f u
    → ⊥ = λ f u blocks. free f u (subst (λ (t : Trail). Blocks pivot scopes (value_on t) row f u) is blocks) in
    ⊎_elim
    (λ some. inl (λ l i. ⊎_elim (λ k. absurd k)
    (λ b. b) (unblocked_clean pivot scopes (value_on trail) None row bad some none l (subst
    (λ (r : Row). Contains r l) (sym reduced) i))))
    (λ no_pivot. inr (no_pivot, bad))
    (cases_Bool (list_any (is_pivot pivot scopes) row))
way_ends pivot scopes trail (Some kept) end row is reduced way free =
    let front = take end trail in
    let was = way.keeps kept refl in
    let unit : IsUnitIn pivot scopes (value_on front) row kept =
    record { stands = was.0; pivot_type = was.1; open_yet = was.2; others = way.pending } in
    let both = unblocked_clean_but pivot scopes front kept row unit free in
    let clean : IsCleanBut pivot front kept row = subst (λ (r : Row). IsCleanBut pivot front kept r) reduced both.1 in (
      was.0,
      subst (λ (t : Trail). IsCleanBut pivot t kept row) (take-append-drop end trail)
          (clean_whole pivot front (drop end trail) kept row was.2 clean),
    )

-- a blocker was propagated
pub blocker_cause : (pivot : Quant) (scopes : List Scope) (trail : Trail) (kept : Option Literal) (end : ℕ)
    (row : Row) → IsOrderedTrail scopes trail → IsRow scopes row → IsOnTheWay pivot scopes (take end trail) kept row
    → (f : Literal) → IsLastBlocker pivot scopes (take end trail) row f
    → (id : ℕ) × (cause_on trail f.variable ≡ Some (Propagated id))
blocker_cause pivot scopes trail kept end row ordered is_row way f last =
    let front = take end trail in
    let whole : take end trail ++ drop end trail ≡ trail = take-append-drop end trail in
    let u = last.blocked in
    let assigned = way_assigned pivot scopes front kept row way f u last.blocks in
    let ordered_then : IsOrderedTrail scopes front =
    ordered_front scopes [] front (drop end trail) (subst (IsOrderedTrail scopes) (sym whole) ordered) in
    let known = is_row.over_prefix u last.blocks.blocked_stands in
    let found = blocker_propagated scopes front ordered_then f.variable u.variable assigned known last.blocks.open_yet
    last.blocks.later in (
      found.0,
      ap (λ (t : Trail). cause_on t f.variable) (sym whole)
          ∙ (cause_front front (drop end trail) f.variable assigned ∙ found.1),
    )

-- a literal of a front, on the whole trail
pub front_whole : (pivot : Quant) (trail : Trail) (end : ℕ) (f : Literal)
    → is_bad_now pivot (value_on (take end trail)) f ≡ true → is_bad_now pivot (value_on trail) f ≡ true
front_whole pivot trail end f bad =
    let whole : take end trail ++ drop end trail ≡ trail = take-append-drop end trail in
    let assigned = bad_assigned pivot (value_on (take end trail) f.variable) f bad in
    ap (λ o. is_bad_if pivot o f) (ap (λ (t : Trail). value_on t f.variable) (sym whole)
    ∙ value_front (take end trail) (drop end trail) f.variable assigned) ∙ bad

-- a reason that is clean on the trail is so on a front with its literal
pub clean_on_front : (pivot : Quant) (trail : Trail) (end : ℕ) (kept : Literal) (row : Row)
    → is_some (value_on (take end trail) kept.variable) ≡ true → IsCleanBut pivot trail kept row
    → IsCleanBut pivot (take end trail) kept row
clean_on_front pivot trail end kept row assigned clean =
    clean_cut pivot (take end trail) (drop end trail) kept row assigned (subst
    (λ (t : Trail). IsCleanBut pivot t kept row) (sym (take-append-drop end trail)) clean)

-- a place on a front that has it is that on the trail
pub place_on_front : (trail : Trail) (end x : ℕ) → is_some (value_on (take end trail) x) ≡ true
    → (place_on trail x ≡ place_on (take end trail) x) × (place_on (take end trail) x < length (take end trail))
place_on_front trail end x assigned =
    let both = place_front (take end trail) (drop end trail) x assigned in
    (ap (λ (t : Trail). place_on t x) (sym (take-append-drop end trail)) ∙ both.0, both.1)
