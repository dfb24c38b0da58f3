-- One turn of cleaning and one of analysis.
use Rattle.std.proofs.Common.{List, ◌≡◌, ℕ, ◌<◌, ◌≤◌, ◌⊎◌, true, false, not, ◌&&◌, Contains, filter, Option, Some, None, is_some, sym, ap, ◌∙◌, inl, inr, ⊎_elim, arith, nat_eq}
use Rattle.std.specs.List.{list_any}
use Rattle.prefix.specs.Literal.{Literal}
use Rattle.prefix.specs.Scopes.{Scope}
use Rattle.prefix.specs.declared.quant.Quant.{Quant}
use Rattle.truth.specs.Matrix.{same as same_bool}
use Rattle.calculus.specs.Rows.{IsRow, Row, clashes, is_blocked, is_pivot, reduce, resolve, stays}
use Rattle.calculus.specs.Search.{Blocks, IsClean, IsPending, Trail, clashes_with, is_bad_now, is_open, place_on, resolved_with, value_on}
use Rattle.std.proofs.lemmas.Bool.{cond_both, cond-true, cond-false, true≢false, false_from_ne_true, and_parts, eqb-true, eq-eqb, not-true, or_left}
use Rattle.calculus.proofs.Lists.{any_at, filter_from}
use Rattle.calculus.proofs.RowLemmas.{resolve_at, resolve_left, resolve_right}
use Rattle.calculus.proofs.Merging.{beq_refl}
use Rattle.calculus.proofs.RowLaws.{resolve_row, reduce_row}
use Rattle.calculus.proofs.Searching.{bad_assigned, reason_no_clash, Mixes, mixed_literal, mixed_pending, blockers_fall, part_pending, part_blocks, reduce_within, IsReason}
use Rattle.calculus.proofs.Trails.{places_apart}

no_clash_from : (a b : Row) (x : ℕ) → ((l m : Literal) → Contains a l → Contains b m → l.variable ≡ m.variable
    → (l.variable ≡ x → ⊥) → l.positive ≡ m.positive) → clashes a b x ≡ false
no_clash_from a b x same = false_from_ne_true (clashes a b x) (λ t.
    let p = any_at
    (λ (l : Literal). not (nat_eq l.variable x) && list_any
    (λ (m : Literal). nat_eq l.variable m.variable && not (same_bool l.positive m.positive)) b) a t in
    let l = p.0 in
    let parts = and_parts (not (nat_eq l.variable x))
    (list_any (λ (m : Literal). nat_eq l.variable m.variable && not (same_bool l.positive m.positive)) b) p.2 in
    let q = any_at (λ (m : Literal). nat_eq l.variable m.variable && not (same_bool l.positive m.positive)) b parts.1 in
    let m = q.0 in
    let both = and_parts (nat_eq l.variable m.variable) (not (same_bool l.positive m.positive)) q.2 in
    let e : l.positive ≡ m.positive = same l m p.1 q.1 (eqb-true l.variable m.variable both.0)
    (λ z. true≢false (sym (eq-eqb l.variable x z) ∙ not-true (nat_eq l.variable x) parts.0)) in
    true≢false (sym (ap (λ b. same_bool l.positive b) (sym e) ∙ beq_refl l.positive)
    ∙ not-true (same_bool l.positive m.positive) both.1))

module _ (pivot : Quant) (scopes : List Scope) (trail : Trail) (kept : Option Literal)
    (kept_open : (k : Literal) → kept ≡ Some k → is_open (value_on trail) k ≡ true) (row reason : Row) (f : Literal)
    (is_row : IsRow scopes row) (reason_row : IsRow scopes reason)
    (pending : IsPending pivot scopes (value_on trail) kept row)
    (is_reason : IsReason pivot (value_on trail) (place_on trail) reason f.variable) where
  -- there is no clash, so that the two may be resolved
  pub turn_no_clash : clashes_with row reason f ≡ false
  turn_no_clash = cond_both f.positive (clashes row reason f.variable) (clashes reason row f.variable) (λ b. b ≡ false)
      (λ t. no_clash_from row reason f.variable (λ l m i j e ne. reason_no_clash pivot scopes (value_on trail)
      (place_on trail) kept kept_open row reason f.variable pending is_reason l m i j e ne))
      (λ n. no_clash_from reason row f.variable
      (λ m l j i e ne. sym (reason_no_clash pivot scopes (value_on trail) (place_on trail) kept kept_open row reason
      f.variable pending is_reason l m i j (sym e) (λ z. ne (e ∙ z)))))

  turn_mixes : Mixes pivot scopes (value_on trail) (place_on trail) kept kept_open row reason f.variable
      (resolved_with row reason f)
  turn_mixes l = cond_both f.positive (resolve row reason f.variable) (resolve reason row f.variable)
      (λ r. Contains r l → (Contains row l ⊎ Contains reason l) × (l.variable ≡ f.variable → ⊥))
      (λ t i. resolve_at row reason f.variable l i)
      (λ n i. let r = resolve_at reason row f.variable l i in (⊎_elim inr inl r.0, r.1))

  turn_keeps : (l : Literal) → Contains row l → (l.variable ≡ f.variable → ⊥) → Contains (resolved_with row reason f) l
  turn_keeps l i ne = cond_both f.positive (resolve row reason f.variable) (resolve reason row f.variable)
      (λ r. Contains r l)
      (λ t. resolve_left row reason f.variable l i ne)
      (λ n. resolve_right reason row f.variable l i ne)

  turn_row : IsRow scopes (resolved_with row reason f)
  turn_row = cond_both f.positive (resolve row reason f.variable) (resolve reason row f.variable) (λ r. IsRow scopes r)
      (λ t. resolve_row scopes row reason f.variable is_row reason_row
      (sym (cond-true f.positive (clashes row reason f.variable) (clashes reason row f.variable) t)
      ∙ turn_no_clash))
      (λ n. resolve_row scopes reason row f.variable reason_row is_row
      (sym (cond-false f.positive (clashes row reason f.variable) (clashes reason row f.variable) n)
      ∙ turn_no_clash))

  abbrev result : Row
  result = reduce pivot scopes (resolved_with row reason f)

  pub result_row : IsRow scopes result
  result_row = reduce_row pivot scopes (resolved_with row reason f) turn_row

  pub result_pending : IsPending pivot scopes (value_on trail) kept result
  result_pending = part_pending pivot scopes (value_on trail) (place_on trail) kept kept_open
      (resolved_with row reason f) result (reduce_within pivot scopes (value_on trail) (place_on trail) kept kept_open
      (resolved_with row reason f))
      (mixed_pending pivot scopes (value_on trail) (place_on trail) kept kept_open row reason
      (resolved_with row reason f) f.variable pending is_reason turn_mixes)

  -- with the last blocker resolved, those that are left stood before it
  pub result_blockers : is_some (value_on trail f.variable) ≡ true
      → ((g u : Literal) → Blocks pivot scopes (value_on trail) row g u → place_on trail g.variable ≤ place_on trail
      f.variable) → (g u : Literal) → Blocks pivot scopes (value_on trail) result g u
      → place_on trail g.variable < place_on trail f.variable
  result_blockers assigned last g u blocks =
      blockers_fall pivot scopes (value_on trail) (place_on trail) kept kept_open (places_apart trail) row reason
      (resolved_with row reason f) f.variable assigned pending is_reason turn_mixes last g u
      (part_blocks pivot scopes (value_on trail) (place_on trail) kept kept_open (resolved_with row reason f) result
      (reduce_within pivot scopes (value_on trail) (place_on trail) kept kept_open (resolved_with row reason f)) g u
      blocks)

  -- a pivot-type literal over another variable stays, as the one to keep does
  pub result_keeps : (l : Literal) → Contains row l → is_pivot pivot scopes l ≡ true → (l.variable ≡ f.variable → ⊥)
      → Contains result l
  result_keeps l i p ne =
      cond_both (list_any (is_pivot pivot scopes) (resolved_with row reason f))
      (filter (stays pivot scopes (resolved_with row reason f)) (resolved_with row reason f))
      (resolved_with row reason f) (λ r. Contains r l)
      (λ t. filter_from (stays pivot scopes (resolved_with row reason f)) (resolved_with row reason f) l
      (turn_keeps l i ne)
      (or_left (is_pivot pivot scopes l) (is_blocked pivot scopes (resolved_with row reason f) l) p))
      (λ n. turn_keeps l i ne)

-- analysis: with the last pivot-type literal of a clean row resolved, the result is clean, and its pivot-type literals
-- stood before it
module _ (pivot : Quant) (scopes : List Scope) (trail : Trail) (row reason : Row) (f : Literal)
    (is_row : IsRow scopes row) (reason_row : IsRow scopes reason) (clean : IsClean pivot (value_on trail) row)
    (is_reason : IsReason pivot (value_on trail) (place_on trail) reason f.variable) where
  pub none_open : (k : Literal) → None ≡ Some k → is_open (value_on trail) k ≡ true
  none_open k e = absurd (cc)

  pub as_pending : IsPending pivot scopes (value_on trail) None row
  as_pending l i = inr (inl (clean l i))

  within : (l : Literal) → Contains (reduce pivot scopes (resolved_with row reason f)) l → Contains row l
      × (l.variable ≡ f.variable → ⊥)
      ⊎ ((is_bad_now pivot (value_on trail) l ≡ true) × (place_on trail l.variable < place_on trail f.variable))
  within l i =
      let j = reduce_within pivot scopes (value_on trail) (place_on trail) None none_open (resolved_with row reason f) l
      i in
      let mixes = turn_mixes pivot scopes trail None none_open row reason f is_row reason_row as_pending is_reason in
      ⊎_elim (λ k. inl (k, (mixes l j).1)) inr
      (mixed_literal pivot scopes (value_on trail) (place_on trail) None none_open row reason
      (resolved_with row reason f) f.variable is_reason mixes l j)

  pub analysed_clean : IsClean pivot (value_on trail) (reduce pivot scopes (resolved_with row reason f))
  analysed_clean l i = ⊎_elim (λ k. clean l k.0) (λ r. r.0) (within l i)

  pub analysed_before : is_some (value_on trail f.variable) ≡ true
      → ((l : Literal) → Contains row l → is_pivot pivot scopes l ≡ true → place_on trail l.variable ≤ place_on trail
      f.variable) → (l : Literal) → Contains (reduce pivot scopes (resolved_with row reason f)) l
      → is_pivot pivot scopes l ≡ true → place_on trail l.variable < place_on trail f.variable
  analysed_before assigned last l i p =
      ⊎_elim
      (λ k.
      let at_most = last l k.0 p in
      let differ : place_on trail l.variable ≡ place_on trail f.variable
      → ⊥ = λ e. k.1
      (places_apart trail l.variable f.variable (bad_assigned pivot (value_on trail l.variable) l (clean l k.0))
      assigned e) in
      omega arith)
      (λ r. r.1)
      (within l i)
