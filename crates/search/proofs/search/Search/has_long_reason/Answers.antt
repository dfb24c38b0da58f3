use Rattle.std.proofs.Common.{◌≡◌, true, false, Some, ap, sym, subst, ◌∙◌}
use Rattle.std.proofs.lemmas.Bool.{false≢true}
use Rattle.std.specs.Prelude.{slice_index_or}
use Rattle.calculus.specs.Search.{place_on, value_on}
use Rattle.search.specs.Forgetting.{is_by_long}
use Rattle.search.specs.Long.{is_kept_long, is_long}
use Rattle.derive.specs.State.{side_at}
use Rattle.watch.specs.Links.{is_attached}
use Rattle.search.specs.State.{SearchState, rows_of}
use Rattle.search.specs.contracts.search.Search.{the_view}
use Rattle.search.proofs.Thinning.{dead_unkept, long_kept, no_row_here, row_here, short_unkept}
use Rattle.search.proofs.search.Search.has_long_reason.Goals as goal
use Rattle.search.proofs.search.Search.has_long_reason.Goals.{then-is_live, else-is_live}

pub returns-in_default-clause-is : goal.returns-in_default-clause-is
returns-in_default-clause-is c = λ other.
    let s = the_view c.self.inside in
    let place : place_on s.trail.placed c.var.result ≡ c.args.place =
    ap (place_on s.trail.placed) c.var.ensures ∙ c.at.ensures.place in
    let value : value_on s.trail.placed c.var.result ≡ Some c.at.result.positive =
    ap (value_on s.trail.placed) c.var.ensures ∙ c.at.ensures.value in
    subst (λ (t : SearchState). false
    ≡ is_by_long t.derivation (slice_index_or t.trail.placed c.args.place other).cause) c.self.view_is
    (no_row_here s c.var.result c.args.place c.at.result.positive place value
    (sym c.propagated_from.ensures ∙ c.in_default.is) other)

pub returns-then-is_long-clause-is : goal.returns-then-is_long-clause-is
returns-then-is_long-clause-is c = λ other.
    let s = the_view c.self.inside in
    let place : place_on s.trail.placed c.var.result ≡ c.args.place =
    ap (place_on s.trail.placed) c.var.ensures ∙ c.at.ensures.place in
    let value : value_on s.trail.placed c.var.result ≡ Some c.at.result.positive =
    ap (value_on s.trail.placed) c.var.ensures ∙ c.at.ensures.value in
    let long : is_long s.derivation c.in-Some.id ≡ true = elim c.if-is_live.branch [
      | then-is_live w ↦ sym w.is_long.ensures ∙ (sym w.value-is ∙ c.if-is_long.true)
      | else-is_live w ↦ absurd (false≢true
          (sym w.if-is_live.false ∙ (sym w.value-is ∙ c.if-is_long.true)))
    ] in
    c.has.ensures.has
    ∙ subst (λ (t : SearchState). is_attached (side_at t.derivation c.in-Some.id) (rows_of t) c.in-Some.id
    ≡ is_by_long t.derivation (slice_index_or t.trail.placed c.args.place other).cause) c.self.view_is
    (long_kept s.derivation c.in-Some.id long
    ∙ row_here s c.var.result c.args.place c.at.result.positive place value c.in-Some.id
    (sym c.propagated_from.ensures ∙ c.in-Some.is) other)

pub returns-else-is_long-clause-is : goal.returns-else-is_long-clause-is
returns-else-is_long-clause-is c = λ other.
    let s = the_view c.self.inside in
    let place : place_on s.trail.placed c.var.result ≡ c.args.place =
    ap (place_on s.trail.placed) c.var.ensures ∙ c.at.ensures.place in
    let value : value_on s.trail.placed c.var.result ≡ Some c.at.result.positive =
    ap (value_on s.trail.placed) c.var.ensures ∙ c.at.ensures.value in
    let none : is_kept_long s.derivation c.in-Some.id ≡ false = elim c.if-is_live.branch [
      | then-is_live w ↦ short_unkept s.derivation c.in-Some.id
          (sym w.is_long.ensures ∙ (sym w.value-is ∙ c.if-is_long.false))
      | else-is_live w ↦ dead_unkept s.derivation c.in-Some.id (sym c.is_live.ensures ∙ w.if-is_live.false)
    ] in
    subst (λ (t : SearchState). c.if-is_live.value
    ≡ is_by_long t.derivation (slice_index_or t.trail.placed c.args.place other).cause) c.self.view_is
    (c.if-is_long.false ∙ (sym none
    ∙ row_here s c.var.result c.args.place c.at.result.positive place value c.in-Some.id
    (sym c.propagated_from.ensures ∙ c.in-Some.is) other))
