use Rattle.std.proofs.Common.{◌+◌, ◌∙◌, drop, sym}
use Rattle.std.proofs.lemmas.Result.{err_from_is_err_and}
use Rattle.calculus.specs.Rows.{IsRow}
use Rattle.derive.specs.State.{clauses_of}
use Rattle.cores.proofs.Keeping.{all_tried, needed, none_tried, not_needed, stops}
use Rattle.cores.proofs.Trying.{dropped, gains, here_at, if_none, kept_in, none_of, none_there, rows_at}
use Rattle.cores.proofs.choosing.try_all.Goals as goal

pub loop-place-init : goal.loop-place-init
loop-place-init c = record {
  trying = c.requires.trying;
  tried = rw c.requires.none (none_tried c.args.question.now.assumptions.now c.args.question.now.prefix.now
      c.args.kept.now c.args.parts.now);
  refuted = tt;
}

pub returns-clause-ok : goal.returns-clause-ok
returns-clause-ok c =
    all_tried c.args.question.now.assumptions.now c.args.question.now.prefix.now c.args.kept.now c.args.parts.now
    c.loop-place.place c.loop-place.kept c.loop-place.core.items c.loop-place-test.false c.loop-place.invariant.tried

pub returns-in_err-refutation-clause-stop : goal.returns-in_err-refutation-clause-stop
returns-in_err-refutation-clause-stop c =
    let h = err_from_is_err_and c.from_residual.result c.from_residual.ensures.1 in
    rw (h.1, h.2) (stops c.args.question.now.assumptions.now c.args.question.now.prefix.now c.args.kept.now
    c.args.parts.now c.loop-place.place c.loop-place.kept c.loop-place.core.items c.loop-place.invariant.tried
    c.args.question.now.restarts c.args.question.now.budget c.in_err-refutation.field-0.0
    c.in_err-refutation.ensures.stop)

pub loop-place-preserved-then-is_some : goal.loop-place-preserved-then-is_some
loop-place-preserved-then-is_some c =
    let parts = c.args.parts.now in
    let i = c.loop-place.place in
    let at = here_at parts i c.loop-place-test.true in
    record {
      trying = c.in_ok-refutation.ensures.trying;
      tried = not_needed c.args.question.now.assumptions.now c.args.question.now.prefix.now c.args.kept.now parts i
          c.loop-place.kept c.loop-place.core.items c.loop-place.invariant.tried at.0 at.1
          (c.in_ok-refutation.ensures.decides.truth
          ∙ none_of c.in_ok-refutation.refutation (sym c.is_some.ensures ∙ c.if-is_some.true));
      refuted = c.in_ok-refutation.ensures.decides.refuted;
    }

pub add_clauses-requires-clause-rows : goal.add_clauses-requires-clause-rows
add_clauses-requires-clause-rows c =
    rw c.clauses.ensures (rows_at (IsRow c.args.question.now.prefix.now) c.args.parts.now c.loop-place.place
    c.index-parts-place.result c.loop-place-test.true c.index-parts-place.is c.requires.parts)

pub loop-place-preserved : goal.loop-place-preserved
loop-place-preserved c =
    let scopes = c.args.question.now.prefix.now in
    let assumptions = c.args.question.now.assumptions.now in
    let parts = c.args.parts.now in
    let i = c.loop-place.place in
    let p = c.index-parts-place.result in
    let kept = c.loop-place.kept in
    let here = dropped parts i p c.loop-place-test.true c.index-parts-place.is in
    let none = sym c.is_some.ensures ∙ c.if-is_some.false in
    let true_now = c.in_ok-refutation.ensures.decides.truth ∙ none_there c.in_ok-refutation.refutation none in
    let old = c.refuted_without.new.search in
    let new = c.add_clauses.new.self in
    record {
      trying = rw c.in_ok-keep.ensures.clauses
          (kept_in scopes old new kept (drop (i + 1) parts) c.add_clauses.ensures.resting
          c.in_ok-refutation.ensures.trying p.clauses
          (gains 0 p.clauses (clauses_of old.derivation) (clauses_of new.derivation)
          (rw c.clauses.ensures at c.in_ok-add_clauses.ensures.ok)));
      tried = rw (c.in_ok-keep.ensures.clauses, c.in_ok-keep.ensures.number)
          (needed assumptions scopes c.args.kept.now parts i kept c.loop-place.core.items c.loop-place.invariant.tried p
          here true_now);
      refuted = if_none c.in_ok-refutation.refutation _ none;
    }
