use Rattle.std.proofs.Common.{◌≡◌, length, take, Some, refl, sym, ap, ◌∙◌, arith}
use Rattle.std.proofs.lemmas.Bool.{false≢true}
use Rattle.std.proofs.lemmas.List.{take_all}
use Rattle.std.proofs.lemmas.Result.{err_from_is_err_and}
use Rattle.steps.specs.Counter.{Counter, after, left}
use Rattle.prefix.specs.Scopes.{level_of}
use Rattle.calculus.specs.Search.{value_on}
use Rattle.calculus.specs.Search.Cause.{Assumed}
use Rattle.calculus.proofs.Levels.{level_in_prefix}
use Rattle.trail.specs.State.{TrailState, with_assumed, with_literal}
use Rattle.trail.proofs.Assuming.{assumed_new, all_assumed, may_assume, assumed_next, assumed_none, after_none, after_next, few_next, all_left}
use Rattle.trail.proofs.trail.Trail.assume_each.Goals as goal

pub loop-lit-init : goal.loop-lit-init
loop-lit-init c = record {
  trail = assumed_none c.args.prefix.now c.args.self.now c.requires.prefix c.requires.empty;
  steps = after_none c.args.steps.now;
  few = omega arith;
  kept = c.requires.prefix;
}

here : (c : goal.After-assign-arg-in-loop-lit-1) → level_of c.args.prefix.now c.lit-item.result.variable ≡ Some 1
here c = c.requires.outer c.lit-item.result (c.loop-lit.lit-index, c.loop-lit-test.true, sym c.lit-item.is)

pub assign-requires-clause-prefix : goal.assign-requires-clause-prefix
assign-requires-clause-prefix c = c.loop-lit.invariant.kept

pub assign-requires-clause-known : goal.assign-requires-clause-known
assign-requires-clause-known c = level_in_prefix c.args.prefix.now c.lit-item.result.variable 1 (here c)

pub assign-requires-clause-unassigned : goal.assign-requires-clause-unassigned
assign-requires-clause-unassigned c =
    ap (λ (t : TrailState). value_on t.placed c.lit-item.result.variable) c.loop-lit.invariant.trail
    ∙ assumed_new c.args.lits.now c.loop-lit.lit-index c.lit-item.result c.requires.different c.loop-lit-test.true
    c.lit-item.is

pub assign-requires-clause-room : goal.assign-requires-clause-room
assign-requires-clause-room c =
    let fits = c.requires.room c.loop-lit.lit-index c.lit-item.result c.loop-lit-test.true in
    rw (c.loop-lit.invariant.trail, c.lit-item.is) fits

pub assign-requires-clause-order : goal.assign-requires-clause-order
assign-requires-clause-order c =
    (here c, rw c.loop-lit.invariant.trail (all_assumed (take c.loop-lit.lit-index c.args.lits.now)))

pub assign-requires-clause-allowed : goal.assign-requires-clause-allowed
assign-requires-clause-allowed c = rw c.loop-lit.invariant.trail
    (may_assume (take c.loop-lit.lit-index c.args.lits.now) c.args.self.now.allowed c.requires.allowed)

pub loop-lit-preserved : goal.loop-lit-preserved
loop-lit-preserved c = record {
  trail =
      c.in_ok-assign.ensures.ok
      ∙ (ap (λ (t : TrailState). with_literal c.args.prefix.now t c.lit-item.result Assumed) c.loop-lit.invariant.trail
      ∙ assumed_next c.args.prefix.now c.args.self.now c.args.lits.now c.loop-lit.lit-index c.lit-item.result
      c.loop-lit-test.true c.lit-item.is);
  steps = c.in_ok-assign.ensures.counted ∙ (ap (λ (s : Counter). after s 1) c.loop-lit.invariant.steps
      ∙ after_next c.args.steps.now c.loop-lit.lit-index);
  few = few_next c.args.steps.now c.loop-lit.steps c.loop-lit.lit-index c.loop-lit.invariant.steps
      c.assign.ensures.within (λ e. false≢true (c.in_ok-assign.ensures.spent.1 e));
  kept = c.assign.ensures.kept;
}

all : (c : goal.After-from_residual) → c.loop-lit.lit-index ≡ left c.args.steps.now
all c = all_left c.args.steps.now c.loop-lit.steps c.loop-lit.lit-index c.loop-lit.invariant.steps
    (c.in_err-assign.ensures.spent.0 refl)

pub returns-in_err-assign-clause-err : goal.returns-in_err-assign-clause-err
returns-in_err-assign-clause-err c =
    let err = err_from_is_err_and c.from_residual.result c.from_residual.ensures.1 in
    rw err.1 (c.in_err-assign.ensures.err
    ∙ (c.loop-lit.invariant.trail
    ∙ ap (λ n. with_assumed c.args.prefix.now c.args.self.now (take n c.args.lits.now)) (all c)))

pub returns-in_err-assign-clause-uncounted : goal.returns-in_err-assign-clause-uncounted
returns-in_err-assign-clause-uncounted c =
    let err = err_from_is_err_and c.from_residual.result c.from_residual.ensures.1 in
    rw err.1 (c.in_err-assign.ensures.uncounted ∙ (c.loop-lit.invariant.steps ∙ ap (after c.args.steps.now) (all c)))

pub returns-in_err-assign-clause-fewer : goal.returns-in_err-assign-clause-fewer
returns-in_err-assign-clause-fewer c =
    let err = err_from_is_err_and c.from_residual.result c.from_residual.ensures.1 in
    rw err.1 (rw (← all c) c.loop-lit-test.true)

end : (c : goal.After-loop-lit) → c.loop-lit.lit-index ≡ length c.args.lits.now
end c = (let below = c.loop-lit.auto.lit-index-end in let past = c.loop-lit-test.false in omega arith)

pub returns-clause-ok : goal.returns-clause-ok
returns-clause-ok c = c.loop-lit.invariant.trail ∙ ap (with_assumed c.args.prefix.now c.args.self.now)
    (take_all c.loop-lit.lit-index c.args.lits.now c.loop-lit-test.false)

pub returns-clause-counted : goal.returns-clause-counted
returns-clause-counted c = c.loop-lit.invariant.steps ∙ ap (after c.args.steps.now) (end c)

pub returns-clause-enough : goal.returns-clause-enough
returns-clause-enough c = rw (← end c) c.loop-lit.invariant.few
