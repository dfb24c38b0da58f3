use Rattle.std.proofs.Common.{◌≡◌, ◌+◌, ◌-◌, ◌<◌, ◌≤◌, Ok, Err, sym, ap, ◌∙◌, arith}
use Rattle.std.proofs.lemmas.Result.{err_from_is_err_and}
use Rattle.steps.specs.declared.stop.Stop.TheVariants.{Spent as spent}
use Rattle.calculus.specs.Limits.{assignment_limit}
use Rattle.calculus.specs.Rows.{variables_in}
use Rattle.trail.proofs.Keeping.{assigned_few}
use Rattle.search.specs.Counting.{size_of}
use Rattle.search.specs.Moves.{Advances, Proceeds}
use Rattle.search.proofs.Aging.{older_then}
use Rattle.search.proofs.Ending.{limit_rises}
use Rattle.search.proofs.Following.{due_at_stop, matrix_moves}
use Rattle.search.proofs.Forcing.{assumptions_few}
use Rattle.search.proofs.Starting.{distinct}
use Rattle.search.proofs.search.Search.run.Goals as goal

pub turns-smaller : goal.turns-smaller
turns-smaller c =
    let adv : Advances c.args.prefix.now 0 c.turns.self c.turn.new.self c.turns.steps c.turn.new.steps =
    c.in_ok-end.ensures.goes.go (ap Ok c.in_default.is) in
    let more : Proceeds c.turns.self.trail c.turn.new.self.trail =
    (adv.counted c.args.steps.now.spent c.turns.invariant.counted).1 in
    let most : c.turn.new.self.trail.restarts ≤ c.args.restarts = c.turn.ensures.goes.restarts
    c.turns.invariant.restarts in
    let few : c.turn.new.self.trail.assigned + 1 < assignment_limit c.turn.new.self.trail.restarts
    (size_of c.args.prefix.now) =
    assigned_few c.args.prefix.now c.turn.new.self.trail adv.searching.paused.intact.trail in
    let all = limit_rises c.turn.new.self.trail.restarts c.args.restarts (size_of c.args.prefix.now) most in
    let goes : (assignment_limit c.args.restarts (size_of c.args.prefix.now) + c.args.restarts)
    - (c.turn.new.self.trail.assigned + c.turn.new.self.trail.restarts)
    < (assignment_limit c.args.restarts (size_of c.args.prefix.now) + c.args.restarts)
    - (c.turns.self.trail.assigned + c.turns.self.trail.restarts) = omega (arith, more, most, few, all) in
    goes

pub turns-preserved : goal.turns-preserved
turns-preserved c =
    let adv : Advances c.args.prefix.now 0 c.turns.self c.turn.new.self c.turns.steps c.turn.new.steps =
    c.in_ok-end.ensures.goes.go (ap Ok c.in_default.is) in
    let i = c.turns.invariant in
    let one = i.rises in
    let two = adv.rises in
    record {
      searching = adv.searching;
      allowed = adv.allowed;
      assumed = adv.assumed c.args.assumptions.now i.assumed;
      counted = (adv.counted c.args.steps.now.spent i.counted).0;
      clauses = adv.clauses ∙ i.clauses;
      older = older_then c.args.self.now.derivation c.turns.self.derivation c.turn.new.self.derivation i.older
          adv.older;
      budget = adv.budget ∙ i.budget;
      rises = omega arith;
      forced = λ none refuted. c.in_ok-end.ensures.forced c.args.steps.now.spent (i.forced none refuted)
          (ap Ok c.in_default.is);
      restarts = c.turn.ensures.goes.restarts i.restarts;
      long = c.in_ok-end.ensures.goes.long i.long;
      reductions = let more = i.reductions in let paid = c.turn.ensures.stops.reductions in
          omega arith;
      matrix = matrix_moves c.turns.self.derivation c.turn.new.self.derivation c.args.matrix.now adv.clauses i.matrix;
    }

pub returns-in_err-assume-clause-refuted : goal.returns-in_err-assume-clause-refuted
returns-in_err-assume-clause-refuted c = λ none refuted is.
    let few = assumptions_few c.args.prefix.now c.args.assumptions.now c.requires.outer
    (distinct (variables_in c.args.assumptions.now) c.requires.ascending) in
    let due = c.in_err-assume.ensures.due in
    omega arith

pub returns-in_err-end-clause-bounded : goal.returns-in_err-end-clause-bounded
returns-in_err-end-clause-bounded c =
    c.in_err-end.ensures.stops.err.bounded c.args.steps.now.spent c.turns.invariant.counted

pub returns-in_err-end-clause-due : goal.returns-in_err-end-clause-due
returns-in_err-end-clause-due c = λ is.
    let p = err_from_is_err_and c.from_residual-in_err-end.result c.from_residual-in_err-end.ensures.1 in
    let same : p.0 ≡ spent = (let g = sym p.1 ∙ is in cc) in
    let i = c.turns.invariant in
    due_at_stop c.args.prefix.now c.args.self.now.derivation c.turns.self c.turn.new.self c.args.assumptions.now
    c.args.steps.now i.clauses i.assumed (c.in_err-end.ensures.stops.due (ap Err (sym p.2 ∙ same)))

pub returns-in_err-end-clause-reductions : goal.returns-in_err-end-clause-reductions
returns-in_err-end-clause-reductions c =
    let i = c.turns.invariant in
    let before = i.reductions in
    let one = i.rises in
    let halts = c.in_err-end.ensures.stops.err in
    let two = halts.rises in
    let more = c.in_err-end.ensures.stops.reductions in
    omega arith

pub returns-in-Some-clause-reductions : goal.returns-in-Some-clause-reductions
returns-in-Some-clause-reductions c =
    let i = c.turns.invariant in
    let before = i.reductions in
    let one = i.rises in
    let ends = rw c.in-Some.is at c.in_ok-end.ensures.goes.end in
    let two = ends.rises in
    let more = c.in_ok-end.ensures.stops.reductions in
    omega arith
