use Rattle.std.proofs.Common.{Err, ap, arith, ◌∙◌}
use Rattle.search.proofs.Ending.{due_first, is_spent, steps_few}
use Rattle.search.proofs.Following.{matrix_moves}
use Rattle.search.proofs.search.Search.solve.Goals as goal

pub run-requires-clause-matrix : goal.run-requires-clause-matrix
run-requires-clause-matrix c =
    matrix_moves c.args.self.now.derivation c.start.new.self.derivation c.args.matrix.now
    c.start.ensures.clauses c.requires.matrix

pub conclude-requires-clause-matrix : goal.conclude-requires-clause-matrix
conclude-requires-clause-matrix c =
    matrix_moves c.args.self.now.derivation c.run.new.self.derivation c.args.matrix.now
    (c.run.ensures.clauses ∙ c.start.ensures.clauses) c.requires.matrix

pub returns-in-Err-Spent-clause-stop : goal.returns-in-Err-Spent-clause-stop
returns-in-Err-Spent-clause-stop c =
    let is = c.in-Err-Spent.is ∙ ap Err c.in-Err-Spent.field-0-is in
    let e = c.run.ensures in
    is_spent c.args.restarts c.args.prefix.now c.args.self.now.derivation c.args.assumptions.now
    c.args.steps.now c.run.new.steps c.run.new.self.trail c.stop.result e.restarts e.paused.intact.trail (e.spent is)
    e.budget
    (due_first c.args.prefix.now c.args.self.now.derivation c.start.new.self.derivation c.args.assumptions.now
    c.args.steps.now c.run.new.self.trail.assigned c.start.ensures.clauses (e.due is))
    e.bounded
    c.stop.ensures.stopped

pub returns-in-Ok-clause-reductions : goal.returns-in-Ok-clause-reductions
returns-in-Ok-clause-reductions c =
    let first = c.start.ensures.reductions in
    let more = c.run.ensures.reductions in
    let last = c.conclude.ensures.reductions in
    omega (arith, first, more, last)

pub returns-in-Err-Spent-clause-reductions : goal.returns-in-Err-Spent-clause-reductions
returns-in-Err-Spent-clause-reductions c =
    let first = c.start.ensures.reductions in
    let more = c.run.ensures.reductions in
    let last = c.stop.ensures.reductions in
    omega (arith, first, more, last)

pub returns-in-Ok-clause-few : goal.returns-in-Ok-clause-few
returns-in-Ok-clause-few c =
    steps_few c.args.restarts c.args.prefix.now c.args.steps.now.spent c.run.new.self.trail c.run.new.steps
    c.run.ensures.restarts c.run.ensures.paused.intact.trail c.run.ensures.bounded

pub returns-in-Err-NoMemory-clause-few : goal.returns-in-Err-NoMemory-clause-few
returns-in-Err-NoMemory-clause-few c =
    steps_few c.args.restarts c.args.prefix.now c.args.steps.now.spent c.run.new.self.trail c.run.new.steps
    c.run.ensures.restarts c.run.ensures.paused.intact.trail c.run.ensures.bounded

pub returns-in-Err-Spent-clause-few : goal.returns-in-Err-Spent-clause-few
returns-in-Err-Spent-clause-few c =
    steps_few c.args.restarts c.args.prefix.now c.args.steps.now.spent c.run.new.self.trail c.run.new.steps
    c.run.ensures.restarts c.run.ensures.paused.intact.trail c.run.ensures.bounded
