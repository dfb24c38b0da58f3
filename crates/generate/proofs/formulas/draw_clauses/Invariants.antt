use Rattle.std.proofs.Common.{◌≡◌, ◌*◌}
use Rattle.generate.specs.Draws.{state_at}
use Rattle.generate.specs.Made.{clauses_from}
use Rattle.generate.proofs.formulas.draw_clauses.Given as goal

-- the clauses so far are drawn, with six numbers for each
abbrev pub invariant-loop : goal.invariant-loop
invariant-loop l = record {
  state : l.draws ≡ state_at l.fn.draws (6 * l.counter);
  done : l.clauses ≡ clauses_from l.fn.draws l.vars l.counter;
}
