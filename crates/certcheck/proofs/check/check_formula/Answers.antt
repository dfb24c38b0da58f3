use Rattle.std.proofs.Common.{◌≡◌, ◌↔◌, false, IfOk, List, subst, sym}
use Rattle.prefix.specs.Sides.{opposite}
use Rattle.truth.specs.declared.formula.Formula.{Formula}
use Rattle.truth.specs.Truth.{truth}
use Rattle.calculus.specs.Rows.{Row}
use Rattle.calculus.specs.Plays.{Wins}
use Rattle.aig.specs.Strategies.{values_of}
use Rattle.certcheck.specs.Building.{IsAnswer}
use Rattle.certcheck.specs.Check.{checked}
use Rattle.certcheck.specs.Theorems.{IsFor}
use Rattle.certcheck.proofs.check.check_formula.Goals as goal

pub check_circuit-requires : goal.check_circuit-requires
check_circuit-requires c =
    subst (λ (rows : List Row). IsFor c.args.f.now.prefix rows c.args.assumptions.now c.args.s.now)
    (sym c.clauses.ensures) c.requires

pub returns-clause-answer : goal.returns-clause-answer
returns-clause-answer c =
    subst (λ (rows : List Row). IsAnswer c.check_circuit.result (checked rows c.args.assumptions.now c.args.s.now))
    c.clauses.ensures c.check_circuit.ensures.answer

pub returns-clause-decides : goal.returns-clause-decides
returns-clause-decides c =
    let s = c.args.s.now in
    subst (λ (rows : List Row). IfOk c.check_circuit.result (λ (g : Formula). (truth g.prefix g.clauses ≡ false)
    ↔ Wins (opposite s.winner) c.args.f.now.prefix rows c.args.assumptions.now (values_of s)))
    c.clauses.ensures c.check_circuit.ensures.decides
