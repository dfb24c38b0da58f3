use Rattle.std.proofs.Common.{◌≡◌, ◌↔◌, false}
use Rattle.prefix.specs.Sides.{opposite}
use Rattle.truth.specs.declared.formula.Formula.{Formula}
use Rattle.truth.specs.Truth.{truth}
use Rattle.calculus.specs.Plays.{Wins}
use Rattle.aig.specs.Strategies.{values_of}
use Rattle.certcheck.specs.Check.{checked}
use Rattle.certcheck.proofs.Answering.{answer_formed, answer_has}
use Rattle.certcheck.proofs.check.check_circuit.Goals as goal

pub returns-clause-decides : goal.returns-clause-decides
returns-clause-decides c =
    let scopes = c.args.prefix.now in
    let rows = c.args.clauses.now in
    let ls = c.args.assumptions.now in
    let s = c.args.s.now in
    answer_has (λ (g : Formula). (truth g.prefix g.clauses ≡ false)
    ↔ Wins (opposite s.winner) scopes rows ls (values_of s)) c.make_formula.result (checked rows ls s)
    c.make_formula.ensures
    (c.check_formulas_decide.ensures scopes rows ls s c.scopes-distinct.ensures.valid.distinct
    c.gates-proper.ensures.proper c.requires)

pub returns-clause-formed : goal.returns-clause-formed
returns-clause-formed c =
    let ls = c.args.assumptions.now in
    let s = c.args.s.now in
    answer_formed c.make_formula.result (checked c.args.clauses.now ls s) c.make_formula.ensures
    (c.check_rows_are_formed.ensures c.args.clauses.now ls s c.requires.strategy c.gates-proper.ensures.proper)
