use Rattle.std.proofs.Common.{ap, ◌∙◌}
use Rattle.generate.specs.Made.{clauses_from}
use Rattle.generate.proofs.Forming.{made_formed}
use Rattle.generate.proofs.formulas.make.Goals as goal

pub returns-clause-formed : goal.returns-clause-formed
returns-clause-formed c =
    let clauses = c.in_ok-draw_clauses.ensures
    ∙ ap (λ start. clauses_from start c.args.vars c.args.clauses) c.new-draws.ensures in
    rw (c.in-Ok.ensures.scopes, clauses) (made_formed c.args.seed c.args.vars c.args.clauses c.requires.low
    c.requires.high c.requires.count)
