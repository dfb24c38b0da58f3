use Rattle.std.proofs.Common.{List, ℕ, subst}
use Rattle.qbf_c.specs.Buffers.{IsPut}
use Rattle.qbf_c.proofs.Checking.{check_put}
use Rattle.qbf_c.proofs.formulas.check_formula.Goals as goal

pub returns-in-Ok-clause-says : goal.returns-in-Ok-clause-says
returns-in-Ok-clause-says c =
    check_put c.in-Ok.draft c.args.trimmed c.args.engine.now c.in-Ok.draft.bytes c.args.bytes.now c.fill.new.buffer
    c.args.count.now c.fill.new.count c.fill.result c.in-Ok.ensures.refused c.in-Ok.ensures.text
    (subst (λ (t : List ℕ). IsPut t c.args.bytes.now c.fill.new.buffer c.fill.new.count c.fill.result) c.bytes.ensures
    c.fill.ensures)
