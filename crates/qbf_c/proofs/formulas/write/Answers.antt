use Rattle.std.proofs.Common.{List, ℕ, subst}
use Rattle.qbf_c.specs.Buffers.{IsPut}
use Rattle.qbf_c.proofs.Writing.{write_left, write_put}
use Rattle.qbf_c.proofs.formulas.write.Goals as goal

pub returns-in-Ok-clause-says : goal.returns-in-Ok-clause-says
returns-in-Ok-clause-says c =
    write_put c.args.engine.now.formula c.in-Ok.draft.bytes c.args.bytes.now c.fill.new.buffer c.args.count.now
    c.fill.new.count c.fill.result c.in-Ok.ensures.text c.in-Ok.ensures.few
    (subst (λ (t : List ℕ). IsPut t c.args.bytes.now c.fill.new.buffer c.fill.new.count c.fill.result) c.bytes.ensures
    c.fill.ensures)

pub returns-in-Err-clause-says : goal.returns-in-Err-clause-says
returns-in-Err-clause-says c =
    write_left c.args.engine.now.formula c.args.bytes.now c.args.count.now c.in-Err.code c.in-Err.ensures.many
