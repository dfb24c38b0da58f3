use Rattle.std.proofs.Common.{refl}
use Rattle.qbf_c.proofs.Reading.{read_made, read_refused}
use Rattle.qbf_c.proofs.exports.formulas.qbf_read.Goals as goal

pub returns-in-Ok : goal.returns-in-Ok
returns-in-Ok c =
    read_made c.args.text.now _ c.hold.new.qbf.live c.in-Ok.engine c.hold.new.qbf.engine c.args.line.now c.hold.result
    c.in-Ok.ensures.read c.hold.ensures

pub returns-in-Err : goal.returns-in-Err
returns-in-Err c =
    read_refused c.args.text.now _ c.args.qbf.now.live c.args.qbf.now.engine c.args.line.now c.refused.new.line
    c.refused.result c.in-Err.refusal c.in-Err.ensures.refused refl c.refused.ensures.code c.refused.ensures.line
