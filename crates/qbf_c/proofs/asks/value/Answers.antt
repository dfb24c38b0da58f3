use Rattle.std.proofs.Common.{◌∙◌, w32}
use Rattle.std.proofs.Math.Facts.{to_z-of_z}
use Rattle.engine.specs.Asks.{values_of}
use Rattle.qbf_c.proofs.Values.{assumed_number}
use Rattle.qbf_c.proofs.asks.value.Goals as goal

pub returns-in-Ok-clause-assumed : goal.returns-in-Ok-clause-assumed
returns-in-Ok-clause-assumed c ok =
    let is = to_z-of_z {w = w32} {z = c.number.result} (record { sfits = c.number.type_inv }) ∙ c.number.ensures in
    assumed_number c.args.engine.now.verdict (values_of c.args.engine.now.formula) c.args.var c.in-Ok.answer _ is
    c.in-Ok.ensures.value c.in-Ok.ensures.assumed
