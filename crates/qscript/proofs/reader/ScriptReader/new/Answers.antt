use Rattle.std.proofs.Common.{ap, ◌∙◌, Some, None}
use Rattle.qscript.specs.Run.{between}
use Rattle.qscript.specs.State.{reading_at}
use Rattle.qscript.proofs.Outcomes.{reading_computed}
use Rattle.qscript.proofs.reader.ScriptReader.new.Goals as goal

pub returns-clause-script : goal.returns-clause-script
returns-clause-script c = λ text version cs e r.
    ap (reading_at (between None)) (c.in_ok-lexer.ensures.items text) ∙ ap Some (reading_computed text version cs e r)
