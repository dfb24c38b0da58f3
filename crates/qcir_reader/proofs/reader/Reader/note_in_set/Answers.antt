use Rattle.std.proofs.Common.{refl}
use Rattle.qcir_reader.proofs.Taking.{in_set_noted}
use Rattle.qcir_reader.proofs.reader.Reader.note_in_set.Goals as goal

pub returns-in_default : goal.returns-in_default
returns-in_default c = record {
  notes = λ f rep. in_set_noted c.args.self.now c.args.place f c.args.sign c.args.line c.requires.stage
      c.in_default.not-Number rep;
  stage = refl;
}
