use Rattle.qcir_reader.proofs.Taking.{quantifier_noted}
use Rattle.qcir_reader.proofs.reader.Reader.note_quantifier.Goals as goal

pub returns-in-Quantifier-clause-notes : goal.returns-in-Quantifier-clause-notes
returns-in-Quantifier-clause-notes c = λ line f rep.
    quantifier_noted c.args.self.now f c.args.sign c.in-Quantifier.quant line c.requires c.in-Quantifier.is rep
