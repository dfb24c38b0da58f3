use Rattle.qdimacs_out.proofs.ReadBack.{fewer_refused, written_read}
use Rattle.qdimacs_out.proofs.Readable.{read_writable}
use Rattle.qdimacs_out.proofs.laws.written_formulas_are_read.Goals as goal

pub returns : goal.returns
returns c = record {
  again = λ text f r all short. written_read f (read_writable text f r) all short;
  fewer = λ text f r less short. fewer_refused f (read_writable text f r) less short;
}
