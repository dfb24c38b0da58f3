use Rattle.qdimacs_out.proofs.Lengths.{text_long}
use Rattle.qdimacs_out.proofs.ReadBack.{written_read}
use Rattle.qdimacs_out.proofs.Readable.{read_writable}
use Rattle.qdimacs_out.proofs.laws.read_formulas_are_writable.Goals as goal

pub returns : goal.returns
returns c = record { read = read_writable; written = written_read; bounded = text_long }
