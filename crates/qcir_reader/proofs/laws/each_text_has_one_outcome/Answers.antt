use Rattle.qcir_reader.proofs.Outcomes.{computed_reads, has_outcome}
use Rattle.qcir_reader.proofs.Complete.{reads_computed, one_outcome}
use Rattle.qcir_reader.proofs.laws.each_text_has_one_outcome.Goals as goal

pub returns : goal.returns
returns c = record {
  some = λ text. let found = has_outcome text in (found.0, computed_reads text found.0 found.1);
  one = one_outcome;
  computed = computed_reads;
  complete = reads_computed;
}
