use Rattle.qscript.specs.Run.{reading_of}
use Rattle.qscript.proofs.Outcomes.{computed_reading, reading_computed, one_reading}
use Rattle.qscript.proofs.laws.each_script_has_one_reading.Goals as goal

pub returns : goal.returns
returns c = record {
  some = λ text. let r = reading_of text in (r.version, r.script.0, r.script.1, computed_reading text);
  one = one_reading;
  computed = computed_reading;
  complete = reading_computed;
}
