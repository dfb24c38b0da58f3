use Rattle.std.proofs.Common.{◌+◌, ap, ◌∙◌, ◌++◌, List, ℕ}
use Rattle.aiger_out.specs.Text.{numeral}
use Rattle.aiger_out.specs.Written.{form_word}
use Rattle.aiger_out.proofs.Words.{six_in_turn}
use Rattle.aiger_out.proofs.line.header_line.Goals as goal

pub returns : goal.returns
returns c =
    six_in_turn (form_word c.args.form) (numeral (c.args.inputs + c.args.gates)) (numeral c.args.inputs) (numeral 0)
    (numeral c.args.outputs) (numeral c.args.gates)
    c.word.new.self c.push_number.new.line c.push_number-2.new.line c.push_number-3.new.line c.push_number-4.new.line
    c.push_number-5.new.line
    (c.word.ensures.bytes ∙ ap (λ (t : List ℕ). t ++ c.form_text.result.now) c.new-line.ensures ∙ c.form_text.ensures)
    c.push_number.ensures.bytes c.push_number-2.ensures.bytes c.push_number-3.ensures.bytes
    c.push_number-4.ensures.bytes c.push_number-5.ensures.bytes
