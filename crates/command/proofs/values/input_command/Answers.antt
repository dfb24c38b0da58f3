use Rattle.clap.specs.Words.{found_of, rows_of}
use Rattle.command.proofs.ValueLemmas.{if_none, no_input, no_verb}
use Rattle.command.proofs.values.input_command.Goals as goal

pub returns-in_err-input-clause-none : goal.returns-in_err-input-clause-none
returns-in_err-input-clause-none c = λ gen demo. if_none c.from_residual.result _
    (no_input (rows_of (found_of c.args.found.now)) c.args.word.now gen demo c.in_err-input.ensures.none)

pub returns-in_err-verb-clause-none : goal.returns-in_err-verb-clause-none
returns-in_err-verb-clause-none c = λ gen demo. if_none c.from_residual-in_err-verb.result _
    (no_verb (rows_of (found_of c.args.found.now)) c.args.word.now gen demo c.in_err-verb.ensures.none)
