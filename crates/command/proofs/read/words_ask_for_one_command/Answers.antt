use Rattle.command.proofs.AccountLemmas.{one_command, one_input}
use Rattle.command.proofs.read.words_ask_for_one_command.Goals as goal

pub returns-clause-values : goal.returns-clause-values
returns-clause-values c = λ words v w m n j k i l q r g h. one_input words v w m n j k i l q r g h

pub returns-clause-commands : goal.returns-clause-commands
returns-clause-commands c = one_command
