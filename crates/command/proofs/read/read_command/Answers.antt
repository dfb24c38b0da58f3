use Rattle.std.proofs.Common.{List, map, string_bytes, subst}
use Rattle.clap.specs.Words.{Text}
use Rattle.command.specs.Account.{IsFoundAs}
use Rattle.command.proofs.AccountLemmas.{account_of, asked_by, explains_error, explains_form, fault_is}
use Rattle.command.proofs.read.read_command.Goals as goal

pub returns-in-Some-clause-asked : goal.returns-in-Some-clause-asked
returns-in-Some-clause-asked c =
    let words : List Text = map string_bytes c.args.words.now in
    let fine = c.in-Ok.ensures in
    let account = account_of _ words c.in-Ok.matches c.in_ok-program.ensures fine.kinds fine.ok.2 in
    let some = c.in-Some.ensures.some in
    asked_by words c.in-Some.command account.0 some.0 (subst (IsFoundAs c.in-Some.command) account.1 some.1)

pub returns-in-Some-clause-account : goal.returns-in-Some-clause-account
returns-in-Some-clause-account c =
    let words : List Text = map string_bytes c.args.words.now in
    let fine = c.in-Ok.ensures in
    let account = account_of _ words c.in-Ok.matches c.in_ok-program.ensures fine.kinds fine.ok.2 in
    (account.0, subst (IsFoundAs c.in-Some.command) account.1 c.in-Some.ensures.some.1)

pub returns-in-Ok-clause-refused : goal.returns-in-Ok-clause-refused
returns-in-Ok-clause-refused c =
    let words : List Text = map string_bytes c.args.words.now in
    let fine = c.in-Ok.ensures in
    let account = account_of _ words c.in-Ok.matches c.in_ok-program.ensures fine.kinds fine.ok.2 in
    explains_form words c.out_of_form.result c.in-Ok.matches account.1 c.in-None.ensures.none

pub returns-clause-refused : goal.returns-clause-refused
returns-clause-refused c =
    let words : List Text = map string_bytes c.args.words.now in
    let kind = fault_is _ words c.in-Err.error c.in_ok-program.ensures c.in-Err.ensures.kinds in
    explains_error words c.refused.result c.in-Err.error c.refused.ensures kind
