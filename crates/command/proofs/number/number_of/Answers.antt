use Rattle.std.proofs.Common.{rules, subst, sym, Ok, Err, ℕ}
use Rattle.command.proofs.NumberLemmas.{IsBare, decimal_is_bare, parsed_is_decimal}
use Rattle.command.proofs.number.number_of.Goals as goal

pub returns-then-not-is_bare-clause-none : goal.returns-then-not-is_bare-clause-none
returns-then-not-is_bare-clause-none c = λ n small is.
    let bare : IsBare c.args.text.now = subst IsBare (sym is) (decimal_is_bare n small) in
    let yes = c.is_bare.ensures.1 (search rules) in
    search rules

pub returns-in-Ok-clause-some : goal.returns-in-Ok-clause-some
returns-in-Ok-clause-some c =
    let bare : IsBare c.args.text.now = search rules in
    parsed_is_decimal {E = ℕ} c.args.text.now (Ok c.in-Ok.number) bare c.in-Ok.ensures.value.0

pub returns-in-Err-clause-none : goal.returns-in-Err-clause-none
returns-in-Err-clause-none c =
    let bare : IsBare c.args.text.now = search rules in
    parsed_is_decimal {E = ℕ} c.args.text.now (Err 0) bare c.in-Err.ensures.value.0
