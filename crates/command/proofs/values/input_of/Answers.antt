use Rattle.std.proofs.Common.{rules, option_map}
use Rattle.command.proofs.ValueLemmas.{if_none, no_budget, other_budget, other_kept, other_name, other_restarts, values}
use Rattle.command.proofs.values.input_of.Goals as goal

pub returns-in_err-get_str-clause-none : goal.returns-in_err-get_str-clause-none
returns-in_err-get_str-clause-none c =
    if_none c.from_residual.result _ (λ n k l g. no_budget c.args.found.now n k l g c.in_err-get_str.ensures)

pub returns-in_err-budget-clause-none : goal.returns-in_err-budget-clause-none
returns-in_err-budget-clause-none c = if_none c.from_residual-in_err-budget.result _ (λ n k l g.
    other_budget c.args.found.now n k l g c.in_ok-get_str.field-0.now c.in_ok-get_str.ensures
    c.in_err-budget.ensures.none)

pub returns-in_err-restarts-clause-none : goal.returns-in_err-restarts-clause-none
returns-in_err-restarts-clause-none c = if_none c.from_residual-in_err-restarts.result _ (λ n k l g.
    other_restarts c.args.found.now n k l g c.in_err-restarts.ensures.none)

pub returns-in_err-kept-clause-none : goal.returns-in_err-kept-clause-none
returns-in_err-kept-clause-none c = if_none c.from_residual-in_err-kept.result _ (λ n k l g.
    other_kept c.args.found.now n k l g c.in_err-kept.ensures.none)

pub returns-then-not-has_no_hyphen-clause-none : goal.returns-then-not-has_no_hyphen-clause-none
returns-then-not-has_no_hyphen-clause-none c = λ n k l g.
    other_name c.args.found.now n k l g (option_map (λ s. s.now) c.get_str-name.result) c.get_str-name.ensures
    (λ fine. let yes = c.has_no_hyphen.ensures.1 fine in search rules)

pub returns-clause-some : goal.returns-clause-some
returns-clause-some c =
    let given = option_map (λ s. s.now) c.get_str-name.result in
    values c.args.found.now c.in_ok-budget.budget c.in_ok-restarts.restarts c.in_ok-kept.kept given
    c.in_ok-get_str.field-0.now
    (search rules) c.in_ok-get_str.ensures c.in_ok-budget.ensures.some c.in_ok-restarts.ensures.some
    c.in_ok-kept.ensures.some
    c.get_str-name.ensures (c.has_no_hyphen.ensures.0 (search rules))
