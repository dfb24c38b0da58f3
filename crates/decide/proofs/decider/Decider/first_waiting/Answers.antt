use Rattle.std.proofs.Common.{sym, ◌∙◌}
use Rattle.decide.proofs.Choosing.{level_is, level_open, none_from}
use Rattle.decide.proofs.decider.Decider.first_waiting.Goals as goal

pub returns-then-eq-clause-some : goal.returns-then-eq-clause-some
returns-then-eq-clause-some c =
    level_open c.args.prefix.now c.args.trail.now.placed c.args.scope c.in_ok-v.v
    (sym c.level.ensures.value ∙ level_is c.level.result c.args.scope (sym c.if-eq.ensures))
    (sym c.value.ensures ∙ none_from c.value.result c.if-is_none.ensures)
