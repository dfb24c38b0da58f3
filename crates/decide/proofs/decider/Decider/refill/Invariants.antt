use Rattle.std.proofs.Common.{◌≡◌}
use Rattle.prefix.specs.Scopes.{variables_at}
use Rattle.decide.proofs.Choosing.{HasOne}
use Rattle.decide.proofs.decider.Decider.refill.Given as goal

abbrev pub invariant-loop-v : goal.invariant-loop-v
invariant-loop-v l = HasOne l.prefix l.trail.placed l.scope (variables_at l.prefix l.scope) l.v-iterator l.one
    × (l.self ≡ l.fn.self)
