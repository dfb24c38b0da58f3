use Rattle.std.proofs.Common.{◌≡◌, max}
use Rattle.qrp_trace.specs.Texts.{greatest}
use Rattle.qrp_trace.proofs.text.greatest_of.Given as goal

-- the greatest so far, and that of those that follow
abbrev pub invariant-loop-v : goal.invariant-loop-v
invariant-loop-v l = max l.most (greatest l.v-iterator) ≡ greatest l.vars.keys
