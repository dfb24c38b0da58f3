use Rattle.std.proofs.Common.{◌≡◌, Option, Some, None, ap, is_some, refl}
use Rattle.std.specs.Prelude.{SomeIff}
use Rattle.prefix.specs.Scopes.{level_of}
use Rattle.frames.proofs.Knowing.{known_in_range}
use Rattle.engine.proofs.Asking.{level_is}
use Rattle.engine.proofs.asks.outermost.Goals as goal

not_some : {T : Type 0} (o : Option T) (P : Type 0) (v : T) → SomeIff o P v → ((x : T) → o ≡ Some x → ⊥) → P → ⊥
not_some None P v h g p = h p
not_some (Some x) P v h g p = g x refl

pub returns-in_default : goal.returns-in_default
returns-in_default c outermost =
    let first = level_is (level_of c.args.prefix.now c.args.var) outermost in
    not_some c.variable.result _ _ c.variable.ensures c.in_default.not-Some
    (known_in_range c.args.prefix.now c.args.var c.scopes-valid.ensures.valid (ap is_some first))
