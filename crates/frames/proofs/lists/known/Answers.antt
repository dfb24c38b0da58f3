use Rattle.std.proofs.Common.{◌≡◌, nat_abs, refl, ◌∙◌, ap, arith, Some, None, Option}
use Rattle.std.specs.Prelude.{SomeIff}
use Rattle.std.proofs.Math.Facts.{to_z-of_z}
use Rattle.frames.proofs.Knowing.{unknown}
use Rattle.frames.proofs.lists.known.Goals as goal

not_some : {T : Type 0} (o : Option T) (P : Type 0) (v : T) → SomeIff o P v → ((x : T) → o ≡ Some x → ⊥) → P → ⊥
not_some None P v h g p = h p
not_some (Some x) P v h g p = g x refl

pub returns-then-magnitude-clause-value : goal.returns-then-magnitude-clause-value
returns-then-magnitude-clause-value c =
    let is : c.magnitude_of-magnitude.result ≡ nat_abs c.args.n = c.magnitude_of-magnitude.ensures
    ∙ ap nat_abs (to_z-of_z c.ranges.n) in
    rw (unknown c.args.prefix.now c.args.n c.scopes.ensures.valid
    (λ low high. omega (arith, high, is, c.if-magnitude.true))) refl

pub returns-in_default-clause-value : goal.returns-in_default-clause-value
returns-in_default-clause-value c =
    let is : c.magnitude_of-magnitude.result ≡ nat_abs c.args.n = c.magnitude_of-magnitude.ensures
    ∙ ap nat_abs (to_z-of_z c.ranges.n) in
    rw (unknown c.args.prefix.now c.args.n c.scopes-in_default.ensures.valid
    (λ low high. not_some c.new.result _ _ c.new.ensures c.in_default.not-Some
    (omega (arith, is, low), omega (arith, is, high)))) refl
