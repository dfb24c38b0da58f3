use Rattle.std.proofs.Common.{◌≡◌, Option, Some, None, is_some, refl, ap, ◌∙◌}
use Rattle.std.specs.Prelude.{option_map}
use Rattle.frames.proofs.groups.Groups.is_group.Goals as goal

mapped : {X Y : Type 0} (f : X → Y) (o : Option X) → is_some o ≡ is_some (option_map f o)
mapped f None = refl
mapped f (Some x) = refl

pub returns : goal.returns
returns c = c.is_some.ensures ∙ mapped _ c.group.result ∙ ap is_some c.group.ensures
