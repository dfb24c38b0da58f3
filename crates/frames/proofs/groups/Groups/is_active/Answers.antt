use Rattle.std.proofs.Common.{Option, false, ap, ◌∙◌}
use Rattle.std.specs.Prelude.{option_map, unwrap_or}
use Rattle.frames.specs.Groups.{Group}
use Rattle.frames.proofs.groups.Groups.is_active.Goals as goal

pub returns-in-Some : goal.returns-in-Some
returns-in-Some c = c.is_active.ensures
    ∙ ap (λ (o : Option Group). unwrap_or (option_map (λ (g : Group). g.active) o) false) c.in-Some.ensures

pub returns-in-None : goal.returns-in-None
returns-in-None c =
    ap (λ (o : Option Group). unwrap_or (option_map (λ (g : Group). g.active) o) false) c.in-None.ensures
