use Rattle.std.proofs.Common.{refl}
use Rattle.frames.proofs.worked.worked_commands.Goals as goal

pub returns : goal.returns
returns c = record {
  frames = refl;
  opened = refl;
  pushed = refl;
  literals = refl;
  accepted = refl;
  popped = refl;
  once = refl;
  no_frame = refl;
  zero = refl;
  unknown = refl;
  inner = refl;
  clash = refl;
  held_first = refl;
  held = refl;
  twice = refl;
  range = refl;
  no_scope = refl;
  verdict = refl;
  emptied = refl;
  solves = refl;
  greatest = refl;
  removed = refl;
}
