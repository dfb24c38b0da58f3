use Rattle.std.proofs.Common.{◌≡◌, true, take}
use Rattle.std.specs.List.{list_all}
use Rattle.frames.specs.Commands.{is_known}
use Rattle.frames.proofs.lists.are_known.Given as goal

-- the variables so far are in the prefix
abbrev pub invariant-loop-n : goal.invariant-loop-n
invariant-loop-n l = list_all (is_known l.prefix) (take l.n-index l.numbers) ≡ true
