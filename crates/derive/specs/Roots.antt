-- The sorts of steps that are dropped.
use Rattle.rows.specs.Arena.{Arena}
use Rattle.derive.specs.Cubes.{misses, misses_one}
use Rattle.derive.specs.Dropping.{StepTest, finishes, has_tag, is_from, is_outside, names}
use Rattle.derive.specs.declared.dropping.Roots.{Roots}
use Rattle.derive.specs.declared.dropping.Roots.TheVariants.{Frame, Finishes, From, Missing, MissingOne, Outside}

-- the steps that a sort of roots names
abbrev pub is_root : Roots → Arena → StepTest
is_root (Frame frame) rows = has_tag frame
is_root Finishes rows = finishes
is_root (From first) rows = is_from first
is_root (Outside prefix) rows = names (is_outside prefix.now) rows
is_root (Missing clause) rows = misses clause.now rows
is_root (MissingOne clauses) rows = misses_one clauses.now rows
