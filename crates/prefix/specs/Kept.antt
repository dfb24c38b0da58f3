-- How a list of literals is kept.
use Rattle.std.specs.Prelude.{List, []}
use Rattle.prefix.specs.Literal.{Literal}
use Rattle.prefix.specs.declared.lit_list.Kept.{Kept}
use Rattle.prefix.specs.declared.lit_list.Kept.TheVariants.{None, One, Two, Three, Four, Five, More}

-- the literals that stand in place, or in a vector
abbrev pub literals_kept : Kept → List Literal
literals_kept None = []
literals_kept (One lits) = lits
literals_kept (Two lits) = lits
literals_kept (Three lits) = lits
literals_kept (Four lits) = lits
literals_kept (Five lits) = lits
literals_kept (More lits) = lits.value.items
