-- What a sort of roots names doesn't change where rows keep their literals.
use Rattle.std.proofs.Common.{◌≡◌, ℕ, refl}
use Rattle.rows.specs.Arena.{Arena, literals_at}
use Rattle.derive.specs.State.{Note}
use Rattle.derive.specs.Dropping.{is_outside}
use Rattle.derive.specs.Roots.{is_root}
use Rattle.derive.specs.declared.dropping.Roots.{Roots}
use Rattle.derive.specs.declared.dropping.Roots.TheVariants.{Frame, Finishes, From, Missing, MissingOne, Outside}
use Rattle.derive.proofs.Leaving.{names_same}
use Rattle.derive.proofs.Missed.{misses_one_same, misses_same}

pub root_same : (roots : Roots) (old_rows rows : Arena) (id : ℕ) (note : Note)
    → literals_at rows id ≡ literals_at old_rows id → is_root roots rows id note ≡ is_root roots old_rows id note
root_same (Frame frame) old_rows rows id note e = refl
root_same Finishes old_rows rows id note e = refl
root_same (From first) old_rows rows id note e = refl
root_same (Outside prefix) old_rows rows id note e = names_same (is_outside prefix.now) old_rows rows id note e
root_same (Missing clause) old_rows rows id note e = misses_same clause.now old_rows rows id note e
root_same (MissingOne clauses) old_rows rows id note e = misses_one_same clauses.now old_rows rows id note e
