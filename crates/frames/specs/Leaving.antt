-- What holds of the variables that leave with their frame.
use Rattle.std.specs.Prelude.{◌≡◌, ℕ, false, true, List, [], ◌∷◌, flat_map, if◌then◌else◌, is_some, None, ⊤}
use Rattle.std.specs.List.{AllByRecursion}
use Rattle.prefix.specs.Literal.{Literal}
use Rattle.prefix.specs.Scopes.{Scope, AreDistinct, is_among, level_of}
use Rattle.calculus.specs.Derivations.{Extends}
use Rattle.calculus.specs.Rows.{Row}
use Rattle.versions.specs.declared.version.Version.{Version}
use Rattle.versions.specs.declared.version.Version.TheVariants.{One}
use Rattle.frames.specs.State.{Frame, without_variables}

-- all variables that leave with one of these frames
abbrev pub leaving : List Frame → List ℕ
leaving frames = flat_map (λ (f : Frame). f.variables) frames

-- a row names none of these variables
abbrev pub NamesNone : List ℕ → Row → Type 0
NamesNone vs row = AllByRecursion (λ (l : Literal). is_among l.variable vs ≡ false) row

-- no clause names a variable that leaves with a later frame
abbrev pub ClausesOutlast : List Frame → Type 0
ClausesOutlast [] = ⊤
ClausesOutlast (f ∷ frames) = AllByRecursion (NamesNone (leaving frames)) f.clauses × ClausesOutlast frames

-- no variable leaves with frame 0
abbrev pub FirstKeeps : List Frame → Type 0
FirstKeeps [] = ⊤
FirstKeeps (f ∷ frames) = f.variables ≡ []

-- Each variable that leaves is in the prefix, and leaves with one frame, which isn't frame 0; no clause names a
-- variable that leaves with a later frame; and in version 1 none leaves.
pub record AreLeaving (version : Version) (scopes : List Scope) (frames : List Frame) : Type 0 where
  pub known : AllByRecursion (λ v. is_some (level_of scopes v) ≡ true) (leaving frames)
  pub distinct : AreDistinct (leaving frames)
  pub first : FirstKeeps frames
  pub outlast : ClausesOutlast frames
  pub never : version ≡ One → leaving frames ≡ []

-- Where variables are taken out of a prefix, the others keep their levels, and the old prefix extends the new one.
pub record OthersStay : Type 0 where
  pub levels : (vs : List ℕ) (scopes : List Scope) (w : ℕ) → level_of (without_variables vs scopes) w
      ≡ (if is_among w vs then None else level_of scopes w)
  pub extends : (vs : List ℕ) (scopes : List Scope) → Extends (without_variables vs scopes) scopes
