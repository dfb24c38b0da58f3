-- Worked values: what leaves with a frame and its variables, and what is kept of older steps, with rows of both sides.
use Rattle.std.specs.Prelude.{◌≡◌, ℕ, Bool, true, false, if◌then◌else◌, [], ◌∷◌, Option, Some, None}
use Rattle.prefix.specs.declared.quant.Quant.{Quant}
use Rattle.prefix.specs.declared.quant.Quant.TheVariants.{Exists, Forall}
use Rattle.rows.specs.Arena.{new_row}
use Rattle.calculus.specs.Derivations.{Why}
use Rattle.calculus.specs.Derivations.Why.{Given, ReducedFrom, ResolvedFrom}
use Rattle.calculus.specs.Worked.{minus, plus}
use Rattle.derive.specs.State.{Note, State, arena_of, with_step}
use Rattle.derive.specs.Worked.{row_if, two_scopes}
use Rattle.search.specs.Leaving.{Goes, Loses, Reaches, leaves}
use Rattle.search.specs.Moves.{KeepsOlder}
use Rattle.search.specs.declared.leaving.Leaving.TheVariants.{Frame, Cubes}

abbrev pub tagged : Quant → Why → ℕ → Note
tagged side why tag = record { side = side; why = why; tag = tag }

abbrev pub tagged_if : Bool → Quant → Why → ℕ → Option Note
tagged_if live side why tag = if live then Some (tagged side why tag) else None

-- The clauses 1 2 of frame 0 and 1 of frame 1, and their resolvent; the cubes 1 3 and 2 -3, and their resolvent 1 2;
-- the cube 1 2, and a lesson from it; a lesson from the clause 1 2. Which of the clause of frame 1, of both resolvents,
-- of the first cubes and of the lessons are live.
abbrev pub with_frame : (clause over naming over_naming lessons : Bool) → State
with_frame clause over naming over_naming lessons = record {
  notes = Some (tagged Exists Given 0)
      ∷ tagged_if clause Exists Given 1
      ∷ tagged_if over Exists (ResolvedFrom 0 1 2) 1
      ∷ tagged_if naming Forall Given 0
      ∷ tagged_if naming Forall Given 0
      ∷ tagged_if over_naming Forall (ResolvedFrom 3 4 3) 0
      ∷ Some (tagged Forall Given 0)
      ∷ tagged_if lessons Forall (ReducedFrom 6) 0
      ∷ tagged_if lessons Exists (ReducedFrom 0) 0
      ∷ [];
  rows = Some (
      Some (new_row (plus 1 ∷ plus 2 ∷ []))
      ∷ row_if clause (plus 1 ∷ [])
      ∷ row_if over (plus 2 ∷ [])
      ∷ row_if naming (plus 1 ∷ plus 3 ∷ [])
      ∷ row_if naming (plus 2 ∷ minus 3 ∷ [])
      ∷ row_if over_naming (plus 1 ∷ plus 2 ∷ [])
      ∷ Some (new_row (plus 1 ∷ plus 2 ∷ []))
      ∷ row_if lessons (plus 2 ∷ [])
      ∷ row_if lessons (plus 1 ∷ [])
      ∷ []
      );
}

-- all of them
abbrev pub all_live : State
all_live = with_frame true true true true true

-- frame 1 left, and with it the variable 3, and this is left
abbrev pub LosesFrame : State → Type 0
LosesFrame left = Loses (leaves 1 two_scopes (arena_of all_live)) all_live left

pub record WorkedLeaving : Type 0 where
  -- of frame 1, and of either sign over 3; not of frame 0, nor what only rests on such a step
  pub of_frame : leaves 1 two_scopes (arena_of all_live) 1 (tagged Exists Given 1) ≡ true
  pub other_frame : leaves 1 two_scopes (arena_of all_live) 0 (tagged Exists Given 0) ≡ false
  pub named : leaves 1 two_scopes (arena_of all_live) 3 (tagged Forall Given 0) ≡ true
  pub other_sign : leaves 1 two_scopes (arena_of all_live) 4 (tagged Forall Given 0) ≡ true
  pub unnamed : leaves 1 two_scopes (arena_of all_live) 6 (tagged Forall Given 0) ≡ false
  pub no_root : leaves 1 two_scopes (arena_of all_live) 5 (tagged Forall (ResolvedFrom 3 4 3) 0) ≡ false
  -- these go, with what rests on them; the lessons stay, and what they rest on
  pub loses : LosesFrame (with_frame false false false false true)
  pub keeps_all : LosesFrame all_live → ⊥
  pub keeps_clause : LosesFrame (with_frame true false false false true) → ⊥
  pub keeps_over : LosesFrame (with_frame false true false false true) → ⊥
  pub keeps_naming : LosesFrame (with_frame false false true false true) → ⊥
  pub keeps_over_naming : LosesFrame (with_frame false false false true true) → ⊥
  pub loses_lessons : LosesFrame (with_frame false false false false false) → ⊥
  -- what is left was there; what is new has a new id; not where a step comes back, or ids are taken back
  pub kept : KeepsOlder all_live (with_frame false false false false true)
  pub comes_back : KeepsOlder (with_frame false false false false true) all_live → ⊥
  pub new : KeepsOlder all_live (with_step all_live (tagged Forall (ReducedFrom 6) 0) (plus 1 ∷ []))
  pub taken_back : KeepsOlder (with_step all_live (tagged Forall (ReducedFrom 6) 0) (plus 1 ∷ [])) all_live → ⊥
  -- with frame 0 what may rest on it is detached, of which its own rows go: the resolvent of frame 1, and the reduction
  -- of its clause; not a clause of frame 1; with frame 1 not that reduction; and nothing of earlier frames
  pub reached : Reaches (Frame 0) all_live 2
  pub not_gone : Goes (Frame 0) all_live 2 → ⊥
  pub own : Goes (Frame 1) all_live 1
  pub own_reached : Reaches (Frame 1) all_live 1
  pub own_reduction : Reaches (Frame 0) all_live 8
  pub other_clause : Reaches (Frame 0) all_live 1 → ⊥
  pub other_reduction : Reaches (Frame 1) all_live 8 → ⊥
  pub earlier : Reaches (Frame 1) all_live 0 → ⊥
  pub earlier_resolvent : Reaches (Frame 2) all_live 2 → ⊥
  -- cubes are detached, and no clauses, and none goes for sure
  pub cube : Reaches Cubes all_live 3
  pub clause : Reaches Cubes all_live 1 → ⊥
  pub no_cube : Goes Cubes all_live 3 → ⊥
