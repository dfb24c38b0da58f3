-- Worked values: which search a stop is told of.
use Rattle.std.specs.Prelude.{◌≡◌, ℕ, [], ◌∷◌}
use Rattle.steps.specs.Counter.{Counter}
use Rattle.calculus.specs.WorkedSearch.{three}
use Rattle.derive.specs.State.{OpenClause, clauses_of}
use Rattle.search.specs.Moves.{Halts, IsDue, WasDue}
use Rattle.search.specs.State.{IsSearching, SearchState}
use Rattle.search.specs.Stops.{WasSpentWhenDue}
use Rattle.search.specs.Worked.{alone, framed, no_steps, spent}

-- the clause 1 2 3 alone
abbrev pub one_clause : OpenClause
one_clause = framed 0 0 three

pub record WorkedHalts : Type 0 where
  -- without assumptions a step was due in a search that holds together, over no clauses where there are none
  pub searching : (assigned : ℕ) → WasSpentWhenDue alone no_steps [] (spent 100) assigned
      → (at : SearchState) × IsSearching alone at × (clauses_of at.derivation ≡ []) × IsDue alone at
  -- a search that was to take a step, and one that stops, have the clauses that were there before
  pub due : (old new : SearchState) → clauses_of old.derivation ≡ one_clause ∷ [] → WasDue alone old new
      → (at : SearchState) × IsSearching alone at × (clauses_of at.derivation ≡ one_clause ∷ []) × IsDue alone at
  pub halted : (old new : SearchState) (before now : Counter) → clauses_of old.derivation ≡ one_clause ∷ []
      → Halts alone 0 old new before now → clauses_of new.derivation ≡ one_clause ∷ []
