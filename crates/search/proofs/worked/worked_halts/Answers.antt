use Rattle.std.proofs.Common.{◌≡◌, ℕ, [], ◌<◌, ◌∙◌, arith}
use Rattle.derive.specs.State.{clauses_of}
use Rattle.search.specs.Moves.{IsDue}
use Rattle.search.specs.State.{IsSearching, SearchState}
use Rattle.search.specs.Stops.{WasSpentWhenDue}
use Rattle.search.specs.Stops.WasSpentWhenDue.{assuming, searching}
use Rattle.search.specs.Worked.{alone, no_steps, spent}
use Rattle.search.proofs.worked.worked_halts.Goals as goal

found : (assigned : ℕ) → WasSpentWhenDue alone no_steps [] (spent 100) assigned
    → (at : SearchState) × IsSearching alone at × (clauses_of at.derivation ≡ []) × IsDue alone at
found assigned (assuming few count) = absurd (let none : 0 < 0 = few in omega arith)
found assigned (searching at is clauses assumed count due) = (at, is, clauses, due)

pub returns : goal.returns
returns c = record {
  searching = found;
  due = λ old new one h. (h.at, h.searching, h.clauses ∙ one, h.due);
  halted = λ old new before now one h. h.clauses ∙ one;
}
