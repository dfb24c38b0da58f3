use Rattle.std.proofs.Common.{◌≡◌, ◌<◌, [], ◌∷◌, length, Contains, Some, refl, ap, ⊎_elim, arith}
use Rattle.calculus.proofs.Lists.{contains_cons, contains_head, contains_nil}
use Rattle.calculus.specs.Rows.{Row}
use Rattle.calculus.specs.Derivations.Why.{Given}
use Rattle.calculus.specs.Worked.{minus, plus}
use Rattle.derive.specs.State.{State}
use Rattle.step_core.specs.Worked.{clause, stored}
use Rattle.engine.proofs.worked.worked_stops.Goals as goal

-- the two clauses
abbrev clauses : State
clauses = record {
  notes = clause Given ∷ clause Given ∷ [];
  rows = Some (stored (minus 1 ∷ plus 2 ∷ []) ∷ stored (minus 1 ∷ minus 2 ∷ []) ∷ []);
}

-- neither clause has one literal
longer : (row : Row) → length row ≡ 1 → Contains ((minus 1 ∷ plus 2 ∷ []) ∷ (minus 1 ∷ minus 2 ∷ []) ∷ []) row → ⊥
longer row one i = ⊎_elim
    (λ (e : minus 1 ∷ plus 2 ∷ [] ≡ row). let n : 2 ≡ length row = ap (λ (r : Row). length r) e in omega arith)
    (λ rest. ⊎_elim
    (λ (e : minus 1 ∷ minus 2 ∷ [] ≡ row). let n : 2 ≡ length row = ap (λ (r : Row). length r) e in omega arith)
    (λ none. contains_nil row none)
    (contains_cons (minus 1 ∷ minus 2 ∷ []) [] row rest))
    (contains_cons (minus 1 ∷ plus 2 ∷ []) ((minus 1 ∷ minus 2 ∷ []) ∷ []) row i)

pub returns : goal.returns
returns c = record {
  memory = λ before now. record {
    derivation = clauses;
    clauses = record { there = λ row i. i; none_else = λ row i. i };
    stops = tt;
  };
  steps_left = λ before h. let e : 8 ≡ 9 = h.stops.spent in omega (arith, e);
  other_budget = λ now h. let e : 8 ≡ 9 = h.stops.budget in omega (arith, e);
  other_variables = λ before now h. let e : 3 ≡ 2 = h.stops.vars in omega (arith, e);
  enough = λ now h. let e : 192 < 192 = h.stops.short in omega (arith, e);
  of_all_clauses = λ before now stop h. h.clauses.none_else (minus 1 ∷ plus 2 ∷ [])
      (contains_head (minus 1 ∷ plus 2 ∷ []) ((minus 1 ∷ minus 2 ∷ []) ∷ []));
  of_no_others = λ before now stop h i. longer (plus 1 ∷ []) refl (h.clauses.there (plus 1 ∷ []) i);
}
