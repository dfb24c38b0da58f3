-- The worked values of stops.
use Rattle.std.proofs.Common.{◌≡◌, ℕ, ◌<◌, ◌≤◌, ◌==◌, true, List, [], ◌∷◌, map, Contains, Some, is_none, refl, sym, ap, subst, ◌∙◌, ⊎_elim, arith}
use Rattle.std.proofs.lemmas.Bool.{cases_Bool, eqb-true, false≢true}
use Rattle.prefix.specs.declared.quant.Quant.{Quant}
use Rattle.prefix.specs.Literal.{Literal}
use Rattle.prefix.specs.Sides.{is_pivot}
use Rattle.calculus.proofs.Lists.{contains_cons, contains_head, contains_nil}
use Rattle.calculus.specs.Rows.{Row}
use Rattle.calculus.specs.Search.{AreTheAssumptions, Trail, cause_on, value_on}
use Rattle.calculus.specs.Search.Cause.{Assumed, Propagated}
use Rattle.calculus.specs.Worked.{plus}
use Rattle.analyse.specs.Lessons.{NeedsResolution}
use Rattle.derive.specs.State.{OpenClause, State, clauses_of, open_clauses, row_of}
use Rattle.search.specs.Moves.{IsDue}
use Rattle.search.specs.Moves.IsDue.{unit, bad, cube, decision}
use Rattle.search.specs.State.{SearchState}
use Rattle.search.specs.Stops.{WasSpentWhenDue}
use Rattle.search.specs.Stops.WasSpentWhenDue.{assuming, searching}
use Rattle.search.specs.Worked.{WorkedStops, alone, no_steps, spent}

too_slow : 20 < 20 → ⊥
too_slow l = absurd (omega arith)

not_spent : ◌≡◌ {A = ℕ} 99 100 → ⊥
not_spent e = absurd (omega arith)

not_two : ◌≡◌ {A = ℕ} 2 3 → ⊥
not_two e = absurd (omega arith)

not_less : 1 < 1 → ⊥
not_less l = absurd (omega arith)

not_more : 1 ≤ 0 → ⊥
not_more l = absurd (omega arith)

one_not_none : ◌≡◌ {A = ℕ} 1 0 → ⊥
one_not_none e = absurd (omega arith)

-- where the only variable is assumed, no step is due

only_one : (side : Quant) (l : Literal) → is_pivot side alone l ≡ true → l.variable ≡ 1
only_one side l is =
    ⊎_elim
    (λ t. sym (eqb-true 1 l.variable t))
    (λ f. absurd (false≢true (rw f at is)))
    (cases_Bool (1 == l.variable))

module _ (placed : Trail) (assumed : AreTheAssumptions placed (plus 1 ∷ [])) where
  has_value : value_on placed 1 ≡ Some true
  has_value = (assumed.stand 1 true refl).0

  not_open : (x : ℕ) → x ≡ 1 → is_none (value_on placed x) ≡ true → ⊥
  not_open x one open_yet = false≢true (sym (ap is_none (ap (value_on placed) one ∙ has_value)) ∙ open_yet)

  not_needed : (side : Quant) (row : Row) → NeedsResolution side alone placed row → ⊥
  not_needed side row is =
      let one = only_one side is.literal is.last.pivot_type in
      let g : Some Assumed ≡ Some (Propagated is.propagated.0) = sym (ap (cause_on placed) one
      ∙ (assumed.stand 1 true refl).1) ∙ is.propagated.1 in
      cc

-- with no clauses an initial cube has no literals
no_literals : (d : State) (row : Row) → clauses_of d ≡ [] → ((l : Literal) → Contains row l
    → (clause : Row) × Contains (open_clauses d) clause) → row ≡ []
no_literals d [] none from = refl
no_literals d (l ∷ row) none from =
    let r = from l (contains_head l row) in
    absurd (contains_nil r.0 (subst (λ (cs : List OpenClause). Contains (map (λ (c : OpenClause). c.row) cs) r.0)
    none r.1))

nothing_due : (at : SearchState) → clauses_of at.derivation ≡ []
    → AreTheAssumptions at.trail.placed (plus 1 ∷ []) → IsDue alone at → ⊥
nothing_due at clauses assumed (unit side id l step is) =
    not_open at.trail.placed assumed l.variable (only_one side l is.pivot_type) is.open_yet
nothing_due at clauses assumed (bad side id step is needs) =
    not_needed at.trail.placed assumed side _ needs
nothing_due at clauses assumed (decision x may is) =
    ⊎_elim
    (λ one. not_open at.trail.placed assumed x (sym one) (ap is_none is.unassigned))
    (λ none. contains_nil x none)
    (contains_cons 1 [] x is.known)
nothing_due at clauses assumed (cube id is goes) =
    let none = no_literals at.derivation (row_of at.derivation id) clauses
    (λ l i. let m = is.literals l i in (m.clause, m.stands)) in
    goes (rw none refl)

none_left : WasSpentWhenDue alone no_steps (plus 1 ∷ []) (spent 99) 1 → ⊥
none_left (assuming few count) = not_less few
none_left (searching at is clauses assumed count due) = nothing_due at clauses assumed due

none_assigned : WasSpentWhenDue alone no_steps (plus 1 ∷ []) (spent 100) 1 → ⊥
none_assigned (assuming few count) = one_not_none count
none_assigned (searching at is clauses assumed count due) = nothing_due at clauses assumed due

pub stops : WorkedStops
stops = record {
  quick = omega arith;
  slow = too_slow;
  at_once = record {
    spent = refl;
    budget = refl;
    vars = refl;
    due = assuming (omega arith) refl;
    few = omega arith;
    restarts = omega arith;
    short = omega arith;
  };
  one_of_two = record {
    spent = refl;
    budget = refl;
    vars = refl;
    due = assuming (omega arith) refl;
    few = omega arith;
    restarts = omega arith;
    short = omega arith;
  };
  one_left = λ s. not_spent s.spent;
  other_vars = λ s. not_two s.vars;
  other_budget = λ s. not_spent s.budget;
  more_restarts = λ s. not_more s.restarts;
  other_count = λ s. none_assigned s.due;
  none_due = λ s. none_left s.due;
}
