-- Quiet searches in which every variable is assigned.
use Rattle.std.proofs.Common.{◌≡◌, ℕ, List, [], ◌∷◌, map, Contains, IsTrue, sym, ap, subst, ◌∙◌, inl, inr, ⊎_elim}
use Rattle.prefix.specs.declared.quant.Quant.TheVariants.{Exists, Forall}
use Rattle.prefix.specs.Scopes.{Scope}
use Rattle.truth.specs.Matrix.{Values, clause_true}
use Rattle.calculus.specs.RowTheorems.{ReductionsKeepUnit, ValueLaws}
use Rattle.calculus.specs.Rows.{Row, IsRow, reduce}
use Rattle.calculus.specs.Search.{IsBadRow, IsClean, value_on}
use Rattle.calculus.proofs.Lists.{contains_nil, contains_head, contains_tail, contains_cons}
use Rattle.trail.specs.Open.{AreAssigned}
use Rattle.derive.specs.State.{State, OpenClause, IsLegalFor, clauses_of, may_be_antecedent, open_clauses, row_of}
use Rattle.derive.proofs.Listing.{listed_note, listed_row}
use Rattle.watch.specs.Events.{AreQuiet}
use Rattle.watch.specs.Links.{is_attached}
use Rattle.clean.proofs.Keeping.{step_row}
use Rattle.search.proofs.Marks.{step_live}
use Rattle.search.specs.State.{IsPaused, SearchState, rows_of}

-- an open clause with its row
clause_in : (cs : List OpenClause) (row : Row) → Contains (map (λ (c : OpenClause). c.row) cs) row
    → (c : OpenClause) × Contains cs c × (c.row ≡ row)
clause_in [] row i = absurd (contains_nil row i)
clause_in (c ∷ cs) row i =
    ⊎_elim (λ e. (c, contains_head c cs, e))
    (λ j. let r = clause_in cs row j in (r.0, contains_tail c cs r.0 r.1, r.2))
    (contains_cons c.row (map (λ (c : OpenClause). c.row) cs) row i)

-- an open clause is a row
clause_row : (scopes : List Scope) (d : State) (c : OpenClause) → IsLegalFor scopes d → Contains (clauses_of d) c
    → IsRow scopes c.row
clause_row scopes d c legal i =
    subst (IsRow scopes) (listed_row d c i) (step_row scopes d c.id legal (ap may_be_antecedent (listed_note d c i)))

-- the reduction of an open clause is attached, as a clause
pub attached_clause : (scopes : List Scope) (s : SearchState) (row : Row) → IsPaused scopes s
    → Contains (open_clauses s.derivation) row
    → IsRow scopes row × ((id : ℕ) × IsTrue (is_attached Exists (rows_of s) id) ×
    (row_of s.derivation id ≡ reduce Exists scopes row))
attached_clause scopes s row paused i =
    let c = clause_in (clauses_of s.derivation) row i in
    let r = paused.intact.watched.clauses c.0 c.1 in
    let a = paused.attached r.0 r.1 (step_live _ r.2.step) in
    let side : a.0 ≡ Exists = sym (paused.intact.watched.sides a.0 r.0 a.1).of_side ∙ r.2.of_side in (
      subst (IsRow scopes) c.2 (clause_row scopes s.derivation c.0 paused.intact.legal c.1),
      (r.0, subst (λ q. IsTrue (is_attached q (rows_of s) r.0)) side a.1, r.2.literals ∙ ap (reduce Exists scopes) c.2),
    )

-- each clause is true
pub quiet_true : (scopes : List Scope) (s : SearchState) (row : Row) → ValueLaws → IsPaused scopes s
    → AreQuiet Exists scopes (value_on s.trail.placed) (rows_of s) → AreAssigned scopes s.trail.placed
    → Contains (open_clauses s.derivation) row → IsTrue (clause_true (value_on s.trail.placed) row)
quiet_true scopes s row laws paused quiet assigned i =
    let r = attached_clause scopes s row paused i in
    laws.satisfied scopes (value_on s.trail.placed) row r.0 assigned
    (λ is_bad. quiet.none_bad r.1.0 r.1.1 (subst (IsBadRow Exists scopes (value_on s.trail.placed)) (sym r.1.2) is_bad))

-- the reduction of a cube of true literals is bad
pub bad_reduced : (scopes : List Scope) (values : Values) (row : Row) → ReductionsKeepUnit → IsClean Forall values row
    → IsBadRow Forall scopes values (reduce Forall scopes row)
bad_reduced scopes values row laws clean = laws.bad Forall scopes values row (λ l i. inr (inl (clean l i)))
