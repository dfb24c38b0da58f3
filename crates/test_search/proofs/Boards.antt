-- What the tests look at before a call, and what calls keep.
use Rattle.std.proofs.Common.{◌≡◌, ℕ, ◌<◌, ◌≤◌, true, false, List, [], ◌∷◌, ◌++◌, length, map, take, get_or, Contains, Option, Some, None, Ok, Err, refl, sym, subst, ap, ◌∙◌, ⊎_elim, arith}
use Rattle.std.specs.Prelude.{is_some, IsTrue, IsFalse, IfOk, OnErr, OnOk, Result}
use Rattle.std.proofs.lemmas.Bool.{true≢false, false≢true}
use Rattle.std.proofs.lemmas.List.{take_all}
use Rattle.std.proofs.lemmas.List.Elements.{Contains-get_or, Contains-push_cases}
use Rattle.std.proofs.lemmas.List.Quantifiers.{all_pairs_push}
use Rattle.prefix.specs.declared.quant.Quant.{Quant}
use Rattle.prefix.specs.declared.quant.Quant.TheVariants.{Exists, Forall}
use Rattle.prefix.specs.Literal.{Literal}
use Rattle.prefix.specs.Scopes.{Scope, all_variables}
use Rattle.steps.specs.Counter.{Counter}
use Rattle.calculus.specs.Rows.{IsRow, Row, is_bad_at, is_pivot}
use Rattle.calculus.specs.Derivations.{Hits, Why}
use Rattle.calculus.specs.Derivations.Why.{Given, ReducedFrom, ResolvedFrom, FinishedFrom}
use Rattle.calculus.specs.Search.{Cause, IsBadRow, IsPending, Trail, is_bad_now, value_on}
use Rattle.calculus.proofs.Ascending.{Below, IsAscendingRow, pairs_to}
use Rattle.calculus.proofs.Lists.{contains_nil}
use Rattle.trail.specs.State.{TrailState, IsPropagated, IsTrailFor, with_literal}
use Rattle.derive.specs.State.{Note, OpenClause, State, clauses_of, has_rows, is_live, is_step, may_be_antecedent, note_at, open_clauses, row_of, side_at, side_in, why_at, why_in, IsLegalFor}
use Rattle.derive.specs.Told.{told}
use Rattle.derive.specs.Growing.{GainsSteps}
use Rattle.clean.specs.Marks.{CleansReasons, KeepsReasons, StopsCleaning}
use Rattle.clean.specs.Reasons.{HaveReasons, IsReducedStep}
use Rattle.clean.specs.Cleaning.{MayReplace, Replaces, ReplacesBefore}
use Rattle.clean.proofs.Reasoning.{assigned_have}
use Rattle.test_search.specs.Tested.{HasUnitRow, IsReady, IsStored, MayPend, is_finished}

-- steps
pub no_clauses_hit : (d : State) (row : Row) → clauses_of d ≡ [] → Hits row (open_clauses d)
no_clauses_hit d row none clause i =
    let empty : open_clauses d ≡ [] = ap (map (λ (c : OpenClause). c.row)) none in
    absurd (contains_nil clause (subst (λ (cs : List Row). Contains cs clause) empty i))

pub cube_stored : (pivot : Quant) (scopes : List Scope) (d now : State) (row : Row) → IsStored pivot scopes d
    → pivot ≡ Forall → IsRow scopes row → GainsSteps d now
    → ((over : List Scope) → IsRow over row → Hits row (open_clauses d) → IsLegalFor over d → IsLegalFor over now)
    → IsStored pivot scopes now
cube_stored pivot scopes d now row stored side is_row gains legal = record {
  rows = gains.has_rows;
  legal = legal scopes is_row (no_clauses_hit d row (stored.bare side)) stored.legal;
  bare = λ e. gains.clauses ∙ stored.bare e;
}

pub reduced_stored : {E : Type 0} (pivot : Quant) (scopes : List Scope) (d now : State) (r : Result ℕ E)
    → IsStored pivot scopes d → OnOk r (GainsSteps d now) → OnOk r (IsLegalFor scopes d → IsLegalFor scopes now)
    → OnErr r (now ≡ d) → IsStored pivot scopes now
reduced_stored pivot scopes d now (Ok id) stored gains legal same = record {
  rows = gains.has_rows;
  legal = legal stored.legal;
  bare = λ e. gains.clauses ∙ stored.bare e;
}
reduced_stored pivot scopes d now (Err e) stored gains legal same = subst (IsStored pivot scopes) (sym same) stored

pub unfinished : (d : State) (id : ℕ) → is_live d id ≡ true → is_finished (told (side_at d id) (why_at d id)) ≡ false
    → is_step d id ≡ true
unfinished d id live told_not = by (note_at d id) live told_not
  where
    why : (side : Quant) (w : Why) (tag : ℕ) → is_finished (told side w) ≡ false
        → may_be_antecedent (Some (record { side = side; why = w; tag = tag })) ≡ true
    why Exists Given tag e = refl
    why Forall Given tag e = refl
    why Exists (ReducedFrom a) tag e = refl
    why Forall (ReducedFrom a) tag e = refl
    why Exists (ResolvedFrom a b x) tag e = refl
    why Forall (ResolvedFrom a b x) tag e = refl
    why Exists (FinishedFrom a) tag e = absurd (true≢false e)
    why Forall (FinishedFrom a) tag e = absurd (true≢false e)

    by : (o : Option Note) → is_some o ≡ true → is_finished (told (side_in o) (why_in o)) ≡ false
        → may_be_antecedent o ≡ true
    by None l e = absurd (false≢true l)
    by (Some note) l e = why note.side note.why note.tag e

-- the trail
pub assigned_ready : (pivot : Quant) (scopes : List Scope) (d : State) (t now : TrailState) (lit good : Literal)
    (cause : Cause) → IsReady pivot scopes d t → value_on t.placed lit.variable ≡ None → good.variable ≡ lit.variable
    → IsFalse (is_bad_at pivot good.positive lit) → HasUnitRow pivot scopes d t.placed lit cause
    → now ≡ with_literal scopes t good cause → IsTrailFor scopes now → IsReady pivot scopes d now
assigned_ready pivot scopes d t now lit good cause ready none over makes_good unit is trail = record {
  stored = ready.stored;
  trail = trail;
  allowed = ap (λ (s : TrailState). s.allowed) is;
  reasons = subst (HaveReasons pivot scopes d) (sym is)
      (assigned_have pivot scopes d t good cause ready.trail.marked (ap (value_on t.placed) over ∙ none)
      (λ id e p. record { kept = lit; over = sym over; good = makes_good; step = (unit id e).0; unit = (unit id e).1 })
      ready.reasons);
}

-- what a call keeps
pub record Keeps (old new : State) (t now : TrailState) : Type 0 where
  pub rows : IsTrue (has_rows new)
  pub clauses : clauses_of new ≡ clauses_of old
  pub allowed : now.allowed ≡ t.allowed

module _ (scopes : List Scope) (old new : State) (t now : TrailState) (before later : Counter) where
  stops : (most : ℕ) → StopsCleaning scopes old new t now before later most → Keeps old new t now
  stops most c = record { rows = c.resolves.has_rows; clauses = c.resolves.clauses; allowed = c.marks.allowed }

  cleans : (most : ℕ) → CleansReasons scopes old new t now before later most → Keeps old new t now
  cleans most c = record { rows = c.resolves.has_rows; clauses = c.resolves.clauses; allowed = c.marks.allowed }

  pub by_cleaning : {A E : Type 0} (few most : ℕ) (r : Result A E)
      → OnOk r (CleansReasons scopes old new t now before later few)
      → OnErr r (StopsCleaning scopes old new t now before later most) → Keeps old new t now
  by_cleaning few most (Ok x) ok err = cleans few ok
  by_cleaning few most (Err e) ok err = stops most err

  pub by_replacing : {E : Type 0} (pivot : Quant) (row : ℕ) (f : Literal) (most : ℕ) (r : Result ℕ E) → IfOk r
      (λ id. Replaces pivot scopes t now old new before later row f id)
      → OnErr r (StopsCleaning scopes old new t now before later most) → Keeps old new t now
  by_replacing pivot row f most (Ok x) ok err = cleans 1 ok.cleans
  by_replacing pivot row f most (Err e) ok err = stops most err

  pub by_replacing_before : {E : Type 0} (pivot : Quant) (row : ℕ) (f : Literal) (most : ℕ) (r : Result ℕ E) → IfOk r
      (λ id. ReplacesBefore pivot scopes t now old new before later row f id)
      → OnErr r (StopsCleaning scopes old new t now before later most) → Keeps old new t now
  by_replacing_before pivot row f most (Ok x) ok err = cleans 1 ok.cleans
  by_replacing_before pivot row f most (Err e) ok err = stops most err

pub called_ready : (pivot : Quant) (scopes : List Scope) (old new : State) (t now : TrailState)
    → IsReady pivot scopes old t → Keeps old new t now → KeepsReasons scopes old new t now → IsTrailFor scopes now
    → IsLegalFor scopes new → IsReady pivot scopes new now
called_ready pivot scopes old new t now ready keeps reasons trail legal = record {
  stored = record { rows = keeps.rows; legal = legal; bare = λ e. keeps.clauses ∙ ready.stored.bare e };
  trail = trail;
  allowed = keeps.allowed ∙ ready.allowed;
  reasons = reasons pivot ready.reasons;
}

pub may_replace : (pivot : Quant) (scopes : List Scope) (d : State) (t : TrailState) (id : ℕ) (lit : Literal)
    → IsReducedStep pivot scopes d id → IsBadRow pivot scopes (value_on t.placed) (row_of d id)
    → Contains (row_of d id) lit → IsTrue (is_pivot pivot scopes lit)
    → IsTrue (is_bad_now pivot (value_on t.placed) lit) → IsPropagated t.placed lit.variable
    → MayReplace pivot scopes d t id lit
may_replace pivot scopes d t id lit step bad_row stands pivot_type bad propagated =
    let whole : take (length t.placed) t.placed ≡ t.placed = take_all (length t.placed) t.placed (omega arith) in
    record {
      end = length t.placed;
      kept = None;
      step = step;
      way = record {
        pending = subst (λ (front : Trail). IsBadRow pivot scopes (value_on front) (row_of d id)) (sym whole) bad_row;
        keeps = λ k e. absurd (false≢true (ap is_some e));
      };
      stands = stands;
      pivot_type = pivot_type;
      is_bad = subst (λ (front : Trail). IsTrue (is_bad_now pivot (value_on front) lit)) (sym whole) bad;
      propagated = propagated;
    }

-- one literal further in a pending row
pub pending_more : (pivot : Quant) (scopes : List Scope) (trail : Trail) (kept : Option Literal) (row : Row)
    (v : Literal) → IsPending pivot scopes (value_on trail) kept row → MayPend pivot scopes trail kept v
    → IsPending pivot scopes (value_on trail) kept (row ++ v ∷ [])
pending_more pivot scopes trail kept row v so_far may l i =
    ⊎_elim (λ j. so_far l j) (λ e. subst (MayPend pivot scopes trail kept) e may) (Contains-push_cases row v l i)
