-- Literals that are assigned with the rows at hand.
use Rattle.std.proofs.Common.{◌≡◌, ◌≢◌, ℕ, ◌+◌, ◌-◌, ◌<◌, ◌≤◌, List, length, None, Contains, refl, sym, ap, ap₂, ◌∙◌}
use Rattle.std.specs.List.{filter_map, range_with_len}
use Rattle.std.specs.Option.{option_and_then}
use Rattle.prefix.specs.declared.quant.Quant.{Quant}
use Rattle.prefix.specs.Literal.{Literal}
use Rattle.prefix.specs.Scopes.{Scope, all_variables}
use Rattle.rows.specs.Arena.{Arena}
use Rattle.steps.specs.Counter.{Counter, after}
use Rattle.calculus.specs.Limits.{propagation_limit}
use Rattle.calculus.specs.Rows.{Row}
use Rattle.calculus.specs.Search.{IsUnitIn, good_literal, literals_on, value_on}
use Rattle.calculus.specs.Search.Cause.{Assumed, Propagated}
use Rattle.trail.specs.State.{TrailState, IsTrailFor, with_literal}
use Rattle.derive.specs.State.{Notes, State, clause_at, clause_from, clauses_of, next_id, note_in, row_of}
use Rattle.derive.proofs.Ids.{listed_same}
use Rattle.derive.proofs.Legality.{same_legal}
use Rattle.watch.specs.State.{Holds, looked}
use Rattle.clean.specs.Reasons.{IsReducedStep}
use Rattle.clean.proofs.Keeping.{step_row}
use Rattle.search.specs.State.{IsAttached, IsSearching, SearchState}
use Rattle.search.specs.Counting.{size_of}
use Rattle.search.specs.Forcing.{IsRefuting}
use Rattle.search.specs.Moves.{Advances, Propagates, Pushes, WasDue}
use Rattle.search.specs.Watching.{AgreesElsewhere, KeepsMarks, KeepsRows, Looks, SameElsewhere, holding, watch_at}
use Rattle.search.specs.declared.watching.Watches.{Watches}
use Rattle.search.proofs.Following.{continues_advanced, continues_looked, continues_then, due_now, due_then}
use Rattle.search.proofs.Forcing.{few_assignment, refuting_looked, refuting_push}
use Rattle.search.proofs.Laws.{holding_laws, looking_laws}
use Rattle.search.proofs.Looking.{looks_on}
use Rattle.search.proofs.Marks.{steps_then}
use Rattle.search.proofs.Turning.{advances, asked_over, changes_of, none_open, reason_asked}

-- the same notes with the same literals have the same clauses
clauses_kept : (old new : State) → new.notes ≡ old.notes → ((id : ℕ) → row_of new id ≡ row_of old id)
    → clauses_of new ≡ clauses_of old
clauses_kept old new notes rows =
    ap (λ n. filter_map (clause_at new) (range_with_len 0 n)) (ap (λ (ns : Notes). length ns) notes)
    ∙ listed_same (clause_at new) (clause_at old) 0 (next_id old)
    (λ k low high. ap₂ (λ r o. option_and_then (clause_from k r) o) (rows k)
    (ap (λ (ns : Notes). note_in ns k) notes))

-- rows with the same literals, one after the other
pub keeps_rows : {old between new : Arena} → KeepsRows old between → KeepsRows between new → KeepsRows old new
keeps_rows one two = record {
  same_next = two.same_next ∙ one.same_next;
  same_live = λ id. two.same_live id ∙ one.same_live id;
  same_literals = λ id. two.same_literals id ∙ one.same_literals id;
}

-- a watch was asked
pub held_look : (scopes : List Scope) (pivot : Quant) (s : SearchState) (w new : Watches) (t : TrailState)
    (rows left : Arena) → KeepsRows rows left → AgreesElsewhere pivot rows left → SameElsewhere pivot w new
    → Holds pivot scopes (watch_at pivot new) left → looked (watch_at pivot new) ≡ literals_on t.placed
    → (watch_at pivot new).room ≡ (watch_at pivot w).room → KeepsMarks rows left
    → IsSearching scopes (holding s w t rows) → Looks scopes (holding s w t rows) (holding s new t left)
held_look scopes pivot s w new t rows left same agrees others holds all room marks searching =
    let old = holding s w t rows in
    let now = holding s new t left in
    looks_on holding_laws pivot scopes old now (record {
      trail = refl;
      signs = refl;
      watched = refl;
      long = refl;
      others = others;
      touches = record {
        steps = record {
          notes = refl;
          has_rows = refl;
          literals = same.same_literals;
          clauses = clauses_kept old.derivation now.derivation refl same.same_literals;
        };
        legal = λ scopes was. same_legal scopes old.derivation now.derivation refl
            (λ id. sym (same.same_literals id)) was;
        agrees = agrees;
      };
      holds = holds;
      looked = all;
      room = room;
      marks = marks;
    }) searching

-- what is asked of a trail for the literal that a unit row asks for
pub record IsAsked (scopes : List Scope) (t : TrailState) (literal : Literal) : Type 0 where
  pub trail : IsTrailFor scopes t
  pub known : Contains (all_variables scopes) literal.variable
  pub unassigned : value_on t.placed literal.variable ≡ None
  pub room : literal.variable ≤ t.room

-- a row of a side that is unit
module _ (scopes : List Scope) (s : SearchState) (side : Quant) (row : ℕ) (kept : Literal)
    (searching : IsSearching scopes s) (reduced : IsReducedStep side scopes s.derivation row)
    (unit : IsUnitIn side scopes (value_on s.trail.placed) (row_of s.derivation row) kept) where
  pub asked : IsAsked scopes s.trail kept
  asked =
      let known = (step_row scopes s.derivation row searching.paused.intact.legal reduced.step).over_prefix kept
      unit.stands in
      record {
        trail = searching.paused.intact.trail;
        known = known;
        unassigned = none_open (value_on s.trail.placed kept.variable) unit.open_yet;
        room = searching.paused.intact.room.trail kept.variable known;
      }

  -- the literal is assigned
  module _ (t : TrailState) (before : Counter)
      (is : t ≡ with_literal scopes s.trail (good_literal side kept) (Propagated row)) where
    pub pushed : IsTrailFor scopes t → before.spent ≤ before.budget → before.spent ≢ before.budget
        → (s.trail.assigned ≤ before.spent → t.assigned ≡ s.trail.assigned + 1)
        → Advances scopes 0 s (record s { trail = t }) before (after before 1)
    pushed trail within left one =
        advances scopes s (record s { trail = t }) (good_literal side kept) (Propagated row) before looking_laws
        searching (changes_of s s t refl (ap (λ (u : TrailState). u.room) is)) is trail
        (ap (value_on s.trail.placed) (asked_over side kept) ∙ asked.unassigned)
        (λ e. let g : Propagated row ≡ Assumed = e in cc)
        (λ pivot id e p. reason_asked side pivot scopes s kept row id reduced unit e p)
        within left one

    pub pushes : Pushes s (record s { trail = t }) (good_literal side kept) (Propagated row) before (after before 1)
    pushes = record { derivation = refl; placed = ap (λ (u : TrailState). u.placed) is; counted = refl }

-- then the watches were asked
pub propagates_looked : {scopes : List Scope} {s between new : SearchState} {before now : Counter}
    → Propagates scopes s between before now → Looks scopes between new → Propagates scopes s new before now
propagates_looked {scopes} {s} {between} {new} {before} {now} h looks = record {
  goes = continues_then h.goes (continues_looked now looks);
  steps = steps_then s.derivation between.derivation new.derivation h.steps looks.steps;
  allowed = ap (λ (t : TrailState). t.allowed) looks.trail ∙ h.allowed;
  restarts = ap (λ (t : TrailState). t.restarts) looks.trail ∙ h.restarts;
  long = looks.long ∙ h.long;
  refuting = λ matrix start r. refuting_looked scopes matrix start between new now looks (h.refuting matrix start r);
}

-- and what a unit row asks for was assigned, or was due
module _ (scopes : List Scope) (s between : SearchState) (before now : Counter) (side : Quant) (row : ℕ)
    (kept : Literal) (h : Propagates scopes s between before now) (attached : IsAttached between side row)
    (unit : IsUnitIn side scopes (value_on between.trail.placed) (row_of between.derivation row) kept) where
  reduced_one : IsReducedStep side scopes between.derivation row
  reduced_one = h.goes.searching.paused.intact.watched.sides side row attached

  pub propagates_pushed : (t : TrailState)
      → t ≡ with_literal scopes between.trail (good_literal side kept) (Propagated row) → IsTrailFor scopes t
      → now.spent ≤ now.budget → now.spent ≢ now.budget
      → (between.trail.assigned ≤ now.spent → t.assigned ≡ between.trail.assigned + 1)
      → Propagates scopes s (record between { trail = t }) before (after now 1)
  propagates_pushed t is trail within left one =
      let goes = pushed scopes between side row kept h.goes.searching reduced_one unit t now is trail within left one in
      record {
        goes = continues_then h.goes (continues_advanced goes);
        steps = h.steps;
        allowed = goes.allowed;
        restarts = ap (λ (u : TrailState). u.restarts) is ∙ h.restarts;
        long = h.long;
        refuting = λ matrix start r. refuting_push scopes matrix start between (record between { trail = t }) side row
            kept now (after now 1) (h.refuting matrix start r) attached unit goes.assumed
            (pushes scopes between side row kept h.goes.searching reduced_one unit t now is);
      }

  pub due_unit_found : WasDue scopes s between
  due_unit_found =
      due_then h.goes (due_now scopes between between side row kept h.goes.searching
      reduced_one unit refl)

  pub few_until_unit : (matrix : List Row) (start : ℕ) → IsRefuting scopes matrix start s before
      → now.spent ≡ now.budget → now.budget - start < propagation_limit (size_of scopes)
  few_until_unit matrix start refuting spent =
      few_assignment scopes start between now side (row_of between.derivation row) kept h.goes.searching
      (asked scopes between side row kept h.goes.searching reduced_one unit).known unit
      (h.refuting matrix start refuting).forced spent
