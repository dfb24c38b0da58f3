-- A resolution that two steps are left for.
use Rattle.std.proofs.Common.{◌≡◌, ℕ, ◌+◌, false, List, Some, Ok, Err, refl, sym, subst, ap, ◌∙◌, arith}
use Rattle.std.specs.Result.{result_ok}
use Rattle.std.specs.Prelude.{IsTrue, IfOk, IfSome, OnOk, OnErr, IsErr, ◌↔◌, Result}
use Rattle.prefix.specs.declared.quant.Quant.{Quant}
use Rattle.prefix.specs.Literal.{Literal, negation}
use Rattle.prefix.specs.Scopes.{Scope}
use Rattle.steps.specs.Counter.{Counter, after}
use Rattle.calculus.specs.Rows.{reduce}
use Rattle.calculus.specs.Search.{cause_on, clashes_with, resolved_with}
use Rattle.calculus.specs.Search.Cause.{Propagated}
use Rattle.calculus.proofs.RowLaws.{reduce_twice}
use Rattle.trail.specs.State.{TrailState}
use Rattle.derive.specs.State.{State, has_rows, row_of}
use Rattle.clean.specs.Cleanable.{IsCleanable, StaysCleanable}
use Rattle.clean.specs.Cleaning.{MayResolveAway, ReplacesByReason}
use Rattle.clean.specs.Marks.{CleansReasons}
use Rattle.clean.specs.Reasons.{HaveReasons, IsReason, IsReducedStep}
use Rattle.clean.specs.Turns.{AddsResolvent, IsResolvable, MayResolve, Turns}
use Rattle.clean.proofs.Circling.{marks_none}
use Rattle.clean.proofs.Keeping.{after_none, reasons_stay, resolves_none}

-- a step that is left can be counted
pub tick_left : {E : Type 0} (r : Result (Unit {0}) E) (P : Type 0) (spent budget : ℕ) → OnOk r P
    → (IsErr r ↔ (spent ≡ budget)) → (spent ≡ budget → ⊥) → P
tick_left (Ok x) P spent budget ok full free = ok
tick_left (Err e) P spent budget ok full free = absurd (free (full.0 refl))

-- by the outcome of a call
pub either_way : {A E : Type 0} (r : Result A E) (P : A → Type 0) (Q R : Type 0) → ((x : A) → P x → R) → (Q → R)
    → IfOk r P → OnErr r Q → R
either_way (Ok x) P Q R f g p q = f x p
either_way (Err e) P Q R f g p q = g q

pub some_from : {A E : Type 0} (r : Result A E) (P Q : A → Type 0) → ((x : A) → P x → Q x) → IfOk r P
    → IfSome (result_ok r) Q
some_from (Ok x) P Q f p = f x p
some_from (Err e) P Q f p = tt

-- nothing was done, where something may be
pub cleans_at_most : (scopes : List Scope) (d : State) (t : TrailState) (c : Counter) (most : ℕ) → IsTrue (has_rows d)
    → CleansReasons scopes d d t t c c most
cleans_at_most scopes d t c most rows = record {
  made = 0;
  taken = 0;
  reduced = 0;
  marks = marks_none t;
  few = omega arith;
  counted = after_none c;
  resolves = resolves_none scopes d rows;
}

-- what a call leaves
module _ (pivot : Quant) (scopes : List Scope) (d new : State) (t : TrailState) (before later : Counter) where
  pub none_resolved : IsTrue (has_rows d) → new ≡ d → later ≡ before → MayResolve scopes d new before later
  none_resolved rows same uncounted = subst (λ (e : State). MayResolve scopes d e before later) (sym same) (record {
    came = 0;
    few = omega arith;
    counted = uncounted ∙ after_none before;
    resolves = resolves_none scopes d rows;
  })

  pub one_resolved : (middle : State) (between : Counter) (row : ℕ) (f : Literal) (reason resolvent : ℕ)
      → AddsResolvent pivot scopes d middle row f reason resolvent → between ≡ after before 1 → new ≡ middle
      → later ≡ between → MayResolve scopes d new before later
  one_resolved middle between row f reason resolvent adds one same uncounted =
      subst (λ (e : State). MayResolve scopes d e before later) (sym same) (record {
        came = 1;
        few = omega arith;
        counted = uncounted ∙ one;
        resolves = adds.resolves;
      })

  pub resolve_counted : MayResolve scopes d new before later → CleansReasons scopes d new t t before later 1
  resolve_counted may = let few = may.few in
      record {
        made = 0;
        taken = may.came;
        reduced = 0;
        marks = marks_none t;
        few = omega arith;
        counted = may.counted ∙ ap (after before) (let e : may.came ≡ may.came + 0 = omega arith in e);
        resolves = may.resolves;
      }

  pub turn_counted : (row : ℕ) (f : Literal) (reason id : ℕ)
      → Turns pivot scopes d new before later row f reason id → CleansReasons scopes d new t t before later 1
  turn_counted row f reason id turned = record {
    made = 0;
    taken = 1;
    reduced = turned.reduced;
    marks = marks_none t;
    few = omega arith;
    counted = turned.counted;
    resolves = turned.resolves;
  }

  -- what came in with them leaves all in order
  pub stays_in_order : (most : ℕ) → IsCleanable pivot scopes d t → CleansReasons scopes d new t t before later most
      → StaysCleanable scopes d new t t
  stays_in_order most was cleans = record {
    rows = cleans.resolves.has_rows;
    legal = cleans.resolves.legal was.legal;
    trail = was.trail;
    reasons = λ side have. reasons_stay side scopes d new t cleans.resolves.grows have;
  }

-- a reason as it stands
module _ (pivot : Quant) (scopes : List Scope) (d : State) (t : TrailState) (row : ℕ) (f : Literal)
    (step : IsReducedStep pivot scopes d row) (may : MayResolveAway pivot scopes t.placed (row_of d row) f)
    (have : HaveReasons pivot scopes d t) (id : ℕ) (cause : cause_on t.placed f.variable ≡ Some (Propagated id)) where
  pub reason_stands : IsReason pivot scopes d t (negation f) id
  reason_stands = have f id may.pivot_type may.is_bad cause

  pub stands_resolvable : clashes_with (row_of d row) (row_of d id) f ≡ false → IsResolvable pivot scopes d row f id
  stands_resolvable apart = record {
    row_step = step.step;
    row_side = step.of_side;
    row_reduced = step.reduced;
    reason_step = reason_stands.step.step;
    reason_side = reason_stands.step.of_side;
    reason_reduced = reason_stands.step.reduced;
    stands = may.stands;
    opposes = reason_stands.unit.stands;
    pivot_type = may.pivot_type;
    no_clash = apart;
  }

  pub stands_replaced : (new : State) (before later : Counter) (result : ℕ)
      → Turns pivot scopes d new before later row f id result
      → ReplacesByReason pivot scopes t.placed d new row f result
  stands_replaced new before later result turned = record {
    reason = id;
    cause = cause;
    step = record {
      step = turned.step;
      of_side = turned.of_side;
      reduced = ap (reduce pivot scopes) turned.result
          ∙ (reduce_twice pivot scopes (resolved_with (row_of d row) (row_of d id) f) ∙ sym turned.result);
    };
    result = turned.result;
  }
