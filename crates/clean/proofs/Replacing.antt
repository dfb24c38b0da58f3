-- A literal that is resolved away by its reason, made clean before.
use Rattle.std.proofs.Common.{◌≡◌, ℕ, ◌+◌, ◌*◌, ◌<◌, ◌≤◌, true, List, length, take, Contains, Some, Ok, Err, sym, subst, ap, ◌∙◌, arith}
use Rattle.std.specs.Prelude.{IfOk, OnErr, OnOk, Result}
use Rattle.std.proofs.lemmas.List.{take_all}
use Rattle.prefix.specs.declared.quant.Quant.{Quant}
use Rattle.prefix.specs.Literal.{Literal, negation}
use Rattle.prefix.specs.Scopes.{Scope}
use Rattle.truth.specs.Matrix.{Values}
use Rattle.steps.specs.Counter.{Counter, after, left}
use Rattle.calculus.specs.Rows.{Row, reduce}
use Rattle.calculus.specs.Search.{IsCleanBut, IsPending, cause_on, is_bad_now, literals_on, resolved_with, value_on}
use Rattle.calculus.specs.Search.Cause.{Propagated}
use Rattle.calculus.proofs.RowLaws.{reduce_twice}
use Rattle.calculus.proofs.Searching.{bad_assigned}
use Rattle.calculus.proofs.TrailLaws.{reason_from}
use Rattle.calculus.proofs.Turns.{turn_no_clash}
use Rattle.trail.specs.State.{TrailState, is_marked}
use Rattle.derive.specs.State.{State, IsLegalFor, row_of}
use Rattle.clean.specs.Cleaning.{MayReplace, Replaces}
use Rattle.clean.specs.Marks.{CleansReasons, MarksMore, StopsCleaning, marks_in, marks_left}
use Rattle.clean.specs.Reasons.{HaveReasons, IsReason}
use Rattle.clean.specs.Turns.{IsResolvable, StopsAfter, Turns}
use Rattle.clean.proofs.Circling.{few_marks, same_placed, spent_under, times_most}
use Rattle.clean.proofs.Keeping.{after_both, after_more, reduced_stays, resolves_more, row_stays, step_row}
use Rattle.clean.proofs.Moving.{clean_moves, values}
use Rattle.clean.proofs.Ways.{clean_on_front, front_whole}

-- few reasons are made clean
pub few_made : (a b : TrailState) (m : ℕ) → length a.marks ≡ length a.placed → MarksMore a b m → m ≤ marks_left a
few_made a b m long more =
    let few = few_marks b.marks (length b.marks) in
    let same : marks_in (take (length b.marks) b.marks) ≡ marks_in b.marks =
    ap marks_in (take_all (length b.marks) b.marks (omega arith)) in
    let size = more.long in
    let marked = more.marked in
    omega arith

-- more steps may be counted
pub stops_weaker : {A E : Type 0} (r : Result A E) (scopes : List Scope) (old new : State) (t now : TrailState)
    (before later : Counter) (few most : ℕ) → few ≤ most
    → OnErr r (StopsCleaning scopes old new t now before later few)
    → OnErr r (StopsCleaning scopes old new t now before later most)
stops_weaker (Ok x) scopes old new t now before later few most fits stops = tt
stops_weaker (Err e) scopes old new t now before later few most fits stops = let was = stops.few in
    record {
      made = stops.made;
      taken = stops.taken;
      came = stops.came;
      reduced = stops.reduced;
      marks = stops.marks;
      few = omega arith;
      fewer = stops.fewer;
      counted = stops.counted;
      resolves = stops.resolves;
    }

pub stops_wider : (scopes : List Scope) (old new : State) (t now : TrailState) (before later : Counter) (few most : ℕ)
    → few ≤ most → StopsCleaning scopes old new t now before later few
    → StopsCleaning scopes old new t now before later most
stops_wider scopes old new t now before later few most fits stops = let was = stops.few in
    record {
      made = stops.made;
      taken = stops.taken;
      came = stops.came;
      reduced = stops.reduced;
      marks = stops.marks;
      few = omega arith;
      fewer = stops.fewer;
      counted = stops.counted;
      resolves = stops.resolves;
    }

-- a stop after reasons were made clean
pub stops_later : (scopes : List Scope) (old middle new : State) (t now : TrailState) (before spent later : Counter)
    (most : ℕ) → CleansReasons scopes old middle t now before spent most → length t.marks ≡ length t.placed
    → StopsAfter scopes 1 middle new spent later
    → StopsCleaning scopes old new t now before later (marks_left t * length t.placed + (most + 1))
stops_later scopes old middle new t now before spent later most cleans long stops =
    let made = few_made t now cleans.made long cleans.marks in
    let square = times_most cleans.made (marks_left t) (length t.placed) made in
    let few = cleans.few in let one = stops.few in let fewer = stops.fewer in let no_more = cleans.resolves.fewer in
    record {
      made = cleans.made;
      taken = (cleans.taken + cleans.reduced) + stops.taken;
      came = cleans.taken + stops.came;
      reduced = cleans.reduced + stops.reduced;
      marks = cleans.marks;
      few = omega arith;
      fewer = omega arith;
      counted = stops.counted ∙ (ap (λ (c : Counter). after c stops.taken) cleans.counted
          ∙ after_more before (cleans.taken + cleans.reduced) stops.taken);
      resolves = resolves_more scopes old middle new cleans.taken stops.came cleans.reduced stops.reduced
          cleans.resolves stops.resolves;
    }

pub spent_later : (scopes : List Scope) (old middle : State) (t now : TrailState) (before spent : Counter) (most : ℕ)
    → CleansReasons scopes old middle t now before spent most → length t.marks ≡ length t.placed
    → left spent < 2 → left before < 2 * (marks_left t * length t.placed + (most + 1))
spent_later scopes old middle t now before spent most cleans long full =
    let made = few_made t now cleans.made long cleans.marks in
    let square = times_most cleans.made (marks_left t) (length t.placed) made in
    let few = cleans.few in
    spent_under before spent cleans.taken cleans.reduced (marks_left t * length t.placed + (most + 1)) cleans.counted
    cleans.resolves.fewer full (omega arith)

module _ (pivot : Quant) (scopes : List Scope) (old middle : State) (t now : TrailState) (before spent : Counter)
    (row : ℕ) (f : Literal) (id : ℕ) (may : MayReplace pivot scopes old t row f)
    (cleans : CleansReasons scopes old middle t now before spent 0) (have : HaveReasons pivot scopes middle now)
    (legal : IsLegalFor scopes middle) (marked : is_marked now f.variable ≡ true)
    (cause : cause_on now.placed f.variable ≡ Some (Propagated id)) where
  same : literals_on now.placed ≡ literals_on t.placed
  same = same_placed t now cleans.made cleans.marks

  bad_whole : is_bad_now pivot (value_on t.placed) f ≡ true
  bad_whole = front_whole pivot t.placed may.end f may.is_bad

  reason : IsReason pivot scopes middle now (negation f) id
  reason = have f id may.pivot_type (ap (λ (v : Values). is_bad_now pivot v f) (values now.placed t.placed same)
      ∙ bad_whole) cause

  reason_clean : IsCleanBut pivot t.placed (negation f) (row_of middle id)
  reason_clean = clean_moves t.placed now.placed (sym same) pivot (negation f) (row_of middle id) (reason.clean marked)

  row_same : row_of middle row ≡ row_of old row
  row_same = row_stays old middle cleans.resolves.grows row may.step.step

  pub replace_resolvable : IsResolvable pivot scopes middle row f id
  replace_resolvable = let step = reduced_stays pivot scopes old middle row cleans.resolves.grows may.step in
      let front = take may.end t.placed in
      let assigned = bad_assigned pivot (value_on front f.variable) f may.is_bad in
      let is_reason = reason_from pivot front f (row_of middle id) assigned
      (clean_on_front pivot t.placed may.end (negation f) (row_of middle id) assigned reason_clean) in
      record {
        row_step = step.step;
        row_side = step.of_side;
        row_reduced = step.reduced;
        reason_step = reason.step.step;
        reason_side = reason.step.of_side;
        reason_reduced = reason.step.reduced;
        stands = subst (λ (r : Row). Contains r f) (sym row_same) may.stands;
        opposes = reason.unit.stands;
        pivot_type = may.pivot_type;
        no_clash = turn_no_clash pivot scopes front may.kept
            (λ k e. (may.way.keeps k e).2) (row_of middle row) (row_of middle id) f
            (step_row scopes middle row legal step.step) (step_row scopes middle id legal reason.step.step)
            (subst (λ (r : Row). IsPending pivot scopes (value_on front) may.kept r) (sym row_same) may.way.pending)
            is_reason;
      }

  pub replaces : (new : State) (later : Counter) (result : ℕ)
      → Turns pivot scopes middle new spent later row f id result
      → Replaces pivot scopes t now old new before later row f result
  replaces new later result turned = let few = cleans.few in
      record {
        reason = row_of middle id;
        is_row = step_row scopes middle id legal reason.step.step;
        clean = reason_clean;
        cleans = record {
          made = cleans.made;
          taken = cleans.taken + 1;
          reduced = cleans.reduced + turned.reduced;
          marks = cleans.marks;
          few = omega arith;
          counted = after_both before spent later cleans.taken 1 cleans.reduced turned.reduced cleans.counted
              turned.counted;
          resolves = resolves_more scopes old middle new cleans.taken 1 cleans.reduced turned.reduced cleans.resolves
              turned.resolves;
        };
        step = record {
          step = turned.step;
          of_side = turned.of_side;
          reduced = ap (reduce pivot scopes) turned.result
              ∙ (reduce_twice pivot scopes (resolved_with (row_of middle row) (row_of middle id) f)
              ∙ sym turned.result);
        };
        result = turned.result ∙ ap (λ (r : Row). reduce pivot scopes (resolved_with r (row_of middle id) f)) row_same;
      }

-- by the outcome of a call
pub on_ok_both : {A E : Type 0} (r : Result A E) (P R : A → Type 0) (Q : Type 0) → ((x : A) → P x → Q → R x)
    → IfOk r P → OnOk r Q → IfOk r R
on_ok_both (Ok x) P R Q f p q = f x p q
on_ok_both (Err e) P R Q f p q = tt

pub on_err_from : {A E : Type 0} (r : Result A E) (P Q : Type 0) → (P → Q) → OnErr r P → OnErr r Q
on_err_from (Ok x) P Q f p = tt
on_err_from (Err e) P Q f p = f p
