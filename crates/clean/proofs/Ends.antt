-- What each outcome of a call leaves.
use Rattle.std.proofs.Common.{◌≡◌, ℕ, ◌+◌, ◌*◌, ◌<◌, ◌≤◌, List, length, Option, Some, None, Ok, Err, is_some, refl, sym, ap, ◌∙◌, arith}
use Rattle.std.specs.Prelude.{IfOk, IsTrue, OnErr, OnOk, Result}
use Rattle.std.proofs.lemmas.Bool.{false≢true}
use Rattle.prefix.specs.Scopes.{Scope}
use Rattle.rows.specs.Arena.{Arena}
use Rattle.steps.specs.Counter.{Counter, after}
use Rattle.trail.specs.State.{TrailState}
use Rattle.derive.specs.Antecedents.{Fits}
use Rattle.derive.specs.Growing.{AreUnlinked, GainsSteps}
use Rattle.derive.specs.State.{State, has_rows}
use Rattle.derive.proofs.Growth.{same_unlinked}
use Rattle.clean.specs.Marks.{CleansReasons, StopsCleaning, marks_left}
use Rattle.clean.specs.Turns.{Resolves}
use Rattle.clean.proofs.Circling.{times_most, times_sum}

-- a derivation with its rows has no links under ids that aren't live
pub unlinked_now : (d : State) → IsTrue (has_rows d) → ((arena : Arena) → d.rows ≡ Some arena → Fits d.notes arena)
    → AreUnlinked d d
unlinked_now d here fits = by d.rows refl
  where
    by : (rows : Option Arena) → d.rows ≡ rows → AreUnlinked d d
    by None e = absurd (let gone = ap is_some e in false≢true (sym gone ∙ here))
    by (Some arena) e = same_unlinked d arena e (fits arena e)

gained : (scopes : List Scope) (old new : State) (n r : ℕ) → AreUnlinked old old → Resolves scopes old new n r
    → GainsSteps old new
gained scopes old new n r dead resolves = record {
  grows = resolves.grows;
  has_rows = resolves.has_rows;
  unlinked = resolves.unlinked dead;
  clauses = resolves.clauses;
}

after_rises : (before later : Counter) (n : ℕ) → later ≡ after before n → before.spent ≤ later.spent
after_rises before later n e = let s : later.spent ≡ before.spent + n = ap (λ (c : Counter). c.spent) e in omega arith

module _ {A E : Type 0} (scopes : List Scope) (old new : State) (t now : TrailState) (before later : Counter)
    (few most : ℕ) where
  pub gains_on : (r : Result A E) → AreUnlinked old old → OnOk r (CleansReasons scopes old new t now before later few)
      → OnErr r (StopsCleaning scopes old new t now before later most) → GainsSteps old new
  gains_on (Ok x) dead cleans stops = gained scopes old new cleans.taken cleans.reduced dead cleans.resolves
  gains_on (Err e) dead cleans stops = gained scopes old new stops.came stops.reduced dead stops.resolves

  pub rises_on : (r : Result A E) → OnOk r (CleansReasons scopes old new t now before later few)
      → OnErr r (StopsCleaning scopes old new t now before later most) → before.spent ≤ later.spent
  rises_on (Ok x) cleans stops = after_rises before later (cleans.taken + cleans.reduced) cleans.counted
  rises_on (Err e) cleans stops = after_rises before later stops.taken stops.counted

-- the bound in the trail's length alone
pub under_limit : (t : TrailState) (n more : ℕ) → n < 2 * (marks_left t * length t.placed + more)
    → more ≤ 2 * length t.placed → n < 2 * ((length t.placed + 2) * length t.placed)
under_limit t n more below few =
    let long = length t.placed in
    let most = times_most (marks_left t) (length t.placed) (length t.placed) (omega arith) in
    let sum = times_sum (length t.placed) 2 (length t.placed) in
    omega arith

-- by the outcome of a call
pub cleans_counted : {A E : Type 0} (r : Result A E) (P : A → Type 0) (Q : Type 0) → ((x : A) → P x → Q) → IfOk r P
    → OnOk r Q
cleans_counted (Ok x) P Q f p = f x p
cleans_counted (Err e) P Q f p = tt
