-- A literal that is resolved away by its reason as that stands.
use Rattle.std.proofs.Common.{◌≡◌, ℕ, true, false, List, Some, is_some, sym, subst, ap, ◌∙◌, inl, inr, ⊎_elim, arith}
use Rattle.prefix.specs.declared.quant.Quant.{Quant}
use Rattle.prefix.specs.Literal.{Literal, negation}
use Rattle.prefix.specs.Scopes.{Scope}
use Rattle.steps.specs.Counter.{Counter}
use Rattle.calculus.specs.Rows.{Row, reduce}
use Rattle.calculus.specs.Search.{IsCleanBut, IsPending, Trail, before_on, cause_on, clashes_with, is_bad_if, resolved_with, value_on}
use Rattle.calculus.specs.Search.Cause.{Propagated}
use Rattle.calculus.proofs.RowLaws.{reduce_twice}
use Rattle.calculus.proofs.Searching.{bad_assigned}
use Rattle.trail.specs.State.{TrailState}
use Rattle.derive.specs.State.{State, IsLegalFor, row_of}
use Rattle.clean.specs.Cleaning.{MayReplace, Replaces, ReplacesBefore}
use Rattle.clean.specs.Reasons.{HaveReasons, IsReason}
use Rattle.clean.specs.Turns.{IsResolvable, Turns}
use Rattle.clean.proofs.Circling.{marks_none}
use Rattle.clean.proofs.Fronts.{before_take, value_low}
use Rattle.clean.proofs.Keeping.{step_row}
use Rattle.clean.proofs.Ways.{front_whole}

module _ (pivot : Quant) (scopes : List Scope) (d : State) (t : TrailState) (row : ℕ) (f : Literal)
    (may : MayReplace pivot scopes d t row f) where
  replaced_known : is_some (value_on t.placed f.variable) ≡ true
  replaced_known = bad_assigned pivot (value_on t.placed f.variable) f (front_whole pivot t.placed may.end f may.is_bad)

  -- a clean reason is pending before the literal's place
  clean_pending : (reason : Row) → IsCleanBut pivot t.placed (negation f) reason
      → IsPending pivot scopes (value_on (before_on t.placed f.variable)) (Some (negation f)) reason
  clean_pending reason clean l i =
      ⊎_elim inl
      (λ r. inr (inl (subst (λ (b : Trail). is_bad_if pivot (value_on b l.variable) l ≡ true)
      (sym (before_take t.placed f.variable))
      (ap (λ o. is_bad_if pivot o l) (value_low _ t.placed l.variable (r.1 replaced_known)) ∙ r.0))))
      (clean l i)

  pub replaced_before : (now : TrailState) (new : State) (before then : Counter) (id : ℕ)
      → Replaces pivot scopes t now d new before then row f id
      → ReplacesBefore pivot scopes t now d new before then row f id
  replaced_before now new before then id by = record {
    reason = by.reason;
    is_row = by.is_row;
    pending = clean_pending by.reason by.clean;
    cleans = by.cleans;
    step = by.step;
    result = by.result;
  }

  -- a reason as it stands
  module _ (have : HaveReasons pivot scopes d t) (id : ℕ) (cause : cause_on t.placed f.variable ≡ Some (Propagated id))
    where
      pub standing : IsReason pivot scopes d t (negation f) id
      standing = have f id may.pivot_type (front_whole pivot t.placed may.end f may.is_bad) cause

      pub standing_resolvable : clashes_with (row_of d row) (row_of d id) f ≡ false
          → IsResolvable pivot scopes d row f id
      standing_resolvable apart = record {
        row_step = may.step.step;
        row_side = may.step.of_side;
        row_reduced = may.step.reduced;
        reason_step = standing.step.step;
        reason_side = standing.step.of_side;
        reason_reduced = standing.step.reduced;
        stands = may.stands;
        opposes = standing.unit.stands;
        pivot_type = may.pivot_type;
        no_clash = apart;
      }

      pub standing_replaces : IsLegalFor scopes d → (new : State) (before later : Counter) (result : ℕ)
          → Turns pivot scopes d new before later row f id result
          → ReplacesBefore pivot scopes t t d new before later row f result
      standing_replaces legal new before later result turned = record {
        reason = row_of d id;
        is_row = step_row scopes d id legal standing.step.step;
        pending = standing.unit.others;
        cleans = record {
          made = 0;
          taken = 1;
          reduced = turned.reduced;
          marks = marks_none t;
          few = omega arith;
          counted = turned.counted;
          resolves = turned.resolves;
        };
        step = record {
          step = turned.step;
          of_side = turned.of_side;
          reduced = ap (reduce pivot scopes) turned.result
              ∙ (reduce_twice pivot scopes (resolved_with (row_of d row) (row_of d id) f) ∙ sym turned.result);
        };
        result = turned.result;
      }
