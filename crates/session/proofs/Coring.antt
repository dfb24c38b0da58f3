-- Replies to a question for a core.
use Rattle.std.proofs.Common.{◌≡◌, ℕ, Bool, true, false, List, [], ◌∷◌, Option, Some, None, codes, refl, sym, ap, subst, ◌∙◌, inl, inr, arith}
use Rattle.std.specs.Prelude.{◌<◌, ◌≤◌, Err, IfSome, MatchOption, Result, if◌then◌else◌, option_map}
use Rattle.steps.specs.Counter.{step_limit}
use Rattle.trail.specs.State.{Account}
use Rattle.frames.specs.Fold.{Given}
use Rattle.frames.specs.State.{OpenFormula}
use Rattle.search.specs.Counting.{size_of}
use Rattle.engine.specs.Cores.{HasCore, IsCoreStop, core_of, core_refusal, refused_by, verdict_refusal}
use Rattle.engine.specs.declared.group_core.CoreRefusal.{CoreRefusal}
use Rattle.engine.specs.declared.group_core.CoreRefusal.TheVariants.{NotUnsat, NoVerdict, Spent}
use Rattle.engine.specs.State.{EngineState, VerdictState}
use Rattle.qscript.specs.declared.command.Command.TheVariants.{GroupCore}
use Rattle.session.specs.declared.reply.Reply.TheVariants.{Unknown}
use Rattle.session.specs.Replies.{IsReplyWith, core_text, no_core, refusal_number}
use Rattle.solve.specs.Outputs.{says}
use Rattle.solve.specs.Standing.{Standing}
use Rattle.solve.specs.Holding.{Holds, given_of}
use Rattle.session.specs.Steps.{IsReplyFor}
use Rattle.solve.specs.Entries.{IsStopAt}
use Rattle.solve.specs.Terms.{Terms}
use Rattle.session.proofs.Telling.{IsAnswer}

-- where a core is not refused, or the budget is spent, the verdict is that the formula is false
pub core_asked : {T : Type 0} (e : EngineState) (r : Result T CoreRefusal) (P : VerdictState → Type 0)
    → (r ≡ Err NoVerdict → ⊥) → (r ≡ Err NotUnsat → ⊥)
    → MatchOption (core_refusal e) (IfSome e.verdict P) (λ refusal. r ≡ Err refusal)
    → (v : VerdictState) × (e.verdict ≡ Some v) × (v.truth ≡ false) × P v
core_asked e r P some lost told = by e.verdict refl told
  where
    by : (o : Option VerdictState) → e.verdict ≡ o → MatchOption (refused_by o) (IfSome o P)
        (λ refusal. r ≡ Err refusal)
        → (v : VerdictState) × (e.verdict ≡ Some v) × (v.truth ≡ false) × P v
    by None is wrong = absurd (some wrong)
    by (Some v) is goes = at v.truth refl goes
      where
        at : (b : Bool) → v.truth ≡ b → MatchOption (verdict_refusal b) (P v) (λ refusal. r ≡ Err refusal)
            → (w : VerdictState) × (e.verdict ≡ Some w) × (w.truth ≡ false) × P w
        at true won wrong = absurd (lost wrong)
        at false refuted p = (v, is, refuted, p)

module _ (terms : Terms) (e : EngineState) (s : Standing) (holds : Holds terms e s) (v : VerdictState)
    (some : e.verdict ≡ Some v) where
  given : s.script.verdict ≡ Some (given_of v)
  given = holds.verdict ∙ ap (option_map given_of) some

  -- the question isn't refused where the formula is false
  pub unrefused_core : v.truth ≡ false → refusal_number s GroupCore ≡ None
  unrefused_core lost = ap no_core given ∙ ap (λ (b : Bool). if◌then◌else◌ {A = Option ℕ} b (Some 53) None) lost

  -- the core is told
  pub tells_core : v.truth ≡ false → (core : List ℕ) → core ≡ core_of e.formula v.assumptions
      → HasCore e.formula v.assumptions → IsAnswer terms GroupCore s (core_text core) (refusal_number s GroupCore)
  tells_core lost core is has =
      subst (IsAnswer terms GroupCore s (core_text core)) (sym (unrefused_core lost)) (
        inl (record {
          told = subst
              (λ o. IfSome o
              (λ (g : Given). (says (core_text core) ≡ says (core_text (core_of s.script.formula g.assumptions)))
              × HasCore s.script.formula g.assumptions)) (sym given)
              (subst (λ (f : OpenFormula). (says (core_text core) ≡ says (core_text (core_of f v.assumptions)))
              × HasCore f v.assumptions) (sym holds.formula) (ap (λ c. says (core_text c)) is, has));
          same = refl;
        }),
        tt,
      )

  -- the budget is spent in a trial
  pub gives_up_core : v.truth ≡ false → (budget : ℕ) (stopped : Account) → terms.budget ≡ budget
      → IsCoreStop e.restarts budget e.formula v.assumptions (Spent stopped)
      → IsReplyWith (refusal_number s GroupCore) terms s GroupCore
      (record { text = codes "UNKNOWN\n"; stops = stopped ∷ [] }) s
      × IsReplyFor (refusal_number s GroupCore) s GroupCore (Unknown stopped)
  gives_up_core lost budget stopped same stop =
      subst (λ o. IsReplyWith o terms s GroupCore (record { text = codes "UNKNOWN\n"; stops = stopped ∷ [] }) s
      × IsReplyFor o s GroupCore (Unknown stopped)) (sym (unrefused_core lost)) (
        inr (record {
          stopped = stopped;
          short = subst (λ (f : OpenFormula). terms.budget < step_limit terms.restarts (size_of f.scopes))
              (sym holds.formula) short;
          stop = subst (λ (f : OpenFormula). IsStopAt terms (size_of f.scopes) stopped) (sym holds.formula) at;
          says_unknown = refl;
          same = refl;
        }),
        tt,
      )
    where
      short : terms.budget < step_limit terms.restarts (size_of e.formula.scopes)
      short = subst (λ r. terms.budget < step_limit r (size_of e.formula.scopes)) holds.restarts
          (let spent = stop.on.spent.short in omega (arith, spent, same))

      at : IsStopAt terms (size_of e.formula.scopes) stopped
      at = record {
        budget = stop.on.spent.budget ∙ sym same;
        vars = stop.on.spent.vars;
        few =
            let few = stop.on.spent.few in
            let spent = stop.on.spent.spent in
            let whole = stop.on.whole in omega (arith, few, spent, whole, same);
        restarts = subst (λ r. stopped.restarts ≤ r) holds.restarts stop.on.spent.restarts;
      }
