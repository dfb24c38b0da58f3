-- Answers to a formula that was loaded and decided.
use Rattle.std.proofs.Common.{◌≡◌, ℕ, Bool, true, false, List, [], ◌++◌, length, codes, Some, None, refl, sym, ap, ap₂, subst, ◌∙◌, arith, append-nil, ⊎_elim}
use Rattle.std.specs.Prelude.{max, option_map}
use Rattle.truth.specs.declared.formula.Formula.{Formula}
use Rattle.truth.specs.Truth.{truth, truth_under}
use Rattle.trail.specs.State.{Account}
use Rattle.calculus.specs.Rows.{Row}
use Rattle.calculus.specs.Search.{IsRefuted}
use Rattle.frames.specs.Commands.{Solve as Decide, Verdict as Found}
use Rattle.frames.specs.Fold.{ScriptState, state_after}
use Rattle.frames.specs.State.{open_clauses}
use Rattle.search.specs.Counting.{size_of}
use Rattle.engine.specs.Keeping.{first_kept}
use Rattle.engine.specs.State.{EngineState}
use Rattle.solve.specs.declared.answer.Answer.{Answer}
use Rattle.solve.specs.declared.answer.Answer.TheVariants.{Sat, Unsat, Unknown}
use Rattle.solve.specs.Feeding.{HoldsFormula, built, opened}
use Rattle.solve.specs.Decisions.{HasVerdictFor, IsAnsweredBy, answer_with, unassumed, Decides, GivesUp, IsDecided, answered, told_by}
use Rattle.solve.specs.Outputs.{Output, verdict_text}
use Rattle.solve.specs.Answers.{IsAnswerTo, answer_line}
use Rattle.solve.specs.Standing.{IsWitness, Standing}
use Rattle.solve.specs.Holding.{Holds, given_of}
use Rattle.solve.specs.Entries.{AddsEntry, IsStopAt}
use Rattle.solve.specs.Terms.{Terms, terms_of}
use Rattle.solve.specs.declared.decision.Decision.{Decision}

-- an engine that holds a formula holds what the commands come to that build it, however often it may begin anew, and
-- however many rows it may keep
pub built_held : (budget restarts kept : ℕ) (f : Formula) (e begun now : EngineState)
    → HoldsFormula f.prefix f.clauses e → begun ≡ record e { restarts = restarts }
    → now ≡ record begun { kept_rows = kept } → Holds (terms_of budget restarts kept) now (built f)
built_held budget restarts kept f e begun now holds first second =
    subst (λ n. Holds (terms_of budget restarts kept) n (built f))
    (sym (second ∙ ap (λ (x : EngineState). record x { kept_rows = kept }) first)) (record {
      formula = sym holds.formula;
      verdict = sym (ap (option_map given_of) holds.undecided);
      proof = λ v some. absurd (let g : None ≡ Some v = sym holds.undecided ∙ some in cc);
      values = λ v some. absurd (let g : None ≡ Some v = sym holds.undecided ∙ some in cc);
      clauses = holds.counted;
      solves = holds.unsolved;
      budgets = let none = holds.unbudgeted in omega (arith, none);
      restarts = refl;
      most_restarts = let none = holds.never in omega (arith, none);
      kept = refl;
      variables = let none = holds.unsized in omega (arith, none);
    })

-- the same where it never begins anew
pub never_begun : (budget : ℕ) (f : Formula) (e : EngineState) → HoldsFormula f.prefix f.clauses e
    → Holds (terms_of budget 0 first_kept) e (built f)
never_begun budget f e holds =
    built_held budget 0 first_kept f e (record e { restarts = 0 }) e holds refl
    (ap₂ (λ r k. record e { restarts = r; kept_rows = k }) holds.restarts holds.kept)

line_is : (a : Answer) (t : Bool) → answer_line a ≡ verdict_text t → a ≡ answer_with t
line_is Sat true e = refl
line_is Sat false e = absurd (let n : 4 ≡ 6 = ap length e in omega (arith, n))
line_is Unsat true e = absurd (let n : 6 ≡ 4 = ap length e in omega (arith, n))
line_is Unsat false e = refl
line_is Unknown true e = absurd (let n : 8 ≡ 4 = ap length e in omega (arith, n))
line_is Unknown false e = absurd (let n : 8 ≡ 6 = ap length e in omega (arith, n))

unknown_is : (a : Answer) → answer_line a ≡ codes "UNKNOWN\n" → a ≡ Unknown
unknown_is Sat e = absurd (let n : 4 ≡ 8 = ap length e in omega (arith, n))
unknown_is Unsat e = absurd (let n : 6 ≡ 8 = ap length e in omega (arith, n))
unknown_is Unknown e = refl

-- what a decision of the formula comes to
pub record Decided (terms : Terms) (f : Formula) (a : Answer) (told : List Account) (s : Standing) : Type 0 where
  pub is : IsAnsweredBy f a s
  pub right : IsAnswerTo terms f a
  pub entry : (old : List Account) → AddsEntry (IsStopAt terms (size_of f.prefix)) old (old ++ told) a

-- a formula that is built has its clauses open
pub rows_open : (f : Formula) → open_clauses (opened f) ≡ f.clauses
rows_open f = append-nil (f.clauses ++ []) ∙ append-nil f.clauses

module _ (plain : (scopes : _) (clauses : List Row) → truth_under [] scopes clauses ≡ truth scopes clauses)
    (terms : Terms) (f : Formula) where
  size : max 0 (size_of f.prefix) ≡ size_of f.prefix
  size = omega arith

  by_truth : (t : Bool) (after : Standing) (told : List Account) → told ≡ []
      → truth_under [] f.prefix (open_clauses (opened f)) ≡ t
      → IsWitness (opened f) (unassumed t) after.witness
      → after.script ≡ state_after (built f).script (Decide (Found t)) → Decided terms f (answer_with t) told after
  by_truth t after told none right witness state = record {
    is = record {
      formula = ap (λ (s : ScriptState). s.formula) state;
      clauses = ap (λ (s : ScriptState). s.clauses) state;
      solves = ap (λ (s : ScriptState). s.solves) state;
      greatest = ap (λ (s : ScriptState). s.greatest) state ∙ size;
      verdict = of t (ap (λ (s : ScriptState). s.verdict) state) witness;
    };
    right = rightly t (sym (plain f.prefix f.clauses)
        ∙ ap (truth_under [] f.prefix) (sym (rows_open f)) ∙ right);
    entry = λ old. none_told t old (ap (λ l. old ++ l) none ∙ append-nil old);
  }
    where
      of : (t : Bool) → after.script.verdict ≡ Some (unassumed t) → IsWitness (opened f) (unassumed t) after.witness
          → HasVerdictFor f (answer_with t) after
      of true v w = (v, w)
      of false v w = (v, w)

      rightly : (t : Bool) → truth f.prefix f.clauses ≡ t → IsAnswerTo terms f (answer_with t)
      rightly true e = e
      rightly false e = e

      none_told : (t : Bool) (old : List Account) → old ++ told ≡ old
          → AddsEntry (IsStopAt terms (size_of f.prefix)) old (old ++ told) (answer_with t)
      none_told true old e = e
      none_told false old e = e

  pub decided : (decision : Decision) (e : EngineState) → (d : IsDecided terms (built f) decision e)
      → Decided terms f (answered decision) (told_by decision) d.after
  decided decision e d = ⊎_elim found gave_up d.solved
    where
      found : Decides (built f) (record { text = answer_line (answered decision); stops = told_by decision }) d.after
          → Decided terms f (answered decision) (told_by decision) d.after
      found h = subst (λ a. Decided terms f a (told_by decision) d.after)
          (sym (line_is (answered decision) h.truth (ap (λ (o : Output). o.text) h.says_truth)))
          (by_truth h.truth d.after (told_by decision) (ap (λ (o : Output). o.stops) h.says_truth) h.right h.witness
          h.state)

      gave_up : GivesUp terms (built f) (record { text = answer_line (answered decision); stops = told_by decision })
          d.after
          → Decided terms f (answered decision) (told_by decision) d.after
      gave_up h = subst (λ a. Decided terms f a (told_by decision) d.after)
          (sym (unknown_is (answered decision) (ap (λ (o : Output). o.text) h.says_unknown))) (record {
            is = record {
              formula = ap (λ (s : Standing). s.script.formula) h.state;
              clauses = ap (λ (s : Standing). s.script.clauses) h.state;
              solves = ap (λ (s : Standing). s.script.solves) h.state;
              greatest = ap (λ (s : Standing). s.script.greatest) h.state ∙ size;
              verdict = tt;
            };
            right = record {
              limit = h.short;
              propagation = λ refuted. h.slow refl
                  (subst (λ rows. IsRefuted f.prefix rows []) (sym (rows_open f)) refuted);
            };
            entry = λ old. (
              h.stopped,
              ap (λ l. old ++ l) (ap (λ (o : Output). o.stops) h.says_unknown),
              h.stop,
            );
          })
