use Rattle.std.proofs.Common.{◌≡◌, Result, Ok, Err, true, subst}
use Rattle.std.specs.Prelude.{IfOk}
use Rattle.example_engine.specs.declared.answer.Answer.{Answer}
use Rattle.example_engine.specs.Answers.{IsRight}
use Rattle.example_engine.specs.Differing.{differing}
use Rattle.example_engine.proofs.differ.differ_from_one.Goals as goal

-- the truth is computed from the definition
is_true : {E : Type 0} (result : Result Answer E) → IfOk result (IsRight differing)
    → IfOk result (λ a. a.truth ≡ true)
is_true (Ok a) right = right.truth
is_true (Err e) right = tt

pub returns-clause-yes : goal.returns-clause-yes
returns-clause-yes c = is_true c.decide.result
    (subst (λ f. IfOk c.decide.result (IsRight f)) c.in_ok-ask.ensures.formula_is c.decide.ensures)
