use Rattle.std.proofs.Common.{[], ◌∷◌, inl, inr, refl, arith}
use Rattle.program.proofs.Statuses.{absent}
use Rattle.calls.proofs.WorkedLines.{cut, other}
use Rattle.calls.proofs.worked.worked_calls.Goals as goal

pub returns : goal.returns
returns c = record {
  no_memory = inr (inl refl);
  other_status = λ out error written said run. absent (10 ∷ 20 ∷ 0 ∷ 2 ∷ 3 ∷ 4 ∷ 5 ∷ 6 ∷ 7 ∷ []) 1 refl run.statuses;
  read_fault = λ out error written said run. run.read refl;
  beyond_output = λ error status said run. let low = run.written in omega (arith, low);
  beyond_error = λ out status written run. let low = run.said in omega (arith, low);
  cut_line = λ out run. cut run.line
      (run.is.other (λ e. omega (arith, e)) (λ e. omega (arith, e)) (λ e. omega (arith, e))) run.whole;
  other_line = λ out run. other run.line
      (run.is.other (λ e. omega (arith, e)) (λ e. omega (arith, e)) (λ e. omega (arith, e))) run.front;
}
