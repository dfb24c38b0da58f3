use Rattle.std.proofs.Common.{sym, refl, ◌∙◌}
use Rattle.calculus.specs.Plays.{total}
use Rattle.calculus.proofs.Sound.{sound}
use Rattle.calculus.proofs.Verdict.{following_decides}
use Rattle.calculus.proofs.Values.{earlier_alone}
use Rattle.calculus.proofs.plays.circuits_win.Goals as goal

pub returns : goal.returns
returns c pivot scopes clauses assumptions steps circuit outer proof keeps follows =
    let s = sound pivot scopes clauses assumptions steps proof in (
      (λ inputs allowed. (
        following_decides pivot scopes clauses assumptions steps (circuit inputs) outer s
            (λ x b e q. keeps inputs x q ∙ allowed x b e q) (follows inputs) (total (circuit inputs)) (λ x i. refl),
        (follows inputs).given,
      )),
      (λ x i q v w agree. earlier_alone pivot scopes clauses assumptions steps outer s.last_step (circuit v) (circuit w)
          (follows v) (follows w) x i q (λ y j p below. keeps v y p ∙ (agree y j p below ∙ sym (keeps w y p)))),
    )
