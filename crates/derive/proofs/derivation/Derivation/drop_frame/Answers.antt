use Rattle.std.proofs.Common.{◌∙◌, refl, ap, subst, sym}
use Rattle.derive.specs.State.{State, IsLegalFor, clauses_of}
use Rattle.derive.proofs.Drops.{legal_drops, clauses_filtered, kept_frame}
use Rattle.derive.proofs.derivation.Derivation.drop_frame.Goals as goal

pub returns-clause-legal : goal.returns-clause-legal
returns-clause-legal c scopes legal =
    let P : State → Type 0 = IsLegalFor scopes in
    subst P (sym c.self.view_is) (legal_drops _ _ _ c.drop_all.ensures.drops scopes legal)

pub returns-clause-clauses : goal.returns-clause-clauses
returns-clause-clauses c = ap clauses_of c.self.view_is ∙ clauses_filtered _ _ _ c.drop_all.ensures.drops _
    (λ clause. refl)

pub invariant_of-self : goal.invariant_of-self
invariant_of-self c = (
  rw c.forget_frame.ensures
      (kept_frame _ _ _ _ _ _ _ _ _ c.drop_all.ensures.drops c.self.view_is c.self.invariant.0),
  c.self.invariant.1,
)
