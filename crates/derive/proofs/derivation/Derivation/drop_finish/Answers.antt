use Rattle.std.proofs.Common.{◌∙◌, refl, ap, subst, sym}
use Rattle.derive.specs.State.{State, IsLegalFor, note_at, clauses_of, steps_of}
use Rattle.derive.proofs.Drops.{legal_drops, clauses_same, steps_same, finishes_go, kept_finishes}
use Rattle.derive.proofs.derivation.Derivation.drop_finish.Goals as goal

pub returns-clause-legal : goal.returns-clause-legal
returns-clause-legal c scopes legal =
    let P : State → Type 0 = IsLegalFor scopes in
    subst P (sym c.self.view_is) (legal_drops _ _ _ c.drop_all-2.ensures.drops scopes legal)

pub returns-clause-clauses : goal.returns-clause-clauses
returns-clause-clauses c = ap clauses_of c.self.view_is ∙ clauses_same _ _ _ c.drop_all-2.ensures.drops (λ clause. refl)

pub returns-clause-steps : goal.returns-clause-steps
returns-clause-steps c = ap steps_of c.self.view_is ∙ steps_same _ _ c.drop_all-2.ensures.supported
    c.drop_all-2.ensures.drops

pub invariant_of-self : goal.invariant_of-self
invariant_of-self c = (
  kept_finishes _ _ _ _ _ _ _ _ c.drop_all-2.ensures.drops c.self.view_is c.self.invariant.0,
  c.self.invariant.1,
)

pub returns-clause-exactly : goal.returns-clause-exactly
returns-clause-exactly c id = ap (λ (d : State). note_at d id) c.self.view_is
    ∙ finishes_go _ _ c.drop_all-2.ensures.supported c.drop_all-2.ensures.drops id
