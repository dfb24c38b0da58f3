use Rattle.derive.specs.State.{OpenClause}
use Rattle.derive.proofs.Drops.{legal_drops, clauses_filtered, front_stays, not_from}
use Rattle.derive.proofs.derivation.Derivation.cut_to.Goals as goal

pub returns-clause-legal : goal.returns-clause-legal
returns-clause-legal c = legal_drops _ _ _ c.drop_all.ensures.drops

pub returns-clause-clauses : goal.returns-clause-clauses
returns-clause-clauses c = clauses_filtered _ _ _ c.drop_all.ensures.drops _
    (λ (clause : OpenClause). not_from clause.id c.args.first)

pub returns-clause-front : goal.returns-clause-front
returns-clause-front c = front_stays _ _ _ c.drop_all.ensures.supported c.drop_all.ensures.drops
