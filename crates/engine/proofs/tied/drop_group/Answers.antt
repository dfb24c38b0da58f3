use Rattle.std.proofs.Common.{◌≡◌, ℕ, not, subst}
use Rattle.std.specs.Prelude.{filter, ◌==◌}
use Rattle.derive.specs.State.{OpenClause, clauses_of}
use Rattle.engine.proofs.Changing.{group_dropped}
use Rattle.engine.proofs.tied.drop_group.Goals as goal

pub returns-clause-tied : goal.returns-clause-tied
returns-clause-tied c =
    let f = c.args.frames.now.formula in
    let old = c.args.search.now in
    let new = c.drop_frame.new.self in
    group_dropped f old new c.args.group c.requires (c.drop_frame.ensures.resting f.scopes c.requires.resting)
    (subst (λ (tag : ℕ). clauses_of new.derivation
    ≡ filter (λ (d : OpenClause). not (d.frame == tag)) (clauses_of old.derivation)) c.tag_of.ensures
    c.drop_frame.ensures.clauses)
