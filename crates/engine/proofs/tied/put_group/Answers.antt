use Rattle.std.proofs.Common.{ℕ, sym, ◌∙◌, subst}
use Rattle.derive.specs.State.{clauses_of}
use Rattle.search.specs.Changing.{AddsClauses}
use Rattle.search.specs.State.{IsResting}
use Rattle.engine.specs.Kept.{group_tag}
use Rattle.engine.proofs.Changing.{group_put, group_stays}
use Rattle.engine.proofs.tied.put_group.Goals as goal

pub returns-then-is_active-clause-ok : goal.returns-then-is_active-clause-ok
returns-then-is_active-clause-ok c =
    group_stays c.args.frames.now.formula c.args.search.now c.args.group c.requires
    (sym c.is_active.ensures ∙ c.if-is_active.true)

pub returns-clause-ok : goal.returns-clause-ok
returns-clause-ok c =
    let new = c.add_clauses.new.self in
    let old = c.args.search.now in
    group_put c.args.frames.now.formula old new c.args.group c.requires
    (subst (λ scopes. IsResting scopes new) c.prefix.ensures.value c.add_clauses.ensures.resting)
    (sym c.is_active.ensures ∙ c.if-is_active.false)
    (subst (λ rows. AddsClauses (group_tag c.args.group) rows (clauses_of old.derivation) (clauses_of new.derivation))
    c.group_clauses-clauses.ensures.value
    (subst (λ (tag : ℕ). AddsClauses tag c.group_clauses-clauses.result.now (clauses_of old.derivation)
    (clauses_of new.derivation)) c.tag_of.ensures c.in_ok-add_clauses.ensures.ok))
