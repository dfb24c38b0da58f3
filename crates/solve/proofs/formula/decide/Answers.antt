use Rattle.std.proofs.Common.{◌≡◌, ◌∙◌, refl, sym, ap, subst}
use Rattle.search.specs.Counting.{size_of}
use Rattle.engine.specs.Counting.{with_solve}
use Rattle.solve.proofs.Deciding.{found, gave_up, told_is_right}
use Rattle.solve.specs.Decisions.{IsDecided, IsRight}
use Rattle.solve.proofs.formula.decide.Goals as goal

pub returns-in-Ok-clause-right : goal.returns-in-Ok-clause-right
returns-in-Ok-clause-right c =
    subst (λ b. IsRight b c.told.result) c.in-Ok.ensures.truth
    (subst (IsRight c.in-Ok.verdict.truth) (sym c.told.ensures.truth) (told_is_right c.in-Ok.verdict.truth))

pub returns-in-Ok-clause-ok : goal.returns-in-Ok-clause-ok
returns-in-Ok-clause-ok c terms s same holds =
    let before = c.args.engine.now in
    let e = c.solve.new.self in
    let v = c.in-Ok.verdict in
    let e_counts = subst (λ b. e.counts ≡ with_solve b before.restarts (size_of before.formula.scopes) before.counts)
    (ap (λ k. k.budget) c.new.ensures ∙ sym same) c.in-Ok.ensures.counts in
    subst (λ r. IsDecided terms s r e) (sym c.told.ensures.truth)
    (found terms s before e holds v v.truth refl c.in-Ok.ensures.truth c.in-Ok.ensures.proof
    c.in-Ok.ensures.emptied c.in-Ok.ensures.restarts c.in-Ok.ensures.kept_rows e_counts c.told.ensures.first)

pub returns-in-Err-Spent-clause-ok : goal.returns-in-Err-Spent-clause-ok
returns-in-Err-Spent-clause-ok c terms s same holds =
    let before = c.args.engine.now in
    let e = c.solve.new.self in
    let n = c.in-Err-Spent.ensures in
    gave_up terms s before e holds c.new.result c.solve.new.steps c.in-Err-Spent.stopped
    (ap (λ k. k.spent) c.new.ensures) (ap (λ k. k.budget) c.new.ensures ∙ sym same) n.budget n.kept n.none n.restarts
    n.kept_rows n.counts
    (rw c.in-Err-Spent.field-0-is at n.stop) (rw c.in-Err-Spent.field-0-is at n.quick)
