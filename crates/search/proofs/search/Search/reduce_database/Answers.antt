use Rattle.std.proofs.Common.{arith, ap, sym, subst, ◌∙◌}
use Rattle.search.specs.Forgetting.{Forgets, long_reasons}
use Rattle.search.specs.State.{SearchState}
use Rattle.search.proofs.Clearing.{forgets_none}
use Rattle.search.proofs.search.Search.reduce_database.Goals as goal

pub returns-then-self-kept-clause-ok : goal.returns-then-self-kept-clause-ok
returns-then-self-kept-clause-ok c =
    let long = ap (λ (t : SearchState). t.long) c.self.view_is in
    let few = c.if-self-kept.true in
    forgets_none c.args.kept c.args.prefix.now c.args.self.now c.requires.searching (omega (arith, long, few))

pub returns-then-most-reasons-clause-ok : goal.returns-then-most-reasons-clause-ok
returns-then-most-reasons-clause-ok c =
    let s = c.args.self.now in
    let long = ap (λ (t : SearchState). t.long) c.self.view_is in
    let few = c.long_reasons-reasons.ensures.few in
    let more = c.if-self-kept.false in
    let now = c.if-most-reasons.true in
    subst (Forgets c.args.kept c.args.prefix.now s) (sym c.long_reasons-reasons.ensures.same)
    (forgets_none c.args.kept c.args.prefix.now s c.requires.searching (omega (arith, long, few, more, now)))

pub reduce_to_half-requires-clause-reasons : goal.reduce_to_half-requires-clause-reasons
reduce_to_half-requires-clause-reasons c =
    let now = c.if-most-reasons.false in
    c.long_reasons-reasons.ensures.all (omega (arith, now)) ∙ ap long_reasons (sym c.long_reasons-reasons.ensures.same)
