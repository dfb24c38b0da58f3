use Rattle.std.proofs.Common.{◌≡◌, sym, subst, ◌∙◌}
use Rattle.search.specs.State.{IsTallied, SearchState}
use Rattle.search.specs.Watching.{Parts}
use Rattle.search.proofs.Tallying.{parts_counted, tallied_parted}
use Rattle.search.proofs.search.Search.detach.Goals as goal

pub returns-then-has-clause-parts : goal.returns-then-has-clause-parts
returns-then-has-clause-parts c =
    let parts = subst (λ (s : SearchState). Parts s c.detach_uncounted.new.self c.args.id) c.has.ensures.same
    c.detach_uncounted.ensures.parts in
    subst (λ (s : SearchState). Parts c.args.self.now s c.args.id) (sym c.discount.ensures)
    (parts_counted c.args.self.now c.detach_uncounted.new.self c.args.id _ parts)

pub returns-then-has-clause-tallied : goal.returns-then-has-clause-tallied
returns-then-has-clause-tallied c =
    let held = sym c.has.ensures.has ∙ c.if-has.true in
    let parts = subst (λ (s : SearchState). Parts s c.detach_uncounted.new.self c.args.id) c.has.ensures.same
    c.detach_uncounted.ensures.parts in
    subst IsTallied (sym c.discount.ensures)
    (tallied_parted c.args.self.now c.detach_uncounted.new.self c.args.id parts c.requires.live held
    c.requires.tallied (subst (λ (s : SearchState). c.detach_uncounted.new.self.long ≡ s.long) c.has.ensures.same
    c.detach_uncounted.ensures.long))
