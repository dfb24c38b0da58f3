use Rattle.std.proofs.Common.{◌≡◌, sym, subst, ◌∙◌}
use Rattle.search.specs.State.{IsTallied, SearchState}
use Rattle.search.specs.Watching.{Joins}
use Rattle.search.proofs.Tallying.{joins_counted, one_joined, tallied_joined, tally_fits}
use Rattle.search.proofs.search.Search.attach.Goals as goal

pub count-requires-clause-fits : goal.count-requires-clause-fits
count-requires-clause-fits c =
    let free = sym c.has.ensures.has ∙ c.if-has.false in
    let joins = subst (λ (s : SearchState). Joins c.args.prefix.now s c.attach_uncounted.new.self c.args.id)
    c.has.ensures.same
    c.attach_uncounted.ensures.joins in
    tally_fits c.args.prefix.now c.args.self.now c.attach_uncounted.new.self c.args.id joins c.requires.live free
    c.requires.tallied (subst (λ (s : SearchState). c.attach_uncounted.new.self.long ≡ s.long) c.has.ensures.same
    c.attach_uncounted.ensures.long)

pub returns-clause-joins : goal.returns-clause-joins
returns-clause-joins c =
    let joins = subst (λ (s : SearchState). Joins c.args.prefix.now s c.attach_uncounted.new.self c.args.id)
    c.has.ensures.same
    c.attach_uncounted.ensures.joins in
    subst (λ (s : SearchState). Joins c.args.prefix.now c.args.self.now s c.args.id) (sym c.count.ensures)
    (joins_counted c.args.prefix.now c.args.self.now c.attach_uncounted.new.self c.args.id _ joins)

pub returns-clause-tallied : goal.returns-clause-tallied
returns-clause-tallied c =
    let free = sym c.has.ensures.has ∙ c.if-has.false in
    let joins = subst (λ (s : SearchState). Joins c.args.prefix.now s c.attach_uncounted.new.self c.args.id)
    c.has.ensures.same
    c.attach_uncounted.ensures.joins in
    subst IsTallied (sym c.count.ensures)
    (tallied_joined c.args.prefix.now c.args.self.now c.attach_uncounted.new.self c.args.id joins c.requires.live free
    c.requires.tallied (subst (λ (s : SearchState). c.attach_uncounted.new.self.long ≡ s.long) c.has.ensures.same
    c.attach_uncounted.ensures.long))

pub returns-clause-one : goal.returns-clause-one
returns-clause-one c =
    let joins = subst (λ (s : SearchState). Joins c.args.prefix.now s c.attach_uncounted.new.self c.args.id)
    c.has.ensures.same
    c.attach_uncounted.ensures.joins in
    one_joined c.args.prefix.now c.args.self.now c.attach_uncounted.new.self c.count.new.self c.args.id joins
    (subst (λ (s : SearchState). c.attach_uncounted.new.self.long ≡ s.long) c.has.ensures.same
    c.attach_uncounted.ensures.long)
    c.count.ensures
