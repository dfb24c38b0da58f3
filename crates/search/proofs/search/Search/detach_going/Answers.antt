use Rattle.std.proofs.Common.{◌≡◌, ◌&&◌, true, refl, sym, subst, ◌∙◌}
use Rattle.std.proofs.lemmas.Bool.{and_parts}
use Rattle.search.specs.State.{IsIntact, SearchState}
use Rattle.search.specs.Watching.{Sheds}
use Rattle.search.specs.contracts.search.Search.{the_view}
use Rattle.search.proofs.Listing.{intact_flagged}
use Rattle.search.proofs.Shedding.{sheds_parted}
use Rattle.search.proofs.search.Search.detach_going.Goals as goal

pub detach-requires-clause-intact : goal.detach-requires-clause-intact
detach-requires-clause-intact c = (
  c.requires.intact.0,
  intact_flagged c.requires.intact.0 (the_view c.self.inside) (c.self.inside.joined && c.args.goes)
      (subst (IsIntact c.requires.intact.0) (sym (c.self.view_is ∙ c.has.ensures.same)) c.requires.intact.1),
)

pub returns-then-has-clause-sheds : goal.returns-then-has-clause-sheds
returns-then-has-clause-sheds c =
    let is : the_view c.self.inside ≡ c.args.self.now = c.self.view_is ∙ c.has.ensures.same in
    subst
    (λ (s : SearchState). Sheds (λ i. (i ≡ c.args.id) × (c.args.goes ≡ true)) s c.detach.new.self)
    is
    (sheds_parted (λ i. (i ≡ c.args.id) × (c.args.goes ≡ true)) (the_view c.self.inside)
    c.detach.new.self (c.self.inside.joined && c.args.goes) c.args.id
    (λ scopes intact. intact_flagged scopes (the_view c.self.inside) (c.self.inside.joined && c.args.goes) intact)
    c.detach.ensures.parts c.detach.ensures.tallied c.detach.ensures.fewer
    (λ both. let p = and_parts c.self.inside.joined c.args.goes both in (p.0, (refl, p.1))))
