use Rattle.std.proofs.Common.{◌≡◌, [], ap, sym, ◌∙◌}
use Rattle.calculus.specs.Search.{literals_on, value_on}
use Rattle.rows.specs.Arena.{link_at}
use Rattle.watch.specs.Families.{base_of, other_of}
use Rattle.watch.specs.Links.{owner}
use Rattle.watch.specs.State.{progress}
use Rattle.watch.proofs.Moving.{owner_attached, owner_link}
use Rattle.watch.proofs.Passing.{aside_good, passed_by}
use Rattle.watch.proofs.walk.pass.Goals as goal

pub returns-then-is_good_watch-clause-passed : goal.returns-then-is_good_watch-clause-passed
returns-then-is_good_watch-clause-passed g c = λ e.
    let base = base_of c.args.family in
    let other = base_of (other_of c.args.family) in
    let attached = owner_attached g.S.Side.PIVOT c.args.rows.now base c.args.id c.args.name c.requires.stands in
    let is : owner g.S.Side.PIVOT c.args.rows.now other c.args.id ≡ c.link-aside.result =
    owner_link g.S.Side.PIVOT c.args.rows.now other c.args.id attached
    ∙ sym (c.link-aside.ensures ∙ ap (link_at c.args.rows.now c.args.id) (c.base.ensures.value
    ∙ ap base_of c.other.ensures)) in
    passed_by g.S.Side.PIVOT (value_on c.args.trail.now.placed) base c.args.name c.args.rows.now c.args.id
    (aside_good g.S.Side.PIVOT c.args.prefix.now (progress (literals_on c.args.trail.now.placed) [] 0 0)
    c.args.first.now c.args.second.now c.args.rows.now c.args.family c.args.id c.args.name
    (value_on c.args.trail.now.placed) c.link-aside.result c.requires.kept c.requires.stands is
    (c.is_good_watch.ensures c.if-is_good_watch.true))
