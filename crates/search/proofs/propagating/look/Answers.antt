use Rattle.prefix.specs.declared.quant.Quant.TheVariants.{Exists, Forall}
use Rattle.calculus.specs.Search.{value_on}
use Rattle.watch.specs.Events.{AreQuiet}
use Rattle.search.specs.Watching.{holding}
use Rattle.search.proofs.Looking.{quiet_stays}
use Rattle.search.proofs.propagating.look.Goals as goal

pub returns-in-Quiet-look_at-clause-found : goal.returns-in-Quiet-look_at-clause-found
returns-in-Quiet-look_at-clause-found c s side =
    let first = c.requires.searching.0 in
    let looks = c.look_at.ensures.looks first c.requires.searching.1 in
    let more = c.in-Quiet-look_at.ensures.looks first looks.searching in
    elim side as (λ p. AreQuiet p c.args.prefix.now (value_on c.args.trail.now.placed) c.look_at-in-Quiet.new.rows) [
      | Exists ↦ quiet_stays Exists c.args.prefix.now
          (holding first c.look_at.new.watches c.args.trail.now c.look_at.new.rows)
          (holding first c.look_at-in-Quiet.new.watches c.args.trail.now c.look_at-in-Quiet.new.rows) more
          c.in-Quiet.ensures.event
      | Forall ↦ c.in-Quiet-look_at.ensures.event
    ]
