use Rattle.std.proofs.Common.{ap, ◌∙◌}
use Rattle.trail.specs.State.{TrailState}
use Rattle.search.proofs.Starting.{searching_empty}
use Rattle.search.proofs.search.Search.start.Goals as goal

pub reduce_database-requires : goal.reduce_database-requires
reduce_database-requires c =
    record {
      searching = searching_empty c.args.prefix.now c.attach_all.new.self c.attach_all.ensures.paused
          (ap (λ (t : TrailState). t.placed) c.attach_all.ensures.trail
          ∙ c.requires.rest.empty);
    }
