use Rattle.std.proofs.Common.{true, length, drop, ap, ◌∙◌}
use Rattle.calculus.specs.Search.{literals_on}
use Rattle.trail.specs.State.{TrailState}
use Rattle.search.proofs.Undoing.{cut_changes, saved_length, rests}
use Rattle.search.proofs.Laws.{holding_laws, looking_laws}
use Rattle.search.proofs.search.Search.stop.Goals as goal

pub drop_finish-requires : goal.drop_finish-requires
drop_finish-requires c =
    let is = c.stop-stopped.ensures.cleared in
    rests c.args.prefix.now c.args.self.now _ holding_laws looking_laws c.requires.paused
    (cut_changes _ c.args.self.now c.stop-stopped.new.self 0 c.undone.new.self.clauses c.undone.new.self.cubes
    c.undoing.new.self
    c.self.view_is (ap (λ (t : TrailState). t.room) is) c.undone.ensures.clauses c.undone.ensures.cubes
    (ap length c.undoing.ensures
    ∙ saved_length (drop 0 (literals_on c.self.inside.trail.placed)) c.self.inside.decider) true)
    (record {
      empty = ap (λ (t : TrailState). t.placed) is;
      allowed = ap (λ (t : TrailState). t.allowed) is;
      begun =
          ap (λ (t : TrailState). t.assigned) is;
      fresh = ap (λ (t : TrailState). t.restarts) is;
      kept = c.stop-stopped.ensures.kept;
    })
