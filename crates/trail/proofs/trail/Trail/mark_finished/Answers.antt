use Rattle.std.proofs.Common.{length, refl}
use Rattle.trail.specs.Open.{finished_with}
use Rattle.trail.proofs.Finishing.{with_length}
use Rattle.trail.proofs.Tallies.{places_same}
use Rattle.trail.proofs.trail.Trail.mark_finished.Goals as goal

pub invariant_of-self : goal.invariant_of-self
invariant_of-self c =
    let room = length c.self.inside.spots in
    let known = finished_with c.is_full-is_full.result c.is_decision.result c.args.scope c.self.inside.finished in (
      c.self.invariant.0,
      c.self.invariant.1,
      rw c.note.ensures
          (places_same room room c.self.inside.tallies.items c.self.inside.tallies.items c.self.inside.finished
          known refl
          refl (with_length c.is_full-is_full.result c.is_decision.result c.args.scope c.self.inside.finished)
          c.self.invariant.2),
    )
