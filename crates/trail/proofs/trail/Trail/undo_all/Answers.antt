use Rattle.std.proofs.Common.{◌-◌, ◌∙◌, ap, drop, false, length, replicate}
use Rattle.trail.specs.State.{TrailState}
use Rattle.trail.proofs.Finishing.{without_length}
use Rattle.trail.proofs.trail.Trail.undo_all.Goals as goal

pub returns-clause-finished : goal.returns-clause-finished
returns-clause-finished c = c.clear.ensures ∙ ap (λ n. replicate n false)
    (ap (λ (t : TrailState). length t.finished) c.self-2.view_is ∙ c.loop-self.invariant.3)

pub loop-self-preserved : goal.loop-self-preserved
loop-self-preserved c =
    let t = c.loop-self.self in (
      ap (λ (u : TrailState). u.assigned) c.pop.ensures ∙ c.loop-self.invariant.0,
      ap (λ (u : TrailState). u.restarts) c.pop.ensures ∙ c.loop-self.invariant.1,
      ap (λ (u : TrailState). u.room) c.pop.ensures ∙ c.loop-self.invariant.2,
      ap (λ (u : TrailState). length u.finished) c.pop.ensures
          ∙ (without_length (drop (length t.placed - 1) t.depths) t.finished ∙ c.loop-self.invariant.3),
    )
