use Rattle.std.proofs.Common.{◌≡◌, ◌<◌, ◌≤◌, sym, ap, ◌∙◌}
use Rattle.calculus.specs.Search.{last_level}
use Rattle.trail.specs.State.{undone_to}
use Rattle.trail.proofs.Cutting.{undone_less, undone_low, undone_high}
use Rattle.trail.proofs.Keeping.{kept_cut, raised_cut}
use Rattle.trail.proofs.trail.Trail.undo_to.Goals as goal

pub loop-self-preserved : goal.loop-self-preserved
loop-self-preserved c =
    let high : c.args.level < last_level c.loop-self.self.placed = rw (← c.level.ensures) c.loop-self-test.true in
    ap (undone_to c.args.level) c.pop.ensures ∙ (undone_less c.args.level c.loop-self.self high ∙ c.loop-self.invariant)

cut : (c : goal.After-loop-self) → c.loop-self.self ≡ undone_to c.args.level c.args.self.now
cut c =
    let low : last_level c.loop-self.self.placed ≤ c.args.level = rw (← c.level.ensures) c.loop-self-test.false in
    sym (undone_low c.args.level c.loop-self.self low) ∙ c.loop-self.invariant

pub returns-clause-kept : goal.returns-clause-kept
returns-clause-kept c = λ scopes kept. rw (cut c) (kept_cut scopes c.args.level c.args.self.now kept)

pub returns-clause-raised : goal.returns-clause-raised
returns-clause-raised c = λ high n fits. rw (cut c ∙ undone_high c.args.level c.args.self.now high)
    (raised_cut n c.args.level c.args.self.now.placed fits high)
