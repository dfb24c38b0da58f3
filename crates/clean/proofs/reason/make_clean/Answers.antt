use Rattle.std.proofs.Common.{◌∙◌, sym}
use Rattle.std.proofs.lemmas.Bool.{false≢true}
use Rattle.steps.specs.declared.stop.Stop.TheVariants.{Spent as spent}
use Rattle.clean.proofs.Circling.{cleans_none}
use Rattle.clean.proofs.Rounds.{at_err, first_blocked, first_frames}
use Rattle.clean.proofs.reason.make_clean.Goals as goal

pub returns-then-is_clean-clause-cleans : goal.returns-then-is_clean-clause-cleans
returns-then-is_clean-clause-cleans g c =
    cleans_none c.args.prefix.now c.args.derivation.now c.args.trail.now c.args.steps.now c.requires.cleanable.rows

pub returns-clause-done : goal.returns-clause-done
returns-clause-done g c = λ marked. absurd (false≢true (sym c.if-is_clean.false ∙ (c.is_clean.ensures ∙ marked)))

pub clean_all-requires-clause-frames : goal.clean_all-requires-clause-frames
clean_all-requires-clause-frames g c =
    first_frames g.S.Side.PIVOT c.args.prefix.now c.args.derivation.now c.args.trail.now c.frame_of.result c.args.v
    c.new-stack.result.items c.push.new.self.items c.requires.cleanable.reasons c.requires.pivot (sym c.is_clean.ensures
    ∙ c.if-is_clean.false) c.frame_of.ensures.variable c.frame_of.ensures.row c.frame_of.ensures.whole
    c.new-stack.ensures.items c.in_ok-push.ensures.items

pub returns-clause-due : goal.returns-clause-due
returns-clause-due g c = λ e.
    first_blocked g.S.Side.PIVOT c.args.prefix.now c.args.derivation.now c.args.trail.now c.frame_of.result c.args.v
    c.new-stack.result.items c.push.new.self.items c.new-stack.ensures.items c.in_ok-push.ensures.items
    c.frame_of.ensures.variable c.frame_of.ensures.row (sym c.is_clean.ensures ∙ c.if-is_clean.false)
    (at_err c.clean_all.result spent _ c.clean_all.ensures.due e)
