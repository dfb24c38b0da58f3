use Rattle.std.proofs.Common.{◌∙◌}
use Rattle.derive.proofs.Shortening.{cut_front, taken_back}
use Rattle.derive.proofs.derivation.Derivation.undo_to.Goals as goal

pub shorten-requires-clause-none : goal.shorten-requires-clause-none
shorten-requires-clause-none c = cut_front c.args.self.now c.cut_to.new.self c.args.first c.cut_to.ensures.front

pub returns : goal.returns
returns c before whole is grown =
    c.shorten.ensures ∙ taken_back before c.args.self.now c.cut_to.new.self c.args.first is whole grown
    c.next_id-next.ensures.fits c.requires c.cut_to.ensures.drops c.cut_to.ensures.front
