use Rattle.std.proofs.Common.{sym, ◌∙◌, ap}
use Rattle.std.specs.List.{list_all}
use Rattle.std.proofs.lemmas.List.{take_all}
use Rattle.frames.specs.Commands.{is_known}
use Rattle.frames.proofs.Knowing.{all_in_range}
use Rattle.frames.proofs.lists.are_known.Goals as goal

pub returns-clause-range : goal.returns-clause-range
returns-clause-range c = λ _. all_in_range c.args.prefix.now c.args.numbers.now c.scopes.ensures.valid
    (ap (list_all (is_known c.args.prefix.now)) (sym
    (take_all c.loop-n.n-index c.args.numbers.now c.loop-n-test.false)) ∙ c.loop-n.invariant)
