use Rattle.search.proofs.Clearing.{few_kept}
use Rattle.search.proofs.search.Search.attach_end.Goals as goal

pub returns-then-may_stay-clause-long : goal.returns-then-may_stay-clause-long
returns-then-may_stay-clause-long c =
    few_kept c.args.kept c.args.prefix.now c.args.self.now c.attach_learned.new.self c.args.row
    c.requires.searching.paused.intact.legal
    c.requires.reduced.step (c.may_stay.ensures c.if-may_stay.true) c.attach_learned.ensures.one
