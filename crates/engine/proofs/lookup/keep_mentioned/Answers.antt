use Rattle.std.proofs.Common.{rules}
use Rattle.std.proofs.lemmas.Fn.{filter_same}
use Rattle.prefix.specs.Literal.{Literal}
use Rattle.calculus.specs.Verdicts.{mentions}
use Rattle.engine.proofs.lookup.keep_mentioned.Goals as goal

pub returns : goal.returns
returns c = filter_same _ (λ (l : Literal). mentions c.args.row.now l.variable) _ (λ x b f called. search rules)
    c.args.lits.now.items c.retain.new.self.items c.retain.ensures.filtered
