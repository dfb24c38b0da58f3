use Rattle.std.proofs.Common.{[], arith}
use Rattle.extract.specs.Tables.{removals_at}
use Rattle.step_core.specs.declared.listing.CoreStep.TheVariants.{Input}
use Rattle.extract.proofs.Indexing.{index_start, index_more, index_end}
use Rattle.extract.proofs.index.index_of.Goals as goal

pub loop-i-init : goal.loop-i-init
loop-i-init c = (
  λ x. rw c.new-index.ensures.items (index_start c.args.pivot c.args.core.now.lines x),
  λ x. rw c.new-stamps.ensures.items (omega arith),
)

pub loop-i-preserved : goal.loop-i-preserved
loop-i-preserved c = (
  λ x. index_more c.args.pivot c.args.core.now.lines c.loop-i.i (removals_at c.loop-i.index.items x)
      (removals_at c.push_line.new.index.items x) x (record { lits = []; step = Input }) (omega arith)
      (c.loop-i.invariant.0 x) (c.in_ok-push_line.ensures.pushed x (record { lits = []; step = Input })),
  c.in_ok-push_line.ensures.stamped,
)

pub returns-clause-value : goal.returns-clause-value
returns-clause-value c x =
    index_end c.args.pivot c.args.core.now.lines c.loop-i.i _ x (omega arith) (c.loop-i.invariant.0 x)

pub returns-clause-within : goal.returns-clause-within
returns-clause-within c x = (c.loop-i.invariant.0 x).within
