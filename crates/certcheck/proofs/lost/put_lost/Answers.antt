use Rattle.std.proofs.Common.{List, subst, ◌∙◌, arith}
use Rattle.std.proofs.lemmas.List.{take_all}
use Rattle.calculus.specs.Rows.{Row}
use Rattle.builder.specs.Building.{Adds}
use Rattle.certcheck.specs.Check.{lost, numbered}
use Rattle.certcheck.proofs.Groups.{lost_step, place_small}
use Rattle.certcheck.proofs.lost.put_lost.Goals as goal

pub selector_of-selector-requires : goal.selector_of-selector-requires
selector_of-selector-requires c =
    place_small c.args.winner c.args.first c.args.clauses.now c.loop-i.i (omega arith) c.requires.few

pub loop-i-preserved : goal.loop-i-preserved
loop-i-preserved c = record {
  adds = λ ns table.
      lost_step c.args.build.now c.loop-i.build c.put_lost_clause.new.build c.args.winner ns c.args.first
      c.args.clauses.now c.loop-i.i c.index-clauses-i.result c.lits.result.now c.selector_of-selector.result
      (omega arith) (c.lits.ensures ∙ c.index-clauses-i.is) c.selector_of-selector.ensures
      (c.loop-i.invariant.adds ns table) (c.in_ok-put_lost_clause.ensures.adds ns table);
  empty = c.in_ok-put_lost_clause.ensures.empty;
}

pub returns-clause-adds : goal.returns-clause-adds
returns-clause-adds c ns table =
    subst (λ (l : List Row). Adds c.args.build.now c.loop-i.build (lost c.args.winner c.args.first (numbered ns l)))
    (take_all c.loop-i.i c.args.clauses.now (omega arith)) (c.loop-i.invariant.adds ns table)
