use Rattle.std.proofs.Common.{List, map, subst, arith}
use Rattle.std.proofs.lemmas.List.{take_all}
use Rattle.prefix.specs.Literal.{Literal}
use Rattle.builder.specs.Rows.{flipped}
use Rattle.certcheck.specs.Check.{number_of}
use Rattle.builder.specs.Building.{Adds}
use Rattle.certcheck.proofs.Groups.{pairs_of, pairs_step, two_as}
use Rattle.certcheck.proofs.lost.put_false_clause.Goals as goal

pub loop-lit-preserved : goal.loop-lit-preserved
loop-lit-preserved c = record {
  adds = λ ns table.
      let n = c.number_of.result in
      pairs_step c.args.build.now c.loop-lit.build c.put_clause.new.build ns c.args.selector c.args.clause.now
      c.loop-lit.lit-index c.lit-item.result c.lit-item.result n (omega arith) c.lit-item.is
      (c.number_of.ensures.value ns table) (c.loop-lit.invariant.adds ns table)
      (two_as c.loop-lit.build c.put_clause.new.build c.flip.result c.flip-in-loop-lit.result
      (flipped c.args.selector) (flipped n) c.flip.ensures.value c.flip-in-loop-lit.ensures.value
      c.in_ok-put_clause.ensures.adds);
  empty = c.in_ok-put_clause.ensures.empty;
}

pub returns-clause-adds : goal.returns-clause-adds
returns-clause-adds c ns table =
    subst (λ (l : List Literal). Adds c.args.build.now c.loop-lit.build
    (pairs_of c.args.selector (map (number_of ns) l)))
    (take_all c.loop-lit.lit-index c.args.clause.now (omega arith)) (c.loop-lit.invariant.adds ns table)
