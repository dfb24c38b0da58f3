use Rattle.std.proofs.Common.{List, map, sym, subst}
use Rattle.std.specs.Result.{OnOk}
use Rattle.prefix.specs.declared.quant.Quant.{Quant}
use Rattle.builder.specs.Building.{Adds}
use Rattle.certcheck.specs.Building.{lost_clause}
use Rattle.certcheck.specs.Check.{Named, number_of}
use Rattle.certcheck.specs.Tables.{IsTableOf}
use Rattle.certcheck.proofs.lost.put_lost_clause.Goals as goal

pub returns-in-Exists-clause-adds : goal.returns-in-Exists-clause-adds
returns-in-Exists-clause-adds c =
    subst (λ (q : Quant). OnOk c.put_false_clause.result ((ns : List Named) → IsTableOf c.args.table.now ns
    → Adds c.args.build.now c.put_false_clause.new.build
    (lost_clause q c.args.selector (map (number_of ns) c.args.clause.now))))
    (sym c.in-Exists.is) c.put_false_clause.ensures.adds

pub returns-in-Forall-clause-adds : goal.returns-in-Forall-clause-adds
returns-in-Forall-clause-adds c =
    subst (λ (q : Quant). OnOk c.put_true_clause.result ((ns : List Named) → IsTableOf c.args.table.now ns
    → Adds c.args.build.now c.put_true_clause.new.build
    (lost_clause q c.args.selector (map (number_of ns) c.args.clause.now))))
    (sym c.in-Forall.is) c.put_true_clause.ensures.adds
