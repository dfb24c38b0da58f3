use Rattle.std.proofs.lemmas.Result.{on_ok_weaker}
use Rattle.certcheck.proofs.Groups.{all_three, all_two, conjunction_step}
use Rattle.certcheck.proofs.put.put_conjunction.Goals as goal

pub put_clause-requires-clause-below : goal.put_clause-requires-clause-below
put_clause-requires-clause-below c = all_two c.flip.result c.args.a c.flip.ensures.below c.requires.first

pub put_clause-requires-2-clause-below : goal.put_clause-requires-2-clause-below
put_clause-requires-2-clause-below c = all_two c.flip-2.result c.args.b c.flip-2.ensures.below c.requires.second

pub put_clause-requires-3-clause-below : goal.put_clause-requires-3-clause-below
put_clause-requires-3-clause-below c =
    all_three c.args.l c.flip-3.result c.flip-4.result c.requires.own c.flip-3.ensures.below c.flip-4.ensures.below

pub returns-clause-adds : goal.returns-clause-adds
returns-clause-adds c =
    on_ok_weaker c.put_clause-3.result
    (λ three.
    conjunction_step c.args.build.now c.put_clause.new.build c.put_clause-2.new.build c.put_clause-3.new.build
    c.args.l c.args.a c.args.b
    c.flip.result c.flip-2.result c.flip-3.result c.flip-4.result
    c.flip.ensures.value c.flip-2.ensures.value c.flip-3.ensures.value c.flip-4.ensures.value
    c.in_ok-put_clause.ensures.adds c.in_ok-put_clause-2.ensures.adds three)
    c.put_clause-3.ensures.adds
