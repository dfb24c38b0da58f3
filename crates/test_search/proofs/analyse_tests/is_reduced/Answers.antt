use Rattle.std.proofs.Common.{◌≡◌, length, sym, ap, ◌∙◌, refl}
use Rattle.std.proofs.lemmas.Bool.{eqb-true}
use Rattle.calculus.specs.Rows.{reduce}
use Rattle.derive.specs.State.{row_of}
use Rattle.derive.proofs.Removals.{reduced_whole}
use Rattle.test_search.specs.Tested.{is_finished}
use Rattle.test_search.proofs.Boards.{unfinished}
use Rattle.test_search.proofs.analyse_tests.is_reduced.Goals as goal

pub returns : goal.returns
returns g c e =
    let d = c.args.derivation.now in
    let row = row_of d c.args.id in
    let is : c.reduce.new.out.items ≡ reduce g.S.Side.PIVOT c.args.prefix.now row = c.in_ok-reduce.ensures.ok
    ∙ ap (reduce g.S.Side.PIVOT c.args.prefix.now) c.lits.ensures in
    let long : length c.reduce.new.out.items ≡ length row = sym c.len.ensures.value
    ∙ (eqb-true c.len.result (length c.lits-2.result.now) e ∙ ap length c.lits-2.ensures) in
    record {
      step = unfinished d c.args.id (sym c.is_live.ensures ∙ c.if-not-is_live.false)
          (ap is_finished (sym c.step.ensures.value) ∙ (sym c.is_finish.ensures ∙ c.if-is_finish.false));
      of_side = sym c.side.ensures ∙ c.if-not-is_pivot_quantifier.ensures refl;
      reduced = sym is ∙ reduced_whole g.S.Side.PIVOT c.args.prefix.now row c.reduce.new.out.items is long;
    }
