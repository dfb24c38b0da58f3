use Rattle.std.proofs.Common.{sym, ◌∙◌}
use Rattle.test_search.proofs.Boards.{cube_stored, reduced_stored}
use Rattle.test_search.proofs.analyse_tests.put.Goals as goal

pub returns-in_ok-input-in-Forall : goal.returns-in_ok-input-in-Forall
returns-in_ok-input-in-Forall g c =
    let d = c.args.derivation.now in
    let scopes = c.args.prefix.now in
    let side = sym c.PIVOT.ensures ∙ c.in-Forall.is in
    let input = c.in_ok-input-in-Forall.ensures in
    let last = c.reduce.ensures in
    record {
      stored = reduced_stored g.S.Side.PIVOT scopes c.input_cube.new.self c.reduce.new.self c.reduce.result
          (cube_stored g.S.Side.PIVOT scopes d c.input_cube.new.self c.args.lits.now c.requires.stored side
          c.requires.row input.gains input.legal)
          last.gains last.legal last.err;
    }
