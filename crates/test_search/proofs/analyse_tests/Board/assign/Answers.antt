use Rattle.std.proofs.Common.{refl, sym, ap, ◌∙◌}
use Rattle.calculus.specs.Search.{value_on}
use Rattle.trail.specs.Causes.{cause_of}
use Rattle.test_search.proofs.Boards.{assigned_ready}
use Rattle.test_search.proofs.analyse_tests.Board.assign.Goals as goal

pub invariant_of-self-2 : goal.invariant_of-self-2
invariant_of-self-2 g c =
    let t = c.self.inside.trail in
    let good = c.good_literal-good.ensures in
    let none = ap (value_on t.placed) (sym c.var.ensures) ∙ c.if-not-is_new.ensures.unassigned refl in
    assigned_ready g.S.Side.PIVOT c.self.inside.prefix c.self.inside.derivation t c.assign.new.self c.args.lit
    c.good_literal-good.result (cause_of c.args.why) c.self.invariant none good.over good.good
    (c.in_ok-has_reason.ensures c.if-not-branch.false) c.in_ok-assign.ensures.ok c.in_ok-assign.ensures.kept
