use Rattle.test_search.proofs.Boards.{by_cleaning, called_ready}
use Rattle.test_search.proofs.analyse_tests.Board.clean.Goals as goal

pub invariant_of-self : goal.invariant_of-self
invariant_of-self g c =
    let call = c.clean-cleaned in
    let e = call.ensures in
    let scopes = c.self.inside.prefix in
    let d = c.self.inside.derivation in
    let t = c.self.inside.trail in
    called_ready g.S.Side.PIVOT scopes d call.new.derivation t call.new.trail c.self.invariant
    (by_cleaning scopes d call.new.derivation t call.new.trail c.args.steps.now call.new.steps _ _ call.result
    e.counted e.err) e.reasons e.trail e.legal
