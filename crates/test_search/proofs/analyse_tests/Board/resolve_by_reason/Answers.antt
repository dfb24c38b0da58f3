use Rattle.std.proofs.Common.{Contains, refl, subst}
use Rattle.calculus.specs.Rows.{Row}
use Rattle.test_search.proofs.Boards.{by_replacing_before, called_ready, may_replace}
use Rattle.test_search.proofs.analyse_tests.Board.resolve_by_reason.Goals as goal

pub resolve_by_reason-resolved-requires-clause-may : goal.resolve_by_reason-resolved-requires-clause-may
resolve_by_reason-resolved-requires-clause-may g c =
    let d = c.self.inside.derivation in
    let seen = c.in_ok-is_bad_row.ensures in
    let may = c.if-not-is_resolvable.ensures in
    may_replace g.S.Side.PIVOT c.self.inside.prefix d c.self.inside.trail c.args.id c.args.lit
    (seen.step c.if-not-branch.false) (seen.bad c.if-not-branch.false)
    (subst (λ (row : Row). Contains row c.args.lit) c.lits.ensures (may.stands refl)) (may.pivot refl) (may.bad refl)
    (may.propagated refl)

pub invariant_of-self : goal.invariant_of-self
invariant_of-self g c =
    let call = c.resolve_by_reason-resolved in
    let e = call.ensures in
    let scopes = c.self.inside.prefix in
    let d = c.self.inside.derivation in
    let t = c.self.inside.trail in
    called_ready g.S.Side.PIVOT scopes d call.new.derivation t call.new.trail c.self.invariant
    (by_replacing_before scopes d call.new.derivation t call.new.trail c.args.steps.now call.new.steps g.S.Side.PIVOT
    c.args.id c.args.lit _ call.result e.ok e.err) e.reasons e.trail e.legal
