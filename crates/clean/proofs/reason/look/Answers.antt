use Rattle.std.proofs.Common.{◌≡◌, ◌∙◌, sym, ap, false}
use Rattle.calculus.specs.Search.{cause_on}
use Rattle.trail.specs.State.{is_marked}
use Rattle.clean.proofs.Ways.{blocker_cause}
use Rattle.clean.proofs.reason.look.Goals as goal

pub reason_of-reason-requires : goal.reason_of-reason-requires
reason_of-reason-requires g c =
    let trail = c.args.trail.now.placed in
    let found = blocker_cause g.S.Side.PIVOT c.args.prefix.now trail c.requires.way.0 c.args.end c.args.row.now
    c.requires.trail.ordered c.requires.row c.requires.way.1 c.in-Some.lit c.in-Some.ensures in
    (found.0, ap (cause_on trail) c.var-waiting.ensures ∙ found.1)

pub returns-else-is_clean : goal.returns-else-is_clean
returns-else-is_clean g c =
    let trail = c.args.trail.now.placed in
    let found = blocker_cause g.S.Side.PIVOT c.args.prefix.now trail c.requires.way.0 c.args.end c.args.row.now
    c.requires.trail.ordered c.requires.row c.requires.way.1 c.in-Some.lit c.in-Some.ensures in
    let off : is_marked c.args.trail.now c.var-waiting.result ≡ false = sym c.is_clean.ensures
    ∙ c.if-is_clean.false in (
      (c.in-Some.lit, c.in-Some.ensures, sym c.var-waiting.ensures),
      (found.0, ap (cause_on trail) c.var-waiting.ensures ∙ found.1),
      off,
    )
