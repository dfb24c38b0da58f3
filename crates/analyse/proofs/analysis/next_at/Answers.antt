use Rattle.std.proofs.Common.{◌≡◌, ◌<◌, Some, is_some, refl, sym, ap, ◌∙◌}
use Rattle.calculus.specs.Search.{cause_on, decision_level_on, value_on}
use Rattle.calculus.specs.Search.Cause.{Assumed, Decided, Propagated}
use Rattle.analyse.proofs.Fronting.{last_known}
use Rattle.analyse.proofs.Leveling.{no_level_makes}
use Rattle.analyse.proofs.Minimising.{decided_makes, level_makes}
use Rattle.calculus.proofs.Trails.{cause_of_assigned}
use Rattle.analyse.proofs.Learning.{ends_assumed, some_known}
use Rattle.analyse.proofs.analysis.next_at.Goals as goal

pub unwrap-requires : goal.unwrap-requires
unwrap-requires g c =
    let trail = c.args.trail.now.placed in
    let found = cause_of_assigned trail c.args.last.variable
    (last_known g.S.Side.PIVOT c.args.prefix.now trail c.requires.bad.end c.args.row.now c.args.last
    c.requires.bad.bad c.requires.last) in
    some_known _ c.why.result (cause_on trail c.args.last.variable)
    (c.why.ensures ∙ ap (cause_on trail) c.var.ensures) (ap is_some found.1)

pub returns-in-Assumed : goal.returns-in-Assumed
returns-in-Assumed g c =
    let trail = c.args.trail.now.placed in
    let cause : cause_on trail c.args.last.variable ≡ Some Assumed =
    sym ((rw (c.unwrap.ensures ∙ ap Some c.in-Assumed.is) at c.why.ensures) ∙ ap (cause_on trail) c.var.ensures) in
    ends_assumed g.S.Side.PIVOT c.args.prefix.now trail c.args.row.now c.args.last c.requires.trail.ordered
    c.requires.bad c.requires.last cause

pub returns-in-Decided : goal.returns-in-Decided
returns-in-Decided g c =
    let trail = c.args.trail.now.placed in
    let cause : cause_on trail c.args.last.variable ≡ Some Decided =
    sym ((rw (c.unwrap.ensures ∙ ap Some c.in-Decided.is) at c.why.ensures) ∙ ap (cause_on trail) c.var.ensures) in
    decided_makes g.S.Side.PIVOT c.args.prefix.now trail c.args.row.now c.args.last c.requires.row c.requires.bad
    c.requires.last c.requires.trail.ordered cause

pub returns-in-Some : goal.returns-in-Some
returns-in-Some g c =
    let trail = c.args.trail.now.placed in
    let is : c.level_of-end.result ≡ decision_level_on trail c.args.last.variable =
    c.level_of-end.ensures ∙ ap (decision_level_on trail) c.var-in-Propagated.ensures in
    let below : c.in-Some.field-0 < decision_level_on trail c.args.last.variable = rw is at c.in-Some.ensures.small in
    level_makes g.S.Side.PIVOT c.args.prefix.now trail c.args.row.now c.args.last c.requires.row c.requires.bad
    c.requires.last c.in-Some.field-0 c.in-Some.ensures.some below

pub returns-in-None : goal.returns-in-None
returns-in-None g c =
    let trail = c.args.trail.now.placed in
    let cause : cause_on trail c.args.last.variable ≡ Some (Propagated c.in-Propagated.field-0) =
    sym ((rw (c.unwrap.ensures ∙ ap Some c.in-Propagated.is) at c.why.ensures)
    ∙ ap (cause_on trail) c.var.ensures) in
    let is : c.level_of-end.result ≡ decision_level_on trail c.args.last.variable =
    c.level_of-end.ensures ∙ ap (decision_level_on trail) c.var-in-Propagated.ensures in (
      c.requires.last,
      (c.in-Propagated.field-0, cause),
      no_level_makes g.S.Side.PIVOT c.args.prefix.now trail c.args.row.now c.args.last c.requires.row c.requires.bad
          c.requires.last (rw is at (c.in-None.ensures.none refl)),
    )

pub level_of-end-requires : goal.level_of-end-requires
level_of-end-requires g c =
    let trail = c.args.trail.now.placed in
    ap (λ x. is_some (value_on trail x)) c.var-in-Propagated.ensures
    ∙ last_known g.S.Side.PIVOT c.args.prefix.now trail c.requires.bad.end c.args.row.now c.args.last
    c.requires.bad.bad c.requires.last
