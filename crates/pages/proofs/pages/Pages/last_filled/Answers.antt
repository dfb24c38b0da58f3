use Rattle.std.proofs.Common.{◌≡◌, ◌+◌, ◌-◌, arith}
use Rattle.pages.proofs.Filled.{last_on, none_down, none_past}
use Rattle.pages.proofs.pages.Pages.last_filled.Goals as goal

pub loop-page-init : goal.loop-page-init
loop-page-init g c =
    let o = c.self.inside.pages.ok.0 in
    let l = c.len.ensures in
    let m = c.min-page.ensures in (
      omega arith,
      omega arith,
      λ i after before.
          none_past g.T.Blank.blank c.self.inside.pages.items c.self.invariant.0 i (omega arith),
    )

pub returns-in-Some-clause-some : goal.returns-in-Some-clause-some
returns-in-Some-clause-some g c =
    let inv = c.loop-page.invariant in
    let test = c.loop-page-test.true in
    let some : c.loop-page.page ≡ (c.loop-page.page - 1) + 1 = omega arith in
    rw c.self.view_is at (last_on g.T.Blank.blank c.self.inside.pages.items c.self.invariant.0 (c.loop-page.page - 1)
    c.index.result.now (omega (arith, inv.0)) c.index.ensures c.args.below c.in-Some.at (omega (arith, inv.1))
    (λ i after before. inv.2 i (omega arith) before) c.in-Some.ensures.some)

pub loop-page-preserved : goal.loop-page-preserved
loop-page-preserved g c =
    let inv = c.loop-page.invariant in
    let test = c.loop-page-test.true in (
      omega (arith, inv.0),
      omega (arith, inv.1),
      none_down g.T.Blank.blank c.self.inside.pages.items c.self.invariant.0 (c.loop-page.page - 1)
          c.index.result.now (omega (arith, inv.0)) c.index.ensures c.args.below
          (λ i after before. inv.2 i (omega arith) before) c.in_default.ensures.none,
    )
