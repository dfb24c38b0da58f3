use Rattle.std.proofs.Common.{◌+◌, ◌*◌, ◌<◌, ◌≤◌, length, get_or, ap, sym, ◌∙◌, ⊎_elim, arith}
use Rattle.std.proofs.lemmas.Bool.{cases_lt}
use Rattle.pages.proofs.Filled.{first_on, none_past, none_up}
use Rattle.pages.proofs.pages.Pages.next_filled.Goals as goal

pub overflow_mul-result : goal.overflow_mul-result
overflow_mul-result g c =
    let o = c.self.inside.pages.ok.0 in
    let low : c.loop-page.page < length c.self.inside.pages.items =
    omega (arith, c.loop-page-test.true, c.len.ensures) in
    let first = first_on g.T.Blank.blank c.self.inside.pages.items c.self.invariant.0 c.loop-page.page
    c.index.result.now low
    c.index.ensures c.args.from c.loop-page.start c.in-Some.at c.loop-page.invariant.1 c.loop-page.invariant.2
    c.in-Some.ensures.some in
    let there = first.there in
    let len = c.self.invariant.1 in
    omega arith

pub overflow_add-result : goal.overflow_add-result
overflow_add-result g c =
    let o = c.self.inside.pages.ok.0 in
    let low : c.loop-page.page < length c.self.inside.pages.items =
    omega (arith, c.loop-page-test.true, c.len.ensures) in
    let first = first_on g.T.Blank.blank c.self.inside.pages.items c.self.invariant.0 c.loop-page.page
    c.index.result.now low
    c.index.ensures c.args.from c.loop-page.start c.in-Some.at c.loop-page.invariant.1 c.loop-page.invariant.2
    c.in-Some.ensures.some in
    let there = first.there in
    let len = c.self.invariant.1 in
    omega arith

pub returns-in-Some-clause-some : goal.returns-in-Some-clause-some
returns-in-Some-clause-some g c =
    let o = c.self.inside.pages.ok.0 in
    let low : c.loop-page.page < length c.self.inside.pages.items =
    omega (arith, c.loop-page-test.true, c.len.ensures) in
    rw c.self.view_is at (first_on g.T.Blank.blank c.self.inside.pages.items c.self.invariant.0 c.loop-page.page
    c.index.result.now low c.index.ensures c.args.from c.loop-page.start c.in-Some.at c.loop-page.invariant.1
    c.loop-page.invariant.2 c.in-Some.ensures.some)

pub loop-page-preserved : goal.loop-page-preserved
loop-page-preserved g c =
    let o = c.self.inside.pages.ok.0 in
    let low : c.loop-page.page < length c.self.inside.pages.items =
    omega (arith, c.loop-page-test.true, c.len.ensures) in
    let start = c.loop-page.invariant.0 in
    let from = c.loop-page.invariant.1 in (
      omega arith,
      omega arith,
      none_up g.T.Blank.blank c.self.inside.pages.items c.self.invariant.0 c.loop-page.page c.index.result.now low
          c.index.ensures c.args.from c.loop-page.start c.loop-page.invariant.2 c.in_default.ensures.none,
    )

pub returns-clause-none : goal.returns-clause-none
returns-clause-none g c =
    let o = c.self.inside.pages.ok.0 in
    let high : length c.self.inside.pages.items ≤ c.loop-page.page =
    omega (arith, c.loop-page-test.false, c.len.ensures) in
    λ i after. ap (λ xs. get_or xs i g.T.Blank.blank) (sym c.self.view_is)
    ∙ ⊎_elim (λ (h : i < 64 * c.loop-page.page + c.loop-page.start). c.loop-page.invariant.2 i after h)
    (λ (h : 64 * c.loop-page.page + c.loop-page.start ≤ i).
    none_past g.T.Blank.blank c.self.inside.pages.items c.self.invariant.0 i (omega arith))
    (cases_lt i (64 * c.loop-page.page + c.loop-page.start))
