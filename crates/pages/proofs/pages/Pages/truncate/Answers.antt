use Rattle.std.proofs.Common.{◌<◌, ◌+◌, ◌/◌, length, take, ap, ◌∙◌, arith}
use Rattle.std.proofs.lemmas.List.{length-take}
use Rattle.pages.specs.Paging.{joined}
use Rattle.pages.proofs.Paged.{count_left, full_left, left, page_there}
use Rattle.pages.proofs.pages.Pages.truncate.Goals as goal

pub index_mut-requires : goal.index_mut-requires
index_mut-requires g c =
    let ps = c.self.inside.pages.items in
    let low : c.args.count < length (joined ps) = omega (arith, c.self.invariant.1, c.if-count-self.false) in
    let there = page_there ps c.self.invariant.0 c.args.count low in
    let front = ap length c.truncate.ensures.items ∙ length-take (c.args.count / 64 + 1) ps in
    let o = c.truncate.new.self.ok.0 in
    omega arith

pub invariant_of-self : goal.invariant_of-self
invariant_of-self g c =
    let ps = c.self.inside.pages.items in
    let full = c.self.invariant.0 in
    let low : c.args.count < length (joined ps) = omega (arith, c.self.invariant.1, c.if-count-self.false) in (
      full_left ps full c.args.count c.truncate.new.self.items c.index_mut.result.now c.truncate-2.new.self low
          c.truncate.ensures.items c.index_mut.ensures.value c.truncate-2.ensures,
      count_left ps full c.args.count c.truncate.new.self.items c.index_mut.result.now c.truncate-2.new.self low
          c.truncate.ensures.items c.index_mut.ensures.value c.truncate-2.ensures,
    )

pub returns : goal.returns
returns g c =
    let ps = c.self.inside.pages.items in
    let full = c.self.invariant.0 in
    let low : c.args.count < length (joined ps) = omega (arith, c.self.invariant.1, c.if-count-self.false) in
    left ps full c.args.count c.truncate.new.self.items c.index_mut.result.now c.truncate-2.new.self low
    c.truncate.ensures.items c.index_mut.ensures.value c.truncate-2.ensures
    ∙ ap (take c.args.count) c.self.view_is
