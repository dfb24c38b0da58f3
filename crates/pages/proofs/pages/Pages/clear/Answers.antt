use Rattle.std.proofs.Common.{◌<◌, length, slice_set, ap, sym, ◌∙◌, arith}
use Rattle.pages.specs.Paging.{joined}
use Rattle.pages.proofs.Paged.{count_written, full_written, page_there, written}
use Rattle.pages.proofs.pages.Pages.clear.Goals as goal

pub index_mut-requires : goal.index_mut-requires
index_mut-requires g c =
    let low : c.args.at < length (joined c.self.inside.pages.items) =
    omega (arith, ap length c.self.view_is, c.requires) in
    let there = page_there c.self.inside.pages.items c.self.invariant.0 c.args.at low in
    let o = c.self.inside.pages.ok.0 in
    omega arith

pub invariant_of-self : goal.invariant_of-self
invariant_of-self g c =
    let ps = c.self.inside.pages.items in
    let full = c.self.invariant.0 in
    let low : c.args.at < length (joined ps) = omega (arith, ap length c.self.view_is, c.requires) in (
      full_written ps full c.args.at g.T.Blank.blank c.index_mut.result.now c.clear.new.self low
          c.index_mut.ensures.value c.clear.ensures,
      c.self.invariant.1 ∙ sym (count_written ps full c.args.at g.T.Blank.blank c.index_mut.result.now
          c.clear.new.self low c.index_mut.ensures.value c.clear.ensures),
    )

pub returns : goal.returns
returns g c =
    let ps = c.self.inside.pages.items in
    let full = c.self.invariant.0 in
    let low : c.args.at < length (joined ps) = omega (arith, ap length c.self.view_is, c.requires) in
    written ps full c.args.at g.T.Blank.blank c.index_mut.result.now c.clear.new.self low c.index_mut.ensures.value
    c.clear.ensures
    ∙ ap (λ xs. slice_set xs c.args.at g.T.Blank.blank) c.self.view_is
