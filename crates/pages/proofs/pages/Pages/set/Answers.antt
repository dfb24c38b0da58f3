use Rattle.std.proofs.Common.{◌<◌, ◌/◌, ◌%◌, length, get_or, slice_set, ap, sym, ◌∙◌, arith}
use Rattle.pages.specs.Paging.{joined}
use Rattle.pages.proofs.Paged.{count_written, full_written, is_page, page_there, read, written}
use Rattle.pages.proofs.pages.Pages.set.Goals as goal

pub index_mut-requires : goal.index_mut-requires
index_mut-requires g c =
    let low : c.args.at < length (joined c.self.inside.pages.items) =
    omega (arith, ap length c.self.view_is, c.requires.given) in
    let there = page_there c.self.inside.pages.items c.self.invariant.0 c.args.at low in
    let o = c.self.inside.pages.ok.0 in
    omega arith

pub set-requires : goal.set-requires
set-requires g c = λ blank.
    let ps = c.self.inside.pages.items in
    let full = c.self.invariant.0 in
    let low : c.args.at < length (joined ps) = omega (arith, ap length c.self.view_is, c.requires.given) in
    let was = is_page ps full (c.args.at / 64) c.index_mut.result.now
    (page_there ps full c.args.at low) c.index_mut.ensures.value in
    c.requires.filled (ap (λ xs. get_or xs c.args.at g.T.Blank.blank) (sym c.self.view_is)
    ∙ (read ps full c.args.at g.T.Blank.blank ∙ (ap (λ p. get_or p (c.args.at % 64) g.T.Blank.blank) (sym was)
    ∙ blank)))

pub invariant_of-self : goal.invariant_of-self
invariant_of-self g c =
    let ps = c.self.inside.pages.items in
    let full = c.self.invariant.0 in
    let low : c.args.at < length (joined ps) = omega (arith, ap length c.self.view_is, c.requires.given) in (
      full_written ps full c.args.at c.args.value c.index_mut.result.now c.set.new.self low c.index_mut.ensures.value
          c.set.ensures,
      c.self.invariant.1 ∙ sym (count_written ps full c.args.at c.args.value c.index_mut.result.now c.set.new.self
          low c.index_mut.ensures.value c.set.ensures),
    )

pub returns : goal.returns
returns g c =
    let ps = c.self.inside.pages.items in
    let full = c.self.invariant.0 in
    let low : c.args.at < length (joined ps) = omega (arith, ap length c.self.view_is, c.requires.given) in
    written ps full c.args.at c.args.value c.index_mut.result.now c.set.new.self low c.index_mut.ensures.value
    c.set.ensures
    ∙ ap (λ xs. slice_set xs c.args.at c.args.value) c.self.view_is
