use Rattle.std.proofs.Common.{◌≡◌, ℕ, ◌<◌, false, Option, Some, None, is_some, IfNone, get_or, slice_set, ap, sym, ◌∙◌, arith}
use Rattle.std.proofs.lemmas.Bool.{true≢false}
use Rattle.std.proofs.lemmas.List.{length-set}
use Rattle.pages.specs.Paging.{page_of}
use Rattle.pages.proofs.Stored.{page_set, page_clear, page_empty}
use Rattle.pages.proofs.page.Page.clear.Goals as goal

pub returns-then-at-len : goal.returns-then-at-len
returns-then-at-len g c = sym c.self.view_is
    ∙ (page_clear g.T.Blank.blank c.self.inside.stored.items c.self.inside.len c.args.at (omega arith)
    ∙ ap (λ xs. slice_set xs c.args.at g.T.Blank.blank) c.self.view_is)

pub returns-else-is_none : goal.returns-else-is_none
returns-else-is_none g c = ap (λ v. page_of g.T.Blank.blank (slice_set c.self.inside.stored.items c.args.at v)
    c.self.inside.len) c.blank.ensures
    ∙ (page_set g.T.Blank.blank c.self.inside.stored.items c.self.inside.len c.args.at g.T.Blank.blank (omega arith)
    ∙ ap (λ xs. slice_set xs c.args.at g.T.Blank.blank) c.self.view_is)

if_none : {A : Type 0} (o : Option A) (P : Type 0) → is_some o ≡ false → IfNone o P → P
if_none None P e p = p
if_none (Some x) P e p = absurd (true≢false e)

pub returns-then-is_none : goal.returns-then-is_none
returns-then-is_none g c =
    let blank = g.T.Blank.blank in
    let cleared = slice_set c.self.inside.stored.items c.args.at c.blank.result in
    let count = length-set c.self.inside.stored.items c.args.at c.blank.result in
    let fits = c.self.invariant in
    let o = c.self.inside.stored.ok.0 in
    let l = c.len-2.ensures in
    let none = if_none c.last_below.result ((i : ℕ) → i < c.len-2.result → get_or cleared i blank ≡ blank)
    c.if-is_none.ensures c.last_below.ensures.none in
    ap (λ xs. page_of blank xs c.self.inside.len) c.new.ensures.items
    ∙ (page_empty blank cleared c.self.inside.len (omega arith) (λ i low. none i (omega arith))
    ∙ (ap (λ v. page_of blank (slice_set c.self.inside.stored.items c.args.at v) c.self.inside.len) c.blank.ensures
    ∙ (page_set blank c.self.inside.stored.items c.self.inside.len c.args.at blank (omega arith)
    ∙ ap (λ xs. slice_set xs c.args.at blank) c.self.view_is)))
