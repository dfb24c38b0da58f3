use Rattle.std.proofs.Common.{◌<◌, ◌≤◌, length, get_or, slice_set, ap, sym, ◌∙◌, ⊎_elim}
use Rattle.std.proofs.lemmas.Bool.{cases_lt}
use Rattle.std.proofs.lemmas.List.{get_or_past}
use Rattle.pages.proofs.Stored.{page_at, page_set}
use Rattle.pages.proofs.page.Page.set.Goals as goal

pub returns : goal.returns
returns g c =
    let blank = g.T.Blank.blank in
    let stored = c.self.inside.stored.items in
    let within : c.args.at < length stored = ⊎_elim (λ (low : c.args.at < length stored). low)
    (λ (high : length stored ≤ c.args.at). absurd (c.requires (ap (λ xs. get_or xs c.args.at blank) (sym c.self.view_is)
    ∙ (page_at blank stored c.self.inside.len c.args.at ∙ get_or_past stored c.args.at blank high))))
    (cases_lt c.args.at (length stored)) in
    page_set blank stored c.self.inside.len c.args.at c.args.value within
    ∙ ap (λ xs. slice_set xs c.args.at c.args.value) c.self.view_is
