use Rattle.std.proofs.Common.{take, ap, ap₂, ◌∙◌}
use Rattle.pages.specs.Paging.{page_of}
use Rattle.pages.proofs.Stored.{page_take}
use Rattle.pages.proofs.page.Page.truncate.Goals as goal

pub returns : goal.returns
returns g c = ap₂ (page_of g.T.Blank.blank) c.truncate.ensures.items c.min-self-inside.ensures
    ∙ (page_take g.T.Blank.blank c.self.inside.stored.items c.self.inside.len c.args.count c.self.invariant
    ∙ ap (take c.args.count) c.self.view_is)
