use Rattle.std.proofs.Common.{◌∙◌, ap, sym}
use Rattle.derive.specs.State.{side_in}
use Rattle.derive.proofs.Tags.{greatest, cube_tag}
use Rattle.derive.proofs.derivation.Derivation.tag.Goals as goal

pub returns-clause-greatest : goal.returns-clause-greatest
returns-clause-greatest c = greatest c.args.self.now.notes c.note.ensures.supported c.args.id c.note.result
    c.tag.result c.note.ensures.value c.tag.ensures

pub returns-clause-cubes : goal.returns-clause-cubes
returns-clause-cubes c side =
    cube_tag c.args.self.now.notes c.note.ensures.supported c.args.id c.note.result c.tag.result
    c.note.ensures.value c.tag.ensures
    (ap side_in (sym c.note.ensures.value) ∙ side)
