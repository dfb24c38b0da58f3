use Rattle.std.proofs.Common.{List, Option, ℕ, ap, ◌∙◌}
use Rattle.rows.specs.Arena.{set_three}
use Rattle.rows.specs.Blocks.{Block}
use Rattle.rows.proofs.Cutting.{written, written_again}
use Rattle.rows.proofs.blocks.Blocks.set_six.Goals as goal

pub returns-clause-items : goal.returns-clause-items
returns-clause-items c =
    let one : List (Option ℕ) → List (Option ℕ) = λ links. set_three 0 c.args.one links in
    let two : List (Option ℕ) → List (Option ℕ) = λ links. set_three 3 c.args.two links in
    c.set_three-2.ensures.items
    ∙ ap (λ (bs : List Block). written bs c.args.block two) c.set_three.ensures.items
    ∙ written_again c.args.self.now.items c.args.block one two c.requires
