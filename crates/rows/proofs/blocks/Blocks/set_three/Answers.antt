use Rattle.std.proofs.Common.{◌+◌, List, ℕ, Option, set, ap, ◌∙◌}
use Rattle.rows.specs.Blocks.{Block}
use Rattle.rows.proofs.Cutting.{written, written_again}
use Rattle.rows.proofs.blocks.Blocks.set_three.Goals as goal

pub returns-clause-items : goal.returns-clause-items
returns-clause-items c =
    let blocks = c.args.self.now.items in
    let b = c.args.block in
    let at : ℕ → Option ℕ → List (Option ℕ) → List (Option ℕ) = λ k value links. set links k value in
    let one = at c.args.base c.args.values.0 in
    let two = at (c.args.base + 1) c.args.values.1 in
    let three = at (c.args.base + 2) c.args.values.2 in
    c.set-3.ensures.items
    ∙ ap (λ (bs : List Block). written bs b three) (c.set-2.ensures.items
    ∙ ap (λ (bs : List Block). written bs b two) c.set.ensures.items
    ∙ written_again blocks b one two c.requires.block)
    ∙ written_again blocks b (λ (links : List (Option ℕ)). two (one links)) three c.requires.block
