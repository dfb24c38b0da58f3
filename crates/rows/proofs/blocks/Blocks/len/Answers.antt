use Rattle.std.proofs.Common.{◌/◌, length, sym, ap, ◌∙◌}
use Rattle.rows.specs.Blocks.{BlocksState}
use Rattle.rows.proofs.Cutting.{blocks_length}
use Rattle.rows.proofs.blocks.Blocks.len.Goals as goal

pub returns : goal.returns
returns c =
    let numbers = c.self.inside.numbers.items in
    ap (λ n. n / 9) c.len.ensures ∙ sym (blocks_length (length numbers / 9) numbers)
    ∙ ap (λ (s : BlocksState). length s.items) c.self.view_is
