use Rattle.std.proofs.Common.{◌≡◌, ◌≤◌, ◌+◌, ◌*◌, ◌/◌, length, ap, arith}
use Rattle.std.proofs.lemmas.Result.{on_ok_weaker}
use Rattle.rows.specs.Blocks.{BlocksState, blocks_from}
use Rattle.rows.proofs.Cutting.{blocks_length}
use Rattle.rows.proofs.blocks.Blocks.reserve.Goals as goal

pub returns-clause-ok : goal.returns-clause-ok
returns-clause-ok c =
    let numbers = c.self.inside.numbers.items in
    let was : length (blocks_from (length numbers / 9) numbers) ≡ length c.args.self.now.items =
    ap (λ (s : BlocksState). length s.items) c.self.view_is in
    let n = blocks_length (length numbers / 9) numbers in
    let e = c.self.invariant.nine in
    on_ok_weaker c.reserve.result (λ (l : length numbers + 9 * c.args.more ≤ c.reserve.new.self.room).
    omega (arith, was, n, e, l)) c.reserve.ensures.ok
