use Rattle.std.proofs.Common.{◌≡◌, sym, ap, ◌∙◌, length, ◌<◌}
use Rattle.prefix.specs.Sides.{opposite}
use Rattle.derive.specs.State.{next_id, side_at}
use Rattle.step_core.specs.Cores.{core_ids, lines_at}
use Rattle.step_core.proofs.Used.{core_numbered}
use Rattle.step_core.proofs.Linking.{core_lists, core_proves, live_below, other_twice}
use Rattle.step_core.proofs.gather.core.Goals as goal

pub numbers_of-requires : goal.numbers_of-requires
numbers_of-requires c id i =
    let w = c.in_ok-ids.ensures.closed.within id (rw c.deref-2.ensures.value at i) in
    let len = c.deref.ensures.len in
    let l = c.len.ensures in
    (w.0, rw (l, ← len) w.1)

pub lines_of-requires-clause-within : goal.lines_of-requires-clause-within
lines_of-requires-clause-within c id i =
    let w = c.in_ok-ids.ensures.closed.within id (rw c.deref-3.ensures.value at i) in
    let len : length c.deref-4.result.now ≡ length c.deref.result.now = ap length c.deref-4.ensures.value
    ∙ c.in_ok-numbers.ensures.len ∙ c.len.ensures ∙ sym c.deref.ensures.len in
    (w.0, rw len w.1)

pub new-requires : goal.new-requires
new-requires c =
    let ids : c.deref-3.result.now ≡ core_ids c.args.derivation.now c.args.end = c.deref-3.ensures.value
    ∙ c.in_ok-ids.ensures.value in
    rw (c.in_ok-lines.ensures, ids) (core_numbered c.args.derivation.now c.args.end c.deref.result.now
    (rw c.deref.ensures.value c.in_ok-marks.ensures))

pub returns-clause-proof : goal.returns-clause-proof
returns-clause-proof c scopes assumptions legal finish =
    let d = c.args.derivation.now in
    let end = c.args.end in
    let ids : c.deref-3.result.now ≡ core_ids d end = c.deref-3.ensures.value ∙ c.in_ok-ids.ensures.value in
    let lines : c.in_ok-lines.lines.items ≡ lines_at d (core_ids d end) = c.in_ok-lines.ensures ∙ ap (lines_at d) ids in
    let fits : end < next_id d = live_below d end c.requires.live in
    let proof = core_proves d end c.deref.result.now
    (rw c.deref.ensures.value c.in_ok-marks.ensures) fits c.requires.live scopes assumptions legal finish
    c.end_rows_give_proofs.ensures c.steps_are_listed.ensures in
    let winner : opposite c.other.result ≡ side_at d end = ap opposite c.other.ensures
    ∙ other_twice c.side.result ∙ c.side.ensures in
    rw (c.new.ensures, winner, lines) proof

pub returns-clause-list : goal.returns-clause-list
returns-clause-list c scopes assumptions legal finish =
    let d = c.args.derivation.now in
    let end = c.args.end in
    let ids : c.deref-3.result.now ≡ core_ids d end = c.deref-3.ensures.value ∙ c.in_ok-ids.ensures.value in
    let lines : c.in_ok-lines.lines.items ≡ lines_at d (core_ids d end) = c.in_ok-lines.ensures ∙ ap (lines_at d) ids in
    let list = core_lists d end c.deref.result.now (rw c.deref.ensures.value c.in_ok-marks.ensures)
    (live_below d end c.requires.live) c.requires.live scopes assumptions legal finish in
    rw (c.new.ensures, lines) list
