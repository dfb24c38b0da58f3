use Rattle.std.proofs.Common.{◌≤◌, ◌∙◌, arith}
use Rattle.rows.proofs.Gone.{begun, gone_back, gone_front}
use Rattle.rows.proofs.table.Table.move_gap.Goals.{else-run-self-via-then-run-self+else-self-run, else-run-self-via-else-run-self}
use Rattle.rows.proofs.table.Table.move_gap.Goals as goal

pub returns-then-self-run : goal.returns-then-self-run
returns-then-self-run c =
    let t = c.self.inside in
    let run = c.longest_dead-run in
    begun t.slots.items run.result.start t.split t.gone run.result.end run.ensures (omega arith) (omega arith)
    ∙ c.self.view_is

pub returns-then-self-run-2 : goal.returns-then-self-run-2
returns-then-self-run-2 c =
    let t = c.self.inside in
    let run = c.longest_dead-run in
    gone_back t.slots.items c.swap_parts.new.slots.items t.split run.result.start t.gone run.result.end run.ensures
    (omega arith) (omega arith) c.swap_parts.ensures.swapped
    ∙ c.self.view_is

pub returns : goal.returns
returns c =
    let t = c.self.inside in
    let run = c.longest_dead-run in
    let before : run.result.end ≤ t.split =
    elim c.else-run-self.branch [
      | else-run-self-via-then-run-self+else-self-run w ↦ let f = w.if-self-run.false in omega arith
      | else-run-self-via-else-run-self w ↦ let f = w.if-run-self.false in omega arith
    ] in
    gone_front t.slots.items c.swap_parts-2.new.slots.items t.split run.result.start t.gone run.result.end run.ensures
    (omega arith) before (omega arith) c.swap_parts-2.ensures.swapped
    ∙ c.self.view_is
