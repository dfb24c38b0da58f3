use Rattle.std.proofs.Common.{◌≡◌, ◌++◌, ℕ, List, [], ap, subst, ◌∙◌}
use Rattle.std.specs.List.{flat_map}
use Rattle.std.proofs.lemmas.List.{append_assoc}
use Rattle.blocks.specs.Held.{PassesOn, Puts}
use Rattle.blocks.proofs.Putting.{nothing, part_more, part_then, puts_err, whole_then}
use Rattle.qrp_trace.specs.Texts.{number_word}
use Rattle.qrp_trace.proofs.Scoping.{put_all, put_next}
use Rattle.qrp_trace.proofs.text.put_variables.Goals as goal

pub loop-v-init : goal.loop-v-init
loop-v-init g c = (
  [],
  (
    nothing g.S.Sink.written g.S.Sink.flushed g.S.Sink.faults g.S.Sink.has_room c.args.sink.now c.args.block.now,
    ap (flat_map number_word) c.into_iter-v-iterator.ensures.into_iter_gives.0,
  ),
)

pub loop-v-preserved : goal.loop-v-preserved
loop-v-preserved g c =
    let text : List ℕ = c.loop-v.invariant.0 in
    let word = number_word c.number.result in (
      text ++ word,
      (
        whole_then g.S.Sink.written g.S.Sink.flushed g.S.Sink.faults g.S.Sink.has_room c.args.sink.now
            c.args.block.now c.loop-v.sink c.loop-v.block c.put_number.new.sink c.put_number.new.block text word
            c.loop-v.invariant.1.0 c.in_ok-put_number.ensures,
        append_assoc text word (flat_map number_word c.next.new.self)
            ∙ put_next number_word c.loop-v.v-iterator c.next.new.self c.in-Some.v.now c.number.result text _
            c.in-Some.ensures.steps c.loop-v.invariant.1.1 c.number.ensures.value,
      ),
    )

pub returns-in_err-put_number : goal.returns-in_err-put_number
returns-in_err-put_number g c =
    let text : List ℕ = c.loop-v.invariant.0 in
    let word = number_word c.number.result in
    let later = flat_map number_word c.next.new.self in
    let all : text ++ (word ++ later) ≡ flat_map number_word c.args.vars.now.keys =
    put_next number_word c.loop-v.v-iterator c.next.new.self c.in-Some.v.now c.number.result text _
    c.in-Some.ensures.steps c.loop-v.invariant.1.1 c.number.ensures.value in
    subst (λ (t : List ℕ). Puts g.S.Sink.written g.S.Sink.flushed g.S.Sink.faults g.S.Sink.has_room c.args.sink.now
    c.args.block.now c.put_number.new.sink c.put_number.new.block t c.from_residual.result) all
    (puts_err g.S.Sink.written g.S.Sink.flushed g.S.Sink.faults g.S.Sink.has_room _ c.from_residual.result
    c.args.sink.now c.args.block.now c.put_number.new.sink c.put_number.new.block _ c.from_residual.ensures.1
    (part_then g.S.Sink.written g.S.Sink.flushed g.S.Sink.faults g.S.Sink.has_room c.args.sink.now c.args.block.now
    c.loop-v.sink c.loop-v.block c.put_number.new.sink c.put_number.new.block text (word ++ later)
    c.loop-v.invariant.1.0 (part_more g.S.Sink.written g.S.Sink.flushed g.S.Sink.faults g.S.Sink.has_room
    c.loop-v.sink c.loop-v.block c.put_number.new.sink c.put_number.new.block word later
    c.in_err-put_number.ensures)))

pub returns : goal.returns
returns g c =
    let text : List ℕ = c.loop-v.invariant.0 in
    subst (λ (t : List ℕ). PassesOn g.S.Sink.written g.S.Sink.flushed g.S.Sink.faults g.S.Sink.has_room
    c.args.sink.now c.args.block.now c.loop-v.sink c.loop-v.block t)
    (put_all number_word c.loop-v.v-iterator text _ c.in-None.ensures.steps.0 c.loop-v.invariant.1.1)
    c.loop-v.invariant.1.0
