use Rattle.std.proofs.Common.{◌≡◌, ◌++◌, List, ℕ}
use Rattle.std.specs.List.{flat_map}
use Rattle.qrp_trace.specs.Texts.{number_word}
use Rattle.blocks.specs.Held.{PassesOn}
use Rattle.qrp_trace.proofs.text.put_variables.Given as goal

-- a text is put, and the words that are left follow it
abbrev pub invariant-loop-v : goal.invariant-loop-v
invariant-loop-v g l =
    (text : List ℕ) × (
    PassesOn g.S.Sink.written g.S.Sink.flushed g.S.Sink.faults g.S.Sink.has_room l.initial.sink l.initial.block
    l.sink l.block text
    × (text ++ flat_map number_word l.v-iterator ≡ flat_map number_word l.vars.keys)
    )
