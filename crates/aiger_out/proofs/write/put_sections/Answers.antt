use Rattle.std.proofs.Common.{◌≤◌, suc, length, get_or, refl, arith}
use Rattle.aiger_out.specs.Written.{section_bytes, sections}
use Rattle.aiger_out.specs.declared.section.Section.TheVariants.{Inputs}
use Rattle.blocks.proofs.Putting.{nothing, each_more, each_stops}
use Rattle.aiger_out.proofs.write.put_sections.Goals as goal

pub loop-section-init : goal.loop-section-init
loop-section-init g c =
    nothing g.S.Sink.written g.S.Sink.flushed g.S.Sink.faults g.S.Sink.has_room c.args.sink.now
    c.args.block.now

pub loop-section-preserved : goal.loop-section-preserved
loop-section-preserved g c =
    let text = section_bytes c.args.form c.args.strategy.now in
    let k = c.loop-section.section-index in
    let below : suc k ≤ length sections = omega arith in
    each_more g.S.Sink.written g.S.Sink.flushed g.S.Sink.faults g.S.Sink.has_room text sections k Inputs
    c.args.sink.now c.args.block.now c.loop-section.sink c.loop-section.block c.put_section.new.sink
    c.put_section.new.block (text (get_or sections k Inputs)) below refl
    c.loop-section.invariant c.in_ok-put_section.ensures

pub returns-in_err-put_section : goal.returns-in_err-put_section
returns-in_err-put_section g c =
    let text = section_bytes c.args.form c.args.strategy.now in
    let k = c.loop-section.section-index in
    let below : suc k ≤ length sections = omega arith in
    each_stops g.S.Sink.written g.S.Sink.flushed g.S.Sink.faults g.S.Sink.has_room text sections k Inputs
    c.args.sink.now c.args.block.now c.loop-section.sink c.loop-section.block c.put_section.new.sink
    c.put_section.new.block (text (get_or sections k Inputs)) _
    c.from_residual.result below refl c.loop-section.invariant c.in_err-put_section.ensures c.from_residual.ensures.1
