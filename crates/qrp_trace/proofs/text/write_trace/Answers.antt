use Rattle.qrp_trace.specs.Texts.{qrp_text}
use Rattle.ports.proofs.Pieces.{cause_of, front_of, kept_of, on_ok, room_of}
use Rattle.qrp_trace.proofs.text.write_trace.Goals as goal

pub returns-clause-ok : goal.returns-clause-ok
returns-clause-ok g c =
    on_ok g.S.Sink.written g.S.Sink.flushed g.S.Sink.faults g.S.Sink.has_room c.put_trace.result c.args.sink.now
    c.put_trace.new.sink (qrp_text c.args.prefix.now c.args.core.now) c.put_trace.ensures

pub returns-clause-front : goal.returns-clause-front
returns-clause-front g c =
    front_of g.S.Sink.written g.S.Sink.flushed g.S.Sink.faults g.S.Sink.has_room c.put_trace.result c.args.sink.now
    c.put_trace.new.sink (qrp_text c.args.prefix.now c.args.core.now) c.put_trace.ensures

pub returns-clause-flushed : goal.returns-clause-flushed
returns-clause-flushed g c =
    kept_of g.S.Sink.written g.S.Sink.flushed g.S.Sink.faults g.S.Sink.has_room c.put_trace.result c.args.sink.now
    c.put_trace.new.sink (qrp_text c.args.prefix.now c.args.core.now) c.put_trace.ensures

pub returns-clause-cause : goal.returns-clause-cause
returns-clause-cause g c =
    cause_of g.S.Sink.written g.S.Sink.flushed g.S.Sink.faults g.S.Sink.has_room c.put_trace.result c.args.sink.now
    c.put_trace.new.sink (qrp_text c.args.prefix.now c.args.core.now) c.put_trace.ensures

pub returns-clause-room : goal.returns-clause-room
returns-clause-room g c =
    room_of g.S.Sink.written g.S.Sink.flushed g.S.Sink.faults g.S.Sink.has_room c.put_trace.result c.args.sink.now
    c.put_trace.new.sink (qrp_text c.args.prefix.now c.args.core.now) c.put_trace.ensures
