use Rattle.std.proofs.Common.{◌≡◌, Err, Ok, Some, ap, arith, refl, sym, ◌∙◌, is_err, is_ok}
use Rattle.std.specs.Prelude.{IsErrOf, IsOk}
use Rattle.std.proofs.lemmas.Bool.{false≢true}
use Rattle.std.proofs.lemmas.Result.{err_from_is_err_and}
use Rattle.qscript.specs.State.{upcoming}
use Rattle.solve.specs.declared.ending.Ending.{Ending}
use Rattle.solve.specs.declared.ending.Ending.TheVariants.{ReadFault, WriteFault}
use Rattle.solve.specs.Standing.{start_of}
use Rattle.session.proofs.Scripting.{all_flushed, answered_is, any_text, counted_is, ending_is, fault_answered, fault_counted, flushed_answered, not_done, room_is, room_left}
use Rattle.session.proofs.script.answer_all.Goals as goal

-- what went well is no fault

not_err : IsErrOf {T = Unit {0}} (Ok tt) WriteFault → ⊥
not_err is = absurd (cc)

write_is_no_read : IsErrOf {T = Unit {0}} (Err WriteFault) ReadFault → ⊥
write_is_no_read is = let same : WriteFault ≡ ReadFault = cc in absurd (cc)

no_good : (e : Ending) → IsOk {T = Unit {0}} (Err e) → ⊥
no_good e is = absurd (cc)

pub returns-in_err-answer_commands-clause-all : goal.returns-in_err-answer_commands-clause-all
returns-in_err-answer_commands-clause-all g c =
    let p = err_from_is_err_and c.from_residual.result c.from_residual.ensures.1 in
    let written = g.S.Sink.written in
    let flushed = g.S.Sink.flushed in
    let faults = g.S.Sink.faults in
    let has_room = g.S.Sink.has_room in
    let terms = c.args.session.now.terms in
    let script = upcoming c.args.reader.now (g.D.Desk.left c.args.desk.now) in
    let stopped = Err c.in_err-answer_commands.field-0.0 in
    rw (p.1, p.2) (λ known version of holds.
    let replied = c.in_err-answer_commands.ensures.replied (start_of version) holds in
    record {
      ending = ending_is written flushed faults has_room terms known (Some version) script of stopped c.args.sink.now
          c.answer_commands.new.sink c.args.stops.now.items c.answer_commands.new.stops.items replied;
      err = not_done written flushed faults has_room terms known (Some version) script of stopped c.args.sink.now
          c.answer_commands.new.sink c.args.stops.now.items c.answer_commands.new.stops.items replied;
      sent = record {
        counted = counted_is written flushed faults has_room terms known (Some version) script of stopped
            c.args.sink.now c.answer_commands.new.sink c.args.stops.now.items c.answer_commands.new.stops.items
            replied;
        fits = λ room. room_is written flushed faults has_room terms known (Some version) script of stopped
            c.args.sink.now c.answer_commands.new.sink c.args.stops.now.items c.answer_commands.new.stops.items
            replied room;
        all_flushed = tt;
      };
      answered = answered_is written flushed faults has_room terms known (Some version) script of stopped
          c.args.sink.now c.answer_commands.new.sink c.args.stops.now.items c.answer_commands.new.stops.items replied;
    })

pub returns-in_err-answer_commands-clause-desk : goal.returns-in_err-answer_commands-clause-desk
returns-in_err-answer_commands-clause-desk g c =
    let p = err_from_is_err_and c.from_residual.result c.from_residual.ensures.1 in
    rw (p.1, p.2) c.in_err-answer_commands.ensures.desk

pub returns-in_err-flush-clause-all : goal.returns-in_err-flush-clause-all
returns-in_err-flush-clause-all g c =
    let p = err_from_is_err_and c.from_residual-in_err-flush.result c.from_residual-in_err-flush.ensures.1 in
    let written = g.S.Sink.written in
    let flushed = g.S.Sink.flushed in
    let faults = g.S.Sink.faults in
    let has_room = g.S.Sink.has_room in
    let terms = c.args.session.now.terms in
    let script = upcoming c.args.reader.now (g.D.Desk.left c.args.desk.now) in
    rw (p.1, p.2) (λ known version of holds.
    let replied = c.in_ok-answer_commands.ensures.replied (start_of version) holds in
    record {
      ending = any_text known;
      err = λ is. is;
      sent = record {
        counted = fault_counted written flushed faults has_room terms known (Some version) script of c.args.sink.now
            c.answer_commands.new.sink c.flush.new.self c.args.stops.now.items c.answer_commands.new.stops.items
            replied c.flush.ensures.bytes c.flush.result c.flush.ensures.cause (ap is_err c.in_err-flush.was)
            (Err WriteFault) refl;
        fits = λ room is.
            let left = room_left written flushed faults has_room terms known (Some version) script of c.args.sink.now
            c.answer_commands.new.sink c.flush.new.self c.args.stops.now.items c.answer_commands.new.stops.items
            replied c.flush.ensures.bytes room in
            let fine = (c.flush.ensures.room left.0 left.1).0 in
            absurd (false≢true (ap is_ok (sym c.in_err-flush.was) ∙ fine));
        all_flushed = tt;
      };
      answered = fault_answered written flushed faults has_room terms known (Some version) script of c.args.sink.now
          c.answer_commands.new.sink c.flush.new.self c.args.stops.now.items c.answer_commands.new.stops.items replied
          c.flush.ensures.bytes;
    })

pub returns-in_err-flush-clause-desk : goal.returns-in_err-flush-clause-desk
returns-in_err-flush-clause-desk g c =
    let p = err_from_is_err_and c.from_residual-in_err-flush.result c.from_residual-in_err-flush.ensures.1 in
    let second = c.in_ok-answer_commands.ensures.desk in
    rw (p.1, p.2) (record {
      to_end = tt;
      counted = record {
        later = second.counted.later;
        rose = λ is. absurd (write_is_no_read is);
        kept = λ ok. absurd (no_good WriteFault ok);
      };
      flowing = λ flows. (write_is_no_read, (second.flowing flows).1);
      holds = second.holds;
      stays = second.stays;
    })

pub returns-clause-all : goal.returns-clause-all
returns-clause-all g c =
    let written = g.S.Sink.written in
    let flushed = g.S.Sink.flushed in
    let faults = g.S.Sink.faults in
    let has_room = g.S.Sink.has_room in
    let terms = c.args.session.now.terms in
    let script = upcoming c.args.reader.now (g.D.Desk.left c.args.desk.now) in
    λ known version of holds.
    let replied = c.in_ok-answer_commands.ensures.replied (start_of version) holds in
    record {
      ending = ending_is written flushed faults has_room terms known (Some version) script of (Ok tt) c.args.sink.now
          c.answer_commands.new.sink c.args.stops.now.items c.answer_commands.new.stops.items replied;
      err = tt;
      sent = record {
        counted = record {
          later = let first = replied.sent.no_fault in let second = c.in_ok-flush.ensures.cause.later in omega arith;
          rose = λ is. absurd (not_err is);
          kept = λ fine. c.in_ok-flush.ensures.cause.kept ∙ replied.sent.no_fault;
        };
        fits = λ room is. not_err is;
        all_flushed = all_flushed written flushed faults has_room terms known (Some version) script of c.args.sink.now
            c.answer_commands.new.sink c.flush.new.self c.args.stops.now.items c.answer_commands.new.stops.items
            replied c.flush.ensures.bytes c.in_ok-flush.ensures.flushed;
      };
      answered = flushed_answered written flushed faults has_room terms known (Some version) script of c.args.sink.now
          c.answer_commands.new.sink c.flush.new.self c.args.stops.now.items c.answer_commands.new.stops.items replied
          c.flush.ensures.bytes;
    }
