use Rattle.std.proofs.Common.{rules, Err, subst, sym, arith, refl, ◌∙◌}
use Rattle.qscript.specs.State.{upcoming}
use Rattle.solve.specs.Holding.{Holds}
use Rattle.session.specs.Steps.{Goes}
use Rattle.std.proofs.lemmas.Result.{err_from_is_err_and}
use Rattle.session.proofs.Going.{begun, ended, failed_at, gone_on, no_command, nothing_left, refused_at, tells_itself, tells_on}
use Rattle.solve.proofs.Taking.{refused_unread, rose_later}
use Rattle.session.proofs.script.answer_commands.Goals as goal

-- src/script.rt:104:5
pub loop-command-init : goal.loop-command-init
loop-command-init g c =
    let written = g.S.Sink.written in
    let flushed = g.S.Sink.flushed in
    let faults = g.S.Sink.faults in
    let has_room = g.S.Sink.has_room in
    record {
      terms = refl;
      ready = c.requires;
      under = λ s holds. begun written flushed faults has_room c.args.session.now.terms s
          (upcoming c.args.reader.now (g.D.Desk.left c.args.desk.now)) c.args.session.now.engine c.args.sink.now
          c.args.stops.now.items holds;
      telling = tells_itself (g.D.Desk.left c.args.desk.now);
      later = omega arith;
      kept = refl;
      flows = λ flows. flows;
      content = λ n. refl;
      stays = λ n steady. steady;
    }

-- src/script.rt:104:31
pub next_command-requires : goal.next_command-requires
next_command-requires g c = search rules

-- src/script.rt:104:31
pub returns-in_err-command-clause-replied : goal.returns-in_err-command-clause-replied
returns-in_err-command-clause-replied g c = λ s holds.
    let written = g.S.Sink.written in
    let flushed = g.S.Sink.flushed in
    let faults = g.S.Sink.faults in
    let has_room = g.S.Sink.has_room in
    let p = err_from_is_err_and c.from_residual.result c.from_residual.ensures.1 in
    rw (p.1, p.2) (refused_at written flushed faults has_room c.args.session.now.terms s
    (upcoming c.args.reader.now (g.D.Desk.left c.args.desk.now))
    (upcoming c.loop-command.reader (g.D.Desk.left c.loop-command.desk)) c.loop-command.session.engine c.args.sink.now
    c.loop-command.sink c.args.stops.now.items c.loop-command.stops.items (c.loop-command.invariant.under s holds)
    c.in_err-command.field-0.0 c.in_err-command.ensures.script)

-- src/script.rt:105:9
pub returns-in_err-answer-clause-replied : goal.returns-in_err-answer-clause-replied
returns-in_err-answer-clause-replied g c = λ s holds.
    let written = g.S.Sink.written in
    let flushed = g.S.Sink.flushed in
    let faults = g.S.Sink.faults in
    let has_room = g.S.Sink.has_room in
    let p = err_from_is_err_and c.from_residual-in_err-answer.result c.from_residual-in_err-answer.ensures.1 in
    rw (p.1, p.2) (failed_at written flushed faults has_room c.args.session.now.terms s
    (upcoming c.args.reader.now (g.D.Desk.left c.args.desk.now))
    (upcoming c.loop-command.reader (g.D.Desk.left c.loop-command.desk))
    (upcoming c.next_command.new.self (g.D.Desk.left c.next_command.new.desk)) c.in-Some.command
    c.loop-command.session.engine c.answer.new.session.engine c.args.sink.now c.loop-command.sink c.answer.new.sink
    c.args.stops.now.items c.loop-command.stops.items c.answer.new.stops.items
    (c.loop-command.invariant.under s holds) (rw c.in-Some.is at c.in_ok-command.ensures.script)
    c.in_err-answer.field-0.0
    (λ t held. subst (λ terms. Goes written flushed faults has_room terms c.in-Some.command t c.loop-command.sink
    c.answer.new.sink c.answer.new.session.engine (c.loop-command.stops.items, c.answer.new.stops.items)
    (Err c.in_err-answer.field-0.0)) c.loop-command.invariant.terms (c.in_err-answer.ensures.goes t
    (subst (λ b. Holds b c.loop-command.session.engine t) (sym c.loop-command.invariant.terms) held))))

-- src/script.rt:104:5
pub loop-command-smaller-in_ok-answer : goal.loop-command-smaller-in_ok-answer
loop-command-smaller-in_ok-answer g c = search rules

-- src/script.rt:104:5
pub loop-command-preserved-in_ok-answer : goal.loop-command-preserved-in_ok-answer
loop-command-preserved-in_ok-answer g c =
    let written = g.S.Sink.written in
    let flushed = g.S.Sink.flushed in
    let faults = g.S.Sink.faults in
    let has_room = g.S.Sink.has_room in
    let inv = c.loop-command.invariant in
    let next = c.in_ok-command.ensures in
    record {
      terms = c.answer.ensures.terms ∙ inv.terms;
      ready = next.failed;
      under = λ s holds. gone_on written flushed faults has_room c.args.session.now.terms s
          (upcoming c.args.reader.now (g.D.Desk.left c.args.desk.now))
          (upcoming c.loop-command.reader (g.D.Desk.left c.loop-command.desk))
          (upcoming c.next_command.new.self (g.D.Desk.left c.next_command.new.desk)) c.in-Some.command
          c.loop-command.session.engine c.answer.new.session.engine c.args.sink.now c.loop-command.sink
          c.answer.new.sink c.args.stops.now.items c.loop-command.stops.items c.answer.new.stops.items
          (inv.under s holds) (rw c.in-Some.is at next.script)
          (rw inv.terms at c.in_ok-answer.ensures.goes);
      telling = tells_on (g.D.Desk.left c.args.desk.now) (g.D.Desk.left c.loop-command.desk)
          (g.D.Desk.left c.next_command.new.desk) inv.telling next.telling;
      later = let first = inv.later in let second = next.cause.later in omega (arith, first, second);
      kept = next.cause.kept refl ∙ inv.kept;
      flows = λ flows. (next.flows (inv.flows flows)).1;
      content = λ n. next.content n ∙ inv.content n;
      stays = λ n steady. next.stays n (inv.stays n steady);
    }

-- src/script.rt:104:5
pub loop-command-smaller : goal.loop-command-smaller
loop-command-smaller g c = search rules

-- src/script.rt:104:5
pub loop-command-preserved : goal.loop-command-preserved
loop-command-preserved g c =
    let written = g.S.Sink.written in
    let flushed = g.S.Sink.flushed in
    let faults = g.S.Sink.faults in
    let has_room = g.S.Sink.has_room in
    let inv = c.loop-command.invariant in
    let next = c.in_ok-command.ensures in
    record {
      terms = c.answer.ensures.terms ∙ inv.terms;
      ready = next.failed;
      under = λ s holds. gone_on written flushed faults has_room c.args.session.now.terms s
          (upcoming c.args.reader.now (g.D.Desk.left c.args.desk.now))
          (upcoming c.loop-command.reader (g.D.Desk.left c.loop-command.desk))
          (upcoming c.next_command.new.self (g.D.Desk.left c.next_command.new.desk)) c.in-Some.command
          c.loop-command.session.engine c.answer.new.session.engine c.args.sink.now c.loop-command.sink
          c.answer.new.sink c.args.stops.now.items c.loop-command.stops.items c.answer.new.stops.items
          (inv.under s holds) (rw c.in-Some.is at next.script)
          (rw inv.terms at c.in_ok-answer.ensures.goes);
      telling = tells_on (g.D.Desk.left c.args.desk.now) (g.D.Desk.left c.loop-command.desk)
          (g.D.Desk.left c.next_command.new.desk) inv.telling next.telling;
      later = let first = inv.later in let second = next.cause.later in omega (arith, first, second);
      kept = next.cause.kept refl ∙ inv.kept;
      flows = λ flows. (next.flows (inv.flows flows)).1;
      content = λ n. next.content n ∙ inv.content n;
      stays = λ n steady. next.stays n (inv.stays n steady);
    }

-- src/script.rt:84:1
pub returns-clause-replied : goal.returns-clause-replied
returns-clause-replied g c = λ s holds.
    let written = g.S.Sink.written in
    let flushed = g.S.Sink.flushed in
    let faults = g.S.Sink.faults in
    let has_room = g.S.Sink.has_room in
    let none = no_command c.in_ok-command.field-0 c.in_default.not-Some in
    ended written flushed faults has_room c.args.session.now.terms s
    (upcoming c.args.reader.now (g.D.Desk.left c.args.desk.now))
    (upcoming c.loop-command.reader (g.D.Desk.left c.loop-command.desk))
    (upcoming c.next_command.new.self (g.D.Desk.left c.next_command.new.desk)) c.loop-command.session.engine
    c.args.sink.now c.loop-command.sink c.args.stops.now.items c.loop-command.stops.items
    (c.loop-command.invariant.under s holds) (rw none at c.in_ok-command.ensures.script)

-- what the desk is left as, at each return
pub returns-in_err-command-clause-desk : goal.returns-in_err-command-clause-desk
returns-in_err-command-clause-desk g c =
    let p = err_from_is_err_and c.from_residual.result c.from_residual.ensures.1 in
    let inv = c.loop-command.invariant in
    let next = c.in_err-command.ensures in
    rw (p.1, p.2) (record {
      to_end = tt;
      counted = record {
        later = let first = inv.later in let second = next.cause.later in omega (arith, first, second);
        rose = λ is. rose_later (g.D.Desk.faults c.args.desk.now) (g.D.Desk.faults c.loop-command.desk)
            (g.D.Desk.faults c.next_command.new.desk) inv.later
            (next.cause.rose (refused_unread c.in_err-command.field-0.0 is));
        kept = λ ok. absurd (cc);
      };
      flowing = λ flows.
          let on = next.flows (inv.flows flows) in (λ is. on.0 (refused_unread c.in_err-command.field-0.0 is), on.1);
      holds = λ n. next.content n ∙ inv.content n;
      stays = λ n steady. next.stays n (inv.stays n steady);
    })

pub returns-in_err-answer-clause-desk : goal.returns-in_err-answer-clause-desk
returns-in_err-answer-clause-desk g c =
    let p = err_from_is_err_and c.from_residual-in_err-answer.result c.from_residual-in_err-answer.ensures.1 in
    let inv = c.loop-command.invariant in
    let next = c.in_ok-command.ensures in
    rw (p.1, p.2) (record {
      to_end = tt;
      counted = record {
        later = let first = inv.later in let second = next.cause.later in omega (arith, first, second);
        rose = λ is. absurd (c.in_err-answer.ensures.unread is);
        kept = λ ok. absurd (cc);
      };
      flowing = λ flows. (λ is. c.in_err-answer.ensures.unread is, (next.flows (inv.flows flows)).1);
      holds = λ n. next.content n ∙ inv.content n;
      stays = λ n steady. next.stays n (inv.stays n steady);
    })

pub returns-clause-desk : goal.returns-clause-desk
returns-clause-desk g c =
    let inv = c.loop-command.invariant in
    let next = c.in_ok-command.ensures in
    let none = no_command c.in_ok-command.field-0 c.in_default.not-Some in
    record {
      to_end = nothing_left (g.D.Desk.left c.args.desk.now) (g.D.Desk.left c.next_command.new.desk)
          (tells_on (g.D.Desk.left c.args.desk.now) (g.D.Desk.left c.loop-command.desk)
          (g.D.Desk.left c.next_command.new.desk) inv.telling next.telling) (rw none at next.end);
      counted = search rules;
      flowing = search rules;
      holds = λ n. next.content n ∙ inv.content n;
      stays = λ n steady. next.stays n (inv.stays n steady);
    }
