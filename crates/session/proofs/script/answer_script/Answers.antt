use Rattle.std.proofs.Common.{◌≡◌, ℕ, List, [], Option, None, Err, Ok, Some, arith, refl, sym, subst, true, ◌∙◌}
use Rattle.std.specs.Prelude.{IfSome, IsOk, OnOk, Result, is_some}
use Rattle.std.proofs.lemmas.Bool.{false≢true}
use Rattle.std.proofs.lemmas.Result.{err_from_is_err_and}
use Rattle.qscript.specs.State.{reading, upcoming}
use Rattle.solve.specs.declared.ending.Ending.{Ending}
use Rattle.solve.specs.Endings.{ending_for}
use Rattle.session.specs.Scripts.{AreAnswered, RoomForReplies, ending_of}
use Rattle.solve.specs.Standing.{start_of}
use Rattle.solve.specs.Holding.{Holds}
use Rattle.solve.specs.Terms.{terms_of}
use Rattle.solve.specs.Outside.{SendsReply}
use Rattle.session.proofs.Scripting.{each_script, headed_text, headless_answered, headless_ending, headless_open, none_answered}
use Rattle.solve.proofs.Taking.{refused_unread, refused_written, rose_later}
use Rattle.session.proofs.script.answer_script.Goals as goal

on_ok : {P Q : Type 0} (r : Result (Unit {0}) Ending) → OnOk r P → (P → Q) → OnOk r Q
on_ok (Ok u) one so = so one
on_ok (Err e) one so = tt

no_good : (e : Ending) → IsOk {T = Unit {0}} (Err e) → ⊥
no_good e is = absurd (cc)

empty_left : (known after new : Option (List ℕ)) → IfSome known (λ _. is_some after ≡ true)
    → IfSome after (λ _. new ≡ Some []) → IfSome known (λ _. new ≡ Some [])
empty_left None after new told left = tt
empty_left (Some text) None new told left = absurd (false≢true told)
empty_left (Some text) (Some rest) new told left = left

pub returns-in_err-reader-clause-answered : goal.returns-in_err-reader-clause-answered
returns-in_err-reader-clause-answered g c =
    let p = err_from_is_err_and c.from_residual.result c.from_residual.ensures.1 in
    rw (p.1, p.2) (none_answered (terms_of c.args.budget c.args.restarts c.args.kept) (g.D.Desk.left c.args.desk.now)
    (g.S.Sink.written c.args.sink.now) c.args.stops.now.items each_script)

pub returns-in_err-version-clause-answered : goal.returns-in_err-version-clause-answered
returns-in_err-version-clause-answered g c =
    let p = err_from_is_err_and c.from_residual-in_err-version.result c.from_residual-in_err-version.ensures.1 in
    let known = g.D.Desk.left c.args.desk.now in
    let all = each_script in
    let law = c.in_ok-reader.ensures.script in
    let at = reading c.in_ok-reader.reader in
    let e = c.in_err-version.field-0.0 in
    let heads = c.in_err-version.ensures.script in
    let terms = terms_of c.args.budget c.args.restarts c.args.kept in
    let w = g.S.Sink.written c.args.sink.now in
    let stops = c.args.stops.now.items in
    rw (p.1, p.2) (headless_answered terms known w stops at all law e heads)

pub returns-in_err-version-clause-ending : goal.returns-in_err-version-clause-ending
returns-in_err-version-clause-ending g c =
    let p = err_from_is_err_and c.from_residual-in_err-version.result c.from_residual-in_err-version.ensures.1 in
    let known = g.D.Desk.left c.args.desk.now in
    let all = each_script in
    let law = c.in_ok-reader.ensures.script in
    let at = reading c.in_ok-reader.reader in
    let e = c.in_err-version.field-0.0 in
    let heads = c.in_err-version.ensures.script in
    let terms = terms_of c.args.budget c.args.restarts c.args.kept in
    let w = g.S.Sink.written c.args.sink.now in
    let stops = c.args.stops.now.items in
    rw (p.1, p.2) (headless_ending terms known w stops at all law e heads)

pub returns-in_err-version-clause-err : goal.returns-in_err-version-clause-err
returns-in_err-version-clause-err g c =
    let p = err_from_is_err_and c.from_residual-in_err-version.result c.from_residual-in_err-version.ensures.1 in
    let known = g.D.Desk.left c.args.desk.now in
    let all = each_script in
    let law = c.in_ok-reader.ensures.script in
    let at = reading c.in_ok-reader.reader in
    let e = c.in_err-version.field-0.0 in
    let heads = c.in_err-version.ensures.script in
    let terms = terms_of c.args.budget c.args.restarts c.args.kept in
    let w = g.S.Sink.written c.args.sink.now in
    let stops = c.args.stops.now.items in
    rw (p.1, p.2) (headless_open terms known w stops at all law e)

pub returns-in_err-version-clause-desk : goal.returns-in_err-version-clause-desk
returns-in_err-version-clause-desk g c =
    let p = err_from_is_err_and c.from_residual-in_err-version.result c.from_residual-in_err-version.ensures.1 in
    let e = c.in_err-version.field-0.0 in
    let header = c.in_err-version.ensures in
    rw (p.1, p.2) (record {
      to_end = tt;
      counted = record {
        later = header.cause.later;
        rose = λ is. header.cause.rose (refused_unread e is);
        kept = λ ok. absurd (no_good (ending_for e) ok);
      };
      flowing = λ flows. let on = header.flows flows in (λ is. on.0 (refused_unread e is), on.1);
      holds = header.content;
      stays = header.stays;
    })

pub returns-in_err-version-clause-sink : goal.returns-in_err-version-clause-sink
returns-in_err-version-clause-sink g c =
    let p = err_from_is_err_and c.from_residual-in_err-version.result c.from_residual-in_err-version.ensures.1 in
    let e = c.in_err-version.field-0.0 in
    rw (p.1, p.2) (record {
      counted = record {
        later = omega arith;
        rose = λ is. absurd (refused_written e is);
        kept = λ ok. refl;
      };
      fits = λ room is. refused_written e is;
      all_flushed = tt;
    })

pub returns-in_err-session-clause-answered : goal.returns-in_err-session-clause-answered
returns-in_err-session-clause-answered g c =
    let p = err_from_is_err_and c.from_residual-in_err-session.result c.from_residual-in_err-session.ensures.1 in
    rw (p.1, p.2) (none_answered (terms_of c.args.budget c.args.restarts c.args.kept) (g.D.Desk.left c.args.desk.now)
    (g.S.Sink.written c.args.sink.now) c.args.stops.now.items each_script)

pub returns-clause-ending : goal.returns-clause-ending
returns-clause-ending g c =
    let known = g.D.Desk.left c.args.desk.now in
    let version = c.in_ok-version.version in
    let of = headed_text known (reading c.in_ok-reader.reader)
    (upcoming c.read_header.new.self (g.D.Desk.left c.read_header.new.desk)) version
    each_script c.in_ok-reader.ensures.script c.in_ok-version.ensures.script in
    let session = c.in_ok-session.session in
    let holds = subst (λ b. Holds b session.engine (start_of version)) (sym c.in_ok-session.ensures.terms)
    c.in_ok-session.ensures.holds in
    let all = c.answer_all.ensures.all known version of holds in
    all.ending

pub returns-clause-err : goal.returns-clause-err
returns-clause-err g c =
    let known = g.D.Desk.left c.args.desk.now in
    let version = c.in_ok-version.version in
    let of = headed_text known (reading c.in_ok-reader.reader)
    (upcoming c.read_header.new.self (g.D.Desk.left c.read_header.new.desk)) version
    each_script c.in_ok-reader.ensures.script c.in_ok-version.ensures.script in
    let session = c.in_ok-session.session in
    let holds = subst (λ b. Holds b session.engine (start_of version)) (sym c.in_ok-session.ensures.terms)
    c.in_ok-session.ensures.holds in
    let all = c.answer_all.ensures.all known version of holds in
    all.err

pub returns-clause-sink : goal.returns-clause-sink
returns-clause-sink g c =
    let known = g.D.Desk.left c.args.desk.now in
    let version = c.in_ok-version.version in
    let of = headed_text known (reading c.in_ok-reader.reader)
    (upcoming c.read_header.new.self (g.D.Desk.left c.read_header.new.desk)) version
    each_script c.in_ok-reader.ensures.script c.in_ok-version.ensures.script in
    let session = c.in_ok-session.session in
    let holds = subst (λ b. Holds b session.engine (start_of version)) (sym c.in_ok-session.ensures.terms)
    c.in_ok-session.ensures.holds in
    let all = c.answer_all.ensures.all known version of holds in
    subst (λ b. SendsReply g.S.Sink.written g.S.Sink.flushed g.S.Sink.faults
    (RoomForReplies b known (g.S.Sink.has_room c.args.sink.now)) c.args.sink.now c.answer_all.new.sink
    c.answer_all.result) c.in_ok-session.ensures.terms all.sent

pub returns-clause-answered : goal.returns-clause-answered
returns-clause-answered g c =
    let known = g.D.Desk.left c.args.desk.now in
    let version = c.in_ok-version.version in
    let of = headed_text known (reading c.in_ok-reader.reader)
    (upcoming c.read_header.new.self (g.D.Desk.left c.read_header.new.desk)) version
    each_script c.in_ok-reader.ensures.script c.in_ok-version.ensures.script in
    let session = c.in_ok-session.session in
    let holds = subst (λ b. Holds b session.engine (start_of version)) (sym c.in_ok-session.ensures.terms)
    c.in_ok-session.ensures.holds in
    let all = c.answer_all.ensures.all known version of holds in
    subst (λ b. AreAnswered b known (g.S.Sink.written c.args.sink.now, g.S.Sink.written c.answer_all.new.sink)
    (c.args.stops.now.items, c.answer_all.new.stops.items) (ending_of c.answer_all.result))
    c.in_ok-session.ensures.terms all.answered

pub returns-clause-desk : goal.returns-clause-desk
returns-clause-desk g c =
    let first = c.in_ok-version.ensures in
    let second = c.answer_all.ensures.desk in
    record {
      to_end = on_ok c.answer_all.result second.to_end
          (λ left. empty_left (g.D.Desk.left c.args.desk.now) (g.D.Desk.left c.read_header.new.desk)
          (g.D.Desk.left c.answer_all.new.desk) first.telling left);
      counted = record {
        later = let before = first.cause.later in let behind = second.counted.later in omega (arith, before, behind);
        rose = λ is. rose_later (g.D.Desk.faults c.args.desk.now) (g.D.Desk.faults c.read_header.new.desk)
            (g.D.Desk.faults c.answer_all.new.desk) first.cause.later (second.counted.rose is);
        kept = λ ok. second.counted.kept ok ∙ first.cause.kept refl;
      };
      flowing = λ flows. second.flowing (first.flows flows).1;
      holds = λ n. second.holds n ∙ first.content n;
      stays = λ n steady. second.stays n (first.stays n steady);
    }
