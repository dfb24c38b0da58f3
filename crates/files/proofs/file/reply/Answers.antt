use Rattle.std.proofs.Common.{◌≡◌, ◌++◌, ◌∙◌, Err, ap, refl, subst, sym}
use Rattle.std.proofs.lemmas.Bool.{false≢true}
use Rattle.std.proofs.lemmas.Result.{err_from_is_err_and}
use Rattle.solve.specs.Feeding.{built}
use Rattle.files.specs.Jobs.{RepliesTo}
use Rattle.solve.specs.Decisions.{told_by}
use Rattle.solve.specs.Entries.{listed}
use Rattle.solve.specs.Terms.{terms_of}
use Rattle.solve.proofs.Answering.{Decided, built_held, decided}
use Rattle.files.proofs.Jobs.{flush_failed, reply_failed, reply_flushed}
use Rattle.files.proofs.file.reply.Goals as goal

pub returns-in_err-write_reply : goal.returns-in_err-write_reply
returns-in_err-write_reply g c f holds header =
    let p = err_from_is_err_and c.from_residual-in_err-write_reply.result
    c.from_residual-in_err-write_reply.ensures.1 in
    let decision = c.in_ok-decision.decision in
    let is = c.in_ok-decision.ensures.ok (terms_of c.args.budget c.args.restarts c.args.kept) (built f) refl
    (built_held c.args.budget c.args.restarts c.args.kept f c.args.engine.now c.set_restarts.new.self
    c.set_kept_rows.new.self holds
    c.set_restarts.ensures c.set_kept_rows.ensures) in
    let found : Decided (terms_of c.args.budget c.args.restarts c.args.kept) f c.answer-answer.result
    (told_by decision) is.after =
    subst (λ a. Decided (terms_of c.args.budget c.args.restarts c.args.kept) f a (told_by decision) is.after)
    (sym c.answer-answer.ensures)
    (decided c.no_assumptions.ensures (terms_of c.args.budget c.args.restarts c.args.kept) f decision
    c.decide.new.engine is) in
    let entries : c.put_told.new.stops.items ≡ c.args.stops.now.items ++ told_by decision =
    c.put_told.ensures ∙ ap (λ l. l ++ listed c.into_stopped.result) c.reserve.ensures.items
    ∙ ap (λ l. c.args.stops.now.items ++ l) c.into_stopped.ensures in
    subst (RepliesTo g.S.Sink.written g.S.Sink.flushed g.S.Sink.faults g.S.Sink.has_room c.args.job
    (terms_of c.args.budget c.args.restarts c.args.kept) f
    c.args.sink.now c.write_reply.new.sink (c.args.stops.now.items, c.put_told.new.stops.items))
    (sym (p.1 ∙ ap Err p.2))
    (reply_failed g.S.Sink.written g.S.Sink.flushed g.S.Sink.faults g.S.Sink.has_room c.args.job
    (terms_of c.args.budget c.args.restarts c.args.kept) f
    c.answer-answer.result (told_by decision) is.after found c.args.sink.now c.args.stops.now.items
    c.put_told.new.stops.items entries c.write_reply.new.sink c.in_err-write_reply.field-0.0
    (c.in_err-write_reply.ensures (terms_of c.args.budget c.args.restarts c.args.kept) f is.after is.holds header
    found.is))

pub returns-in_err-flush : goal.returns-in_err-flush
returns-in_err-flush g c f holds header =
    let p = err_from_is_err_and c.from_residual-in_err-flush.result c.from_residual-in_err-flush.ensures.1 in
    let decision = c.in_ok-decision.decision in
    let is = c.in_ok-decision.ensures.ok (terms_of c.args.budget c.args.restarts c.args.kept) (built f) refl
    (built_held c.args.budget c.args.restarts c.args.kept f c.args.engine.now c.set_restarts.new.self
    c.set_kept_rows.new.self holds
    c.set_restarts.ensures c.set_kept_rows.ensures) in
    let found : Decided (terms_of c.args.budget c.args.restarts c.args.kept) f c.answer-answer.result
    (told_by decision) is.after =
    subst (λ a. Decided (terms_of c.args.budget c.args.restarts c.args.kept) f a (told_by decision) is.after)
    (sym c.answer-answer.ensures)
    (decided c.no_assumptions.ensures (terms_of c.args.budget c.args.restarts c.args.kept) f decision
    c.decide.new.engine is) in
    let entries : c.put_told.new.stops.items ≡ c.args.stops.now.items ++ told_by decision =
    c.put_told.ensures ∙ ap (λ l. l ++ listed c.into_stopped.result) c.reserve.ensures.items
    ∙ ap (λ l. c.args.stops.now.items ++ l) c.into_stopped.ensures in
    subst (RepliesTo g.S.Sink.written g.S.Sink.flushed g.S.Sink.faults g.S.Sink.has_room c.args.job
    (terms_of c.args.budget c.args.restarts c.args.kept) f
    c.args.sink.now c.flush.new.self (c.args.stops.now.items, c.put_told.new.stops.items)) (sym (p.1 ∙ ap Err p.2))
    (flush_failed g.S.Sink.written g.S.Sink.flushed g.S.Sink.faults g.S.Sink.has_room c.args.job
    (terms_of c.args.budget c.args.restarts c.args.kept) f
    c.answer-answer.result (told_by decision) is.after found c.args.sink.now c.args.stops.now.items
    c.put_told.new.stops.items entries c.write_reply.new.sink c.flush.new.self
    (c.in_ok-write_reply.ensures (terms_of c.args.budget c.args.restarts c.args.kept) f is.after is.holds header
    found.is)
    c.flush.ensures.bytes c.flush.ensures.cause.later
    c.in_err-flush.ensures.cause.failed (λ n room. false≢true (c.in_err-flush.ensures.room n room).0))

pub returns : goal.returns
returns g c f holds header =
    let decision = c.in_ok-decision.decision in
    let is = c.in_ok-decision.ensures.ok (terms_of c.args.budget c.args.restarts c.args.kept) (built f) refl
    (built_held c.args.budget c.args.restarts c.args.kept f c.args.engine.now c.set_restarts.new.self
    c.set_kept_rows.new.self holds
    c.set_restarts.ensures c.set_kept_rows.ensures) in
    let found : Decided (terms_of c.args.budget c.args.restarts c.args.kept) f c.answer-answer.result
    (told_by decision) is.after =
    subst (λ a. Decided (terms_of c.args.budget c.args.restarts c.args.kept) f a (told_by decision) is.after)
    (sym c.answer-answer.ensures)
    (decided c.no_assumptions.ensures (terms_of c.args.budget c.args.restarts c.args.kept) f decision
    c.decide.new.engine is) in
    let entries : c.put_told.new.stops.items ≡ c.args.stops.now.items ++ told_by decision =
    c.put_told.ensures ∙ ap (λ l. l ++ listed c.into_stopped.result) c.reserve.ensures.items
    ∙ ap (λ l. c.args.stops.now.items ++ l) c.into_stopped.ensures in
    reply_flushed g.S.Sink.written g.S.Sink.flushed g.S.Sink.faults g.S.Sink.has_room c.args.job
    (terms_of c.args.budget c.args.restarts c.args.kept) f
    c.answer-answer.result (told_by decision) is.after found c.args.sink.now c.args.stops.now.items
    c.put_told.new.stops.items entries c.write_reply.new.sink c.flush.new.self
    (c.in_ok-write_reply.ensures (terms_of c.args.budget c.args.restarts c.args.kept) f is.after is.holds header
    found.is)
    c.flush.ensures.bytes c.in_ok-flush.ensures.flushed
    c.in_ok-flush.ensures.cause.kept
