use Rattle.std.proofs.Common.{◌≡◌, ◌++◌, ◌∙◌, Err, ap, refl, subst, sym}
use Rattle.std.proofs.lemmas.Bool.{false≢true}
use Rattle.std.proofs.lemmas.Result.{err_from_is_err_and}
use Rattle.search.specs.Counting.{size_of}
use Rattle.files.specs.Checks.{IsCheck, SendsOutcome}
use Rattle.solve.specs.Feeding.{built}
use Rattle.solve.specs.Decisions.{told_by}
use Rattle.solve.specs.Entries.{listed, AddsEntry, IsStopAt}
use Rattle.solve.specs.Terms.{terms_of}
use Rattle.files.proofs.Checking.{outcome_failed, outcome_flushed, outcome_unflushed}
use Rattle.solve.proofs.Answering.{Decided, built_held, decided}
use Rattle.files.proofs.check.check_held.Goals as goal

pub write_check-requires-clause-decided : goal.write_check-requires-clause-decided
write_check-requires-clause-decided g c =
    let terms = terms_of c.args.request.budget c.args.request.restarts c.args.request.kept in
    let f = c.args.f.now in
    let decision = c.in_ok-decision.decision in
    let is = c.in_ok-decision.ensures.ok terms (built f) refl
    (built_held c.args.request.budget c.args.request.restarts c.args.request.kept f c.args.engine.now
    c.set_restarts.new.self c.set_kept_rows.new.self
    c.requires.holds c.set_restarts.ensures c.set_kept_rows.ensures) in
    let found : Decided terms f c.answer-answer.result (told_by decision) is.after =
    subst (λ a. Decided terms f a (told_by decision) is.after) (sym c.answer-answer.ensures)
    (decided c.no_assumptions.ensures terms f decision c.decide.new.engine is) in
    record { standing = is.after; holds = is.holds; is = found.is; right = found.right }

pub returns-in_err-outcome : goal.returns-in_err-outcome
returns-in_err-outcome g c =
    let terms = terms_of c.args.request.budget c.args.request.restarts c.args.request.kept in
    let f = c.args.f.now in
    let decision = c.in_ok-decision.decision in
    let before = c.args.stops.now.items in
    let after = c.write_check.new.stops.items in
    let p = err_from_is_err_and c.from_residual-in_err-outcome.result
    c.from_residual-in_err-outcome.ensures.1 in
    let is = c.in_ok-decision.ensures.ok terms (built f) refl
    (built_held c.args.request.budget c.args.request.restarts c.args.request.kept f c.args.engine.now
    c.set_restarts.new.self c.set_kept_rows.new.self
    c.requires.holds c.set_restarts.ensures c.set_kept_rows.ensures) in
    let found : Decided terms f c.answer-answer.result (told_by decision) is.after =
    subst (λ a. Decided terms f a (told_by decision) is.after) (sym c.answer-answer.ensures)
    (decided c.no_assumptions.ensures terms f decision c.decide.new.engine is) in
    let entries : c.put_told.new.stops.items ≡ before ++ told_by decision =
    c.put_told.ensures ∙ ap (λ l. l ++ listed c.into_stopped.result) c.reserve.ensures.items
    ∙ ap (λ l. before ++ l) c.into_stopped.ensures in
    let entry : AddsEntry (IsStopAt terms (size_of f.prefix)) before c.put_told.new.stops.items c.answer-answer.result =
    subst (λ l. AddsEntry (IsStopAt terms (size_of f.prefix)) before l c.answer-answer.result) (sym entries)
    (found.entry before) in
    subst (SendsOutcome g.S.Sink.written g.S.Sink.flushed g.S.Sink.faults g.S.Sink.has_room
    (IsCheck c.args.request.decide terms f (before, after)) c.args.sink.now c.write_check.new.sink (before, after))
    (sym (p.1 ∙ ap Err p.2))
    (outcome_failed g.S.Sink.written g.S.Sink.flushed g.S.Sink.faults g.S.Sink.has_room
    (IsCheck c.args.request.decide terms f (before, after)) c.args.sink.now c.write_check.new.sink (before, after)
    c.in_err-outcome.field-0.0 (c.in_err-outcome.ensures before entry))

pub returns-in_err-flush : goal.returns-in_err-flush
returns-in_err-flush g c =
    let terms = terms_of c.args.request.budget c.args.request.restarts c.args.request.kept in
    let f = c.args.f.now in
    let decision = c.in_ok-decision.decision in
    let before = c.args.stops.now.items in
    let after = c.write_check.new.stops.items in
    let p = err_from_is_err_and c.from_residual-in_err-flush.result c.from_residual-in_err-flush.ensures.1 in
    let is = c.in_ok-decision.ensures.ok terms (built f) refl
    (built_held c.args.request.budget c.args.request.restarts c.args.request.kept f c.args.engine.now
    c.set_restarts.new.self c.set_kept_rows.new.self
    c.requires.holds c.set_restarts.ensures c.set_kept_rows.ensures) in
    let found : Decided terms f c.answer-answer.result (told_by decision) is.after =
    subst (λ a. Decided terms f a (told_by decision) is.after) (sym c.answer-answer.ensures)
    (decided c.no_assumptions.ensures terms f decision c.decide.new.engine is) in
    let entries : c.put_told.new.stops.items ≡ before ++ told_by decision =
    c.put_told.ensures ∙ ap (λ l. l ++ listed c.into_stopped.result) c.reserve.ensures.items
    ∙ ap (λ l. before ++ l) c.into_stopped.ensures in
    let entry : AddsEntry (IsStopAt terms (size_of f.prefix)) before c.put_told.new.stops.items c.answer-answer.result =
    subst (λ l. AddsEntry (IsStopAt terms (size_of f.prefix)) before l c.answer-answer.result) (sym entries)
    (found.entry before) in
    subst (SendsOutcome g.S.Sink.written g.S.Sink.flushed g.S.Sink.faults g.S.Sink.has_room
    (IsCheck c.args.request.decide terms f (before, after)) c.args.sink.now c.flush.new.self (before, after))
    (sym (p.1 ∙ ap Err p.2))
    (outcome_unflushed g.S.Sink.written g.S.Sink.flushed g.S.Sink.faults g.S.Sink.has_room
    (IsCheck c.args.request.decide terms f (before, after)) c.args.sink.now c.write_check.new.sink (before, after)
    c.flush.new.self c.in_ok-outcome.outcome (c.in_ok-outcome.ensures before entry) c.flush.ensures.bytes
    c.flush.ensures.cause.later c.in_err-flush.ensures.cause.failed
    (λ n room. false≢true (c.in_err-flush.ensures.room n room).0))

pub returns : goal.returns
returns g c =
    let terms = terms_of c.args.request.budget c.args.request.restarts c.args.request.kept in
    let f = c.args.f.now in
    let decision = c.in_ok-decision.decision in
    let before = c.args.stops.now.items in
    let after = c.write_check.new.stops.items in
    let is = c.in_ok-decision.ensures.ok terms (built f) refl
    (built_held c.args.request.budget c.args.request.restarts c.args.request.kept f c.args.engine.now
    c.set_restarts.new.self c.set_kept_rows.new.self
    c.requires.holds c.set_restarts.ensures c.set_kept_rows.ensures) in
    let found : Decided terms f c.answer-answer.result (told_by decision) is.after =
    subst (λ a. Decided terms f a (told_by decision) is.after) (sym c.answer-answer.ensures)
    (decided c.no_assumptions.ensures terms f decision c.decide.new.engine is) in
    let entries : c.put_told.new.stops.items ≡ before ++ told_by decision =
    c.put_told.ensures ∙ ap (λ l. l ++ listed c.into_stopped.result) c.reserve.ensures.items
    ∙ ap (λ l. before ++ l) c.into_stopped.ensures in
    let entry : AddsEntry (IsStopAt terms (size_of f.prefix)) before c.put_told.new.stops.items c.answer-answer.result =
    subst (λ l. AddsEntry (IsStopAt terms (size_of f.prefix)) before l c.answer-answer.result) (sym entries)
    (found.entry before) in
    outcome_flushed g.S.Sink.written g.S.Sink.flushed g.S.Sink.faults g.S.Sink.has_room
    (IsCheck c.args.request.decide terms f (before, after)) c.args.sink.now c.write_check.new.sink (before, after)
    c.flush.new.self c.in_ok-outcome.outcome (c.in_ok-outcome.ensures before entry) c.flush.ensures.bytes
    c.in_ok-flush.ensures.flushed c.in_ok-flush.ensures.cause.kept
