use Rattle.std.proofs.Common.{◌≡◌, ◌++◌, ◌∙◌, Err, ap, subst, sym}
use Rattle.std.specs.Prelude.{◌≢◌}
use Rattle.std.proofs.lemmas.Result.{err_from_is_err_and}
use Rattle.search.specs.Counting.{size_of}
use Rattle.files.specs.Checks.{IsCheckReply, check_line, judged}
use Rattle.solve.specs.Answers.{IsAnswerTo}
use Rattle.solve.specs.Decisions.{told_by}
use Rattle.solve.specs.Entries.{listed, AddsEntry, IsStopAt}
use Rattle.solve.specs.Decisions.{answered}
use Rattle.solve.specs.Terms.{terms_of}
use Rattle.solve.specs.declared.answer.Answer.TheVariants.{Sat}
use Rattle.files.proofs.Checking.{judged_reply, never_true, text_failed, text_sent}
use Rattle.files.proofs.check.decide_check.Goals as goal

pub line_of-requires : goal.line_of-requires
line_of-requires g c =
    let terms = terms_of c.args.request.budget c.args.request.restarts c.args.request.kept in
    never_true terms c.args.g.now c.requires.unsatisfiable c.answer-found.result
    (subst (IsAnswerTo terms c.args.g.now) (sym c.answer-found.ensures) c.in_ok-decision.ensures.right)

pub returns-in_err-write : goal.returns-in_err-write
returns-in_err-write g c =
    let terms = terms_of c.args.request.budget c.args.request.restarts c.args.request.kept in
    let f = c.args.g.now in
    let decision = c.in_ok-decision.decision in
    let before = c.args.stops.now.items in
    let found = c.answer-found.result in
    let right : IsAnswerTo terms f found =
    subst (IsAnswerTo terms f) (sym c.answer-found.ensures) c.in_ok-decision.ensures.right in
    let apart : found ≢ Sat = never_true terms f c.requires.unsatisfiable found right in
    let entries : c.put_told.new.stops.items ≡ before ++ told_by decision =
    c.put_told.ensures ∙ ap (λ l. l ++ listed c.into_stopped.result) c.reserve.ensures.items
    ∙ ap (λ l. before ++ l) c.into_stopped.ensures in
    let told : AddsEntry (IsStopAt terms (size_of f.prefix)) before c.put_told.new.stops.items found =
    subst (λ a. AddsEntry (IsStopAt terms (size_of f.prefix)) before c.put_told.new.stops.items a)
    (sym c.answer-found.ensures)
    (subst (λ l. AddsEntry (IsStopAt terms (size_of f.prefix)) before l (answered decision)) (sym entries)
    (c.in_ok-decision.ensures.told before)) in
    let bytes : c.as_bytes.result.now ≡ check_line found = c.as_bytes.ensures.value ∙ c.line_of.ensures in
    let p = err_from_is_err_and c.from_residual-in_err-write.result c.from_residual-in_err-write.ensures.1 in
    text_failed g.S.Sink.written g.S.Sink.flushed g.S.Sink.faults g.S.Sink.has_room
    (IsCheckReply c.args.request.decide terms f c.args.value (before, c.put_told.new.stops.items)) c.args.sink.now
    c.write.new.sink (before, c.put_told.new.stops.items) (judged found c.args.value) (check_line found)
    c.as_bytes.result.now bytes
    (judged_reply terms f c.args.request.decide c.args.value (before, c.put_told.new.stops.items) c.requires.asked found
    apart right told) c.in_err-write.ensures c.from_residual-in_err-write.result (p.1 ∙ ap Err p.2)

pub returns : goal.returns
returns g c =
    let terms = terms_of c.args.request.budget c.args.request.restarts c.args.request.kept in
    let f = c.args.g.now in
    let decision = c.in_ok-decision.decision in
    let before = c.args.stops.now.items in
    let found = c.answer-found.result in
    let right : IsAnswerTo terms f found =
    subst (IsAnswerTo terms f) (sym c.answer-found.ensures) c.in_ok-decision.ensures.right in
    let apart : found ≢ Sat = never_true terms f c.requires.unsatisfiable found right in
    let entries : c.put_told.new.stops.items ≡ before ++ told_by decision =
    c.put_told.ensures ∙ ap (λ l. l ++ listed c.into_stopped.result) c.reserve.ensures.items
    ∙ ap (λ l. before ++ l) c.into_stopped.ensures in
    let told : AddsEntry (IsStopAt terms (size_of f.prefix)) before c.put_told.new.stops.items found =
    subst (λ a. AddsEntry (IsStopAt terms (size_of f.prefix)) before c.put_told.new.stops.items a)
    (sym c.answer-found.ensures)
    (subst (λ l. AddsEntry (IsStopAt terms (size_of f.prefix)) before l (answered decision)) (sym entries)
    (c.in_ok-decision.ensures.told before)) in
    let bytes : c.as_bytes.result.now ≡ check_line found = c.as_bytes.ensures.value ∙ c.line_of.ensures in
    text_sent g.S.Sink.written g.S.Sink.flushed g.S.Sink.faults g.S.Sink.has_room
    (IsCheckReply c.args.request.decide terms f c.args.value (before, c.put_told.new.stops.items)) c.args.sink.now
    c.write.new.sink (before, c.put_told.new.stops.items) (judged found c.args.value) c.judged.result (check_line found)
    c.as_bytes.result.now c.judged.ensures bytes
    (judged_reply terms f c.args.request.decide c.args.value (before, c.put_told.new.stops.items) c.requires.asked found
    apart right told) c.in_ok-write.ensures
