use Rattle.std.proofs.Common.{◌∙◌, Err, ap, refl, sym}
use Rattle.std.proofs.lemmas.Result.{err_from_is_err_and}
use Rattle.qdimacs_out.specs.Texts.{formula_text}
use Rattle.files.specs.Checks.{IsCheckReply, check_text}
use Rattle.solve.specs.Terms.{terms_of}
use Rattle.files.specs.declared.check.Outcome.TheVariants.{Checked}
use Rattle.files.proofs.Checking.{text_failed, text_sent}
use Rattle.files.proofs.check.write_checked.Goals as goal

pub returns-in_err-write_text : goal.returns-in_err-write_text
returns-in_err-write_text g c =
    let terms = terms_of c.args.request.budget c.args.request.restarts c.args.request.kept in
    let stops = c.args.stops.now.items in
    let p = err_from_is_err_and c.from_residual.result c.from_residual.ensures.1 in
    text_failed g.S.Sink.written g.S.Sink.flushed g.S.Sink.faults g.S.Sink.has_room
    (IsCheckReply c.args.request.decide terms c.args.g.now c.args.value (stops, stops)) c.args.sink.now
    c.write_text.new.sink (stops, stops) (Checked c.args.value) (formula_text c.args.g.now) (formula_text c.args.g.now)
    refl (refl, record { says = ap (λ d. check_text d c.args.g.now) (sym c.if-request.false); told = refl })
    c.in_err-write_text.ensures c.from_residual.result (p.1 ∙ ap Err p.2)

pub returns : goal.returns
returns g c =
    let terms = terms_of c.args.request.budget c.args.request.restarts c.args.request.kept in
    let stops = c.args.stops.now.items in
    text_sent g.S.Sink.written g.S.Sink.flushed g.S.Sink.faults g.S.Sink.has_room
    (IsCheckReply c.args.request.decide terms c.args.g.now c.args.value (stops, stops)) c.args.sink.now
    c.write_text.new.sink (stops, stops) (Checked c.args.value) (Checked c.args.value) (formula_text c.args.g.now)
    (formula_text c.args.g.now) refl refl
    (refl, record { says = ap (λ d. check_text d c.args.g.now) (sym c.if-request.false); told = refl })
    c.in_ok-write_text.ensures
