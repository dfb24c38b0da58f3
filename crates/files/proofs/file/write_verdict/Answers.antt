use Rattle.std.proofs.Common.{◌∙◌, Err, Ok, ap, subst, sym}
use Rattle.std.proofs.lemmas.Result.{err_from_is_err_and}
use Rattle.files.specs.declared.job.Job.TheVariants.{Cert, Qdo, Trace}
use Rattle.solve.specs.Decisions.{IsAnsweredBy}
use Rattle.files.specs.Jobs.{WritesJob}
use Rattle.files.proofs.Jobs.{is_verdict, result_sent, with_truth}
use Rattle.files.proofs.file.write_verdict.Goals as goal

pub returns-in-Trace : goal.returns-in-Trace
returns-in-Trace g c terms f s holds header is =
    subst (λ j. WritesJob g.S.Sink.written g.S.Sink.flushed g.S.Sink.faults g.S.Sink.has_room j terms f c.args.answer
    c.args.sink.now c.write_proof.new.sink c.write_proof.result) (sym c.in-Trace.is)
    (with_truth (λ a. IsAnsweredBy f a s → WritesJob g.S.Sink.written g.S.Sink.flushed g.S.Sink.faults
    g.S.Sink.has_room Trace terms f a c.args.sink.now c.write_proof.new.sink c.write_proof.result)
    (λ t same. c.write_proof.ensures terms f s t holds same) c.args.answer (is_verdict c.args.answer c.requires) is)

pub returns-in-Cert : goal.returns-in-Cert
returns-in-Cert g c terms f s holds header is =
    subst (λ j. WritesJob g.S.Sink.written g.S.Sink.flushed g.S.Sink.faults g.S.Sink.has_room j terms f c.args.answer
    c.args.sink.now c.write_certificate.new.sink c.write_certificate.result) (sym c.in-Cert.is)
    (with_truth (λ a. IsAnsweredBy f a s → WritesJob g.S.Sink.written g.S.Sink.flushed g.S.Sink.faults
    g.S.Sink.has_room (Cert c.in-Cert.binary c.in-Cert.trimmed) terms f a c.args.sink.now c.write_certificate.new.sink
    c.write_certificate.result) (λ t same. c.write_certificate.ensures terms f s t holds same) c.args.answer
    (is_verdict c.args.answer c.requires) is)

pub returns-in_ok-write_result-in-Qdo : goal.returns-in_ok-write_result-in-Qdo
returns-in_ok-write_result-in-Qdo g c terms f s holds header is =
    let there = is_verdict c.args.answer c.requires in
    subst (λ j. WritesJob g.S.Sink.written g.S.Sink.flushed g.S.Sink.faults g.S.Sink.has_room j terms f c.args.answer
    c.args.sink.now c.write_result.new.sink (Ok tt)) (sym c.in-Qdo.is)
    (result_sent g.S.Sink.written g.S.Sink.flushed g.S.Sink.faults g.S.Sink.has_room terms f c.args.answer s
    c.args.sink.now
    c.write_result.new.sink (Ok tt) there is (λ truth formula verdict same.
    c.in_ok-write_result-in-Qdo.ensures terms f s truth holds header formula verdict same))

pub returns-in_err-write_result-in-Qdo : goal.returns-in_err-write_result-in-Qdo
returns-in_err-write_result-in-Qdo g c terms f s holds header is =
    let p = err_from_is_err_and c.from_residual-in_err-write_result-in-Qdo.result
    c.from_residual-in_err-write_result-in-Qdo.ensures.1 in
    let there = is_verdict c.args.answer c.requires in
    subst (λ j. WritesJob g.S.Sink.written g.S.Sink.flushed g.S.Sink.faults g.S.Sink.has_room j terms f c.args.answer
    c.args.sink.now c.write_result.new.sink c.from_residual-in_err-write_result-in-Qdo.result) (sym c.in-Qdo.is)
    (subst (WritesJob g.S.Sink.written g.S.Sink.flushed g.S.Sink.faults g.S.Sink.has_room Qdo terms f c.args.answer
    c.args.sink.now c.write_result.new.sink) (sym (p.1 ∙ ap Err p.2))
    (result_sent g.S.Sink.written g.S.Sink.flushed g.S.Sink.faults g.S.Sink.has_room terms f c.args.answer s
    c.args.sink.now
    c.write_result.new.sink (Err c.in_err-write_result-in-Qdo.field-0.0) there is (λ truth formula verdict same.
    c.in_err-write_result-in-Qdo.ensures terms f s truth holds header formula verdict same)))
