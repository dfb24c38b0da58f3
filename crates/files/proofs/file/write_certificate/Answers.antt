use Rattle.std.proofs.Common.{◌∙◌, Err, ap, subst, sym}
use Rattle.std.proofs.lemmas.Result.{err_from_is_err_and}
use Rattle.ports.proofs.Pieces.{nothing}
use Rattle.solve.specs.Decisions.{answer_with}
use Rattle.files.specs.Jobs.{WritesJob}
use Rattle.files.specs.declared.job.Job.TheVariants.{Cert}
use Rattle.files.proofs.Jobs.{certified, is_told}
use Rattle.files.proofs.file.write_certificate.Goals as goal

pub returns-in_err-circuit : goal.returns-in_err-circuit
returns-in_err-circuit g c terms f s t holds is =
    let p = err_from_is_err_and c.from_residual.result c.from_residual.ensures.1 in
    subst (WritesJob g.S.Sink.written g.S.Sink.flushed g.S.Sink.faults g.S.Sink.has_room
    (Cert c.args.binary c.args.trimmed) terms f (answer_with t) c.args.sink.now c.args.sink.now)
    (sym (p.1 ∙ ap Err p.2))
    (is_told t, nothing g.S.Sink.written g.S.Sink.flushed g.S.Sink.faults g.S.Sink.has_room c.args.sink.now)

pub returns-in_err-write_circuit : goal.returns-in_err-write_circuit
returns-in_err-write_circuit g c terms f s t holds is =
    let p = err_from_is_err_and c.from_residual-in_err-write_circuit.result
    c.from_residual-in_err-write_circuit.ensures.1 in
    let made = c.in_ok-circuit.ensures in
    let wrote = c.in_err-write_circuit.ensures in
    subst (WritesJob g.S.Sink.written g.S.Sink.flushed g.S.Sink.faults g.S.Sink.has_room
    (Cert c.args.binary c.args.trimmed) terms f (answer_with t) c.args.sink.now c.write_circuit.new.sink)
    (sym (p.1 ∙ ap Err p.2)) (
      wrote.0,
      certified terms f s c.args.binary c.args.trimmed c.in_ok-circuit.circuit wrote.0 wrote.1 made.reached
          (made.certifies terms s holds) t is,
      wrote.2,
    )

pub returns : goal.returns
returns g c terms f s t holds is =
    let made = c.in_ok-circuit.ensures in
    let wrote = c.in_ok-write_circuit.ensures in (
      wrote.0,
      certified terms f s c.args.binary c.args.trimmed c.in_ok-circuit.circuit wrote.0 wrote.1 made.reached
          (made.certifies terms s holds) t is,
      wrote.2,
    )
