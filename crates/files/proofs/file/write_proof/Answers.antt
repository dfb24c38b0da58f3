use Rattle.std.proofs.Common.{◌∙◌, Err, ap, subst, sym}
use Rattle.std.proofs.lemmas.Result.{err_from_is_err_and}
use Rattle.ports.proofs.Pieces.{nothing}
use Rattle.qrp_trace.specs.Texts.{qrp_text}
use Rattle.solve.specs.Decisions.{answer_with}
use Rattle.solve.proofs.Traced.{trace_after}
use Rattle.files.specs.Jobs.{WritesJob}
use Rattle.files.specs.declared.job.Job.TheVariants.{Trace}
use Rattle.files.proofs.Jobs.{is_told, traced}
use Rattle.files.proofs.file.write_proof.Goals as goal

pub returns-in_err-write_core-in-Ok : goal.returns-in_err-write_core-in-Ok
returns-in_err-write_core-in-Ok g c terms f s t holds is =
    let p = err_from_is_err_and c.from_residual.result c.from_residual.ensures.1 in
    let core = c.in-Ok.core in
    let scopes = c.prefix.result.now in
    subst (WritesJob g.S.Sink.written g.S.Sink.flushed g.S.Sink.faults g.S.Sink.has_room Trace terms f (answer_with t)
    c.args.sink.now c.write_core.new.sink) (sym (p.1 ∙ ap Err p.2)) (
      qrp_text scopes core,
      traced terms f s (qrp_text scopes core) (trace_after terms c.args.engine.now s holds core scopes
          c.derivation-proof.result.now c.prefix.ensures.value c.in-Ok.ensures.winner c.in-Ok.ensures.list
          c.in-Ok.ensures.numbered c.derivation-proof.ensures.proof) t is,
      c.in_err-write_core-in-Ok.ensures,
    )

pub returns-in_ok-write_core-in-Ok : goal.returns-in_ok-write_core-in-Ok
returns-in_ok-write_core-in-Ok g c terms f s t holds is =
    let core = c.in-Ok.core in
    let scopes = c.prefix.result.now in (
      qrp_text scopes core,
      traced terms f s (qrp_text scopes core) (trace_after terms c.args.engine.now s holds core scopes
          c.derivation-proof.result.now c.prefix.ensures.value c.in-Ok.ensures.winner c.in-Ok.ensures.list
          c.in-Ok.ensures.numbered c.derivation-proof.ensures.proof) t is,
      c.in_ok-write_core-in-Ok.ensures,
    )

pub returns-in-Err : goal.returns-in-Err
returns-in-Err g c terms f s t holds is =
    (is_told t, nothing g.S.Sink.written g.S.Sink.flushed g.S.Sink.faults g.S.Sink.has_room c.args.sink.now)
