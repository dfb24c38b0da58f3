use Rattle.std.proofs.Common.{subst, sym}
use Rattle.files.specs.Jobs.{WritesJob}
use Rattle.files.proofs.file.write_reply.Goals as goal

pub returns-in-Unknown : goal.returns-in-Unknown
returns-in-Unknown g c terms f s holds header is =
    subst (λ a. WritesJob g.S.Sink.written g.S.Sink.flushed g.S.Sink.faults g.S.Sink.has_room c.args.job terms f a
    c.args.sink.now c.write_unknown.new.sink c.write_unknown.result) (sym c.in-Unknown.is)
    (c.write_unknown.ensures terms f header)
