use Rattle.std.proofs.Common.{◌≡◌, ◌++◌, length, take, drop, sym, ap, ◌∙◌, arith}
use Rattle.lexer.specs.State.{State}
use Rattle.lexer.proofs.Going.{reads_more}
use Rattle.lexer.proofs.Bytes.{read_stays, written, ended}
use Rattle.lexer.proofs.lexer.Lexer.refill.Goals as goal

pub returns-clause-bytes : goal.returns-clause-bytes
returns-clause-bytes g c =
    let same : take c.self.inside.buffer.len (c.read.new.buf ++ drop (length c.read.new.buf) c.self.inside.buffer.items)
    ≡ c.read.new.buf = written _ c.read.new.buf c.self.inside.buffer.items
    (c.read.auto.buf ∙ ap length c.as_mut_slice.ensures.value ∙ sym c.self.inside.buffer.ok.0)
    (sym c.self.inside.buffer.ok.0) in
    rw same (read_stays c.args.self.now.ahead (take c.in_ok-self-inside.field-0 c.read.new.buf) _ _ c.requires
    c.in_ok-self-inside.ensures.bytes.0)

pub returns-clause-end : goal.returns-clause-end
returns-clause-end g c = λ h.
    let same : take c.self.inside.buffer.len (c.read.new.buf ++ drop (length c.read.new.buf) c.self.inside.buffer.items)
    ≡ c.read.new.buf = written _ c.read.new.buf c.self.inside.buffer.items
    (c.read.auto.buf ∙ ap length c.as_mut_slice.ensures.value ∙ sym c.self.inside.buffer.ok.0)
    (sym c.self.inside.buffer.ok.0) in
    let size : length c.read.new.buf ≡ 4096 = c.read.auto.buf ∙ ap length c.as_mut_slice.ensures.value
    ∙ c.self.invariant.2 in
    ended c.in_ok-self-inside.field-0 c.read.new.buf _ c.in_ok-self-inside.ensures.bound.0 (omega arith)
    c.in_ok-self-inside.ensures.bytes.1 (rw same at h)

pub returns-in_err-self-inside-clause-reads : goal.returns-in_err-self-inside-clause-reads
returns-in_err-self-inside-clause-reads g c =
    reads_more c.args.self.now _ _ _ c.requires (ap (λ (s : State). s.line) c.self.view_is)

pub returns-clause-reads : goal.returns-clause-reads
returns-clause-reads g c =
    reads_more c.args.self.now _ _ _ c.requires (ap (λ (s : State). s.line) c.self.view_is)
