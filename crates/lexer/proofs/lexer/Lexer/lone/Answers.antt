use Rattle.std.proofs.Common.{ap, ◌<◌, sym, ◌∙◌, arith}
use Rattle.lexer.proofs.Known.{past_lone, lone_beyond}
use Rattle.lexer.specs.State.{line_read}
use Rattle.lexer.proofs.Going.{read_past}
use Rattle.lexer.proofs.lexer.Lexer.lone.Goals as goal

pub returns-then-room-eq0-clause-refusal : goal.returns-then-room-eq0-clause-refusal
returns-then-room-eq0-clause-refusal c = λ left.
    rw c.line.ensures
    (lone_beyond c.args.self.now c.args.b left c.requires.byte (sym c.room.ensures ∙ c.if-room-eq0.true)
    c.requires.lone)

pub returns-clause-items : goal.returns-clause-items
returns-clause-items c = λ left.
    let some : 0 < c.args.self.now.room = omega arith in
    rw (c.advance.ensures, c.push.ensures, c.new-scan.ensures)
    (past_lone c.args.self.now c.args.b left c.requires.byte some c.requires.lone)

pub returns-clause-read : goal.returns-clause-read
returns-clause-read c = ap line_read c.advance.ensures ∙ read_past c.args.self.now c.args.b c.requires.byte
