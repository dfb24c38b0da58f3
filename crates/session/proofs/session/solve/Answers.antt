use Rattle.std.proofs.Common.{◌≡◌, ◌∙◌, ap, subst, sym}
use Rattle.ports.specs.Writing.{Writes}
use Rattle.qscript.specs.declared.command.Command.TheVariants.{Solve}
use Rattle.solve.specs.Answers.{answer_line}
use Rattle.solve.specs.Decisions.{IsSolved, answered, told_by as told_by_decision, truth_of}
use Rattle.session.specs.Steps.{IsSolveReply, told_by}
use Rattle.session.proofs.Solved.{is_right, told_same}
use Rattle.session.proofs.Telling.{sent, stepped}
use Rattle.session.proofs.session.solve.Goals as goal

pub returns : goal.returns
returns g c terms s same holds =
    let written = g.S.Sink.written in
    let flushed = g.S.Sink.flushed in
    let faults = g.S.Sink.faults in
    let has_room = g.S.Sink.has_room in
    let decision = c.in_ok-decision.decision in
    let reply = c.to_solve.result in
    let line = answer_line (answered decision) in
    let old = c.args.sink.now in
    let new = c.write_answer.new.sink in
    let is = c.in_ok-decision.ensures.ok terms s same holds in
    let writes = subst (λ a. Writes written flushed faults has_room old new (answer_line a) c.write_answer.result)
    c.answer-answer.ensures c.write_answer.ensures in
    let told : told_by reply ≡ told_by_decision decision = ap told_by c.to_solve.ensures ∙ told_same decision in
    let solved = subst (λ l. IsSolved terms s (record { text = line; stops = l }) is.after) (sym told) is.solved in
    let right = subst (IsSolveReply (truth_of s.script.formula)) (sym c.to_solve.ensures)
    (is_right (truth_of s.script.formula) decision is.right) in
    stepped written flushed faults has_room terms Solve s is.after old new c.decide.new.engine reply line c.send.result
    solved right is.holds
    (sent written flushed faults has_room reply line old new c.write_answer.result c.send.result writes c.send.ensures)
