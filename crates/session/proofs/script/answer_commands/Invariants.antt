use Rattle.std.proofs.Common.{◌≡◌, ◌≤◌, ℕ, false, List}
use Rattle.qscript.specs.State.{upcoming}
use Rattle.ports.specs.Writing.{Wrote}
use Rattle.session.specs.Scripts.{IsUnderWay}
use Rattle.solve.specs.Standing.{Standing}
use Rattle.solve.specs.Holding.{Holds}
use Rattle.session.proofs.Going.{Telling}
use Rattle.session.proofs.script.answer_commands.Given as goal

abbrev pub invariant-loop-command : goal.invariant-loop-command
invariant-loop-command g l = record {
  terms : l.session.terms ≡ l.fn.session.terms;
  ready : l.reader.failed ≡ false;
  under : (s : Standing) → Holds l.fn.session.terms l.fn.session.engine s → IsUnderWay l.fn.session.terms s
      (upcoming l.fn.reader (g.D.Desk.left l.fn.desk)) (upcoming l.reader (g.D.Desk.left l.desk)) l.session.engine
      (λ text. Wrote g.S.Sink.written g.S.Sink.flushed g.S.Sink.faults g.S.Sink.has_room l.fn.sink l.sink text)
      (l.fn.stops.items, l.stops.items);
  telling : Telling (g.D.Desk.left l.fn.desk) (g.D.Desk.left l.desk);
  later : g.D.Desk.faults l.fn.desk ≤ g.D.Desk.faults l.desk;
  kept : g.D.Desk.faults l.desk ≡ g.D.Desk.faults l.fn.desk;
  flows : g.D.Desk.flows l.fn.desk → g.D.Desk.flows l.desk;
  content : (n : List ℕ) → g.D.Desk.content l.desk n ≡ g.D.Desk.content l.fn.desk n;
  stays : (n : List ℕ) → g.D.Desk.steady l.fn.desk n → g.D.Desk.steady l.desk n;
}

abbrev pub decreases-loop-command : goal.decreases-loop-command
decreases-loop-command g l = l.reader.lexer.room
