use Rattle.std.proofs.Common.{◌≡◌, List, Option, subst, sym}
use Rattle.trail.specs.State.{Account}
use Rattle.ports.specs.Causes.{IsCounted}
use Rattle.command.specs.Forms.{Text, name_in}
use Rattle.files.specs.Checks.{IsFinished, RoomForCheck}
use Rattle.solve.specs.declared.ending.Ending.TheVariants.{ReadFault}
use Rattle.program.specs.Asked.{input_name, terms_in}
use Rattle.program.specs.Work.{IsCheckWork}
use Rattle.program.proofs.Choosing.{chosen, where_chosen}
use Rattle.program.proofs.commands.check.Goals as goal

pub returns-clause-checked : goal.returns-clause-checked
returns-clause-checked g c =
    let left = g.D.Desk.left in
    let content = g.D.Desk.content c.args.desk.now in
    let name = input_name (name_in c.args.input.now) in
    let same : left c.choose.new.self ≡ content name =
    chosen c.choose.result content _ _ name c.if-is_err.ensures.negation c.choose.ensures.chosen c.input_name.ensures in
    let output : Option Text × Option Text =
    (g.O.Sink.written c.args.out.now, g.O.Sink.written c.run_check.new.sink) in
    let told : List Account × List Account = (c.args.stops.now.items, c.run_check.new.stops.items) in
    let e = c.run_check.result in
    subst (λ known. IsCheckWork c.args.decide (terms_in c.args.input.now) known
    (left c.run_check.new.desk) output told e) same (record {
      unread = c.run_check.ensures.unread;
      read = c.run_check.ensures.read;
      output_of = c.run_check.ensures.output;
    })

pub returns-clause-outside : goal.returns-clause-outside
returns-clause-outside g c =
    let left = g.D.Desk.left in
    let content = g.D.Desk.content c.args.desk.now in
    let name = input_name (name_in c.args.input.now) in
    let same : left c.choose.new.self ≡ content name =
    chosen c.choose.result content _ _ name c.if-is_err.ensures.negation c.choose.ensures.chosen c.input_name.ensures in
    let kept : g.D.Desk.faults c.choose.new.self ≡ g.D.Desk.faults c.args.desk.now =
    where_chosen c.choose.result (g.D.Desk.faults c.choose.new.self ≡ g.D.Desk.faults c.args.desk.now)
    c.if-is_err.ensures.negation c.choose.ensures.cause.kept in
    let did = c.run_check.ensures in
    record {
      read_fault = subst (λ n. IsCounted (c.run_check.result ≡ ReadFault) (IsFinished c.run_check.result) n
          (g.D.Desk.faults c.run_check.new.desk)) kept did.read_fault;
      write_fault = did.write_fault;
      steady = λ steady. (did.flows
          (c.choose.ensures.steady (subst (g.D.Desk.steady c.args.desk.now) (sym c.input_name.ensures) steady)).1).0;
      room = λ room. did.room (subst (λ known. RoomForCheck c.args.decide (terms_in c.args.input.now)
          known (g.O.Sink.has_room c.args.out.now)) (sym same) room);
      flushed = did.flushed;
    }
