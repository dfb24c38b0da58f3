use Rattle.std.proofs.Common.{◌≡◌, List, Option, subst, sym}
use Rattle.trail.specs.State.{Account}
use Rattle.ports.specs.Causes.{IsCounted}
use Rattle.command.specs.Forms.{Text, name_in}
use Rattle.reading.specs.declared.refusal.Quantity.{Quantity}
use Rattle.files.specs.Jobs.{LeavesOutput, RoomForJob}
use Rattle.solve.specs.Endings.{IsDone}
use Rattle.solve.specs.declared.ending.Ending.TheVariants.{CheckLimit, ReadFault, WriteFault}
use Rattle.program.proofs.Checking.{finished_counted, finished_done}
use Rattle.program.specs.Asked.{input_name, terms_in}
use Rattle.program.specs.Work.{IsJobWork}
use Rattle.program.proofs.Choosing.{chosen, where_chosen}
use Rattle.program.proofs.commands.work.Goals as goal

pub returns-clause-solved : goal.returns-clause-solved
returns-clause-solved g c =
    let left = g.D.Desk.left in
    let content = g.D.Desk.content c.args.desk.now in
    let name = input_name (name_in c.args.input.now) in
    let same : left c.choose.new.self ≡ content name =
    chosen c.choose.result content _ _ name c.if-is_err.ensures.negation c.choose.ensures.chosen c.input_name.ensures in
    let output : Option Text × Option Text =
    (g.O.Sink.written c.args.out.now, g.O.Sink.written c.run_file.new.sink) in
    let told : List Account × List Account = (c.args.stops.now.items, c.run_file.new.stops.items) in
    let e = c.run_file.result in
    subst (λ known. IsJobWork c.args.job (terms_in c.args.input.now) known
    (left c.run_file.new.desk)
    output told e) same (record {
      ending = c.run_file.ensures.ending;
      status = c.run_file.ensures.status;
      read = c.run_file.ensures.read;
      output_of = c.run_file.ensures.output;
    })

pub returns-clause-outside : goal.returns-clause-outside
returns-clause-outside g c =
    let left = g.D.Desk.left in
    let content = g.D.Desk.content c.args.desk.now in
    let name = input_name (name_in c.args.input.now) in
    let same : left c.choose.new.self ≡ content name =
    chosen c.choose.result content _ _ name c.if-is_err.ensures.negation c.choose.ensures.chosen c.input_name.ensures in
    let kept : g.D.Desk.faults c.choose.new.self ≡ g.D.Desk.faults c.args.desk.now =
    where_chosen c.choose.result (g.D.Desk.faults c.choose.new.self ≡ g.D.Desk.faults c.args.desk.now)
    c.if-is_err.ensures.negation c.choose.ensures.cause.kept in
    let did = c.run_file.ensures in
    let none : (quantity : Quantity) → c.run_file.result ≡ CheckLimit quantity → ⊥ =
    λ quantity is. subst (LeavesOutput c.args.job (terms_in c.args.input.now)
    (left c.choose.new.self) (g.O.Sink.written c.args.out.now, g.O.Sink.written c.run_file.new.sink)
    (c.args.stops.now.items, c.run_file.new.stops.items)) is did.output in
    record {
      read_fault = finished_counted (c.run_file.result ≡ ReadFault) c.run_file.result _ _ none
          (subst (λ n. IsCounted (c.run_file.result ≡ ReadFault) (IsDone c.run_file.result) n
          (g.D.Desk.faults c.run_file.new.desk)) kept did.read_fault);
      write_fault = finished_counted (c.run_file.result ≡ WriteFault) c.run_file.result _ _ none did.write_fault;
      steady = λ steady. (did.flows
          (c.choose.ensures.steady (subst (g.D.Desk.steady c.args.desk.now) (sym c.input_name.ensures) steady)).1).0;
      room = λ room. did.room (subst (λ known. RoomForJob c.args.job (terms_in c.args.input.now) known
          (g.O.Sink.has_room c.args.out.now)) (sym same) room);
      flushed = λ finished. did.flushed (finished_done c.run_file.result none finished);
    }
