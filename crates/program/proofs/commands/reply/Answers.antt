use Rattle.std.proofs.Common.{◌≡◌, List, Option, subst, sym}
use Rattle.trail.specs.State.{Account}
use Rattle.command.specs.Forms.{Text, name_in}
use Rattle.reading.specs.declared.refusal.Quantity.{Quantity}
use Rattle.session.specs.Scripts.{EndsScript, RoomForReplies}
use Rattle.program.specs.Asked.{input_name, terms_in}
use Rattle.program.specs.Work.{IsReplied}
use Rattle.session.proofs.Scripting.{each_script}
use Rattle.program.proofs.Scripting.{unchosen}
use Rattle.ports.specs.Causes.{IsCounted}
use Rattle.solve.specs.Endings.{IsDone}
use Rattle.solve.specs.declared.ending.Ending.TheVariants.{CheckLimit, ReadFault, WriteFault}
use Rattle.program.proofs.Checking.{finished_counted, finished_done}
use Rattle.program.proofs.Choosing.{chosen, where_chosen}
use Rattle.program.proofs.commands.reply.Goals as goal

pub returns-then-is_err-clause-replied : goal.returns-then-is_err-clause-replied
returns-then-is_err-clause-replied g c = unchosen _ _ _ _ _ each_script

pub returns-clause-replied : goal.returns-clause-replied
returns-clause-replied g c =
    let left = g.D.Desk.left in
    let content = g.D.Desk.content c.args.desk.now in
    let name = input_name (name_in c.args.input.now) in
    let same : left c.choose.new.self ≡ content name =
    chosen c.choose.result content _ _ name c.if-is_err.ensures.negation c.choose.ensures.chosen
    c.input_name.ensures in
    let output : Option Text × Option Text =
    (g.O.Sink.written c.args.out.now, g.O.Sink.written c.run_script.new.sink) in
    let told : List Account × List Account = (c.args.stops.now.items, c.run_script.new.stops.items) in
    let e = c.run_script.result in
    subst (λ known. IsReplied (terms_in c.args.input.now) known (left c.run_script.new.desk)
    output told
    e) same (record {
      ending = c.run_script.ensures.ending;
      status = c.run_script.ensures.status;
      read = c.run_script.ensures.read;
      answered = c.run_script.ensures.answered;
    })

pub returns-clause-outside : goal.returns-clause-outside
returns-clause-outside g c =
    let left = g.D.Desk.left in
    let content = g.D.Desk.content c.args.desk.now in
    let name = input_name (name_in c.args.input.now) in
    let same : left c.choose.new.self ≡ content name =
    chosen c.choose.result content _ _ name c.if-is_err.ensures.negation c.choose.ensures.chosen c.input_name.ensures in
    let kept : g.D.Desk.faults c.choose.new.self ≡ g.D.Desk.faults c.args.desk.now =
    where_chosen c.choose.result (g.D.Desk.faults c.choose.new.self ≡ g.D.Desk.faults c.args.desk.now)
    c.if-is_err.ensures.negation c.choose.ensures.cause.kept in
    let did = c.run_script.ensures in
    let none : (quantity : Quantity) → c.run_script.result ≡ CheckLimit quantity → ⊥ =
    λ quantity is. subst EndsScript is did.answered.ends in
    record {
      read_fault = finished_counted (c.run_script.result ≡ ReadFault) c.run_script.result _ _ none
          (subst (λ n. IsCounted (c.run_script.result ≡ ReadFault) (IsDone c.run_script.result) n
          (g.D.Desk.faults c.run_script.new.desk)) kept did.read_fault);
      write_fault = finished_counted (c.run_script.result ≡ WriteFault) c.run_script.result _ _ none did.write_fault;
      steady = λ steady. (did.flows
          (c.choose.ensures.steady (subst (g.D.Desk.steady c.args.desk.now) (sym c.input_name.ensures) steady)).1).0;
      room = λ room. did.room (subst (λ known. RoomForReplies (terms_in c.args.input.now) known
          (g.O.Sink.has_room c.args.out.now)) (sym same) room);
      flushed = λ finished. did.flushed (finished_done c.run_script.result none finished);
    }
