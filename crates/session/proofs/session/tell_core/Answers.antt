use Rattle.std.proofs.Common.{◌≡◌, Err, ap, codes, sym, subst, ◌∙◌}
use Rattle.std.specs.Prelude.{IfErr}
use Rattle.engine.specs.Cores.{IsCoreStop}
use Rattle.engine.specs.State.{VerdictState}
use Rattle.engine.specs.declared.group_core.CoreRefusal.TheVariants.{NotUnsat, NoVerdict, Spent}
use Rattle.qscript.specs.declared.command.Command.TheVariants.{GroupCore}
use Rattle.session.specs.declared.reply.Reply.TheVariants.{Unknown}
use Rattle.session.proofs.Coring.{core_asked, gives_up_core}
use Rattle.session.proofs.Telling.{sent, stepped}
use Rattle.session.proofs.session.tell_core.Goals as goal

pub returns-in-Err-Spent : goal.returns-in-Err-Spent
returns-in-Err-Spent g c terms s same holds =
    let written = g.S.Sink.written in
    let flushed = g.S.Sink.flushed in
    let faults = g.S.Sink.faults in
    let has_room = g.S.Sink.has_room in
    let e = c.args.engine.now in
    let old = c.args.sink.now in
    let new = c.write_answer.new.sink in
    let stopped = c.in-Err-Spent.stopped in
    let is : c.group_core.result ≡ Err (Spent stopped) = c.in-Err-Spent.is ∙ ap Err c.in-Err-Spent.field-0-is in
    let asked = core_asked e c.group_core.result
    (λ (v : VerdictState). IfErr c.group_core.result (IsCoreStop e.restarts c.args.budget e.formula v.assumptions))
    (λ no. absurd (let f : Err (Spent stopped) ≡ Err NoVerdict = sym is ∙ no in cc))
    (λ no. absurd (let f : Err (Spent stopped) ≡ Err NotUnsat = sym is ∙ no in cc)) c.group_core.ensures.refused in
    let told = gives_up_core terms e s holds asked.0 asked.1 asked.2 c.args.budget stopped same
    (subst (λ r. IfErr r (IsCoreStop e.restarts c.args.budget e.formula asked.0.assumptions)) is asked.3) in
    stepped written flushed faults has_room terms GroupCore s s old new e (Unknown stopped) (codes "UNKNOWN\n")
    c.send-in-Err-Spent.result told.0 told.1 holds
    (sent written flushed faults has_room (Unknown stopped) (codes "UNKNOWN\n") old new c.write_answer.result
    c.send-in-Err-Spent.result c.write_answer.ensures c.send-in-Err-Spent.ensures)
