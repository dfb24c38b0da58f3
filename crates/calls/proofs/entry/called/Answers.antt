use Rattle.std.proofs.Common.{rules, List, map, string_bytes, length, ◌≤◌, ap, subst, sym, ◌∙◌}
use Rattle.command.specs.Forms.{Text}
use Rattle.program.specs.Run.{IsErrorOutput}
use Rattle.program.specs.Told.{IsOutput}
use Rattle.calls.specs.Calls.{each_name}
use Rattle.calls.specs.Lent.{Lent, Reader, seen}
use Rattle.calls.specs.Words.{AreWordsOf}
use Rattle.calls.proofs.Marked.{Same, same_front, same_output}
use Rattle.calls.proofs.Ran.{back, over_its_own, ran, steady, written_to}
use Rattle.calls.proofs.entry.called.Goals as goal

pub returns : goal.returns
returns c =
    let to = seen c.new-output.result in
    let errors = seen c.new-errors.result in
    let told = seen c.run-status.new.out in
    let tells = seen c.run-status.new.err in
    let stops = c.run-status.new.stops.items in
    let status = c.run-status.result in
    let did = c.run-status.ensures in
    let words : List Text = map string_bytes c.deref.result.now in
    let content = each_name c.new-desk.result.text in
    let room = length c.args.out.now in
    let room' = length c.args.error.now in
    let to_is = over_its_own to _ room c.new-output.ensures.empty in
    let errors_is = over_its_own errors _ room' c.new-errors.ensures.empty in
    let are : AreWordsOf c.args.line.now words =
    subst (λ ws. AreWordsOf c.args.line.now (map string_bytes ws)) (sym c.deref.ensures.value) c.in_ok-words.ensures in
    let output = subst (λ (t : Lent). IsOutput words content (written_to t, written_to told) stops status) to_is
    did.output in
    let out_same : Same (to.name, room) (told.name, told.room) =
    same_output (to.name, room) (told.name, told.room) told.bytes stops status words content did.statuses did.verdict
    output in
    let says = subst (λ (t : Lent). IsErrorOutput words content (t.faults, tells.faults) (written_to t)
    (written_to tells) status) errors_is did.error in
    let error_same : Same (errors.name, room') (tells.name, tells.room) =
    same_front (errors.name, room') (tells.name, tells.room) tells.bytes _ says.front in
    ran c.args.line.now c.args.input.now c.new-desk.result.text _ _ words stops status _ to told errors tells
    (ap (λ (d : Reader). d.text) c.new-desk.ensures) are c.from.ensures to.name room errors.name room' to_is errors_is
    (back to.name room c.run-status.new.out c.count-written.result _ out_same c.count-written.ensures.count
    c.count-written.ensures.within
    (λ e. let lent = sym (ap (λ (t : Lent). t.name) c.new-output.ensures.empty) ∙ e in search rules))
    (back errors.name room' c.run-status.new.err c.count-said.result _ error_same c.count-said.ensures.count
    c.count-said.ensures.within
    (λ e. let lent = sym (ap (λ (t : Lent). t.name) c.new-errors.ensures.empty) ∙ e in search rules))
    did.statuses did.verdict (did.steady (steady words)) did.room did.complete did.output did.error
    (λ h. subst (λ n. tells.room ≤ n) c.count-said.ensures.count (c.count-said.ensures.full h)) error_same.1
