use Rattle.std.proofs.Common.{◌≡◌, ◌≢◌, ◌∙◌, ap, ap₂, sym, length, Option, Some, None, is_some, true, refl, unwrap_or, []}
use Rattle.std.specs.Prelude.{IfOk}
use Rattle.std.proofs.lemmas.Result.{IfOk-weaker}
use Rattle.rows.specs.Arena.{Arena, literals_at}
use Rattle.calculus.specs.Rows.{Row}
use Rattle.derive.specs.State.{Note, may_be_antecedent, note_at, row_of}
use Rattle.derive.specs.Adding.{Removes, note_over}
use Rattle.derive.specs.Told.{why_of}
use Rattle.derive.proofs.Additions.{live_below, over_supported, removes_more}
use Rattle.derive.proofs.Growth.{gains_if_removed}
use Rattle.derive.proofs.derivation.Derivation.add_removal.Goals as goal

pub add-requires-clause-support : goal.add-requires-clause-support
add-requires-clause-support c =
    over_supported c.args.self.now c.args.on (why_of c.args.step) c.new-note.result c.requires.over c.requires.on
    (live_below c.args.self.now.notes c.args.on (step_live (note_at c.args.self.now c.args.on) c.requires.on))
    (c.new-note.ensures ∙ ap₂ (λ side tag. record { side = side; why = why_of c.args.step; tag = tag }) c.side.ensures
    c.tag.ensures.value)
  where
    step_live : (o : Option Note) → may_be_antecedent o ≡ true → is_some o ≡ true
    step_live None h = h
    step_live (Some n) h = refl

removed : (c : goal.After-add) → IfOk c.add.result
    (λ id. Removes c.args.self.now c.add.new.self id c.args.on (why_of c.args.step) c.args.row.now)
removed c =
    let note : c.new-note.result ≡ note_over c.args.self.now c.args.on (why_of c.args.step) =
    c.new-note.ensures ∙ ap₂ (λ side tag. record { side = side; why = why_of c.args.step; tag = tag }) c.side.ensures
    c.tag.ensures.value in
    let lits : c.lits.result.now ≡ row_of c.args.self.now c.args.on = c.lits.ensures
    ∙ ap (λ (rows : Option Arena). literals_at (unwrap_or rows []) c.args.on) (sym c.rows.ensures.value) in
    let differs : c.args.row.now ≢ row_of c.args.self.now c.args.on = λ e. c.if-row-lits.false
    (ap (λ (r : Row). length r) (e ∙ sym lits)) in
    IfOk-weaker c.add.result _ _ (λ id adds. removes_more _ _ id c.args.on _ _ differs (rw note at adds))
    c.add.ensures.ok

pub returns-clause-ok : goal.returns-clause-ok
returns-clause-ok c = removed c

pub returns-clause-gains : goal.returns-clause-gains
returns-clause-gains c = gains_if_removed c.args.self.now c.add.new.self c.args.on (why_of c.args.step) c.args.row.now
    c.add.result c.requires.over (removed c) c.add.ensures.unlinked
