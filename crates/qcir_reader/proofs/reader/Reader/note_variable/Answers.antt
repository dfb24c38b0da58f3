use Rattle.std.proofs.Common.{◌≡◌, None, sym, ap, ◌∙◌, nat_abs, set, true, w64, subst}
use Rattle.std.proofs.Math.Facts.{to_z-of_z}
use Rattle.std.proofs.lemmas.Result.{err_from_is_err_and}
use Rattle.qdimacs.specs.Kept.{put_last, sets_of}
use Rattle.qcir_reader.specs.Rules.{first_of}
use Rattle.qcir_reader.specs.Kept.{variable_rules_kept}
use Rattle.qcir_reader.specs.Answers.{Is}
use Rattle.qcir_reader.proofs.Keeping.{variable_same, variable_kept}
use Rattle.qcir_reader.proofs.Taking.{variable_told}
use Rattle.qcir_reader.proofs.reader.Reader.note_variable.Goals as goal

pub returns-in_err-v-clause-notes : goal.returns-in_err-v-clause-notes
returns-in_err-v-clause-notes c = λ f k.
    let r = c.args.self.now in
    let z = to_z-of_z {w = w64} {z = c.args.n} c.ranges.n in
    let same =
    ap (λ m. first_of (variable_rules_kept r.sets.marks.items (sets_of r.sets.rows.items) r.quant m c.args.line)) z
    ∙ sym (ap first_of (variable_same r f c.args.n c.args.line k)) in
    let p = err_from_is_err_and c.from_residual.result c.from_residual.ensures.1 in
    rw (p.1, p.2) (subst (Is c.in_err-v.field-0.0) same c.in_err-v.ensures)

pub returns-clause-notes : goal.returns-clause-notes
returns-clause-notes c = λ f k.
    let r = c.args.self.now in
    let z = to_z-of_z {w = w64} {z = c.args.n} c.ranges.n in
    let kept : first_of (variable_rules_kept r.sets.marks.items (sets_of r.sets.rows.items) r.quant c.args.n
    c.args.line) ≡ None =
    ap (λ m. first_of (variable_rules_kept r.sets.marks.items (sets_of r.sets.rows.items) r.quant m c.args.line))
    (sym z) ∙ c.in_ok-v.ensures.0 in
    let told = variable_told r.sets.marks.items (sets_of r.sets.rows.items) r.quant c.args.n c.args.line kept in
    let v_is : c.in_ok-v.v ≡ nat_abs c.args.n = c.in_ok-v.ensures.1 ∙ ap nat_abs z in
    let e = c.in_ok-push.ensures in (
      ap first_of (variable_same r f c.args.n c.args.line k) ∙ kept,
      variable_kept r c.push.new.self f c.args.n k told.0 told.1
          (e.rows ∙ ap (λ v. put_last r.quant v (sets_of r.sets.rows.items)) v_is)
          (e.marks ∙ ap (λ v. set r.sets.marks.items v true) v_is),
    )
