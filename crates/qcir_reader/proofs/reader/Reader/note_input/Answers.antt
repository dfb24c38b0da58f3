use Rattle.std.proofs.Common.{◌≡◌, None, sym, ap, ◌∙◌, ◌++◌, ◌∷◌, [], length, w64, subst, refl}
use Rattle.std.proofs.Math.Facts.{to_z-of_z}
use Rattle.std.proofs.lemmas.Result.{err_from_is_err_and}
use Rattle.qcir_reader.specs.Rules.{first_of, literal_of}
use Rattle.qcir_reader.specs.Kept.{input_rules_kept}
use Rattle.qcir_reader.specs.Answers.{Is}
use Rattle.qcir_reader.proofs.Keeping.{input_same, input_kept}
use Rattle.qcir_reader.proofs.reader.Reader.note_input.Goals as goal

pub returns-in_err-lit-clause-notes : goal.returns-in_err-lit-clause-notes
returns-in_err-lit-clause-notes c = λ f k.
    let r = c.args.self.now in
    let z = to_z-of_z {w = w64} {z = c.args.n} c.ranges.n in
    let same = ap (λ m. first_of (input_rules_kept r.sets.marks.items r.amount (length r.inputs.items) m c.args.line)) z
    ∙ sym (ap first_of (input_same r f c.args.n c.args.line k)) in
    let p = err_from_is_err_and c.from_residual.result c.from_residual.ensures.1 in
    rw (p.1, p.2) (subst (Is c.in_err-lit.field-0.0) same c.in_err-lit.ensures)

pub returns-clause-notes : goal.returns-clause-notes
returns-clause-notes c = λ f k.
    let r = c.args.self.now in
    let z = to_z-of_z {w = w64} {z = c.args.n} c.ranges.n in
    let kept : first_of (input_rules_kept r.sets.marks.items r.amount (length r.inputs.items) c.args.n c.args.line) ≡
    None = ap (λ m. first_of (input_rules_kept r.sets.marks.items r.amount (length r.inputs.items) m c.args.line))
    (sym z) ∙ c.in_ok-lit.ensures.0 in (
      ap first_of (input_same r f c.args.n c.args.line k) ∙ kept,
      input_kept r (record r { inputs = c.push.new.self }) f c.args.n k
          (c.in_ok-push.ensures.items ∙ ap (λ l. r.inputs.items ++ l ∷ []) (c.in_ok-lit.ensures.1 ∙ ap literal_of z))
          refl,
    )
