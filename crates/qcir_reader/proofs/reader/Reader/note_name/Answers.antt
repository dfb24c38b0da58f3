use Rattle.std.proofs.Common.{◌≡◌, None, sym, ap, ◌∙◌, nat_abs, w64, subst, refl}
use Rattle.std.proofs.Math.Facts.{to_z-of_z}
use Rattle.std.proofs.lemmas.Result.{err_from_is_err_and}
use Rattle.qdimacs.specs.Kept.{sets_of}
use Rattle.qcir_reader.specs.Rules.{first_of}
use Rattle.qcir_reader.specs.Kept.{name_rules_kept}
use Rattle.qcir_reader.specs.Answers.{Is}
use Rattle.qcir_reader.proofs.Keeping.{name_same, name_kept}
use Rattle.qcir_reader.proofs.Taking.{allowed_body}
use Rattle.qcir_reader.proofs.reader.Reader.note_name.Goals as goal

pub returns-in_err-v-clause-notes : goal.returns-in_err-v-clause-notes
returns-in_err-v-clause-notes c = λ f rep.
    let r = c.args.self.now in
    let z = to_z-of_z {w = w64} {z = c.args.n} c.ranges.n in
    let a = allowed_body r f c.requires.stage rep in
    let same =
    ap (λ m. first_of (name_rules_kept r.sets.marks.items (sets_of r.sets.rows.items) r.amount m c.args.line)) z
    ∙ sym (ap first_of (name_same r f c.args.n c.args.line rep.keeps a.stands.vars)) in
    let p = err_from_is_err_and c.from_residual.result c.from_residual.ensures.1 in
    rw (p.1, p.2) (subst (Is c.in_err-v.field-0.0) same c.in_err-v.ensures)

pub returns-clause-notes : goal.returns-clause-notes
returns-clause-notes c = λ f rep.
    let r = c.args.self.now in
    let z = to_z-of_z {w = w64} {z = c.args.n} c.ranges.n in
    let a = allowed_body r f c.requires.stage rep in
    let kept : first_of (name_rules_kept r.sets.marks.items (sets_of r.sets.rows.items) r.amount c.args.n c.args.line) ≡
    None = ap
    (λ m. first_of (name_rules_kept r.sets.marks.items (sets_of r.sets.rows.items) r.amount m c.args.line)) (sym z)
    ∙ c.in_ok-v.ensures.0 in (
      ap first_of (name_same r f c.args.n c.args.line rep.keeps a.stands.vars) ∙ kept,
      name_kept r (record r { name = c.in_ok-v.v; inputs = c.clear.new.self }) f c.args.n rep.keeps
          (c.in_ok-v.ensures.1 ∙ ap nat_abs z) c.clear.ensures.items refl,
    )
