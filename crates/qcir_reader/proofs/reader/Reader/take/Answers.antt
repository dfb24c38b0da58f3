use Rattle.std.proofs.Common.{◌≡◌, None, sym, ◌∙◌, subst}
use Rattle.std.proofs.lemmas.Result.{err_from_is_err_and}
use Rattle.qcir_reader.specs.Rules.{first_of, word_rules}
use Rattle.qcir_reader.specs.Run.{moved, noted}
use Rattle.qcir_reader.specs.Represents.{Represents}
use Rattle.qcir_reader.proofs.Taking.{unsupported_word, stray_word, taken_word, refused_word}
use Rattle.qcir_reader.proofs.reader.Reader.take.Goals as goal

pub returns-then-is_unsupported : goal.returns-then-is_unsupported
returns-then-is_unsupported c = λ f rep.
    rw (c.refused.ensures, ← c.sign_of-sign.ensures)
    (unsupported_word c.args.self.now.stage f c.sign_of-sign.result c.args.token.line
    (sym c.if-is_unsupported.ensures))

pub returns-in_default : goal.returns-in_default
returns-in_default c = λ f rep.
    rw (c.refused-in_default.ensures, ← c.sign_of-sign.ensures)
    (stray_word c.args.self.now.stage f c.sign_of-sign.result c.args.token.line (sym c.if-is_unsupported.ensures)
    (sym c.after.ensures ∙ c.in_default.is))

pub returns-in_err-note : goal.returns-in_err-note
returns-in_err-note c = λ f rep.
    let p = err_from_is_err_and c.from_residual.result c.from_residual.ensures.1 in
    rw (p.1, p.2, ← c.sign_of-sign.ensures)
    (refused_word c.args.self.now c.in-Some.next f c.sign_of-sign.result c.args.token.line c.in_err-note.field-0.0
    (sym c.if-is_unsupported.ensures) (sym c.after.ensures ∙ c.in-Some.is) (c.in_err-note.ensures.notes f rep))

pub returns : goal.returns
returns c = λ f rep.
    let r = c.args.self.now in
    let line = c.args.token.line in
    let done = taken_word r c.note.new.self c.in-Some.next f c.sign_of-sign.result line
    (sym c.if-is_unsupported.ensures) (sym c.after.ensures ∙ c.in-Some.is) rep (c.in_ok-note.ensures.notes f rep) in
    subst (λ s. (first_of (word_rules r.stage f s line) ≡ None)
    × ((c.in-Some.next ≡ moved r.stage s) × Represents (record c.note.new.self { stage = c.in-Some.next })
    (noted r.stage f s line))) c.sign_of-sign.ensures done
