use Rattle.std.proofs.Common.{sym, ap, subst, ◌∙◌}
use Rattle.reading.specs.Words.{is_text}
use Rattle.qdimacs.specs.Represents.{Stands}
use Rattle.qdimacs.specs.declared.reader.Stage.TheVariants.{Problem}
use Rattle.qdimacs.proofs.ReaderSteps.{format_taken}
use Rattle.qdimacs.proofs.reader.Reader.take_format.Goals as goal

pub returns : goal.returns
returns c = λ front stands.
    let st : Stands Problem c.args.self.now front = subst (λ s. Stands s c.args.self.now front) c.requires stands in
    let step = format_taken front c.args.self.now.line c.args.line c.args.word.now st.0 c.if-line-self.false
    (ap (λ t. is_text t c.args.word.now) (sym c.as_slice.ensures) ∙ sym c.is_text.ensures ∙ c.if-not-is_text.false)
    in
    (step.0, (c.args.word.now, step.1, st.1))
