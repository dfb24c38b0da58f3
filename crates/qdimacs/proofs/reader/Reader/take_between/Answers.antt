use Rattle.std.proofs.Common.{◌≡◌, [], sym, ap, subst, ◌∙◌, arith, length}
use Rattle.lexer.specs.declared.token.Word.TheVariants.{Text}
use Rattle.reading.specs.Words.{quant_of}
use Rattle.qdimacs.specs.Represents.{Stands, header_of, KeepsClauses}
use Rattle.qdimacs.specs.declared.reader.Stage.TheVariants.{Between}
use Rattle.qdimacs.proofs.ReaderSteps.{set_starts}
use Rattle.qdimacs.proofs.Keeping.{set_begun_kept}
use Rattle.qdimacs.proofs.reader.Reader.take_between.Goals as goal

pub returns-else-self-gt0 : goal.returns-else-self-gt0
returns-else-self-gt0 c = λ front stands.
    let r = c.args.self.now in
    let st : Stands Between r front = subst (λ s. Stands s r front) c.requires.stage stands in
    let k = st.3 in
    let none : length st.1 ≡ 0 = omega (arith, k.of_clauses.ended, c.if-self-gt0.false) in
    let step = set_starts front (header_of r) st.0 st.1 c.args.word.now c.in-Text.text c.in-Some.quant c.args.line st.2
    c.in-Text.is (ap (λ t. quant_of (Text t)) (sym c.as_slice.ensures) ∙ sym c.quant_of.ensures ∙ c.in-Some.is)
    none in (
      step.0,
      (
        st.0,
        [],
        step.1,
        record {
          vars_few = k.vars_few;
          count_few = k.count_few;
          of_sets = set_begun_kept r.vars r.sets st.0 c.in-Some.quant k.of_sets;
          of_clauses = subst (λ cs. KeepsClauses r.vars r.count r.clauses cs []) step.2 k.of_clauses;
        },
      ),
    )
