use Rattle.std.proofs.Common.{◌≡◌, ◌++◌, [], nat_abs, ap, subst, ◌∙◌, arith, length, length-append, map}
use Rattle.std.proofs.lemmas.List.{length-map}
use Rattle.qdimacs.specs.Represents.{Stands, header_of}
use Rattle.qdimacs.specs.Kept.{sets_of, put_front}
use Rattle.qdimacs.specs.Formula.{in_order, scopes_of, matrix_of, literals_of}
use Rattle.qdimacs.specs.declared.sets.Row.{Row}
use Rattle.qdimacs.specs.declared.reader.Stage.TheVariants.{Between}
use Rattle.qdimacs.proofs.Formed.{formed_of}
use Rattle.qdimacs.proofs.Finishing.{whole_fits, found_by, scopes_are, scopes_length, too_many, formula_read}
use Rattle.qdimacs.proofs.reader.Reader.finish.Goals as goal

pub returns-then-len-gt-MAX_SCOPES-clause-closing : goal.returns-then-len-gt-MAX_SCOPES-clause-closing
returns-then-len-gt-MAX_SCOPES-clause-closing c = λ front stands.
    let r = c.args.self.now in
    let st : Stands Between r front = subst (λ s. Stands s r front) c.requires.stage stands in
    let k = st.3 in
    let new = c.put_in_front.new.self.rows in
    let whole = scopes_are st.0 st.1 c.in_ok-free.free.items r.clauses.marks.items r.sets.marks.items
    c.deref.result.now c.deref-2.result.now (sets_of r.sets.rows.items) (sets_of new.items) k.of_clauses.marks
    k.of_sets.marks c.in_ok-free.ensures.those c.deref.ensures.value c.deref-2.ensures.value
    c.in_ok-put_in_front.ensures k.of_sets.scopes in
    let rows_len : length (sets_of new.items) ≡ length new.items = length-map new.items
    (λ (x : Row). (x.quant, x.vars.items)) in
    let amount : c.len.result ≡ length (scopes_of st.0 st.1) =
    omega (arith, c.len.ensures, new.ok.0, scopes_length (sets_of new.items) (scopes_of st.0 st.1) whole, rows_len)
    in
    rw c.beyond.ensures (too_many front (header_of r) st.0 st.1 c.args.line c.len.result st.2
    (omega (arith, k.of_clauses.ended, c.if-self.false)) amount c.if-len-gt-MAX_SCOPES.true)

pub returns-clause-closing : goal.returns-clause-closing
returns-clause-closing c = λ front stands.
    let r = c.args.self.now in
    let st : Stands Between r front = subst (λ s. Stands s r front) c.requires.stage stands in
    let k = st.3 in
    let new = c.put_in_front.new.self.rows in
    let whole = scopes_are st.0 st.1 c.in_ok-free.free.items r.clauses.marks.items r.sets.marks.items
    c.deref.result.now c.deref-2.result.now (sets_of r.sets.rows.items) (sets_of new.items) k.of_clauses.marks
    k.of_sets.marks c.in_ok-free.ensures.those c.deref.ensures.value c.deref-2.ensures.value
    c.in_ok-put_in_front.ensures k.of_sets.scopes in
    let rows_len : length (sets_of new.items) ≡ length new.items = length-map new.items
    (λ (x : Row). (x.quant, x.vars.items)) in
    let amount : c.len.result ≡ length (scopes_of st.0 st.1) =
    omega (arith, c.len.ensures, new.ok.0, scopes_length (sets_of new.items) (scopes_of st.0 st.1) whole, rows_len)
    in
    let prefix_is : c.in-Ok.prefix ≡ map in_order (scopes_of st.0 st.1) = c.in-Ok.ensures.scopes ∙ whole in
    let rows_are : c.from_vec.result ≡ matrix_of st.1 = c.from_vec.ensures
    ∙ ap (λ v. v.items) c.replace-rows.ensures.value ∙ k.of_clauses.rows in
    formula_read front (header_of r) st.0 st.1 c.args.line c.len.result _ st.2
    (omega (arith, k.of_clauses.ended, c.if-self.false)) amount c.if-len-gt-MAX_SCOPES.false
    (ap (λ p. record { prefix = p; clauses = c.from_vec.result; declared_vars = r.vars; declared_clauses = r.count })
    prefix_is
    ∙ ap (λ m. record {
      prefix = map in_order (scopes_of st.0 st.1);
      clauses = m;
      declared_vars = r.vars;
      declared_clauses = r.count;
    }) rows_are)

pub returns-clause-formed : goal.returns-clause-formed
returns-clause-formed c =
    let r = c.args.self.now in
    let st : Stands Between r c.requires.stood.front = subst (λ s. Stands s r c.requires.stood.front) c.requires.stage
    c.requires.stood.represents in
    let k = st.3 in
    let new = c.put_in_front.new.self.rows in
    let whole = scopes_are st.0 st.1 c.in_ok-free.free.items r.clauses.marks.items r.sets.marks.items
    c.deref.result.now c.deref-2.result.now (sets_of r.sets.rows.items) (sets_of new.items) k.of_clauses.marks
    k.of_sets.marks c.in_ok-free.ensures.those c.deref.ensures.value c.deref-2.ensures.value
    c.in_ok-put_in_front.ensures k.of_sets.scopes in
    let prefix_is : c.in-Ok.prefix ≡ map in_order (scopes_of st.0 st.1) = c.in-Ok.ensures.scopes ∙ whole in
    let rows_are : c.from_vec.result ≡ matrix_of st.1 = c.from_vec.ensures
    ∙ ap (λ v. v.items) c.replace-rows.ensures.value ∙ k.of_clauses.rows in
    formed_of r.vars r.count st.0 st.1 _
    (ap (λ p. record { prefix = p; clauses = c.from_vec.result; declared_vars = r.vars; declared_clauses = r.count })
    prefix_is
    ∙ ap (λ m. record {
      prefix = map in_order (scopes_of st.0 st.1);
      clauses = m;
      declared_vars = r.vars;
      declared_clauses = r.count;
    }) rows_are) (omega (arith, k.of_clauses.fewer, k.count_few))
    (omega (arith, k.of_clauses.amount, k.of_clauses.enough, length-append (literals_of st.1) []))

pub prefix-requires : goal.prefix-requires
prefix-requires c =
    let r = c.args.self.now in
    let st : Stands Between r c.requires.stood.front = subst (λ s. Stands s r c.requires.stood.front) c.requires.stage
    c.requires.stood.represents in
    let k = st.3 in
    let free_items = c.in_ok-free.free.items in
    let new = c.put_in_front.new.self.rows in
    let found = found_by r.clauses.marks.items r.sets.marks.items c.deref.result.now c.deref-2.result.now free_items
    c.in_ok-free.ensures.those c.deref.ensures.value c.deref-2.ensures.value in
    let rows_len : length (sets_of new.items) ≡ length new.items = length-map new.items
    (λ (x : Row). (x.quant, x.vars.items)) in
    whole_fits free_items st.0 r.clauses.marks.items r.sets.marks.items (map nat_abs (literals_of st.1 ++ []))
    (sets_of new.items) r.vars k.vars_few k.of_clauses.marked k.of_sets.marked k.of_clauses.marks
    k.of_clauses.positive k.of_sets.marks k.of_sets.distinct k.of_sets.positive c.in_ok-free.ensures.distinct found
    (c.in_ok-put_in_front.ensures ∙ ap (put_front free_items) k.of_sets.scopes)
    (omega (arith, rows_len, c.len.ensures, new.ok.0, c.if-len-gt-MAX_SCOPES.false))
