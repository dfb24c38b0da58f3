use Rattle.std.proofs.Common.{◌≡◌, None, sym, ap, ◌∙◌, ◌++◌, ◌∷◌, [], set, true, nat_abs, w64, refl, subst}
use Rattle.std.proofs.Math.Facts.{to_z-of_z}
use Rattle.std.proofs.lemmas.Result.{err_from_is_err_and}
use Rattle.qdimacs.specs.Rules.{first_of, variable_rules, in_set}
use Rattle.qdimacs.specs.Step.{Is}
use Rattle.qdimacs.specs.Represents.{header_of, Stands}
use Rattle.qdimacs.specs.Kept.{variable_rules_kept, put_last, sets_of}
use Rattle.qdimacs.proofs.ReaderSteps.{variable_low, scopes_low}
use Rattle.qdimacs.proofs.Keeping.{set_more, rules_kept}
use Rattle.qdimacs.proofs.reader.Reader.take_variable.Goals as goal

pub returns-in_err-check : goal.returns-in_err-check
returns-in_err-check c = λ sets vs k.
    let r = c.args.self.now in
    let q = c.args.quant in
    let z : _ ≡ c.args.n = to_z-of_z {w = w64} {z = c.args.n} c.ranges.n in
    let same =
    ap (λ m. first_of (variable_rules_kept r.vars r.sets.marks.items (sets_of r.sets.rows.items) q m c.args.line)) z
    ∙ sym (ap first_of (rules_kept (header_of r) r.sets sets q vs c.args.n c.args.line k.of_sets)) in
    let p = err_from_is_err_and c.from_residual.result c.from_residual.ensures.1 in
    rw (p.1, p.2) (subst (Is c.in_err-check.field-0.0) same c.in_err-check.ensures)

pub returns : goal.returns
returns c = λ sets vs k.
    let r = c.args.self.now in
    let q = c.args.quant in
    let z = to_z-of_z {w = w64} {z = c.args.n} c.ranges.n in
    let kept : first_of (variable_rules_kept r.vars r.sets.marks.items (sets_of r.sets.rows.items) q c.args.n
    c.args.line) ≡ None =
    ap (λ m. first_of (variable_rules_kept r.vars r.sets.marks.items (sets_of r.sets.rows.items) q m c.args.line))
    (sym z) ∙ c.in_ok-check.ensures in
    let none : first_of (variable_rules (header_of r) sets q vs c.args.n c.args.line) ≡ None =
    ap first_of (rules_kept (header_of r) r.sets sets q vs c.args.n c.args.line k.of_sets) ∙ kept in
    let low = variable_low r.vars r.sets.marks.items (sets_of r.sets.rows.items) q c.args.n c.args.line kept in
    let few = scopes_low q (nat_abs c.args.n) (sets_of r.sets.rows.items) (rw k.of_sets.scopes k.of_sets.few) low.3 in
    let e = c.in_ok-push.ensures in
    let v_is : c.unsigned_abs-v.result ≡ nat_abs c.args.n = c.unsigned_abs-v.ensures.value ∙ ap nat_abs z in (
      none,
      subst (λ s. Stands s (record r { sets = c.push.new.self })
          (in_set (header_of r) sets q (vs ++ nat_abs c.args.n ∷ []))) (sym c.requires.stage) (
            sets,
            vs ++ nat_abs c.args.n ∷ [],
            refl,
            record {
              vars_few = k.vars_few;
              count_few = k.count_few;
              of_sets = set_more r.vars r.sets c.push.new.self sets q vs (nat_abs c.args.n) c.requires.some
                  low.1 low.2 few
                  (e.rows ∙ ap (λ v. put_last q v (sets_of r.sets.rows.items)) v_is)
                  (e.marks ∙ ap (λ v. set r.sets.marks.items v true) v_is) k.of_sets;
              of_clauses = k.of_clauses;
            },
          ),
    )
