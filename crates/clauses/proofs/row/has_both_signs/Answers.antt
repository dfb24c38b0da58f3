use Rattle.std.proofs.Common.{sym, ap, ◌∙◌, arith, get_or, ◌/◌, ◌-◌}
use Rattle.std.specs.Prelude.{◌||◌, ◌==◌}
use Rattle.std.proofs.lemmas.Bool.{eq-eqb, ne_eqb}
use Rattle.clauses.proofs.Codes.{pair_before, pair_found}
use Rattle.clauses.proofs.row.has_both_signs.Goals as goal

pub returns-then-codes-i : goal.returns-then-codes-i
returns-then-codes-i c = sym (pair_found c.args.codes.now c.loop-i.i 0 (omega arith) (omega arith)
    (eq-eqb _ _ c.if-codes-i.true))

pub loop-i-preserved : goal.loop-i-preserved
loop-i-preserved c =
    let xs = c.args.codes.now in
    let i = c.loop-i.i in
    pair_before xs i 0 (omega arith) (omega arith) ∙ ap (λ b. b || (get_or xs (i - 1) 0 / 2 == get_or xs i 0 / 2))
    c.loop-i.invariant ∙ ne_eqb (get_or xs (i - 1) 0 / 2) (get_or xs i 0 / 2) c.if-codes-i.false
