use Rattle.std.proofs.Common.{◌∙◌, sym, rules}
use Rattle.std.proofs.lemmas.Bool.{eqb-true, eq-eqb, true≢false}
use Rattle.engine.proofs.Looking.{found, none_past, not_found}
use Rattle.engine.proofs.lookup.literal_over.Goals as goal

pub returns-then-place-row : goal.returns-then-place-row
returns-then-place-row c = sym (none_past c.args.row.now c.args.v c.place_of-place.result c.requires
    c.place_of-place.ensures.place c.if-place-row.true)

pub returns-then-eq : goal.returns-then-eq
returns-then-eq c =
    sym (found c.args.row.now c.args.v c.place_of-place.result c.requires c.place_of-place.ensures.place
    c.index-row-place.result (search rules) c.index-row-place.is
    (sym c.var.ensures ∙ eqb-true c.var.result c.args.v (sym c.if-eq.ensures)))

pub returns-else-eq : goal.returns-else-eq
returns-else-eq c =
    sym (not_found c.args.row.now c.args.v c.place_of-place.result c.requires c.place_of-place.ensures.place
    c.index-row-place.result (search rules) c.index-row-place.is
    (λ e. true≢false (sym (eq-eqb c.var.result c.args.v (c.var.ensures ∙ e)) ∙ sym c.if-eq.ensures)))
