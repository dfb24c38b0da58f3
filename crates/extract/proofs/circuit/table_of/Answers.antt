use Rattle.std.proofs.Common.{◌≡◌, ◌≤◌, ℕ, map, ⊎_elim, ap, ◌∙◌}
use Rattle.prefix.specs.declared.quant.Quant.{Quant}
use Rattle.step_core.specs.Cores.{core_rows, inferences_of, loser_of}
use Rattle.extract.specs.Removals.{removals, weights_of}
use Rattle.prefix.specs.Scopes.{all_variables}
use Rattle.calculus.specs.Limits.{gate_weight}
use Rattle.extract.specs.Tables.{removed_of, removals_at}
use Rattle.extract.proofs.Weights.{weights_same, weights_fit, bounded_by}
use Rattle.extract.proofs.Played.{proof_is_ready, play_table}
use Rattle.extract.proofs.circuit.table_of.Goals as goal

pub put_ruled-requires-clause-stand : goal.put_ruled-requires-clause-stand
put_ruled-requires-clause-stand c x e is =
    ⊎_elim (λ f. (c.in_ok-table.ensures.edges x e f).stands) (λ a. a.1.stands c.args.aig.now)
    (c.in_ok-put_assumed.ensures.edges x e is)

pub put_ruled-requires-clause-ready : goal.put_ruled-requires-clause-ready
put_ruled-requires-clause-ready c =
    rw c.requires.vars (proof_is_ready (loser_of c.args.core.now) c.args.prefix.now c.requires.proof.0
    c.args.assumptions.now (inferences_of c.args.core.now.lines)
    (core_rows c.args.core.now.lines) c.in_ok-index.index.items c.put_assumed.new.table.items
    c.scopes.ensures.valid.distinct c.requires.outer c.requires.proof.1
    (λ x. c.in_ok-index.ensures.value x
    ∙ ap (λ (q : Quant). removals q x (inferences_of c.args.core.now.lines)) c.loser-loser.ensures)
    c.in_ok-put_assumed.ensures.covers)

pub returns-clause-plays : goal.returns-clause-plays
returns-clause-plays c =
    let edges = rw (c.loser-loser.ensures, c.requires.vars) at c.in_ok-put_ruled.ensures.edges in
    let covers = rw c.requires.vars at c.in_ok-put_ruled.ensures.covers in
    play_table (loser_of c.args.core.now) c.args.prefix.now c.args.assumptions.now
    (inferences_of c.args.core.now.lines) (core_rows c.args.core.now.lines) c.in_ok-index.index.items
    c.args.inputs.now c.args.aig.now c.put_ruled.new.aig c.in_ok-table.table.items c.put_assumed.new.table.items
    c.put_ruled.new.table.items
    c.requires.outer
    (λ x. c.in_ok-index.ensures.value x
    ∙ ap (λ (q : Quant). removals q x (inferences_of c.args.core.now.lines)) c.loser-loser.ensures)
    c.requires.inputs c.in_ok-table.ensures.edges c.in_ok-table.ensures.covers c.in_ok-put_assumed.ensures.edges
    c.in_ok-put_assumed.ensures.keeps c.in_ok-put_assumed.ensures.covers
    edges c.in_ok-put_ruled.ensures.keeps covers c.in_ok-put_ruled.ensures.grows c.in_ok-put_ruled.ensures.stand
    c.requires.count

pub returns-clause-size : goal.returns-clause-size
returns-clause-size c =
    let size = rw c.requires.vars at c.in_ok-put_ruled.ensures.size in
    let steps = inferences_of c.args.core.now.lines in
    let same : weights_of (λ (x : ℕ). map (removed_of (core_rows c.args.core.now.lines))
    (removals_at c.in_ok-index.index.items x)) (all_variables c.args.prefix.now) ≡ weights_of
    (λ (x : ℕ). removals (loser_of c.args.core.now) x steps) (all_variables c.args.prefix.now) =
    weights_same _ _ (all_variables c.args.prefix.now)
    (λ x. c.in_ok-index.ensures.value x
    ∙ ap (λ (q : Quant). removals q x (inferences_of c.args.core.now.lines)) c.loser-loser.ensures) in
    let bound : weights_of (λ (x : ℕ). removals (loser_of c.args.core.now) x steps)
    (all_variables c.args.prefix.now) ≤ gate_weight steps =
    weights_fit (loser_of c.args.core.now) c.args.prefix.now c.requires.proof.0 c.args.assumptions.now steps
    c.scopes.ensures.valid.distinct c.requires.proof.1 in
    bounded_by _ _ _ _ (rw same at size) bound
