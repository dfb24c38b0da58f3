use Rattle.std.proofs.Common.{◌≡◌, ℕ, List, filter, Contains, subst, ap₂, ◌∙◌}
use Rattle.prefix.specs.declared.quant.Quant.{Quant}
use Rattle.prefix.specs.Scopes.{all_variables, quantifier_of}
use Rattle.calculus.specs.Rows.{is_of}
use Rattle.calculus.proofs.Lists.{filter_at}
use Rattle.step_core.specs.Cores.{inferences_of, loser_of}
use Rattle.extract.proofs.Played.{play_constants, play_keeps, play_follows}
use Rattle.extract.proofs.circuit.extract.Goals as goal

pub outputs_of-requires : goal.outputs_of-requires
outputs_of-requires c x i =
    let scopes = c.args.prefix.now in
    let p = λ (v : ℕ). is_of (quantifier_of scopes v) c.args.core.now.winner in
    let listed : c.as_slice-2.result.now ≡ filter p (all_variables scopes) = c.as_slice-2.ensures.value
    ∙ c.in_ok-winners.ensures.value
    ∙ ap₂ (λ (q : Quant) (xs : List ℕ). filter (λ (v : ℕ). is_of (quantifier_of scopes v) q) xs)
    c.winner-winner.ensures (c.as_slice-vars.ensures.value ∙ c.in_ok-all.ensures.value) in
    c.in_ok-table.ensures.plays.covers x (filter_at p (all_variables scopes) x
    (subst (λ (xs : List ℕ). Contains xs x) listed i)).0

pub returns-clause-assumed : goal.returns-clause-assumed
returns-clause-assumed c =
    let scopes = c.args.prefix.now in
    let p = λ (v : ℕ). is_of (quantifier_of scopes v) c.args.core.now.winner in
    let listed : c.as_slice-2.result.now ≡ filter p (all_variables scopes) = c.as_slice-2.ensures.value
    ∙ c.in_ok-winners.ensures.value
    ∙ ap₂ (λ (q : Quant) (xs : List ℕ). filter (λ (v : ℕ). is_of (quantifier_of scopes v) q) xs)
    c.winner-winner.ensures (c.as_slice-vars.ensures.value ∙ c.in_ok-all.ensures.value) in
    rw c.from_vec-2.ensures
    (play_constants c.args.core.now.winner scopes c.args.assumptions.now
    (inferences_of c.args.core.now.lines) c.as_slice.result.now c.as_slice-2.result.now c.table_of.new.aig
    c.in_ok-table.table.items c.in_ok-outputs.outputs.items c.requires.outer c.in_ok-table.ensures.plays listed
    c.in_ok-outputs.ensures.edges)

pub returns-clause-keeps : goal.returns-clause-keeps
returns-clause-keeps c =
    let scopes = c.args.prefix.now in
    let p = λ (v : ℕ). is_of (quantifier_of scopes v) c.args.core.now.winner in
    let listed : c.as_slice-2.result.now ≡ filter p (all_variables scopes) = c.as_slice-2.ensures.value
    ∙ c.in_ok-winners.ensures.value
    ∙ ap₂ (λ (q : Quant) (xs : List ℕ). filter (λ (v : ℕ). is_of (quantifier_of scopes v) q) xs)
    c.winner-winner.ensures (c.as_slice-vars.ensures.value ∙ c.in_ok-all.ensures.value) in
    rw (c.from_vec.ensures, c.from_vec-2.ensures, ← c.as_slice.ensures.value)
    (play_keeps c.args.core.now.winner scopes c.args.assumptions.now
    (inferences_of c.args.core.now.lines) c.as_slice.result.now c.as_slice-2.result.now c.table_of.new.aig
    c.in_ok-table.table.items c.in_ok-outputs.outputs.items c.requires.outer c.in_ok-table.ensures.plays listed
    c.in_ok-outputs.ensures.edges)

pub returns-clause-follows : goal.returns-clause-follows
returns-clause-follows c =
    let scopes = c.args.prefix.now in
    let p = λ (v : ℕ). is_of (quantifier_of scopes v) c.args.core.now.winner in
    let listed : c.as_slice-2.result.now ≡ filter p (all_variables scopes) = c.as_slice-2.ensures.value
    ∙ c.in_ok-winners.ensures.value
    ∙ ap₂ (λ (q : Quant) (xs : List ℕ). filter (λ (v : ℕ). is_of (quantifier_of scopes v) q) xs)
    c.winner-winner.ensures (c.as_slice-vars.ensures.value ∙ c.in_ok-all.ensures.value) in
    rw (c.from_vec.ensures, c.from_vec-2.ensures, ← c.as_slice.ensures.value)
    (play_follows c.args.core.now.winner scopes c.args.assumptions.now
    (inferences_of c.args.core.now.lines) c.as_slice.result.now c.as_slice-2.result.now c.table_of.new.aig
    c.in_ok-table.table.items c.in_ok-outputs.outputs.items c.requires.outer c.in_ok-table.ensures.plays listed
    c.in_ok-outputs.ensures.edges)

pub returns-clause-wins : goal.returns-clause-wins
returns-clause-wins c clauses proof =
    (c.circuits_win.ensures (loser_of c.args.core.now) c.args.prefix.now clauses c.args.assumptions.now
    (inferences_of c.args.core.now.lines) _ c.requires.outer proof (returns-clause-keeps c)
    (returns-clause-follows c)).0

pub returns-clause-earlier : goal.returns-clause-earlier
returns-clause-earlier c =
    (c.circuits_win.ensures (loser_of c.args.core.now) c.args.prefix.now c.requires.proof.0 c.args.assumptions.now
    (inferences_of c.args.core.now.lines) _ c.requires.outer c.requires.proof.1 (returns-clause-keeps c)
    (returns-clause-follows c)).1

pub returns-clause-strategy : goal.returns-clause-strategy
returns-clause-strategy c = record {
  inputs = rw (c.from_vec.ensures, ← c.as_slice.ensures.value) c.in_ok-table.ensures.plays.count;
  outputs = rw c.from_vec-2.ensures (λ k d below. c.in_ok-table.ensures.plays.stands _ _
      (c.in_ok-outputs.ensures.each k d below));
}
