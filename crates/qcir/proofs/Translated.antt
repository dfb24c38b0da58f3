-- The formula of a circuit is true exactly where the circuit is.
use Rattle.std.proofs.Common.{◌≡◌, ℕ, Bool, true, false, ◌&&◌, ◌||◌, cond, List, [], ◌∷◌, inl, ⊎_elim, refl, sym, ap, ◌∙◌}
use Rattle.std.proofs.lemmas.Bool.{cases_Bool, cond-true, cond-false, and_parts, and_from, or_cases, or_left, or_right, or_parts, or_from}
use Rattle.std.proofs.lemmas.List.Folds.{list_all-append}
use Rattle.prefix.specs.Literal.{Literal}
use Rattle.prefix.specs.Scopes.{BoundVariable, variables_of, prefix_order, all_variables, is_among}
use Rattle.truth.specs.Matrix.{Values, no_values, is_true_of, literal_true, clause_true, matrix_true}
use Rattle.truth.specs.Truth.{truth}
use Rattle.qcir.specs.declared.circuit.Circuit.{Circuit}
use Rattle.qcir.specs.Truth.{with_gates, output_true, circuit_truth, gate_names}
use Rattle.qcir.specs.Translation.{circuit_clauses, scopes_with, rows_of, translated, known_after, IsCircuit, Translates}
use Rattle.qcir.proofs.Over.{over, truth_over, circuit_over, over_append, over_same, AllThere, Extends, block_gives, block_from}
use Rattle.qcir.proofs.TrueRows.{rows_true}
use Rattle.qcir.proofs.Defined.{definitions, AreThere, gates_forced, gates_made, gates_off, gates_new}
use Rattle.qcir.proofs.Known.{all_known, all_positive, known_cases}
use Rattle.qcir.proofs.Places.{IsSplit, split, split_among}
use Rattle.std.proofs.Math.Bool.{or-false}
use Rattle.builder.proofs.Lists.{same_bools}

module _ (c : Circuit) (is : IsCircuit c) where
  abbrev all : List ℕ
  all = all_variables c.prefix

  abbrev names : List ℕ
  names = gate_names c.gates

  abbrev clauses : List (List Literal)
  clauses = circuit_clauses c.gates c.output

  abbrev known : List ℕ
  known = known_after all c.gates

  abbrev matrix : Values → Bool
  matrix σ = matrix_true σ (rows_of clauses)

  -- a matrix is true where its definitions and its output are
  matrix_is : (τ : Values) → AreThere known τ
      → matrix τ ≡ (matrix_true τ (definitions c.gates) && ((literal_true τ c.output || false) && true))
  matrix_is τ there =
      rows_true τ clauses (all_positive c is) (λ d i l j. there l.variable (all_known c is d i l j))
      ∙ list_all-append (clause_true τ) (definitions c.gates) ((c.output ∷ []) ∷ [])

  module _ (s : IsSplit c.prefix names) where
    -- the block of the formula is true where that of the circuit is
    block_is : (τ : Values) → AllThere s.first [] τ
        → over s.wide matrix τ ≡ over s.last (output_true c.gates c.output) τ
    block_is τ first_there =
        same_bools (over s.wide matrix τ) (over s.last (output_true c.gates c.output) τ) forth back
      where
        -- values of all variables of the prefix
        old_there : (σ : Values) (xs : List BoundVariable) → Extends xs τ σ → AreThere (variables_of s.last) σ
            → AreThere all σ
        old_there σ xs extends last_there v i =
            ⊎_elim
            (λ t.
            ⊎_elim
            (λ u. extends.on v u)
            (λ u. let r = first_there v (inl t) in (r.0, extends.off v u ∙ r.1))
            (cases_Bool (is_among v (variables_of xs))))
            (λ t. last_there v t)
            (or_cases (is_among v (variables_of s.first)) (is_among v (variables_of s.last))
            (sym (split_among c.prefix s.first s.last v s.old) ∙ i))

        last_all : (v : ℕ) → is_among v (variables_of s.last) ≡ true → is_among v all ≡ true
        last_all v t =
            split_among c.prefix s.first s.last v s.old
            ∙ or_right (is_among v (variables_of s.first)) (is_among v (variables_of s.last)) t

        forth : over s.wide matrix τ ≡ true → over s.last (output_true c.gates c.output) τ ≡ true
        forth t =
            let r = block_gives s.wide matrix τ s.wide_exists t in
            let σ = r.0 in
            let extends = r.1 in
            let last_there : AreThere (variables_of s.last) σ = λ v u.
            extends.on v (s.same v ∙ or_left (is_among v (variables_of s.last)) (is_among v names) u) in
            let names_there : AreThere names σ = λ v u.
            extends.on v (s.same v ∙ or_right (is_among v (variables_of s.last)) (is_among v names) u) in
            let all_there : AreThere all σ = old_there σ s.wide extends last_there in
            let known_there : AreThere known σ = λ v u.
            ⊎_elim (λ k. all_there v k) (λ k. names_there v k)
            (or_cases (is_among v all) (is_among v names) (sym (known_cases c is v) ∙ u)) in
            let parts =
            and_parts (matrix_true σ (definitions c.gates)) ((literal_true σ c.output || false) && true)
            (sym (matrix_is σ known_there) ∙ r.2) in
            let output : literal_true σ c.output ≡ true =
            sym (or-false (literal_true σ c.output)) ∙ (and_parts (literal_true σ c.output || false) true parts.1).0 in
            let ρ : Values = λ v. cond (is_among v names) (τ v) (σ v) in
            let agree : (v : ℕ) → is_among v all ≡ true → ρ v ≡ σ v = λ v u.
            cond-false (is_among v names) (τ v) (σ v) (gates_new c.gates all is.gates v u) in
            let forced =
            gates_forced c.gates all ρ σ is.gates all_there names_there agree parts.0 c.output.variable is.output in
            block_from s.last (output_true c.gates c.output) τ ρ s.last_exists
            (record {
              off = λ v u.
                  ⊎_elim (λ k. cond-true (is_among v names) (τ v) (σ v) k)
                  (λ k.
                  cond-false (is_among v names) (τ v) (σ v) k
                  ∙ extends.off v (s.same v ∙ or_from (is_among v (variables_of s.last)) (is_among v names) u k))
                  (cases_Bool (is_among v names));
              on = λ v u. let p = last_there v u in (p.0, agree v (last_all v u) ∙ p.1);
            })
            (ap (λ o. is_true_of o c.output.positive) forced ∙ output)

        back : over s.last (output_true c.gates c.output) τ ≡ true → over s.wide matrix τ ≡ true
        back t =
            let r = block_gives s.last (output_true c.gates c.output) τ s.last_exists t in
            let ρ = r.0 in
            let extends = r.1 in
            let all_there : AreThere all ρ = old_there ρ s.last extends (λ v u. extends.on v u) in
            let σ = with_gates c.gates ρ in
            let made = gates_made c.gates all ρ is.gates all_there in
            block_from s.wide matrix τ σ s.wide_exists
            (record {
              off = λ v u.
                  let parts = or_parts (is_among v (variables_of s.last)) (is_among v names) (sym (s.same v) ∙ u) in
                  gates_off c.gates ρ v parts.1 ∙ extends.off v parts.0;
              on = λ v u. made.there v (known_cases c is v ∙ ⊎_elim
                  (λ k. or_left (is_among v all) (is_among v names) (last_all v k))
                  (λ k. or_right (is_among v all) (is_among v names) k)
                  (or_cases (is_among v (variables_of s.last)) (is_among v names) (sym (s.same v) ∙ u)));
            })
            (matrix_is σ made.there
            ∙ and_from (matrix_true σ (definitions c.gates)) ((literal_true σ c.output || false) && true) made.holds
            (and_from (literal_true σ c.output || false) true (or-false (literal_true σ c.output) ∙ r.2) refl))

    translation_is : truth (translated c).prefix (translated c).clauses ≡ circuit_truth c
    translation_is =
        truth_over (prefix_order (scopes_with c.prefix names)) (rows_of clauses) no_values
        ∙ ap (λ xs. over xs matrix no_values) s.new
        ∙ over_append s.first s.wide matrix no_values
        ∙ over_same s.first [] (over s.wide matrix) (over s.last (output_true c.gates c.output)) block_is no_values
        (λ v e. absurd (let g : false ≡ true = e in cc))
        ∙ sym (circuit_over (prefix_order c.prefix) c.gates c.output no_values
        ∙ ap (λ xs. over xs (output_true c.gates c.output) no_values) s.old
        ∙ over_append s.first s.last (output_true c.gates c.output) no_values)

pub translates : Translates
translates c is = translation_is c is (split c.prefix (gate_names c.gates))
