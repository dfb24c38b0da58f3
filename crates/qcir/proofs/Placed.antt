-- The gates of a circuit may be put into the prefix.
use Rattle.std.proofs.Common.{◌≡◌, ℕ, ◌+◌, ◌-◌, ◌<◌, ◌≤◌, true, false, List, [], ◌∷◌, ◌++◌, length, take, refl, sym, ap, ⊎_elim, ◌∙◌, subst, append_assoc, append-nil, arith, length-append}
use Rattle.std.specs.Prelude.{◌==◌}
use Rattle.std.proofs.lemmas.Bool.{eqb-true, or_cases, or_left, or_right}
use Rattle.std.proofs.lemmas.List.{take_all}
use Rattle.std.proofs.lemmas.List.Concat.{flat_map-append}
use Rattle.prefix.specs.declared.quant.Quant.TheVariants.{Exists}
use Rattle.prefix.specs.Scopes.{Scope, AreDistinct, all_variables, is_among, variables_at}
use Rattle.prefix.proofs.ScopeLemmas.{is_among-append}
use Rattle.clauses.specs.Clause.{ascending}
use Rattle.builder.specs.NewScope.{AreNew}
use Rattle.qcir.specs.declared.circuit.Circuit.{Circuit}
use Rattle.qcir.specs.declared.circuit.Gate.{Gate}
use Rattle.qcir.specs.Building.{ends_existential}
use Rattle.qcir.specs.Truth.{gate_names}
use Rattle.qcir.specs.Translation.{IsCircuit, own_scope, scopes_with}
use Rattle.qcir.proofs.Known.{all_distinct, in_range}
use Rattle.qcir.proofs.Scoping.{and_scope, followed_is, joined_is, last_exists, last_is, new_behind}

module _ (c : Circuit) (is : IsCircuit c) where
  -- behind the scopes
  pub names_new : AreNew c.prefix (gate_names c.gates)
  names_new =
      new_behind c.prefix (gate_names c.gates) (all_distinct c is)
      (λ v h. in_range c is v (or_right (is_among v (all_variables c.prefix)) (is_among v (gate_names c.gates)) h))

  -- beside the variables of the last scope
  pub joined_new : ends_existential c.prefix ≡ true
      → AreNew (take (length c.prefix - 1) c.prefix)
      (variables_at c.prefix (length c.prefix) ++ gate_names c.gates)
  joined_new ends =
      let last = last_exists c.prefix ends in
      let first : List Scope = take (length c.prefix - 1) c.prefix in
      let vs : List ℕ = variables_at c.prefix (length c.prefix) in
      let names : List ℕ = gate_names c.gates in
      let parts : all_variables c.prefix ≡ all_variables first ++ vs =
      ap all_variables (last_is c.prefix Exists last.0 last.1)
      ∙ flat_map-append (λ (s : Scope). s.variables) first (record { quantifier = Exists; variables = vs } ∷ [])
      ∙ ap (λ r. all_variables first ++ r) (append-nil vs) in
      new_behind first (vs ++ names)
      (subst AreDistinct (ap (λ r. r ++ names) parts ∙ append_assoc (all_variables first) vs names)
      (all_distinct c is))
      (λ v h.
      in_range c is v
      (⊎_elim
      (λ t.
      or_left (is_among v (all_variables c.prefix)) (is_among v names)
      (ap (is_among v) parts ∙ is_among-append v (all_variables first) vs
      ∙ or_right (is_among v (all_variables first)) (is_among v vs) t))
      (λ t. or_right (is_among v (all_variables c.prefix)) (is_among v names) t)
      (or_cases (is_among v vs) (is_among v names) (sym (is_among-append v vs names) ∙ h))))

-- The scopes with the gates, from what is put together.

module _ (ss : List Scope) (names vars : List ℕ) (n : ℕ) (ends : ends_existential ss ≡ true)
    (number : n ≡ length ss) (all : vars ≡ variables_at ss (length ss) ++ names) where
  pub joined_from : and_scope (take (n - 1) ss) Exists (ascending vars) ≡ scopes_with ss names
  joined_from =
      ap (λ m. and_scope (take (m - 1) ss) Exists (ascending vars)) number
      ∙ ap (λ us. and_scope (take (length ss - 1) ss) Exists (ascending us)) all
      ∙ joined_is ss names ends

pub joined_fits : (c : Circuit) → IsCircuit c → (vars : List ℕ) (n : ℕ) → ends_existential c.prefix ≡ true
    → n ≡ length c.prefix → vars ≡ variables_at c.prefix (length c.prefix) ++ gate_names c.gates
    → AreNew (take (n - 1) c.prefix) vars
joined_fits c is vars n ends number all =
    subst (λ us. AreNew (take (n - 1) c.prefix) us) (sym all)
    (subst (λ m. AreNew (take (m - 1) c.prefix) (variables_at c.prefix (length c.prefix) ++ gate_names c.gates))
    (sym number) (joined_new c is ends))

pub followed_fits : (c : Circuit) → IsCircuit c → (vars : List ℕ) (n : ℕ) → n ≡ length c.prefix
    → vars ≡ gate_names c.gates → AreNew (take n c.prefix) vars
followed_fits c is vars n number all =
    let full : take n c.prefix ≡ c.prefix = take_all n c.prefix (omega (arith, number)) in
    subst (λ us. AreNew (take n c.prefix) us) (sym all)
    (subst (λ ss. AreNew ss (gate_names c.gates)) (sym full) (names_new c is))

own_is : (gates : List Gate) → (length gates == 0) ≡ false
    → own_scope (gate_names gates) ≡ record { quantifier = Exists; variables = ascending (gate_names gates) } ∷ []
own_is [] h = absurd (let e : true ≡ false = h in cc)
own_is (g ∷ gates) h = refl

own_none : (gates : List Gate) → (length gates == 0) ≡ true → own_scope (gate_names gates) ≡ []
own_none [] h = refl
own_none (g ∷ gates) h = absurd (let e : length (g ∷ gates) ≡ 0 = eqb-true (length (g ∷ gates)) 0 h in omega (arith, e))

module _ (ss : List Scope) (gates : List Gate) (n : ℕ) (ends : ends_existential ss ≡ false)
    (number : n ≡ length ss) where
  full_is : take n ss ≡ ss
  full_is = take_all n ss (omega (arith, number))

  pub none_followed : (length gates == 0) ≡ true → take n ss ≡ scopes_with ss (gate_names gates)
  none_followed none =
      full_is ∙ sym (append-nil ss) ∙ ap (λ s. ss ++ s) (sym (own_none gates none))
      ∙ sym (followed_is ss (gate_names gates) ends)

  pub some_followed : (vars : List ℕ) → (length gates == 0) ≡ false → vars ≡ gate_names gates
      → and_scope (take n ss) Exists (ascending vars) ≡ scopes_with ss (gate_names gates)
  some_followed vars some all =
      ap (λ us. and_scope (take n ss) Exists (ascending us)) all
      ∙ ap (λ l. and_scope l Exists (ascending (gate_names gates))) full_is
      ∙ ap (λ s. ss ++ s) (sym (own_is gates some))
      ∙ sym (followed_is ss (gate_names gates) ends)

  pub room_left : (length gates == 0) ≡ false → length (scopes_with ss (gate_names gates)) ≤ 65536 → n < 65536
  room_left some few =
      let long : length (scopes_with ss (gate_names gates)) ≡ length ss + 1 =
      ap length
      (sym (some_followed (gate_names gates) some refl)
      ∙ ap (λ l. and_scope l Exists (ascending (gate_names gates))) full_is)
      ∙ length-append ss (record { quantifier = Exists; variables = ascending (gate_names gates) } ∷ []) in
      omega (arith, long, few, number)
