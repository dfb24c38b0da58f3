use Rattle.std.proofs.Common.{◌≡◌, ◌<◌, ◌≤◌, ◌-◌, ℕ, zero, suc, [], ◌∷◌, Bool, true, List, ⊎_elim, get_or, refl, sym, ap, subst, ◌∙◌, arith}
use Rattle.std.proofs.lemmas.Bool.{false≢true}
use Rattle.prefix.specs.declared.quant.Quant.{Quant}
use Rattle.prefix.specs.declared.quant.Quant.TheVariants.{Exists, Forall}
use Rattle.aig.specs.Circuits.{IsEdge, opposite, value_of}
use Rattle.aig.specs.Worked.{gate, input, none_gate}
use Rattle.aig.specs.declared.edge.And.{And}
use Rattle.aig.specs.declared.strategy.Output.{Output}
use Rattle.aig.specs.declared.strategy.Strategy.{Strategy}
use Rattle.trim.specs.Trimmed.{IsReached, IsTrimmed, KeepsReached, moved_gate}
use Rattle.trim.specs.Trimmed.IsReached.{of_output}
use Rattle.trim.specs.Worked.{first_input, three, trimmed, two, untrimmed, upper, with_outputs}
use Rattle.trim.proofs.Lists.{contains_head, contains_tail}
use Rattle.trim.proofs.Small.{apart, gate_number, lowest_not_reached, middle_reached, reached_cases, upper_reached}
use Rattle.trim.proofs.worked.worked_trims.Goals as goal

-- what holds of both places
by_two : (P : ℕ → Type 0) → P 0 → P 1 → (j : ℕ) → j < 2 → P j
by_two P p q zero h = p
by_two P p q (suc zero) h = q
by_two P p q (suc (suc j)) h = absurd (omega arith)

by_one : (P : ℕ → Type 0) → P 0 → (j : ℕ) → j < 1 → P j
by_one P p zero h = p
by_one P p (suc j) h = absurd (omega arith)

abbrev third : Output
third = record { var = 3; edge = opposite (gate 1) }

abbrev fourth : Output
fourth = record { var = 4; edge = gate 0 }

abbrev HasValue : Strategy → Strategy → Output → List Bool → ℕ → Type 0
HasValue old new d inputs i = value_of new.aig inputs (get_or new.outputs i d).edge
    ≡ value_of old.aig inputs (get_or old.outputs i d).edge

abbrev StandsAt : Strategy → Output → ℕ → Type 0
StandsAt s d i = IsEdge s.aig (get_or s.outputs i d).edge

whole : IsTrimmed untrimmed trimmed
unfolding value_of IsEdge
whole = record {
  winner = refl;
  inputs = refl;
  strategy = record {
    inputs = refl;
    outputs = λ k d h. by_two (StandsAt trimmed d) (let z : 1 < 2 = omega arith in z)
        (let z : 0 < 2 = omega arith in z) k h;
  };
  vars = refl;
  values = λ i d inputs h. by_two (HasValue untrimmed trimmed d inputs) refl refl i h;
  size = let z : 2 ≤ 3 = omega arith in z;
  reached = λ j h. by_two (IsReached trimmed)
      (of_output fourth 0 (contains_tail third (fourth ∷ []) fourth (contains_head fourth [])) refl)
      (of_output third 1 (contains_head third (fourth ∷ [])) refl) j h;
}

already_trimmed : IsTrimmed trimmed trimmed
already_trimmed = record {
  winner = refl;
  inputs = refl;
  strategy = whole.strategy;
  vars = refl;
  values = λ i d inputs h. refl;
  size = let z : 2 ≤ 2 = omega arith in z;
  reached = whole.reached;
}

abbrev bare : Strategy
bare = record first_input { aig = record { inputs = 2; gates = [] } }

no_gate : IsTrimmed first_input bare
unfolding value_of IsEdge
no_gate = record {
  winner = refl;
  inputs = refl;
  strategy = record {
    inputs = refl;
    outputs = λ k d h. by_one (StandsAt bare d) (let z : 0 < 2 = omega arith in z) k h;
  };
  vars = refl;
  values = λ i d inputs h. by_one (HasValue first_input bare d inputs) refl i h;
  size = let z : 0 ≤ 1 = omega arith in z;
  reached = λ j h. absurd (let none : j < 0 = h in let no : ⊥ = omega arith in no);
}

other_sign : IsTrimmed untrimmed (with_outputs two (gate 1) (gate 0)) → ⊥
unfolding value_of
other_sign h =
    false≢true (sym (h.values 0 third (true ∷ true ∷ []) (let z : 0 < 2 = omega arith in z)))

abbrev quant_number : Quant → ℕ
quant_number Exists = 0
quant_number Forall = 1

abbrev IsKept : And → ℕ → Type 0
IsKept d j = get_or two.gates (j - 1) d ≡ moved_gate (λ (k : ℕ). k - 1) (get_or three.gates j d)

kept : KeepsReached untrimmed trimmed
kept = record {
  place = λ j. j - 1;
  rises = λ i j r q h. ⊎_elim (λ (e : 2 ≡ i). let z : i - 1 < j - 1 = omega arith in z)
      (λ (e : 1 ≡ i). let z : i - 1 < j - 1 = omega arith in z) (reached_cases i r);
  within = λ j r. ⊎_elim (λ (e : 2 ≡ j). let z : j - 1 < 2 = omega arith in z)
      (λ (e : 1 ≡ j). let z : j - 1 < 2 = omega arith in z) (reached_cases j r);
  onto = by_two (λ (k : ℕ). (j : ℕ) × IsReached untrimmed j × (j - 1 ≡ k)) (1, middle_reached, refl)
      (2, upper_reached, refl);
  gates = λ j d r. ⊎_elim (λ (e : 2 ≡ j). subst (IsKept d) e refl) (λ (e : 1 ≡ j). subst (IsKept d) e refl)
      (reached_cases j r);
  outputs = refl;
}

not_kept : KeepsReached untrimmed untrimmed → ⊥
not_kept h =
    let second : 2 ≡ h.place 2 =
    ap (λ (os : List Output). gate_number (get_or os 0 third).edge.node) h.outputs in
    let first : 1 ≡ h.place 1 =
    ap (λ (os : List Output). gate_number (get_or os 1 third).edge.node) h.outputs in
    let o = h.onto 0 (let z : 0 < 3 = omega arith in z) in
    ⊎_elim (λ (e : 2 ≡ o.0). let z : h.place 2 ≡ 0 = ap h.place e ∙ o.2 in omega arith)
    (λ (e : 1 ≡ o.0). let z : h.place 1 ≡ 0 = ap h.place e ∙ o.2 in omega arith)
    (reached_cases o.0 o.1)

abbrev others : List And
others = none_gate ∷ record { left = gate 0; right = input 0 } ∷ []

other_gate : KeepsReached untrimmed (with_outputs (record { inputs = 2; gates = others }) (opposite (gate 1)) (gate 0))
    → ⊥
other_gate h =
    let place : 1 ≡ h.place 2 =
    ap (λ (os : List Output). gate_number (get_or os 0 third).edge.node) h.outputs in
    false≢true (ap (λ (k : ℕ). (get_or others k upper).left.negated) place
    ∙ ap (λ (g : And). g.left.negated) (h.gates 2 upper upper_reached))

pub returns : goal.returns
returns c = record {
  whole = whole;
  no_gate = no_gate;
  not_trimmed = λ h. lowest_not_reached (h.reached 0 (let z : 0 < 3 = omega arith in z));
  other_sign = other_sign;
  other_order = λ h. apart 4 3 (omega arith) (ap (λ (xs : List ℕ). get_or xs 0 0) h.vars);
  other_winner = λ h. apart 1 0 (omega arith) (ap quant_number h.winner);
  already_trimmed = already_trimmed;
  one_gate_more = λ h. (let z : 2 ≤ 1 = h.size in omega arith);
  kept = kept;
  not_kept = not_kept;
  other_gate = other_gate;
}
