use Rattle.std.proofs.Common.{◌≡◌, ◌∙◌, ℕ, Bool, true, false, nat_eq, if◌then◌else◌, List, [], ◌∷◌, get_or, Option, Some, None, ⊎_elim, refl, sym, ap, subst, arith}
use Rattle.std.proofs.lemmas.Bool.{eqb-true, false≢true, true≢false}
use Rattle.prefix.specs.Literal.{Literal}
use Rattle.prefix.specs.Scopes.{quantifier_of}
use Rattle.prefix.specs.declared.quant.Quant.TheVariants.{Exists, Forall}
use Rattle.truth.specs.Truth.{assumed_value}
use Rattle.calculus.specs.Worked.{minus, plus}
use Rattle.calculus.proofs.Lists.{contains_cons, contains_head, contains_nil}
use Rattle.calculus.specs.Plays.{IsAllowed}
use Rattle.calculus.specs.Rows.{Assignment}
use Rattle.aig.specs.Circuits.{value_of, zero}
use Rattle.aig.specs.Strategies.{output_of, output_vars, values_of}
use Rattle.aig.specs.declared.edge.Node.TheVariants.{Constant}
use Rattle.aig.specs.declared.edge.Edge.{Edge}
use Rattle.aig.specs.declared.strategy.Strategy.{Strategy}
use Rattle.aiger_out.specs.Theorems.{HaveOneCircuit}
use Rattle.aiger_out.proofs.Same.{have_one_circuit}
use Rattle.aiger_out.proofs.SameBytes.{bytes_have_one_circuit}
use Rattle.solve.specs.Certificates.{Certifies}
use Rattle.solve.specs.Feeding.{opened}
use Rattle.solve.specs.Decisions.{unassumed}
use Rattle.solve.specs.Worked.{either, nothing_fits, true_text, whole_text, whole_bytes}
use Rattle.solve.proofs.CircuitValues.{ahead, ahead_stands, always, always_denotes, always_value, bare, bare_denotes, inputless, inputless_denotes, looks_at_four, never_value, same_value, three_by, three_denotes, three_or_four, two_outputs, two_outputs_denote, zero_stands}
use Rattle.solve.proofs.Certifying.{bytes_denote, first_not_reached, one_gate, one_reached, trimmed_bytes_denote, trimmed_certifies, trimmed_denotes, two_gates, two_there, whole_certifies, whole_denotes}
use Rattle.solve.proofs.worked.worked_certificates.Goals as goal

second_byte : List ℕ → ℕ
second_byte text = get_or text 1 0

-- 3 alone is assumed, to be true
assumed_three : (x : ℕ) (b : Bool) → assumed_value (plus 3 ∷ []) x ≡ Some b → (3 ≡ x) × (b ≡ true)
assumed_three x b e = by (nat_eq 3 x) refl e
  where
    by : (t : Bool) → nat_eq 3 x ≡ t → (if t then Some true else None) ≡ Some b → (3 ≡ x) × (b ≡ true)
    by true is e = (eqb-true 3 x is, let f : Some true ≡ Some b = e in cc)
    by false is e = absurd (let f : None ≡ Some b = e in cc)

always_certifies : Certifies either (record { truth = true; assumptions = plus 3 ∷ [] }) (plus 3 ∷ []) 0 always
unfolding value_of
always_certifies = record {
  winner = refl;
  inputs = refl;
  outputs = refl;
  wins = λ v allowed. (
    refl,
    λ x b e apart. let is = assumed_three x b e in
        subst (λ y. values_of always v y ≡ b) is.0 (sym is.1),
  );
  earlier = λ x i apart v w agree. ⊎_elim (λ e. subst (λ y. values_of always v y ≡ values_of always w y) e refl)
      (λ j. ⊎_elim (λ e. absurd (apart (subst (λ y. quantifier_of either.scopes y ≡ Some Forall) e refl)))
      (λ k. absurd (contains_nil x k)) (contains_cons 4 [] x j)) (contains_cons 3 (4 ∷ []) x i);
  assumed = λ x b e apart. let is = assumed_three x b e in
      subst (λ y. output_of always.outputs y ≡ Some (record { node = Constant; negated = b })) is.0
      (ap (λ n. Some (record { node = Constant; negated = n })) (sym is.1));
  first_values = λ e l i inputs. ⊎_elim
      (λ is. subst (λ (k : Literal). values_of always inputs k.variable ≡ k.positive) is refl)
      (λ j. absurd (contains_nil l j)) (contains_cons (plus 3) [] l i);
  few = omega arith;
}

is_negated : Option Edge → Bool
is_negated None = false
is_negated (Some e) = e.negated

-- 3 is true by each circuit of that text
three_is_true : (t : Strategy) → HaveOneCircuit always t → (inputs : Assignment) → values_of t inputs 3 ≡ true
three_is_true t same inputs = sym (same_value always t same inputs 3) ∙ always_value inputs

not_constant : (t : Strategy) → HaveOneCircuit always t
    → output_of t.outputs 3 ≡ Some (record { node = Constant; negated = false }) → ⊥
unfolding is_negated
not_constant t same e = true≢false (ap is_negated
    (subst (λ outputs. output_of outputs 3 ≡ Some (record { node = Constant; negated = false })) (sym same.outputs) e))

-- without an assumption
always_wins : Certifies either (unassumed true) [] 0 always
unfolding value_of
always_wins = record {
  winner = refl;
  inputs = refl;
  outputs = refl;
  wins = λ v allowed. (refl, λ x b e apart. absurd (let f : None ≡ Some b = e in cc));
  earlier = always_certifies.earlier;
  assumed = λ x b e apart. absurd (let f : None ≡ Some b = e in cc);
  first_values = λ e l i inputs. absurd (contains_nil l i);
  few = omega arith;
}

-- a circuit of nothing wins where nothing can be won
bare_wins : Certifies (opened nothing_fits) (unassumed false) [] 0 (bare Forall)
bare_wins = record {
  winner = refl;
  inputs = refl;
  outputs = refl;
  wins = λ v allowed. (refl, λ x b e apart. absurd (let f : None ≡ Some b = e in cc));
  earlier = λ x i. absurd (contains_nil x i);
  assumed = λ x b e apart. absurd (let f : None ≡ Some b = e in cc);
  first_values = λ e l i inputs. absurd (contains_nil l i);
  few = omega arith;
}

-- no value of 4 is assumed
all_allowed : (v : Assignment) → IsAllowed Forall either.scopes [] v
all_allowed v x b e at = absurd (let f : None ≡ Some b = e in cc)

pub returns : goal.returns
unfolding second_byte
returns c =
    record {
      whole = record {
        strategy = two_gates;
        denotes = whole_denotes;
        certifies = whole_certifies 2 (omega arith);
        reached = λ trim. absurd (false≢true trim);
      };
      whole_in_binary = record {
        strategy = two_gates;
        denotes = bytes_denote;
        certifies = whole_certifies 2 (omega arith);
        reached = λ trim. absurd (false≢true trim);
      };
      not_in_binary = λ h. absurd (let f : 97 ≡ 105 = ap second_byte h.denotes.whole in omega (arith, f));
      not_in_ascii = λ h. absurd (let f : 105 ≡ 97 = ap second_byte h.denotes.lines in omega (arith, f));
      trimmed = record {
        strategy = one_gate;
        denotes = trimmed_denotes;
        certifies = trimmed_certifies;
        reached = λ trim. one_reached;
      };
      trimmed_in_binary = record {
        strategy = one_gate;
        denotes = trimmed_bytes_denote;
        certifies = trimmed_certifies;
        reached = λ trim. one_reached;
      };
      not_trimmed = λ h.
          let same = have_one_circuit whole_text two_gates h.strategy whole_denotes h.denotes in
          first_not_reached h.strategy same
          (h.reached refl 0 (let two = two_there h.strategy same in omega (arith, two)));
      not_trimmed_in_binary = λ h.
          let same = bytes_have_one_circuit whole_bytes two_gates h.strategy bytes_denote h.denotes in
          first_not_reached h.strategy same
          (h.reached refl 0 (let two = two_there h.strategy same in omega (arith, two)));
      too_many = λ h.
          let same = have_one_circuit whole_text two_gates h.strategy whole_denotes h.denotes in
          absurd (let two = two_there h.strategy same in let few = h.certifies.few in omega (arith, two, few));
      assumed = record {
        strategy = always;
        denotes = always_denotes;
        certifies = always_certifies;
        reached = λ trim. absurd (false≢true trim);
      };
      otherwise_assumed = λ h. not_constant h.strategy (have_one_circuit true_text always h.strategy always_denotes
          h.denotes)
          (h.certifies.assumed 3 false refl (λ e. absurd (let f : Some Exists ≡ Some Forall = e in cc)));
      other_value = λ h. false≢true
          (sym (h.certifies.first_values refl (minus 3) (contains_head (minus 3) []) (λ x. true))
          ∙ three_is_true h.strategy (have_one_circuit true_text always h.strategy always_denotes h.denotes) (λ x.
          true));
      herbrand = record {
        strategy = bare Forall;
        denotes = bare_denotes Forall;
        certifies = bare_wins;
        reached = λ trim. absurd (false≢true trim);
      };
      other_winner = λ h.
          let same = have_one_circuit _ (bare Exists) h.strategy (bare_denotes Exists) h.denotes in
          absurd (let f : Exists ≡ Forall = same.winner ∙ h.certifies.winner in cc);
      true_always = record {
        strategy = always;
        denotes = always_denotes;
        certifies = always_wins;
        reached = λ trim. absurd (false≢true trim);
      };
      no_input = λ h.
          let same = have_one_circuit _ inputless h.strategy inputless_denotes h.denotes in
          absurd (let f : [] ≡ 4 ∷ [] = same.inputs ∙ h.certifies.inputs in cc);
      other_output = λ h.
          let same = have_one_circuit _ two_outputs h.strategy two_outputs_denote h.denotes in
          absurd (let f : 3 ∷ 9 ∷ [] ≡ 3 ∷ [] = ap output_vars same.outputs ∙ h.certifies.outputs in cc);
      false_always = λ h.
          let same = have_one_circuit _ (three_by zero) h.strategy (three_denotes zero zero_stands) h.denotes in
          let v : Assignment = λ x. false in
          three_or_four (values_of h.strategy v)
          (sym (same_value (three_by zero) h.strategy same v 3) ∙ never_value v)
          (sym (same_value (three_by zero) h.strategy same v 4)) (h.certifies.wins v (all_allowed v)).0;
      looks_ahead = λ h.
          let same = have_one_circuit _ (three_by ahead) h.strategy (three_denotes ahead ahead_stands) h.denotes in
          looks_at_four h.strategy same h.certifies.earlier;
      looks_back = record {
        strategy = two_gates;
        denotes = whole_denotes;
        certifies = whole_certifies 2 (omega arith);
        reached = λ trim. absurd (false≢true trim);
      };
      one_gate_more = λ h.
          let same = have_one_circuit whole_text two_gates h.strategy whole_denotes h.denotes in
          absurd (let two = two_there h.strategy same in let few = h.certifies.few in omega (arith, two, few));
      in_bytes = λ h. absurd (let f : 105 ≡ 97 = ap second_byte h.denotes.lines in omega (arith, f));
      other_first_value = λ h. false≢true
          (sym (h.certifies.first_values refl (minus 3) (contains_head (minus 3) []) (λ x. true))
          ∙ three_is_true h.strategy (have_one_circuit true_text always h.strategy always_denotes h.denotes) (λ x.
          true));
      other_assumed_value = λ h.
          not_constant h.strategy (have_one_circuit true_text always h.strategy always_denotes h.denotes)
          (h.certifies.assumed 3 false refl (λ e. absurd (let f : Some Exists ≡ Some Forall = e in cc)));
    }
