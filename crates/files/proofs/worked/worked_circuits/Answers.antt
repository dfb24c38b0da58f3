use Rattle.std.proofs.Common.{◌≡◌, ◌∙◌, ℕ, Contains, true, false, List, [], ◌∷◌, None, Some, refl, sym, ap, subst, arith, lit<}
use Rattle.std.proofs.lemmas.Bool.{true≢false}
use Rattle.std.specs.Prelude.{slice_index_or}
use Rattle.std.specs.Fmt.{digits}
use Rattle.prefix.specs.declared.quant.Quant.TheVariants.{Exists}
use Rattle.calculus.specs.Rows.{Assignment}
use Rattle.calculus.specs.Worked.{minus}
use Rattle.calculus.proofs.Lists.{contains_head}
use Rattle.prefix.specs.Literal.{Literal}
use Rattle.aig.specs.Strategies.{values_of}
use Rattle.solve.specs.Terms.{terms_of}
use Rattle.trail.specs.State.{Account}
use Rattle.reading.specs.declared.refusal.Quantity.{Quantity}
use Rattle.reading.specs.declared.refusal.Quantity.TheVariants.{Clauses, Variables}
use Rattle.certcheck.specs.Building.{limit_of}
use Rattle.engine.specs.Refusals.{winner_of}
use Rattle.files.specs.Checks.{HasCircuit, IsBeyond, check_of}
use Rattle.files.specs.Worked.{anything_fits, at_nineteen}
use Rattle.files.specs.WorkedVerdicts.{always, at_seven, no_step, repeated}
use Rattle.files.proofs.Repeated.{always_denotes, certified, fits, is_true, its_value, only_values, too_many}
use Rattle.files.proofs.worked.worked_circuits.Goals as goal

-- the value of the true circuit isn't that which is told
true_alone : HasCircuit no_step (repeated false 1) true (always true) → ⊥
true_alone h =
    let values = only_values h.witness h.is_witness in
    let told = subst (λ vs. (l : Literal) → Contains vs l → (inputs : Assignment)
    → values_of (always true) inputs l.variable ≡ l.positive) values (h.certifies.first_values refl) in
    true≢false (sym (its_value true (λ x. false)) ∙ told (minus 1) (contains_head (minus 1) []) (λ x. false))

-- a circuit of the true formula is the existential side's
exists_wins : (n : ℕ) (quantity : Quantity) (text : List ℕ) (told : List Account)
    (h : IsBeyond no_step (repeated true n) quantity ([], told) text) → h.circuit.winner ≡ Exists
exists_wins n quantity text told h =
    h.certified.certifies.winner ∙ ap winner_of (sym h.certified.right ∙ is_true true n)

-- one without variables and clauses is within the limits
within : (quantity : Quantity) (text : List ℕ) → IsBeyond no_step anything_fits quantity ([], []) text → ⊥
within quantity text h =
    let none : limit_of (check_of anything_fits h.circuit) ≡ None = fits no_step h.value h.circuit h.certified in
    absurd (let no : Some quantity ≡ None = sym h.limit ∙ none in cc)

first_byte : List ℕ → ℕ
first_byte text = slice_index_or text 0 0

pub returns : goal.returns
unfolding digits first_byte
returns c = record {
  circuit = certified no_step;
  other_circuit = true_alone;
  its_values = λ s h. only_values h.witness h.is_witness;
  undecided = (
    true,
    record {
      circuit = always false;
      certified = certified (terms_of 7 0 512) false 1;
      within = refl;
      unsatisfiable = refl;
      is = record {
        asked = refl;
        short = record { limit = lit< tt; propagation = λ _. lit< tt };
        says = refl;
        told = (at_seven, refl, record { budget = refl; vars = refl; few = lit< tt; restarts = omega arith });
      };
    },
  );
  undecided_untold = λ h. absurd (let f : [] ≡ h.1.is.told.0 ∷ [] = h.1.is.told.1 in cc);
  told_of_none = λ h. absurd (let f : at_nineteen ∷ [] ≡ [] = h.is.told in cc);
  beyond = λ n over. record {
    value = true;
    circuit = always true;
    certified = certified no_step true n;
    limit = too_many n over (always true) refl;
    denotes = always_denotes;
    told = refl;
  };
  other_quantity = λ n text over h. absurd (let no : Some Variables ≡ Some Clauses =
      sym (too_many n over h.circuit (exists_wins n Clauses text [] h)) ∙ h.limit in cc);
  no_circuit = λ n h. absurd (let f : 0 ≡ 97 = ap first_byte h.denotes.lines in omega (arith, f));
  beyond_told = λ n text h. absurd (let f : at_nineteen ∷ [] ≡ [] = h.told in cc);
  within = within;
}
