use Rattle.std.proofs.Common.{◌≡◌, ℕ, zero, suc, arith, true, false, List, [], ◌∷◌, ◌++◌, refl, sym, ap, ◌∙◌}
use Rattle.std.proofs.lemmas.Bool.{false≢true}
use Rattle.prefix.specs.declared.quant.Quant.TheVariants.{Exists, Forall}
use Rattle.calculus.specs.Derivations.{Inference}
use Rattle.calculus.specs.Plays.{played_from, with_given}
use Rattle.calculus.specs.Rows.{Row}
use Rattle.calculus.proofs.Lists.{contains_nil}
use Rattle.step_core.specs.Worked.{clause}
use Rattle.search.specs.Finishes.{IsFinishId}
use Rattle.engine.specs.Worked.{finished_with}
use Rattle.engine.proofs.worked.worked_asks.Goals as goal

-- the row of the last inference
abbrev last_of : List Inference → Row
last_of [] = []
last_of (s ∷ []) = s.row
last_of (s ∷ t ∷ rest) = last_of (t ∷ rest)

last_append : (front : List Inference) (last : Inference) → last_of (front ++ last ∷ []) ≡ last.row
last_append [] last = refl
last_append (s ∷ []) last = refl
last_append (s ∷ t ∷ rest) last = last_append (t ∷ rest) last

none_there : (front : List Inference) (last : Inference) → [] ≡ front ++ last ∷ [] → ⊥
none_there [] last e = absurd (cc)
none_there (s ∷ front) last e = absurd (cc)

-- the finish stands under the id 1 alone
finish_is : (id : ℕ) → IsFinishId (finished_with clause) id → id ≡ 1
finish_is zero is = absurd (false≢true is)
finish_is (suc zero) is = refl
finish_is (suc (suc k)) is = absurd (false≢true is)

pub returns : goal.returns
unfolding played_from with_given
returns c = record {
  universal_values = refl;
  universal_decide = refl;
  universal_other = λ e. absurd (let f : true ≡ false = e in cc);
  universal_assumed = refl;
  existential_values = refl;
  existential_decide = refl;
  existential_other = λ e. absurd (let f : false ≡ true = e in cc);
  existential_assumed = refl;
  relevant = refl;
  relevant_decide = refl;
  removed = refl;
  removed_cube = refl;
  not_removed = refl;
  given = refl;
  end_row = refl;
  own_row = refl;
  assumed_value = refl;
  forced_value = refl;
  other_value = refl;
  whole_value = refl;
  verdict = record {
    outer = λ l i. absurd (contains_nil l i);
    ascending = tt;
    truth = refl;
    proof = c.worked_refutation.ensures.proof;
    last_row = let p = c.worked_refutation.ensures.proof in sym (ap last_of p.parts ∙ last_append p.front p.last);
  };
  other_truth = λ v. absurd (let f : true ≡ false = v.truth in cc);
  no_proof = λ v. none_there v.proof.front v.proof.last v.proof.parts;
  other_side = λ s e is. absurd (let f : Exists ≡ Forall = sym e ∙ is.winner in cc);
  its_finish = finish_is;
  another_finish = λ h. absurd (let e = h 1 refl in omega (arith, e));
  left_finish = λ h. h 1 refl;
  no_finish = λ id is. false≢true is;
}
