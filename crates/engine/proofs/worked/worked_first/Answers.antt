use Rattle.std.proofs.Common.{◌≡◌, ℕ, Bool, true, false, List, [], ◌∷◌, Some, None, length, refl, ap, arith}
use Rattle.prefix.specs.declared.quant.Quant.TheVariants.{Exists, Forall}
use Rattle.calculus.specs.Plays.{played_from, with_given}
use Rattle.calculus.specs.Worked.{minus, plus}
use Rattle.engine.specs.Asks.{AreFirstValues}
use Rattle.engine.specs.WorkedAsks.{either}
use Rattle.engine.proofs.worked.worked_first.Goals as goal

none_is : (b : Bool) → None ≡ Some b → ⊥
none_is b e = cc

not_true : false ≡ true → ⊥
not_true e = cc

values_decide : AreFirstValues either true [] (minus 1 ∷ plus 2 ∷ [])
values_decide = record { variables = refl; assumed = λ x b e. absurd (none_is b e); decide = refl }

other_sign : Some false ≡ Some true → ⊥
other_sign e = cc

other_quantifier : Some Forall ≡ Some Exists → ⊥
other_quantifier e = cc

abbrev first_of : List ℕ → ℕ
first_of [] = 0
first_of (x ∷ xs) = x

pub returns : goal.returns
unfolding played_from with_given
returns c = record {
  plays = λ e. values_decide;
  without_proof = λ h. not_true (h refl).decide;
  values = values_decide;
  not_true = λ h. not_true h.decide;
  not_in_order = λ h. let e : 2 ≡ 1 = ap first_of h.variables in omega (arith, e);
  not_both = λ h. let e : 1 ≡ 2 = ap length h.variables in omega (arith, e);
  not_as_assumed = λ h. other_sign (h.assumed 1 true refl);
  losers = λ e. absurd (other_quantifier e);
}
