-- The worked values, for either side.
use Rattle.std.proofs.Common.{◌≡◌, zero, suc, ◌<◌, Bool, true, false, not, [], ◌∷◌, Contains, Option, Some, None, refl, sym, inl, ⊎_elim, arith, ap, ◌∙◌, is_none}
use Rattle.std.specs.List.{list_any}
use Rattle.std.proofs.lemmas.Bool.{true≢false, false≢true}
use Rattle.prefix.specs.declared.quant.Quant.{Quant}
use Rattle.prefix.specs.declared.quant.Quant.TheVariants.{Exists, Forall}
use Rattle.prefix.specs.Literal.{Literal}
use Rattle.prefix.specs.Sides.{bad_of, opposite}
use Rattle.calculus.specs.Rows.{is_bad_at, is_pivot, reduce}
use Rattle.calculus.specs.Search.{is_bad_if}
use Rattle.calculus.specs.Worked.{plus}
use Rattle.calculus.specs.WorkedSearch.{alternating, three}
use Rattle.calculus.proofs.WorkingSearch.{clean_rows, units}
use Rattle.calculus.specs.Derivations.Why.{ReducedFrom}
use Rattle.clean.specs.Staying.{has_as_deep}
use Rattle.clean.specs.Turns.{AreInferred}
use Rattle.clean.specs.Worked.{WorkedCleaning, WorkedReasons, WorkedSteps, stored, with_two}

second : Contains three (plus 2)
second = (1, omega arith, refl)

third : Contains three (plus 3)
third = (2, omega arith, refl)

good_not : (q : Quant) → is_bad_at q (not (bad_of q)) (plus 3) ≡ false
good_not Exists = refl
good_not Forall = refl

pub ours : (q : Quant) → is_pivot q (alternating q) (plus 3) ≡ true
ours Exists = refl
ours Forall = refl

pub theirs : (q : Quant) → is_pivot q (alternating q) (plus 2) ≡ false
theirs Exists = refl
theirs Forall = refl

some_are : (q : Quant) → list_any (is_pivot q (alternating q)) three ≡ true
some_are Exists = refl
some_are Forall = refl

pub blocked_stays : (q : Quant) → reduce q (alternating q) three ≡ three
blocked_stays Exists = refl
blocked_stays Forall = refl

last_goes : (q : Quant) → reduce q (alternating q) (plus 1 ∷ plus 2 ∷ []) ≡ plus 1 ∷ []
last_goes Exists = refl
last_goes Forall = refl

shorter : (l m : Literal) → l ∷ [] ≡ l ∷ m ∷ [] → ⊥
shorter l m e = cc

not_itself : (q : Quant) → q ≡ opposite q → ⊥
not_itself Exists e = cc
not_itself Forall e = cc

not_both : (q : Quant) (o : Option Bool) (l : Literal) → is_none o ≡ true → is_bad_if q o l ≡ true → ⊥
not_both q None l n b = false≢true b
not_both q (Some v) l n b = false≢true n

pub reasons : (pivot : Quant) → WorkedReasons pivot
reasons pivot = record {
  reduced = record { step = refl; of_side = refl; reduced = blocked_stays pivot };
  not_reduced = λ step. shorter (plus 1) (plus 2) (sym (last_goes pivot) ∙ step.reduced);
  other_side = λ step. not_itself pivot step.of_side;
  dropped = λ step. false≢true step.step;
  reason = record {
    step = record { step = refl; of_side = refl; reduced = blocked_stays pivot };
    unit = (units pivot).unit_with_later;
    clean = λ marked. absurd (false≢true marked);
  };
  not_clean = λ reason. ⊎_elim (λ e. let same : 2 ≡ 1 = ap (λ (l : Literal). l.variable) e in omega arith)
      (λ r. false≢true r.0) (reason.clean refl (plus 2) second);
}

both_came : (q : Quant) → AreInferred (stored q) (with_two q (ReducedFrom 3))
both_came q zero dead live = absurd (true≢false dead)
both_came q (suc zero) dead live = absurd (true≢false dead)
both_came q (suc (suc zero)) dead live = absurd (false≢true live)
both_came q (suc (suc (suc zero))) dead live = refl
both_came q (suc (suc (suc (suc zero)))) dead live = refl
both_came q (suc (suc (suc (suc (suc id))))) dead live = absurd (false≢true live)

deeper_there : (pivot : Quant) → has_as_deep pivot (alternating pivot) 1 three ≡ true
deeper_there Exists = refl
deeper_there Forall = refl

none_deeper : (pivot : Quant) → has_as_deep pivot (alternating pivot) 3 three ≡ false
none_deeper Exists = refl
none_deeper Forall = refl

other_typed : (pivot : Quant) → has_as_deep pivot (alternating pivot) 1 (plus 1 ∷ plus 2 ∷ []) ≡ false
other_typed Exists = refl
other_typed Forall = refl

one_scope : (pivot : Quant) → has_as_deep pivot (record { quantifier = pivot; variables = 1 ∷ 2 ∷ [] } ∷ []) 1
    (plus 1 ∷ plus 2 ∷ []) ≡ true
one_scope Exists = refl
one_scope Forall = refl

pub steps : (pivot : Quant) → WorkedSteps pivot
steps pivot = record {
  inferred = both_came pivot;
  one_resolvent = refl;
  one_reduction = refl;
  finish = λ resolves. false≢true (resolves.inferred 4 refl refl);
  input = λ resolves. false≢true (resolves.inferred 4 refl refl);
  deeper = deeper_there pivot;
  shallower = none_deeper pivot;
  other_type = other_typed pivot;
  same_scope = one_scope pivot;
}

pub cleaning : (pivot : Quant) → WorkedCleaning pivot
cleaning pivot = record {
  blocked = record {
    blocker = plus 3;
    blocked = plus 2;
    blocks = record {
      blocker_stands = third;
      blocked_stands = second;
      pivot_type = ours pivot;
      open_yet = refl;
      other_type = theirs pivot;
      later = (let h : 2 < 3 = omega arith in h);
    };
  };
  not_blocked = λ b. not_both pivot _ b.blocked b.blocks.open_yet
      ((clean_rows pivot).clean b.blocked b.blocks.blocked_stands);
  bad_row = λ l i. (units pivot).is_bad l i;
  unit_row = (units pivot).unit;
  unit_not_kept = λ row. ⊎_elim (λ k. k) (λ r. ⊎_elim (λ b. true≢false (sym b ∙ good_not pivot))
      (λ o. false≢true o.0) r) (row (plus 3) third);
  cleaned = inl (clean_rows pivot).clean;
  kept = (third, (clean_rows pivot).clean_but);
  one_open = ⊎_elim (λ clean. false≢true (clean (plus 2) second)) (λ none. true≢false (sym (some_are pivot) ∙ none.0));
}
