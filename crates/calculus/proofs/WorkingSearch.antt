-- The worked values of the search, literal by literal, for either side.
use Rattle.std.proofs.Common.{◌≡◌, ℕ, ◌<◌, ◌⊎◌, true, false, not, [], ◌∷◌, Contains, Option, Some, None, is_some, refl, sym, subst, inl, inr, ⊎_elim, arith, ap, ◌∙◌, is_none}
use Rattle.std.specs.Prelude.{IsTrue, IsFalse}
use Rattle.std.proofs.lemmas.Bool.{true≢false, false≢true}
use Rattle.prefix.specs.declared.quant.Quant.{Quant}
use Rattle.prefix.specs.declared.quant.Quant.TheVariants.{Exists, Forall}
use Rattle.prefix.specs.Literal.{Literal}
use Rattle.prefix.specs.Sides.{bad_of, opposite, same_quantifier}
use Rattle.truth.specs.Matrix.{Values}
use Rattle.truth.specs.Truth.{assumed_value}
use Rattle.calculus.specs.Rows.{Row, is_bad_at, is_pivot}
use Rattle.calculus.specs.Search.{IsBadRow, IsKept, IsLater, IsUnitIn, Trail, cut_trail, is_bad_if, is_bad_now, is_open, place_on, value_on}
use Rattle.calculus.specs.Worked.{plus, minus}
use Rattle.calculus.specs.WorkedSearch.{WorkedCleanRows, WorkedUnits, alternating, bad, good, three, with_last}
use Rattle.calculus.proofs.Lists.{contains_cons, contains_nil}
use Rattle.calculus.proofs.Opposites.{side_itself}

-- what each side has alike
bad_is : (q : Quant) (x : ℕ) → is_bad_at q (bad_of q) (plus x) ≡ true
bad_is Exists x = refl
bad_is Forall x = refl

good_not : (q : Quant) (x : ℕ) → is_bad_at q (not (bad_of q)) (plus x) ≡ false
good_not Exists x = refl
good_not Forall x = refl

theirs : (q : Quant) → same_quantifier (opposite q) q ≡ false
theirs Exists = refl
theirs Forall = refl

-- the three literals of the row
each : (P : Literal → Type 0) → P (plus 1) → P (plus 2) → P (plus 3) → (l : Literal) → Contains three l → P l
each P a b c l i =
    ⊎_elim (λ e. subst P e a)
    (λ j. ⊎_elim (λ e. subst P e b)
    (λ k. ⊎_elim (λ e. subst P e c) (λ n. absurd (contains_nil l n)) (contains_cons (plus 3) [] l k))
    (contains_cons (plus 2) (plus 3 ∷ []) l j))
    (contains_cons (plus 1) (plus 2 ∷ plus 3 ∷ []) l i)

first : Contains three (plus 1)
first = (0, omega arith, refl)

second : Contains three (plus 2)
second = (1, omega arith, refl)

third : Contains three (plus 3)
third = (2, omega arith, refl)

apart : (m n : ℕ) → m < n → plus m ≡ plus n → ⊥
apart m n below e = let same : m ≡ n = ap (λ (l : Literal). l.variable) e in omega arith

two_not_three : plus 2 ≡ plus 3 → ⊥
two_not_three = apart 2 3 (omega arith)

one_not_three : plus 1 ≡ plus 3 → ⊥
one_not_three = apart 1 3 (omega arith)

module _ (pivot : Quant) where
  -- one literal of a pending row
  abbrev Stays : Values → Option Literal → Literal → Type 0
  Stays values kept l = IsKept kept l
      ⊎ (IsTrue (is_bad_now pivot values l)
      ⊎ (IsTrue (is_open values l) × IsFalse (is_pivot pivot (alternating pivot) l) × IsLater (alternating pivot) kept
      l))

  unit_in_last : (values : Values) → values 1 ≡ Some (bad_of pivot) → values 2 ≡ Some (bad_of pivot) → values 3 ≡ None
      → IsUnitIn pivot (alternating pivot) values three (plus 3)
  unit_in_last values a b n = record {
    stands = third;
    pivot_type = side_itself pivot;
    open_yet = ap is_none n;
    others = each (Stays values (Some (plus 3)))
        (inr (inl (ap (λ o. is_bad_if pivot o (plus 1)) a ∙ bad_is pivot 1)))
        (inr (inl (ap (λ o. is_bad_if pivot o (plus 2)) b ∙ bad_is pivot 2)))
        (inl refl);
  }

  with_later : IsUnitIn pivot (alternating pivot) (assumed_value (bad pivot 3 ∷ [])) three (plus 1)
  with_later = record {
    stands = first;
    pivot_type = side_itself pivot;
    open_yet = refl;
    others = each (Stays (assumed_value (bad pivot 3 ∷ [])) (Some (plus 1))) (inl refl)
        (inr (inr (refl, theirs pivot, (let h : 1 < 2 = omega arith in h)))) (inr (inl (bad_is pivot 3)));
  }

  not_with_earlier : IsUnitIn pivot (alternating pivot) (assumed_value (bad pivot 1 ∷ [])) three (plus 3) → ⊥
  not_with_earlier unit =
      ⊎_elim two_not_three (λ r. ⊎_elim (λ b. false≢true b) (λ o. let h : 3 < 2 = o.2 in omega arith) r)
      (unit.others (plus 2) second)

  bad_with_open : IsBadRow pivot (alternating pivot) (assumed_value (bad pivot 1 ∷ bad pivot 3 ∷ [])) three
  bad_with_open = each (Stays (assumed_value (bad pivot 1 ∷ bad pivot 3 ∷ [])) None) (inr (inl (bad_is pivot 1)))
      (inr (inr (refl, theirs pivot, tt))) (inr (inl (bad_is pivot 3)))

  -- an open pivot-type literal
  not_bad : (values : Values) → values 3 ≡ None → IsBadRow pivot (alternating pivot) values three → ⊥
  not_bad values n bad_row =
      ⊎_elim (λ k. k)
      (λ r. ⊎_elim (λ b. false≢true (ap (λ o. is_bad_if pivot o (plus 3)) (sym n) ∙ b))
      (λ o. true≢false (sym (side_itself pivot) ∙ o.1)) r)
      (bad_row (plus 3) third)

  not_unit : (l : Literal) → Contains three l → IsUnitIn pivot (alternating pivot) (assumed_value (bad pivot 1 ∷ []))
      three l → ⊥
  not_unit = each (λ l. IsUnitIn pivot (alternating pivot) (assumed_value (bad pivot 1 ∷ [])) three l → ⊥)
      (λ unit. false≢true unit.open_yet) (λ unit. false≢true (sym (theirs pivot) ∙ unit.pivot_type)) not_with_earlier

  one_row : (row : Row) → Contains (three ∷ []) row → three ≡ row
  one_row row i = ⊎_elim (λ e. e) (λ n. absurd (contains_nil row n)) (contains_cons three [] row i)

  alone : Contains (three ∷ []) three
  alone = (0, omega arith, refl)

  pub units : WorkedUnits pivot
  units = record {
    unit = unit_in_last (assumed_value (bad pivot 1 ∷ bad pivot 2 ∷ [])) refl refl refl;
    unit_with_later = with_later;
    earlier_open = not_with_earlier;
    one_good = λ unit. ⊎_elim two_not_three
        (λ r. ⊎_elim (λ b. true≢false (sym b ∙ good_not pivot 2)) (λ o. false≢true o.0) r)
        (unit.others (plus 2) second);
    none_open = λ unit. false≢true unit.open_yet;
    other_type = λ unit. false≢true (sym (theirs pivot) ∙ unit.pivot_type);
    absent = λ unit. each (λ l. l ≡ minus 3 → ⊥) (λ e. true≢false (ap (λ (l : Literal). l.positive) e))
        (λ e. true≢false (ap (λ (l : Literal). l.positive) e)) (λ e. true≢false (ap (λ (l : Literal). l.positive) e))
        (minus 3) unit.stands refl;
    is_bad = bad_with_open;
    pivot_open = not_bad (assumed_value (bad pivot 1 ∷ bad pivot 2 ∷ [])) refl;
    good_row = λ bad_row. ⊎_elim (λ k. k)
        (λ r. ⊎_elim (λ b. true≢false (sym b ∙ good_not pivot 2)) (λ o. false≢true o.0) r) (bad_row (plus 2) second);
    quiet = record {
      none_bad = λ row i bad_row. not_bad (assumed_value (bad pivot 1 ∷ [])) refl
          (subst (λ r. IsBadRow pivot (alternating pivot) (assumed_value (bad pivot 1 ∷ [])) r) (sym (one_row row i))
          bad_row);
      none_unit = λ row l i unit. let u =
          subst (λ r. IsUnitIn pivot (alternating pivot) (assumed_value (bad pivot 1 ∷ [])) r l) (sym (one_row row i))
          unit in not_unit l u.stands u;
    };
    unit_not_quiet = λ quiet. quiet.none_unit three (plus 1) alone with_later;
    bad_not_quiet = λ quiet. quiet.none_bad three alone bad_with_open;
  }

  -- one literal of a row that is clean but for 3
  abbrev Behind : Trail → Literal → Type 0
  Behind trail l = (l ≡ plus 3)
      ⊎ (IsTrue (is_bad_now pivot (value_on trail) l)
      × (IsTrue (is_some (value_on trail 3)) → place_on trail l.variable < place_on trail 3))

  pub clean_rows : WorkedCleanRows pivot
  clean_rows = record {
    values = refl;
    place = refl;
    level = refl;
    last = refl;
    cut = refl;
    cut_below = refl;
    not_cut = refl;
    clean = each (λ l. IsTrue (is_bad_now pivot (value_on (with_last pivot (bad pivot 3))) l)) (bad_is pivot 1)
        (bad_is pivot 2) (bad_is pivot 3);
    last_good = λ clean. true≢false (sym (clean (plus 3) third) ∙ good_not pivot 3);
    last_open = λ clean. false≢true (clean (plus 3) third);
    clean_but = each (Behind (with_last pivot (good pivot 3)))
        (inr (bad_is pivot 1, λ a. (let h : 0 < 2 = omega arith in h)))
        (inr (bad_is pivot 2, λ a. (let h : 1 < 2 = omega arith in h))) (inl refl);
    clean_but_open = each (Behind (cut_trail 1 (with_last pivot (good pivot 3))))
        (inr (bad_is pivot 1, λ a. absurd (false≢true a))) (inr (bad_is pivot 2, λ a. absurd (false≢true a)))
        (inl refl);
    two_after = λ but. ⊎_elim two_not_three (λ r. let h : 2 < 1 = r.1 refl in omega arith) (but (plus 2) second);
    two_open = λ but. ⊎_elim two_not_three (λ r. false≢true r.0) (but (plus 2) second);
    unit_at_one = record {
      below = (let h : 1 < 2 = omega arith in h);
      unit = unit_in_last
          (value_on (cut_trail 1 (with_last pivot (bad pivot 3)))) refl refl refl;
    };
    not_at_none = λ makes. ⊎_elim one_not_three
        (λ r. ⊎_elim (λ b. false≢true b) (λ o. true≢false (sym (side_itself pivot) ∙ o.1)) r)
        (makes.unit.others (plus 1) first);
    not_at_its_own = λ makes. let h : 1 < 1 = makes.below in omega arith;
  }
