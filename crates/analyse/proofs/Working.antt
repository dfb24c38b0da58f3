-- The worked values, for either side.
use Rattle.std.proofs.Common.{◌≡◌, zero, ℕ, suc, ◌<◌, ◌≤◌, List, Bool, true, false, [], ◌∷◌, Contains, Some, None, refl, sym, subst, inl, inr, ⊎_elim, arith, ◌∙◌}
use Rattle.std.specs.Prelude.{IsTrue}
use Rattle.std.proofs.lemmas.Bool.{true≢false, false≢true}
use Rattle.prefix.specs.declared.quant.Quant.{Quant}
use Rattle.prefix.specs.declared.quant.Quant.TheVariants.{Exists, Forall}
use Rattle.prefix.specs.Literal.{Literal}
use Rattle.prefix.specs.Sides.{bad_of}
use Rattle.calculus.specs.Rows.{is_bad_at, is_pivot, reduce}
use Rattle.calculus.specs.Search.{AreTheAssumptions, MakesUnitAt, Trail, cause_on, decision_level_on, must_stay}
use Rattle.calculus.specs.Search.Cause.{Assumed}
use Rattle.truth.specs.Truth.{assumed_value}
use Rattle.calculus.specs.Worked.{plus}
use Rattle.calculus.specs.WorkedSearch.{alternating, bad, three, with_last}
use Rattle.calculus.proofs.Lists.{contains_cons, contains_nil}
use Rattle.calculus.proofs.WorkingSearch.{clean_rows}
use Rattle.clean.proofs.Working.{blocked_stays, ours, theirs}
use Rattle.analyse.specs.Worked.{WorkedLessons, WorkedLevels, one_between, two_decided}

first : Contains three (plus 1)
first = (0, omega arith, refl)

third : Contains three (plus 3)
third = (2, omega arith, refl)

-- the literals of the row, and of one with two
each : (P : Literal → Type 0) → P (plus 1) → P (plus 2) → P (plus 3) → (l : Literal) → Contains three l → P l
each P a b c l i =
    ⊎_elim (λ e. subst P e a)
    (λ j. ⊎_elim (λ e. subst P e b)
    (λ k. ⊎_elim (λ e. subst P e c) (λ n. absurd (contains_nil l n)) (contains_cons (plus 3) [] l k))
    (contains_cons (plus 2) (plus 3 ∷ []) l j))
    (contains_cons (plus 1) (plus 2 ∷ plus 3 ∷ []) l i)

both : (P : Literal → Type 0) → P (plus 1) → P (plus 2) → (l : Literal) → Contains (plus 1 ∷ plus 2 ∷ []) l → P l
both P a b l i =
    ⊎_elim (λ e. subst P e a)
    (λ j. ⊎_elim (λ e. subst P e b) (λ n. absurd (contains_nil l n)) (contains_cons (plus 2) [] l j))
    (contains_cons (plus 1) (plus 2 ∷ []) l i)

-- one literal of a level
abbrev Counts : Quant → Trail → Literal → ℕ → Literal → Type 0
Counts pivot trail unit level l = IsTrue (must_stay pivot (alternating pivot) unit l)
    → decision_level_on trail l.variable ≤ level

one_stays : (q : Quant) → must_stay q (alternating q) (plus 3) (plus 1) ≡ true
one_stays Exists = refl
one_stays Forall = refl

three_goes : (q : Quant) → must_stay q (alternating q) (plus 3) (plus 3) ≡ false
three_goes Exists = refl
three_goes Forall = refl

one_goes : (q : Quant) → must_stay q (alternating q) (plus 1) (plus 1) ≡ false
one_goes Exists = refl
one_goes Forall = refl

two_goes : (q : Quant) → must_stay q (alternating q) (plus 1) (plus 2) ≡ false
two_goes Exists = refl
two_goes Forall = refl

lone_stays : (q : Quant) → reduce q (alternating q) (plus 2 ∷ []) ≡ plus 2 ∷ []
lone_stays Exists = refl
lone_stays Forall = refl

bad_is : (q : Quant) (x : ℕ) → is_bad_at q (bad_of q) (plus x) ≡ true
bad_is Exists x = refl
bad_is Forall x = refl

pub levels : (pivot : Quant) → WorkedLevels pivot
levels pivot = record {
  level = record {
    bound = each (Counts pivot (with_last pivot (bad pivot 3)) (plus 3) 1) (λ s. (let h : 1 ≤ 1 = omega arith in h))
        (λ s. (let h : 1 ≤ 1 = omega arith in h)) (λ s. absurd (true≢false (sym s ∙ three_goes pivot)));
    reached = inr (plus 1, first, one_stays pivot, refl);
  };
  too_low = λ level. let h : 1 ≤ 0 = level.bound (plus 1) first (one_stays pivot) in omega arith;
  too_high = λ level. ⊎_elim (λ (e : 2 ≡ 0). omega arith)
      (λ r. each (λ l. IsTrue (must_stay pivot (alternating pivot) (plus 3) l)
      → decision_level_on (with_last pivot (bad pivot 3)) l.variable ≡ 2 → ⊥) (λ s (e : 1 ≡ 2). omega arith)
      (λ s (e : 1 ≡ 2). omega arith) (λ s e. true≢false (sym s ∙ three_goes pivot)) r.0 r.1 r.2 r.3) level.reached;
  later_scope = record {
    bound = both (Counts pivot (two_decided pivot) (plus 1) 0) (λ s. absurd (true≢false (sym s ∙ one_goes pivot)))
        (λ s. absurd (true≢false (sym s ∙ two_goes pivot)));
    reached = inl refl;
  };
  first = record {
    makes = at_one;
    least = λ b makes. least_one b makes;
  };
  not_first = λ makes. let h : 2 ≤ 1 = makes.least 1 at_one in omega arith;
}
  where
    at_one : MakesUnitAt pivot (alternating pivot) (one_between pivot) three (plus 3) 1
    at_one = record { below = (let h : 1 < 3 = omega arith in h); unit = (clean_rows pivot).unit_at_one.unit }

    least_one : (b : ℕ) → MakesUnitAt pivot (alternating pivot) (one_between pivot) three (plus 3) b → 1 ≤ b
    least_one zero makes = absurd ((clean_rows pivot).not_at_none
        (record { below = (let h : 0 < 2 = omega arith in h); unit = makes.unit }))
    least_one (suc b) makes = (let h : 1 ≤ suc b = omega arith in h)

pub lessons : (pivot : Quant) → WorkedLessons pivot
lessons pivot = record {
  learn = (
    record {
      step = refl;
      of_side = refl;
      reduced = blocked_stays pivot;
    },
    record {
      makes = (clean_rows pivot).unit_at_one;
      least = λ b makes. least_one b makes;
    },
  );
  other_level = λ lesson. (clean_rows pivot).not_at_none lesson.1.makes;
  end = (
    record { step = refl; of_side = refl; reduced = lone_stays pivot },
    λ assumptions has. record {
      pivots = λ l i p. let e : plus 2 ≡ l = alone l i in
          absurd (true≢false (sym p ∙ subst (λ m. is_pivot pivot (alternating pivot) m ≡ false) e (theirs pivot)));
      bad = λ l b i is. by_value assumptions has l b (alone l i) is;
    },
  );
  no_end = λ lesson. false≢true ((lesson.1 [] none).pivots (plus 3) third (ours pivot));
}
  where
    least_one : (b : ℕ) → MakesUnitAt pivot (alternating pivot) (with_last pivot (bad pivot 3)) three (plus 3) b → 1 ≤ b
    least_one zero makes = absurd ((clean_rows pivot).not_at_none makes)
    least_one (suc b) makes = (let h : 1 ≤ suc b = omega arith in h)

    alone : (l : Literal) → Contains (plus 2 ∷ []) l → plus 2 ≡ l
    alone l i = ⊎_elim (λ e. e) (λ n. absurd (contains_nil l n)) (contains_cons (plus 2) [] l i)

    by_value : (assumptions : List Literal) → AreTheAssumptions (with_last pivot (bad pivot 3)) assumptions
        → (l : Literal) (b : Bool) → plus 2 ≡ l → assumed_value assumptions l.variable ≡ Some b
        → IsTrue (is_bad_at pivot b l)
    by_value assumptions has l b e is =
        let value : Some (bad_of pivot) ≡ Some b =
        (has.stand 2 b (subst (λ (m : Literal). assumed_value assumptions m.variable ≡ Some b) (sym e) is)).0 in
        let same : bad_of pivot ≡ b = cc in
        subst (λ (m : Literal). is_bad_at pivot b m ≡ true) e (subst
        (λ v. is_bad_at pivot v (plus 2) ≡ true) same (bad_is pivot 2))

    none : AreTheAssumptions (with_last pivot (bad pivot 3)) []
    none = record {
      entries = λ x e. absurd (never x e);
      stand = λ x b e. absurd (nothing b e);
    }
      where
        nothing : (b : Bool) → None ≡ Some b → ⊥
        nothing b e = cc

        never : (x : ℕ) → cause_on (with_last pivot (bad pivot 3)) x ≡ Some Assumed → ⊥
        never x e = grind arith
