-- The worked values, literal by literal.
use Rattle.std.proofs.Common.{◌≡◌, zero, suc, ◌<◌, ◌≤◌, ◌⊎◌, false, true, [], ◌∷◌, length, Contains, Some, None, inl, inr, refl, ap, subst, sym, ⊎_elim, arith}
use Rattle.std.specs.Prelude.{IsTrue}
use Rattle.std.proofs.lemmas.Bool.{true≢false, false≢true}
use Rattle.prefix.specs.declared.quant.Quant.TheVariants.{Exists, Forall}
use Rattle.prefix.specs.Literal.{Literal}
use Rattle.calculus.specs.Rows.{Row, depth_of}
use Rattle.calculus.specs.Search.{is_bad_now}
use Rattle.calculus.specs.Worked.{minus, plus}
use Rattle.calculus.proofs.Lists.{contains_cons, contains_head, contains_nil}
use Rattle.prefix.specs.Scopes.{all_variables}
use Rattle.cover.specs.Choices.{AreChoices, AreHitBut, IsHit, MayCover, chosen_at, is_true_one}
use Rattle.cover.specs.Worked.{WorkedChoices, WorkedCovers, WorkedRows, lone, mixed, one_chosen, three_scopes, values}

-- the literals of the two rows
each : (P : Literal → Type 0) → P (minus 1) → P (plus 2) → P (plus 3) → (l : Literal) → Contains mixed l → P l
each P a b c l i =
    ⊎_elim (λ e. subst P e a)
    (λ j. ⊎_elim (λ e. subst P e b)
    (λ k. ⊎_elim (λ e. subst P e c) (λ n. absurd (contains_nil l n)) (contains_cons (plus 3) [] l k))
    (contains_cons (plus 2) (plus 3 ∷ []) l j))
    (contains_cons (minus 1) (plus 2 ∷ plus 3 ∷ []) l i)

both : (P : Literal → Type 0) → P (minus 1) → P (minus 2) → (l : Literal) → Contains lone l → P l
both P a b l i =
    ⊎_elim (λ e. subst P e a)
    (λ j. ⊎_elim (λ e. subst P e b) (λ n. absurd (contains_nil l n)) (contains_cons (minus 2) [] l j))
    (contains_cons (minus 1) (minus 2 ∷ []) l i)

alone : (clause : Row) → Contains (mixed ∷ []) clause → mixed ≡ clause
alone clause i = ⊎_elim (λ e. e) (λ n. absurd (contains_nil clause n)) (contains_cons mixed [] clause i)

first : Contains mixed (minus 1)
first = (0, omega arith, refl)

second : Contains mixed (plus 2)
second = (1, omega arith, refl)

third : Contains mixed (plus 3)
third = (2, omega arith, refl)

-- a literal of the first row is no later than 3
abbrev NoLater : Literal → Type 0
NoLater l = IsTrue (is_true_one Exists three_scopes values l) → depth_of three_scopes l.variable ≤ 3

no_later : (l : Literal) → Contains mixed l → NoLater l
no_later =
    each NoLater (λ t. absurd (false≢true t)) (λ t. (let h : 2 ≤ 3 = omega arith in h))
    (λ t. (let h : 3 ≤ 3 = omega arith in h))

-- the two clauses, and where they stand
either : (P : Row → Type 0) → P mixed → P lone → (clause : Row) → Contains (mixed ∷ lone ∷ []) clause → P clause
either P a b clause i =
    ⊎_elim (λ e. subst P e a)
    (λ j. ⊎_elim (λ e. subst P e b) (λ n. absurd (contains_nil clause n)) (contains_cons lone [] clause j))
    (contains_cons mixed (lone ∷ []) clause i)

differ : mixed ≡ lone → ⊥
differ e = let same : 3 ≡ 2 = ap (λ (r : Row). length r) e in omega (arith, same)

not_hit : IsHit one_chosen lone → ⊥
not_hit (l, i, at) =
    both (λ m. chosen_at one_chosen m.variable ≡ Some m → ⊥) (λ e. none_some e) (λ e. none_some e) l i at
  where
    none_some : {m : Literal} → None ≡ Some m → ⊥
    none_some e = cc

hit_but_lone : AreHitBut (lone ∷ []) (mixed ∷ lone ∷ []) one_chosen
hit_but_lone =
    either (λ clause. Contains (lone ∷ []) clause ⊎ IsHit one_chosen clause) (inr (plus 3, third, refl))
    (inl (contains_head lone []))

-- 3 may stand in a cover of both clauses
third_of_both : MayCover three_scopes values (mixed ∷ lone ∷ []) (plus 3)
third_of_both = record {
  is_true = refl;
  clause = mixed;
  stands = (0, omega arith, refl);
  holds = third;
  latest = λ p. no_later;
  alone = λ p. absurd (false≢true p);
}

-- only 3 is chosen
one_may : AreChoices three_scopes values (mixed ∷ lone ∷ []) one_chosen
one_may zero l at = absurd (none_here at)
  where
    none_here : None ≡ Some l → ⊥
    none_here e = cc
one_may (suc zero) l at = absurd (none_here at)
  where
    none_here : None ≡ Some l → ⊥
    none_here e = cc
one_may (suc (suc zero)) l at = absurd (none_here at)
  where
    none_here : None ≡ Some l → ⊥
    none_here e = cc
one_may (suc (suc (suc zero))) l at =
    let e : Some (plus 3) ≡ Some l = at in
    let same : plus 3 ≡ l = cc in
    subst (λ (m : Literal). (m.variable ≡ 3) × MayCover three_scopes values (mixed ∷ lone ∷ []) m) same
    (refl, third_of_both)
one_may (suc (suc (suc (suc x)))) l at = absurd (none_here at)
  where
    none_here : None ≡ Some l → ⊥
    none_here e = cc

pub choices : WorkedChoices
choices = record {
  later = refl;
  earlier = refl;
  chosen = refl;
  not_chosen = refl;
  innermost = (third, refl, no_later);
  outer = λ taken. let h : 3 ≤ 2 = taken.2 (plus 3) third refl in omega arith;
  universal_one = (
    first,
    refl,
    each (λ l. IsTrue (is_true_one Forall three_scopes values l) → depth_of three_scopes l.variable ≤ 1)
        (λ t. (let h : 1 ≤ 1 = omega arith in h)) (λ t. absurd (false≢true t)) (λ t. absurd (false≢true t)),
  );
  no_other = both (λ l. is_true_one Exists three_scopes values l ≡ false) refl refl;
  hit_but = hit_but_lone;
  not_hit_but = λ hit. ⊎_elim (λ listed. differ (alone lone listed)) not_hit (hit lone (1, omega arith, refl));
  chosen_but = record {
    choices = one_may;
    existential =
        λ clause l i j one. either (λ c. (m : Literal) → Contains c m
        → IsTrue (is_true_one Exists three_scopes values m) → IsHit one_chosen c)
        (λ m k t. (plus 3, third, refl))
        (both (λ m. IsTrue (is_true_one Exists three_scopes values m) → IsHit one_chosen lone)
        (λ t. absurd (false≢true t)) (λ t. absurd (false≢true t)))
        clause i l j one;
    hit = hit_but_lone;
    among = λ clause i. ⊎_elim (λ e. subst (λ (r : Row). Contains (mixed ∷ lone ∷ []) r) e (1, omega arith, refl))
        (λ n. absurd (contains_nil clause n)) (contains_cons lone [] clause i);
  };
  needs_both = λ h. ⊎_elim (λ n. contains_nil lone n) not_hit (h.hit lone (1, omega arith, refl));
  of_no_clause = λ h. let may = (h.choices 3 (plus 3) refl).1 in
      ⊎_elim
      (λ e. both (λ l. plus 3 ≡ l → ⊥)
      (λ q. (let w : 3 ≡ 1 = ap (λ (l : Literal). l.variable) q in omega (arith, w)))
      (λ q. (let w : 3 ≡ 2 = ap (λ (l : Literal). l.variable) q in omega (arith, w)))
      (plus 3) (subst (λ (r : Row). Contains r (plus 3)) (sym e) may.holds) refl)
      (λ n. contains_nil may.clause n)
      (contains_cons lone [] may.clause may.stands);
}

pub covers : WorkedCovers
covers = record {
  latest = record {
    is_true = refl;
    clause = mixed;
    stands = (0, omega arith, refl);
    holds = third;
    latest = λ p. no_later;
    alone = λ p. absurd (false≢true p);
  };
  not_latest = λ may. let h : 3 ≤ 2 =
      may.latest refl (plus 3) (subst (λ (c : Row). Contains c (plus 3)) (alone may.clause may.stands) third) refl in
      omega arith;
  needless =
      λ may. true≢false
      (may.alone refl (plus 2) (subst (λ (c : Row). Contains c (plus 2)) (alone may.clause may.stands) second));
  needed = record {
    is_true = refl;
    clause = lone;
    stands = (1, omega arith, refl);
    holds = (0, omega arith, refl);
    latest = λ p. absurd (false≢true p);
    alone = λ p. both (λ l. is_true_one Exists three_scopes values l ≡ false) refl refl;
  };
}

-- the literals of rows of one and of two
sole : (P : Literal → Type 0) (m : Literal) → P m → (l : Literal) → Contains (m ∷ []) l → P l
sole P m a l i = ⊎_elim (λ e. subst P e a) (λ n. absurd (contains_nil l n)) (contains_cons m [] l i)

pair : (P : Literal → Type 0) (m n : Literal) → P m → P n → (l : Literal) → Contains (m ∷ n ∷ []) l → P l
pair P m n a b l i = ⊎_elim (λ e. subst P e a) (λ j. sole P n b l j) (contains_cons m (n ∷ []) l i)

abbrev HasVariable : Literal → Type 0
HasVariable l = Contains (all_variables three_scopes) l.variable

first_known : HasVariable (minus 1)
first_known = (0, omega arith, refl)

third_known : HasVariable (plus 3)
third_known = (2, omega arith, refl)

-- a row shares a literal with a clause
abbrev Shares : Row → Row → Type 0
Shares row clause = (l : Literal) × Contains clause l × Contains row l

fourth_differs : (l : Literal) → Contains mixed l → l.variable ≡ 4 → ⊥
fourth_differs =
    each (λ l. l.variable ≡ 4 → ⊥) (λ e. omega (arith, e)) (λ e. omega (arith, e)) (λ e. omega (arith, e))

third_differs : (l : Literal) → Contains lone l → l.variable ≡ 3 → ⊥
third_differs = both (λ l. l.variable ≡ 3 → ⊥) (λ e. omega (arith, e)) (λ e. omega (arith, e))

pub cover_rows : WorkedRows
cover_rows = record {
  cover = record {
    is_row = record { ascending = (tt, tt); over_prefix = sole HasVariable (plus 3) third_known };
    literals = sole (MayCover three_scopes values (mixed ∷ [])) (plus 3) covers.latest;
    bad = λ l i. sole (λ m. is_bad_now Forall values m ≡ true) (plus 3) refl l i;
    hits = λ clause i. subst (Shares (plus 3 ∷ [])) (alone clause i) (plus 3, third, (0, omega arith, refl));
  };
  of_both = record {
    is_row = record {
      ascending = (((let h : 1 < 3 = omega arith in h), tt), (tt, tt));
      over_prefix = pair HasVariable (minus 1) (plus 3) first_known third_known;
    };
    literals = pair (MayCover three_scopes values (mixed ∷ lone ∷ [])) (minus 1) (plus 3) covers.needed third_of_both;
    bad = λ l i. pair (λ m. is_bad_now Forall values m ≡ true) (minus 1) (plus 3) refl refl l i;
    hits = either (Shares (minus 1 ∷ plus 3 ∷ [])) (plus 3, third, (1, omega arith, refl))
        (minus 1, (0, omega arith, refl), (0, omega arith, refl));
  };
  not_latest_row = λ h. covers.not_latest (h.literals (plus 2) (0, omega arith, refl));
  needless_row = λ h. covers.needless (h.literals (minus 1) (0, omega arith, refl));
  of_no_clause = λ h. let may = h.literals (plus 4) (1, omega arith, refl) in
      fourth_differs (plus 4)
      (subst (λ (c : Row). Contains c (plus 4)) (sym (alone may.clause may.stands)) may.holds) refl;
  misses_one = λ h. let hit = h.hits lone (1, omega arith, refl) in
      sole (λ l. Contains lone l → ⊥) (plus 3) (λ i. third_differs (plus 3) i refl) hit.0 hit.2 hit.1;
  not_ascending = λ h. let e : 3 < 1 = h.is_row.ascending.0.0 in omega (arith, e);
}
