-- The scopes of a prefix one after another, and a last one behind them.
use Rattle.std.proofs.Common.{◌≡◌, ℕ, zero, suc, ◌+◌, ◌-◌, ◌<◌, ◌≤◌, true, false, List, [], ◌∷◌, ◌++◌, length, take, drop, get_or, max, Option, Some, None, Result, Err, refl, sym, ap, subst, ◌∙◌, ⊎_elim, append_assoc, append-nil, arith, nat_eq}
use Rattle.std.specs.Prelude.{is_some, slice_get, unwrap_or, if◌then◌else◌, IsOkUnless, MatchOption}
use Rattle.std.specs.Option.{option_map}
use Rattle.std.specs.List.{AllByRecursion}
use Rattle.std.specs.List.Sorted.{IsPermutation}
use Rattle.std.proofs.lemmas.Bool.{eqb-true, ne_eqb, or_cases, or_left, or_right}
use Rattle.std.proofs.lemmas.List.{take_all}
use Rattle.prefix.specs.declared.quant.Quant.{Quant}
use Rattle.prefix.specs.declared.quant.Quant.TheVariants.{Exists, Forall}
use Rattle.prefix.specs.declared.refusal.PrefixRefusal.{PrefixRefusal}
use Rattle.prefix.specs.declared.refusal.PrefixRefusal.TheVariants.{NoMemory}
use Rattle.prefix.specs.Refusals.{variable_refusal}
use Rattle.prefix.specs.Scopes.{Scope, AreDistinct, IsAscending, IsPrefix, all_variables, is_among, level_of, quantifier_at, variables_at, with_variable_at}
use Rattle.prefix.specs.Sides.{is_of}
use Rattle.prefix.proofs.InsertionLemmas.{level_found}
use Rattle.prefix.proofs.ScopeLemmas.{is_among-append}
use Rattle.truth.proofs.OrderLemmas.{has_quantifier}
use Rattle.clauses.specs.Clause.{ascending}
use Rattle.clauses.proofs.Ascending.{ascending_of, ascending_same, permuted_among}
use Rattle.builder.specs.NewScope.{AreNew}
use Rattle.builder.proofs.Scoping.{next_memory, scope_grows as one_grows}
use Rattle.qdimacs.proofs.Fitting.{distinct_apart, distinct_parts, permuted_distinct}
use Rattle.qcir.specs.Building.{ends_existential}
use Rattle.qcir.specs.Translation.{greatest_of, joined_last, own_scope, scopes_with}
use Rattle.calculus.proofs.RowLemmas.{none_from}

-- scopes with one more
abbrev pub and_scope : List Scope → Quant → List ℕ → List Scope
and_scope scopes q vs = scopes ++ record { quantifier = q; variables = vs } ∷ []

-- Variables one after another.

module _ (ss now : List Scope) (q : Quant) (vs : List ℕ) (i n v : ℕ) (low : i < length vs) (is : v ≡ get_or vs i 0)
    (new : AreNew ss vs) (number : n ≡ length ss + 1) (built : now ≡ and_scope ss q (ascending (take i vs))) where
  -- one more variable in the last scope
  pub scope_grows : with_variable_at now (n - 1) v ≡ and_scope ss q (ascending (take (i + 1) vs))
  scope_grows = ap (with_variable_at now (n - 1)) is ∙ one_grows ss now q vs i n low new number built

  -- the next variable is refused for want of memory alone
  pub variable_memory : (r : Result (Unit {0}) PrefixRefusal)
      → MatchOption (variable_refusal now v n) (IsOkUnless r NoMemory) (λ e. r ≡ Err e) → IsOkUnless r NoMemory
  variable_memory r refused =
      next_memory ss now q vs i n low new number built r
      (subst (λ u. MatchOption (variable_refusal now u n) (IsOkUnless r NoMemory) (λ e. r ≡ Err e)) is refused)

pub ascending_kept : (vs : List ℕ) → IsAscending vs → ascending vs ≡ vs
ascending_kept vs up = sym (ascending_of vs vs up (λ v. refl))

-- variables in another order
pub new_permuted : (ss : List Scope) (vs ws : List ℕ) → AreNew ss vs → IsPermutation vs ws → AreNew ss ws
new_permuted ss vs ws new p = record {
  distinct = permuted_distinct vs ws p new.distinct;
  each = λ v h. new.each v (permuted_among v vs ws p ∙ h);
}

pub ascending_permuted : (vs ws : List ℕ) → IsPermutation vs ws → ascending ws ≡ ascending vs
ascending_permuted vs ws p = ascending_same ws vs (λ v. sym (permuted_among v vs ws p))

-- variables that stand in no scope before them
pub new_behind : (ss : List Scope) (vs : List ℕ) → AreDistinct (all_variables ss ++ vs)
    → ((v : ℕ) → is_among v vs ≡ true → (1 ≤ v) × (v ≤ 1048576)) → AreNew ss vs
new_behind ss vs once range = record {
  distinct = (distinct_parts (all_variables ss) vs once).1;
  each = λ v h.
      let r = range v h in (
        r.0,
        r.1,
        none_from (level_of ss v) (level_found ss v ∙ distinct_apart (all_variables ss) vs v once h),
      );
}

-- Scopes one after another.

-- the variables of the scope at a place
abbrev vars_at : List Scope → ℕ → List ℕ
vars_at ss i = unwrap_or (option_map (λ (s : Scope). s.variables) (slice_get ss i)) []

-- the quantifier of the scope at a place
abbrev quant_at : List Scope → ℕ → Option Quant
quant_at ss i = option_map (λ (s : Scope). s.quantifier) (slice_get ss i)

quantifier_from : (ss : List Scope) (i : ℕ) → quantifier_at ss (i + 1) ≡ quant_at ss i
quantifier_from ss i =
    let back : i + 1 - 1 ≡ i = omega arith in
    ap (λ b. if b then None else quant_at ss (i + 1 - 1)) (ne_eqb (i + 1) 0 (λ e. omega (arith, e)))
    ∙ ap (quant_at ss) back

variables_from : (ss : List Scope) (i : ℕ) → variables_at ss (i + 1) ≡ vars_at ss i
variables_from ss i = let back : i + 1 - 1 ≡ i = omega arith in ap (vars_at ss) back

scopes_more : (ss : List Scope) (i : ℕ) (q : Quant) → quant_at ss i ≡ Some q
    → take (suc i) ss ≡ and_scope (take i ss) q (vars_at ss i)
scopes_more [] i q h = absurd (let e : None ≡ Some q = h in cc)
scopes_more (s ∷ ss) zero q h =
    ap (λ o. record { quantifier = unwrap_or o s.quantifier; variables = s.variables } ∷ []) h
scopes_more (s ∷ ss) (suc i) q h = ap (λ r. s ∷ r) (scopes_more ss i q h)

ascending_at : (ss : List Scope) (i : ℕ) → AllByRecursion (λ (s : Scope). IsAscending s.variables) ss
    → IsAscending (vars_at ss i)
ascending_at [] i all = tt
ascending_at (s ∷ ss) zero all = all.0
ascending_at (s ∷ ss) (suc i) all = ascending_at ss i all.1

-- the variables of one more scope
variables_more : (ss : List Scope) (i : ℕ) → i < length ss
    → all_variables (take (suc i) ss) ≡ all_variables (take i ss) ++ vars_at ss i
variables_more [] i low = absurd (omega arith)
variables_more (s ∷ ss) zero low = append-nil s.variables
variables_more (s ∷ ss) (suc i) low =
    ap (λ r. s.variables ++ r) (variables_more ss i (omega arith))
    ∙ sym (append_assoc s.variables (all_variables (take i ss)) (vars_at ss i))

-- those of the first scopes, and those of the others
variables_parted : (ss : List Scope) (i : ℕ) → all_variables ss ≡ all_variables (take i ss) ++ all_variables (drop i ss)
variables_parted [] zero = refl
variables_parted [] (suc i) = refl
variables_parted (s ∷ ss) zero = refl
variables_parted (s ∷ ss) (suc i) =
    ap (λ r. s.variables ++ r) (variables_parted ss i)
    ∙ sym (append_assoc s.variables (all_variables (take i ss)) (all_variables (drop i ss)))

-- what holds of all holds of each
pub all_among : (P : ℕ → Type 0) (xs : List ℕ) → AllByRecursion P xs → (v : ℕ) → is_among v xs ≡ true → P v
all_among P [] all v e = absurd (let f : false ≡ true = e in cc)
all_among P (x ∷ xs) all v e =
    ⊎_elim (λ t. subst P (eqb-true x v t) all.0) (λ t. all_among P xs all.1 v t)
    (or_cases (nat_eq x v) (is_among v xs) e)

-- the next scope's variables are new to those before it
pub scope_new : (ss : List Scope) (i : ℕ) → IsPrefix ss → i < length ss → AreNew (take i ss) (variables_at ss (i + 1))
scope_new ss i valid low =
    subst (λ vs. AreNew (take i ss) vs) (sym (variables_from ss i))
    (new_behind (take i ss) (vars_at ss i)
    (subst AreDistinct (variables_more ss i low)
    (distinct_parts (all_variables (take (suc i) ss)) (all_variables (drop (suc i) ss))
    (subst AreDistinct (variables_parted ss (suc i)) valid.distinct)).0)
    (λ v h. all_among (λ u. (1 ≤ u) × (u ≤ 1048576)) (all_variables ss) valid.in_range v
    (ap (is_among v)
    (variables_parted ss (suc i) ∙ ap (λ r. r ++ all_variables (drop (suc i) ss)) (variables_more ss i low))
    ∙ is_among-append v (all_variables (take i ss) ++ vars_at ss i) (all_variables (drop (suc i) ss))
    ∙ or_left (is_among v (all_variables (take i ss) ++ vars_at ss i)) (is_among v (all_variables (drop (suc i) ss)))
    (is_among-append v (all_variables (take i ss)) (vars_at ss i)
    ∙ or_right (is_among v (all_variables (take i ss))) (is_among v (vars_at ss i)) h))))

-- and the scopes with it are the next
pub scope_next : (ss : List Scope) (i : ℕ) (q : Quant) (vs : List ℕ) → IsPrefix ss
    → quantifier_at ss (i + 1) ≡ Some q → vs ≡ variables_at ss (i + 1)
    → and_scope (take i ss) q (ascending vs) ≡ take (i + 1) ss
scope_next ss i q vs valid quant is =
    let vars : vs ≡ vars_at ss i = is ∙ variables_from ss i in
    let more : suc i ≡ i + 1 = omega arith in
    ap (λ us. and_scope (take i ss) q (ascending us)) vars
    ∙ ap (and_scope (take i ss) q) (ascending_kept (vars_at ss i) (ascending_at ss i valid.ascending))
    ∙ sym (scopes_more ss i q (sym (quantifier_from ss i) ∙ quant))
    ∙ ap (λ n. take n ss) more

-- The last scope.

last_by : (ss : List Scope) (n : ℕ) (q : Quant) → length ss ≡ n + 1 → quantifier_at ss (n + 1) ≡ Some q
    → ss ≡ and_scope (take n ss) q (vars_at ss n)
last_by ss n q long h =
    sym (take_all (suc n) ss (omega (arith, long))) ∙ scopes_more ss n q (sym (quantifier_from ss n) ∙ h)

pub last_is : (ss : List Scope) (q : Quant) → 1 ≤ length ss → quantifier_at ss (length ss) ≡ Some q
    → ss ≡ and_scope (take (length ss - 1) ss) q (variables_at ss (length ss))
last_is ss q some h =
    let long : length ss ≡ length ss - 1 + 1 = omega (arith, some) in
    last_by ss (length ss - 1) q long (ap (quantifier_at ss) (sym long) ∙ h)

with_last_is : (first : List Scope) (s : Scope) (names : List ℕ)
    → scopes_with (first ++ s ∷ []) names ≡ first ++ joined_last s.quantifier s.variables names
with_last_is [] s names = refl
with_last_is (x ∷ []) s names = refl
with_last_is (x ∷ y ∷ first) s names = ap (λ r. x ∷ r) (with_last_is (y ∷ first) s names)

exists_is : (o : Option Quant) → is_of o Exists ≡ true → o ≡ Some Exists
exists_is None h = absurd (let e : false ≡ true = h in cc)
exists_is (Some Exists) h = refl
exists_is (Some Forall) h = absurd (let e : false ≡ true = h in cc)

pub last_exists : (ss : List Scope) → ends_existential ss ≡ true
    → (1 ≤ length ss) × (quantifier_at ss (length ss) ≡ Some Exists)
last_exists [] h = absurd (let e : false ≡ true = h in cc)
last_exists (s ∷ ss) h = (omega arith, exists_is (quantifier_at (s ∷ ss) (length (s ∷ ss))) h)

-- the gates in the last scope
pub joined_is : (ss : List Scope) (names : List ℕ) → ends_existential ss ≡ true
    → and_scope (take (length ss - 1) ss) Exists (ascending (variables_at ss (length ss) ++ names))
    ≡ scopes_with ss names
joined_is ss names h =
    let last = last_exists ss h in
    let first = take (length ss - 1) ss in
    sym (ap (λ l. scopes_with l names) (last_is ss Exists last.0 last.1)
    ∙ with_last_is first (record { quantifier = Exists; variables = variables_at ss (length ss) }) names)

-- and behind it
pub followed_is : (ss : List Scope) (names : List ℕ) → ends_existential ss ≡ false
    → scopes_with ss names ≡ ss ++ own_scope names
followed_is [] names h = refl
followed_is (s ∷ rest) names h =
    let long : length rest + 1 ≡ length (s ∷ rest) = omega arith in
    by (quantifier_at (s ∷ rest) (length (s ∷ rest))) refl
    (ap (λ n. is_some (quantifier_at (s ∷ rest) n)) (sym long)
    ∙ has_quantifier (s ∷ rest) (length rest) (omega arith)) h
  where
    by : (o : Option Quant) → quantifier_at (s ∷ rest) (length (s ∷ rest)) ≡ o → is_some o ≡ true
        → is_of o Exists ≡ false → scopes_with (s ∷ rest) names ≡ (s ∷ rest) ++ own_scope names
    by None e t f = absurd (let g : false ≡ true = t in cc)
    by (Some Exists) e t f = absurd (let g : true ≡ false = f in cc)
    by (Some Forall) e t f =
        let ss : List Scope = s ∷ rest in
        let first : List Scope = take (length (s ∷ rest) - 1) (s ∷ rest) in
        let last : Scope = record { quantifier = Forall; variables = variables_at (s ∷ rest) (length (s ∷ rest)) } in
        let is : s ∷ rest ≡ first ++ last ∷ [] = last_is (s ∷ rest) Forall (omega arith) e in
        ap (λ l. scopes_with l names) is ∙ with_last_is first last names
        ∙ sym (append_assoc first (last ∷ []) (own_scope names))
        ∙ ap (λ l. l ++ own_scope names) (sym is)

-- The greatest number.

greatest_both : (xs ys : List ℕ) → greatest_of (xs ++ ys) ≡ max (greatest_of xs) (greatest_of ys)
greatest_both [] ys = omega arith
greatest_both (x ∷ xs) ys = omega (arith, greatest_both xs ys)

-- one more variable is looked at
pub greatest_next : (left later : List ℕ) (v number old new bound : ℕ) → left ≡ v ∷ later → number ≡ v
    → max old (greatest_of left) ≡ bound → new ≡ max old number → max new (greatest_of later) ≡ bound
greatest_next left later v number old new bound steps is before grown =
    let all : greatest_of left ≡ max v (greatest_of later) = ap greatest_of steps in
    omega (arith, all, is, before, grown)

-- of one more scope
pub greatest_scope : (ss : List Scope) (i : ℕ) (vs : List ℕ) (old new : ℕ) → i < length ss
    → vs ≡ variables_at ss (i + 1)
    → old ≡ greatest_of (all_variables (take i ss)) → new ≡ max old (greatest_of vs)
    → new ≡ greatest_of (all_variables (take (i + 1) ss))
greatest_scope ss i vs old new low is before grown =
    let more : i + 1 ≡ suc i = omega arith in
    let all : greatest_of (all_variables (take (i + 1) ss))
    ≡ max (greatest_of (all_variables (take i ss))) (greatest_of (vars_at ss i)) =
    ap (λ n. greatest_of (all_variables (take n ss))) more ∙ ap greatest_of (variables_more ss i low)
    ∙ greatest_both (all_variables (take i ss)) (vars_at ss i) in
    let here : greatest_of vs ≡ greatest_of (vars_at ss i) = ap greatest_of (is ∙ variables_from ss i) in
    omega (arith, all, here, before, grown)
