-- The core of a step: the steps of a derivation that it needs.
use Rattle.std.proofs.Common.{◌≡◌, ℕ, ◌<◌, ◌⊎◌, Bool, true, ◌||◌, ◌&&◌, List, [], ◌∷◌, Some, Contains, AllPairs, nat_eq, refl, ap, subst, ◌∙◌, inl, inr, ⊎_elim, arith}
use Rattle.std.proofs.lemmas.Bool.{eq-eqb, eqb-true, false≢true, or_left, or_right, or_cases, and_from, and_parts}
use Rattle.prefix.specs.declared.quant.Quant.{Quant}
use Rattle.prefix.specs.Scopes.{Scope}
use Rattle.calculus.specs.Rows.{Row, same_quantifier}
use Rattle.calculus.specs.Derivations.{Step, Why, IsDerivation, IsLegalStep, IsCoreOf, RestsOn, rests_on, needed, core_of, of_side, side_core}
use Rattle.calculus.specs.Derivations.Why.{Given, ReducedFrom, ResolvedFrom, FinishedFrom}
use Rattle.calculus.proofs.Lists.{contains_cons, contains_nil, contains_head, contains_tail, filter_at, filter_from, pairs_head, pairs_tail}
use Rattle.calculus.specs.DerivationTheorems.{IsItsCore}
use Rattle.calculus.proofs.RowLemmas.{same_from, same_true}
use Rattle.calculus.proofs.StepLemmas.{kept_derivation, of_side_derivation, one_step}

-- the test and the relation
pub rests_true : (why : Why) (id : ℕ) → RestsOn why id → rests_on why id ≡ true
rests_true Given id h = absurd h
rests_true (ReducedFrom a) id h = eq-eqb a id h
rests_true (ResolvedFrom a b x) id h = ⊎_elim (λ e. or_left (nat_eq a id) (nat_eq b id) (eq-eqb a id e))
    (λ e. or_right (nat_eq a id) (nat_eq b id) (eq-eqb b id e)) h
rests_true (FinishedFrom a) id h = eq-eqb a id h

pub rests_from : (why : Why) (id : ℕ) → rests_on why id ≡ true → RestsOn why id
rests_from Given id h = false≢true h
rests_from (ReducedFrom a) id h = eqb-true a id h
rests_from (ResolvedFrom a b x) id h = ⊎_elim (λ t. inl (eqb-true a id t)) (λ t. inr (eqb-true b id t))
    (or_cases (nat_eq a id) (nat_eq b id) h)
rests_from (FinishedFrom a) id h = eqb-true a id h

-- what is needed stays needed before it
abbrev adds : Bool → Bool → Bool → Bool
adds later used rests = later || (used && rests)

adds_more : (later used rests : Bool) → later ≡ true → adds later used rests ≡ true
adds_more later used rests h = or_left later (used && rests) h

adds_one : (later used rests : Bool) → used ≡ true → rests ≡ true → adds later used rests ≡ true
adds_one later used rests u r = or_right later (used && rests) (and_from used rests u r)

adds_cases : (later used rests : Bool) → adds later used rests ≡ true → (later ≡ true)
    ⊎ ((used ≡ true) × (rests ≡ true))
adds_cases later used rests h = ⊎_elim inl (λ b. inr (and_parts used rests b)) (or_cases later (used && rests) h)

-- steps rest on earlier ones
abbrev RestEarlier : List Step → Type 0
RestEarlier steps = (s : Step) (id : ℕ) → Contains steps s → rests_on s.why id ≡ true → id < s.id

abbrev Ascend : List Step → Type 0
Ascend steps = AllPairs (λ (s : Step) (t : Step). s.id < t.id) steps

-- what a needed step rests on is needed
needed_closed : (steps : List Step) (end : ℕ) → Ascend steps → RestEarlier steps → (s : Step) (id : ℕ)
    → Contains steps s → needed steps end s.id ≡ true → rests_on s.why id ≡ true → needed steps end id ≡ true
needed_closed [] end up earlier s id i n r = absurd (contains_nil s i)
needed_closed (h ∷ rest) end up earlier s id i n r =
    let later = needed rest end in
    let below : RestEarlier rest = λ t a j. earlier t a (contains_tail h rest t j) in
    ⊎_elim
    (λ (e : h ≡ s).
    ⊎_elim
    (λ (l : later s.id ≡ true). adds_one (later id) (later h.id) (rests_on h.why id)
    (ap (λ (t : Step). later t.id) e ∙ l) (ap (λ (t : Step). rests_on t.why id) e ∙ r))
    (λ both. adds_one (later id) (later h.id) (rests_on h.why id) both.0 (ap (λ (t : Step). rests_on t.why id) e ∙ r))
    (adds_cases (later s.id) (later h.id) (rests_on h.why s.id) n))
    (λ (j : Contains rest s).
    adds_more (later id) (later h.id) (rests_on h.why id)
    (⊎_elim
    (λ (l : later s.id ≡ true). needed_closed rest end (pairs_tail (λ (s : Step) (t : Step). s.id < t.id) h rest up)
    below s id j l r)
    (λ both. absurd (let a : s.id < h.id = earlier h s.id (contains_head h rest) both.1 in let b : h.id < s.id =
    pairs_head (λ (s : Step) (t : Step). s.id < t.id) h rest up s j in omega arith))
    (adds_cases (later s.id) (later h.id) (rests_on h.why s.id) n)))
    (contains_cons h rest s i)

-- what is needed is the end, or some needed step rests on it
pub needed_used : (steps : List Step) (end id : ℕ) → needed steps end id ≡ true → (id ≡ end)
    ⊎ ((t : Step) × Contains steps t × (needed steps end t.id ≡ true) × (rests_on t.why id ≡ true))
needed_used [] end id n = inl (eqb-true id end n)
needed_used (h ∷ rest) end id n =
    let later = needed rest end in
    ⊎_elim
    (λ l. ⊎_elim inl
    (λ r. inr (
      r.0,
      contains_tail h rest r.0 r.1,
      adds_more (later r.0.id) (later h.id) (rests_on h.why r.0.id) r.2,
      r.3,
    )) (needed_used rest end id l))
    (λ both. inr (h, contains_head h rest, adds_more (later h.id) (later h.id) (rests_on h.why h.id) both.0, both.1))
    (adds_cases (later id) (later h.id) (rests_on h.why id) n)

needed_end : (steps : List Step) (end : ℕ) → needed steps end end ≡ true
needed_end [] end = eq-eqb end end refl
needed_end (h ∷ rest) end = adds_more (needed rest end end) (needed rest end h.id) (rests_on h.why end)
    (needed_end rest end)

module _ (scopes : List Scope) (clauses : List Row) (steps : List Step) (d : IsDerivation scopes clauses steps) where
  step_earlier : (s : Step) (why : Why) (id : ℕ) → IsLegalStep scopes clauses steps s why → RestsOn why id → id < s.id
  step_earlier s Given id legal h = absurd h
  step_earlier s (ReducedFrom a) id legal h = subst (λ n. n < s.id) h legal.from.earlier
  step_earlier s (ResolvedFrom a b x) id legal h = ⊎_elim (λ e. subst (λ n. n < s.id) e legal.from_positive.earlier)
      (λ e. subst (λ n. n < s.id) e legal.from_negative.earlier) h
  step_earlier s (FinishedFrom a) id legal h = absurd legal

  rest_earlier : RestEarlier steps
  rest_earlier s id i r = step_earlier s s.why id (d.legal s i) (rests_from s.why id r)

  module _ (end : Step) (stands : Contains steps end) where
    abbrev keep : Step → Bool
    keep s = needed steps end.id s.id

    pub core_derivation : IsDerivation scopes clauses (core_of steps end.id)
    core_derivation = kept_derivation scopes clauses steps keep
        (λ s t i j k r. needed_closed steps end.id d.ascending_ids rest_earlier s t.id i k (rests_true s.why t.id r)) d

    pub core_stands : Contains (core_of steps end.id) end
    core_stands = filter_from keep steps end stands (needed_end steps end.id)

    pub core_core : IsCoreOf end (core_of steps end.id)
    core_core s i =
        let r = filter_at keep steps s i in
        ⊎_elim
        (λ e. inl (one_step steps d.ascending_ids s end r.0 stands e))
        (λ u. inr (u.0, filter_from keep steps u.0 u.1 u.2, rests_from u.0.why s.id u.3))
        (needed_used steps end.id s.id r.1)

    pub core_within : (s : Step) → Contains (core_of steps end.id) s → Contains steps s
    core_within s i = (filter_at keep steps s i).0

one_quant : {a b : Quant} → Some a ≡ Some b → a ≡ b
one_quant {a} {b} e = cc

-- the steps of its side that a step needs
module _ (scopes : List Scope) (clauses : List Row) (steps : List Step) (end : Step)
    (d : IsDerivation scopes clauses steps) (stands : Contains steps end) where
  whole : IsDerivation scopes clauses (of_side end.side steps)
  whole = of_side_derivation end.side scopes clauses steps d

  there : Contains (of_side end.side steps) end
  there = filter_from (λ (t : Step). same_quantifier t.side end.side) steps end stands
      (same_from (Some end.side) end.side refl)

  pub its_core : IsItsCore scopes clauses steps end (side_core steps end)
  its_core = record {
    part = λ s j. let r = filter_at (λ (t : Step). same_quantifier t.side end.side) steps s
        (core_within scopes clauses (of_side end.side steps) whole end there s j) in
        (r.0, one_quant (same_true (Some s.side) end.side r.1));
    holds_end = core_stands scopes clauses (of_side end.side steps) whole end there;
    is_core = core_core scopes clauses (of_side end.side steps) whole end there;
    legal = core_derivation scopes clauses (of_side end.side steps) whole end there;
  }
