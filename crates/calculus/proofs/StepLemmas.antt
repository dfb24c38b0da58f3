-- Derivations with ids: what stays after a filter, one more step, and the inferences of one side.
use Rattle.std.proofs.Common.{◌≡◌, ℕ, ◌<◌, ◌⊎◌, Bool, true, List, [], ◌∷◌, ◌++◌, get_or, map, filter, Contains, AllPairs, sym, refl, ap, ◌∙◌, inl, inr, ⊎_elim, arith, nat_eq, Some}
use Rattle.std.proofs.lemmas.Bool.{cond-true, cond-false, eq-eqb, ne_eqb}
use Rattle.std.proofs.lemmas.List.Elements.{Contains-append_left, Contains-push_cases, Contains-get_or}
use Rattle.std.proofs.lemmas.List.Kept.{AllPairs-filter}
use Rattle.std.proofs.lemmas.List.Quantifiers.{all_pairs_push}
use Rattle.prefix.specs.Scopes.{Scope}
use Rattle.prefix.specs.declared.quant.Quant.{Quant}
use Rattle.calculus.specs.Derivations.{Antecedent, IsClosed, IsDerivation, IsInference, IsLegal, IsLegalAfter, IsLegalStep, RestsOn, Step, Why, inference_of, inferences_of, of_side, reason_of, row_at}
use Rattle.calculus.specs.Derivations.Why.{FinishedFrom, Given, ReducedFrom, ResolvedFrom}
use Rattle.calculus.specs.Rows.{IsRow, Row, same_quantifier}
use Rattle.calculus.proofs.Lists.{pairs_head, pairs_tail, contains_cons, contains_nil, contains_head, contains_tail, filter_at, filter_from}
use Rattle.calculus.proofs.RowLemmas.{same_true, same_from}

-- a filter that keeps what each kept step rests on leaves a derivation
module _ (scopes : List Scope) (clauses : List Row) (steps : List Step) (keep : Step → Bool)
    (closed : IsClosed keep steps) where
  kept_antecedent : (s : Step) (id : ℕ) → Contains steps s → keep s ≡ true → RestsOn s.why id → Antecedent steps s id
      → Antecedent (filter keep steps) s id
  kept_antecedent s id i k rests a =
      record {
        step = a.step;
        stands = filter_from keep steps a.step a.stands
            (closed s a.step i a.stands k (rw (← a.is) at rests));
        is = a.is;
        earlier = a.earlier;
        one_side = a.one_side;
      }

  kept_step : (s : Step) (why : Why) → s.why ≡ why → Contains steps s → keep s ≡ true → IsLegalStep scopes clauses steps
      s why → IsLegalStep scopes clauses (filter keep steps) s why
  unfolding kept_antecedent
  kept_step s Given e i k legal = legal
  kept_step s (ReducedFrom a) e i k legal = record {
    from = kept_antecedent s a i k (rw e refl) legal.from;
    removes =
        legal.removes;
    result = legal.result;
  }
  kept_step s (ResolvedFrom a b x) e i k legal = record {
    from_positive = kept_antecedent s a i k (rw e (inl refl)) legal.from_positive;
    from_negative = kept_antecedent s b i k (rw e (inr refl)) legal.from_negative;
    has_positive = legal.has_positive;
    has_negative = legal.has_negative;
    is_pivot_variable = legal.is_pivot_variable;
    no_clash = legal.no_clash;
    result = legal.result;
  }
  kept_step s (FinishedFrom a) e i k legal = absurd legal

  pub kept_derivation : IsDerivation scopes clauses steps → IsDerivation scopes clauses (filter keep steps)
  kept_derivation d = record {
    ascending_ids = AllPairs-filter (λ s t. s.id < t.id) keep steps d.ascending_ids;
    rows = λ s i. d.rows s (filter_at keep steps s i).0;
    legal = λ s i. let r = filter_at keep steps s i in kept_step s s.why refl r.0 r.1 (d.legal s r.0);
  }

-- one more step
module _ (scopes : List Scope) (clauses : List Row) (steps : List Step) (new : Step) where
  abbrev more_antecedent : (s : Step) (id : ℕ) → Antecedent steps s id → Antecedent (steps ++ new ∷ []) s id
  more_antecedent s id a = record {
    step = a.step;
    stands = Contains-append_left steps (new ∷ []) a.step a.stands;
    is =
        a.is;
    earlier = a.earlier;
    one_side = a.one_side;
  }

  more_step : (s : Step) (why : Why) → IsLegalStep scopes clauses steps s why → IsLegalStep scopes clauses
      (steps ++ new ∷ []) s why
  more_step s Given legal = legal
  more_step s (ReducedFrom a) legal = record {
    from = more_antecedent s a legal.from;
    removes = legal.removes;
    result =
        legal.result;
  }
  more_step s (ResolvedFrom a b x) legal = record {
    from_positive = more_antecedent s a legal.from_positive;
    from_negative = more_antecedent s b legal.from_negative;
    has_positive = legal.has_positive;
    has_negative = legal.has_negative;
    is_pivot_variable = legal.is_pivot_variable;
    no_clash = legal.no_clash;
    result = legal.result;
  }
  more_step s (FinishedFrom a) legal = absurd legal

  pub one_more_step : IsDerivation scopes clauses steps → ((s : Step) → Contains steps s → s.id < new.id)
      → IsRow scopes new.row → IsLegalStep scopes clauses steps new new.why → IsDerivation scopes clauses
      (steps ++ new ∷ [])
  one_more_step d above is_row legal = record {
    ascending_ids = all_pairs_push (λ s t. s.id < t.id) steps new d.ascending_ids
        (λ k s below. above (get_or steps k s) (Contains-get_or steps k s below));
    rows = λ s i. ⊎_elim (λ j. d.rows s j) (λ e. rw (← e) is_row) (Contains-push_cases steps new s i);
    legal = λ s i. ⊎_elim (λ j. more_step s s.why (d.legal s j)) (λ e. rw (← e) (more_step new new.why legal))
        (Contains-push_cases steps new s i);
  }

-- the row of a step by its id
pub row_at_step : (steps : List Step) → AllPairs (λ s t. s.id < t.id) steps → (t : Step) → Contains steps t
    → row_at steps t.id ≡ t.row
row_at_step [] up t i = absurd (contains_nil t i)
row_at_step (s ∷ steps) up t i =
    ⊎_elim (λ e. cond-true (nat_eq s.id t.id) s.row (row_at steps t.id) (eq-eqb s.id t.id (ap (λ (u : Step). u.id) e))
    ∙ ap (λ (u : Step). u.row) e)
    (λ j. let below : s.id < t.id = pairs_head (λ (a : Step) (b : Step). a.id < b.id) s steps up t j in
    cond-false (nat_eq s.id t.id) s.row (row_at steps t.id) (ne_eqb s.id t.id (omega arith)) ∙ row_at_step steps
    (pairs_tail (λ (a : Step) (b : Step). a.id < b.id) s steps up) t j)
    (contains_cons s steps t i)

-- the inferences of a derivation of one side are legal
module _ (pivot : Quant) (scopes : List Scope) (clauses : List Row) (steps : List Step)
    (d : IsDerivation scopes clauses steps) (one : (s : Step) → Contains steps s → s.side ≡ pivot) where
  antecedent_row : (s : Step) (id : ℕ) (a : Antecedent steps s id) → row_at steps id ≡ a.step.row
  antecedent_row s id a = ap (row_at steps) (sym a.is) ∙ row_at_step steps d.ascending_ids a.step a.stands

  as_step : (earlier : List Row) (s : Step) → s.side ≡ pivot
      → ((t : Step) → Contains steps t → t.id < s.id → Contains earlier t.row) → (why : Why)
      → IsLegalStep scopes clauses steps s why → IsInference pivot scopes clauses earlier s.row (reason_of steps why)
  as_step earlier s side before Given legal = rw side at legal
  as_step earlier s side before (ReducedFrom a) legal =
      let t = legal.from in
      let same : row_at steps a ≡ t.step.row = antecedent_row s a t in
      rw same (before t.step t.stands (rw t.is t.earlier), legal.removes, rw (← side) legal.result)
  as_step earlier s side before (ResolvedFrom a b x) legal =
      let p = legal.from_positive in
      let q = legal.from_negative in
      let same_p : row_at steps a ≡ p.step.row = antecedent_row s a p in
      let same_q : row_at steps b ≡ q.step.row = antecedent_row s b q in
      record {
        earlier_positive = rw same_p (before p.step p.stands (rw p.is p.earlier));
        earlier_negative = rw same_q (before q.step q.stands (rw q.is q.earlier));
        has_positive = rw same_p legal.has_positive;
        has_negative = rw same_q legal.has_negative;
        is_pivot_variable = legal.is_pivot_variable ∙ ap Some side;
        no_clash = rw (same_p, same_q) legal.no_clash;
        result = rw (same_p, same_q) legal.result;
      }
  as_step earlier s side before (FinishedFrom a) legal = absurd legal

  as_inferences : (front rest : List Step) → AllPairs (λ s t. s.id < t.id) rest
      → ((t : Step) → Contains steps t → Contains front t ⊎ Contains rest t)
      → ((t : Step) → Contains rest t → Contains steps t) → (earlier : List Row)
      → ((t : Step) → Contains front t → Contains earlier t.row) → IsLegalAfter pivot scopes clauses earlier
      (map (inference_of steps) rest)
  as_inferences front [] up split in_steps earlier covers = tt
  as_inferences front (s ∷ rest) up split in_steps earlier covers =
      let i = in_steps s (contains_head s rest) in (
        d.rows s i,
        as_step earlier s (one s i)
            (λ t j below. ⊎_elim (λ k. covers t k)
            (λ k. absurd (⊎_elim (λ e. let same : s.id ≡ t.id = ap (λ (u : Step). u.id) e in omega arith)
            (λ m. let above : s.id < t.id = pairs_head (λ (a : Step) (b : Step). a.id < b.id) s rest up t m in
            omega arith) (contains_cons s rest t k)))
            (split t j))
            s.why (d.legal s i),
        as_inferences (s ∷ front) rest (pairs_tail (λ (a : Step) (b : Step). a.id < b.id) s rest up)
            (λ t j. ⊎_elim (λ k. inl (contains_tail s front t k))
            (λ k. ⊎_elim (λ e. inl (rw e (contains_head t front))) inr (contains_cons s rest t k)) (split t j))
            (λ t j. in_steps t (contains_tail s rest t j))
            (s.row ∷ earlier)
            (λ t j. ⊎_elim (λ e. rw (← e) (contains_head s.row earlier))
            (λ k. contains_tail s.row earlier t.row (covers t k)) (contains_cons s front t j)),
      )

  pub inferences_legal : IsLegal pivot scopes clauses (inferences_of steps)
  inferences_legal = as_inferences [] steps d.ascending_ids (λ t i. inr i) (λ t i. i) []
      (λ t i. absurd (contains_nil t i))

-- steps with one id are one
pub one_step : (steps : List Step) → AllPairs (λ s t. s.id < t.id) steps → (s t : Step) → Contains steps s
    → Contains steps t → s.id ≡ t.id → s ≡ t
one_step [] up s t i j e = absurd (contains_nil s i)
one_step (u ∷ steps) up s t i j e =
    let above : (v : Step) → Contains steps v → u.id < v.id = pairs_head (λ (a : Step) (b : Step). a.id < b.id) u steps
    up in
    ⊎_elim (λ p. ⊎_elim (λ q. sym p ∙ q)
    (λ q. absurd (let below = above t q in let f : u.id ≡ s.id = ap (λ (v : Step). v.id) p in omega arith))
    (contains_cons u steps t j))
    (λ p. ⊎_elim (λ q. absurd (let below = above s p in let f : u.id ≡ t.id = ap (λ (v : Step). v.id) q in omega arith))
    (λ q. one_step steps (pairs_tail (λ (a : Step) (b : Step). a.id < b.id) u steps up) s t p q e)
    (contains_cons u steps t j))
    (contains_cons u steps s i)

-- so are those of one side of a derivation
module _ (side : Quant) (scopes : List Scope) (clauses : List Row) (steps : List Step)
    (d : IsDerivation scopes clauses steps) where
  antecedent_side : (s t : Step) (id : ℕ) → Antecedent steps s id → id ≡ t.id → Contains steps t → t.side ≡ s.side
  antecedent_side s t id a e j = ap (λ (u : Step). u.side)
      (sym (one_step steps d.ascending_ids a.step t a.stands j (a.is ∙ e))) ∙ a.one_side

  same_side : (s t : Step) (why : Why) → IsLegalStep scopes clauses steps s why → Contains steps t → RestsOn why t.id
      → t.side ≡ s.side
  same_side s t Given legal j rests = absurd rests
  same_side s t (ReducedFrom a) legal j rests = antecedent_side s t a legal.from rests j
  same_side s t (ResolvedFrom a b x) legal j rests = ⊎_elim (λ e. antecedent_side s t a legal.from_positive e j)
      (λ e. antecedent_side s t b legal.from_negative e j) rests
  same_side s t (FinishedFrom a) legal j rests = absurd legal

  side_is : {a b : Quant} → Some a ≡ Some b → a ≡ b
  side_is {a} {b} e = cc

  pub of_side_derivation : IsDerivation scopes clauses (of_side side steps)
  of_side_derivation = kept_derivation scopes clauses steps (λ s. same_quantifier s.side side)
      (λ s t i j k rests. same_from (Some t.side) side (ap Some (same_side s t s.why (d.legal s i) j rests)
      ∙ same_true (Some s.side) side k)) d

  pub side_legal : IsLegal side scopes clauses (inferences_of (of_side side steps))
  side_legal = inferences_legal side scopes clauses (of_side side steps) of_side_derivation
      (λ s i. side_is
      (same_true (Some s.side) side (filter_at (λ (t : Step). same_quantifier t.side side) steps s i).1))
