-- What the values tried so far leave to do.
use Rattle.std.proofs.Common.{◌≡◌, ℕ, zero, suc, ◌+◌, ◌<◌, Bool, true, false, cond, List, [], ◌∷◌, ◌++◌, length, drop, Option, Some, None, refl, sym, ap, ◌∙◌, arith}
use Rattle.std.specs.Prelude.{slice_get}
use Rattle.std.specs.Option.{option_map}
use Rattle.std.proofs.lemmas.Bool.{cond-true, cond-false}
use Rattle.std.proofs.lemmas.List.{length_push}
use Rattle.prefix.specs.declared.quant.Quant.{Quant}
use Rattle.prefix.specs.declared.quant.Quant.TheVariants.{Exists, Forall}
use Rattle.prefix.specs.Literal.{Literal}
use Rattle.truth.specs.Matrix.{Values, no_values, with_value}
use Rattle.truth.specs.Truth.{truth_from, plain_steps_from, joined, settles}
use Rattle.prefix.specs.Scopes.{BoundVariable}
use Rattle.truth.specs.Search.{assigned, Tried}

-- an answer, and how many values are tried until it is found
pub record Outcome : Type 0 where
  pub answer : Bool
  pub ticks : ℕ

abbrev pub Clauses : Type 0
Clauses = List (List Literal)

-- what is left, from its beginning
abbrev pub whole : List BoundVariable → Clauses → Values → Outcome
whole xs cs σ = record { answer = truth_from xs cs σ; ticks = plain_steps_from xs cs σ }

-- an answer that is found
abbrev pub found : Bool → Outcome
found b = record { answer = b; ticks = 0 }

abbrev pub one_more : Outcome → Outcome
one_more o = record { answer = o.answer; ticks = o.ticks + 1 }

-- the outcome for a variable from that at the value being tried
abbrev pub go_on : Bool → BoundVariable → List BoundVariable → Clauses → Values → Outcome → Outcome
go_on true x xs cs σ o = o
go_on false x xs cs σ o =
    cond (settles x.quantifier o.answer) o
    (record {
      answer = truth_from xs cs (with_value x.variable true σ);
      ticks =
          o.ticks + (1 + plain_steps_from xs cs (with_value x.variable true σ));
    })

-- the outcome of all, where the first variables have these values and the others this outcome
abbrev pub resume : List BoundVariable → List Bool → Clauses → Values → Outcome → Outcome
resume xs [] cs σ o = o
resume [] (t ∷ ts) cs σ o = o
resume (x ∷ xs) (t ∷ ts) cs σ o = go_on t x xs cs σ (resume xs ts cs (with_value x.variable t σ) o)

same_outcome : (b c : Bool) (m n : ℕ) → b ≡ c → m ≡ n → record { answer = b; ticks = m } ≡
    (let o : Outcome = record { answer = c; ticks = n } in o)
same_outcome b c m n p q = cc

-- a variable is tried at false first
whole_more : (x : BoundVariable) (xs : List BoundVariable) (cs : Clauses) (σ : Values) → whole (x ∷ xs) cs σ ≡ one_more
    (go_on false x xs cs σ (whole xs cs (with_value x.variable false σ)))
whole_more x xs cs σ =
    by_quantifier x.quantifier (truth_from xs cs (with_value x.variable false σ))
    (truth_from xs cs (with_value x.variable true σ)) (plain_steps_from xs cs (with_value x.variable false σ))
    (plain_steps_from xs cs (with_value x.variable true σ))
  where
    by_quantifier : (q : Quant) (a b : Bool) (m n : ℕ)
        → record { answer = joined q a b; ticks = cond (settles q a) (1 + m) (1 + m + (1 + n)) } ≡ one_more
        (cond (settles q a) (record { answer = a; ticks = m }) (record { answer = b; ticks = m + (1 + n) }))
    by_quantifier Exists true b m n = same_outcome true true (1 + m) (m + 1) refl (omega arith)
    by_quantifier Exists false b m n = same_outcome b b (1 + m + (1 + n)) (m + (1 + n) + 1) refl (omega arith)
    by_quantifier Forall true b m n = same_outcome b b (1 + m + (1 + n)) (m + (1 + n) + 1) refl (omega arith)
    by_quantifier Forall false b m n = same_outcome false false (1 + m) (m + 1) refl (omega arith)

go_on-one_more : (t : Bool) (x : BoundVariable) (xs : List BoundVariable) (cs : Clauses) (σ : Values) (o : Outcome)
    → go_on t x xs cs σ (one_more o) ≡ one_more (go_on t x xs cs σ o)
go_on-one_more true x xs cs σ o = refl
go_on-one_more false x xs cs σ o = by_test (settles x.quantifier o.answer)
    (truth_from xs cs (with_value x.variable true σ)) (1 + plain_steps_from xs cs (with_value x.variable true σ))
  where
    by_test : (s b : Bool) (n : ℕ) → cond s (one_more o) (record { answer = b; ticks = o.ticks + 1 + n }) ≡ one_more
        (cond s o (record { answer = b; ticks = o.ticks + n }))
    by_test true b n = refl
    by_test false b n = same_outcome b b (o.ticks + 1 + n) (o.ticks + n + 1) refl (omega arith)

-- the next variable is tried at false
pub resume_chosen : (xs : List BoundVariable) (ts : List Bool) (cs : Clauses) (σ : Values) → length ts < length xs
    → resume xs ts cs σ (whole (drop (length ts) xs) cs (assigned xs ts σ)) ≡ one_more
    (resume xs (ts ++ false ∷ []) cs σ (whole (drop (suc (length ts)) xs) cs (assigned xs (ts ++ false ∷ []) σ)))
resume_chosen [] ts cs σ h = absurd (omega arith)
resume_chosen (x ∷ xs) [] cs σ h = whole_more x xs cs σ
resume_chosen (x ∷ xs) (t ∷ ts) cs σ h =
    ap (go_on t x xs cs σ) (resume_chosen xs ts cs (with_value x.variable t σ) (omega arith))
    ∙ go_on-one_more t x xs cs σ _

-- the last value is taken back, where its answer is the variable's
pub resume_settled : (xs : List BoundVariable) (ts : List Bool) (t : Bool) (q : Quant) (cs : Clauses) (σ : Values)
    (o : Outcome) → option_map (λ (x : BoundVariable). x.quantifier) (slice_get xs (length ts)) ≡ Some q
    → (t ≡ false → settles q o.answer ≡ true) → resume xs (ts ++ t ∷ []) cs σ o ≡ resume xs ts cs σ o
resume_settled [] [] t q cs σ o e h = refl
resume_settled [] (s ∷ ts) t q cs σ o e h = refl
resume_settled (x ∷ xs) [] true q cs σ o e h = resume_none xs
  where
    resume_none : (ys : List BoundVariable) → resume ys [] cs (with_value x.variable true σ) o ≡ o
    resume_none ys = refl
resume_settled (x ∷ xs) [] false q cs σ o e h =
    let same : x.quantifier ≡ q = cc in
    cond-true (settles x.quantifier o.answer) o _ (rw same (h refl))
resume_settled (x ∷ xs) (s ∷ ts) t q cs σ o e h = ap (go_on s x xs cs σ)
    (resume_settled xs ts t q cs (with_value x.variable s σ) o e h)

-- the last variable is tried at true too
pub resume_tried_again : (xs : List BoundVariable) (ts : List Bool) (q : Quant) (cs : Clauses) (σ : Values) (b : Bool)
    → option_map (λ (x : BoundVariable). x.quantifier) (slice_get xs (length ts)) ≡ Some q → settles q b ≡ false
    → resume xs (ts ++ false ∷ []) cs σ (found b) ≡ one_more
    (resume xs (ts ++ true ∷ []) cs σ (whole (drop (suc (length ts)) xs) cs (assigned xs (ts ++ true ∷ []) σ)))
resume_tried_again [] ts q cs σ b e h = cc
resume_tried_again (x ∷ xs) [] q cs σ b e h =
    let same : x.quantifier ≡ q = cc in
    let n = plain_steps_from xs cs (with_value x.variable true σ) in
    cond-false (settles x.quantifier b) (found b) _ (rw same h) ∙ same_outcome _ _ (0 + (1 + n)) (n + 1) refl
    (omega arith)
resume_tried_again (x ∷ xs) (t ∷ ts) q cs σ b e h =
    ap (go_on t x xs cs σ) (resume_tried_again xs ts q cs (with_value x.variable t σ) b e h)
    ∙ go_on-one_more t x xs cs σ _

-- the outcome at the values tried: of what is left, or the answer that was found
abbrev pub outcome_here : Tried → Clauses → Option Bool → Outcome
outcome_here s cs None = whole (drop (length s.values) s.order) cs (assigned s.order s.values no_values)
outcome_here s cs (Some b) = found b

-- the outcome of all
abbrev pub outcome : Tried → Clauses → Option Bool → Outcome
outcome s cs answer = resume s.order s.values cs no_values (outcome_here s cs answer)

abbrev pub tried_one : Tried → Bool → Tried
tried_one s t = record { order = s.order; values = s.values ++ t ∷ [] }

-- the next variable is tried at false
pub outcome_chosen : (s : Tried) (cs : Clauses) → length s.values < length s.order → outcome s cs None ≡ one_more
    (outcome (tried_one s false) cs None)
outcome_chosen s cs h =
    let more : length (s.values ++ false ∷ []) ≡ suc (length s.values) = length_push s.values false ∙ omega arith in
    resume_chosen s.order s.values cs no_values h
    ∙ ap (λ n. one_more
    (resume s.order (s.values ++ false ∷ []) cs no_values
    (whole (drop n s.order) cs (assigned s.order (s.values ++ false ∷ []) no_values)))) (sym more)

-- the last value is taken back
pub outcome_settled : (old new : Tried) (t b : Bool) (q : Quant) (cs : Clauses) → old.order ≡ new.order
    → old.values ≡ new.values ++ t ∷ [] → option_map (λ (x : BoundVariable). x.quantifier)
    (slice_get new.order (length new.values)) ≡ Some q → (t ≡ false → settles q b ≡ true)
    → outcome old cs (Some b) ≡ outcome new cs (Some b)
outcome_settled old new t b q cs o v e h =
    rw (o, v) (resume_settled new.order new.values t q cs no_values (found b) e h)

-- the last variable is tried at true too
pub outcome_again : (old new : Tried) (b : Bool) (q : Quant) (cs : Clauses) → old.order ≡ new.order
    → old.values ≡ new.values ++ false ∷ [] → option_map (λ (x : BoundVariable). x.quantifier)
    (slice_get new.order (length new.values)) ≡ Some q → settles q b ≡ false → outcome old cs (Some b) ≡ one_more
    (outcome (tried_one new true) cs None)
outcome_again old new b q cs o v e h =
    let more : length (new.values ++ true ∷ []) ≡ suc (length new.values) = length_push new.values true ∙ omega arith in
    rw (o, v) (resume_tried_again new.order new.values q cs no_values b e h
    ∙ ap (λ n. one_more
    (resume new.order (new.values ++ true ∷ []) cs no_values
    (whole (drop n new.order) cs (assigned new.order (new.values ++ true ∷ []) no_values)))) (sym more))

-- a variable with a quantifier is there
pub has_place : (xs : List BoundVariable) (n : ℕ) (q : Quant) → option_map (λ (x : BoundVariable). x.quantifier)
    (slice_get xs n) ≡ Some q → n < length xs
has_place [] n q e = cc
has_place (x ∷ xs) zero q e = omega arith
has_place (x ∷ xs) (suc n) q e = omega (arith, has_place xs n q e)
