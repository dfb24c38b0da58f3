-- From a derivation with an end row to a proof: the steps that it rests on, inputs first, and a finish where something
-- goes.
use Rattle.std.proofs.Common.{◌≡◌, ◌<◌, ◌⊎◌, Bool, true, false, not, List, [], ◌∷◌, ◌++◌, map, filter, Contains, AllPairs, sym, refl, ap, ◌∙◌, inl, inr, ⊎_elim, arith, append_assoc, ap₂, subst}
use Rattle.std.specs.List.{list_all}
use Rattle.std.proofs.lemmas.Bool.{cases_Bool, cond-true, cond-false, true≢false}
use Rattle.std.proofs.lemmas.List.{append-nil, map-append}
use Rattle.std.proofs.lemmas.List.Elements.{Contains-append_left, Contains-append_right, Contains-append_cases}
use Rattle.prefix.specs.declared.quant.Quant.{Quant}
use Rattle.prefix.specs.Literal.{Literal}
use Rattle.prefix.specs.Scopes.{Scope}
use Rattle.truth.specs.Truth.{assumed_value}
use Rattle.calculus.specs.Rows.{Row, IsRow}
use Rattle.calculus.specs.Derivations.{Reason, Inference, Step, Why, IsInference, IsLegal, IsLegalAfter, IsLegalStep, IsDerivation, IsCoreOf, RestsOn, rows_of, core_order, inference_of, inferences_of, reason_of, row_at, is_input}
use Rattle.calculus.specs.Derivations.Reason.{Input, One, Two}
use Rattle.calculus.specs.Derivations.Why.{Given, ReducedFrom, ResolvedFrom, FinishedFrom}
use Rattle.calculus.specs.Verdicts.{IsEndRow, IsProofStep, EndsInFinish, core_proof, last_reason, IsAntecedent, IsUsedIn, AreUsed, is_assumed, finish_of, finish_steps}
use Rattle.calculus.proofs.Lists.{contains_cons, contains_nil, contains_head, contains_tail, filter_all, filter_at, filter_from, all_at, all_from, pairs_head, pairs_tail, pairs_nil, pairs_cons, contains_map_of}
use Rattle.calculus.proofs.RowLemmas.{some_from}
use Rattle.calculus.proofs.EndRows.{filter_row}
use Rattle.calculus.proofs.CoreOrder.{core_order_legal}
use Rattle.calculus.proofs.StepLemmas.{inferences_legal, row_at_step}

abbrev pub Rises : Step → Step → Type 0
Rises s t = s.id < t.id

abbrev is_given : Inference → Bool
is_given s = is_input s.reason

abbrev is_derived : Inference → Bool
is_derived s = not (is_input s.reason)

-- the last of a list
last_of : {X : Type 0} (x : X) (xs : List X) → (front : List X) × (m : X) × (x ∷ xs ≡ front ++ m ∷ [])
last_of x [] = ([], x, refl)
last_of x (y ∷ ys) = let r = last_of y ys in (x ∷ r.0, r.1, ap (λ zs. x ∷ zs) r.2)

-- nothing comes after the last of an ascending list
none_after : (front : List Step) (m : Step) → AllPairs Rises (front ++ m ∷ []) → (t : Step)
    → Contains (front ++ m ∷ []) t → m.id < t.id → ⊥
none_after [] m up t i below = ⊎_elim (λ e. let same : m.id ≡ t.id = ap (λ (s : Step). s.id) e in omega arith)
    (λ j. contains_nil t j) (contains_cons m [] t i)
none_after (s ∷ front) m up t i below =
    ⊎_elim
    (λ e. let first : s.id < m.id = pairs_head Rises s (front ++ m ∷ []) up m
    (Contains-append_right front (m ∷ []) m (contains_head m [])) in let same : s.id ≡ t.id =
    ap (λ (u : Step). u.id) e in omega arith)
    (λ j. none_after front m (pairs_tail Rises s (front ++ m ∷ []) up) t j below)
    (contains_cons s (front ++ m ∷ []) t i)

module _ (scopes : List Scope) (clauses : List Row) (steps : List Step) (d : IsDerivation scopes clauses steps) where
  -- a step comes after those that it rests on
  rests_later : (s t : Step) (why : Why) → IsLegalStep scopes clauses steps t why → RestsOn why s.id → s.id < t.id
  rests_later s t Given legal rests = absurd rests
  rests_later s t (ReducedFrom a) legal rests = rw rests at legal.from.earlier
  rests_later s t (ResolvedFrom a b x) legal rests = ⊎_elim (λ e. rw e at legal.from_positive.earlier)
      (λ e. rw e at legal.from_negative.earlier) rests
  rests_later s t (FinishedFrom a) legal rests = absurd rests_absurd
    where
      rests_absurd : ⊥
      rests_absurd = legal

  -- their rows are its antecedents
  rests_row : (s : Step) → Contains steps s → (why : Why) → RestsOn why s.id → IsAntecedent s.row (reason_of steps why)
  rests_row s i Given rests = absurd rests
  rests_row s i (ReducedFrom a) rests = ap (row_at steps) rests ∙ row_at_step steps d.ascending_ids s i
  rests_row s i (ResolvedFrom a b x) rests =
      ⊎_elim (λ e. inl (ap (row_at steps) e ∙ row_at_step steps d.ascending_ids s i))
      (λ e. inr (ap (row_at steps) e ∙ row_at_step steps d.ascending_ids s i)) rests
  rests_row s i (FinishedFrom a) rests = ap (row_at steps) rests ∙ row_at_step steps d.ascending_ids s i

  -- and it is no input
  rests_derived : (s : Step) (why : Why) → RestsOn why s.id → not (is_input (reason_of steps why)) ≡ true
  rests_derived s Given rests = absurd rests
  rests_derived s (ReducedFrom a) rests = refl
  rests_derived s (ResolvedFrom a b x) rests = refl
  rests_derived s (FinishedFrom a) rests = refl

  abbrev all_rows : List Step → List Inference
  all_rows ts = map (inference_of steps) ts

  -- a step that the last one rests on, or another of the list
  abbrev Used : List Step → Inference → Step → Type 0
  Used ts last s = IsAntecedent s.row last.reason ⊎ ((t : Step) × Contains ts t × RestsOn t.why s.id)

  more_used : (xs ys : List Inference) (last : Inference) (row : Row) → IsUsedIn (ys ++ last ∷ []) row
      → IsUsedIn ((xs ++ ys) ++ last ∷ []) row
  more_used xs ys last row u =
      (u.0, rw (append_assoc xs ys (last ∷ [])) (Contains-append_right xs (ys ++ last ∷ []) u.0 u.1), u.2)

  used_first : (xs ys : List Inference) (last : Inference)
      → ((s : Inference) → Contains xs s → IsUsedIn (ys ++ last ∷ []) s.row) → AreUsed ys last → AreUsed (xs ++ ys) last
  used_first [] ys last used are = are
  used_first (x ∷ xs) ys last used are = (
    more_used xs ys last x.row (used x (contains_head x xs)),
    used_first xs ys last
        (λ s i. used s (contains_tail x xs s i)) are,
  )

  in_others : (ts : List Step) (t : Step) (s : Step) → Contains ts t → RestsOn t.why s.id
      → Contains (filter is_derived (all_rows ts)) (inference_of steps t)
  in_others ts t s i rests = filter_from is_derived (all_rows ts) (inference_of steps t)
      (contains_map_of (inference_of steps) ts t i) (rests_derived s t.why rests)

  used_by : (ts : List Step) (last : Inference) (s : Step) → Contains steps s → Used ts last s
      → IsUsedIn (filter is_derived (all_rows ts) ++ last ∷ []) s.row
  used_by ts last s i used =
      let others = filter is_derived (all_rows ts) in
      ⊎_elim (λ a. (last, Contains-append_right others (last ∷ []) last (contains_head last []), a))
      (λ r. (
        inference_of steps r.0,
        Contains-append_left others (last ∷ []) (inference_of steps r.0)
            (in_others ts r.0 s r.1 r.2),
        rests_row s i r.0.why r.2,
      ))
      used

  -- what a later step names is named in the rest
  used_rest : (first : Step) (ts : List Step) (last : Inference) → AllPairs Rises (first ∷ ts)
      → ((s : Step) → Contains (first ∷ ts) s → Contains steps s) → (s : Step) → first.id < s.id ⊎ (s ≡ first)
      → Used (first ∷ ts) last s → Used ts last s
  used_rest first ts last up within s above used =
      ⊎_elim inl
      (λ r. inr (⊎_elim
      (λ e. absurd (
      let i : Contains steps first = within first (contains_head first ts) in
      let later : s.id < first.id = rests_later s first first.why (d.legal first i) (rw (← e) at r.2) in
      ⊎_elim (λ a. omega arith) (λ f. let same : s.id ≡ first.id = ap (λ (u : Step). u.id) f in omega arith) above))
      (λ j. (r.0, j, r.2))
      (contains_cons first ts r.0 r.1)))
      used

  used_others : (ts : List Step) (last : Inference) → AllPairs Rises ts
      → ((s : Step) → Contains ts s → Contains steps s) → ((s : Step) → Contains ts s → Used ts last s)
      → AreUsed (filter is_derived (all_rows ts)) last
  used_others [] last up within used = tt
  used_others (s ∷ ts) last up within used =
      let rest = used_others ts last (pairs_tail Rises s ts up) (λ t i. within t (contains_tail s ts t i))
      (λ t i. used_rest s ts last up within t (inl (pairs_head Rises s ts up t i))
      (used t (contains_tail s ts t i))) in
      let here = used_by ts last s (within s (contains_head s ts))
      (used_rest s ts last up within s (inr refl) (used s (contains_head s ts))) in
      ⊎_elim
      (λ t. rw (cond-true (is_derived (inference_of steps s)) (inference_of steps s ∷ filter is_derived (all_rows ts))
      (filter is_derived (all_rows ts)) t) (here, rest))
      (λ f. rw (cond-false (is_derived (inference_of steps s)) (inference_of steps s ∷ filter is_derived (all_rows ts))
      (filter is_derived (all_rows ts)) f) rest)
      (cases_Bool (is_derived (inference_of steps s)))

  from_step : (ts : List Step) (s : Inference) → Contains (all_rows ts) s → (t : Step) × Contains ts t
      × (s ≡ inference_of steps t)
  from_step [] s i = absurd (contains_nil s i)
  from_step (t ∷ ts) s i = ⊎_elim (λ e. (t, contains_head t ts, sym e))
      (λ j. let r = from_step ts s j in (r.0, contains_tail t ts r.0 r.1, r.2))
      (contains_cons (inference_of steps t) (all_rows ts) s i)

  pub used_all : (ts : List Step) (last : Inference) → AllPairs Rises ts
      → ((s : Step) → Contains ts s → Contains steps s) → ((s : Step) → Contains ts s → Used ts last s)
      → AreUsed (core_order (all_rows ts)) last
  used_all ts last up within used =
      used_first (filter is_given (all_rows ts)) (filter is_derived (all_rows ts)) last
      (λ s i.
      let r = from_step ts s (filter_at is_given (all_rows ts) s i).0 in
      rw r.2 (used_by ts last r.0 (within r.0 r.1) (used r.0 r.1)))
      (used_others ts last up within used)

  -- the end of a core is its last step
  pub end_is_last : (end : Step) → Contains steps end → IsCoreOf end steps → (front : List Step)
      × (steps ≡ front ++ end ∷ [])
  end_is_last end i core = by_list steps refl
    where
      by_list : (ts : List Step) → steps ≡ ts → (front : List Step) × (steps ≡ front ++ end ∷ [])
      by_list [] e = absurd (contains_nil end (rw e at i))
      by_list (t ∷ ts) e =
          let r = last_of t ts in
          let parts : steps ≡ r.0 ++ r.1 ∷ [] = e ∙ r.2 in
          let up : AllPairs Rises (r.0 ++ r.1 ∷ []) = rw parts at d.ascending_ids in
          let stands : Contains steps r.1 = rw parts (Contains-append_right r.0 (r.1 ∷ []) r.1 (contains_head r.1 []))
          in
          ⊎_elim (λ same. (r.0, rw (← same) parts))
          (λ n. absurd
          (none_after r.0 r.1 up n.0 (rw parts at n.1) (rests_later r.1 n.0 n.0.why (d.legal n.0 n.1) n.2)))
          (core r.1 stands)

  -- steps of which each is one that another rests on are none
  pub none_endless : (ts : List Step) → AllPairs Rises ts → ((s : Step) → Contains ts s → Contains steps s)
      → ((s : Step) → Contains ts s → (t : Step) × Contains ts t × RestsOn t.why s.id) → ts ≡ []
  none_endless ts up within named = by_list ts refl
    where
      by_list : (us : List Step) → ts ≡ us → ts ≡ []
      by_list [] e = e
      by_list (s ∷ us) e =
          let r = last_of s us in
          let parts : ts ≡ r.0 ++ r.1 ∷ [] = e ∙ r.2 in
          let up' : AllPairs Rises (r.0 ++ r.1 ∷ []) = rw parts at up in
          let n = named r.1 (rw parts (Contains-append_right r.0 (r.1 ∷ []) r.1 (contains_head r.1 []))) in
          absurd (none_after r.0 r.1 up' n.0 (subst (λ vs. Contains vs n.0) parts n.1)
          (rests_later r.1 n.0 n.0.why (d.legal n.0 (within n.0 n.1)) n.2))

-- the legal front and the legal last step of a legal list
legal_front : (pivot : Quant) (scopes : List Scope) (clauses : List Row) (earlier : List Row)
    (front back : List Inference) → IsLegalAfter pivot scopes clauses earlier (front ++ back)
    → IsLegalAfter pivot scopes clauses earlier front
legal_front pivot scopes clauses earlier [] back legal = tt
legal_front pivot scopes clauses earlier (s ∷ front) back legal =
    (legal.0, legal.1, legal_front pivot scopes clauses (s.row ∷ earlier) front back legal.2)

proof_step : (pivot : Quant) (scopes : List Scope) (clauses : List Row) (assumptions : List Literal)
    (earlier more : List Row) (row : Row) (reason : Reason) → ((r : Row) → Contains earlier r → Contains more r)
    → IsInference pivot scopes clauses earlier row reason → IsProofStep pivot scopes clauses assumptions more row reason
proof_step pivot scopes clauses assumptions earlier more row Input within step = step
proof_step pivot scopes clauses assumptions earlier more row (One before) within step =
    (within before step.0, step.1, inl step.2)
proof_step pivot scopes clauses assumptions earlier more row (Two a b x) within step = record {
  earlier_positive = within a step.earlier_positive;
  earlier_negative = within b step.earlier_negative;
  has_positive = step.has_positive;
  has_negative = step.has_negative;
  is_pivot_variable = step.is_pivot_variable;
  no_clash = step.no_clash;
  result = step.result;
}

legal_last : (pivot : Quant) (scopes : List Scope) (clauses : List Row) (assumptions : List Literal)
    (earlier more : List Row) (front : List Inference) (last : Inference)
    → ((r : Row) → Contains earlier r → Contains more r) → ((r : Row) → Contains (rows_of front) r → Contains more r)
    → IsLegalAfter pivot scopes clauses earlier (front ++ last ∷ []) → IsRow scopes last.row
    × IsProofStep pivot scopes clauses assumptions more last.row last.reason
legal_last pivot scopes clauses assumptions earlier more [] last within rows legal =
    (legal.0, proof_step pivot scopes clauses assumptions earlier more last.row last.reason within legal.1)
legal_last pivot scopes clauses assumptions earlier more (s ∷ front) last within rows legal =
    legal_last pivot scopes clauses assumptions (s.row ∷ earlier) more front last
    (λ r i. ⊎_elim (λ e. rw (← e) (rows s.row (contains_head s.row (rows_of front)))) (λ j. within r j)
    (contains_cons s.row earlier r i))
    (λ r i. rows r (contains_tail s.row (rows_of front) r i))
    legal.2

-- an end row of assumed variables alone is the last row
assumed_last : (pivot : Quant) (scopes : List Scope) (clauses : List Row) (assumptions : List Literal)
    (steps : List Step) (end : Step) (front : List Inference) → core_order (inferences_of steps) ++ finish_steps
    assumptions end.row ≡ front ++ inference_of steps end ∷ [] → IsLegal pivot scopes clauses
    (front ++ inference_of steps end ∷ []) → IsEndRow pivot scopes assumptions end.row
    → list_all (is_assumed assumptions) end.row ≡ true → AreUsed front (inference_of steps end)
    → EndsInFinish pivot scopes clauses assumptions (core_proof steps end assumptions) end.row
    (last_reason steps end assumptions)
assumed_last pivot scopes clauses assumptions steps end front parts legal ends all used =
    let r = legal_last pivot scopes clauses assumptions [] (rows_of front) front (inference_of steps end)
    (λ r i. absurd (contains_nil r i)) (λ r i. i) legal in
    record {
      proof = record {
        front = front;
        last = inference_of steps end;
        parts = parts;
        legal = legal_front pivot scopes clauses [] front (inference_of steps end ∷ []) legal;
        last_row = r.0;
        last_step = r.1;
        decided = λ l i.
            let v = some_from (assumed_value assumptions l.variable) (all_at (is_assumed assumptions) end.row all l i)
            in
            (v.0, v.1, ends.bad l v.0 i v.1);
        used = used;
      };
      last_row = sym (filter_all (is_assumed assumptions) end.row (all_at (is_assumed assumptions) end.row all));
      last_reason = sym (cond-true (list_all (is_assumed assumptions) end.row) (reason_of steps end.why) (One end.row)
          all);
    }

row_in : (steps : List Inference) (s : Inference) → Contains steps s → Contains (rows_of steps) s.row
row_in steps s i = contains_map_of (λ (t : Inference). t.row) steps s i

-- else a finish is the last step
finish_last : (pivot : Quant) (scopes : List Scope) (clauses : List Row) (assumptions : List Literal)
    (steps : List Step) (end : Step) → IsLegal pivot scopes clauses (core_order (inferences_of steps))
    → Contains (core_order (inferences_of steps)) (inference_of steps end) → IsRow scopes end.row
    → IsEndRow pivot scopes assumptions end.row → list_all (is_assumed assumptions) end.row ≡ false
    → AreUsed (core_order (inferences_of steps)) (finish_of assumptions end.row) → EndsInFinish pivot scopes clauses
    assumptions (core_proof steps end assumptions) end.row (last_reason steps end assumptions)
finish_last pivot scopes clauses assumptions steps end legal i is_row ends some used = record {
  proof = record {
    front = core_order (inferences_of steps);
    last = finish_of assumptions end.row;
    parts = ap (λ xs. core_order (inferences_of steps) ++ xs)
        (cond-false (list_all (is_assumed assumptions) end.row) [] (finish_of assumptions end.row ∷ []) some);
    legal = legal;
    last_row = filter_row scopes (is_assumed assumptions) end.row is_row;
    last_step = (
      row_in (core_order (inferences_of steps)) (inference_of steps end) i,
      (λ e. true≢false
          (sym (all_from (is_assumed assumptions) end.row
          (λ l j. (filter_at (is_assumed assumptions) end.row l (rw e j)).1)) ∙ some)),
      inr (ends, refl),
    );
    decided = λ l j.
        let kept = filter_at (is_assumed assumptions) end.row l j in
        let v = some_from (assumed_value assumptions l.variable) kept.1 in
        (v.0, v.1, ends.bad l v.0 kept.0 v.1);
    used = used;
  };
  last_row = refl;
  last_reason = sym (cond-false (list_all (is_assumed assumptions) end.row) (reason_of steps end.why) (One end.row)
      some);
}

in_core_order : (steps : List Inference) (s : Inference) → Contains steps s → Contains (core_order steps) s
in_core_order steps s i =
    let inputs = filter is_given steps in
    let others = filter is_derived steps in
    ⊎_elim (λ t. Contains-append_left inputs others s (filter_from is_given steps s i t))
    (λ f. Contains-append_right inputs others s (filter_from is_derived steps s i (ap not f)))
    (cases_Bool (is_given s))

filter_append : {X : Type 0} (p : X → Bool) (xs ys : List X) → filter p (xs ++ ys) ≡ filter p xs ++ filter p ys
filter_append p [] ys = refl
filter_append p (x ∷ xs) ys =
    ⊎_elim (λ t. cond-true (p x) (x ∷ filter p (xs ++ ys)) (filter p (xs ++ ys)) t
    ∙ (ap (λ zs. x ∷ zs) (filter_append p xs ys) ∙ ap (λ zs. zs ++ filter p ys)
    (sym (cond-true (p x) (x ∷ filter p xs) (filter p xs) t))))
    (λ f. cond-false (p x) (x ∷ filter p (xs ++ ys)) (filter p (xs ++ ys)) f
    ∙ (filter_append p xs ys ∙ ap (λ zs. zs ++ filter p ys)
    (sym (cond-false (p x) (x ∷ filter p xs) (filter p xs) f))))
    (cases_Bool (p x))

-- the core order of a list whose last step is derived, or that has one step alone
order_last : (front : List Inference) (last : Inference) → (is_derived last ≡ true) ⊎ (front ≡ [])
    → core_order (front ++ last ∷ []) ≡ core_order front ++ last ∷ []
order_last front last (inl t) =
    let skip : filter is_given (last ∷ []) ≡ [] = cond-false (is_given last) (last ∷ []) []
    (given_not (is_given last) t) in
    let keep : filter is_derived (last ∷ []) ≡ last ∷ [] = cond-true (is_derived last) (last ∷ []) [] t in
    ap (λ xs. xs ++ filter is_derived (front ++ last ∷ []))
    (filter_append is_given front (last ∷ [])
    ∙ (ap (λ ys. filter is_given front ++ ys) skip ∙ append-nil (filter is_given front)))
    ∙ (ap (λ ys. filter is_given front ++ ys) (filter_append is_derived front (last ∷ [])
    ∙ ap (λ ys. filter is_derived front ++ ys) keep)
    ∙ sym (append_assoc (filter is_given front) (filter is_derived front) (last ∷ [])))
  where
    given_not : (b : Bool) → not b ≡ true → b ≡ false
    given_not true e = absurd (true≢false (sym e))
    given_not false e = refl
order_last front last (inr e) = rw e (alone (last.reason) refl)
  where
    alone : (r : Reason) → last.reason ≡ r → core_order (last ∷ []) ≡ last ∷ []
    alone Input f = ap₂ (λ a b. a ++ b) (cond-true (is_given last) (last ∷ []) [] (ap is_input f))
        (cond-false (is_derived last) (last ∷ []) [] (ap (λ r. not (is_input r)) f))
    alone (One b) f = ap₂ (λ a b. a ++ b) (cond-false (is_given last) (last ∷ []) [] (ap is_input f))
        (cond-true (is_derived last) (last ∷ []) [] (ap (λ r. not (is_input r)) f))
    alone (Two a b x) f = ap₂ (λ a b. a ++ b) (cond-false (is_given last) (last ∷ []) [] (ap is_input f))
        (cond-true (is_derived last) (last ∷ []) [] (ap (λ r. not (is_input r)) f))

pairs_front : {X : Type 0} (R : X → X → Type 0) (front back : List X) → AllPairs R (front ++ back) → AllPairs R front
pairs_front R [] back up = pairs_nil R
pairs_front R (x ∷ front) back up = pairs_cons R x front
    (λ y i. pairs_head R x (front ++ back) up y (Contains-append_left front back y i))
    (pairs_front R front back (pairs_tail R x (front ++ back) up))

module _ (pivot : Quant) (scopes : List Scope) (clauses : List Row) (assumptions : List Literal) (steps : List Step)
    (end : Step) (d : IsDerivation scopes clauses steps) (one : (s : Step) → Contains steps s → s.side ≡ pivot)
    (stands : Contains steps end) (core : IsCoreOf end steps) (ends : IsEndRow pivot scopes assumptions end.row) where
  last : Inference
  last = inference_of steps end

  -- a step before the end is one that another of those, or the end, rests on
  front_used : (front : List Step) → steps ≡ front ++ end ∷ [] → (s : Step) → Contains front s → IsAntecedent s.row
      (reason_of steps end.why) ⊎ ((t : Step) × Contains front t × RestsOn t.why s.id)
  front_used front parts s i =
      let i' : Contains steps s = rw parts (Contains-append_left front (end ∷ []) s i) in
      ⊎_elim
      (λ same. absurd (let up : AllPairs Rises (front ++ end ∷ []) = rw parts at d.ascending_ids in
      apart front up s i same))
      (λ n. ⊎_elim (λ j. inr (n.0, j, n.2))
      (λ j. ⊎_elim (λ e. inl (rests_row scopes clauses steps d s i' end.why (rw (← e) at n.2)))
      (λ k. absurd (contains_nil n.0 k)) (contains_cons end [] n.0 j))
      (Contains-append_cases front (end ∷ []) n.0 (rw parts at n.1)))
      (core s i')
    where
      apart : (front : List Step) → AllPairs Rises (front ++ end ∷ []) → (s : Step) → Contains front s → s ≡ end → ⊥
      apart [] up s i same = contains_nil s i
      apart (t ∷ front) up s i same =
          ⊎_elim (λ e. let first : t.id < end.id = pairs_head Rises t (front ++ end ∷ []) up end
          (Contains-append_right front (end ∷ []) end (contains_head end [])) in let f : t.id ≡ end.id =
          ap (λ (u : Step). u.id) (e ∙ same) in omega arith)
          (λ j. apart front (pairs_tail Rises t (front ++ end ∷ []) up) s j same)
          (contains_cons t front s i)

  -- an end that is an input stands alone
  end_first : (front : List Step) → steps ≡ front ++ end ∷ [] → (why : Why) → end.why ≡ why
      → (not (is_input (reason_of steps why)) ≡ true) ⊎ (front ≡ [])
  end_first front parts Given e =
      inr (none_endless scopes clauses steps d front (pairs_front Rises front (end ∷ []) (rw parts at d.ascending_ids))
      (λ s i. rw parts (Contains-append_left front (end ∷ []) s i))
      (λ s i. ⊎_elim (λ a. absurd (rw e at a)) (λ n. n) (front_used front parts s i)))
  end_first front parts (ReducedFrom a) e = inl refl
  end_first front parts (ResolvedFrom a b x) e = inl refl
  end_first front parts (FinishedFrom a) e = inl refl

  pub core_gives : EndsInFinish pivot scopes clauses assumptions (core_proof steps end assumptions) end.row
      (last_reason steps end assumptions)
  unfolding last
  core_gives =
      let legal : IsLegal pivot scopes clauses (core_order (inferences_of steps)) = core_order_legal pivot scopes
      clauses (inferences_of steps) (inferences_legal pivot scopes clauses steps d one) in
      ⊎_elim
      (λ all.
      let r = end_is_last scopes clauses steps d end stands core in
      let split : inferences_of steps ≡ map (inference_of steps) r.0 ++ last ∷ [] = ap (map (inference_of steps)) r.1
      ∙ map-append (inference_of steps) r.0 (end ∷ []) in
      let order : core_order (inferences_of steps) ≡ core_order (map (inference_of steps) r.0) ++ last ∷ [] =
      ap core_order split ∙ order_last (map (inference_of steps) r.0) last
      (⊎_elim inl (λ e. inr (ap (map (inference_of steps)) e)) (end_first r.0 r.1 end.why refl)) in
      let used = used_all scopes clauses steps d r.0 last (pairs_front Rises r.0 (end ∷ []) (rw r.1 at d.ascending_ids))
      (λ s i. rw r.1 (Contains-append_left r.0 (end ∷ []) s i)) (front_used r.0 r.1) in
      let none : finish_steps assumptions end.row ≡ [] = cond-true (list_all (is_assumed assumptions) end.row) []
      (finish_of assumptions end.row ∷ []) all in
      let whole : core_order (inferences_of steps) ++ finish_steps assumptions end.row ≡ core_order
      (map (inference_of steps) r.0) ++ last ∷ [] = ap (λ xs. core_order (inferences_of steps) ++ xs) none
      ∙ (append-nil (core_order (inferences_of steps)) ∙ order) in
      assumed_last pivot scopes clauses assumptions steps end (core_order (map (inference_of steps) r.0)) whole
      (rw order at legal) ends all used)
      (λ some.
      let used = used_all scopes clauses steps d steps (finish_of assumptions end.row) d.ascending_ids (λ s i. i)
      (λ s i. ⊎_elim (λ e. inl (ap (λ (t : Step). t.row) (sym e))) inr (core s i)) in
      finish_last pivot scopes clauses assumptions steps end legal
      (in_core_order (inferences_of steps) last (contains_map_of (inference_of steps) steps end stands))
      (d.rows end stands) ends some used)
      (cases_Bool (list_all (is_assumed assumptions) end.row))
