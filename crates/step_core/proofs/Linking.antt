-- The core of a step, in the words of the calculus: where the step is the finish of an end row, the core is the proof
-- of the verdict.
use Rattle.std.proofs.Common.{◌≡◌, ◌≢◌, ℕ, zero, suc, ◌+◌, ◌-◌, ◌<◌, ◌≤◌, ◌==◌, ◌⊎◌, inl, inr, ⊎_elim, Bool, true, false, not, ◌||◌, ◌&&◌, List, [], ◌∷◌, ◌++◌, length, map, filter, get_or, nat_lt, Contains, AllPairs, Option, Some, None, is_some, refl, sym, ap, ap₂, ◌∙◌, arith, subst}
use Rattle.std.specs.List.{cons_option, filter_map, list_all, range_with_len}
use Rattle.std.proofs.lemmas.Bool.{cases_Bool, cond-true, cond-false, eqb-true, eq-eqb, ne_eqb, true≢false, false≢true, or_left, or_right, or_cases, and_from, false_from_ne_true}
use Rattle.std.proofs.lemmas.List.{append-nil, append_assoc, map-append}
use Rattle.std.proofs.lemmas.List.Elements.{Contains-append_cases, filter-append}
use Rattle.std.proofs.lemmas.List.Kept.{AllPairs-filter}
use Rattle.prefix.specs.declared.quant.Quant.{Quant}
use Rattle.prefix.specs.declared.quant.Quant.TheVariants.{Exists, Forall}
use Rattle.prefix.specs.Literal.{Literal}
use Rattle.prefix.specs.Scopes.{Scope}
use Rattle.prefix.specs.Sides.{opposite}
use Rattle.calculus.specs.Rows.{Row, same_quantifier}
use Rattle.calculus.specs.Derivations.{Inference, IsLegalStep, Reason, RestsOn, Step, Why, core_of, core_order, inference_of, is_input, needed, of_side, reason_of, rests_on, row_at, side_core}
use Rattle.calculus.specs.Derivations.{inferences_of as inferences_by_ids}
use Rattle.calculus.specs.Derivations.Reason.{Input as ByInput, One as ByOne, Two as ByTwo}
use Rattle.calculus.specs.Derivations.Why.{Given, ReducedFrom, ResolvedFrom, FinishedFrom}
use Rattle.calculus.specs.Verdicts.{IsProof, finish_of, finish_steps, finished, is_assumed, proof_of}
use Rattle.calculus.specs.VerdictTheorems.{EndRowsGiveProofs}
use Rattle.calculus.proofs.Lists.{all_at, all_from, contains_cons, contains_nil, contains_head, contains_tail, filter_all, filter_at, filter_from, filter_same, map_same, or_none}
use Rattle.calculus.proofs.StepLemmas.{of_side_derivation, row_at_step}
use Rattle.calculus.proofs.Needed.{rests_from, needed_used}
use Rattle.calculus.proofs.Opposites.{side_itself}
use Rattle.derive.specs.State.{IsLegalFor, Note, State, is_finish, is_live, is_step, may_be_antecedent, next_id, note_at, open_clauses, row_of, side_at, step_at, steps_of, why_at, why_in}
use Rattle.derive.specs.Antecedents.{IsAntecedentIn}
use Rattle.derive.specs.Theorems.{StepsAreListed}
use Rattle.derive.proofs.Ids.{listed_push}
use Rattle.step_core.specs.declared.listing.Line.{Line}
use Rattle.step_core.specs.Cores.{IsFinishAt, core_ids, core_rows, end_row_in, in_core_order, inference_from, inferences_of, is_given, is_needed, kept_at, line_at, lines_at, number_in, numbered_by, proof_at, reason_by, row_numbered, step_under, steps_below}
use Rattle.step_core.specs.Gathering.{AreNeeded}
use Rattle.step_core.proofs.Ordering.{below_at, below_from, below_push, core_closed, kept_from}
use Rattle.step_core.proofs.Used.{Rises, below_rises}

-- lists

map-map : {X Y Z : Type 0} (g : Y → Z) (f : X → Y) (xs : List X) → map g (map f xs) ≡ map (λ x. g (f x)) xs
map-map g f [] = refl
map-map g f (x ∷ xs) = ap (λ ys. g (f x) ∷ ys) (map-map g f xs)

filter-map : {X Y : Type 0} (p : Y → Bool) (f : X → Y) (xs : List X)
    → filter p (map f xs) ≡ map f (filter (λ x. p (f x)) xs)
filter-map p f [] = refl
filter-map p f (x ∷ xs) =
    ⊎_elim
    (λ t. rw t (ap (λ ys. f x ∷ ys) (filter-map p f xs)))
    (λ n. rw n (filter-map p f xs))
    (cases_Bool (p (f x)))

filter-filter : {X : Type 0} (n p : X → Bool) (xs : List X) → ((x : X) → Contains xs x → n x ≡ true → p x ≡ true)
    → filter n (filter p xs) ≡ filter n xs
filter-filter n p [] within = refl
filter-filter n p (x ∷ xs) within =
    let further = filter-filter n p xs (λ y i. within y (contains_tail x xs y i)) in
    ⊎_elim
    (λ t. rw t (⊎_elim (λ m. rw m (ap (λ ys. x ∷ ys) further)) (λ m. rw m further) (cases_Bool (n x))))
    (λ f. let out : n x ≡ false =
    false_from_ne_true (n x) (λ t. true≢false (sym (within x (contains_head x xs) t) ∙ f)) in rw (f, out) further)
    (cases_Bool (p x))

-- the inference of a step, by its id

abbrev reason_at : State → Why → Reason
reason_at d Given = ByInput
reason_at d (ReducedFrom a) = ByOne (row_of d a)
reason_at d (ResolvedFrom a b x) = ByTwo (row_of d a) (row_of d b) x
reason_at d (FinishedFrom a) = ByOne (row_of d a)

abbrev inference_at : State → ℕ → Inference
inference_at d id = record { row = row_of d id; reason = reason_at d (why_at d id) }

-- the row with a number

number_some : (ids : List ℕ) (a : ℕ) → suc (number_in ids a - 1) ≡ number_in ids a
number_some [] a = refl
number_some (x ∷ ids) a = ⊎_elim (λ t. rw t refl) (λ f. rw f (omega arith)) (cases_Bool (x == a))

numbered_row : (f : ℕ → Row) (ids : List ℕ) (a : ℕ) → Contains ids a → row_numbered (map f ids) (number_in ids a) ≡ f a
numbered_row f [] a i = absurd (contains_nil a i)
numbered_row f (x ∷ ids) a i =
    ⊎_elim
    (λ t. rw t (ap f (eqb-true x a t)))
    (λ n.
    let later : Contains ids a =
    ⊎_elim (λ e. absurd (true≢false (sym (eq-eqb x a e) ∙ n))) (λ j. j) (contains_cons x ids a i) in
    let some = number_some ids a in
    let back : number_in ids a + 1 - 1 ≡ suc (number_in ids a - 1) = omega arith in
    rw n (ap (λ k. get_or (f x ∷ map f ids) k []) back ∙ numbered_row f ids a later))
    (cases_Bool (x == a))

reason_is : (d : State) (ids : List ℕ) (why : Why) → ((on : ℕ) → RestsOn why on → Contains ids on)
    → reason_by (map (row_of d) ids) (numbered_by ids why) ≡ reason_at d why
reason_is d ids Given closed = refl
reason_is d ids (ReducedFrom a) closed = ap ByOne (numbered_row (row_of d) ids a (closed a refl))
reason_is d ids (ResolvedFrom a b x) closed =
    ap₂ (λ (r s : Row). ByTwo r s x) (numbered_row (row_of d) ids a (closed a (inl refl)))
    (numbered_row (row_of d) ids b (closed b (inr refl)))
reason_is d ids (FinishedFrom a) closed = ap ByOne (numbered_row (row_of d) ids a (closed a refl))

-- a core's inferences, by its ids
lines_infer : (d : State) (ids : List ℕ)
    → ((id on : ℕ) → Contains ids id → RestsOn (why_at d id) on → Contains ids on)
    → inferences_of (lines_at d ids) ≡ map (inference_at d) ids
lines_infer d ids closed =
    let rows : core_rows (lines_at d ids) ≡ map (row_of d) ids = map-map (λ (l : Line). l.lits) (line_at d ids) ids in
    ap (λ (rs : List Row). map (inference_from rs) (lines_at d ids)) rows
    ∙ map-map (inference_from (map (row_of d) ids)) (line_at d ids) ids
    ∙ map_same (λ id. inference_from (map (row_of d) ids) (line_at d ids id)) (inference_at d) ids
    (λ id i. ap (λ (r : Reason). record { row = row_of d id; reason = r })
    (reason_is d ids (why_at d id) (λ on rests. closed id on i rests)))

-- the inferences of steps, in core order

given_is : (steps : List Step) (why : Why) → is_input (reason_of steps why) ≡ is_given why
given_is steps Given = refl
given_is steps (ReducedFrom a) = refl
given_is steps (ResolvedFrom a b x) = refl
given_is steps (FinishedFrom a) = refl

core_order_is : (steps : List Step)
    → core_order (inferences_by_ids steps) ≡ map (inference_of steps) (in_core_order steps)
core_order_is steps =
    let f = inference_of steps in
    let inputs : filter (λ (s : Inference). is_input s.reason) (map f steps) ≡ map f
    (filter (λ (s : Step). is_given s.why) steps) = filter-map (λ (s : Inference). is_input s.reason) f steps
    ∙ ap (map f) (filter_same (λ (s : Step). is_input (reason_of steps s.why)) (λ (s : Step). is_given s.why) steps
    (λ s i. given_is steps s.why)) in
    let others : filter (λ (s : Inference). not (is_input s.reason)) (map f steps) ≡ map f
    (filter (λ (s : Step). not (is_given s.why)) steps) =
    filter-map (λ (s : Inference). not (is_input s.reason)) f steps
    ∙ ap (map f) (filter_same (λ (s : Step). not (is_input (reason_of steps s.why)))
    (λ (s : Step). not (is_given s.why)) steps (λ s i. ap not (given_is steps s.why))) in
    ap₂ (λ (a b : List Inference). a ++ b) inputs others
    ∙ sym (map-append f (filter (λ (s : Step). is_given s.why) steps)
    (filter (λ (s : Step). not (is_given s.why)) steps))

in_order_at : (steps : List Step) (s : Step) → Contains (in_core_order steps) s → Contains steps s
in_order_at steps s i =
    ⊎_elim
    (λ j. (filter_at (λ (r : Step). is_given r.why) steps s j).0)
    (λ j. (filter_at (λ (r : Step). not (is_given r.why)) steps s j).0)
    (Contains-append_cases (filter (λ (r : Step). is_given r.why) steps)
    (filter (λ (r : Step). not (is_given r.why)) steps) s i)

-- steps of a derivation's state, each with what it rests on among them
record AreClosed (d : State) (steps : List Step) : Type 0 where
  told : (s : Step) → Contains steps s
      → s ≡ record { id = s.id; side = side_at d s.id; row = row_of d s.id; why = why_at d s.id }
  rises : AllPairs Rises steps
  closed : (s : Step) (on : ℕ) → Contains steps s → RestsOn s.why on
      → Contains steps (record { id = on; side = side_at d on; row = row_of d on; why = why_at d on })

module _ (d : State) (steps : List Step) (are : AreClosed d steps) where
  row_found : (s : Step) (on : ℕ) → Contains steps s → RestsOn s.why on → row_at steps on ≡ row_of d on
  row_found s on i rests =
      row_at_step steps are.rises (record { id = on; side = side_at d on; row = row_of d on; why = why_at d on })
      (are.closed s on i rests)

  reason_found : (s : Step) → Contains steps s → (why : Why) → ((on : ℕ) → RestsOn why on → RestsOn s.why on)
      → reason_of steps why ≡ reason_at d why
  reason_found s i Given same = refl
  reason_found s i (ReducedFrom a) same = ap ByOne (row_found s a i (same a refl))
  reason_found s i (ResolvedFrom a b x) same =
      ap₂ (λ (r t : Row). ByTwo r t x) (row_found s a i (same a (inl refl))) (row_found s b i (same b (inr refl)))
  reason_found s i (FinishedFrom a) same = ap ByOne (row_found s a i (same a refl))

  inference_found : (s : Step) → Contains steps s → inference_of steps s ≡ inference_at d s.id
  inference_found s i =
      let t = are.told s i in
      ap₂ (λ (r : Row) (q : Reason). record { row = r; reason = q }) (ap (λ (u : Step). u.row) t)
      (reason_found s i s.why (λ on rests. rests) ∙ ap (reason_at d) (ap (λ (u : Step). u.why) t))

  steps_infer : core_order (inferences_by_ids steps) ≡ map (inference_at d)
      (map (λ (s : Step). s.id) (in_core_order steps))
  steps_infer =
      core_order_is steps
      ∙ map_same (inference_of steps) (λ s. inference_at d s.id) (in_core_order steps)
      (λ s i. inference_found s (in_order_at steps s i))
      ∙ sym (map-map (inference_at d) (λ (s : Step). s.id) (in_core_order steps))

-- fewer steps, with all that are needed, give the same core

needed_filter : (p : Step → Bool) (steps : List Step) (end : ℕ)
    → ((s : Step) → Contains steps s → needed steps end s.id ≡ true → p s ≡ true) → (x : ℕ)
    → needed (filter p steps) end x ≡ needed steps end x
needed_filter p [] end within x = refl
needed_filter p (h ∷ rest) end within x =
    let later = needed rest end in
    let further = needed_filter p rest end (λ s i t. within s (contains_tail h rest s i)
    (or_left (later s.id) (later h.id && rests_on h.why s.id) t)) in
    ⊎_elim
    (λ t. rw t (ap₂ (λ (a b : Bool). a || (b && rests_on h.why x)) (further x) (further h.id)))
    (λ f.
    let out : later h.id ≡ false =
    false_from_ne_true (later h.id) (λ t. true≢false
    (sym (within h (contains_head h rest) (or_left (later h.id) (later h.id && rests_on h.why h.id) t)) ∙ f)) in
    rw (f, out) (further x ∙ sym (or_none (later x))))
    (cases_Bool (p h))

pub core_filter : (p : Step → Bool) (steps : List Step) (end : ℕ)
    → ((s : Step) → Contains steps s → needed steps end s.id ≡ true → p s ≡ true)
    → core_of (filter p steps) end ≡ core_of steps end
core_filter p steps end within =
    filter_same (λ (s : Step). needed (filter p steps) end s.id) (λ (s : Step). needed steps end s.id)
    (filter p steps) (λ s i. needed_filter p steps end within s.id)
    ∙ filter-filter (λ (s : Step). needed steps end s.id) p steps within

-- in a derivation nothing later than a step is needed for it
needed_low : (steps : List Step) (end : ℕ) → ((s : Step) (on : ℕ) → Contains steps s → RestsOn s.why on → on < s.id)
    → (x : ℕ) → end < x → needed steps end x ≡ false
needed_low [] end earlier x above = ne_eqb x end (λ e. omega arith)
needed_low (h ∷ rest) end earlier x above =
    let further = needed_low rest end (λ s on i. earlier s on (contains_tail h rest s i)) in
    low_more (needed rest end x) (needed rest end h.id) (rests_on h.why x) (further x above)
    (λ t. let e = earlier h x (contains_head h rest) (rests_from h.why x t) in further h.id (omega arith))
  where
    low_more : (a b c : Bool) → a ≡ false → (c ≡ true → b ≡ false) → (a || (b && c)) ≡ false
    low_more false true true none out = absurd (true≢false (out refl))
    low_more false true false none out = refl
    low_more false false c none out = refl
    low_more true b c none out = absurd (true≢false none)

-- a legal step rests on earlier ones
legal_earlier : (scopes : List Scope) (clauses : List Row) (steps : List Step) (s : Step) (why : Why) (on : ℕ)
    → IsLegalStep scopes clauses steps s why → RestsOn why on → on < s.id
legal_earlier scopes clauses steps s Given on legal h = absurd h
legal_earlier scopes clauses steps s (ReducedFrom a) on legal h = subst (λ n. n < s.id) h legal.from.earlier
legal_earlier scopes clauses steps s (ResolvedFrom a b x) on legal h =
    ⊎_elim (λ e. subst (λ n. n < s.id) e legal.from_positive.earlier)
    (λ e. subst (λ n. n < s.id) e legal.from_negative.earlier) h
legal_earlier scopes clauses steps s (FinishedFrom a) on legal h = absurd legal

-- the steps of a side, and the kept ones below an id

abbrev of : Quant → Step → Bool
of side s = same_quantifier s.side side

abbrev may : Quant → Step → Bool
may side s = not (is_finish s.why) && same_quantifier s.side side

abbrev low : ℕ → Step → Bool
low n s = nat_lt s.id n

one_more_with : (d : State) (n k : ℕ) (side : Quant) (note : Note) (why : Why) (b : Bool) → note.why ≡ why
    → note_at d k ≡ Some note → same_quantifier note.side side ≡ b → nat_lt k n ≡ true
    → filter (low n) (filter (of side) (cons_option (step_at d k) [])) ≡ filter (may side)
    (cons_option (kept_at d k) [])
one_more_with d n k side note Given true why at s t = rw (at, why, s, t) refl
one_more_with d n k side note (ReducedFrom a) true why at s t = rw (at, why, s, t) refl
one_more_with d n k side note (ResolvedFrom a c x) true why at s t = rw (at, why, s, t) refl
one_more_with d n k side note (FinishedFrom a) b why at s t = rw (at, why) refl
one_more_with d n k side note Given false why at s t = rw (at, why, s) refl
one_more_with d n k side note (ReducedFrom a) false why at s t = rw (at, why, s) refl
one_more_with d n k side note (ResolvedFrom a c x) false why at s t = rw (at, why, s) refl

one_more_step : (d : State) (n k : ℕ) (side : Quant) → nat_lt k n ≡ true → (o : Option Note) → note_at d k ≡ o
    → filter (low n) (filter (of side) (cons_option (step_at d k) [])) ≡ filter (may side)
    (cons_option (kept_at d k) [])
one_more_step d n k side t None at = rw at refl
one_more_step d n k side t (Some note) at =
    one_more_with d n k side note note.why (same_quantifier note.side side) refl at refl t

steps_push : (d : State) (n : ℕ)
    → filter_map (step_at d) (range_with_len 0 (suc n)) ≡ filter_map (step_at d) (range_with_len 0 n)
    ++ cons_option (step_at d n) []
steps_push d n = listed_push (step_at d) (step_at d) n (step_at d n) (λ k below. refl) refl

lt_true : (a b : ℕ) → a < b → nat_lt a b ≡ true
lt_true a b h = grind arith

lt_false : (a b : ℕ) → b ≤ a → nat_lt a b ≡ false
lt_false a b h = grind arith

-- up to n both lists are the same
both_to : (d : State) (n : ℕ) (side : Quant) (k : ℕ) → k ≤ n
    → filter (low n) (filter (of side) (filter_map (step_at d) (range_with_len 0 k))) ≡ filter (may side)
    (steps_below d k)
both_to d n side zero within = refl
both_to d n side (suc k) within =
    let xs = filter_map (step_at d) (range_with_len 0 k) in
    let ys = cons_option (step_at d k) [] in
    ap (λ l. filter (low n) (filter (of side) l)) (steps_push d k)
    ∙ ap (filter (low n)) (filter-append (of side) xs ys)
    ∙ filter-append (low n) (filter (of side) xs) (filter (of side) ys)
    ∙ ap₂ (λ (a b : List Step). a ++ b) (both_to d n side k (omega arith))
    (one_more_step d n k side (lt_true k n (omega arith)) (note_at d k) refl)
    ∙ sym (filter-append (may side) (steps_below d k) (cons_option (kept_at d k) []))
    ∙ sym (ap (filter (may side)) (below_push d k))

-- the id of a listed step
step_id : (d : State) (k : ℕ) (s : Step) (note : Note) (why : Why) → note.why ≡ why → note_at d k ≡ Some note
    → step_at d k ≡ Some s → s.id ≡ k
step_id d k s note Given why at is =
    let f : Some (record { id = k; side = note.side; row = row_of d k; why = Given }) ≡ Some s =
    sym (rw (at, why) refl) ∙ is in let e : record { id = k; side = note.side; row = row_of d k; why = Given } ≡ s =
    cc in ap (λ (t : Step). t.id) (sym e)
step_id d k s note (ReducedFrom a) why at is =
    let f : Some (record { id = k; side = note.side; row = row_of d k; why = ReducedFrom a }) ≡ Some s =
    sym (rw (at, why) refl) ∙ is in
    let e : record { id = k; side = note.side; row = row_of d k; why = ReducedFrom a } ≡ s = cc in
    ap (λ (t : Step). t.id) (sym e)
step_id d k s note (ResolvedFrom a c x) why at is =
    let f : Some (record { id = k; side = note.side; row = row_of d k; why = ResolvedFrom a c x }) ≡ Some s =
    sym (rw (at, why) refl) ∙ is in
    let e : record { id = k; side = note.side; row = row_of d k; why = ResolvedFrom a c x } ≡ s = cc in
    ap (λ (t : Step). t.id) (sym e)
step_id d k s note (FinishedFrom a) why at is = let f : None ≡ Some s = sym (rw (at, why) refl) ∙ is in absurd (cc)

step_none : (d : State) (k : ℕ) (s : Step) → note_at d k ≡ None → step_at d k ≡ Some s → ⊥
step_none d k s at is = let f : None ≡ Some s = sym (rw at refl) ∙ is in absurd (cc)

none_past : (d : State) (n k : ℕ) (side : Quant) → n ≤ k → (o : Option Step) → step_at d k ≡ o
    → filter (low n) (filter (of side) (cons_option o [])) ≡ []
none_past d n k side past None is = refl
none_past d n k side past (Some s) is =
    let id : s.id ≡ k = id_of (note_at d k) refl in
    let out : nat_lt s.id n ≡ false = ap (λ i. nat_lt i n) id ∙ lt_false k n past in
    none_two (low n) (of side) s out
  where
    none_two : (q p : Step → Bool) (t : Step) → q t ≡ false → filter q (filter p (t ∷ [])) ≡ []
    none_two q p t gone = ⊎_elim (λ y. rw y (rw gone refl)) (λ f. rw f refl) (cases_Bool (p t))

    id_of : (o : Option Note) → note_at d k ≡ o → s.id ≡ k
    id_of None at = absurd (step_none d k s at is)
    id_of (Some note) at = step_id d k s note note.why refl at is

both_past : (d : State) (n : ℕ) (side : Quant) (m : ℕ)
    → filter (low n) (filter (of side) (filter_map (step_at d) (range_with_len 0 (m + n)))) ≡ filter (may side)
    (steps_below d n)
both_past d n side zero = let e : 0 + n ≡ n = omega arith in
    ap (λ k. filter (low n) (filter (of side) (filter_map (step_at d) (range_with_len 0 k)))) e
    ∙ both_to d n side n (omega arith)
both_past d n side (suc m) =
    let e : suc m + n ≡ suc (m + n) = omega arith in
    let xs = filter_map (step_at d) (range_with_len 0 (m + n)) in
    let ys = cons_option (step_at d (m + n)) [] in
    ap (λ k. filter (low n) (filter (of side) (filter_map (step_at d) (range_with_len 0 k)))) e
    ∙ ap (λ l. filter (low n) (filter (of side) l)) (steps_push d (m + n))
    ∙ ap (filter (low n)) (filter-append (of side) xs ys)
    ∙ filter-append (low n) (filter (of side) xs) (filter (of side) ys)
    ∙ ap₂ (λ (a b : List Step). a ++ b) (both_past d n side m)
    (none_past d n (m + n) side (omega arith) (step_at d (m + n)) refl)
    ∙ append-nil (filter (may side) (steps_below d n))

pub both_lists : (d : State) (n : ℕ) (side : Quant) → n ≤ next_id d
    → filter (low n) (of_side side (steps_of d)) ≡ filter (may side) (steps_below d n)
both_lists d n side within =
    let e : next_id d ≡ next_id d - n + n = omega arith in
    ap (λ k. filter (low n) (filter (of side) (filter_map (step_at d) (range_with_len 0 k)))) e
    ∙ both_past d n side (next_id d - n)

-- the core of a step that is no finish

module _ (d : State) (scopes : List Scope) (legal : IsLegalFor scopes d) (n e : ℕ) (within : n ≤ next_id d)
    (below : e < n) (step : is_step d e ≡ true)
    (closed : (id on : ℕ) → id < n → is_live d id ≡ true → needed (steps_below d n) e id ≡ true
    → RestsOn (why_at d id) on → IsAntecedentIn d.notes id (side_at d id) on) where
  abbrev side : Quant
  side = side_at d e

  may_of : (o : Option Note) → note_at d e ≡ o → may_be_antecedent o ≡ true → is_finish (why_at d e) ≡ false
  may_of None at t = absurd (false≢true t)
  may_of (Some note) at t = ap (λ (p : Option Note). is_finish (why_of p)) at ∙ not_from (is_finish note.why) t
    where
      why_of : Option Note → Why
      why_of None = Given
      why_of (Some m) = m.why

      not_from : (b : Bool) → not b ≡ true → b ≡ false
      not_from true t = absurd (false≢true t)
      not_from false t = refl

  record IsGood (id : ℕ) : Type 0 where
    no_finish : is_finish (why_at d id) ≡ false
    one_side : side_at d id ≡ side

  good_end : IsGood e
  good_end = record { no_finish = may_of (note_at d e) refl step; one_side = refl }

  good_under : (id on : ℕ) → IsAntecedentIn d.notes id (side_at d id) on → side_at d id ≡ side → IsGood on
  good_under id on a same =
      record {
        no_finish = ap is_finish (ap why_of a.there) ∙ a.no_finish;
        one_side = ap side_of a.there ∙ a.one_side
            ∙ same;
      }
    where
      why_of : Option Note → Why
      why_of None = Given
      why_of (Some m) = m.why

      side_of : Option Note → Quant
      side_of None = Exists
      side_of (Some m) = m.side

  good : (fuel id : ℕ) → n ≤ id + fuel → is_live d id ≡ true → id < n → needed (steps_below d n) e id ≡ true → IsGood id
  good zero id enough live small t = absurd (omega arith)
  good (suc fuel) id enough live small t =
      ⊎_elim
      (λ same. subst IsGood (sym same) good_end)
      (λ r.
      let s = r.0 in
      let b = below_at d n s r.1 in
      let rests : RestsOn (why_at d s.id) id =
      subst (λ w. RestsOn w id) (ap (λ (q : Step). q.why) b.told) (rests_from s.why id r.3) in
      let a = closed s.id id b.low b.live r.2 rests in
      let l = a.earlier in
      good_under s.id id a (good fuel s.id (omega arith) b.live b.low r.2).one_side)
      (needed_used (steps_below d n) e id t)

  good_step : (s : Step) → Contains (steps_below d n) s → needed (steps_below d n) e s.id ≡ true → may side s ≡ true
  good_step s i t =
      let b = below_at d n s i in
      let g = good n s.id (omega arith) b.live b.low t in
      and_from (not (is_finish s.why)) (same_quantifier s.side side)
      (ap not (ap is_finish (ap (λ (q : Step). q.why) b.told) ∙ g.no_finish))
      (ap (λ q. same_quantifier q side) (ap (λ (q : Step). q.side) b.told ∙ g.one_side) ∙ side_itself side)

  low_step : (s : Step) → Contains (of_side side (steps_of d)) s → needed (of_side side (steps_of d)) e s.id ≡ true
      → low n s ≡ true
  low_step s i t =
      let whole = of_side_derivation side scopes (open_clauses d) (steps_of d) legal in
      elim (either e s.id) [
        | inl l ↦ absurd (false≢true (sym (needed_low (of_side side (steps_of d)) e
            (λ u on j rests. legal_earlier scopes (open_clauses d) (of_side side (steps_of d)) u u.why on
            (whole.legal u j) rests) s.id l) ∙ t))
        | inr l ↦ lt_true s.id n (omega arith)
      ]
    where
      either : (a b : ℕ) → (a < b) ⊎ (b ≤ a)
      either a b = grind arith

  pub cores_same : core_of (of_side side (steps_of d)) e ≡ core_of (steps_below d n) e
  cores_same =
      sym (core_filter (low n) (of_side side (steps_of d)) e low_step)
      ∙ ap (λ l. core_of l e) (both_lists d n side within)
      ∙ core_filter (may side) (steps_below d n) e good_step

-- where the end is a finish, the core is that of its end row's step, and the finish

abbrev with_last : ℕ → List Step → ℕ → ℕ → Bool
with_last before xs end x = needed xs before x || x == end

last_needed : (xs : List Step) (f : Step) (before end : ℕ) → f.id ≡ end → ((x : ℕ) → rests_on f.why x ≡ (before == x))
    → ((s : Step) → Contains xs s → s.id < end) → (x : ℕ) → needed (xs ++ f ∷ []) end x ≡ with_last before xs end x
last_needed [] f before end is rests small x =
    rw (eq-eqb f.id end is) (rw (rests x) (swap (x == end) (before == x) (x == before) (same before x)))
  where
    same : (a b : ℕ) → (a == b) ≡ (b == a)
    same a b = ⊎_elim (λ t. t ∙ sym (eq-eqb b a (sym (eqb-true a b t))))
        (λ f. f ∙ sym (ne_eqb b a (λ e. true≢false (sym (eq-eqb a b (sym e)) ∙ f)))) (cases_Bool (a == b))

    swap : (a b c : Bool) → b ≡ c → (a || (true && b)) ≡ (c || a)
    swap true true c e = rw (← e) refl
    swap true false c e = rw (← e) refl
    swap false true c e = rw (← e) refl
    swap false false c e = rw (← e) refl
last_needed (h ∷ xs) f before end is rests small x =
    let further = last_needed xs f before end is rests (λ s i. small s (contains_tail h xs s i)) in
    let apart : (h.id == end) ≡ false = ne_eqb h.id end (λ e. let l = small h (contains_head h xs) in omega arith) in
    ap₂ (λ (a b : Bool). a || (b && rests_on h.why x)) (further x)
    (further h.id ∙ ap (λ b. needed xs before h.id || b) apart)
    ∙ regroup (needed xs before x) (x == end) (needed xs before h.id) (rests_on h.why x)
  where
    regroup : (a b c r : Bool) → ((a || b) || ((c || false) && r)) ≡ ((a || (c && r)) || b)
    regroup true b c r = refl
    regroup false true true true = refl
    regroup false true true false = refl
    regroup false true false r = refl
    regroup false false true true = refl
    regroup false false true false = refl
    regroup false false false r = refl

last_core : (xs : List Step) (f : Step) (before end : ℕ) → f.id ≡ end → ((x : ℕ) → rests_on f.why x ≡ (before == x))
    → ((s : Step) → Contains xs s → s.id < end) → core_of (xs ++ f ∷ []) end ≡ core_of xs before ++ f ∷ []
last_core xs f before end is rests small =
    let n = λ (s : Step). needed (xs ++ f ∷ []) end s.id in
    let at = last_needed xs f before end is rests small in
    let there : n f ≡ true = at f.id ∙ or_right (needed xs before f.id) (f.id == end) (eq-eqb f.id end is) in
    filter-append n xs (f ∷ [])
    ∙ ap₂ (λ (a b : List Step). a ++ b)
    (filter_same n (λ (s : Step). needed xs before s.id) xs
    (λ s i. at s.id ∙ ap (λ b. needed xs before s.id || b) (ne_eqb s.id end (λ e. let l = small s i in omega arith))
    ∙ or_none (needed xs before s.id)))
    (cond-true (n f) (f ∷ []) [] there)

in_order_last : (xs : List Step) (f : Step) → is_given f.why ≡ false → in_core_order (xs ++ f ∷ []) ≡ in_core_order xs
    ++ f ∷ []
in_order_last xs f other =
    let g = λ (s : Step). is_given s.why in
    let o = λ (s : Step). not (is_given s.why) in
    let first : filter g (xs ++ f ∷ []) ≡ filter g xs = filter-append g xs (f ∷ [])
    ∙ ap (λ l. filter g xs ++ l) (cond-false (g f) (f ∷ []) [] other) ∙ append-nil (filter g xs) in
    let second : filter o (xs ++ f ∷ []) ≡ filter o xs ++ f ∷ [] = filter-append o xs (f ∷ [])
    ∙ ap (λ l. filter o xs ++ l) (cond-true (o f) (f ∷ []) [] (ap not other)) in
    ap₂ (λ (a b : List Step). a ++ b) first second ∙ sym (append_assoc (filter g xs) (filter o xs) (f ∷ []))

-- the end row of a step that is no finish is its own
pub end_row_of_step : (note : Option Note) (id : ℕ) → may_be_antecedent note ≡ true → end_row_in (why_in note) id ≡ id
end_row_of_step None id step = refl
end_row_of_step (Some note) id step = by note.why refl
  where
    by : (why : Why) → note.why ≡ why → end_row_in note.why id ≡ id
    by Given same = ap (λ w. end_row_in w id) same
    by (ReducedFrom a) same = ap (λ w. end_row_in w id) same
    by (ResolvedFrom a b x) same = ap (λ w. end_row_in w id) same
    by (FinishedFrom a) same = absurd (cc)

-- the proof

module _ (d : State) (end : ℕ) (table : List Bool) (are : AreNeeded d end table) (fits : end < next_id d)
    (live : is_live d end ≡ true) (scopes : List Scope) (assumptions : List Literal) (legal : IsLegalFor scopes d)
    (finish : IsFinishAt scopes assumptions d end) where
  abbrev under : ℕ → Step
  under id = step_under d id

  closed_ids : (id on : ℕ) → Contains (core_ids d end) id → RestsOn (why_at d id) on → Contains (core_ids d end) on
  closed_ids = (core_closed d end table are).closed

  antecedents : (id on : ℕ) → id ≤ end → is_needed d end id ≡ true → RestsOn (why_at d id) on
      → IsAntecedentIn d.notes id (side_at d id) on
  antecedents id on low t rests = (are.closed id on low (are.value id low ∙ t) rests).stands

  need_on : (id on : ℕ) → id ≤ end → is_needed d end id ≡ true → RestsOn (why_at d id) on → is_needed d end on ≡ true
  need_on id on low t rests =
      let m = are.closed id on low (are.value id low ∙ t) rests in
      let l = m.stands.earlier in
      sym (are.value on (omega arith)) ∙ m.marked

  lines_are : inferences_of (lines_at d (core_ids d end)) ≡ map (inference_at d) (core_ids d end)
  lines_are = lines_infer d (core_ids d end) closed_ids

  -- the core below an id, whose steps are needed
  core_in : (n e : ℕ) → n ≤ end + 1
      → ((id : ℕ) → id < n → needed (steps_below d n) e id ≡ true → is_needed d end id ≡ true)
      → ((id on : ℕ) → id < n → needed (steps_below d n) e id ≡ true → RestsOn (why_at d id) on
      → needed (steps_below d n) e on ≡ true)
      → AreClosed d (core_of (steps_below d n) e)
  core_in n e small needs on_needed = record {
    told = λ s i. (below_at d n s (filter_at keep all s i).0).told;
    rises = AllPairs-filter Rises keep all (below_rises d n);
    closed = λ s on i rests.
        let p = filter_at keep all s i in
        let b = below_at d n s p.0 in
        let l = b.low in
        let rests' : RestsOn (why_at d s.id) on = subst (λ w. RestsOn w on) (ap (λ (q : Step). q.why) b.told) rests in
        let a = antecedents s.id on (omega arith) (needs s.id b.low p.1) rests' in
        let m = a.earlier in
        filter_from keep all (record { id = on; side = side_at d on; row = row_of d on; why = why_at d on })
        (below_from d n on (omega arith) (ap is_some a.there)) (on_needed s.id on b.low p.1 rests');
  }
    where
      all : List Step
      all = steps_below d n

      keep : Step → Bool
      keep s = needed (steps_below d n) e s.id

  the_end : is_needed d end end ≡ true
  the_end = end_needed (steps_below d (end + 1))
    where
      end_needed : (steps : List Step) → needed steps end end ≡ true
      end_needed [] = eq-eqb end end refl
      end_needed (h ∷ rest) =
          or_left (needed rest end end) (needed rest end h.id && rests_on h.why end) (end_needed rest)

  -- where the end row is left whole
  whole : end ≡ finish.before
      → proof_of (steps_of d) (under end) assumptions ≡ inferences_of (lines_at d (core_ids d end))
  whole same =
      let row : row_of d end ≡ finished assumptions (row_of d end) = finish.finish
      ∙ ap (λ id. finished assumptions (row_of d id)) (sym same) in
      let all : list_all (is_assumed assumptions) (row_of d end) ≡ true =
      all_from (is_assumed assumptions) (row_of d end)
      (λ l i. (filter_at (is_assumed assumptions) (row_of d end) l (subst (λ (r : Row). Contains r l) row i)).1) in
      let none : finish_steps assumptions (row_of d end) ≡ [] =
      cond-true (list_all (is_assumed assumptions) (row_of d end)) [] (finish_of assumptions (row_of d end) ∷ []) all in
      let core = core_of (steps_below d (end + 1)) end in
      let cores : side_core (steps_of d) (under end) ≡ core =
      cores_same d scopes legal (end + 1) end (omega arith) (omega arith)
      (subst (λ id. is_step d id ≡ true) (sym same) finish.step)
      (λ id on low l t rests. antecedents id on (omega arith) t rests) in
      let closed = core_in (end + 1) end (omega arith) (λ id low t. t)
      (λ id on low t rests. need_on id on (omega arith) t rests) in
      ap₂ (λ (c : List Step) (f : List Inference). core_order (inferences_by_ids c) ++ f) cores none
      ∙ append-nil (core_order (inferences_by_ids core))
      ∙ steps_infer d core closed
      ∙ sym lines_are

  -- where something goes
  module _ (why : why_at d end ≡ FinishedFrom finish.before) (goes : row_of d end ≢ row_of d finish.before) where
    before_low : finish.before < end
    before_low = (antecedents end finish.before (omega arith) the_end
        (subst (λ w. RestsOn w finish.before) (sym why) refl)).earlier

    split : steps_below d (end + 1) ≡ steps_below d end ++ under end ∷ []
    split =
        let e : end + 1 ≡ suc end = omega arith in
        ap (steps_below d) e ∙ below_push d end
        ∙ ap (λ o. steps_below d end ++ cons_option o []) (kept_from d end (note_at d end) refl live)

    rests_before : (x : ℕ) → rests_on (why_at d end) x ≡ (finish.before == x)
    rests_before x = rw why refl

    small : (s : Step) → Contains (steps_below d end) s → s.id < end
    small s i = (below_at d end s i).low

    needs : (x : ℕ) → is_needed d end x ≡ with_last finish.before (steps_below d end) end x
    needs x = ap (λ l. needed l end x) split
        ∙ last_needed (steps_below d end) (under end) finish.before end refl rests_before small x

    from_before : (id : ℕ) → needed (steps_below d end) finish.before id ≡ true → is_needed d end id ≡ true
    from_before id t = needs id ∙ or_left (needed (steps_below d end) finish.before id) (id == end) t

    on_before : (id on : ℕ) → id < end → needed (steps_below d end) finish.before id ≡ true → RestsOn (why_at d id) on
        → needed (steps_below d end) finish.before on ≡ true
    on_before id on low t rests =
        let m = need_on id on (omega arith) (from_before id t) rests in
        let l = (antecedents id on (omega arith) (from_before id t) rests).earlier in
        ⊎_elim (λ y. y) (λ e. absurd (let same : on ≡ end = eqb-true on end e in omega arith))
        (or_cases (needed (steps_below d end) finish.before on) (on == end) (sym (needs on) ∙ m))

    abbrev core_before : List Step
    core_before = core_of (steps_below d end) finish.before

    ids_split : core_ids d end ≡ map (λ (s : Step). s.id) (in_core_order core_before) ++ end ∷ []
    ids_split =
        ap (λ l. map (λ (s : Step). s.id) (in_core_order (core_of l end))) split
        ∙ ap (λ l. map (λ (s : Step). s.id) (in_core_order l))
        (last_core (steps_below d end) (under end) finish.before end refl rests_before small)
        ∙ ap (map (λ (s : Step). s.id)) (in_order_last core_before (under end) (ap is_given why))
        ∙ map-append (λ (s : Step). s.id) (in_core_order core_before) (under end ∷ [])

    last_is : inference_at d end ≡ finish_of assumptions (row_of d finish.before)
    last_is = ap₂ (λ (r : Row) (q : Reason). record { row = r; reason = q }) finish.finish (ap (reason_at d) why)

    some_goes : list_all (is_assumed assumptions) (row_of d finish.before) ≡ false
    some_goes = false_from_ne_true (list_all (is_assumed assumptions) (row_of d finish.before))
        (λ t. goes (finish.finish
        ∙ filter_all (is_assumed assumptions) (row_of d finish.before)
        (λ l i. all_at (is_assumed assumptions) (row_of d finish.before) t l i)))

    left : proof_of (steps_of d) (under finish.before) assumptions ≡ inferences_of (lines_at d (core_ids d end))
    left =
        let low = before_low in
        let cores : side_core (steps_of d) (under finish.before) ≡ core_before =
        cores_same d scopes legal end finish.before (omega arith) before_low finish.step
        (λ id on l live t rests. antecedents id on (omega arith) (from_before id t) rests) in
        let some : finish_steps assumptions (row_of d finish.before) ≡ finish_of assumptions (row_of d finish.before)
        ∷ [] = cond-false (list_all (is_assumed assumptions) (row_of d finish.before)) []
        (finish_of assumptions (row_of d finish.before) ∷ []) some_goes in
        let closed = core_in end finish.before (omega arith) (λ id l t. from_before id t) on_before in
        ap₂ (λ (c : List Step) (f : List Inference). core_order (inferences_by_ids c) ++ f) cores some
        ∙ ap₂ (λ (a : List Inference) (f : Inference). a ++ f ∷ []) (steps_infer d core_before closed) (sym last_is)
        ∙ sym (map-append (inference_at d) (map (λ (s : Step). s.id) (in_core_order core_before)) (end ∷ []))
        ∙ sym (ap (map (inference_at d)) ids_split)
        ∙ sym lines_are

    side_left : side_at d finish.before ≡ side_at d end
    side_left =
        let a = antecedents end finish.before (omega arith) the_end
        (subst (λ w. RestsOn w finish.before) (sym why) refl) in
        ap side_of a.there ∙ a.one_side
      where
        side_of : Option Note → Quant
        side_of None = Exists
        side_of (Some m) = m.side

  -- in both cases
  side_before : side_at d finish.before ≡ side_at d end
  side_before = ⊎_elim (λ same. ap (side_at d) (sym same)) (λ r. side_left r.0 r.1) finish.stands

  abbrev proof_before : List Inference
  proof_before = proof_of (steps_of d) (under finish.before) assumptions

  before_is : proof_before ≡ inferences_of (lines_at d (core_ids d end))
  before_is = ⊎_elim
      (λ same. ap (λ id. proof_of (steps_of d) (under id) assumptions) (sym same) ∙ whole same)
      (λ r. left r.0 r.1)
      finish.stands

  end_row_is : end_row_in (why_at d end) end ≡ finish.before
  end_row_is = ⊎_elim
      (λ same. end_row_of_step (note_at d end) end (subst (λ id. is_step d id ≡ true) (sym same) finish.step) ∙ same)
      (λ r. ap (λ w. end_row_in w end) r.0)
      finish.stands

  pub core_lists : inferences_of (lines_at d (core_ids d end)) ≡ proof_at d assumptions end
  core_lists = sym (ap (λ id. proof_of (steps_of d) (under id) assumptions) end_row_is ∙ before_is)

  pub core_proves : EndRowsGiveProofs → StepsAreListed
      → IsProof (side_at d end) scopes (open_clauses d) assumptions (inferences_of (lines_at d (core_ids d end)))
  core_proves gives listed =
      let proof = (gives.step scopes (open_clauses d) assumptions (steps_of d) (under finish.before) legal
      (listed.listed d finish.before finish.step) finish.end_row).proof in
      subst (λ q. IsProof q scopes (open_clauses d) assumptions (inferences_of (lines_at d (core_ids d end))))
      side_before (subst (IsProof (side_at d finish.before) scopes (open_clauses d) assumptions) before_is proof)

pub other_twice : (q : Quant) → opposite (opposite q) ≡ q
other_twice Exists = refl
other_twice Forall = refl

pub live_below : (d : State) (id : ℕ) → is_live d id ≡ true → id < next_id d
live_below d id live = get_below d.notes id live
  where
    get_below : (notes : List (Option Note)) (k : ℕ) → is_some (get_or notes k None) ≡ true → k < length notes
    get_below [] k t = absurd (false≢true t)
    get_below (n ∷ notes) zero t = omega arith
    get_below (n ∷ notes) (suc k) t = let l = get_below notes k t in omega arith
