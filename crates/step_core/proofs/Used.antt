-- The numbers of a core: each step rests on earlier ones, and each but the last is one that a later one rests on.
use Rattle.std.proofs.Common.{◌≡◌, ℕ, zero, suc, ◌+◌, ◌-◌, ◌<◌, ◌≤◌, ◌==◌, ◌⊎◌, inl, inr, ⊎_elim, Bool, true, false, not, List, [], ◌∷◌, ◌++◌, length, map, filter, get_or, Contains, AllPairs, Option, Some, None, is_some, refl, sym, ap, ◌∙◌, arith, subst}
use Rattle.std.specs.List.{cons_option}
use Rattle.std.proofs.lemmas.Bool.{cases_Bool, cond-true, cond-false, eqb-true, eq-eqb, true≢false, not-true}
use Rattle.std.proofs.lemmas.List.{get_or-map, length-map}
use Rattle.std.proofs.lemmas.List.Kept.{AllPairs-filter}
use Rattle.std.proofs.lemmas.List.Elements.{Contains-append_cases, Contains-get_or}
use Rattle.calculus.specs.Derivations.{RestsOn, Step, Why, core_of, needed}
use Rattle.calculus.specs.Derivations.Why.{Given, ReducedFrom, ResolvedFrom, FinishedFrom}
use Rattle.calculus.proofs.Lists.{contains_cons, contains_nil, contains_head, contains_tail, filter_at, pairs_head, pairs_tail, pairs_nil, pairs_cons, contains_map}
use Rattle.calculus.proofs.Needed.{rests_from, needed_used}
use Rattle.derive.specs.State.{State, note_at, why_at}
use Rattle.step_core.specs.declared.listing.CoreStep.TheVariants.{Input}
use Rattle.step_core.specs.declared.listing.Line.{Line}
use Rattle.step_core.specs.Cores.{IsNumbered, IsUsedLater, RestsOnNumber, core_ids, core_steps, is_given, is_needed, kept_at, line_at, lines_at, number_in, numbered_by, step_numbered, steps_below}
use Rattle.step_core.specs.Gathering.{AreNeeded}
use Rattle.step_core.proofs.Ordering.{below_at, below_push, core_at, core_from, kept_is}

-- pairs

pub pairs_append : {X : Type 0} (R : X → X → Type 0) (xs ys : List X) → AllPairs R xs → AllPairs R ys
    → ((x y : X) → Contains xs x → Contains ys y → R x y) → AllPairs R (xs ++ ys)
pairs_append R [] ys first second across = second
pairs_append R (x ∷ xs) ys first second across =
    pairs_cons R x (xs ++ ys)
    (λ y i. ⊎_elim (λ j. pairs_head R x xs first y j) (λ j. across x y (contains_head x xs) j)
    (Contains-append_cases xs ys y i))
    (pairs_append R xs ys (pairs_tail R x xs first) second (λ z y i j. across z y (contains_tail x xs z i) j))

pub pairs_weaker : {X : Type 0} (R S : X → X → Type 0) (xs : List X) → AllPairs R xs
    → ((x y : X) → Contains xs x → Contains xs y → R x y → S x y) → AllPairs S xs
pairs_weaker R S xs pairs weaker i j d below fits =
    weaker (get_or xs i d) (get_or xs j d) (Contains-get_or xs i d (omega arith)) (Contains-get_or xs j d fits)
    (pairs i j d below fits)

pub pairs_map : {X Y : Type 0} (R : Y → Y → Type 0) (f : X → Y) (xs : List X) → AllPairs (λ x y. R (f x) (f y)) xs
    → AllPairs R (map f xs)
pairs_map R f [] pairs = pairs_nil R
pairs_map R f (x ∷ xs) pairs =
    pairs_cons R (f x) (map f xs)
    (λ y i. let p = contains_map f xs y i in subst (R (f x)) p.2 (pairs_head (λ a b. R (f a) (f b)) x xs pairs p.0 p.1))
    (pairs_map R f xs (pairs_tail (λ a b. R (f a) (f b)) x xs pairs))

-- ids ascend

abbrev pub Rises : Step → Step → Type 0
Rises s t = s.id < t.id

one_pair : (o : List Step) → length o ≤ 1 → AllPairs Rises o
one_pair o short i j d below fits = absurd (omega arith)

cons_short : {X : Type 0} (o : Option X) → length (cons_option o []) ≤ 1
cons_short None = omega arith
cons_short (Some x) = omega arith

pub below_rises : (d : State) (n : ℕ) → AllPairs Rises (steps_below d n)
below_rises d zero = pairs_nil Rises
below_rises d (suc n) =
    subst (AllPairs Rises) (sym (below_push d n))
    (pairs_append Rises (steps_below d n) (cons_option (kept_at d n) []) (below_rises d n)
    (one_pair (cons_option (kept_at d n) []) (cons_short (kept_at d n)))
    (λ s t i j.
    let low = (below_at d n s i).low in
    let e = last_id t j in
    omega arith))
  where
    last_of : (t : Step) (o : Option Step) → kept_at d n ≡ o → Contains (cons_option o []) t → kept_at d n ≡ Some t
    last_of t None at i = absurd (contains_nil t i)
    last_of t (Some s) at i = ⊎_elim (λ e. at ∙ ap Some e) (λ j. absurd (contains_nil t j)) (contains_cons s [] t i)

    last_id : (t : Step) → Contains (cons_option (kept_at d n) []) t → t.id ≡ n
    last_id t i = (kept_is d n t (note_at d n) refl (last_of t (kept_at d n) refl i)).0

-- one id comes before another in core order
abbrev pub Precedes : State → ℕ → ℕ → Type 0
Precedes d x y = ((is_given (why_at d x) ≡ true) × (is_given (why_at d y) ≡ false)) ⊎
    ((is_given (why_at d x) ≡ is_given (why_at d y)) × (x < y))

pub never_itself : (d : State) (x : ℕ) → Precedes d x x → ⊥
never_itself d x h = ⊎_elim (λ p. true≢false (sym p.0 ∙ p.1)) (λ p. let l : x < x = p.1 in omega arith) h

module _ (d : State) (end : ℕ) where
  abbrev all : List Step
  all = steps_below d (end + 1)

  abbrev core : List Step
  core = core_of all end

  abbrev need : Step → Bool
  need s = needed all end s.id

  core_rises : AllPairs Rises core
  core_rises = AllPairs-filter Rises need all (below_rises d (end + 1))

  why_of_core : (s : Step) → Contains core s → s.why ≡ why_at d s.id
  why_of_core s i = ap (λ (t : Step). t.why) (below_at d (end + 1) s (filter_at need all s i).0).told

  given_in : (s : Step) → Contains (filter (λ (r : Step). is_given r.why) core) s → is_given (why_at d s.id) ≡ true
  given_in s i = let p = filter_at (λ (r : Step). is_given r.why) core s i in ap is_given (sym (why_of_core s p.0))
      ∙ p.1

  other_in : (s : Step) → Contains (filter (λ (r : Step). not (is_given r.why)) core) s
      → is_given (why_at d s.id) ≡ false
  other_in s i = let p = filter_at (λ (r : Step). not (is_given r.why)) core s i in
      ap is_given (sym (why_of_core s p.0)) ∙ not-true (is_given s.why) p.1

  pub core_pairs : AllPairs (Precedes d) (core_ids d end)
  core_pairs =
      let R = λ (s t : Step). Precedes d s.id t.id in
      let inputs = filter (λ (r : Step). is_given r.why) core in
      let others = filter (λ (r : Step). not (is_given r.why)) core in
      pairs_map (Precedes d) (λ (s : Step). s.id) (core_steps d end)
      (pairs_append R inputs others
      (pairs_weaker Rises R inputs (AllPairs-filter Rises (λ (r : Step). is_given r.why) core core_rises)
      (λ s t i j l. inr (given_in s i ∙ sym (given_in t j), l)))
      (pairs_weaker Rises R others (AllPairs-filter Rises (λ (r : Step). not (is_given r.why)) core core_rises)
      (λ s t i j l. inr (other_in s i ∙ sym (other_in t j), l)))
      (λ s t i j. inl (given_in s i, other_in t j)))

-- places

pub record HasPlace (ids : List ℕ) (a : ℕ) : Type 0 where
  pub place : ℕ
  pub within : place < length ids
  pub there : get_or ids place 0 ≡ a
  pub number : number_in ids a ≡ place + 1

place_later : (x : ℕ) (xs : List ℕ) (a : ℕ) → (x == a) ≡ false → HasPlace xs a → HasPlace (x ∷ xs) a
place_later x xs a apart p = record {
  place = suc p.place;
  within = let w = p.within in omega arith;
  there = p.there;
  number = cond-false (x == a) 1 (number_in xs a + 1) apart ∙ (let n = p.number in omega arith);
}

pub has_place : (ids : List ℕ) (a : ℕ) → Contains ids a → HasPlace ids a
has_place [] a i = absurd (contains_nil a i)
has_place (x ∷ xs) a i =
    ⊎_elim
    (λ t. record {
      place = 0;
      within = omega arith;
      there = eqb-true x a t;
      number = cond-true (x == a) 1 (number_in xs a + 1) t;
    })
    (λ f. place_later x xs a f (has_place xs a
    (⊎_elim (λ e. absurd (true≢false (sym (eq-eqb x a e) ∙ f))) (λ j. j) (contains_cons x xs a i))))
    (cases_Bool (x == a))

pub number_at : (R : ℕ → ℕ → Type 0) (ids : List ℕ) → AllPairs R ids → ((x : ℕ) → R x x → ⊥) → (p : ℕ)
    → p < length ids → number_in ids (get_or ids p 0) ≡ p + 1
number_at R ids pairs never p below =
    let q = has_place ids (get_or ids p 0) (Contains-get_or ids p 0 below) in
    q.number ∙ ap (λ n. n + 1) (same q.place p q.within below q.there)
  where
    same : (a b : ℕ) → a < length ids → b < length ids → get_or ids a 0 ≡ get_or ids b 0 → a ≡ b
    same a b ha hb e =
        elim (three a b) [
          | inl l ↦ absurd (never (get_or ids b 0) (subst (λ x. R x (get_or ids b 0)) e (pairs a b 0 l hb)))
          | inr r ↦ elim r [
            | inl is ↦ is
            | inr l ↦ absurd (never (get_or ids a 0) (subst (λ x. R x (get_or ids a 0)) (sym e) (pairs b a 0 l ha)))
          ]
        ]
      where
        three : (a b : ℕ) → (a < b) ⊎ ((a ≡ b) ⊎ (b < a))
        three a b = grind arith

-- numbers in place of ids

pub rests_number : (ids : List ℕ) (why : Why) (k : ℕ) → RestsOnNumber (numbered_by ids why) k
    → (on : ℕ) × RestsOn why on × (number_in ids on ≡ k)
rests_number ids Given k h = absurd h
rests_number ids (ReducedFrom a) k h = (a, refl, h)
rests_number ids (ResolvedFrom a b x) k h = ⊎_elim (λ e. (a, inl refl, e)) (λ e. (b, inr refl, e)) h
rests_number ids (FinishedFrom a) k h = (a, refl, h)

pub number_rests : (ids : List ℕ) (why : Why) (on : ℕ) → RestsOn why on
    → RestsOnNumber (numbered_by ids why) (number_in ids on)
number_rests ids Given on h = absurd h
number_rests ids (ReducedFrom a) on h = ap (number_in ids) h
number_rests ids (ResolvedFrom a b x) on h =
    ⊎_elim (λ e. inl (ap (number_in ids) e)) (λ e. inr (ap (number_in ids) e)) h
number_rests ids (FinishedFrom a) on h = ap (number_in ids) h

pub rests_given : (why : Why) (on : ℕ) → RestsOn why on → is_given why ≡ false
rests_given Given on h = absurd h
rests_given (ReducedFrom a) on h = refl
rests_given (ResolvedFrom a b x) on h = refl
rests_given (FinishedFrom a) on h = refl

lines_length : (d : State) (ids : List ℕ) → length (lines_at d ids) ≡ length ids
lines_length d ids = length-map ids (line_at d ids)

pub step_is : (d : State) (ids : List ℕ) (i : ℕ) → i - 1 < length ids
    → step_numbered (lines_at d ids) i ≡ numbered_by ids (why_at d (get_or ids (i - 1) 0))
step_is d ids i below =
    let inside : i - 1 < length (lines_at d ids) = rw (lines_length d ids) below in
    get_or-map (λ (l : Line). l.step) (lines_at d ids) (i - 1) (line_at d ids 0) Input inside
    ∙ ap (λ (l : Line). l.step) (get_or-map (line_at d ids) ids (i - 1) 0 (line_at d ids 0) below)

module _ (d : State) (end : ℕ) (table : List Bool) (are : AreNeeded d end table) where
  abbrev ids : List ℕ
  ids = core_ids d end

  -- a needed step of the core that rests on a needed id
  record IsUser (id : ℕ) : Type 0 where
    user : ℕ
    stands : Contains (core_ids d end) user
    rests : RestsOn (why_at d user) id
    later : id < user

  user_of : (id : ℕ) → is_needed d end id ≡ true → (id ≡ end) ⊎ IsUser id
  user_of id t =
      ⊎_elim inl
      (λ r.
      let s = r.0 in
      let b = below_at d (end + 1) s r.1 in
      let l = b.low in
      let low : s.id ≤ end = omega arith in
      let rests : RestsOn (why_at d s.id) id =
      subst (λ w. RestsOn w id) (ap (λ (q : Step). q.why) b.told) (rests_from s.why id r.3) in
      let m = are.closed s.id id low (are.value s.id low ∙ r.2) rests in
      inr (record {
        user = s.id;
        stands = core_from d end s.id low b.live r.2;
        rests = rests;
        later = m.stands.earlier;
      }))
      (needed_used (steps_below d (end + 1)) end id t)

  -- an end that is an input is needed alone
  only_end : (fuel id : ℕ) → end ≤ id + fuel → id ≤ end → is_needed d end id ≡ true → is_given (why_at d end) ≡ true
      → id ≡ end
  only_end zero id enough low t given = omega arith
  only_end (suc fuel) id enough low t given =
      ⊎_elim (λ e. e)
      (λ u.
      let c = core_at d end u.user u.stands in
      let l = u.later in
      let e = only_end fuel u.user (omega arith) c.low c.need given in
      absurd (true≢false (sym given ∙ ap (λ n. is_given (why_at d n)) (sym e)
      ∙ rests_given (why_at d u.user) id u.rests)))
      (user_of id t)

  -- the place of what a step rests on comes before its own
  comes_before : (p q : ℕ) → p < length ids → q < length ids → is_given (why_at d (get_or ids q 0)) ≡ false
      → get_or ids p 0 < get_or ids q 0 → p < q
  comes_before p q hp hq given earlier =
      elim (two p q) [
        | inl l ↦ l
        | inr r ↦ elim r [
          | inl e ↦ absurd (let same : get_or ids p 0 ≡ get_or ids q 0 = ap (λ n. get_or ids n 0) e in omega arith)
          | inr l ↦ absurd (⊎_elim (λ h. true≢false (sym h.0 ∙ given))
              (λ h. let g : get_or ids q 0 < get_or ids p 0 = h.1 in omega arith) (core_pairs d end q p 0 l hp))
        ]
      ]
    where
      two : (a b : ℕ) → (a < b) ⊎ ((a ≡ b) ⊎ (b < a))
      two a b = grind arith

  -- the end has the last place
  end_is_last : (p : ℕ) → p + 1 < length ids → get_or ids p 0 ≡ end → ⊥
  end_is_last p below is =
      let q = length ids - 1 in
      let inside : q < length ids = omega arith in
      let c = core_at d end (get_or ids q 0) (Contains-get_or ids q 0 inside) in
      ⊎_elim
      (λ h.
      let given : is_given (why_at d end) ≡ true = ap (λ n. is_given (why_at d n)) (sym is) ∙ h.0 in
      let e = only_end end (get_or ids q 0) (omega arith) c.low c.need given in
      true≢false (sym given ∙ ap (λ n. is_given (why_at d n)) (sym e) ∙ h.1))
      (λ h. let g : get_or ids p 0 < get_or ids q 0 = h.1 in let l = c.low in omega arith)
      (core_pairs d end p q 0 (omega arith) inside)

  pub core_numbered : IsNumbered (lines_at d (core_ids d end))
  core_numbered = record {
    earlier = λ i k first last rests.
        let last' : i ≤ length ids = rw (← lines_length d ids) last in
        let below : i - 1 < length ids = omega arith in
        let id = get_or ids (i - 1) 0 in
        let c = core_at d end id (Contains-get_or ids (i - 1) 0 below) in
        let r = rests_number ids (why_at d id) k (rw (step_is d ids i below) at rests) in
        let m = are.closed id r.0 c.low (are.value id c.low ∙ c.need) r.1 in
        let e = m.stands.earlier in
        let low : r.0 ≤ end = let l = c.low in omega arith in
        let p = has_place ids r.0 (core_from d end r.0 low (ap is_some m.stands.there)
        (sym (are.value r.0 low) ∙ m.marked)) in
        let w = p.within in
        let before : p.place < i - 1 =
        comes_before p.place (i - 1) p.within below (rests_given (why_at d id) r.0 r.1)
        (let t = p.there in omega arith) in
        let n : k ≡ p.place + 1 = sym r.2 ∙ p.number in (omega arith, omega arith);
    used = λ k first last. used_at k first (rw (← lines_length d ids) last);
  }
    where
      used_by : (k : ℕ) → 1 ≤ k → k < length ids → IsUser (get_or ids (k - 1) 0) → IsUsedLater (lines_at d ids) k
      used_by k first last u =
          let p = has_place ids u.user u.stands in
          let below : k - 1 < length ids = omega arith in
          let before : k - 1 < p.place =
          comes_before (k - 1) p.place below p.within
          (ap (λ n. is_given (why_at d n)) p.there ∙ rests_given (why_at d u.user) (get_or ids (k - 1) 0) u.rests)
          (let t = p.there in let l = u.later in omega arith) in
          let w = p.within in
          let back : p.place + 1 - 1 ≡ p.place = omega arith in
          let number : number_in ids (get_or ids (k - 1) 0) ≡ k =
          number_at (Precedes d) ids (core_pairs d end) (never_itself d) (k - 1) below
          ∙ (let e : k - 1 + 1 ≡ k = omega arith in e) in
          let step : step_numbered (lines_at d ids) (p.place + 1) ≡ numbered_by ids (why_at d u.user) =
          step_is d ids (p.place + 1) (let e = back in omega arith)
          ∙ ap (λ n. numbered_by ids (why_at d (get_or ids n 0))) back
          ∙ ap (λ n. numbered_by ids (why_at d n)) p.there in
          record {
            by = p.place + 1;
            later = omega arith;
            within = rw (lines_length d ids) (omega arith);
            rests = subst (λ n. RestsOnNumber (step_numbered (lines_at d ids) (p.place + 1)) n) number
                (subst (λ s. RestsOnNumber s (number_in ids (get_or ids (k - 1) 0))) (sym step)
                (number_rests ids (why_at d u.user) (get_or ids (k - 1) 0) u.rests));
          }

      used_at : (k : ℕ) → 1 ≤ k → k < length ids → IsUsedLater (lines_at d ids) k
      used_at k first last =
          let below : k - 1 < length ids = omega arith in
          let c = core_at d end (get_or ids (k - 1) 0) (Contains-get_or ids (k - 1) 0 below) in
          ⊎_elim
          (λ e. absurd (end_is_last (k - 1) (omega arith) e))
          (λ u. used_by k first last u)
          (user_of (get_or ids (k - 1) 0) c.need)
