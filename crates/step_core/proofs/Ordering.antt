-- The steps of a core in their order.
use Rattle.std.proofs.Common.{◌≡◌, ℕ, zero, suc, ◌+◌, ◌-◌, ◌<◌, ◌≤◌, ◌⊎◌, ⊎_elim, Bool, true, false, not, ◌&&◌, cond, List, [], ◌∷◌, ◌++◌, length, map, filter, get_or, Contains, Option, Some, None, is_some, refl, sym, ap, ap₂, ◌∙◌, arith, subst}
use Rattle.std.specs.List.{cons_option}
use Rattle.std.proofs.lemmas.Bool.{cases_Bool, false≢true, true≢false, false_from_ne_true}
use Rattle.std.proofs.lemmas.List.{map-append}
use Rattle.std.proofs.lemmas.List.Elements.{Contains-append_left, Contains-append_right, Contains-append_cases, filter-append}
use Rattle.calculus.specs.Derivations.{Step, core_of, needed}
use Rattle.calculus.proofs.Lists.{filter_at, filter_from, contains_map_of, contains_map}
pub use Rattle.calculus.proofs.Lists.{contains_map as map_contains}
use Rattle.derive.specs.State.{Note, State, is_live, note_at, row_of, side_at, why_at}
use Rattle.derive.proofs.Ids.{listed_at, listed_from, listed_push}
use Rattle.step_core.specs.Cores.{core_ids, core_steps, in_core_order, is_given, is_needed, kept_at, kept_with, steps_below}
use Rattle.step_core.specs.Gathering.{AreCoreIds, AreNeeded, is_in_part, is_marked, part_of_core}
use Rattle.step_core.proofs.Marking.{get_past}

-- the steps below an id

pub kept_is : (d : State) (k : ℕ) (s : Step) (o : Option Note) → note_at d k ≡ o → kept_at d k ≡ Some s
    → (s.id ≡ k) × (s ≡ record { id = s.id; side = side_at d s.id; row = row_of d s.id; why = why_at d s.id }) ×
    (is_live d k ≡ true)
kept_is d k s None at is = let f : None ≡ Some s = sym (none_at k at) ∙ is in absurd (cc)
  where
    none_at : (j : ℕ) → note_at d j ≡ None → kept_at d j ≡ None
    none_at j h = rw h refl
kept_is d k s (Some note) at is =
    let f : Some (kept_with k (row_of d k) note) ≡ Some s = sym (some_at k at) ∙ is in
    let e : kept_with k (row_of d k) note ≡ s = cc in
    subst (λ (t : Step). (t.id ≡ k) × (t ≡ record
    { id = t.id; side = side_at d t.id; row = row_of d t.id; why = why_at d t.id }) × (is_live d k ≡ true)) e
    (refl, told, ap is_some at)
  where
    some_at : (j : ℕ) → note_at d j ≡ Some note → kept_at d j ≡ Some (kept_with j (row_of d j) note)
    some_at j h = rw h refl

    told : kept_with k (row_of d k) note ≡ record { id = k; side = side_at d k; row = row_of d k; why = why_at d k }
    told = rw at refl

-- a step of the list
pub record IsBelow (d : State) (n : ℕ) (s : Step) : Type 0 where
  pub low : s.id < n
  pub live : is_live d s.id ≡ true
  pub told : s ≡ record { id = s.id; side = side_at d s.id; row = row_of d s.id; why = why_at d s.id }

pub below_at : (d : State) (n : ℕ) (s : Step) → Contains (steps_below d n) s → IsBelow d n s
below_at d n s i =
    let p = listed_at (kept_at d) 0 n s i in
    let k = kept_is d p.0 s (note_at d p.0) refl p.3 in
    let high = p.2 in
    let e = k.0 in
    record { low = omega arith; live = subst (λ m. is_live d m ≡ true) (sym e) k.2; told = k.1 }

pub kept_from : (d : State) (id : ℕ) (o : Option Note) → note_at d id ≡ o → is_some o ≡ true
    → kept_at d id ≡ Some (record { id = id; side = side_at d id; row = row_of d id; why = why_at d id })
kept_from d id None at live = absurd (false≢true live)
kept_from d id (Some note) at live = rw at refl

pub below_from : (d : State) (n id : ℕ) → id < n → is_live d id ≡ true
    → Contains (steps_below d n) (record { id = id; side = side_at d id; row = row_of d id; why = why_at d id })
below_from d n id low live =
    listed_from (kept_at d) 0 n _ id (omega arith) (omega arith) (kept_from d id (note_at d id) refl live)

-- one id more
pub below_push : (d : State) (n : ℕ) → steps_below d (suc n) ≡ steps_below d n ++ cons_option (kept_at d n) []
below_push d n = listed_push (kept_at d) (kept_at d) n (kept_at d n) (λ k low. refl) refl

-- the marked steps of a part, below an id

abbrev pub picked : State → ℕ → Bool → ℕ → List ℕ
picked d end inputs n =
    map (λ (s : Step). s.id) (filter (λ (s : Step). is_in_part inputs s.why)
    (filter (λ (s : Step). is_needed d end s.id) (steps_below d n)))

pick_one : (d : State) (end : ℕ) (inputs : Bool) (n : ℕ) (o : Option Note) → note_at d n ≡ o
    → (is_needed d end n ≡ true → is_live d n ≡ true)
    → map (λ (s : Step). s.id) (filter (λ (s : Step). is_in_part inputs s.why)
    (filter (λ (s : Step). is_needed d end s.id) (cons_option (kept_at d n) []))) ≡ cond
    (is_needed d end n && is_in_part inputs (why_at d n)) (n ∷ []) []
pick_one d end inputs n None at live =
    let out : is_needed d end n ≡ false =
    false_from_ne_true (is_needed d end n) (λ t. false≢true (sym (ap is_some at) ∙ live t)) in
    rw (at, out) refl
pick_one d end inputs n (Some note) at live =
    rw at (one (is_needed d end n) refl (is_in_part inputs note.why) refl)
  where
    one : (a : Bool) → is_needed d end n ≡ a → (b : Bool) → is_in_part inputs note.why ≡ b
        → map (λ (s : Step). s.id) (filter (λ (s : Step). is_in_part inputs s.why)
        (filter (λ (s : Step). is_needed d end s.id) (kept_with n (row_of d n) note ∷ []))) ≡ cond
        (is_needed d end n && is_in_part inputs note.why) (n ∷ []) []
    one true ea true eb = rw (ea, eb) refl
    one true ea false eb = rw (ea, eb) refl
    one false ea b eb = rw ea refl

pub picked_more : (d : State) (end : ℕ) (inputs : Bool) (n : ℕ) → (is_needed d end n ≡ true → is_live d n ≡ true)
    → picked d end inputs (suc n) ≡ picked d end inputs n
    ++ cond (is_needed d end n && is_in_part inputs (why_at d n)) (n ∷ []) []
picked_more d end inputs n live =
    let need = λ (s : Step). is_needed d end s.id in
    let part = λ (s : Step). is_in_part inputs s.why in
    let xs = steps_below d n in
    let ys = cons_option (kept_at d n) [] in
    ap (λ l. map (λ (s : Step). s.id) (filter part (filter need l))) (below_push d n)
    ∙ ap (λ l. map (λ (s : Step). s.id) (filter part l)) (filter-append need xs ys)
    ∙ ap (map (λ (s : Step). s.id)) (filter-append part (filter need xs) (filter need ys))
    ∙ map-append (λ (s : Step). s.id) (filter part (filter need xs)) (filter part (filter need ys))
    ∙ ap (λ l. picked d end inputs n ++ l) (pick_one d end inputs n (note_at d n) refl live)

pub picked_none : (d : State) (end : ℕ) (inputs : Bool) (n : ℕ) → ((id : ℕ) → id < n → is_needed d end id ≡ false)
    → picked d end inputs n ≡ []
picked_none d end inputs zero none = refl
picked_none d end inputs (suc n) none =
    let out : is_needed d end n ≡ false = none n (omega arith) in
    picked_more d end inputs n (λ t. absurd (true≢false (sym t ∙ out)))
    ∙ ap₂ (λ a b. a ++ b) (picked_none d end inputs n (λ id low. none id (omega arith))) (rw out refl)

-- the picks of a table of marks

pub needed_live : (d : State) (end : ℕ) (table : List Bool) → AreNeeded d end table → (id : ℕ) → id ≤ end
    → is_needed d end id ≡ true → is_live d id ≡ true
needed_live d end table are id low t = are.marks.live id low (are.value id low ∙ t)

pub picked_start : (d : State) (end : ℕ) (inputs : Bool) (table : List Bool) → AreNeeded d end table
    → picked d end inputs (end + 1 - length table) ≡ []
picked_start d end inputs table are =
    picked_none d end inputs (end + 1 - length table)
    (λ id low. sym (are.value id (omega arith)) ∙ get_past table (end - id) (omega arith))

pub picked_step : (d : State) (end left : ℕ) (inputs : Bool) (table : List Bool) (b : Bool) → 0 < left
    → left ≤ length table → AreNeeded d end table
    → b ≡ (get_or table (left - 1) false && is_in_part inputs (why_at d (end - (left - 1))))
    → picked d end inputs (end + 1 - (left - 1)) ≡ picked d end inputs (end + 1 - left)
    ++ cond b ((end - (left - 1)) ∷ []) []
picked_step d end left inputs table b some within are is =
    let short = are.marks.short in
    let n = end - (left - 1) in
    let first : end + 1 - left ≡ n = omega arith in
    let next : end + 1 - (left - 1) ≡ suc n = omega arith in
    let back : end - n ≡ left - 1 = omega arith in
    let marked : is_needed d end n ≡ get_or table (left - 1) false = sym (are.value n (omega arith))
    ∙ ap (λ i. get_or table i false) back in
    ap (picked d end inputs) next
    ∙ picked_more d end inputs n (needed_live d end table are n (omega arith))
    ∙ ap₂ (λ (m : ℕ) (t : Bool). picked d end inputs m ++ cond t (n ∷ []) []) (sym first)
    (ap (λ t. t && is_in_part inputs (why_at d n)) marked ∙ sym is)

-- what stands in a core

in_order_from : (steps : List Step) (s : Step) → Contains steps s → Contains (in_core_order steps) s
in_order_from steps s i =
    ⊎_elim
    (λ t. Contains-append_left (filter (λ (r : Step). is_given r.why) steps)
    (filter (λ (r : Step). not (is_given r.why)) steps) s (filter_from (λ (r : Step). is_given r.why) steps s i t))
    (λ f. Contains-append_right (filter (λ (r : Step). is_given r.why) steps)
    (filter (λ (r : Step). not (is_given r.why)) steps) s
    (filter_from (λ (r : Step). not (is_given r.why)) steps s i (ap not f)))
    (cases_Bool (is_given s.why))

in_order_at : (steps : List Step) (s : Step) → Contains (in_core_order steps) s → Contains steps s
in_order_at steps s i =
    ⊎_elim
    (λ j. (filter_at (λ (r : Step). is_given r.why) steps s j).0)
    (λ j. (filter_at (λ (r : Step). not (is_given r.why)) steps s j).0)
    (Contains-append_cases (filter (λ (r : Step). is_given r.why) steps)
    (filter (λ (r : Step). not (is_given r.why)) steps) s i)

pub core_from : (d : State) (end id : ℕ) → id ≤ end → is_live d id ≡ true → is_needed d end id ≡ true
    → Contains (core_ids d end) id
core_from d end id low live t =
    let all = steps_below d (end + 1) in
    let s : Step = record { id = id; side = side_at d id; row = row_of d id; why = why_at d id } in
    contains_map_of (λ (r : Step). r.id) (core_steps d end) s
    (in_order_from (core_of all end) s (filter_from (λ (r : Step). needed all end r.id) all s
    (below_from d (end + 1) id (omega arith) live) t))

-- a step of a core
pub record IsInCore (d : State) (end id : ℕ) : Type 0 where
  pub low : id ≤ end
  pub live : is_live d id ≡ true
  pub need : is_needed d end id ≡ true

pub core_at : (d : State) (end id : ℕ) → Contains (core_ids d end) id → IsInCore d end id
core_at d end id i =
    let all = steps_below d (end + 1) in
    let p = contains_map (λ (r : Step). r.id) (core_steps d end) id i in
    let q = filter_at (λ (r : Step). needed all end r.id) all p.0 (in_order_at (core_of all end) p.0 p.1) in
    let b = below_at d (end + 1) p.0 q.0 in
    subst (IsInCore d end) p.2 (let l = b.low in record { low = omega arith; live = b.live; need = q.1 })

pub core_closed : (d : State) (end : ℕ) (table : List Bool) → AreNeeded d end table
    → AreCoreIds d end table (core_ids d end)
core_closed d end table are = record {
  within = λ id i. let c = core_at d end id i in (c.low, inside id c.low (are.value id c.low ∙ c.need));
  live = λ id i. (core_at d end id i).live;
  closed = λ id on i rests.
      let c = core_at d end id i in
      let m = are.closed id on c.low (are.value id c.low ∙ c.need) rests in
      let e = m.stands.earlier in
      let low : on ≤ end = let l = c.low in omega arith in
      core_from d end on low (ap is_some m.stands.there) (sym (are.value on low) ∙ m.marked);
}
  where
    inside_of : (n k : ℕ) → get_or table k false ≡ true → k < length table
    inside_of n k t = ⊎_elim (λ (b : k < length table). b)
        (λ (p : length table ≤ k). absurd (true≢false (sym t ∙ get_past table k p))) (either k (length table))
      where
        either : (a b : ℕ) → (a < b) ⊎ (b ≤ a)
        either a b = grind arith

    inside : (id : ℕ) → id ≤ end → is_marked end table id ≡ true → end - id < length table
    inside id low t = inside_of id (end - id) t

-- the two parts make the core
pub parts_are : (d : State) (end : ℕ) (none first all : List ℕ) → none ≡ [] → first ≡ none ++ part_of_core d end true
    → all ≡ first ++ part_of_core d end false → all ≡ core_ids d end
parts_are d end none first all empty one two =
    let core = core_of (steps_below d (end + 1)) end in
    two ∙ ap (λ xs. xs ++ part_of_core d end false) (one ∙ ap (λ xs. xs ++ part_of_core d end true) empty)
    ∙ sym (map-append (λ (s : Step). s.id) (filter (λ (s : Step). is_given s.why) core)
    (filter (λ (s : Step). not (is_given s.why)) core))
