-- Marks of the steps that a step needs, from the newest on.
use Rattle.std.proofs.Common.{◌≡◌, ℕ, zero, suc, ◌+◌, ◌-◌, ◌<◌, ◌≤◌, ◌⊎◌, inl, inr, ⊎_elim, Bool, true, false, ◌||◌, ◌&&◌, List, [], ◌∷◌, length, get_or, Option, Some, None, is_some, refl, sym, ap, ◌∙◌, arith, subst}
use Rattle.std.specs.List.{filter_map, range_with_len, cons_option}
use Rattle.std.proofs.lemmas.Bool.{false≢true, true≢false, or_left, or_right, or_cases, and_from, and_parts}
use Rattle.calculus.specs.Derivations.{RestsOn, Step, needed, rests_on}
use Rattle.calculus.proofs.Needed.{rests_true, rests_from}
use Rattle.calculus.proofs.Lists.{or_none}
use Rattle.derive.specs.State.{Note, State, is_live, note_at, side_at, why_at}
use Rattle.derive.specs.Antecedents.{IsAntecedentIn}
use Rattle.step_core.specs.Cores.{kept_at}
use Rattle.step_core.specs.Gathering.{AreMarks, AreNeeded, IsMarkedAntecedent, is_marked}

-- the live steps of some ids
abbrev pub steps_in : State → ℕ → ℕ → List Step
steps_in d a n = filter_map (kept_at d) (range_with_len a n)

-- marks once the steps up to a distance were looked at
pub record AreMarked (d : State) (end distance : ℕ) (table : List Bool) : Type 0 where
  pub marks : AreMarks d end table
  pub value : (id : ℕ) → id ≤ end → is_marked end table id ≡ needed (steps_in d (end + 1 - distance) distance) end id
  pub closed : (id on : ℕ) → id ≤ end → end - id < distance → is_marked end table id ≡ true → RestsOn (why_at d id) on
      → IsMarkedAntecedent d end table id on

pub get_past : (xs : List Bool) (i : ℕ) → length xs ≤ i → get_or xs i false ≡ false
get_past [] i h = refl
get_past (x ∷ xs) zero h = absurd (omega arith)
get_past (x ∷ xs) (suc i) h = get_past xs i (omega arith)

-- one step more in front
front_more : (d : State) (end id : ℕ) (later : List Step) (used : Bool) (o : Option Note) → note_at d id ≡ o
    → needed later end id ≡ used → (used ≡ true → is_live d id ≡ true) → (x : ℕ)
    → needed (cons_option (kept_at d id) later) end x ≡ (needed later end x || (used && rests_on (why_at d id) x))
front_more d end id later true None at is live x = absurd (false≢true (sym (ap is_some at) ∙ live refl))
front_more d end id later false None at is live x = rw at (sym (or_none (needed later end x)))
front_more d end id later used (Some note) at is live x = rw (at, is) refl

module _ (d : State) (end distance : ℕ) (old new : List Bool) (within : distance ≤ end)
    (before : AreMarked d end distance old) (marks : AreMarks d end new)
    (value : (x : ℕ) → x ≤ end
    → is_marked end new x ≡ (is_marked end old x ||
    (is_marked end old (end - distance) && rests_on (why_at d (end - distance)) x)))
    (antecedents : is_marked end old (end - distance) ≡ true → (on : ℕ) → RestsOn (why_at d (end - distance)) on
    → IsAntecedentIn d.notes (end - distance) (side_at d (end - distance)) on) where
  abbrev here : ℕ
  here = end - distance

  here_within : here ≤ end
  here_within = omega arith

  more_value : (x : ℕ) → x ≤ end
      → is_marked end new x ≡ needed (steps_in d (end + 1 - suc distance) (suc distance)) end x
  more_value x low =
      let first : end + 1 - suc distance ≡ here = omega arith in
      let next : here + 1 ≡ end + 1 - distance = omega arith in
      let later = steps_in d (end + 1 - distance) distance in
      let used : needed later end here ≡ is_marked end old here = sym (before.value here here_within) in
      let split : steps_in d (end + 1 - suc distance) (suc distance) ≡ cons_option (kept_at d here) later =
      ap (λ a. steps_in d a (suc distance)) first
      ∙ ap (λ a. cons_option (kept_at d here) (steps_in d a distance)) next in
      value x low
      ∙ ap (λ b. b || (is_marked end old here && rests_on (why_at d here) x)) (before.value x low)
      ∙ sym (front_more d end here later (is_marked end old here) (note_at d here) refl used
      (before.marks.live here here_within) x)
      ∙ ap (λ l. needed l end x) (sym split)

  stays : (x : ℕ) → x ≤ end → is_marked end old x ≡ true → is_marked end new x ≡ true
  stays x low t = value x low ∙ or_left (is_marked end old x) (is_marked end old here && rests_on (why_at d here) x) t

  -- a later step was marked before
  was_marked : (x : ℕ) → x ≤ end → here ≤ x → is_marked end new x ≡ true → is_marked end old x ≡ true
  was_marked x low above t =
      ⊎_elim (λ o. o)
      (λ both. let p = and_parts (is_marked end old here) (rests_on (why_at d here) x) both in let a =
      (antecedents p.0 x (rests_from (why_at d here) x p.1)).earlier in absurd (omega arith))
      (or_cases (is_marked end old x) (is_marked end old here && rests_on (why_at d here) x) (sym (value x low) ∙ t))

  more_closed : (id on : ℕ) → id ≤ end → end - id < suc distance → is_marked end new id ≡ true
      → RestsOn (why_at d id) on → IsMarkedAntecedent d end new id on
  more_closed id on low near t rests =
      let o = was_marked id low (omega arith) t in
      ⊎_elim
      (λ (further : end - id < distance).
      let was = before.closed id on low further o rests in
      let e = was.stands.earlier in
      record { stands = was.stands; marked = stays on (omega arith) was.marked })
      (λ (e : id ≡ here).
      let o' = subst (λ n. is_marked end old n ≡ true) e o in
      let rests' = subst (λ n. RestsOn (why_at d n) on) e rests in
      let a = antecedents o' on rests' in
      let b = a.earlier in
      record {
        stands = subst (λ n. IsAntecedentIn d.notes n (side_at d n) on) (sym e) a;
        marked = value on (omega arith)
            ∙ or_right (is_marked end old on) (is_marked end old here && rests_on (why_at d here) on)
            (and_from (is_marked end old here) (rests_on (why_at d here) on) o' (rests_true (why_at d here) on rests'));
      })
      (nearer (end - id) refl near)
    where
      nearer : (k : ℕ) → end - id ≡ k → k < suc distance → (end - id < distance) ⊎ (id ≡ here)
      nearer k is h = ⊎_elim (λ (l : k < distance). inl (omega arith)) (λ (e : k ≡ distance). inr (omega arith))
          (below_or k distance h)
        where
          below_or : (a b : ℕ) → a < suc b → (a < b) ⊎ (a ≡ b)
          below_or a b l = grind arith

  pub marked_more : AreMarked d end (distance + 1) new
  marked_more = let e : suc distance ≡ distance + 1 = omega arith in
      subst (λ n. AreMarked d end n new) e (record { marks = marks; value = more_value; closed = more_closed })

-- the steps past the table's end change nothing
rest_from : (d : State) (end : ℕ) (table : List Bool) (k distance : ℕ) → k + distance ≡ end + 1
    → length table ≤ distance → AreMarked d end distance table → AreMarked d end (end + 1) table
rest_from d end table zero distance sum past is = let e : distance ≡ end + 1 = omega arith in
    subst (λ n. AreMarked d end n table) e is
rest_from d end table (suc k) distance sum past is =
    let within : distance ≤ end = omega arith in
    let back : end - (end - distance) ≡ distance = omega arith in
    let out : is_marked end table (end - distance) ≡ false = ap (λ i. get_or table i false) back
    ∙ get_past table distance past in
    rest_from d end table k (distance + 1) (omega arith) (omega arith)
    (marked_more d end distance table table within is is.marks
    (λ x low. rw out (sym (or_none (is_marked end table x))))
    (λ t. absurd (true≢false (sym t ∙ out))))

pub marked_end : (d : State) (end : ℕ) (table : List Bool) (distance : ℕ) → length table ≤ distance
    → distance ≤ end + 1 → AreMarked d end distance table → AreNeeded d end table
marked_end d end table distance past within is =
    let all = rest_from d end table (end + 1 - distance) distance (omega arith) past is in
    let none : end + 1 - (end + 1) ≡ 0 = omega arith in
    record {
      marks = all.marks;
      value = λ id low. all.value id low ∙ ap (λ a. needed (steps_in d a (end + 1)) end id) none;
      closed = λ id on low. all.closed id on low (omega arith);
    }

-- one mark more

-- what a step rests on, by its kind
