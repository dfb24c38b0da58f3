-- The loop over the list of reasons on the way.
use Rattle.std.proofs.Common.{◌≡◌, ℕ, zero, suc, ◌+◌, ◌-◌, ◌*◌, ◌<◌, ◌≤◌, ◌⊎◌, Bool, true, false, List, [], ◌∷◌, ◌++◌, length, take, get_or, Option, Some, None, refl, sym, subst, ap, ap₂, ◌∙◌, inl, inr, ⊎_elim, arith, append_assoc, nat_eq}
use Rattle.std.specs.Prelude.{IsTrue}
use Rattle.std.proofs.lemmas.List.{length-map, take_all, length_push}
use Rattle.std.proofs.lemmas.Bool.{cases_Bool, cond-true, cond-false, true≢false}
use Rattle.prefix.specs.declared.quant.Quant.{Quant}
use Rattle.prefix.specs.Literal.{Literal}
use Rattle.prefix.specs.Scopes.{Scope}
use Rattle.steps.specs.Counter.{Counter, after, left}
use Rattle.calculus.specs.Search.{Cause, Placed, Trail, cause_on, literals_on, place_on}
use Rattle.calculus.specs.Search.Cause.{Assumed, Decided, Propagated}
use Rattle.calculus.proofs.Trails.{cause_here, cause_past}
use Rattle.std.specs.Option.{option_map}
use Rattle.trail.specs.State.{TrailState, IsPropagated, IsTrailFor, is_marked}
use Rattle.derive.specs.State.{State, IsLegalFor, has_rows}
use Rattle.clean.specs.declared.frame.Frame.{Frame}
use Rattle.clean.specs.Frames.{AreFrames, AreMarkedOn, IsDue, IsFirstBlocked, IsFrameBlocked, IsTurn, Marks, TurnsTop, WaitsFor}
use Rattle.clean.specs.Frames.IsTurn.{marks, waits, turns}
use Rattle.clean.specs.Marks.{CleansReasons, KeepsReasons, MarksMore, StopsCleaning, kind_of, kinds_on, marks_in, marks_left}
use Rattle.clean.specs.Reasons.{HaveReasons}
use Rattle.clean.specs.Turns.{Resolves, StopsAfter}
use Rattle.clean.proofs.Framing.{frames_less}
use Rattle.clean.proofs.Fronts.{place_some}
use Rattle.clean.proofs.Keeping.{after_both, after_more, after_none, resolves_more, resolves_none}
use Rattle.clean.proofs.Moving.{caused, marked_own, marks_more, places, same_literals}

-- marks, one after the other

pub marks_none : (t : TrailState) → MarksMore t t 0
marks_none t = record {
  kinds = refl;
  depths = refl;
  long = refl;
  finished = refl;
  assigned = refl;
  restarts = refl;
  room = refl;
  allowed = refl;
  stay = λ x on. (on, refl);
  others = λ x off. refl;
  marked = omega arith;
}

off_before : (b c : Bool) → (b ≡ true → c ≡ true) → c ≡ false → b ≡ false
off_before true c up off = absurd (true≢false (sym (up refl) ∙ off))
off_before false c up off = refl

pub marks_twice : (a b c : TrailState) (m n : ℕ) → MarksMore a b m → MarksMore b c n → MarksMore a c (m + n)
marks_twice a b c m n first second = record {
  kinds = second.kinds ∙ first.kinds;
  depths = second.depths ∙ first.depths;
  long = second.long ∙ first.long;
  finished = second.finished ∙ first.finished;
  assigned = second.assigned ∙ first.assigned;
  restarts = second.restarts ∙ first.restarts;
  room = second.room ∙ first.room;
  allowed = second.allowed ∙ first.allowed;
  stay = λ x on. let one = first.stay x on in let two = second.stay x one.0 in (two.0, two.1 ∙ one.1);
  others = λ x off. let middle = off_before (is_marked b x) (is_marked c x) (λ on. (second.stay x on).0) off in
      second.others x off ∙ first.others x middle;
  marked = let one = first.marked in let two = second.marked in omega arith;
}

pub marks_size : (a b : TrailState) (m : ℕ) → MarksMore a b m → length b.placed ≡ length a.placed
marks_size a b m more =
    let kind : Placed → Placed = λ (p : Placed). record { literal = p.literal; cause = kind_of p.cause } in
    sym (length-map b.placed kind) ∙ (ap length more.kinds ∙ length-map a.placed kind)

-- how many marks

pub few_marks : (bs : List Bool) (n : ℕ) → marks_in (take n bs) ≤ n
few_marks bs zero = omega arith
few_marks [] (suc n) = omega arith
few_marks (b ∷ bs) (suc n) =
    let later = few_marks bs n in
    let is : marks_in (take (suc n) (b ∷ bs)) ≡ marks_in (b ∷ take n bs) = refl in
    ⊎_elim
    (λ t. let one = cond-true b (suc (marks_in (take n bs))) (marks_in (take n bs)) t in omega arith)
    (λ f. let one = cond-false b (suc (marks_in (take n bs))) (marks_in (take n bs)) f in omega arith)
    (cases_Bool b)

gap : (bs : List Bool) (a b : ℕ) → a < b → get_or bs a false ≡ false
    → marks_in (take b bs) + a + 1 ≤ marks_in (take a bs) + b
gap [] a zero below off = absurd (omega arith)
gap [] zero (suc b) below off = omega arith
gap [] (suc a) (suc b) below off = omega arith
gap (m ∷ bs) a zero below off = absurd (omega arith)
gap (m ∷ bs) zero (suc b) below off =
    let none : marks_in (m ∷ take b bs) ≡ marks_in (take b bs) =
    cond-false m (suc (marks_in (take b bs))) (marks_in (take b bs)) off in
    let is : marks_in (take (suc b) (m ∷ bs)) ≡ marks_in (m ∷ take b bs) = refl in
    let few = few_marks bs b in
    omega arith
gap (m ∷ bs) (suc a) (suc b) below off =
    let later = gap bs a b (omega arith) off in
    let is : marks_in (take (suc b) (m ∷ bs)) ≡ marks_in (m ∷ take b bs) = refl in
    let too : marks_in (take (suc a) (m ∷ bs)) ≡ marks_in (m ∷ take a bs) = refl in
    ⊎_elim
    (λ t. let one = cond-true m (suc (marks_in (take b bs))) (marks_in (take b bs)) t in
    let two = cond-true m (suc (marks_in (take a bs))) (marks_in (take a bs)) t in omega arith)
    (λ f. let one = cond-false m (suc (marks_in (take b bs))) (marks_in (take b bs)) f in
    let two = cond-false m (suc (marks_in (take a bs))) (marks_in (take a bs)) f in omega arith)
    (cases_Bool m)

pub frames_few : (pivot : Quant) (scopes : List Scope) (d : State) (t : TrailState) (above : ℕ) (fs : List Frame)
    → AreFrames pivot scopes d t above fs → marks_in (take above t.marks) + length fs ≤ above
frames_few pivot scopes d t above [] are = let few = few_marks t.marks above in
    let none : length {A = Frame} [] ≡ 0 = refl in omega arith
frames_few pivot scopes d t above (f ∷ fs) are =
    let later = frames_few pivot scopes d t (place_on t.placed f.var) fs are.2 in
    let more = gap t.marks (place_on t.placed f.var) above are.0 are.1.unmarked in
    let long : length (f ∷ fs) ≡ suc (length fs) = refl in
    omega arith

pub all_few : (pivot : Quant) (scopes : List Scope) (d : State) (t : TrailState) (fs : List Frame)
    → length t.marks ≡ length t.placed → AreFrames pivot scopes d t (length t.placed) fs
    → marks_in t.marks + length fs ≤ length t.placed
all_few pivot scopes d t fs long are =
    let few = frames_few pivot scopes d t (length t.placed) fs are in
    let whole : take (length t.placed) t.marks ≡ t.marks = take_all (length t.placed) t.marks (omega arith) in
    let same : marks_in (take (length t.placed) t.marks) ≡ marks_in t.marks = ap marks_in whole in
    omega arith

-- sums over the list

abbrev pub lefts : List Frame → ℕ
lefts [] = 0
lefts (f ∷ fs) = f.left + lefts fs

abbrev pub spots : Trail → List Frame → ℕ
spots trail [] = 0
spots trail (f ∷ fs) = place_on trail f.var + spots trail fs

lefts_more : (fs : List Frame) (f : Frame) → lefts (fs ++ f ∷ []) ≡ lefts fs + f.left
lefts_more [] f = omega arith
lefts_more (g ∷ fs) f = let later = lefts_more fs f in
    let is : lefts ((g ∷ fs) ++ f ∷ []) ≡ g.left + lefts (fs ++ f ∷ []) = refl in
    let too : lefts (g ∷ fs) ≡ g.left + lefts fs = refl in omega arith

spots_more : (trail : Trail) (fs : List Frame) (f : Frame)
    → spots trail (fs ++ f ∷ []) ≡ spots trail fs + place_on trail f.var
spots_more trail [] f = omega arith
spots_more trail (g ∷ fs) f = let later = spots_more trail fs f in
    let is : spots trail ((g ∷ fs) ++ f ∷ []) ≡ place_on trail g.var + spots trail (fs ++ f ∷ []) = refl in
    let too : spots trail (g ∷ fs) ≡ place_on trail g.var + spots trail fs = refl in omega arith

spots_same : (now t : Trail) (fs : List Frame) → literals_on now ≡ literals_on t → spots now fs ≡ spots t fs
spots_same now t [] same = refl
spots_same now t (f ∷ fs) same = ap₂ (λ (m n : ℕ). m + n) (places now t same f.var) (spots_same now t fs same)

pub times_more : (m n : ℕ) → (m + 1) * n ≡ m * n + n
times_more m n = omega arith

pub times_sum : (a b n : ℕ) → (a + b) * n ≡ a * n + b * n
times_sum zero b n = omega arith
times_sum (suc a) b n = let later = times_sum a b n in let one : (suc a + b) * n ≡ n + (a + b) * n = omega arith in
    let two : suc a * n ≡ n + a * n = omega arith in omega arith

pub times_most : (a b n : ℕ) → a ≤ b → a * n ≤ b * n
times_most a b n most =
    let k : ℕ = b - a in
    let is : b ≡ a + k = omega arith in
    let sum = ap (λ m. m * n) is ∙ times_sum a k n in
    omega arith

pub spots_few : (pivot : Quant) (scopes : List Scope) (d : State) (t : TrailState) (above most : ℕ) (fs : List Frame)
    → above ≤ most → AreFrames pivot scopes d t above fs → spots t.placed fs ≤ length fs * most
spots_few pivot scopes d t above most [] fits are = omega arith
spots_few pivot scopes d t above most (f ∷ fs) fits are =
    let place = are.0 in
    let later = spots_few pivot scopes d t (place_on t.placed f.var) most fs (omega arith) are.2 in
    let one : length (f ∷ fs) * most ≡ (length fs + 1) * most = ap
    (λ n. n * most) (let e : length (f ∷ fs) ≡ length fs + 1 = omega arith in e) in
    let two = times_more (length fs) most in
    let is : spots t.placed (f ∷ fs) ≡ place_on t.placed f.var + spots t.placed fs = refl in
    omega arith

-- the first one is on the list, or marked
abbrev pub HasBase : TrailState → ℕ → List Frame → Type 0
HasBase t x [] = IsTrue (is_marked t x)
HasBase t x (f ∷ fs) = f.var ≡ x

abbrev pub first_of : List Frame → ℕ
first_of [] = 0
first_of (f ∷ fs) = f.var

-- the state of the loop
pub record IsUnderWay (pivot : Quant) (scopes : List Scope) (old now : State) (t0 t : TrailState)
    (before spent : Counter) (first stack : List Frame) : Type 0 where
  pub made : ℕ
  pub taken : ℕ
  pub reduced : ℕ
  pub marks : MarksMore t0 t made
  pub counted : spent ≡ after before (taken + reduced)
  pub resolves : Resolves scopes old now taken reduced
  pub few : taken + lefts stack ≤ made * length t0.placed + spots t.placed stack
  pub reasons : KeepsReasons scopes old now t0 t
  pub legal : IsLegalFor scopes now
  pub trail : IsTrailFor scopes t
  pub have : HaveReasons pivot scopes now t
  pub frames : AreFrames pivot scopes now t (length t.placed) stack
  pub base : HasBase t (first_of first) stack
  pub one : length first ≡ 1
  pub due : IsFirstBlocked pivot scopes old t0 first ⊎ (((stack ≡ first) × (now ≡ old) × (t ≡ t0)) ⊎ (stack ≡ []))

-- where a resolution is due, one was due for the first reason
module _ (pivot : Quant) (scopes : List Scope) where
  no_top : (rest : List Frame) (top : Frame) → rest ++ top ∷ [] ≡ [] → ⊥
  no_top rest top e = let long = length_push rest top in let none : length (rest ++ top ∷ []) ≡ 0 = ap length e in
      omega arith

  alone : (rest : List Frame) (f top : Frame) → rest ++ top ∷ [] ≡ f ∷ [] → top ≡ f
  alone [] f top e = let same : top ∷ [] ≡ f ∷ [] = e in cc
  alone (g ∷ rest) f top e = absurd (no_top rest top (let same : g ∷ (rest ++ top ∷ []) ≡ f ∷ [] = e in cc))

  first_due : (d : State) (t : TrailState) (first rest : List Frame) (top : Frame) → length first ≡ 1
      → rest ++ top ∷ [] ≡ first → IsFrameBlocked pivot scopes d t top → IsFirstBlocked pivot scopes d t first
  first_due d t [] rest top one is blocked = absurd (no_top rest top is)
  first_due d t (f ∷ []) rest top one is blocked = subst (IsFrameBlocked pivot scopes d t) (alone rest f top is) blocked
  first_due d t (f ∷ g ∷ fs) rest top one is blocked =
      absurd (let more : length (f ∷ g ∷ fs) ≡ suc (suc (length fs)) = refl in omega arith)

  pub was_due : (old now : State) (t0 t : TrailState) (before spent : Counter) (first stack : List Frame)
      → IsUnderWay pivot scopes old now t0 t before spent first stack → IsDue pivot scopes now t stack
      → IsFirstBlocked pivot scopes old t0 first
  was_due old now t0 t before spent first stack is due =
      ⊎_elim
      (λ blocked. blocked)
      (λ others. ⊎_elim
      (λ same.
      first_due old t0 first due.rest due.top is.one (sym due.is ∙ same.0)
      (subst (λ (u : TrailState). IsFrameBlocked pivot scopes old u due.top) same.2 (subst
      (λ (d : State). IsFrameBlocked pivot scopes d t due.top) same.1 due.blocked)))
      (λ none. absurd (no_top due.rest due.top (sym due.is ∙ none)))
      others)
      is.due

-- what grows less
abbrev pub weight : TrailState → List Frame → ℕ
weight t stack = (length t.marks - (marks_in t.marks + length stack)) * (length t.placed + 1) +
    (lefts stack + length stack)

-- one turn
module _ (pivot : Quant) (scopes : List Scope) (old now new : State) (t0 t next : TrailState)
    (before spent later : Counter) (first stack then : List Frame)
    (is : IsUnderWay pivot scopes old now t0 t before spent first stack)
    (reasons : KeepsReasons scopes now new t next) (legal : IsLegalFor scopes new) (trail : IsTrailFor scopes next)
    (frames : AreFrames pivot scopes new next (length next.placed) then) where
  abbrev Next : Type 0
  Next = IsUnderWay pivot scopes old new t0 next before later first then × (weight next then < weight t stack)

  now_few : marks_in t.marks + length stack ≤ length t.placed
  now_few = all_few pivot scopes now t stack is.trail.marked is.frames

  then_few : marks_in next.marks + length then ≤ length next.placed
  then_few = all_few pivot scopes new next then trail.marked frames

  lighter : (k n : ℕ) → length t.marks - (marks_in t.marks + length stack) ≡ suc k
      → k * n + n ≡ (length t.marks - (marks_in t.marks + length stack)) * n
  lighter k n e = let one : suc k * n ≡ k * n + n = omega arith in sym one ∙ ap (λ m. m * n) (sym e)

  pub turns_marked : Marks now new t next stack then spent later → Next
  turns_marked m = let x = m.top.var in
      let own = frames_less pivot scopes now t (length t.placed) then m.top
      (subst (AreFrames pivot scopes now t (length t.placed)) m.taken_off is.frames) in
      let was = own.1.propagated in
      let long = is.trail.marked in
      let one : MarksMore t next 1 = subst (λ (s : TrailState). MarksMore t s 1) (sym m.marked)
      (marks_more t x m.top.row was.0 was.1 long own.1.unmarked) in
      let size = marks_size t0 t is.made is.marks in
      let next_size = marks_size t next 1 one in
      let same : literals_on next.placed ≡ literals_on t.placed = ap
      (λ (s : TrailState). literals_on s.placed) m.marked ∙ same_literals t x m.top.row was.0 was.1 long in
      let l = ap lefts m.taken_off ∙ lefts_more then m.top in
      let s = ap (spots t.placed) m.taken_off ∙ spots_more t.placed then m.top in
      let moved = spots_same next.placed t.placed then same in
      let place : place_on t.placed x < length t.placed = place_some t.placed x (caused t.placed x _ was.1) in
      let few = is.few in
      let times = times_more is.made (length t0.placed) in
      let longer : length stack ≡ length then + 1 = ap length m.taken_off ∙ length_push then m.top in
      let one_more = one.marked in
      let marks_long = one.long in (
        record {
          made = is.made + 1;
          taken = is.taken;
          reduced = is.reduced;
          marks = marks_twice t0 t next is.made 1 is.marks one;
          counted = m.uncounted ∙ is.counted;
          resolves = subst (λ (d : State). Resolves scopes old d is.taken is.reduced) (sym m.same) is.resolves;
          few = omega arith;
          reasons = λ side have. reasons side (is.reasons side have);
          legal = legal;
          trail = trail;
          have = reasons pivot is.have;
          frames = frames;
          one = is.one;
          due = ⊎_elim
              inl
              (λ others. ⊎_elim
              (λ same. let alone : length then ≡ 0 = (let whole = ap length same.0 in let first_long = is.one in
              omega arith) in inr (inr (empty then alone)))
              (λ none. absurd (let whole : length stack ≡ 0 = ap length none in omega arith))
              others)
              is.due;
          base = based then m.top (first_of first) (subst (HasBase t (first_of first)) m.taken_off is.base) (ap
              (λ (s : TrailState). is_marked s x) m.marked ∙ marked_own t x m.top.row was.0 was.1 long);
        },
        let left : length t.marks - (marks_in t.marks + length stack) ≡ length next.marks -
            (marks_in next.marks + length then) = omega arith in
            let times_same : (length t.marks - (marks_in t.marks + length stack)) * (length t.placed + 1) ≡
            (length next.marks - (marks_in next.marks + length then)) * (length next.placed + 1) = ap₂
            (λ (m n : ℕ). m * n) left (ap (λ n. n + 1) (sym next_size)) in
            omega arith,
      )
    where
      empty : (fs : List Frame) → length fs ≡ 0 → fs ≡ []
      empty [] e = refl
      empty (f ∷ fs) e = absurd (let more : length (f ∷ fs) ≡ suc (length fs) = refl in omega arith)

      based : (fs : List Frame) (f : Frame) (x : ℕ) → HasBase t x (fs ++ f ∷ []) → IsTrue (is_marked next f.var)
          → HasBase next x fs
      based [] f x has on = ap (is_marked next) (sym has) ∙ on
      based (g ∷ fs) f x has on = has

  base_same : (fs gs : List Frame) (f g : Frame) (x : ℕ) → HasBase t x (fs ++ f ∷ []) → g.var ≡ f.var
      → HasBase next x (fs ++ g ∷ gs)
  base_same [] gs f g x has e = e ∙ has
  base_same (h ∷ fs) gs f g x has e = has

  pub turns_waits : IsDue pivot scopes now t stack → WaitsFor now new t next stack then spent later → Next
  turns_waits is_due w =
      let l = ap lefts (w.more ∙ ap (λ (fs : List Frame). fs ++ w.next ∷ []) (sym w.is)) ∙ lefts_more stack w.next in
      let s = ap (spots t.placed) (w.more ∙ ap (λ (fs : List Frame). fs ++ w.next ∷ []) (sym w.is))
      ∙ spots_more t.placed stack w.next in
      let few = is.few in
      let whole = w.whole in
      let own = (frames_less pivot scopes now t (length t.placed) w.rest w.top
      (subst (AreFrames pivot scopes now t (length t.placed)) w.is is.frames)).1.propagated in
      let place : place_on t.placed w.top.var < length t.placed =
      place_some t.placed w.top.var (caused t.placed w.top.var _ own.1) in
      let earlier = w.earlier in
      let moved : spots next.placed then ≡ spots t.placed then = ap
      (λ (s : TrailState). spots s.placed then) w.same_trail in
      let longer : length then ≡ length stack + 1 =
      ap length (w.more ∙ ap (λ (fs : List Frame). fs ++ w.next ∷ []) (sym w.is)) ∙ length_push stack w.next in
      let size : length next.placed ≡ length t.placed = ap (λ (s : TrailState). length s.placed) w.same_trail in
      let marks_size_same : length next.marks ≡ length t.marks = ap (λ (s : TrailState). length s.marks) w.same_trail in
      let marks_same : marks_in next.marks ≡ marks_in t.marks = ap
      (λ (s : TrailState). marks_in s.marks) w.same_trail in
      let long = is.trail.marked in
      let most = then_few in (
        record {
          made = is.made;
          taken = is.taken;
          reduced = is.reduced;
          marks = subst (λ (s : TrailState). MarksMore t0 s is.made) (sym w.same_trail) is.marks;
          counted = w.uncounted ∙ is.counted;
          resolves = subst (λ (d : State). Resolves scopes old d is.taken is.reduced) (sym w.same) is.resolves;
          few = omega arith;
          reasons = λ side have. reasons side (is.reasons side have);
          legal = legal;
          trail = trail;
          have = reasons pivot is.have;
          frames = frames;
          one = is.one;
          due = inl (was_due pivot scopes old now t0 t before spent first stack is is_due);
          base = subst (HasBase next (first_of first)) (sym (w.more ∙ append_assoc w.rest (w.top ∷ []) (w.next ∷ [])))
              (base_same w.rest (w.next ∷ []) w.top w.top (first_of first)
              (subst (HasBase t (first_of first)) w.is is.base) refl);
        },
        let k : ℕ = length next.marks - (marks_in next.marks + length then) in
            let less : length t.marks - (marks_in t.marks + length stack) ≡ suc k = omega arith in
            let heavy = lighter k (length t.placed + 1) less in
            let times_same : (length next.marks - (marks_in next.marks + length then)) * (length next.placed + 1)
            ≡ k * (length t.placed + 1) = ap (λ n. k * (n + 1)) size in
            omega arith,
      )

  pub turns_turned : IsDue pivot scopes now t stack → TurnsTop scopes now new t next stack then spent later → Next
  turns_turned is_due r = let l = ap lefts r.is ∙ lefts_more r.rest r.top in
      let m = ap lefts r.turned ∙ lefts_more r.rest r.next in
      let s = ap (spots t.placed) r.is ∙ spots_more t.placed r.rest r.top in
      let n = ap (spots t.placed) r.turned ∙ spots_more t.placed r.rest r.next in
      let place : place_on t.placed r.next.var ≡ place_on t.placed r.top.var = ap (place_on t.placed) r.same_variable in
      let moved : spots next.placed then ≡ spots t.placed then = ap
      (λ (s : TrailState). spots s.placed then) r.same_trail in
      let few = is.few in
      let fewer = r.fewer in
      let longer : length stack ≡ length r.rest + 1 = ap length r.is ∙ length_push r.rest r.top in
      let longer_then : length then ≡ length r.rest + 1 = ap length r.turned ∙ length_push r.rest r.next in (
        record {
          made = is.made;
          taken = is.taken + 1;
          reduced = is.reduced + r.reduced;
          marks = subst (λ (s : TrailState). MarksMore t0 s is.made) (sym r.same_trail) is.marks;
          counted = after_both before spent later is.taken 1 is.reduced r.reduced is.counted r.counted;
          resolves = resolves_more scopes old now new is.taken 1 is.reduced r.reduced is.resolves r.resolves;
          few = omega arith;
          reasons = λ side have. reasons side (is.reasons side have);
          legal = legal;
          trail = trail;
          have = reasons pivot is.have;
          frames = frames;
          one = is.one;
          due = inl (was_due pivot scopes old now t0 t before spent first stack is is_due);
          base = subst (HasBase next (first_of first)) (sym r.turned)
              (base_same r.rest [] r.top r.next (first_of first)
              (subst (HasBase t (first_of first)) r.is is.base) r.same_variable);
        },
        let size : length stack ≡ length then = omega arith in
            let times_same : (length next.marks - (marks_in next.marks + length then)) * (length next.placed + 1) ≡
            (length t.marks - (marks_in t.marks + length stack)) * (length t.placed + 1) = ap₂
            (λ (s : TrailState) (n : ℕ). (length s.marks - (marks_in s.marks + n)) * (length s.placed + 1))
            r.same_trail (sym size) in
            omega arith,
      )

  pub turns_once : IsTurn pivot scopes now new t next stack then spent later → Next
  turns_once (marks m) = turns_marked m
  turns_once (waits due w) = turns_waits due w
  turns_once (turns due r) = turns_turned due r

-- the ways out

pub starts_under_way : (pivot : Quant) (scopes : List Scope) (d : State) (t : TrailState) (c : Counter)
    (stack : List Frame) → IsTrue (has_rows d) → IsLegalFor scopes d → IsTrailFor scopes t
    → HaveReasons pivot scopes d t → AreFrames pivot scopes d t (length t.placed) stack → length stack ≡ 1
    → IsUnderWay pivot scopes d d t t c c stack stack
starts_under_way pivot scopes d t c [] rows legal trail have frames one =
    absurd (let none : length {A = Frame} [] ≡ 0 = refl in omega arith)
starts_under_way pivot scopes d t c (g ∷ h ∷ fs) rows legal trail have frames one =
    absurd (let more : length (g ∷ h ∷ fs) ≡ suc (suc (length fs)) = refl in omega arith)
starts_under_way pivot scopes d t c (f ∷ []) rows legal trail have frames one = record {
  made = 0;
  taken = 0;
  reduced = 0;
  marks = marks_none t;
  counted = after_none c;
  resolves = resolves_none scopes d rows;
  few = (let low = frames.1.within in omega arith);
  reasons = λ side h. h;
  legal = legal;
  trail = trail;
  have = have;
  frames = frames;
  base = refl;
  one = one;
  due = inr (inl (refl, refl, refl));
}

pub ends_marked : (t : TrailState) (first : List Frame) → length first ≡ 1 → HasBase t (first_of first) []
    → AreMarkedOn t first
ends_marked t [] one has = tt
ends_marked t (f ∷ []) one has = (has, tt)
ends_marked t (f ∷ g ∷ fs) one has = absurd (let more : length (f ∷ g ∷ fs) ≡ suc (suc (length fs)) = refl in
    omega arith)

pub ends_clean : (pivot : Quant) (scopes : List Scope) (old now : State) (t0 t : TrailState) (before spent : Counter)
    (first : List Frame) → IsUnderWay pivot scopes old now t0 t before spent first []
    → CleansReasons scopes old now t0 t before spent 0
ends_clean pivot scopes old now t0 t before spent first is = record {
  made = is.made;
  taken = is.taken;
  reduced = is.reduced;
  marks = is.marks;
  few = (let few = is.few in omega arith);
  counted = is.counted;
  resolves = is.resolves;
}

-- a step is due: fewer were taken than the square of the trail's length
pub under_square : (pivot : Quant) (scopes : List Scope) (old now : State) (t0 t : TrailState)
    (before spent : Counter) (first stack : List Frame)
    (is : IsUnderWay pivot scopes old now t0 t before spent first stack) → IsDue pivot scopes now t stack
    → is.taken + 1 ≤ marks_left t0 * length t0.placed
under_square pivot scopes old now t0 t before spent first stack is due =
    let size = marks_size t0 t is.made is.marks in
    let few = all_few pivot scopes now t stack is.trail.marked is.frames in
    let made = is.marks.marked in
    let sum = spots_few pivot scopes now t (length t.placed) (length t.placed) stack (omega arith) is.frames in
    let at : length stack * length t.placed ≡ length stack * length t0.placed = ap (λ n. length stack * n) size in
    let parts = times_sum is.made (length stack) (length t0.placed) in
    let most = times_most (is.made + length stack) (marks_left t0) (length t0.placed) (omega arith) in
    let l = ap lefts due.is ∙ lefts_more due.rest due.top in
    let top = (frames_less pivot scopes now t (length t.placed) due.rest due.top
    (subst (AreFrames pivot scopes now t (length t.placed)) due.is is.frames)).1 in
    let some = top.blockers due.blocked.blocker due.blocked.blocked due.blocked.blocks in
    let counts = is.few in
    omega arith

pub stops_clean : (pivot : Quant) (scopes : List Scope) (old now new : State) (t0 t next : TrailState)
    (before spent later : Counter) (first stack : List Frame)
    (is : IsUnderWay pivot scopes old now t0 t before spent first stack) → IsDue pivot scopes now t stack → next ≡ t
    → StopsAfter scopes 1 now new spent later
    → StopsCleaning scopes old new t0 next before later (marks_left t0 * length t0.placed)
stops_clean pivot scopes old now new t0 t next before spent later first stack is due same stops =
    let square = under_square pivot scopes old now t0 t before spent first stack is due in
    let few = stops.few in
    let fewer = stops.fewer in
    let no_more = is.resolves.fewer in
    record {
      made = is.made;
      taken = (is.taken + is.reduced) + stops.taken;
      came = is.taken + stops.came;
      reduced = is.reduced + stops.reduced;
      marks = subst (λ (s : TrailState). MarksMore t0 s is.made) (sym same) is.marks;
      few = omega arith;
      fewer = omega arith;
      counted = stops.counted ∙ (ap (λ (c : Counter). after c stops.taken) is.counted
          ∙ after_more before (is.taken + is.reduced) stops.taken);
      resolves = resolves_more scopes old now new is.taken stops.came is.reduced stops.reduced is.resolves
          stops.resolves;
    }

-- fewer than two steps are left
pub spent_under : (before spent : Counter) (taken reduced most : ℕ) → spent ≡ after before (taken + reduced)
    → reduced ≤ taken → left spent < 2 → taken + 1 ≤ most → left before < 2 * most
spent_under before spent taken reduced most e fewer full few =
    let s : spent.spent ≡ before.spent + (taken + reduced) = ap (λ (c : Counter). c.spent) e in
    let b : spent.budget ≡ before.budget = ap (λ (c : Counter). c.budget) e in
    omega arith

-- what was propagated is so still
pub kinds_cause : (trail : Trail) (x : ℕ) → cause_on (kinds_on trail) x ≡ option_map kind_of (cause_on trail x)
kinds_cause [] x = refl
kinds_cause (p ∷ trail) x =
    let q : Placed = record { literal = p.literal; cause = kind_of p.cause } in
    ⊎_elim
    (λ t. cause_here q (kinds_on trail) x t ∙ sym (ap (option_map kind_of) (cause_here p trail x t)))
    (λ f. cause_past q (kinds_on trail) x f ∙ (kinds_cause trail x
    ∙ sym (ap (option_map kind_of) (cause_past p trail x f))))
    (cases_Bool (nat_eq p.literal.variable x))

is_of_kind : (o : Option Cause) → option_map kind_of o ≡ Some (Propagated 0) → (id : ℕ) × (o ≡ Some (Propagated id))
is_of_kind None e = absurd (cc)
is_of_kind (Some Assumed) e = absurd (let f : Some Assumed ≡ Some (Propagated 0) = e in cc)
is_of_kind (Some Decided) e = absurd (let f : Some Decided ≡ Some (Propagated 0) = e in cc)
is_of_kind (Some (Propagated id)) e = (id, refl)

pub propagated_stays : (a b : TrailState) (m x : ℕ) → MarksMore a b m → IsPropagated a.placed x
    → IsPropagated b.placed x
propagated_stays a b m x more is =
    is_of_kind (cause_on b.placed x) (sym (kinds_cause b.placed x)
    ∙ (ap (λ (t : Trail). cause_on t x) more.kinds ∙ (kinds_cause a.placed x ∙ ap (option_map kind_of) is.1)))

pub same_placed : (a b : TrailState) (m : ℕ) → MarksMore a b m → literals_on b.placed ≡ literals_on a.placed
same_placed a b m more =
    let plain : (trail : Trail) → literals_on (kinds_on trail) ≡ literals_on trail = (λ trail. go trail) in
    sym (plain b.placed) ∙ (ap literals_on more.kinds ∙ plain a.placed)
  where
    go : (trail : Trail) → literals_on (kinds_on trail) ≡ literals_on trail
    go [] = refl
    go (p ∷ trail) = ap (λ (ls : List Literal). p.literal ∷ ls) (go trail)

-- nothing was done
pub cleans_none : (scopes : List Scope) (d : State) (t : TrailState) (c : Counter) → IsTrue (has_rows d)
    → CleansReasons scopes d d t t c c 0
cleans_none scopes d t c rows = record {
  made = 0;
  taken = 0;
  reduced = 0;
  marks = marks_none t;
  few = omega arith;
  counted = after_none c;
  resolves = resolves_none scopes d rows;
}

pub stops_none : (scopes : List Scope) (d : State) (t : TrailState) (c : Counter) (most : ℕ) → IsTrue (has_rows d)
    → StopsCleaning scopes d d t t c c most
stops_none scopes d t c most rows = record {
  made = 0;
  taken = 0;
  came = 0;
  reduced = 0;
  marks = marks_none t;
  few = omega arith;
  fewer = omega arith;
  counted = after_none c;
  resolves = resolves_none scopes d rows;
}
