-- The steps of a search against its assignments.
use Rattle.std.proofs.Common.{◌≡◌, ◌≢◌, ℕ, zero, suc, ◌+◌, ◌-◌, ◌*◌, ◌<◌, ◌≤◌, Bool, true, false, List, [], ◌∷◌, ◌++◌, length, take, refl, ap, ◌∙◌, arith}
use Rattle.std.proofs.Math.Nat.{mul-le-mul_left, mul-le-mul_right}
use Rattle.steps.specs.Counter.{Counter, after, left}
use Rattle.trail.specs.State.{TrailState}
use Rattle.clean.specs.Marks.{MarksMore, marks_in, marks_left}
use Rattle.clean.proofs.Circling.{marks_size}
use Rattle.calculus.specs.Limits.{steps_for}
use Rattle.search.specs.Counting.{IsBounded, IsCounted, lesson_cost}

-- one more assignment
few_more : (n used len left assigned : ℕ)
    → used + (lesson_cost n * len + 2 * n * left) ≤ (6 * n + 2) * assigned + 0
    → (used + 1) + (lesson_cost n * (len + 1) + 2 * n * (left + 1)) ≤ (6 * n + 2) * (assigned + 1) + 0
few_more n used len left assigned h =
    let one : (4 * n + 1) * (len + 1) ≡ (4 * n + 1) * len + (4 * n + 1) = omega arith in
    let two : 2 * n * (left + 1) ≡ 2 * n * left + 2 * n = omega arith in
    let three : (6 * n + 2) * (assigned + 1) ≡ (6 * n + 2) * assigned + (6 * n + 2) = omega arith in
    omega arith

-- analysis: reasons that become clean pay for themselves, the rest is owed
few_owed : (n used len left made taken reduced assigned : ℕ)
    → used + (lesson_cost n * len + 2 * n * left) ≤ (6 * n + 2) * assigned + 1
    → taken ≤ made * len + 2 * len → reduced ≤ taken → made ≤ left → len ≤ n
    → (used + (taken + reduced)) + (lesson_cost n * len + 2 * n * (left - made))
    ≤ (6 * n + 2) * assigned + lesson_cost n
few_owed n used len left made taken reduced assigned h t r m l =
    let cost : made * len ≤ made * n = mul-le-mul_left made l in
    let turn : 2 * (made * n) ≡ 2 * n * made = omega arith in
    let split : 2 * n * left ≡ 2 * n * (left - made) + 2 * n * made =
    (let e : left ≡ (left - made) + made = omega arith in ap (λ k. 2 * n * k) e ∙ (omega arith)) in
    omega arith

-- a lesson: the trail gets shorter, and pays
few_back : (n used len short left less assigned : ℕ)
    → used + (lesson_cost n * len + 2 * n * left) ≤ (6 * n + 2) * assigned + lesson_cost n → short < len → less ≤ left
    → used + (lesson_cost n * short + 2 * n * less) ≤ (6 * n + 2) * assigned + 0
few_back n used len short left less assigned h s m =
    let shorter : (4 * n + 1) * (short + 1) ≤ (4 * n + 1) * len = mul-le-mul_left (4 * n + 1) (omega arith) in
    let one : (4 * n + 1) * (short + 1) ≡ (4 * n + 1) * short + (4 * n + 1) = omega arith in
    let fewer : 2 * n * less ≤ 2 * n * left = mul-le-mul_left (2 * n) m in
    omega arith

-- where a search stops the steps are below the bound
few_at_stop : (n used more owed assigned : ℕ) → used + owed ≤ (6 * n + 2) * assigned + lesson_cost n
    → more ≤ owed + lesson_cost n → used + more < steps_for n assigned
few_at_stop n used more owed assigned h m =
    let most : (6 * n + 2) * assigned ≤ (8 * n + 8) * assigned = mul-le-mul_right assigned (omega arith) in
    let one : (8 * n + 8) * (assigned + 1) ≡ (8 * n + 8) * assigned + (8 * n + 8) = omega arith in
    omega arith

-- marks

marks_few : (bs : List Bool) → marks_in bs ≤ length bs
marks_few [] = omega arith
marks_few (true ∷ bs) = let r : marks_in bs ≤ length bs = marks_few bs in omega arith
marks_few (false ∷ bs) = let r : marks_in bs ≤ length bs = marks_few bs in omega arith

marks_push : (bs : List Bool) → marks_in (bs ++ false ∷ []) ≡ marks_in bs
marks_push [] = refl
marks_push (true ∷ bs) = ap suc (marks_push bs)
marks_push (false ∷ bs) = marks_push bs

-- a front has no more places without a mark
left_front : (n : ℕ) (bs : List Bool) → n ≤ length bs → n + marks_in bs ≤ length bs + marks_in (take n bs)
left_front zero bs h = let r : marks_in bs ≤ length bs = marks_few bs in omega arith
left_front (suc n) [] h = omega arith
left_front (suc n) (true ∷ bs) h =
    let l : n ≤ length bs = omega arith in
    let r : n + marks_in bs ≤ length bs + marks_in (take n bs) = left_front n bs l in
    omega arith
left_front (suc n) (false ∷ bs) h =
    let l : n ≤ length bs = omega arith in
    let r : n + marks_in bs ≤ length bs + marks_in (take n bs) = left_front n bs l in
    omega arith

-- the same numbers
few_is : (n slack used used' len len' left left' assigned assigned' : ℕ) → used' ≡ used → len' ≡ len → left' ≡ left
    → assigned' ≡ assigned → used + (lesson_cost n * len + 2 * n * left) ≤ (6 * n + 2) * assigned + slack
    → used' + (lesson_cost n * len' + 2 * n * left') ≤ (6 * n + 2) * assigned' + slack
few_is n slack used used' len len' left left' assigned assigned' u l m a h = rw (u, l, m, a) h

-- more is allowed
pub counted_weaker : (n slack more start : ℕ) (t : TrailState) (steps : Counter) → slack ≤ more
    → IsCounted n slack start t steps → IsCounted n more start t steps
counted_weaker n slack more start t steps most h =
    let few = h.few in
    record { later = h.later; few = omega arith; less = h.less; within = h.within; fits = h.fits }

-- at most one step, which is owed
pub counted_step : (n start k : ℕ) (t : TrailState) (before now : Counter) → k ≤ 1 → now ≡ after before k
    → now.spent ≤ now.budget → IsCounted n 0 start t before → IsCounted n 1 start t now
counted_step n start k t before now once is within h =
    let s : now.spent ≡ before.spent + k = ap (λ (c : Counter). c.spent) is in
    let b : now.budget ≡ before.budget = ap (λ (c : Counter). c.budget) is in
    let later = h.later in
    let few = h.few in
    let less = h.less in
    let fits = h.fits in
    let used : now.spent - start ≡ (before.spent - start) + k = omega arith in
    record {
      later = omega arith;
      few = rw used (omega arith);
      less = rw used (omega arith);
      within = within;
      fits = rw b fits;
    }

-- a trail with one more literal
pub counted_push : (n start : ℕ) (t now : TrailState) (before : Counter) → length t.marks ≡ length t.placed
    → now.marks ≡ t.marks ++ false ∷ [] → length now.placed ≡ length t.placed + 1 → before.spent ≤ before.budget
    → before.spent ≢ before.budget → (t.assigned ≤ before.spent → now.assigned ≡ t.assigned + 1)
    → IsCounted n 0 start t before → IsCounted n 0 start now (after before 1) × (t.assigned < now.assigned)
counted_push n start t now before same marks long within room rises h =
    let later = h.later in
    let less = h.less in
    let one : now.assigned ≡ t.assigned + 1 = rises (omega arith) in
    let some : marks_in t.marks ≤ length t.placed = rw (← same) (marks_few t.marks) in
    let kept : marks_in now.marks ≡ marks_in t.marks = ap marks_in marks ∙ marks_push t.marks in
    let left : marks_left now ≡ marks_left t + 1 = omega arith in
    let few = few_more n (before.spent - start) (length t.placed) (marks_left t) t.assigned h.few in
    let used : (before.spent + 1) - start ≡ (before.spent - start) + 1 = omega arith in (
      record {
        later = omega arith;
        few = few_is n 0 ((before.spent - start) + 1) ((before.spent + 1) - start) (length t.placed + 1)
            (length now.placed) (marks_left t + 1) (marks_left now)
            (t.assigned + 1) now.assigned used long left one few;
        less = rw (used, one) (omega arith);
        within = omega arith;
        fits = h.fits;
      },
      omega arith,
    )

more_taken : (taken a b : ℕ) → taken ≤ a + b → taken ≤ a + 2 * b
more_taken taken a b few = omega arith

-- reasons were made clean
pub counted_owed : (n start made taken reduced : ℕ) (t now : TrailState) (before later : Counter)
    → length t.marks ≡ length t.placed → length t.placed ≤ n → MarksMore t now made
    → taken ≤ made * length t.placed + length t.placed → reduced ≤ taken → later ≡ after before (taken + reduced)
    → before.spent + (taken + reduced) ≤ before.budget → IsCounted n 1 start t before
    → IsCounted n (lesson_cost n) start now later
counted_owed n start made taken reduced t now before later same short marks few fewer is within h =
    let first = h.later in
    let less = h.less in
    let size : length now.placed ≡ length t.placed = marks_size t now made marks in
    let more = marks.marked in
    let long = marks.long in
    let some : marks_in now.marks ≤ length now.marks = marks_few now.marks in
    let left : marks_left now ≡ marks_left t - made = omega arith in
    let most : made ≤ marks_left t = omega arith in
    let owed = few_owed n (before.spent - start) (length t.placed)
    (marks_left t) made taken reduced t.assigned h.few
    (more_taken taken (made * length t.placed) (length t.placed) few) fewer most short in
    let used : (before.spent + (taken + reduced)) - start ≡ (before.spent - start) + (taken + reduced) = omega arith in
    rw is (record {
      later = omega arith;
      few = few_is n (lesson_cost n) ((before.spent - start) + (taken + reduced))
          ((before.spent + (taken + reduced)) - start) (length t.placed)
          (length now.placed) (marks_left t - made)
          (marks_left now) t.assigned now.assigned used size left marks.assigned owed;
      less = rw (used, marks.assigned) (omega arith);
      within = within;
      fits = h.fits;
    })

-- the trail was cut
pub counted_back : (n start : ℕ) (t now : TrailState) (steps : Counter) → length now.placed < length t.placed
    → length t.marks ≡ length t.placed → now.marks ≡ take (length now.placed) t.marks → now.assigned ≡ t.assigned
    → IsCounted n (lesson_cost n) start t steps → IsCounted n 0 start now steps
counted_back n start t now steps shorter same marks assigned h =
    let front : length now.placed + marks_in t.marks ≤ length t.marks + marks_in (take (length now.placed) t.marks) =
    left_front (length now.placed) t.marks (omega arith) in
    let kept : marks_in now.marks ≡ marks_in (take (length now.placed) t.marks) = ap marks_in marks in
    let less : marks_left now ≤ marks_left t = omega arith in
    let few = few_back n (steps.spent - start) (length t.placed) (length now.placed) (marks_left t)
    (marks_left now) t.assigned h.few shorter less in
    record {
      later = h.later;
      few = rw assigned few;
      less = rw assigned h.less;
      within = h.within;
      fits = h.fits;
    }

-- a stop after a few more steps, which the marks that are left pay for
pub bounded_more : (n start taken : ℕ) (t now : TrailState) (before later : Counter) → length t.placed ≤ n
    → taken ≤ 2 * (marks_left t * length t.placed + length t.placed) → now.assigned ≡ t.assigned
    → later ≡ after before taken → IsCounted n 1 start t before → IsBounded n start now later
bounded_more n start taken t now before later short few assigned is h =
    let first = h.later in
    let some = h.few in
    let cost : marks_left t * length t.placed ≤ marks_left t * n = mul-le-mul_left (marks_left t) short in
    let turn : 2 * (marks_left t * n) ≡ 2 * n * marks_left t = omega arith in
    let end = few_at_stop n (before.spent - start) taken (lesson_cost n * length t.placed + 2 * n * marks_left t)
    t.assigned (omega arith) (omega arith) in
    let used : (before.spent + taken) - start ≡ (before.spent - start) + taken = omega arith in
    rw is (record { later = omega arith; few = rw (used, assigned) end })

-- a stop after at most one more
pub bounded_step : (n start k : ℕ) (t now : TrailState) (before later : Counter) → k ≤ 1 → now.assigned ≡ t.assigned
    → later ≡ after before k → IsCounted n 0 start t before → IsBounded n start now later
bounded_step n start k t now before later once assigned is h =
    let first = h.later in
    let some = h.few in
    let end = few_at_stop n (before.spent - start) k (lesson_cost n * length t.placed + 2 * n * marks_left t)
    t.assigned (omega arith) (omega arith) in
    let used : (before.spent + k) - start ≡ (before.spent - start) + k = omega arith in
    rw is (record { later = omega arith; few = rw (used, assigned) end })

-- a stop without one
pub bounded_now : (n slack start : ℕ) (t now : TrailState) (steps : Counter) → slack ≤ lesson_cost n
    → now.assigned ≡ t.assigned → IsCounted n slack start t steps → IsBounded n start now steps
bounded_now n slack start t now steps little assigned h =
    let some = h.few in
    let end = few_at_stop n (steps.spent - start) 0 (lesson_cost n * length t.placed + 2 * n * marks_left t) t.assigned
    (omega arith) (omega arith) in
    record { later = h.later; few = rw assigned (omega arith) }
