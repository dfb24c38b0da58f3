-- The list of reasons on the way to be cleaned stays one.
use Rattle.std.proofs.Common.{◌≡◌, ℕ, ◌<◌, ◌≤◌, true, false, List, [], ◌∷◌, ◌++◌, length, take, Option, Some, is_some, refl, sym, subst, ap, ◌∙◌, arith}
use Rattle.std.specs.Prelude.{IsTrue}
use Rattle.std.proofs.lemmas.List.{length-take-le}
use Rattle.derive.proofs.Growth.{grows_itself}
use Rattle.prefix.specs.declared.quant.Quant.{Quant}
use Rattle.prefix.specs.Literal.{Literal, negation}
use Rattle.prefix.specs.Scopes.{Scope}
use Rattle.truth.specs.Matrix.{Values}
use Rattle.calculus.specs.Rows.{Row, is_pivot, reduce}
use Rattle.calculus.proofs.RowLaws.{reduce_twice}
use Rattle.calculus.specs.Search.{Blocks, IsLastBlocker, IsUnitIn, Trail, before_on, cause_on, is_bad_now, literals_on, place_on, resolved_with, value_on}
use Rattle.calculus.specs.Search.Cause.{Propagated}
use Rattle.trail.specs.State.{TrailState, IsPropagated, is_marked, with_clean}
use Rattle.derive.specs.State.{State, IsLegalFor, row_of}
use Rattle.derive.specs.Theorems.{Grows}
use Rattle.clean.specs.declared.frame.Frame.{Frame}
use Rattle.clean.specs.Frames.{AreFrames, IsFrame, front_of}
use Rattle.clean.specs.Reasons.{HaveReasons, IsCleanReason, IsOnTheWay, IsReason}
use Rattle.clean.specs.Turns.{IsResolvable, Turns}
use Rattle.clean.proofs.Fronts.{before_take, place_some}
use Rattle.clean.proofs.Keeping.{reduced_stays, row_stays, step_row}
use Rattle.clean.proofs.Moving.{cause_else, caused, front_literals, front_values, marked_else, places, same_literals, values, way_moves}
use Rattle.clean.proofs.Ways.{IsTurned, clean_on_front, front_whole, one_turn, place_on_front, starts_on, way_assigned, way_bad, way_ends, way_within}
use Rattle.steps.specs.Counter.{Counter}

-- the place below which the next one stands
abbrev pub lowest : TrailState → ℕ → List Frame → ℕ
lowest t above [] = above
lowest t above (f ∷ rest) = lowest t (place_on t.placed f.var) rest

pub lowest_last : (t : TrailState) (above : ℕ) (fs : List Frame) (f : Frame)
    → lowest t above (fs ++ f ∷ []) ≡ place_on t.placed f.var
lowest_last t above [] f = refl
lowest_last t above (g ∷ fs) f = lowest_last t (place_on t.placed g.var) fs f

module _ (pivot : Quant) (scopes : List Scope) (d : State) (t : TrailState) where
  pub frames_more : (above : ℕ) (fs : List Frame) (f : Frame) → AreFrames pivot scopes d t above fs
      → IsFrame pivot scopes d t f → place_on t.placed f.var < lowest t above fs
      → AreFrames pivot scopes d t above (fs ++ f ∷ [])
  frames_more above [] f are is below = (below, is, tt)
  frames_more above (g ∷ fs) f are is below = (are.0, are.1, frames_more (place_on t.placed g.var) fs f are.2 is below)

  pub frames_less : (above : ℕ) (fs : List Frame) (f : Frame) → AreFrames pivot scopes d t above (fs ++ f ∷ [])
      → AreFrames pivot scopes d t above fs × IsFrame pivot scopes d t f ×
      (place_on t.placed f.var < lowest t above fs)
  frames_less above [] f are = (tt, are.1, are.0)
  frames_less above (g ∷ fs) f are = let later = frames_less (place_on t.placed g.var) fs f are.2 in
      ((are.0, are.1, later.0), later.1, later.2)

  pub lowest_most : (above : ℕ) (fs : List Frame) → AreFrames pivot scopes d t above fs → lowest t above fs ≤ above
  lowest_most above [] are = omega arith
  lowest_most above (g ∷ fs) are = let later = lowest_most (place_on t.placed g.var) fs are.2 in let here = are.0 in
      omega arith

-- where the derivation grows and the trail keeps its literals
pub frame_moves : (pivot : Quant) (scopes : List Scope) (d new : State) (t now : TrailState) (f : Frame) → Grows d new
    → literals_on now.placed ≡ literals_on t.placed → IsPropagated now.placed f.var → is_marked now f.var ≡ false
    → IsFrame pivot scopes d t f → IsFrame pivot scopes new now f
frame_moves pivot scopes d new t now f grows same propagated unmarked is =
    let row = row_stays d new grows f.row is.step.step in
    let place = places now.placed t.placed same f.var in
    let front : value_on (front_of now f.var) ≡ value_on (front_of t f.var) = ap
    (λ n. value_on (take n now.placed)) place ∙ front_values now.placed t.placed same (place_on t.placed f.var) in
    let spots : (y : ℕ) → place_on (front_of now f.var) y ≡ place_on (front_of t f.var) y =
    (λ y. ap (λ n. place_on (take n now.placed) y) place
    ∙ places (front_of_at now.placed (place_on t.placed f.var)) (front_of_at t.placed (place_on t.placed f.var))
    (front_same now.placed t.placed same (place_on t.placed f.var)) y) in
    record {
      bad = is.bad;
      over = is.over;
      pivot_type = is.pivot_type;
      is_bad = ap (λ (v : Values). is_bad_now pivot v is.bad) (values now.placed t.placed same) ∙ is.is_bad;
      propagated = propagated;
      unmarked = unmarked;
      step = reduced_stays pivot scopes d new f.row grows is.step;
      way = subst (λ (r : Row). IsOnTheWay pivot scopes (front_of now f.var) (Some (negation is.bad)) r) (sym row)
          (way_moves pivot scopes (front_of t f.var) (front_of now f.var) (Some (negation is.bad)) (row_of d f.row)
          (sym front) is.way);
      blockers = λ g u blocks.
          let below = is.blockers g u (subst (λ (r : Row). Blocks pivot scopes (value_on (front_of t f.var)) r g u)
          row (subst (λ (v : Values). Blocks pivot scopes v (row_of new f.row) g u) front blocks)) in
          let spot = spots g.variable in
          omega arith;
      within = let low = is.within in omega arith;
    }
  where
    front_of_at : Trail → ℕ → Trail
    front_of_at trail n = take n trail

    front_same : (a b : Trail) → literals_on a ≡ literals_on b → (n : ℕ)
        → literals_on (front_of_at a n) ≡ literals_on (front_of_at b n)
    front_same a b same n = front_literals a b same n

-- all of them
pub frames_move : (pivot : Quant) (scopes : List Scope) (d new : State) (t now : TrailState) (p above : ℕ)
    (fs : List Frame) → Grows d new → literals_on now.placed ≡ literals_on t.placed
    → ((f : Frame) → p < place_on t.placed f.var → IsFrame pivot scopes d t f
    → IsPropagated now.placed f.var × (is_marked now f.var ≡ false)) → p < lowest t above fs
    → AreFrames pivot scopes d t above fs → AreFrames pivot scopes new now above fs
frames_move pivot scopes d new t now p above [] grows same others low are = tt
frames_move pivot scopes d new t now p above (f ∷ fs) grows same others low are =
    let place = places now.placed t.placed same f.var in
    let first = are.0 in
    let least = lowest_most pivot scopes d t (place_on t.placed f.var) fs are.2 in
    let own = others f (omega arith) are.1 in (
      omega arith,
      frame_moves pivot scopes d new t now f grows same own.0 own.1 are.1,
      subst (λ n. AreFrames pivot scopes new now n fs) (sym place)
          (frames_move pivot scopes d new t now p (place_on t.placed f.var) fs grows same others low are.2),
    )

-- a new one
pub frame_starts : (pivot : Quant) (scopes : List Scope) (d : State) (t : TrailState) (f : Frame) (l : Literal)
    → HaveReasons pivot scopes d t → l.variable ≡ f.var → IsTrue (is_pivot pivot scopes l)
    → IsTrue (is_bad_now pivot (value_on t.placed) l) → cause_on t.placed f.var ≡ Some (Propagated f.row)
    → is_marked t f.var ≡ false → f.left ≡ place_on t.placed f.var → IsFrame pivot scopes d t f
frame_starts pivot scopes d t f l have e pivot_type bad cause unmarked whole =
    let reason = have l f.row pivot_type bad (ap (cause_on t.placed) e ∙ cause) in
    let front : before_on t.placed l.variable ≡ front_of t f.var = ap (before_on t.placed) e
    ∙ before_take t.placed f.var in
    let way = starts_on pivot scopes t.placed (front_of t f.var) (Some (negation l))
    (row_of d f.row) front reason.unit in
    record {
      bad = l;
      over = e;
      pivot_type = pivot_type;
      is_bad = bad;
      propagated = (f.row, cause);
      unmarked = unmarked;
      step = reason.step;
      way = way;
      blockers = λ g u blocks.
          let below = way_within pivot scopes (front_of t f.var) (Some (negation l)) (row_of d f.row) way g u blocks in
          let low = place_some t.placed f.var (caused t.placed f.var (Propagated f.row) cause) in
          let long = length-take-le (place_on t.placed f.var) t.placed (omega arith) in
          omega arith;
      within = omega arith;
    }

-- what its last blocker gives
module _ (pivot : Quant) (scopes : List Scope) (d : State) (t : TrailState) (f : Frame)
    (is : IsFrame pivot scopes d t f) (legal : IsLegalFor scopes d) (b : Literal)
    (last : IsLastBlocker pivot scopes (front_of t f.var) (row_of d f.row) b) where
  abbrev kept : Option Literal
  kept = Some (negation is.bad)

  bad_front : is_bad_now pivot (value_on (front_of t f.var)) b ≡ true
  bad_front = way_bad pivot scopes (front_of t f.var) kept (row_of d f.row) is.way b last.blocked last.blocks

  pub blocker_is_bad : is_bad_now pivot (value_on t.placed) b ≡ true
  blocker_is_bad = front_whole pivot t.placed (place_on t.placed f.var) b bad_front

  assigned : is_some (value_on (front_of t f.var) b.variable) ≡ true
  assigned = way_assigned pivot scopes (front_of t f.var) kept (row_of d f.row) is.way b last.blocked last.blocks

  -- it stands before the place
  pub blocker_left : place_on t.placed b.variable < f.left
  blocker_left = let both = place_on_front t.placed (place_on t.placed f.var) b.variable assigned in
      let place = both.0 in
      let below = is.blockers b last.blocked last.blocks in
      omega arith

  pub blocker_earlier : place_on t.placed b.variable < place_on t.placed f.var
  blocker_earlier = let left = blocker_left in let within = is.within in omega arith

  module _ (id : ℕ) (reason : IsReason pivot scopes d t (negation b) id) (marked : is_marked t b.variable ≡ true) where
    turn_is : IsTurned pivot scopes (front_of t f.var) kept (row_of d f.row) (row_of d id) b
    turn_is = one_turn pivot scopes (front_of t f.var) kept (row_of d f.row) (row_of d id) b
        (step_row scopes d f.row legal is.step.step)
        (step_row scopes d id legal reason.step.step)
        is.way last
        (clean_on_front pivot t.placed (place_on t.placed f.var) (negation b) (row_of d id) assigned
        (reason.clean marked))

    pub frame_resolvable : IsResolvable pivot scopes d f.row b id
    frame_resolvable = record {
      row_step = is.step.step;
      row_side = is.step.of_side;
      row_reduced = is.step.reduced;
      reason_step = reason.step.step;
      reason_side = reason.step.of_side;
      reason_reduced = reason.step.reduced;
      stands = last.blocks.blocker_stands;
      opposes = reason.unit.stands;
      pivot_type = last.blocks.pivot_type;
      no_clash = turn_is.no_clash;
    }

    -- the same reason with its new row
    pub frame_turns : (new : State) (before now : Counter) (next : Frame)
        → Turns pivot scopes d new before now f.row b id next.row → next.var ≡ f.var
        → next.left ≡ place_on t.placed b.variable → IsFrame pivot scopes new t next
    frame_turns new before now next turns same left = let result = turns.result in
        let front : front_of t next.var ≡ front_of t f.var = ap (front_of t) same in
        record {
          bad = is.bad;
          over = is.over ∙ sym same;
          pivot_type = is.pivot_type;
          is_bad = is.is_bad;
          propagated = subst (IsPropagated t.placed) (sym same) is.propagated;
          unmarked = ap (is_marked t) same ∙ is.unmarked;
          step = record {
            step = turns.step;
            of_side = turns.of_side;
            reduced = ap (reduce pivot scopes) result
                ∙ (reduce_twice pivot scopes (resolved_with (row_of d f.row) (row_of d id) b) ∙ sym result);
          };
          way = subst (λ (r : Row). IsOnTheWay pivot scopes (front_of t next.var) kept r) (sym result) (subst
              (λ (a : Trail). IsOnTheWay pivot scopes a kept
              (reduce pivot scopes (resolved_with (row_of d f.row) (row_of d id) b))) (sym front) turn_is.way);
          blockers = λ g u blocks.
              let on : Blocks pivot scopes (value_on (front_of t f.var))
              (reduce pivot scopes (resolved_with (row_of d f.row) (row_of d id) b)) g u = subst
              (λ (r : Row). Blocks pivot scopes (value_on (front_of t f.var)) r g u) result (subst
              (λ (a : Trail). Blocks pivot scopes (value_on a) (row_of new next.row) g u) front blocks) in
              let below = turn_is.blockers g u on in
              let spot : place_on (front_of t next.var) g.variable ≡ place_on (front_of t f.var) g.variable = ap
              (λ (a : Trail). place_on a g.variable) front in
              let both = place_on_front t.placed (place_on t.placed f.var) b.variable assigned in
              let place = both.0 in
              omega arith;
          within = let low = blocker_earlier in let place : place_on t.placed next.var ≡ place_on t.placed f.var =
              ap (place_on t.placed) same in omega arith;
        }

-- where nothing keeps an open literal from reduction the reason is clean
pub frame_ends : (pivot : Quant) (scopes : List Scope) (d : State) (t : TrailState) (f : Frame)
    (is : IsFrame pivot scopes d t f) → ((g u : Literal)
    → Blocks pivot scopes (value_on (front_of t f.var)) (row_of d f.row) g u → ⊥)
    → IsUnitIn pivot scopes (value_on (before_on t.placed is.bad.variable)) (row_of d f.row)
    (negation is.bad) × IsCleanReason pivot scopes d t.placed (negation is.bad) f.row
frame_ends pivot scopes d t f is free =
    let kept = negation is.bad in
    let front : before_on t.placed is.bad.variable ≡ front_of t f.var = ap (before_on t.placed) is.over
    ∙ before_take t.placed f.var in
    let was = is.way.keeps kept refl in
    let cleaned = way_ends pivot scopes t.placed (Some kept) (place_on t.placed f.var)
    (row_of d f.row) front is.step.reduced is.way free in (
      subst (λ (a : Trail). IsUnitIn pivot scopes (value_on a) (row_of d f.row) kept) (sym front)
          (record { stands = was.0; pivot_type = was.1; open_yet = was.2; others = is.way.pending }),
      record { step = is.step; holds = cleaned.0; clean = cleaned.1 },
    )

-- the others where the last one is marked
pub frames_marked : (pivot : Quant) (scopes : List Scope) (d : State) (t : TrailState) (above : ℕ) (fs : List Frame)
    (f : Frame) → length t.marks ≡ length t.placed → AreFrames pivot scopes d t above (fs ++ f ∷ [])
    → AreFrames pivot scopes d (with_clean t f.var f.row) above fs
frames_marked pivot scopes d t above fs f long are =
    let parts = frames_less pivot scopes d t above fs f are in
    let was = parts.1.propagated in
    let now = with_clean t f.var f.row in
    frames_move pivot scopes d d t now (place_on t.placed f.var) above fs (grows_itself d)
    (same_literals t f.var f.row was.0 was.1 long)
    (λ g later is.
    let differs : f.var ≡ g.var → ⊥ = (λ e. let same : place_on t.placed f.var ≡ place_on t.placed g.var =
    ap (place_on t.placed) e in omega arith) in (
      (
        is.propagated.0,
        cause_else f.var f.row t.placed g.var differs
            ∙ is.propagated.1,
      ),
      marked_else t f.var f.row was.0 was.1 long g.var differs ∙ is.unmarked,
    ))
    parts.2 parts.0
