-- The loop of cleaning.
use Rattle.std.proofs.Common.{◌≡◌, ℕ, ◌+◌, ◌*◌, ◌<◌, ◌≤◌, true, List, length, take, Option, Some, None, refl, sym, subst, ap, ap₂, ◌∙◌, inl, inr, ⊎_elim, arith}
use Rattle.std.specs.Prelude.{IsTrue}
use Rattle.std.proofs.lemmas.List.{length-take-le}
use Rattle.prefix.specs.declared.quant.Quant.{Quant}
use Rattle.prefix.specs.Literal.{Literal, negation}
use Rattle.prefix.specs.Scopes.{Scope}
use Rattle.steps.specs.Counter.{Counter, after, left}
use Rattle.truth.specs.Matrix.{Values}
use Rattle.calculus.specs.Rows.{Row}
use Rattle.calculus.specs.Search.{Blocks, IsLastBlocker, is_bad_now, literals_on, place_on, value_on}
use Rattle.calculus.proofs.Searching.{bad_assigned}
use Rattle.trail.specs.State.{TrailState, IsTrailFor}
use Rattle.derive.specs.State.{State, IsLegalFor, has_rows, row_of}
use Rattle.clean.specs.Cleaning.{Cleans, IsDoneIfBlocked, MayBeCleaned, MayReplace, Replaces, before_kept}
use Rattle.clean.specs.Blockers.{IsBlocked, IsLatestBlocker}
use Rattle.clean.specs.Marks.{CleansReasons, KeepsReasons, StopsCleaning, marks_left}
use Rattle.clean.specs.Reasons.{IsOnTheWay, IsReducedStep}
use Rattle.clean.proofs.Circling.{cleans_none, marks_size, marks_twice, same_placed, times_sum}
use Rattle.clean.proofs.Keeping.{after_both, after_more, resolves_more, step_row}
use Rattle.clean.proofs.Moving.{clean_moves, front_literals, front_values, places, way_moves}
use Rattle.clean.proofs.Replacing.{few_made}
use Rattle.clean.proofs.Ways.{blocker_cause, clean_on_front, one_turn, starts_on, way_bad, way_ends, way_within}

-- reasons made clean twice
pub cleans_more : (scopes : List Scope) (a b c : State) (t u v : TrailState) (x y z : Counter) (m n : ℕ)
    → CleansReasons scopes a b t u x y m → CleansReasons scopes b c u v y z n
    → CleansReasons scopes a c t v x z (m + n)
cleans_more scopes a b c t u v x y z m n first second =
    let size = marks_size t u first.made first.marks in
    let one = first.few in
    let two = second.few in
    let at : second.made * length u.placed ≡ second.made * length t.placed = ap (λ k. second.made * k) size in
    let sum = times_sum first.made second.made (length t.placed) in
    record {
      made = first.made + second.made;
      taken = first.taken + second.taken;
      reduced = first.reduced + second.reduced;
      marks = marks_twice t u v first.made second.made first.marks second.marks;
      few = omega arith;
      counted = after_both x y z first.taken second.taken first.reduced second.reduced first.counted second.counted;
      resolves = resolves_more scopes a b c first.taken second.taken first.reduced second.reduced first.resolves
          second.resolves;
    }

-- a stop after them
module _ (scopes : List Scope) (a b c : State) (t u v : TrailState) (x y z : Counter) (m n : ℕ)
    (first : CleansReasons scopes a b t u x y m) (long : length t.marks ≡ length t.placed) where
  both_left : first.made * length t.placed + marks_left u * length u.placed ≤ marks_left t * length t.placed
  both_left = let size = marks_size t u first.made first.marks in
      let made = few_made t u first.made long first.marks in
      let marked = first.marks.marked in
      let rest : first.made + marks_left u ≡ marks_left t = omega arith in
      let sum = sym (times_sum first.made (marks_left u) (length t.placed)) ∙ ap (λ k. k * length t.placed) rest in
      let at : marks_left u * length u.placed ≡ marks_left u * length t.placed = ap (λ k. marks_left u * k) size in
      omega arith

  pub stops_more : StopsCleaning scopes b c u v y z (marks_left u * length u.placed + n)
      → StopsCleaning scopes a c t v x z (marks_left t * length t.placed + (m + n))
  stops_more second =
      let one = first.few in let two = second.few in let fewer = second.fewer in let most = both_left in
      let no_more = first.resolves.fewer in
      record {
        made = first.made + second.made;
        taken = (first.taken + first.reduced) + second.taken;
        came = first.taken + second.came;
        reduced = first.reduced + second.reduced;
        marks = marks_twice t u v first.made second.made first.marks second.marks;
        few = omega arith;
        fewer = omega arith;
        counted = second.counted ∙ (ap (λ (k : Counter). after k second.taken) first.counted
            ∙ after_more x (first.taken + first.reduced) second.taken);
        resolves = resolves_more scopes a b c first.taken second.came first.reduced second.reduced first.resolves
            second.resolves;
      }

  pub spent_more : left y < 2 * (marks_left u * length u.placed + n)
      → left x < 2 * (marks_left t * length t.placed + (m + n))
  spent_more below = let one = first.few in let most = both_left in let no_more = first.resolves.fewer in
      let s : y.spent ≡ x.spent + (first.taken + first.reduced) = ap (λ (k : Counter). k.spent) first.counted in
      let e : y.budget ≡ x.budget = ap (λ (k : Counter). k.budget) first.counted in
      omega arith

-- the state of the loop, after some resolutions
pub record IsCleaning (pivot : Quant) (scopes : List Scope) (kept : Option Literal) (end : ℕ) (old now : State)
    (t u : TrailState) (before spent : Counter) (first row taken : ℕ) : Type 0 where
  pub cleans : CleansReasons scopes old now t u before spent taken
  pub due : IsDoneIfBlocked pivot scopes old now t u before spent (take end t.placed) first row
  pub reasons : KeepsReasons scopes old now t u
  pub legal : IsLegalFor scopes now
  pub trail : IsTrailFor scopes u
  pub step : IsReducedStep pivot scopes now row
  pub way : IsOnTheWay pivot scopes (take end t.placed) kept (row_of now row)
  pub blockers : (g b : Literal) → Blocks pivot scopes (value_on (take end t.placed)) (row_of now row) g b
      → place_on (take end t.placed) g.variable + taken < end

module _ (pivot : Quant) (scopes : List Scope) (kept : Option Literal) (end : ℕ) (old : State) (t : TrailState)
    (before : Counter) (within : end ≤ length t.placed) where
  pub cleaning_starts : (row : ℕ) → IsTrue (has_rows old) → IsLegalFor scopes old → IsTrailFor scopes t
      → IsReducedStep pivot scopes old row → before_kept kept t.placed ≡ take end t.placed
      → MayBeCleaned pivot scopes t.placed kept (row_of old row)
      → IsCleaning pivot scopes kept end old old t t before before row row 0
  cleaning_starts row rows legal trail step is may =
      let way = starts_on pivot scopes t.placed (take end t.placed) kept (row_of old row) is may in
      record {
        cleans = cleans_none scopes old t before rows;
        due = inr (record { same_row = refl; same_derivation = refl; same_trail = refl; uncounted = refl });
        reasons = λ side have. have;
        legal = legal;
        trail = trail;
        step = step;
        way = way;
        blockers = λ g b blocks. let below = way_within pivot scopes (take end t.placed) kept
            (row_of old row) way g b blocks in let size = length-take-le end t.placed within in omega arith;
      }

  module _ (now : State) (u : TrailState) (spent : Counter) (first row taken : ℕ)
      (is : IsCleaning pivot scopes kept end old now t u before spent first row taken) where
    same : literals_on u.placed ≡ literals_on t.placed
    same = same_placed t u is.cleans.made is.cleans.marks

    -- what is seen on the trail now was seen at first
    latest_then : (found : Option Literal) → IsLatestBlocker pivot scopes (take end u.placed) (row_of now row) found
        → IsLatestBlocker pivot scopes (take end t.placed) (row_of now row) found
    latest_then None none = λ f b blocks. none f b (subst
        (λ (v : Values). Blocks pivot scopes v (row_of now row) f b)
        (sym (front_values u.placed t.placed same end)) blocks)
    latest_then (Some f) last =
        let place : (y : ℕ) → place_on (take end u.placed) y ≡ place_on (take end t.placed) y =
        (λ y. places (take end u.placed) (take end t.placed) (front_literals u.placed t.placed same end) y) in
        record {
          blocked = last.blocked;
          blocks = subst (λ (v : Values). Blocks pivot scopes v (row_of now row) f last.blocked)
              (front_values u.placed t.placed same end) last.blocks;
          last = λ g b blocks.
              let below = last.last g b (subst (λ (v : Values). Blocks pivot scopes v (row_of now row) g b)
              (sym (front_values u.placed t.placed same end)) blocks) in
              let one = place g.variable in
              let two = place f.variable in
              omega arith;
        }

    pub cleaning_ends : taken ≤ end → before_kept kept t.placed ≡ take end t.placed
        → ((f b : Literal) → Blocks pivot scopes (value_on (take end t.placed)) (row_of now row) f b → ⊥)
        → Cleans pivot scopes t u kept old now before spent row
    cleaning_ends most front free = let few = is.cleans.few in
        record {
          cleans = record {
            made = is.cleans.made;
            taken = is.cleans.taken;
            reduced = is.cleans.reduced;
            marks = is.cleans.marks;
            few = omega arith;
            counted = is.cleans.counted;
            resolves = is.cleans.resolves;
          };
          step = is.step;
          cleaned = way_ends pivot scopes t.placed kept end (row_of now row) front is.step.reduced is.way free;
        }

    pub cleaning_ends_free : taken ≤ end → before_kept kept t.placed ≡ take end t.placed
        → IsLatestBlocker pivot scopes (take end u.placed) (row_of now row) None
        → Cleans pivot scopes t u kept old now before spent row
    cleaning_ends_free most front none = cleaning_ends most front (latest_then None none)

    module _ (f : Literal) (last_now : IsLatestBlocker pivot scopes (take end u.placed) (row_of now row) (Some f)) where
      last : IsLastBlocker pivot scopes (take end t.placed) (row_of now row) f
      last = latest_then (Some f) last_now

      bad_front : is_bad_now pivot (value_on (take end t.placed)) f ≡ true
      bad_front = way_bad pivot scopes (take end t.placed) kept (row_of now row) is.way f last.blocked last.blocks

      way_now : IsOnTheWay pivot scopes (take end u.placed) kept (row_of now row)
      way_now = way_moves pivot scopes (take end t.placed) (take end u.placed) kept (row_of now row)
          (sym (front_values u.placed t.placed same end)) is.way

      pub cleaning_may : MayReplace pivot scopes now u row f
      cleaning_may = record {
        end = end;
        kept = kept;
        step = is.step;
        way = way_now;
        stands = last.blocks.blocker_stands;
        pivot_type = last.blocks.pivot_type;
        is_bad = ap (λ (v : Values). is_bad_now pivot v f) (front_values u.placed t.placed same end) ∙ bad_front;
        propagated = blocker_cause pivot scopes u.placed kept end (row_of now row) is.trail.ordered
            (step_row scopes now row is.legal is.step.step) way_now f last_now;
      }

      -- one was due at first
      pub cleaning_due : IsBlocked pivot scopes (take end t.placed) (row_of old first)
      cleaning_due =
          ⊎_elim
          (λ blocked. blocked)
          (λ same. record {
            blocker = f;
            blocked = last.blocked;
            blocks = subst (λ (r : Row). Blocks pivot scopes (value_on (take end t.placed)) r f last.blocked)
                (ap₂ row_of same.same_derivation same.same_row) last.blocks;
          })
          is.due

      pub cleaning_goes_on : (new : State) (w : TrailState) (later : Counter) (id : ℕ)
          → Replaces pivot scopes u w now new spent later row f id → KeepsReasons scopes now new u w
          → IsLegalFor scopes new → IsTrailFor scopes w
          → IsCleaning pivot scopes kept end old new t w before later first id (taken + 1)
      cleaning_goes_on new w later id by reasons legal trail =
          let assigned = bad_assigned pivot (value_on (take end t.placed) f.variable) f bad_front in
          let clean = clean_on_front pivot t.placed end (negation f) by.reason assigned
          (clean_moves t.placed u.placed (sym same) pivot (negation f) by.reason by.clean) in
          let turned = one_turn pivot scopes (take end t.placed) kept (row_of now row) by.reason f
          (step_row scopes now row is.legal is.step.step) by.is_row is.way last clean in
          record {
            cleans = cleans_more scopes old now new t u w before spent later taken 1 is.cleans by.cleans;
            due = inl cleaning_due;
            reasons = λ side have. reasons side (is.reasons side have);
            legal = legal;
            trail = trail;
            step = by.step;
            way = subst (λ (r : Row). IsOnTheWay pivot scopes (take end t.placed) kept r) (sym by.result) turned.way;
            blockers = λ g b blocks.
                let below = turned.blockers g b (subst (λ (r : Row). Blocks pivot scopes
                (value_on (take end t.placed)) r g b) by.result blocks) in
                let most = is.blockers f last.blocked last.blocks in
                omega arith;
          }
