-- One turn of the list of reasons on the way.
use Rattle.std.proofs.Common.{◌≡◌, ℕ, ◌<◌, Bool, true, false, List, [], ◌∷◌, ◌++◌, length, take, Option, Some, None, Ok, Err, is_some, refl, sym, subst, ap, ◌∙◌, arith}
use Rattle.std.specs.Prelude.{IsTrue, OnErr, Result}
use Rattle.std.proofs.lemmas.Bool.{false≢true}
use Rattle.prefix.specs.declared.quant.Quant.{Quant}
use Rattle.prefix.specs.declared.quant.Quant.TheVariants.{Exists, Forall}
use Rattle.prefix.specs.Sides.{bad_of}
use Rattle.truth.specs.Matrix.{same}
use Rattle.calculus.proofs.RowLemmas.{same_from}
use Rattle.clean.proofs.Fronts.{before_take, place_some}
use Rattle.prefix.specs.Literal.{Literal, negation}
use Rattle.prefix.specs.Scopes.{Scope, quantifier_of}
use Rattle.steps.specs.Counter.{Counter}
use Rattle.calculus.specs.Rows.{IsRow, Row, is_pivot}
use Rattle.calculus.specs.Search.{Trail, before_on, cause_on, is_bad_if, is_bad_now, place_on, value_on}
use Rattle.calculus.specs.Search.Cause.{Propagated}
use Rattle.trail.specs.State.{TrailState, IsPropagated, is_marked, with_clean}
use Rattle.trail.proofs.Marking.{length_stays}
use Rattle.derive.specs.State.{State, IsLegalFor, has_rows, is_live, note_at, row_of}
use Rattle.derive.specs.Theorems.{Grows}
use Rattle.clean.specs.declared.frame.Frame.{Frame}
use Rattle.clean.specs.declared.frame.Look.{Look}
use Rattle.clean.specs.declared.frame.Look.TheVariants.{Ends, Waits, Turns as turns_on}
use Rattle.clean.specs.Blockers.{IsBlocked}
use Rattle.clean.specs.Frames.{AreFrames, IsDue, IsFirstBlocked, IsFrame, IsLook, IsTurn, front_of}
use Rattle.clean.specs.Frames.IsTurn.{marks, waits, turns}
use Rattle.clean.specs.Marks.{IsReasonBlocked, KeepsReasons}
use Rattle.clean.specs.Reasons.{HaveReasons, IsOnTheWay, IsReason}
use Rattle.clean.specs.Turns.{IsResolvable, StopsAfter, Turns}
use Rattle.clean.proofs.Framing.{blocker_earlier, blocker_is_bad, blocker_left, frame_ends, frame_resolvable, frame_starts, frame_turns, frames_less, frames_marked, frames_more, frames_move, lowest, lowest_last}
use Rattle.clean.proofs.Keeping.{after_none, reasons_stay, resolves_none, step_lives, step_row}
use Rattle.clean.proofs.Moving.{caused, reasons_marked}

module _ (pivot : Quant) (scopes : List Scope) (d : State) (t : TrailState) (items rest : List Frame) (f : Frame)
    (is : items ≡ rest ++ f ∷ []) (are : AreFrames pivot scopes d t (length t.placed) items) where
  pub last_frame : AreFrames pivot scopes d t (length t.placed) rest × IsFrame pivot scopes d t f ×
      (place_on t.placed f.var < lowest t (length t.placed) rest)
  last_frame = frames_less pivot scopes d t (length t.placed) rest f
      (subst (AreFrames pivot scopes d t (length t.placed)) is are)

  pub top : IsFrame pivot scopes d t f
  top = last_frame.1

  pub top_live : IsTrue (is_live d f.row)
  top_live = step_lives (note_at d f.row) top.step.step

  pub top_row : IsLegalFor scopes d → (row : Row) → row ≡ row_of d f.row → IsRow scopes row
  top_row legal row same = subst (IsRow scopes) (sym same) (step_row scopes d f.row legal top.step.step)

  pub top_way : (end : ℕ) (row : Row) → end ≡ place_on t.placed f.var → row ≡ row_of d f.row
      → (kept : Option Literal) × IsOnTheWay pivot scopes (take end t.placed) kept row
  top_way end row at same = (
    Some (negation top.bad),
    subst (λ n. IsOnTheWay pivot scopes (take n t.placed) (Some (negation top.bad)) row)
        (sym at) (subst (λ (r : Row). IsOnTheWay pivot scopes (front_of t f.var) (Some (negation top.bad)) r)
        (sym same) top.way),
  )

  looked : (look : Look) (end : ℕ) (row : Row) → end ≡ place_on t.placed f.var → row ≡ row_of d f.row
      → IsLook pivot scopes t end row look → IsLook pivot scopes t (place_on t.placed f.var) (row_of d f.row) look
  looked look end row at same h = subst (λ n. IsLook pivot scopes t n (row_of d f.row) look) at (subst
      (λ (r : Row). IsLook pivot scopes t end r look) same h)

  -- it ends
  module _ (end : ℕ) (row : Row) (at : end ≡ place_on t.placed f.var) (same : row ≡ row_of d f.row)
      (ends : IsLook pivot scopes t end row Ends) (now : TrailState) (marked : now ≡ with_clean t f.var f.row)
      (long : length t.marks ≡ length t.placed) where
    pub marks_frames : AreFrames pivot scopes d now (length now.placed) rest
    marks_frames =
        let left = frames_marked pivot scopes d t (length t.placed) rest f long
        (subst (AreFrames pivot scopes d t (length t.placed)) is are) in
        let size : length t.placed ≡ length (with_clean t f.var f.row).placed =
        sym (length_stays f.var f.row top.propagated.0 t.placed top.propagated.1) in
        subst (λ (s : TrailState). AreFrames pivot scopes d s (length s.placed) rest) (sym marked) (subst
        (λ n. AreFrames pivot scopes d (with_clean t f.var f.row) n rest) size left)

    pub marks_reasons : KeepsReasons scopes d d t now
    marks_reasons side have = let both = frame_ends pivot scopes d t f top (looked Ends end row at same ends) in
        let x : with_clean t top.bad.variable f.row ≡ now = ap (λ n. with_clean t n f.row) top.over ∙ sym marked in
        subst (HaveReasons side scopes d) x (reasons_marked pivot side scopes d t top.bad f.row long top.pivot_type
        top.is_bad (subst (IsPropagated t.placed) (sym top.over) top.propagated) both.0 both.1 have)

    pub marks_turn : (c : Counter) → IsTurn pivot scopes d d t now items rest c c
    marks_turn c = marks (record { top = f; taken_off = is; marked = marked; same = refl; uncounted = refl })

  -- it waits
  module _ (end x : ℕ) (row : Row) (at : end ≡ place_on t.placed f.var) (same : row ≡ row_of d f.row)
      (legal : IsLegalFor scopes d) (waits_on : IsLook pivot scopes t end row (Waits x)) where
    now_waits : IsLook pivot scopes t (place_on t.placed f.var) (row_of d f.row) (Waits x)
    now_waits = looked (Waits x) end row at same waits_on

    pub waits_due : IsDue pivot scopes d t items
    waits_due = record {
      rest = rest;
      top = f;
      is = is;
      blocked = record { blocker = now_waits.0.0; blocked = now_waits.0.1.blocked; blocks = now_waits.0.1.blocks };
    }

    module _ (next : Frame) (one two : List Frame) (pushed : one ≡ rest ++ f ∷ [])
        (pushed_twice : two ≡ one ++ next ∷ []) (variable : next.var ≡ x)
        (cause : cause_on t.placed x ≡ Some (Propagated next.row)) (whole : next.left ≡ place_on t.placed x) where
      earlier : place_on t.placed next.var < place_on t.placed f.var
      earlier = let b = now_waits.0.0 in
          let below = blocker_earlier pivot scopes d t f top legal b now_waits.0.1 in
          let place : place_on t.placed next.var ≡ place_on t.placed b.variable =
          ap (place_on t.placed) (variable ∙ sym now_waits.0.2) in
          omega arith

      pub waits_turn : (c : Counter) → IsTurn pivot scopes d d t t items two c c
      waits_turn c = waits waits_due (record {
        rest = rest;
        top = f;
        next = next;
        is = is;
        more = pushed_twice ∙ ap (λ (fs : List Frame). fs ++ next ∷ []) pushed;
        earlier = earlier;
        whole = whole ∙ ap (place_on t.placed) (sym variable);
        same_trail = refl;
        same = refl;
        uncounted = refl;
      })

      pub waits_frames : HaveReasons pivot scopes d t → AreFrames pivot scopes d t (length t.placed) two
      waits_frames have = let b = now_waits.0.0 in
          let on : b.variable ≡ next.var = now_waits.0.2 ∙ sym variable in
          let last = now_waits.0.1 in
          let starts = frame_starts pivot scopes d t next b have on last.blocks.pivot_type
          (blocker_is_bad pivot scopes d t f top legal b last) (ap (cause_on t.placed) variable ∙ cause)
          (ap (is_marked t) variable ∙ now_waits.2) (whole ∙ ap (place_on t.placed) (sym variable)) in
          let low = lowest_last t (length t.placed) rest f in
          let below = earlier in
          subst (AreFrames pivot scopes d t (length t.placed))
          (sym (pushed_twice ∙ ap (λ (fs : List Frame). fs ++ next ∷ []) pushed))
          (frames_more pivot scopes d t (length t.placed) (rest ++ f ∷ []) next
          (subst (AreFrames pivot scopes d t (length t.placed)) is are) starts (omega arith))

  -- it is resolved
  module _ (end : ℕ) (b : Literal) (id : ℕ) (row : Row) (at : end ≡ place_on t.placed f.var)
      (same : row ≡ row_of d f.row) (legal : IsLegalFor scopes d)
      (turns_now : IsLook pivot scopes t end row (turns_on b id)) (have : HaveReasons pivot scopes d t) where
    now_turns : IsLook pivot scopes t (place_on t.placed f.var) (row_of d f.row) (turns_on b id)
    now_turns = looked (turns_on b id) end row at same turns_now

    reason : IsReason pivot scopes d t (negation b) id
    reason = have b id now_turns.0.blocks.pivot_type
        (blocker_is_bad pivot scopes d t f top legal b now_turns.0) now_turns.2

    pub turns_due : IsDue pivot scopes d t items
    turns_due = record {
      rest = rest;
      top = f;
      is = is;
      blocked = record { blocker = b; blocked = now_turns.0.blocked; blocks = now_turns.0.blocks };
    }

    pub turns_resolvable : IsResolvable pivot scopes d f.row b id
    turns_resolvable = frame_resolvable pivot scopes d t f top legal b now_turns.0 id reason now_turns.1

    module _ (new : State) (c e : Counter) (next : Frame) (then : List Frame)
        (turned : Turns pivot scopes d new c e f.row b id next.row)
        (pushed : then ≡ rest ++ next ∷ []) (variable : next.var ≡ f.var)
        (left : next.left ≡ place_on t.placed b.variable) where
      pub turns_turn : IsTurn pivot scopes d new t t items then c e
      turns_turn = turns turns_due (record {
        rest = rest;
        top = f;
        next = next;
        is = is;
        turned = pushed;
        same_variable = variable;
        fewer = (let below = blocker_left pivot scopes d t f top legal b now_turns.0 in omega arith);
        same_trail = refl;
        reduced = turned.reduced;
        resolves = turned.resolves;
        counted = turned.counted;
      })

      pub turns_frames : AreFrames pivot scopes new t (length t.placed) then
      turns_frames = let parts = last_frame in
          let low = parts.2 in
          let place : place_on t.placed next.var ≡ place_on t.placed f.var = ap (place_on t.placed) variable in
          let others = frames_move pivot scopes d new t t (place_on t.placed f.var)
          (length t.placed) rest turned.resolves.grows refl
          (λ g later was. (was.propagated, was.unmarked)) low parts.0 in
          subst (AreFrames pivot scopes new t (length t.placed)) (sym pushed)
          (frames_more pivot scopes new t (length t.placed) rest next others
          (frame_turns pivot scopes d t f top legal b now_turns.0 id reason now_turns.1 new c e next turned variable
          left) (omega arith))

-- the ways out

pub on_err : {A E : Type 0} {P : Type 0} (r : Result A E) → P → OnErr r P
on_err (Ok x) p = tt
on_err (Err e) p = p

pub stops_at_once : (scopes : List Scope) (d : State) (c : Counter) → IsTrue (has_rows d) → StopsAfter scopes 1 d d c c
stops_at_once scopes d c rows = record {
  taken = 0;
  came = 0;
  reduced = 0;
  few = omega arith;
  fewer = omega arith;
  counted = after_none c;
  resolves = resolves_none scopes d rows;
}

pub keeps_grown : (scopes : List Scope) (old new : State) (t : TrailState) → Grows old new
    → KeepsReasons scopes old new t t
keeps_grown scopes old new t grows = λ side have. reasons_stay side scopes old new t grows have

pub same_error : {A E : Type 0} (r : Result A E) (y z f : E) → r ≡ Err y → y ≡ f → r ≡ Err z → f ≡ z
same_error (Ok x) y z f a b e = absurd (cc)
same_error (Err w) y z f a b e =
    let one : w ≡ y = cc in
    let two : w ≡ z = cc in
    sym b ∙ (sym one ∙ two)

-- a bad literal over an assigned variable
bad_there : (q : Quant) (b : Bool) → same (same b (same b (bad_of q))) (bad_of q) ≡ true
bad_there Exists true = refl
bad_there Exists false = refl
bad_there Forall true = refl
bad_there Forall false = refl

some_of : (o : Option Bool) → is_some o ≡ true → (b : Bool) × (o ≡ Some b)
some_of None e = absurd (false≢true e)
some_of (Some b) e = (b, refl)

-- the first one on the list
pub first_frames : (pivot : Quant) (scopes : List Scope) (d : State) (t : TrailState) (f : Frame) (x : ℕ)
    (none all : List Frame) → HaveReasons pivot scopes d t → quantifier_of scopes x ≡ Some pivot
    → is_marked t x ≡ false → f.var ≡ x → cause_on t.placed x ≡ Some (Propagated f.row) → f.left ≡ place_on t.placed x
    → none ≡ [] → all ≡ none ++ f ∷ [] → AreFrames pivot scopes d t (length t.placed) all
first_frames pivot scopes d t f x none all have quantified off variable cause whole empty pushed =
    let assigned = caused t.placed x (Propagated f.row) cause in
    let value = some_of (value_on t.placed x) assigned in
    let l : Literal = record { variable = x; positive = same value.0 (bad_of pivot) } in
    let bad : is_bad_now pivot (value_on t.placed) l ≡ true = ap (λ o. is_bad_if pivot o l) value.1
    ∙ bad_there pivot value.0 in
    let is_pivot_type : is_pivot pivot scopes l ≡ true = same_from (quantifier_of scopes x) pivot quantified in
    let starts = frame_starts pivot scopes d t f l have (sym variable) is_pivot_type bad
    (ap (cause_on t.placed) variable ∙ cause) (ap (is_marked t) variable ∙ off) (whole
    ∙ ap (place_on t.placed) (sym variable)) in
    let below = place_some t.placed x assigned in
    let at : place_on t.placed f.var ≡ place_on t.placed x = ap (place_on t.placed) variable in
    subst (AreFrames pivot scopes d t (length t.placed)) (sym (pushed ∙ ap (λ (fs : List Frame). fs ++ f ∷ []) empty))
    (let low : place_on t.placed f.var < length t.placed = omega arith in low, starts, tt)

-- it is the one that was due
pub first_blocked : (pivot : Quant) (scopes : List Scope) (d : State) (t : TrailState) (f : Frame) (x : ℕ)
    (none all : List Frame) → none ≡ [] → all ≡ none ++ f ∷ [] → f.var ≡ x
    → cause_on t.placed x ≡ Some (Propagated f.row) → is_marked t x ≡ false → IsFirstBlocked pivot scopes d t all
    → IsReasonBlocked pivot scopes d t x
first_blocked pivot scopes d t f x none all empty pushed variable cause off blocked = record {
  unmarked = off;
  blocked = λ id own.
      let ids : Some (Propagated f.row) ≡ Some (Propagated id) = sym cause ∙ own in
      let same : f.row ≡ id = cc in
      let one : IsBlocked pivot scopes (front_of t f.var) (row_of d f.row) =
      subst (IsFirstBlocked pivot scopes d t) (pushed ∙ ap (λ (fs : List Frame). fs ++ f ∷ []) empty) blocked in
      let front : front_of t f.var ≡ before_on t.placed x = ap (front_of t) variable ∙ sym (before_take t.placed x) in
      subst (λ (n : ℕ). IsBlocked pivot scopes (before_on t.placed x) (row_of d n)) same (subst
      (λ (a : Trail). IsBlocked pivot scopes a (row_of d f.row)) front one);
}

pub at_err : {A E : Type 0} (r : Result A E) (e : E) (P : Type 0) → OnErr r P → r ≡ Err e → P
at_err (Ok x) e P p is = absurd (cc)
at_err (Err f) e P p is = p
