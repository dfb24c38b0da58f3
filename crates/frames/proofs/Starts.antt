-- Frames, from the places where they start.
use Rattle.std.proofs.Common.{◌≡◌, ℕ, zero, suc, ◌+◌, ◌-◌, ◌≤◌, List, [], ◌∷◌, ◌++◌, length, take, drop, refl, sym, ap, ap₂, ◌∙◌, arith, length-append, length-drop}
use Rattle.std.specs.List.{flat_map}
use Rattle.std.proofs.lemmas.List.{take-append-le, drop-append-le, take-append-drop, take-take, take_all, drop-take, drop-drop, append-nil}
use Rattle.std.proofs.Math.Seq.{take-append_seam}
use Rattle.std.proofs.lemmas.Grind.{flat_map-append}
use Rattle.calculus.specs.Rows.{Row}
use Rattle.frames.specs.declared.frames.Start.{Start}
use Rattle.frames.specs.State.{Frame, with_row, with_leaving, pushed, popped, top_variables, clauses_in, literals_in, depth}
use Rattle.frames.specs.Kept.{at_first, frames_from, last_vars, AreStarts}
use Rattle.frames.specs.Leaving.{leaving}

abbrev pub frame : List Row → List ℕ → Frame
frame rows vars = record { clauses = rows; variables = vars }

pub starts_below : (base : Start) (starts : List Start) (end : Start) → AreStarts base starts end
    → (base.rows ≤ end.rows) × (base.vars ≤ end.vars)
starts_below base [] end a = a
starts_below base (s ∷ ss) end a =
    let low = a.0 in
    let less = a.1 in
    let more = starts_below s ss end a.2 in
    let rows : s.rows ≤ end.rows = more.0 in
    let vars : s.vars ≤ end.vars = more.1 in
    (omega (arith, low, rows), omega (arith, less, vars))

pub starts_more : (base : Start) (starts : List Start) (end more : Start) → end.rows ≤ more.rows
    → end.vars ≤ more.vars
    → AreStarts base starts end → AreStarts base starts more
starts_more base [] end more h k a =
    let rows : base.rows ≤ end.rows = a.0 in
    let vars : base.vars ≤ end.vars = a.1 in
    (omega (arith, rows, h), omega (arith, vars, k))
starts_more base (s ∷ ss) end more h k a = (a.0, a.1, starts_more s ss end more h k a.2)

pub starts_pushed : (base : Start) (starts : List Start) (end : Start) → AreStarts base starts end
    → AreStarts base (starts ++ end ∷ []) end
starts_pushed base [] end a = (a.0, a.1, (omega arith, omega arith))
starts_pushed base (s ∷ ss) end a = (a.0, a.1, starts_pushed s ss end a.2)

pub starts_popped : (base : Start) (starts : List Start) (s end : Start) → AreStarts base (starts ++ s ∷ []) end
    → AreStarts base starts s × (s.rows ≤ end.rows) × (s.vars ≤ end.vars)
starts_popped base [] s end a = ((a.0, a.1), a.2.0, a.2.1)
starts_popped base (t ∷ ts) s end a =
    let rest = starts_popped t ts s end a.2 in
    ((a.0, a.1, rest.0), rest.1, rest.2)

-- parts of a list between places

module _ {X : Type 0} (b t s : ℕ) (xs : List X) (low : b ≤ t) (high : t ≤ s) where
  sum : s - b ≡ (t - b) + (s - t)
  sum = omega (arith, low, high)

  pub part_first : take (t - b) (take (s - b) xs) ≡ take (t - b) xs
  part_first = take-take (t - b) (s - b) xs (omega (arith, low, high))

  pub part_middle : drop (t - b) (take (s - b) xs) ≡ take (s - t) (drop (t - b) xs)
  part_middle = ap (λ m. drop (t - b) (take m xs)) sum ∙ drop-take (t - b) (s - t) xs

  pub part_last : drop (s - t) (drop (t - b) xs) ≡ drop (s - b) xs
  part_last = drop-drop (s - t) (t - b) xs ∙ ap (λ m. drop m xs) (sym sum)

-- the last start cuts the rows and the variables
pub last_split : (base : Start) (starts : List Start) (s : Start) (rows : List Row) (vars : List ℕ)
    → AreStarts base starts s
    → frames_from base (starts ++ s ∷ []) rows vars
    ≡ frames_from base starts (take (s.rows - base.rows) rows) (take (s.vars - base.vars) vars)
    ++ frame (drop (s.rows - base.rows) rows) (drop (s.vars - base.vars) vars) ∷ []
last_split base [] s rows vars a = refl
last_split base (t ∷ ts) s rows vars a =
    let high = starts_below t ts s a.2 in
    let n : ℕ = t.rows - base.rows in
    let m : ℕ = t.vars - base.vars in
    ap (λ fs. frame (take n rows) (take m vars) ∷ fs) (last_split t ts s (drop n rows) (drop m vars) a.2)
    ∙ ap₂ (λ (r : List Row) (v : List ℕ). frame r v ∷
    (frames_from t ts (take (s.rows - t.rows) (drop n rows)) (take (s.vars - t.vars) (drop m vars))
    ++ frame (drop (s.rows - t.rows) (drop n rows)) (drop (s.vars - t.vars) (drop m vars)) ∷ []))
    (sym (part_first base.rows t.rows s.rows rows a.0 high.0))
    (sym (part_first base.vars t.vars s.vars vars a.1 high.1))
    ∙ ap₂ (λ (r : List Row) (v : List ℕ). frame (take n (take (s.rows - base.rows) rows))
    (take m (take (s.vars - base.vars) vars)) ∷ (frames_from t ts r v
    ++ frame (drop (s.rows - t.rows) (drop n rows)) (drop (s.vars - t.vars) (drop m vars)) ∷ []))
    (sym (part_middle base.rows t.rows s.rows rows a.0 high.0))
    (sym (part_middle base.vars t.vars s.vars vars a.1 high.1))
    ∙ ap₂ (λ (r : List Row) (v : List ℕ). frame (take n (take (s.rows - base.rows) rows))
    (take m (take (s.vars - base.vars) vars))
    ∷ (frames_from t ts (drop n (take (s.rows - base.rows) rows)) (drop m (take (s.vars - base.vars) vars)) ++ frame r
    v ∷ []))
    (part_last base.rows t.rows s.rows rows a.0 high.0) (part_last base.vars t.vars s.vars vars a.1 high.1)

nothing : {X : Type 0} (xs : List X) (m : ℕ) → length xs ≤ m → drop m xs ≡ []
nothing [] zero h = refl
nothing [] (suc m) h = refl
nothing (x ∷ xs) zero h = absurd (omega (arith, h))
nothing (x ∷ xs) (suc m) h = nothing xs m (omega (arith, h))

-- a frame is pushed where all rows and variables stand
pub frames_pushed : (starts : List Start) (rows : List Row) (vars : List ℕ) (n : Start) → n.rows ≡ length rows
    → n.vars ≡ length vars
    → AreStarts at_first starts n → frames_from at_first (starts ++ n ∷ []) rows vars
    ≡ pushed (frames_from at_first starts rows vars)
frames_pushed starts rows vars n is same a =
    let all : length rows ≤ n.rows - 0 = omega (arith, is) in
    let each : length vars ≤ n.vars - 0 = omega (arith, same) in
    last_split at_first starts n rows vars a
    ∙ ap₂ (λ (r : List Row) (v : List ℕ). frames_from at_first starts r v ++ frame (drop (n.rows - 0) rows)
    (drop (n.vars - 0) vars) ∷ [])
    (take_all (n.rows - 0) rows all) (take_all (n.vars - 0) vars each)
    ∙ ap₂ (λ (r : List Row) (v : List ℕ). frames_from at_first starts rows vars ++ frame r v ∷ [])
    (nothing rows (n.rows - 0) all) (nothing vars (n.vars - 0) each)

-- the last frame is dropped
pub all_but_last : {X : Type 0} (xs : List X) (x : X) → take (length (xs ++ x ∷ []) - 1) (xs ++ x ∷ []) ≡ xs
all_but_last xs x =
    let count : length (xs ++ x ∷ []) ≡ length xs + 1 = length-append xs (x ∷ []) in
    let less : length (xs ++ x ∷ []) - 1 ≡ length xs = omega (arith, count) in
    ap (λ m. take m (xs ++ x ∷ [])) less ∙ take-append_seam xs (x ∷ [])

-- the same, where frame 0 starts at the first
pub last_frame : (starts : List Start) (s : Start) (rows : List Row) (vars : List ℕ) → AreStarts at_first starts s
    → frames_from at_first (starts ++ s ∷ []) rows vars
    ≡ frames_from at_first starts (take s.rows rows) (take s.vars vars) ++ frame (drop s.rows rows) (drop s.vars vars)
    ∷ []
last_frame starts s rows vars a =
    let same : s.rows - 0 ≡ s.rows = omega arith in
    let alike : s.vars - 0 ≡ s.vars = omega arith in
    last_split at_first starts s rows vars a
    ∙ ap₂ (λ (n m : ℕ). frames_from at_first starts (take n rows) (take m vars) ++ frame (drop n rows) (drop m vars) ∷
    []) same alike

pub frames_popped : (starts : List Start) (s : Start) (rows : List Row) (vars : List ℕ) → AreStarts at_first starts s
    → frames_from at_first starts (take s.rows rows) (take s.vars vars)
    ≡ popped (frames_from at_first (starts ++ s ∷ []) rows vars)
frames_popped starts s rows vars a =
    sym (all_but_last (frames_from at_first starts (take s.rows rows) (take s.vars vars))
    (frame (drop s.rows rows) (drop s.vars vars)))
    ∙ ap popped (sym (last_frame starts s rows vars a))

step_down : (r : Row) (f : Frame) (base : Start) (starts : List Start) (rows : List Row) (vars : List ℕ)
    → with_row r (f ∷ frames_from base starts rows vars) ≡ f ∷ with_row r (frames_from base starts rows vars)
step_down r f base [] rows vars = refl
step_down r f base (s ∷ ss) rows vars = refl

-- one more row
pub frames_with_row : (base : Start) (starts : List Start) (end : Start) (rows : List Row) (vars : List ℕ) (r : Row)
    → end.rows ≤ base.rows + length rows
    → AreStarts base starts end → frames_from base starts (rows ++ r ∷ []) vars
    ≡ with_row r (frames_from base starts rows vars)
frames_with_row base [] end rows vars r most a = refl
frames_with_row base (t ∷ ts) end rows vars r most a =
    let low : base.rows ≤ t.rows = a.0 in
    let more = starts_below t ts end a.2 in
    let high : t.rows ≤ end.rows = more.0 in
    let n : ℕ = t.rows - base.rows in
    let m : ℕ = t.vars - base.vars in
    let within : n ≤ length rows = omega (arith, low, high, most) in
    let left : length (drop n rows) ≡ length rows - n = length-drop n rows in
    let still : end.rows ≤ t.rows + length (drop n rows) = omega (arith, low, high, left, most) in
    ap₂ (λ (x y : List Row). frame x (take m vars) ∷ frames_from t ts y (drop m vars))
    (take-append-le n rows (r ∷ []) within) (drop-append-le n rows (r ∷ []) within)
    ∙ ap (λ x. frame (take n rows) (take m vars) ∷ x)
    (frames_with_row t ts end (drop n rows) (drop m vars) r still a.2)
    ∙ sym (step_down r (frame (take n rows) (take m vars)) t ts (drop n rows) (drop m vars))

leave_down : (v : ℕ) (f : Frame) (base : Start) (starts : List Start) (rows : List Row) (vars : List ℕ)
    → with_leaving v (f ∷ frames_from base starts rows vars) ≡ f ∷ with_leaving v (frames_from base starts rows vars)
leave_down v f base [] rows vars = refl
leave_down v f base (s ∷ ss) rows vars = refl

-- one more variable that leaves
pub frames_with_leaving : (base : Start) (starts : List Start) (end : Start) (rows : List Row) (vars : List ℕ) (v : ℕ)
    → end.vars ≤ base.vars + length vars
    → AreStarts base starts end → frames_from base starts rows (vars ++ v ∷ [])
    ≡ with_leaving v (frames_from base starts rows vars)
frames_with_leaving base [] end rows vars v most a = refl
frames_with_leaving base (t ∷ ts) end rows vars v most a =
    let low : base.vars ≤ t.vars = a.1 in
    let more = starts_below t ts end a.2 in
    let high : t.vars ≤ end.vars = more.1 in
    let n : ℕ = t.rows - base.rows in
    let m : ℕ = t.vars - base.vars in
    let within : m ≤ length vars = omega (arith, low, high, most) in
    let left : length (drop m vars) ≡ length vars - m = length-drop m vars in
    let still : end.vars ≤ t.vars + length (drop m vars) = omega (arith, low, high, left, most) in
    ap₂ (λ (x y : List ℕ). frame (take n rows) x ∷ frames_from t ts (drop n rows) y)
    (take-append-le m vars (v ∷ []) within) (drop-append-le m vars (v ∷ []) within)
    ∙ ap (λ x. frame (take n rows) (take m vars) ∷ x)
    (frames_with_leaving t ts end (drop n rows) (drop m vars) v still a.2)
    ∙ sym (leave_down v (frame (take n rows) (take m vars)) t ts (drop n rows) (drop m vars))

-- all rows, frame by frame
pub frames_clauses : (base : Start) (starts : List Start) (rows : List Row) (vars : List ℕ)
    → clauses_in (frames_from base starts rows vars) ≡ rows
frames_clauses base [] rows vars = append-nil rows
frames_clauses base (t ∷ ts) rows vars = ap (λ x. take (t.rows - base.rows) rows ++ x)
    (frames_clauses t ts (drop (t.rows - base.rows) rows) (drop (t.vars - base.vars) vars))
    ∙ take-append-drop (t.rows - base.rows) rows

-- all variables that leave
pub frames_leaving : (base : Start) (starts : List Start) (rows : List Row) (vars : List ℕ)
    → leaving (frames_from base starts rows vars) ≡ vars
frames_leaving base [] rows vars = append-nil vars
frames_leaving base (t ∷ ts) rows vars = ap (λ x. take (t.vars - base.vars) vars ++ x)
    (frames_leaving t ts (drop (t.rows - base.rows) rows) (drop (t.vars - base.vars) vars))
    ∙ take-append-drop (t.vars - base.vars) vars

last_high : (base s : Start) (ss : List Start) (end : Start) → AreStarts base (s ∷ ss) end
    → (s.vars ≤ last_vars (s ∷ ss)) × (last_vars (s ∷ ss) ≤ end.vars)
last_high base s [] end a = (omega arith, a.2.1)
last_high base s (t ∷ ts) end a =
    let rest = last_high s t ts end a.2 in
    let next : s.vars ≤ t.vars = a.2.1 in
    let more : t.vars ≤ last_vars (t ∷ ts) = rest.0 in
    (omega (arith, next, more), rest.1)

pub last_within : (base : Start) (starts : List Start) (end : Start) → AreStarts base starts end
    → last_vars starts ≤ end.vars
last_within base [] end a = omega arith
last_within base (s ∷ ss) end a = (last_high base s ss end a).1

-- the variables that leave with the top frame
pub frames_top : (base : Start) (starts : List Start) (end : Start) (rows : List Row) (vars : List ℕ)
    → AreStarts base starts end
    → top_variables (frames_from base starts rows vars) ≡ drop (last_vars starts - base.vars) vars
frames_top base [] end rows vars a = ap (λ n. drop n vars) (let none : 0 ≡ 0 - base.vars = omega arith in none)
frames_top base (s ∷ []) end rows vars a = refl
frames_top base (s ∷ t ∷ ts) end rows vars a =
    let low : base.vars ≤ s.vars = a.1 in
    let next : s.vars ≤ t.vars = a.2.1 in
    let more = last_high s t ts end a.2 in
    let high : t.vars ≤ last_vars (t ∷ ts) = more.0 in
    frames_top s (t ∷ ts) end (drop (s.rows - base.rows) rows) (drop (s.vars - base.vars) vars) a.2
    ∙ part_last base.vars s.vars (last_vars (t ∷ ts)) vars low (omega (arith, next, high))

pub frames_count : (base : Start) (starts : List Start) (rows : List Row) (vars : List ℕ)
    → length (frames_from base starts rows vars) ≡ suc (length starts)
frames_count base [] rows vars = refl
frames_count base (t ∷ ts) rows vars = ap suc (frames_count t ts (drop (t.rows - base.rows) rows)
    (drop (t.vars - base.vars) vars))

pub depth_is : (base : Start) (starts : List Start) (rows : List Row) (vars : List ℕ)
    → depth (frames_from base starts rows vars) ≡ length starts
depth_is base starts rows vars = let count : length (frames_from base starts rows vars)
    ≡ suc (length starts) = frames_count base starts rows vars in omega (arith, count)

pub literals_more : (rows : List Row) (r : Row) → literals_in (rows ++ r ∷ []) ≡ literals_in rows + length r
literals_more rows r =
    ap length (flat_map-append (λ (row : Row). row) rows (r ∷ []))
    ∙ length-append (flat_map (λ (row : Row). row) rows) (r ++ [])
    ∙ ap (λ x. literals_in rows + length x) (append-nil r)
