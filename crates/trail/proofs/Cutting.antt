-- A trail that is cut to a decision level, literal by literal.
use Rattle.std.proofs.Common.{Bool, false, drop, set, ◌≡◌, ℕ, zero, suc, ◌+◌, ◌-◌, ◌<◌, ◌≤◌, List, [], ◌∷◌, ◌++◌, length, take, refl, sym, ap, ◌∙◌, ⊎_elim, arith, nat_le}
use Rattle.std.proofs.lemmas.Bool.{cond_both, cond-true, cond-false, cases_lt, le-leb, lt-leb}
use Rattle.std.proofs.lemmas.List.{length_push}
use Rattle.calculus.specs.Search.{Placed, Trail, cut_from, cut_trail, last_level, last_level_from, level_after}
use Rattle.calculus.proofs.Cutting.{cut_all, cut_here, cut_none}
use Rattle.trail.specs.declared.allowed.Allowed.TheVariants.{NoDecision}
use Rattle.trail.specs.Open.{finished_without}
use Rattle.trail.specs.State.{TrailState, undone_to, with_front, without_last}

-- a last literal above the level goes
pub cut_more : (before b : ℕ) (trail : Trail) (p : Placed) → b < last_level_from before (trail ++ p ∷ [])
    → cut_from before b (trail ++ p ∷ []) ≡ cut_from before b trail
cut_more before b [] p high = cut_none before b p [] high
cut_more before b (q ∷ trail) p high =
    let now = level_after before q in
    ⊎_elim
    (λ (above : b < now). cut_none before b q (trail ++ p ∷ []) above ∙ sym (cut_none before b q trail above))
    (λ (low : now ≤ b). cut_here before b q (trail ++ p ∷ []) low
    ∙ (ap (λ t. q ∷ t) (cut_more now b trail p high) ∙ sym (cut_here before b q trail low)))
    (cases_lt b now)

-- the last literal of a list
pub last_split : {X : Type 0} (xs : List X) → 0 < length xs → (x : X) × (xs ≡ take (length xs - 1) xs ++ x ∷ [])
last_split [] h = absurd (omega arith)
last_split (x ∷ []) h = (x, refl)
last_split (x ∷ y ∷ xs) h =
    let later = last_split (y ∷ xs) (omega arith) in
    let long : length (x ∷ y ∷ xs) - 1 ≡ suc (length (y ∷ xs) - 1) = omega arith in
    (later.0, ap (λ t. x ∷ t) later.1 ∙ ap (λ n. take n (x ∷ y ∷ xs) ++ later.0 ∷ []) (sym long))

-- a trail with a level isn't empty
pub level_long : (b : ℕ) (trail : Trail) → b < last_level trail → 0 < length trail
level_long b [] high = absurd (let h : b < 0 = high in omega arith)
level_long b (p ∷ trail) high = omega arith

-- the part that a cut leaves
abbrev cut_state : ℕ → TrailState → TrailState
cut_state b t = with_front (cut_trail b t.placed) (length (cut_trail b t.placed)) t

pub undone_low : (b : ℕ) (t : TrailState) → last_level t.placed ≤ b → undone_to b t ≡ t
undone_low b t low = cond-true (nat_le (last_level t.placed) b) t (cut_state b t) (le-leb (last_level t.placed) b low)

pub undone_high : (b : ℕ) (t : TrailState) → b < last_level t.placed → undone_to b t ≡ with_front (cut_trail b t.placed)
    (length (cut_trail b t.placed)) t
undone_high b t high = cond-false (nat_le (last_level t.placed) b) t (cut_state b t)
    (lt-leb (last_level t.placed) b high)

-- a front of a front
pub take_take : {X : Type 0} (m n : ℕ) (xs : List X) → m ≤ n → take m (take n xs) ≡ take m xs
take_take zero n xs h = refl
take_take (suc m) zero xs h = absurd (omega arith)
take_take (suc m) (suc n) [] h = refl
take_take (suc m) (suc n) (x ∷ xs) h = ap (λ t. x ∷ t) (take_take m n xs (omega arith))

pub cut_short : (before b : ℕ) (trail : Trail) → length (cut_from before b trail) ≤ length trail
cut_short before b [] = omega arith
cut_short before b (p ∷ trail) =
    let now = level_after before p in
    let later : length (cut_from now b trail) ≤ length trail = cut_short now b trail in
    cond_both (nat_le now b) (p ∷ cut_from now b trail) [] (λ t. length t ≤ length (p ∷ trail)) (λ t. omega arith)
    (λ f. omega arith)

-- what goes with a cut, in two parts
dropped_parts : {X : Type 0} (m n : ℕ) (xs : List X) → m ≤ n → drop m xs ≡ drop m (take n xs) ++ drop n xs
dropped_parts zero zero xs h = refl
dropped_parts zero (suc n) [] h = refl
dropped_parts zero (suc n) (x ∷ xs) h = ap (λ t. x ∷ t) (dropped_parts zero n xs (omega arith))
dropped_parts (suc m) zero xs h = absurd (omega arith)
dropped_parts (suc m) (suc n) [] h = refl
dropped_parts (suc m) (suc n) (x ∷ xs) h = dropped_parts m n xs (omega arith)

pub without_parts : (depths more : List ℕ) (finished : List Bool) → finished_without (depths ++ more)
    finished ≡ finished_without depths (finished_without more finished)
without_parts [] more finished = refl
without_parts (d ∷ depths) more finished = ap (λ fs. set fs (d - 1) false) (without_parts depths more finished)

finished_less : (m n : ℕ) (depths : List ℕ) (finished : List Bool) → m ≤ n → finished_without (drop m (take n depths))
    (finished_without (drop n depths) finished) ≡ finished_without (drop m depths) finished
finished_less m n depths finished h =
    sym (without_parts (drop m (take n depths)) (drop n depths) finished) ∙ ap (λ ds. finished_without ds finished)
    (sym (dropped_parts m n depths h))

-- to cut may begin with the last literal
pub undone_less : (b : ℕ) (t : TrailState) → b < last_level t.placed → undone_to b (without_last t) ≡ undone_to b t
undone_less b t high =
    let front = take (length t.placed - 1) t.placed in
    let last = last_split t.placed (level_long b t.placed high) in
    let top : b < last_level (front ++ last.0 ∷ []) = rw (← last.1) high in
    let same : cut_trail b t.placed ≡ cut_trail b front = ap (cut_trail b) last.1 ∙ cut_more 0 b front last.0 top in
    let long : length t.placed ≡ length front + 1 = ap length last.1 ∙ length_push front last.0 in
    ⊎_elim
    (λ (above : b < last_level front).
    let short : length (cut_trail b front) ≤ length front = cut_short 0 b front in
    undone_high b (without_last t) above
    ∙ (twice (cut_trail b front) (length (cut_trail b front)) (length t.placed - 1) front t (omega arith)
    ∙ (ap (λ trail. with_front trail (length trail) t) (sym same) ∙ sym (undone_high b t high))))
    (λ (low : last_level front ≤ b).
    let all : cut_trail b t.placed ≡ front = same ∙ cut_all 0 b front low in
    let number : length t.placed - 1 ≡ length (cut_trail b t.placed) =
    (let h : length (cut_trail b t.placed) ≡ length front = ap length all in omega arith) in
    undone_low b (without_last t) low
    ∙ (ap (λ n. with_front front n t) number
    ∙ (ap (λ trail. with_front trail (length (cut_trail b t.placed)) t) (sym all) ∙ sym (undone_high b t high))))
    (cases_lt b (last_level front))
  where
    twice : (front : Trail) (m n : ℕ) (middle : Trail) (t : TrailState) → m ≤ n → with_front front m
        (with_front middle n t) ≡ with_front front m t
    twice front m n middle t h =
        let depths = take_take m n t.depths h in
        let marks = take_take m n t.marks h in
        let finished = finished_less m n t.depths t.finished h in
        λ i. record {
          placed = front;
          depths = depths i;
          marks = marks i;
          finished = finished i;
          assigned = t.assigned;
          restarts = t.restarts;
          room = t.room;
          allowed = NoDecision;
        }
