-- The scopes that are known to be all assigned are.
use Rattle.std.proofs.Common.{◌≡◌, ℕ, suc, ◌+◌, ◌-◌, ◌<◌, ◌≤◌, Bool, true, false, List, [], ◌∷◌, ◌++◌, length, map, set, is_some, refl, sym, ap, ◌∙◌, ⊎_elim, arith, append-nil, append_assoc}
use Rattle.std.specs.Prelude.{count_by}
use Rattle.std.proofs.lemmas.Bool.{cases_eq, cases_lt, eqb-true, false≢true}
use Rattle.std.proofs.lemmas.List.{length-set, get_or-set_same, get_or-set_other, get_or_past}
use Rattle.prefix.specs.Scopes.{Scope, depth_of, variables_at}
use Rattle.calculus.specs.Search.{Placed, Trail}
use Rattle.calculus.proofs.Levels.{depth_at_least}
use Rattle.trail.specs.Finished.{emptied, is_in, with_place_if, AreIn}
use Rattle.trail.specs.Open.{is_assigned, is_finished, finished_with, finished_without, AreAssignedBefore, AreFinished}
use Rattle.trail.proofs.Blocks.{before_in, before_length, emptied_in}
use Rattle.trail.proofs.Counting.{all_pass, depth_stands, variables_before, variables_in}
use Rattle.trail.proofs.Opening.{still_assigned}
use Rattle.trail.proofs.Placing.{value_other}

-- on a longer trail
pub finished_longer : (scopes : List Scope) (front back : Trail) (finished : List Bool)
    → AreFinished scopes front finished → AreFinished scopes (front ++ back) finished
finished_longer scopes front back finished h x i known depth marked = still_assigned front back x
    (h x i known depth marked)

-- with nothing in the set
pub finished_none : (scopes : List Scope) (trail : Trail) (finished : List Bool) → AreFinished scopes trail
    (emptied finished)
finished_none scopes trail finished x i known depth marked = absurd (false≢true (sym (emptied_in finished i) ∙ marked))

-- a scope that isn't known any more
taken_other : (finished : List Bool) (n i : ℕ) → is_in (set finished n false) i ≡ true → (i ≡ n → ⊥)
    × (is_in finished i ≡ true)
taken_other finished n i marked =
    let differs : i ≡ n → ⊥ = λ same. false≢true (sym (gone same) ∙ marked) in
    (differs, sym (get_or-set_other finished n i false false differs) ∙ marked)
  where
    gone : i ≡ n → is_in (set finished n false) i ≡ false
    gone same = ⊎_elim
        (λ (within : n < length finished). ap (is_in (set finished n false)) same ∙ get_or-set_same finished n false
        false within)
        (λ (past : length finished ≤ n). get_or_past (set finished n false) i false
        (let long = length-set finished n false in omega arith))
        (cases_lt n (length finished))

-- on a trail without its last literals
pub finished_shorter : (scopes : List Scope) (front back : Trail) (finished : List Bool) → AreFinished scopes
    (front ++ back) finished → AreFinished scopes front
    (finished_without (map (λ (p : Placed). depth_of scopes p.literal.variable) back) finished)
finished_shorter scopes front [] finished h = rw append-nil at h
finished_shorter scopes front (p ∷ back) finished h =
    λ x i known depth marked.
    let rest : List Bool = finished_without (map (λ (q : Placed). depth_of scopes q.literal.variable) back) finished in
    let whole : front ++ p ∷ back ≡ (front ++ p ∷ []) ++ back = sym (append_assoc front (p ∷ []) back) in
    let later = finished_shorter scopes (front ++ p ∷ []) back finished (rw whole at h) in
    let other = taken_other rest (depth_of scopes p.literal.variable - 1) i marked in
    let least = depth_at_least scopes p.literal.variable in
    let differs : p.literal.variable ≡ x → ⊥ = λ same. other.0
    (let e : depth_of scopes p.literal.variable ≡ depth_of scopes x = ap (depth_of scopes) same in omega arith) in
    ap is_some (sym (value_other front p x differs)) ∙ later x i known depth other.1

-- a scope that is full
pub finished_full : (scopes : List Scope) (trail : Trail) (is_full : Bool) (depth : ℕ) (finished : List Bool)
    → AreFinished scopes trail finished → (is_full ≡ true → is_finished scopes trail depth ≡ true) → 1 ≤ depth
    → AreFinished scopes trail (with_place_if is_full (depth - 1) finished)
finished_full scopes trail false depth finished h full first = h
finished_full scopes trail true depth finished h full first =
    λ x i known number marked.
    ⊎_elim
    (λ (same : i ≡ depth - 1).
    let at : depth ≡ suc i = omega arith in
    let here : variables_at scopes depth ≡ variables_in scopes i = variables_before scopes depth i at in
    let all : count_by (is_assigned trail) (variables_at scopes depth) ≡ length (variables_at scopes depth) =
    eqb-true (count_by (is_assigned trail) (variables_at scopes depth)) (length (variables_at scopes depth))
    (full refl) in
    all_pass (is_assigned trail) (variables_at scopes depth) (omega arith) x
    (rw here (depth_stands scopes i x known number)))
    (λ differs. h x i known number (sym (get_or-set_other finished (depth - 1) i true false differs) ∙ marked))
    (cases_eq i (depth - 1))

-- and all before a decision
pub finished_then : (scopes : List Scope) (trail : Trail) (is_full is_decided : Bool) (depth : ℕ) (finished : List Bool)
    → AreFinished scopes trail finished → (is_full ≡ true → is_finished scopes trail depth ≡ true)
    → (is_decided ≡ true → AreAssignedBefore scopes trail depth) → 1 ≤ depth → AreFinished scopes trail
    (finished_with is_full is_decided depth finished)
finished_then scopes trail is_full false depth finished h full decided first = finished_full scopes trail is_full depth
    finished h full first
finished_then scopes trail is_full true depth finished h full decided first =
    λ x i known number marked.
    ⊎_elim
    (λ (before : i < depth - 1). decided refl x known (omega arith))
    (λ there. finished_full scopes trail is_full depth finished h full first x i known number there)
    (before_in (depth - 1) (with_place_if is_full (depth - 1) finished) i marked)

-- scopes that are passed over
pub assigned_over : (scopes : List Scope) (trail : Trail) (finished : List Bool) (scope next : ℕ)
    → AreFinished scopes trail finished → AreAssignedBefore scopes trail scope → AreIn finished (scope - 1) next
    → 1 ≤ scope → AreAssignedBefore scopes trail (next + 1)
assigned_over scopes trail finished scope next h earlier passed first x known below =
    ⊎_elim
    (λ (before : depth_of scopes x < scope). earlier x known before)
    (λ (later : scope ≤ depth_of scopes x).
    let i = depth_of scopes x - 1 in
    let number : depth_of scopes x ≡ suc i = omega arith in
    h x i known number (passed i (omega arith) (omega arith)))
    (cases_lt (depth_of scopes x) scope)

-- lengths
pub with_length : (is_full is_decided : Bool) (depth : ℕ) (finished : List Bool)
    → length (finished_with is_full is_decided depth finished) ≡ length finished
with_length true true depth finished = before_length (depth - 1) (set finished (depth - 1) true) ∙ length-set finished
    (depth - 1) true
with_length true false depth finished = length-set finished (depth - 1) true
with_length false true depth finished = before_length (depth - 1) finished
with_length false false depth finished = refl

pub without_length : (depths : List ℕ) (finished : List Bool) → length (finished_without depths finished) ≡ length
    finished
without_length [] finished = refl
without_length (d ∷ depths) finished = length-set (finished_without depths finished) (d - 1) false
    ∙ without_length depths finished
