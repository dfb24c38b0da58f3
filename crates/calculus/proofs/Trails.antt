-- Places, levels and causes on an ordered trail.
use Rattle.std.proofs.Common.{List, ◌≡◌, ℕ, suc, ◌<◌, ◌≤◌, ◌⊎◌, Bool, true, false, cond, [], ◌∷◌, ◌++◌, Contains, Some, is_some, sym, ap, ◌∙◌, inl, inr, ⊎_elim, arith, nat_eq}
use Rattle.std.proofs.lemmas.Bool.{cond_both, cases_Bool, eqb-true, cond-true, cond-false, false≢true}
use Rattle.std.proofs.lemmas.List.Elements.{Contains-append_left, Contains-append_right}
use Rattle.prefix.specs.Scopes.{Scope, all_variables}
use Rattle.calculus.specs.Rows.{depth_of}
use Rattle.calculus.specs.Search.{Cause, IsOrderedAfter, MayStand, Placed, Trail, cause_on, is_decision, level_from_start, place_on, value_on}
use Rattle.calculus.specs.Search.Cause.{Assumed, Decided}
use Rattle.calculus.proofs.Lists.{contains_head}
use Rattle.calculus.proofs.Levels.{first_depth}

-- the first entry, or the rest
here : Placed → ℕ → Bool
here p x = nat_eq p.literal.variable x

module _ (p : Placed) (rest : Trail) (x : ℕ) where
  pub value_here : nat_eq p.literal.variable x ≡ true → value_on (p ∷ rest) x ≡ Some p.literal.positive
  value_here t = cond-true (nat_eq p.literal.variable x) (Some p.literal.positive) (value_on rest x) t

  pub value_past : nat_eq p.literal.variable x ≡ false → value_on (p ∷ rest) x ≡ value_on rest x
  value_past f = cond-false (nat_eq p.literal.variable x) (Some p.literal.positive) (value_on rest x) f

  pub place_here : nat_eq p.literal.variable x ≡ true → place_on (p ∷ rest) x ≡ 0
  place_here t = cond-true (nat_eq p.literal.variable x) 0 (suc (place_on rest x)) t

  pub place_past : nat_eq p.literal.variable x ≡ false → place_on (p ∷ rest) x ≡ suc (place_on rest x)
  place_past f = cond-false (nat_eq p.literal.variable x) 0 (suc (place_on rest x)) f

  pub cause_here : nat_eq p.literal.variable x ≡ true → cause_on (p ∷ rest) x ≡ Some p.cause
  cause_here t = cond-true (nat_eq p.literal.variable x) (Some p.cause) (cause_on rest x) t

  pub cause_past : nat_eq p.literal.variable x ≡ false → cause_on (p ∷ rest) x ≡ cause_on rest x
  cause_past f = cond-false (nat_eq p.literal.variable x) (Some p.cause) (cause_on rest x) f

  abbrev pub now : ℕ → ℕ
  now before = cond (is_decision p.cause) (suc before) before

  pub level_here : (before : ℕ) → nat_eq p.literal.variable x ≡ true → level_from_start before (p ∷ rest) x ≡ now before
  level_here before t = cond-true (nat_eq p.literal.variable x) (now before) (level_from_start (now before) rest x) t

  pub level_past : (before : ℕ) → nat_eq p.literal.variable x ≡ false → level_from_start before
      (p ∷ rest) x ≡ level_from_start (now before) rest x
  level_past before f = cond-false (nat_eq p.literal.variable x) (now before) (level_from_start (now before) rest x) f

  pub now_least : (before : ℕ) → before ≤ now before
  now_least before = cond_both (is_decision p.cause) (suc before) before (λ n. before ≤ n) (λ t. omega arith)
      (λ f. omega arith)

-- two assigned variables at one place are one
pub places_apart : (trail : Trail) (y z : ℕ) → is_some (value_on trail y) ≡ true → is_some (value_on trail z) ≡ true
    → place_on trail y ≡ place_on trail z → y ≡ z
places_apart [] y z a b e = absurd (false≢true a)
places_apart (p ∷ rest) y z a b e =
    ⊎_elim
    (λ ty. ⊎_elim (λ tz. sym (eqb-true p.literal.variable y ty) ∙ eqb-true p.literal.variable z tz)
    (λ fz. absurd (let m = place_here p rest y ty in let n = place_past p rest z fz in omega arith))
    (cases_Bool (nat_eq p.literal.variable z)))
    (λ fy. ⊎_elim (λ tz. absurd (let m = place_past p rest y fy in let n = place_here p rest z tz in omega arith))
    (λ fz. places_apart rest y z (ap is_some (sym (value_past p rest y fy)) ∙ a)
    (ap is_some (sym (value_past p rest z fz)) ∙ b)
    (let m = place_past p rest y fy in let n = place_past p rest z fz in omega arith))
    (cases_Bool (nat_eq p.literal.variable z)))
    (cases_Bool (nat_eq p.literal.variable y))

-- the value of a variable on a trail with one more entry
assigned_more : (earlier : Trail) (p : Placed) (y : ℕ) → is_some (value_on (earlier ++ p ∷ []) y) ≡ true
    → (is_some (value_on earlier y) ≡ true) ⊎ (nat_eq p.literal.variable y ≡ true)
assigned_more [] p y a = ⊎_elim inr (λ f. absurd (false≢true (ap is_some (sym (value_past p [] y f)) ∙ a)))
    (cases_Bool (nat_eq p.literal.variable y))
assigned_more (q ∷ earlier) p y a =
    ⊎_elim (λ t. inl (ap is_some (value_here q earlier y t)))
    (λ f. ⊎_elim (λ r. inl (ap is_some (value_past q earlier y f) ∙ r)) inr
    (assigned_more earlier p y (ap is_some (sym (value_past q (earlier ++ p ∷ []) y f)) ∙ a)))
    (cases_Bool (nat_eq q.literal.variable y))

-- a decision comes after all variables of earlier scopes
pub decided_after : (scopes : List Scope) (earlier trail : Trail) → IsOrderedAfter scopes earlier trail → (x : ℕ)
    → cause_on trail x ≡ Some Decided → (y : ℕ) → Contains (all_variables scopes) y → depth_of scopes y < depth_of
    scopes x → (is_some (value_on earlier y) ≡ true)
    ⊎ ((is_some (value_on trail y) ≡ true) × (place_on trail y < place_on trail x))
decided_after scopes earlier [] ordered x e y i below = absurd (cc)
decided_after scopes earlier (p ∷ rest) ordered x e y i below =
    ⊎_elim
    (λ t.
    let c : Some p.cause ≡ Some Decided = sym (cause_here p rest x t) ∙ e in
    let d : p.cause ≡ Decided = cc in
    let v : p.literal.variable ≡ x = eqb-true p.literal.variable x t in
    let may : MayStand scopes earlier x Decided = rw (d, v) at ordered.2 in
    inl (may y i below))
    (λ f.
    let x_place = place_past p rest x f in
    let first : nat_eq p.literal.variable y ≡ true → (is_some (value_on (p ∷ rest) y) ≡ true)
    × (place_on (p ∷ rest) y < place_on (p ∷ rest) x) = λ t. let m = place_here p rest y t in
    (ap is_some (value_here p rest y t), omega arith) in
    ⊎_elim
    (λ a. ⊎_elim inl (λ t. inr (first t)) (assigned_more earlier p y a))
    (λ r. inr (⊎_elim first
    (λ g. let m = place_past p rest y g in let lower : place_on rest y < place_on rest x = r.1 in
    (ap is_some (value_past p rest y g) ∙ r.0, omega arith))
    (cases_Bool (nat_eq p.literal.variable y))))
    (decided_after scopes (earlier ++ p ∷ []) rest ordered.3 x (sym (cause_past p rest x f) ∙ e) y i below))
    (cases_Bool (nat_eq p.literal.variable x))

-- an assumed variable is of the first scope, and what stands before it is assumed
pub assumed_after : (scopes : List Scope) (earlier trail : Trail) → IsOrderedAfter scopes earlier trail → (x : ℕ)
    → cause_on trail x ≡ Some Assumed → (depth_of scopes x ≡ 1)
    × ((q : Placed) → Contains earlier q → q.cause ≡ Assumed)
    × ((y : ℕ) → is_some (value_on trail y) ≡ true → place_on trail y < place_on trail x
    → cause_on trail y ≡ Some Assumed)
assumed_after scopes earlier [] ordered x e = absurd (cc)
assumed_after scopes earlier (p ∷ rest) ordered x e =
    ⊎_elim
    (λ t.
    let c : Some p.cause ≡ Some Assumed = sym (cause_here p rest x t) ∙ e in
    let d : p.cause ≡ Assumed = cc in
    let v : p.literal.variable ≡ x = eqb-true p.literal.variable x t in
    let may : MayStand scopes earlier x Assumed = rw (d, v) at ordered.2 in
    (first_depth scopes x may.0, may.1, λ y a below. absurd (let m = place_here p rest x t in omega arith)))
    (λ f.
    let r = assumed_after scopes (earlier ++ p ∷ []) rest ordered.3 x (sym (cause_past p rest x f) ∙ e) in (
      r.0,
      (λ q i. r.1 q (Contains-append_left earlier (p ∷ []) q i)),
      λ y a below. ⊎_elim
          (λ t. cause_here p rest y t ∙ ap Some (r.1 p (Contains-append_right earlier (p ∷ []) p (contains_head p []))))
          (λ g. cause_past p rest y g ∙ r.2 y (ap is_some (sym (value_past p rest y g)) ∙ a)
          (let m = place_past p rest y g in let n = place_past p rest x f in omega arith))
          (cases_Bool (nat_eq p.literal.variable y)),
    ))
    (cases_Bool (nat_eq p.literal.variable x))

-- levels rise along the trail, and strictly at a decision
pub level_least : (before : ℕ) (trail : Trail) (x : ℕ) → before ≤ level_from_start before trail x
level_least before [] x = omega arith
level_least before (p ∷ rest) x =
    let least = now_least p rest x before in
    ⊎_elim (λ t. rw (level_here p rest x before t) least)
    (λ f. rw (level_past p rest x before f) (let h : now p rest x before ≤ level_from_start (now p rest x before) rest
    x = level_least (now p rest x before) rest x in omega arith))
    (cases_Bool (nat_eq p.literal.variable x))

pub decision_level_least : (before : ℕ) (trail : Trail) (x : ℕ) → cause_on trail x ≡ Some Decided
    → before < level_from_start before trail x
decision_level_least before [] x e = absurd (cc)
decision_level_least before (p ∷ rest) x e =
    ⊎_elim
    (λ t.
    let c : Some p.cause ≡ Some Decided = sym (cause_here p rest x t) ∙ e in
    let d : p.cause ≡ Decided = cc in
    let up : now p rest x before ≡ suc before = cond-true (is_decision p.cause) (suc before) before
    (ap is_decision d) in
    rw (level_here p rest x before t) (omega arith))
    (λ f. let least = now_least p rest x before in
    rw (level_past p rest x before f) (let h : now p rest x before < level_from_start (now p rest x before) rest x =
    decision_level_least (now p rest x before) rest x (sym (cause_past p rest x f) ∙ e) in omega arith))
    (cases_Bool (nat_eq p.literal.variable x))

pub levels_rise_at : (before : ℕ) (trail : Trail) (y z : ℕ) → is_some (value_on trail y) ≡ true
    → cause_on trail z ≡ Some Decided → place_on trail y < place_on trail z → level_from_start before trail y <
    level_from_start before trail z
levels_rise_at before [] y z a e below = absurd (false≢true a)
levels_rise_at before (p ∷ rest) y z a e below =
    ⊎_elim
    (λ tz. absurd (let m = place_here p rest z tz in omega arith))
    (λ fz.
    let z_level = level_past p rest z before fz in
    let later = sym (cause_past p rest z fz) ∙ e in
    ⊎_elim
    (λ ty. let y_level = level_here p rest y before ty in let least : now p rest z before < level_from_start
    (now p rest z before) rest z = decision_level_least (now p rest z before) rest z later in omega arith)
    (λ fy. let y_level = level_past p rest y before fy in
    let m = place_past p rest y fy in let n = place_past p rest z fz in
    let h : level_from_start (now p rest y before) rest y < level_from_start (now p rest y before) rest z =
    levels_rise_at (now p rest y before) rest y z (ap is_some (sym (value_past p rest y fy)) ∙ a) later
    (omega arith) in
    omega arith)
    (cases_Bool (nat_eq p.literal.variable y)))
    (cases_Bool (nat_eq p.literal.variable z))

pub cause_of_assigned : (trail : Trail) (x : ℕ) → is_some (value_on trail x) ≡ true → (c : Cause)
    × (cause_on trail x ≡ Some c)
cause_of_assigned [] x a = absurd (false≢true a)
cause_of_assigned (p ∷ rest) x a =
    ⊎_elim (λ t. (p.cause, cause_here p rest x t))
    (λ f. let r = cause_of_assigned rest x (ap is_some (sym (value_past p rest x f)) ∙ a) in
    (r.0, cause_past p rest x f ∙ r.1))
    (cases_Bool (nat_eq p.literal.variable x))
