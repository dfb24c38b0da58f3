-- How long rows are, and how many gates a proof costs.
use Rattle.std.proofs.Common.{◌≡◌, ℕ, ◌+◌, ◌-◌, ◌*◌, ◌<◌, ◌≤◌, true, cond, List, [], ◌∷◌, length, get_or, map, Contains, ⊎_elim, arith, nat_eq, mul-le-mul, sym, ◌∙◌}
use Rattle.std.proofs.lemmas.Cmp.{nat_eq_equiv}
use Rattle.std.proofs.lemmas.Map.Made.{length-le_from_is_member}
use Rattle.std.proofs.lemmas.Map.Keys.{IsDistinct-from_apart}
use Rattle.std.proofs.lemmas.List.{get_or-map, length-map}
use Rattle.std.proofs.lemmas.Bool.{ne_eqb}
use Rattle.prefix.specs.Literal.{Literal}
use Rattle.prefix.specs.Scopes.{Scope, all_variables}
use Rattle.prefix.specs.declared.quant.Quant.{Quant}
use Rattle.calculus.specs.Derivations.{Inference, Reason}
use Rattle.calculus.specs.Derivations.Reason.{Input, One, Two}
use Rattle.calculus.specs.Limits.{gate_weight, gates_of, is_removal, removals_of}
use Rattle.calculus.specs.Rows.{IsRow, Row}
use Rattle.calculus.proofs.Ascending.{rises}
use Rattle.calculus.proofs.Sound.{AreSoundSteps, IsSoundStep}
use Rattle.calculus.proofs.Lists.{contains_cons, contains_map, any_at, any_from}
use Rattle.calculus.specs.Search.{Trail, Placed, IsOrderedTrail}
use Rattle.calculus.specs.Search.Cause.{Assumed}
use Rattle.calculus.proofs.TrailLaws.{ordered_apart, ordered_in}

-- a row has at most one literal for each variable of the prefix
pub row_length : (scopes : List Scope) (row : Row) → IsRow scopes row → length row ≤ length (all_variables scopes)
row_length scopes row is_row =
    let variables : List ℕ = map (λ (l : Literal). l.variable) row in
    let d : Literal = record { variable = 0; positive = true } in
    let long : length variables ≡ length row = length-map row (λ (l : Literal). l.variable) in
    let most : length variables ≤ length (all_variables scopes) = length-le_from_is_member nat_eq_equiv variables
    (all_variables scopes)
    (IsDistinct-from_apart nat_eq variables (λ i j e below fits.
    let p : get_or variables i e ≡ (get_or row i d).variable = get_or-map (λ (l : Literal). l.variable) row i d e
    (omega arith) in
    let q : get_or variables j e ≡ (get_or row j d).variable = get_or-map (λ (l : Literal). l.variable) row j d e
    (omega arith) in
    let r : (get_or row i d).variable < (get_or row j d).variable = (rises is_row) i j d below (omega arith) in
    ne_eqb (get_or variables i e) (get_or variables j e) (omega arith)))
    (λ q t.
    let x = any_at (nat_eq q) variables t in
    let l = contains_map (λ (l : Literal). l.variable) row x.0 x.1 in
    any_from (nat_eq q) (all_variables scopes) x.0 (rw l.2 at (is_row.over_prefix l.0 l.1)) x.2) in
    omega arith

-- so has an ordered trail
pub trail_length : (scopes : List Scope) (trail : Trail) → IsOrderedTrail scopes trail → length trail ≤ length
    (all_variables scopes)
trail_length scopes trail ordered =
    let variable : Placed → ℕ = λ (p : Placed). p.literal.variable in
    let variables : List ℕ = map variable trail in
    let d : Placed = record { literal = record { variable = 0; positive = true }; cause = Assumed } in
    let long : length variables ≡ length trail = length-map trail variable in
    let apart = ordered_apart scopes [] trail ordered in
    let most : length variables ≤ length (all_variables scopes) = length-le_from_is_member nat_eq_equiv variables
    (all_variables scopes)
    (IsDistinct-from_apart nat_eq variables (λ i j e below fits.
    let p : get_or variables i e ≡ (get_or trail i d).literal.variable = get_or-map variable trail i d e
    (omega arith) in
    let q : get_or variables j e ≡ (get_or trail j d).literal.variable = get_or-map variable trail j d e
    (omega arith) in
    ne_eqb (get_or variables i e) (get_or variables j e)
    (λ same. apart i j d below (omega arith) (sym p ∙ (same ∙ q)))))
    (λ q t.
    let x = any_at (nat_eq q) variables t in
    let p = contains_map variable trail x.0 x.1 in
    any_from (nat_eq q) (all_variables scopes) x.0 (rw p.2 at (ordered_in scopes [] trail ordered p.0 p.1)) x.2) in
    omega arith

removal_most : (n b a : ℕ) → b ≤ n → a ≤ n → (b - a) * (a + 1) ≤ n * (n + 1)
removal_most n b a below under =
    let p : b - a ≤ n = omega arith in
    let q : a + 1 ≤ n + 1 = omega arith in
    mul-le-mul p q

-- the gates of a step, where the rows before it have at most n literals
gates_most : (n : ℕ) (pivot : Quant) (scopes : List Scope) (clauses : List Row) (assumptions : List Literal)
    (earlier : List Row) → ((r : Row) → Contains earlier r → length r ≤ n) → (row : Row) (reason : Reason)
    → length row ≤ n → IsSoundStep pivot scopes clauses assumptions earlier row reason → gates_of row reason ≤ cond
    (is_removal reason) 1 0 * (n * (n + 1))
gates_most n pivot scopes clauses assumptions earlier fit row Input fits step = omega arith
gates_most n pivot scopes clauses assumptions earlier fit row (One before) fits step = let h = removal_most n
    (length before) (length row) (fit before step.0) fits in omega (arith, h)
gates_most n pivot scopes clauses assumptions earlier fit row (Two a b x) fits step = omega arith

-- gates are at most the removals times n * (n + 1), for n variables
pub gate_weight_most : (pivot : Quant) (scopes : List Scope) (clauses : List Row) (assumptions : List Literal)
    (earlier : List Row) → ((r : Row) → Contains earlier r → length r ≤ length (all_variables scopes))
    → (steps : List Inference) → AreSoundSteps pivot scopes clauses assumptions earlier steps
    → gate_weight steps ≤ removals_of steps * (length (all_variables scopes) * (length (all_variables scopes) + 1))
gate_weight_most pivot scopes clauses assumptions earlier fit [] are = omega arith
gate_weight_most pivot scopes clauses assumptions earlier fit (s ∷ steps) are =
    let fits = row_length scopes s.row are.0 in
    let h = gates_most (length (all_variables scopes)) pivot scopes clauses assumptions earlier fit s.row s.reason fits
    are.1 in
    let rest = gate_weight_most pivot scopes clauses assumptions (s.row ∷ earlier)
    (λ r i. ⊎_elim (λ e. rw (← e) fits) (λ j. fit r j) (contains_cons s.row earlier r i)) steps are.2 in
    sum_most (gates_of s.row s.reason) (cond (is_removal s.reason) 1 0) (gate_weight steps) (removals_of steps)
    (length (all_variables scopes) * (length (all_variables scopes) + 1)) h rest
  where
    sum_most : (g a w b k : ℕ) → g ≤ a * k → w ≤ b * k → g + w ≤ (a + b) * k
    sum_most g a w b k p q = omega arith

-- with at most k removals over at most m variables the weight is within k * (m * (m + 1))
pub bounded_weight : (weight removals n m k : ℕ) → weight ≤ removals * (n * (n + 1)) → n ≤ m → removals ≤ k
    → weight ≤ k * (m * (m + 1))
bounded_weight weight removals n m k few within most =
    let more : n + 1 ≤ m + 1 = omega arith in
    let square : n * (n + 1) ≤ m * (m + 1) = mul-le-mul within more in
    let whole : removals * (n * (n + 1)) ≤ k * (m * (m + 1)) = mul-le-mul most square in
    under few whole
  where
    under : {a b c : ℕ} → a ≤ b → b ≤ c → a ≤ c
    under {a} {b} {c} p q = omega (arith, p, q)
