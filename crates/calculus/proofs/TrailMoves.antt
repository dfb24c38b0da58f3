-- What stays on a trail that grows or is cut: values, places and order.
use Rattle.std.proofs.Common.{List, ◌≡◌, ℕ, suc, ◌<◌, true, [], ◌∷◌, ◌++◌, length, Contains, Some, None, is_some, sym, refl, ap, ◌∙◌, ⊎_elim, arith, nat_eq, append_assoc, append-nil}
use Rattle.std.proofs.lemmas.Bool.{cases_Bool, eq-eqb, false≢true}
use Rattle.prefix.specs.Scopes.{Scope, all_variables}
use Rattle.calculus.specs.Search.{IsOrderedAfter, MayStand, Placed, Trail, place_on, value_on}
use Rattle.calculus.proofs.Trails.{value_here, value_past, place_here, place_past}

-- a variable of the front has its value and place in the whole
pub value_front : (front back : Trail) (x : ℕ) → is_some (value_on front x) ≡ true
    → value_on (front ++ back) x ≡ value_on front x
value_front [] back x a = absurd (false≢true a)
value_front (p ∷ front) back x a =
    ⊎_elim (λ t. value_here p (front ++ back) x t ∙ sym (value_here p front x t))
    (λ f. value_past p (front ++ back) x f ∙ (value_front front back x (ap is_some (sym (value_past p front x f)) ∙ a)
    ∙ sym (value_past p front x f)))
    (cases_Bool (nat_eq p.literal.variable x))

pub place_front : (front back : Trail) (x : ℕ) → is_some (value_on front x) ≡ true
    → (place_on (front ++ back) x ≡ place_on front x) × (place_on front x < length front)
place_front [] back x a = absurd (false≢true a)
place_front (p ∷ front) back x a =
    let long : length (p ∷ front) ≡ suc (length front) = refl in
    ⊎_elim (λ t. let h = place_here p front x t in (place_here p (front ++ back) x t ∙ sym h, omega arith))
    (λ f. let r = place_front front back x (ap is_some (sym (value_past p front x f)) ∙ a) in let h =
    place_past p front x f in let below = r.1 in
    (place_past p (front ++ back) x f ∙ (ap suc r.0 ∙ sym h), omega arith))
    (cases_Bool (nat_eq p.literal.variable x))

-- a variable placed below the front's length stands in the front
pub front_has : (front back : Trail) (x : ℕ) → place_on (front ++ back) x < length front
    → is_some (value_on front x) ≡ true
front_has [] back x below = absurd (let l : length {A = Placed} [] ≡ 0 = refl in omega arith)
front_has (p ∷ front) back x below =
    let long : length (p ∷ front) ≡ suc (length front) = refl in
    ⊎_elim (λ t. ap is_some (value_here p front x t))
    (λ f. let h = place_past p (front ++ back) x f in ap is_some (value_past p front x f) ∙ front_has front back x
    (omega arith))
    (cases_Bool (nat_eq p.literal.variable x))

-- a new entry stands at the end
pub value_new : (trail : Trail) (p : Placed) → value_on trail p.literal.variable ≡ None
    → (value_on (trail ++ p ∷ []) p.literal.variable ≡ Some p.literal.positive)
    × (place_on (trail ++ p ∷ []) p.literal.variable ≡ length trail)
value_new [] p fresh = let t = eq-eqb p.literal.variable p.literal.variable refl in
    (value_here p [] p.literal.variable t, place_here p [] p.literal.variable t)
value_new (q ∷ trail) p fresh =
    ⊎_elim (λ t. absurd (let g : Some q.literal.positive ≡ None = sym (value_here q trail p.literal.variable t)
    ∙ fresh in cc))
    (λ f. let r = value_new trail p (sym (value_past q trail p.literal.variable f) ∙ fresh) in (
      value_past q (trail ++ p ∷ []) p.literal.variable f ∙ r.0,
      place_past q (trail ++ p ∷ []) p.literal.variable f
          ∙ ap suc r.1,
    ))
    (cases_Bool (nat_eq q.literal.variable p.literal.variable))

-- order stays
pub ordered_more : (scopes : List Scope) (earlier trail : Trail) (p : Placed) → IsOrderedAfter scopes earlier trail
    → Contains (all_variables scopes) p.literal.variable → value_on (earlier ++ trail) p.literal.variable ≡ None
    → MayStand scopes (earlier ++ trail) p.literal.variable p.cause → IsOrderedAfter scopes earlier (trail ++ p ∷ [])
ordered_more scopes earlier [] p ordered i fresh may =
    (i, ap (λ t. value_on t p.literal.variable) (sym (append-nil earlier)) ∙ fresh, rw append-nil at may, tt)
ordered_more scopes earlier (q ∷ trail) p ordered i fresh may = (
  ordered.0,
  ordered.1,
  ordered.2,
  ordered_more scopes (earlier ++ q ∷ []) trail p ordered.3 i
      (ap (λ t. value_on t p.literal.variable) (append_assoc earlier (q ∷ []) trail) ∙ fresh)
      (rw (append_assoc earlier (q ∷ []) trail) may),
)
