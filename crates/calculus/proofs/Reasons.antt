-- Reasons on a trail that grows or is cut, and what they say against.
use Rattle.std.proofs.Common.{Bool, not, false, ◌≡◌, ℕ, true, List, [], ◌∷◌, ◌++◌, map, Contains, Some, None, is_some, sym, refl, ap, subst, ◌∙◌, append_assoc, append-nil}
use Rattle.prefix.specs.declared.quant.Quant.{Quant}
use Rattle.prefix.specs.declared.quant.Quant.TheVariants.{Exists, Forall}
use Rattle.prefix.specs.Literal.{Literal, negation}
use Rattle.prefix.specs.Scopes.{Scope, all_variables, quantifier_of}
use Rattle.prefix.specs.Sides.{bad_of}
use Rattle.truth.specs.Matrix.{same}
use Rattle.calculus.specs.Rows.{is_bad_at, is_pivot}
use Rattle.calculus.specs.Derivations.{Step}
use Rattle.calculus.specs.Search.{Cause, Placed, Trail, value_on, cause_on, before_on, cut_trail, is_bad_if, is_bad_now, good_literal, HasReason, HasUnitReasons, HaveReasonsAfter, HaveOpposites, IsOrderedAfter, IsUnitIn, IsUnitReason, Opposes, assumed}
use Rattle.calculus.specs.Search.Cause.{Assumed, Decided, Propagated}
use Rattle.calculus.proofs.Cutting.{cut_front}
use Rattle.calculus.proofs.Fronts.{before_new, cause_new}
use Rattle.calculus.proofs.Levels.{has_quantifier}
use Rattle.calculus.proofs.Opposites.{bad_there, good_there, opposite}
use Rattle.calculus.proofs.RowLemmas.{same_from, same_true, some_from}
use Rattle.calculus.proofs.TrailLaws.{reason_on}
use Rattle.calculus.proofs.TrailMoves.{value_front, value_new}

pub reasons_push : (scopes : List Scope) (steps : List Step) (earlier trail : Trail) (p : Placed)
    → HaveReasonsAfter scopes steps earlier trail → HasReason scopes steps (earlier ++ trail) p.literal p.cause
    → HaveReasonsAfter scopes steps earlier (trail ++ p ∷ [])
reasons_push scopes steps earlier [] p have reason = (rw append-nil at reason, tt)
reasons_push scopes steps earlier (q ∷ trail) p have reason = (
  have.0,
  reasons_push scopes steps (earlier ++ q ∷ []) trail p have.1
      (rw (append_assoc earlier (q ∷ []) trail) reason),
)

pub reasons_front : (scopes : List Scope) (steps : List Step) (earlier front back : Trail)
    → HaveReasonsAfter scopes steps earlier (front ++ back) → HaveReasonsAfter scopes steps earlier front
reasons_front scopes steps earlier [] back have = tt
reasons_front scopes steps earlier (p ∷ front) back have =
    (have.0, reasons_front scopes steps (earlier ++ p ∷ []) front back have.1)

reason_more : (scopes : List Scope) (steps more : List Step) (earlier : Trail) (l : Literal) (c : Cause)
    → ((s : Step) → Contains steps s → Contains more s) → HasReason scopes steps earlier l c
    → HasReason scopes more earlier l c
reason_more scopes steps more earlier l Assumed within r = r
reason_more scopes steps more earlier l Decided within r = r
reason_more scopes steps more earlier l (Propagated id) within r =
    record {
      step = r.step;
      stands = within r.step r.stands;
      is = r.is;
      literal = r.literal;
      over = r.over;
      good =
          r.good;
      unit = r.unit;
    }

pub reasons_more : (scopes : List Scope) (steps more : List Step) (earlier trail : Trail)
    → ((s : Step) → Contains steps s → Contains more s) → HaveReasonsAfter scopes steps earlier trail
    → HaveReasonsAfter scopes more earlier trail
reasons_more scopes steps more earlier [] within have = tt
reasons_more scopes steps more earlier (p ∷ trail) within have = (
  reason_more scopes steps more earlier p.literal p.cause within have.0,
  reasons_more scopes steps more
      (earlier ++ p ∷ []) trail within have.1,
)

pub reasons_none : (scopes : List Scope) (steps : List Step) (earlier : Trail) (literals : List Literal)
    → HaveReasonsAfter scopes steps earlier (map assumed literals)
reasons_none scopes steps earlier [] = tt
reasons_none scopes steps earlier (l ∷ ls) = (tt, reasons_none scopes steps (earlier ++ assumed l ∷ []) ls)

pub reasons_cut : (scopes : List Scope) (steps : List Step) (trail : Trail) (b : ℕ) → HasUnitReasons scopes steps trail
    → HasUnitReasons scopes steps (cut_trail b trail)
reasons_cut scopes steps trail b have = let parts = cut_front 0 b trail in reasons_front scopes steps []
    (cut_trail b trail) parts.0 (subst (HaveReasonsAfter scopes steps []) parts.1 have)

-- the reason of a literal against one over its variable that is bad
pub opposes : (scopes : List Scope) (steps : List Step) (earlier : Trail) (p e : Literal) (id : ℕ)
    (reason : IsUnitReason scopes steps earlier p id) → e.variable ≡ p.variable → is_bad_at reason.step.side p.positive
    e ≡ true → Opposes reason.step.side scopes steps earlier e id
opposes scopes steps earlier p e id reason over bad =
    let is : reason.literal ≡ negation e = opposite reason.step.side p.positive e reason.literal
    (over ∙ sym reason.over) bad reason.good in
    record {
      step = reason.step;
      stands = reason.stands;
      is = reason.is;
      of_side = refl;
      unit = subst (λ (m : Literal). IsUnitIn reason.step.side scopes (value_on earlier) reason.step.row m) is
          reason.unit;
    }

one_quant : {a b : Quant} → Some a ≡ Some b → a ≡ b
one_quant {a} {b} e = cc

pub on_trail : (pivot : Quant) (scopes : List Scope) (steps : List Step) (trail : Trail)
    → HasUnitReasons scopes steps trail → HaveOpposites pivot scopes steps trail
on_trail pivot scopes steps trail have e id is_pivot_type bad caused =
    let r = reason_on scopes steps [] trail have e.variable id caused in
    let p = r.0 in
    let reason = r.3 in
    let ours : quantifier_of scopes e.variable ≡ Some pivot = same_true (quantifier_of scopes e.variable) pivot
    is_pivot_type in
    let theirs : quantifier_of scopes reason.literal.variable ≡ Some reason.step.side =
    same_true (quantifier_of scopes reason.literal.variable) reason.step.side reason.unit.pivot_type in
    let same_side : reason.step.side ≡ pivot =
    one_quant (sym theirs ∙ (ap (quantifier_of scopes) (reason.over ∙ r.1) ∙ ours)) in
    let bad_at : is_bad_at pivot p.positive e ≡ true = ap (λ o. is_bad_if pivot o e) (sym r.2) ∙ bad in
    let found = opposes scopes steps (before_on trail e.variable) p e id reason (sym r.1)
    (ap (λ q. is_bad_at q p.positive e) same_side ∙ bad_at) in
    subst (λ q. Opposes q scopes steps (before_on trail e.variable) e id) same_side found

-- where each bad literal of either side has one, each reason was unit
module _ (scopes : List Scope) (steps : List Step) (whole : Trail) (clauses : HaveOpposites Exists scopes steps whole)
    (cubes : HaveOpposites Forall scopes steps whole) where
  of_side : (q : Quant) → HaveOpposites q scopes steps whole
  of_side Exists = clauses
  of_side Forall = cubes

  unit_reason : (earlier : Trail) (p : Placed) (rest : Trail) → earlier ++ p ∷ rest ≡ whole
      → Contains (all_variables scopes) p.literal.variable → value_on earlier p.literal.variable ≡ None → (id : ℕ)
      → p.cause ≡ Propagated id → IsUnitReason scopes steps earlier p.literal id
  unit_reason earlier p rest is known fresh id caused =
      let x = p.literal.variable in
      let some = some_from (quantifier_of scopes x) (has_quantifier scopes x known) in
      let q = some.0 in
      let l : Literal = record { variable = x; positive = same p.literal.positive (bad_of q) } in
      let new = value_new earlier p fresh in
      let split : whole ≡ (earlier ++ p ∷ []) ++ rest = sym is ∙ sym (append_assoc earlier (p ∷ []) rest) in
      let value : value_on whole x ≡ Some p.literal.positive = ap (λ (t : Trail). value_on t x) split
      ∙ (value_front (earlier ++ p ∷ []) rest x (ap is_some new.0) ∙ new.0) in
      let cause : cause_on whole x ≡ Some (Propagated id) = ap (λ (t : Trail). cause_on t x) (sym is)
      ∙ (cause_new earlier p rest fresh ∙ ap Some caused) in
      let bad : is_bad_now q (value_on whole) l ≡ true = ap (λ o. is_bad_if q o l) value
      ∙ bad_there q p.literal.positive in
      let pivot : is_pivot q scopes l ≡ true = same_from (quantifier_of scopes x) q some.1 in
      let found = of_side q l id pivot bad cause in
      let before : before_on whole x ≡ earlier = ap (λ (r : Trail). before_on r x) (sym is)
      ∙ before_new earlier p rest fresh in
      record {
        step = found.step;
        stands = found.stands;
        is = found.is;
        literal = negation l;
        over = refl;
        good = ap (λ s. is_bad_at s p.literal.positive (negation l)) found.of_side ∙ good_there q p.literal.positive;
        unit = subst (λ (r : Trail). IsUnitIn found.step.side scopes (value_on r) found.step.row (negation l)) before
            (subst (λ s. IsUnitIn s scopes (value_on (before_on whole x)) found.step.row (negation l))
            (sym found.of_side) found.unit);
      }

  reason_by : (earlier : Trail) (p : Placed) (rest : Trail) → earlier ++ p ∷ rest ≡ whole
      → Contains (all_variables scopes) p.literal.variable → value_on earlier p.literal.variable ≡ None
      → (cause : Cause) → p.cause ≡ cause → HasReason scopes steps earlier p.literal cause
  reason_by earlier p rest is known fresh Assumed caused = tt
  reason_by earlier p rest is known fresh Decided caused = tt
  reason_by earlier p rest is known fresh (Propagated id) caused = unit_reason earlier p rest is known fresh id caused

  pub units_after : (earlier rest : Trail) → earlier ++ rest ≡ whole → IsOrderedAfter scopes earlier rest
      → HaveReasonsAfter scopes steps earlier rest
  units_after earlier [] is ordered = tt
  units_after earlier (p ∷ rest) is ordered = (
    reason_by earlier p rest is ordered.0 ordered.1 p.cause refl,
    units_after (earlier ++ p ∷ []) rest (append_assoc earlier (p ∷ []) rest ∙ is) ordered.3,
  )

-- the value that makes a literal good
makes_good : (side : Quant) (literal : Literal) → is_bad_at side (good_literal side literal).positive literal ≡ false
makes_good Exists literal = by_sign literal.positive
  where
    by_sign : (b : Bool) → same (same b b) false ≡ false
    by_sign true = refl
    by_sign false = refl
makes_good Forall literal = by_sign literal.positive
  where
    by_sign : (b : Bool) → same (same (not b) b) true ≡ false
    by_sign true = refl
    by_sign false = refl

is_over : (side : Quant) (literal : Literal) → literal.variable ≡ (good_literal side literal).variable
is_over Exists literal = refl
is_over Forall literal = refl

pub unit_gives : (scopes : List Scope) (steps : List Step) (trail : Trail) (s : Step) (literal : Literal)
    → Contains steps s → IsUnitIn s.side scopes (value_on trail) s.row literal → IsUnitReason scopes steps trail
    (good_literal s.side literal) s.id
unit_gives scopes steps trail s literal stands unit = record {
  step = s;
  stands = stands;
  is = refl;
  literal = literal;
  over = is_over s.side literal;
  good = makes_good s.side literal;
  unit = unit;
}
