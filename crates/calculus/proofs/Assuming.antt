-- The assumptions of a trail that grows or is cut.
use Rattle.std.proofs.Common.{◌≡◌, ◌≢◌, ℕ, suc, ◌≤◌, true, List, [], ◌∷◌, ◌++◌, map, Some, None, is_some, sym, refl, ap, ◌∙◌, ⊎_elim, arith, nat_eq, nat_le, false, ◌⊎◌, subst, Contains}
use Rattle.std.proofs.lemmas.Bool.{cases_Bool, cond-true, cond-false, le-leb, false≢true, eqb-true}
use Rattle.std.proofs.lemmas.List.Elements.{Contains-append_cases, Contains-append_right}
use Rattle.prefix.specs.Literal.{Literal}
use Rattle.prefix.specs.Scopes.{AreDistinct, Scope}
use Rattle.truth.specs.Truth.{assumed_value}
use Rattle.calculus.specs.Search.{Placed, Trail, value_on, cause_on, literals_on, cut_trail, level_after, level_from_start, decision_level_on, is_decision, IsOrderedTrail, IsOrderedAfter, AreTheAssumptions, assumed}
use Rattle.calculus.specs.Rows.{variables_in}
use Rattle.calculus.specs.Verdicts.{AreOuter}
use Rattle.calculus.proofs.Levels.{level_in_prefix}
use Rattle.calculus.specs.Search.Cause.{Assumed}
use Rattle.calculus.proofs.Lists.{among_from, contains_cons, contains_head, contains_nil, contains_tail, contains_map_of}
use Rattle.calculus.proofs.Trails.{value_here, value_past, cause_here, cause_past, level_here, level_past, assumed_after}
use Rattle.calculus.proofs.TrailMoves.{value_front}
use Rattle.calculus.proofs.TrailLaws.{cut_value_from}
use Rattle.calculus.proofs.Cutting.{cut_front}
use Rattle.calculus.proofs.Fronts.{has_cause, cause_front, cause_end}

same_literals : (literals : List Literal) → literals_on (map assumed literals) ≡ literals
same_literals [] = refl
same_literals (l ∷ ls) = ap (λ xs. l ∷ xs) (same_literals ls)

given_cause : (literals : List Literal) (x : ℕ) → is_some (value_on (map assumed literals) x) ≡ true
    → cause_on (map assumed literals) x ≡ Some Assumed
given_cause [] x a = absurd (false≢true a)
given_cause (l ∷ ls) x a =
    ⊎_elim (λ t. cause_here (assumed l) (map assumed ls) x t)
    (λ f. cause_past (assumed l) (map assumed ls) x f ∙ given_cause ls x
    (ap is_some (sym (value_past (assumed l) (map assumed ls) x f)) ∙ a))
    (cases_Bool (nat_eq l.variable x))

pub given : (literals : List Literal) → AreTheAssumptions (map assumed literals) literals
given literals =
    let same : (x : ℕ) → value_on (map assumed literals) x ≡ assumed_value literals x =
    λ x. ap (λ ls. assumed_value ls x) (same_literals literals) in
    record {
      entries = λ x e. ap is_some (sym (same x)) ∙ (sym (has_cause (map assumed literals) x) ∙ ap is_some e);
      stand = λ x b e. let v = same x ∙ e in (v, given_cause literals x (ap is_some v));
    }

pub push : (trail : Trail) (assumptions : List Literal) (p : Placed) → p.cause ≢ Assumed
    → AreTheAssumptions trail assumptions → AreTheAssumptions (trail ++ p ∷ []) assumptions
push trail assumptions p other has = record {
  entries = λ x e. ⊎_elim (λ t. has.entries x (sym (cause_front trail (p ∷ []) x t) ∙ e))
      (λ f. absurd (other (cause_end trail p x Assumed f e))) (cases_Bool (is_some (value_on trail x)));
  stand = λ x b e. let r = has.stand x b e in let a = ap is_some r.0 in
      (value_front trail (p ∷ []) x a ∙ r.0, cause_front trail (p ∷ []) x a ∙ r.1);
}

-- what is assumed is at level 0
pub assumed_level : (scopes : List Scope) (earlier trail : Trail) (before : ℕ) → IsOrderedAfter scopes earlier trail
    → (x : ℕ) → cause_on trail x ≡ Some Assumed → level_from_start before trail x ≡ before
assumed_level scopes earlier [] before ordered x e = absurd (let h : None ≡ Some Assumed = e in cc)
assumed_level scopes earlier (p ∷ rest) before ordered x e =
    let flat : p.cause ≡ Assumed → level_after before p ≡ before = λ c. cond-false (is_decision p.cause) (suc before)
    before (ap is_decision c) in
    ⊎_elim
    (λ t. let c : Some p.cause ≡ Some Assumed = sym (cause_here p rest x t) ∙ e in level_here p rest x before t
    ∙ flat (cc))
    (λ f.
    let later = sym (cause_past p rest x f) ∙ e in
    let c : p.cause ≡ Assumed = (assumed_after scopes (earlier ++ p ∷ []) rest ordered.3 x later).1 p
    (Contains-append_right earlier (p ∷ []) p (contains_head p [])) in
    level_past p rest x before f
    ∙ (assumed_level scopes (earlier ++ p ∷ []) rest (level_after before p) ordered.3 x later ∙ flat c))
    (cases_Bool (nat_eq p.literal.variable x))

pub cut : (scopes : List Scope) (trail : Trail) (assumptions : List Literal) (b : ℕ) → IsOrderedTrail scopes trail
    → AreTheAssumptions trail assumptions → AreTheAssumptions (cut_trail b trail) assumptions
cut scopes trail assumptions b ordered has =
    let parts = cut_front 0 b trail in
    let whole : (x : ℕ) → is_some (value_on (cut_trail b trail) x) ≡ true → cause_on trail x ≡ cause_on
    (cut_trail b trail) x = λ x a. ap (λ t. cause_on t x) parts.1 ∙ cause_front (cut_trail b trail) parts.0 x a in
    record {
      entries = λ x e. has.entries x (whole x (sym (has_cause (cut_trail b trail) x) ∙ ap is_some e) ∙ e);
      stand = λ x v e.
          let r = has.stand x v e in
          let level : decision_level_on trail x ≡ 0 = assumed_level scopes [] trail 0 ordered x r.1 in
          let low : decision_level_on trail x ≤ b = omega arith in
          let value : value_on (cut_trail b trail) x ≡ Some v = cut_value_from 0 b trail x
          ∙ (cond-true (nat_le (decision_level_on trail x) b) (value_on trail x) None
          (le-leb (decision_level_on trail x) b low) ∙ r.0) in
          (value, sym (whole x (ap is_some value)) ∙ r.1);
    }

-- assumptions of the first scope stand in order
value_none_more : (front : Trail) (p : Placed) (x : ℕ) → value_on front x ≡ None → nat_eq p.literal.variable x ≡ false
    → value_on (front ++ p ∷ []) x ≡ None
value_none_more [] p x n f = value_past p [] x f
value_none_more (q ∷ front) p x n f =
    ⊎_elim
    (λ t. absurd (let g : Some q.literal.positive ≡ None = sym (value_here q front x t) ∙ n in cc))
    (λ g. value_past q (front ++ p ∷ []) x g ∙ value_none_more front p x (sym (value_past q front x g) ∙ n) f)
    (cases_Bool (nat_eq q.literal.variable x))

pub ordered_from : (scopes : List Scope) (front : Trail) (literals : List Literal) → AreOuter scopes literals
    → AreDistinct (variables_in literals) → ((l : Literal) → Contains literals l → value_on front l.variable ≡ None)
    → ((p : Placed) → Contains front p → p.cause ≡ Assumed) → IsOrderedAfter scopes front (map assumed literals)
ordered_from scopes front [] outer distinct fresh all = tt
ordered_from scopes front (l ∷ ls) outer distinct fresh all =
    let first = contains_head l ls in (
      level_in_prefix scopes l.variable 1 (outer l first),
      fresh l first,
      (outer l first, all),
      ordered_from scopes (front ++ assumed l ∷ []) ls (λ m i. outer m (contains_tail l ls m i)) distinct.1
          (λ m i. value_none_more front (assumed l) m.variable (fresh m (contains_tail l ls m i))
          (apart m i (cases_Bool (nat_eq l.variable m.variable))))
          (λ p i. ⊎_elim (all p)
          (λ j. ⊎_elim (λ e. ap (λ (q : Placed). q.cause) (sym e)) (λ k. absurd (contains_nil p k))
          (contains_cons (assumed l) [] p j)) (Contains-append_cases front (assumed l ∷ []) p i)),
    )
  where
    apart : (m : Literal) → Contains ls m → (nat_eq l.variable m.variable ≡ true)
        ⊎ (nat_eq l.variable m.variable ≡ false) → nat_eq l.variable m.variable ≡ false
    apart m i c =
        ⊎_elim (λ t. absurd
        (false≢true
        (sym distinct.0 ∙ among_from (variables_in ls) l.variable
        (subst (Contains (variables_in ls)) (sym (eqb-true l.variable m.variable t))
        (contains_map_of (λ (k : Literal). k.variable) ls m i))))) (λ f. f) c
