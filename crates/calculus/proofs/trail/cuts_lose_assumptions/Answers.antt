use Rattle.std.proofs.Common.{◌≡◌, ℕ, ◌≤◌, true, List, [], ◌∷◌, Some, None, refl, sym, ◌∙◌, ⊎_elim, arith, nat_eq}
use Rattle.std.proofs.lemmas.Bool.{cases_Bool}
use Rattle.prefix.specs.Scopes.{Scope}
use Rattle.calculus.specs.Rows.{depth_of}
use Rattle.calculus.specs.Worked.{plus, existential}
use Rattle.calculus.specs.Search.{Placed, cause_on, HasAssumptions, IsOrderedTrail}
use Rattle.calculus.specs.Search.Cause.{Assumed, Decided}
use Rattle.calculus.proofs.Lists.{contains_head}
use Rattle.calculus.proofs.Levels.{depth_at_least}
use Rattle.calculus.proofs.Trails.{cause_here, cause_past}
use Rattle.calculus.proofs.trail.cuts_lose_assumptions.Goals as goal

abbrev one : Placed
one = record { literal = plus 1; cause = Decided }

abbrev scopes : List Scope
scopes = existential (1 ∷ []) ∷ []

not_assumed : (x : ℕ) → cause_on (one ∷ []) x ≡ Some Assumed → ⊥
not_assumed x e = ⊎_elim
    (λ t. let h : Some Decided ≡ Some Assumed = sym (cause_here one [] x t) ∙ e in cc)
    (λ f. let h : None ≡ Some Assumed = sym (cause_past one [] x f) ∙ e in cc)
    (cases_Bool (nat_eq 1 x))

ordered : IsOrderedTrail scopes (one ∷ [])
ordered = (
  contains_head 1 [],
  refl,
  (λ y i below. absurd (let least : 1 ≤ depth_of scopes y = depth_at_least scopes y in let here :
      depth_of scopes 1 ≡ 1 = refl in omega arith)),
  tt,
)

has : HasAssumptions (one ∷ []) (plus 1 ∷ [])
has = record { entries = λ x e. absurd (not_assumed x e); values = λ x b e. e }

pub returns : goal.returns
returns c law = let h : None ≡ Some true = (law scopes (one ∷ []) (plus 1 ∷ []) 0 ordered has).values 1 true refl in cc
