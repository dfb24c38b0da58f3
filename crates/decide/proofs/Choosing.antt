-- Variables that may be decided.
use Rattle.std.proofs.Common.{◌≡◌, ℕ, zero, suc, ◌+◌, ◌-◌, ◌<◌, ◌≤◌, Bool, true, false, ◌⊎◌, List, [], ◌∷◌, length, Contains, Option, Some, None, is_some, unwrap_or, refl, sym, ap, ◌∙◌, inl, inr, ⊎_elim, arith, nat_eq}
use Rattle.std.proofs.lemmas.Bool.{cases_Bool, cases_lt, eqb-true, true≢false, false≢true}
use Rattle.std.specs.Option.{option_eq}
use Rattle.std.specs.Prelude.{IfSome, IsTrue}
use Rattle.prefix.specs.Scopes.{Scope, variables_at, is_among, level_of}
use Rattle.calculus.specs.Rows.{depth_of}
use Rattle.calculus.specs.Search.{Trail, value_on}
use Rattle.calculus.proofs.Levels.{depth_counted, level_from, level_in_prefix}
use Rattle.calculus.proofs.Lists.{among_from, contains_cons, contains_head, contains_nil, contains_tail}
use Rattle.std.proofs.lemmas.Bool.{cond-true, cond-false}
use Rattle.trail.specs.Open.{IsFirstOpen}
use Rattle.trail.proofs.Counting.{variables_before, variables_in, variables_within}
use Rattle.decide.specs.Decision.{IsDecision, IsOpenIn}

-- a variable of a scope is of no later one
counted_most : (start : ℕ) (scopes : List Scope) (i x : ℕ) → Contains (variables_in scopes i) x
    → level_from start scopes x ≤ start + i
counted_most start [] i x h = absurd (contains_nil x h)
counted_most start (s ∷ scopes) zero x h =
    let here : level_from start (s ∷ scopes) x ≡ start = cond-true (is_among x s.variables) start
    (level_from (suc start) scopes x) (among_from s.variables x h) in
    omega arith
counted_most start (s ∷ scopes) (suc i) x h =
    let later : level_from (suc start) scopes x ≤ suc start + i = counted_most (suc start) scopes i x h in
    ⊎_elim
    (λ t. let here : level_from start (s ∷ scopes) x ≡ start = cond-true (is_among x s.variables) start
    (level_from (suc start) scopes x) t in omega arith)
    (λ f. let there : level_from start (s ∷ scopes) x ≡ level_from (suc start) scopes x =
    cond-false (is_among x s.variables) start (level_from (suc start) scopes x) f in omega arith)
    (cases_Bool (is_among x s.variables))

-- an unassigned variable of the first scope that has one
pub open_in : (scopes : List Scope) (trail : Trail) (scope x : ℕ) → IsFirstOpen scopes trail scope
    → Contains (variables_at scopes scope) x → value_on trail x ≡ None → IsOpenIn scopes trail scope x
open_in scopes trail scope x first stands none =
    let low = first.first in
    let is : variables_at scopes scope ≡ variables_in scopes (scope - 1) = variables_before scopes scope (scope - 1)
    (omega arith) in
    let there : Contains (variables_in scopes (scope - 1)) x = rw (← is) stands in
    let known = variables_within scopes (scope - 1) x there in
    let counted = depth_counted scopes x in
    let most = counted_most 1 scopes (scope - 1) x there in
    record {
      known = known;
      unassigned = none;
      depth = ⊎_elim
          (λ (earlier : depth_of scopes x < scope). absurd
          (true≢false (sym (first.earlier x known earlier) ∙ ap is_some none)))
          (λ (least : scope ≤ depth_of scopes x). omega arith)
          (cases_lt (depth_of scopes x) scope);
    }

pub level_open : (scopes : List Scope) (trail : Trail) (scope x : ℕ) → level_of scopes x ≡ Some scope
    → value_on trail x ≡ None → IsOpenIn scopes trail scope x
level_open scopes trail scope x at none = record {
  known = level_in_prefix scopes x scope at;
  unassigned = none;
  depth = ap (λ o. unwrap_or o (length scopes + 1)) at;
}

-- it may be decided
pub decision : (scopes : List Scope) (trail : Trail) (scope x : ℕ) → IsFirstOpen scopes trail scope
    → IsOpenIn scopes trail scope x → IsDecision scopes trail x
decision scopes trail scope x first here = record {
  known = here.known;
  unassigned = here.unassigned;
  order = λ y i below. first.earlier y i (let depth = here.depth in omega arith);
}

-- one of the variables of the scope, if one is unassigned that isn't left to look at
pub record HasOne (scopes : List Scope) (trail : Trail) (scope : ℕ) (xs left : List ℕ) (one : Option ℕ) : Type 0 where
  pub within : (x : ℕ) → Contains left x → Contains xs x
  pub found : IfSome one (IsOpenIn scopes trail scope)
  pub missed : one ≡ None → (x : ℕ) → Contains xs x → Contains left x ⊎ IsTrue (is_some (value_on trail x))

-- all are left
pub one_none : (scopes : List Scope) (trail : Trail) (scope : ℕ) (xs : List ℕ) → HasOne scopes trail scope xs xs None
one_none scopes trail scope xs = record { within = λ x i. i; found = tt; missed = λ e x i. inl i }

-- one more is looked at
module _ (scopes : List Scope) (trail : Trail) (scope : ℕ) (xs left later : List ℕ) (one : Option ℕ) (v : ℕ)
    (before : HasOne scopes trail scope xs left one) (is : left ≡ v ∷ later) where
  pub one_stands : Contains xs v
  one_stands = before.within v (rw is (contains_head v later))

  further : (x : ℕ) → Contains later x → Contains xs x
  further x i = before.within x (rw is (contains_tail v later x i))

  pub one_assigned : is_some (value_on trail v) ≡ true → HasOne scopes trail scope xs later one
  one_assigned known = record {
    within = further;
    found = before.found;
    missed = λ e x i. ⊎_elim (λ j. one_of x (contains_cons v later x (rw is at j))) inr (before.missed e x i);
  }
    where
      one_of : (x : ℕ) → (v ≡ x) ⊎ Contains later x → Contains later x ⊎ IsTrue (is_some (value_on trail x))
      one_of x (inl e) = inr (rw (← e) known)
      one_of x (inr j) = inl j

  pub one_found : IsOpenIn scopes trail scope v → HasOne scopes trail scope xs later (Some v)
  one_found here = record { within = further; found = here; missed = λ e x j. absurd (cc) }

-- there is one at the end
pub one_at_end : (scopes : List Scope) (trail : Trail) (scope : ℕ) (xs left : List ℕ) (one : Option ℕ)
    → HasOne scopes trail scope xs left one → left ≡ [] → xs ≡ variables_at scopes scope
    → IsFirstOpen scopes trail scope → IsTrue (is_some one)
one_at_end scopes trail scope xs left None has past is first =
    ⊎_elim (λ j. absurd (contains_nil first.variable (rw past at j)))
    (λ known. absurd (true≢false (sym known ∙ ap is_some first.unassigned)))
    (has.missed refl first.variable (rw is first.stands))
one_at_end scopes trail scope xs left (Some v) has past is first = refl

-- tests that code makes
pub none_from : (o : Option Bool) → is_some o ≡ false → o ≡ None
none_from None e = refl
none_from (Some b) e = absurd (true≢false e)

pub level_is : (o : Option ℕ) (n : ℕ) → option_eq nat_eq o (Some n) ≡ true → o ≡ Some n
level_is None n e = absurd (false≢true e)
level_is (Some m) n e = ap Some (eqb-true m n e)
