-- A search that starts with assumptions.
use Rattle.std.proofs.Common.{◌≡◌, ℕ, ◌<◌, ◌≤◌, false, List, [], ◌∷◌, map, length, get_or, ◌||◌, Contains, Some, None, nat_eq, refl, sym, ap, subst, ◌∙◌, ⊎_elim, arith}
use Rattle.std.specs.List.{AllByRecursion}
use Rattle.std.proofs.lemmas.Bool.{cases_Bool}
use Rattle.std.proofs.lemmas.Bool.Decides.{nat_tests}
use Rattle.std.proofs.lemmas.List.Elements.{Contains-get_or}
use Rattle.prefix.specs.declared.quant.Quant.{Quant}
use Rattle.prefix.specs.Literal.{Literal}
use Rattle.prefix.specs.Scopes.{Scope, AreDistinct, IsAscending, all_variables, is_among}
use Rattle.calculus.specs.Search.{Cause, Trail, assumed, cause_on, literals_on}
use Rattle.calculus.specs.Search.Cause.{Assumed, Propagated}
use Rattle.calculus.specs.Verdicts.{AreOuter}
use Rattle.calculus.proofs.Levels.{level_in_prefix}
use Rattle.calculus.proofs.Trails.{cause_here, cause_past}
use Rattle.trail.specs.State.{TrailState, IsTrailFor}
use Rattle.derive.specs.State.{State}
use Rattle.watch.specs.State.{IsFront, looked}
use Rattle.watch.specs.Laws.{LookingLaws}
use Rattle.clean.specs.Reasons.{HaveReasons}
use Rattle.search.specs.State.{IsPaused, IsSearching, SearchState, watch_of}
use Rattle.search.proofs.Turning.{TrailChanges, paused_trail}

-- ascending numbers are distinct
differs : (y x : ℕ) → x < y → nat_eq y x ≡ false
differs y x h = grind (arith, nat_tests)

apart : (x : ℕ) (xs : List ℕ) → AllByRecursion (λ y. x < y) xs → is_among x xs ≡ false
apart x [] above = refl
apart x (y ∷ ys) above = ap (λ b. b || is_among x ys) (differs y x above.0) ∙ apart x ys above.1

pub distinct : (xs : List ℕ) → IsAscending xs → AreDistinct xs
distinct [] h = h
distinct (x ∷ xs) h = (apart x xs h.0, distinct xs h.1)

-- there is room for the assumptions
pub assumed_room : (scopes : List Scope) (room : ℕ) (lits : List Literal) → AreOuter scopes lits
    → ((x : ℕ) → Contains (all_variables scopes) x → x ≤ room) → (k : ℕ) (d : Literal) → k < length lits
    → (get_or lits k d).variable ≤ room
assumed_room scopes room lits outer fits k d h = let l = get_or lits k d in
    fits l.variable (level_in_prefix scopes l.variable 1 (outer l (Contains-get_or lits k d h)))

-- assumptions have no reasons
assumed_cause : (lits : List Literal) (x : ℕ) (c : Cause) → cause_on (map assumed lits) x ≡ Some c → c ≡ Assumed
assumed_cause [] x c e = absurd (let g : None ≡ Some c = e in cc)
assumed_cause (l ∷ ls) x c e =
    ⊎_elim
    (λ t. (let g : Some Assumed ≡ Some c = sym (cause_here (assumed l) (map assumed ls) x t) ∙ e in cc))
    (λ f. assumed_cause ls x c (sym (cause_past (assumed l) (map assumed ls) x f) ∙ e))
    (cases_Bool (nat_eq l.variable x))

assumed_reasons : (side : Quant) (scopes : List Scope) (d : State) (t : TrailState) (lits : List Literal)
    → t.placed ≡ map assumed lits → HaveReasons side scopes d t
assumed_reasons side scopes d t lits is l id pivot bad e =
    absurd (let g : Propagated id ≡ Assumed =
    assumed_cause lits l.variable (Propagated id)
    (subst (λ (p : Trail). cause_on p l.variable ≡ Some (Propagated id)) is e) in cc)

-- a watch that looked at nothing looked at a front of every trail
front_none : (s : SearchState) (t : TrailState) (side : Quant) → LookingLaws → s.trail.placed ≡ []
    → IsFront (looked (watch_of side s)) (literals_on s.trail.placed)
    → IsFront (looked (watch_of side s)) (literals_on t.placed)
front_none s t side laws empty h =
    laws.grows (watch_of side s) [] (literals_on t.placed)
    (subst (λ (p : Trail). IsFront (looked (watch_of side s)) (literals_on p)) empty h)

module _ (scopes : List Scope) (s new : SearchState) (laws : LookingLaws) (changes : TrailChanges s new)
    (paused : IsPaused scopes s) (empty : s.trail.placed ≡ []) (trail : IsTrailFor scopes new.trail) where
  pub starts_paused : IsPaused scopes new
  starts_paused = paused_trail scopes s new changes paused trail
      (λ side. front_none s new.trail side laws empty (paused.intact.watching.front side))

  pub starts : (lits : List Literal) → new.trail.placed ≡ map assumed lits → IsSearching scopes new
  starts lits is = record {
    paused = starts_paused;
    reasons =
        λ side. assumed_reasons side scopes new.derivation new.trail lits is;
  }

-- a search with an empty trail
pub searching_empty : (scopes : List Scope) (s : SearchState) → IsPaused scopes s → s.trail.placed ≡ []
    → IsSearching scopes s
searching_empty scopes s paused empty = record {
  paused = paused;
  reasons = λ side. assumed_reasons side scopes s.derivation s.trail [] empty;
}
