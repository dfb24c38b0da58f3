-- Rows that are passed while a list is walked.
use Rattle.std.proofs.Common.{◌≡◌, ◌≢◌, ℕ, ◌<◌, false, List, length, Contains, Option, Some, refl, sym, ap, subst, ◌∙◌, inl, inr, ⊎_elim}
use Rattle.std.proofs.lemmas.Bool.{cases_Bool, cases_eq, true≢false}
use Rattle.prefix.specs.declared.quant.Quant.{Quant}
use Rattle.prefix.specs.Literal.{Literal}
use Rattle.prefix.specs.Scopes.{Scope}
use Rattle.truth.specs.Matrix.{Values}
use Rattle.truth.specs.Truth.{assumed_value}
use Rattle.calculus.specs.Rows.{Row}
use Rattle.calculus.specs.Search.{is_bad_now}
use Rattle.rows.specs.Arena.{Arena, literals_at}
use Rattle.watch.specs.declared.board.Family.{Family}
use Rattle.watch.specs.declared.board.Family.TheVariants.{First, Second}
use Rattle.watch.specs.Families.{base_of, lists_of, other_of}
use Rattle.watch.specs.Links.{LeadsOnElsewhere, Moves, owner}
use Rattle.watch.specs.Pairs.{HasGood, IsTyped, watch_name}
use Rattle.watch.specs.State.{AreKept, GoOn, IsBoard, KeepsRows, NoneCame, Passes, Progress, waits}
use Rattle.watch.specs.Walks.{IsBadWatch, IsGoodWatch}
use Rattle.watch.proofs.Boards.{moved_here, moved_other, moves_from, waits_past}
use Rattle.watch.proofs.Keeping.{same_watch}
use Rattle.watch.proofs.Looking.{visit_typed}
use Rattle.watch.proofs.Moving.{owner_attached}
use Rattle.watch.proofs.Threads.{same_some, some_none}

-- a literal that isn't bad is watched in another list than that of a bad one
pub free_apart : (pivot : Quant) (values : Values) (name : ℕ) (l : Literal) → IsBadWatch pivot values name
    → is_bad_now pivot values l ≡ false → (one : ℕ) → one ≡ watch_name l → one ≢ name
free_apart pivot values name l bad free one is same =
    let e : l ≡ bad.literal = same_watch l bad.literal (sym is ∙ (same ∙ bad.named)) in
    true≢false (sym bad.bad ∙ (ap (is_bad_now pivot values) (sym e) ∙ free))

-- a row that left
pub passed_away : (pivot : Quant) (values : Values) (base name : ℕ) (old new : Arena) (id one : ℕ)
    → Moves pivot base old new id (Some one) → LeadsOnElsewhere base old new id → one ≢ name
    → Passes pivot values base name old new id
passed_away pivot values base name old new id one moves elsewhere apart = record {
  others = λ i differs. moved_other pivot base old new id (Some one) moves i differs;
  elsewhere = elsewhere;
  here = λ o. absurd (apart (same_some one name (sym (moved_here pivot base old new id (Some one) moves) ∙ o)));
}

-- a row that stays
pub passed_by : (pivot : Quant) (values : Values) (base name : ℕ) (arena : Arena) (id : ℕ)
    → HasGood pivot values (literals_at arena id) → Passes pivot values base name arena arena id
passed_by pivot values base name arena id good = record {
  others = λ i differs. refl;
  elsewhere = λ i differs apart. refl;
  here = λ o. good;
}

-- no row came to those that wait
pub none_came : (pivot : Quant) (old new : Arena) (id one : ℕ) → Moves pivot 0 old new id (Some one) → 1 < one
    → NoneCame pivot old new
none_came pivot old new id one moves past none i =
    ⊎_elim
    (λ same. ap waits (ap (owner pivot new 0) same ∙ moved_here pivot 0 old new id (Some one) moves)
    ∙ waits_past one past)
    (λ differs. ap waits (moved_other pivot 0 old new id (Some one) moves i differs) ∙ none i)
    (cases_eq i id)

pub none_came_of : (pivot : Quant) (family : Family) (old new : Arena) (id one : ℕ)
    → Moves pivot (base_of family) old new id (Some one) → 1 < one
    → ((i : ℕ) → owner pivot new (base_of (other_of family)) i ≡ owner pivot old (base_of (other_of family)) i)
    → NoneCame pivot old new
none_came_of pivot First old new id one moves past aside = none_came pivot old new id one moves past
none_came_of pivot Second old new id one moves past aside = λ none i. ap waits (aside i) ∙ none i

-- a row in lists of both families doesn't wait
pub settled_of : (pivot : Quant) (first second : List (Option ℕ)) (arena : Arena) (family : Family) (id m n : ℕ)
    → IsBoard pivot first second arena → owner pivot arena (base_of family) id ≡ Some m
    → owner pivot arena (base_of (other_of family)) id ≡ Some n → waits (owner pivot arena 0 id) ≡ false
settled_of pivot first second arena First id m n board one two =
    ⊎_elim (λ w. absurd (some_none n (sym two ∙ board.alone id w))) (λ f. f) (cases_Bool (waits (owner pivot arena 0
    id)))
settled_of pivot first second arena Second id m n board one two =
    ⊎_elim (λ w. absurd (some_none m (sym one ∙ board.alone id w))) (λ f. f) (cases_Bool (waits (owner pivot arena 0
    id)))

-- such a row has the literal that it watches
pub aside_stands : (pivot : Quant) (scopes : List Scope) (p : Progress) (first second : List (Option ℕ)) (arena : Arena)
    (family : Family) (id name : ℕ) (l : Literal) → AreKept pivot scopes p first second arena
    → owner pivot arena (base_of family) id ≡ Some name
    → owner pivot arena (base_of (other_of family)) id ≡ Some (watch_name l)
    → Contains (literals_at arena id) l
aside_stands pivot scopes p first second arena First id name l kept one two =
    let t = owner_attached pivot arena 0 id name one in
    ⊎_elim (λ w. absurd (some_none (watch_name l) (sym two ∙ w.second)))
    (λ r. ⊎_elim (λ h. absurd (some_none (watch_name l) (sym two ∙ h.second)))
    (λ s.
    let e : s.b ≡ l = same_watch s.b l (same_some (watch_name s.b) (watch_name l) (sym s.second ∙ two)) in
    subst (λ (x : Literal). Contains (literals_at arena id) x) e s.b_stands)
    r)
    (kept.placed id t)
aside_stands pivot scopes p first second arena Second id name l kept one two =
    let t = owner_attached pivot arena 3 id name one in
    ⊎_elim (λ w. absurd (some_none name (sym one ∙ w.second)))
    (λ r. ⊎_elim (λ h. absurd (some_none name (sym one ∙ h.second)))
    (λ s.
    let e : s.a ≡ l = same_watch s.a l (same_some (watch_name s.a) (watch_name l) (sym s.first ∙ two)) in
    subst (λ (x : Literal). Contains (literals_at arena id) x) e s.a_stands)
    r)
    (kept.placed id t)

-- where that one is good the row has a good literal
pub aside_good : (pivot : Quant) (scopes : List Scope) (p : Progress) (first second : List (Option ℕ)) (arena : Arena)
    (family : Family) (id name : ℕ) (values : Values) (aside : Option ℕ) → AreKept pivot scopes p first second arena
    → owner pivot arena (base_of family) id ≡ Some name
    → owner pivot arena (base_of (other_of family)) id ≡ aside
    → IsGoodWatch pivot values aside → HasGood pivot values (literals_at arena id)
aside_good pivot scopes p first second arena family id name values aside kept one two good = record {
  literal = good.literal;
  stands = aside_stands pivot scopes p first second arena family id name good.literal kept one (two ∙ good.named);
  good = good.good;
}

-- lists of a family have the names that those of the first have
pub within_of : (family : Family) (first second : List (Option ℕ)) (name : ℕ) → length second ≡ length first
    → name < length first → name < length (lists_of family first second)
within_of First first second name same low = low
within_of Second first second name same low = rw same low

-- a row that watches another literal in place of one of a family
pub goes_of : (pivot : Quant) (scopes : List Scope) (seen : List Literal) (first second first' second' : List (Option
    ℕ))
    (old new : Arena) (id : ℕ) (family : Family) (free b : Literal) (row : Row) (one : ℕ)
    → IsBoard pivot first' second' new
    → length first' ≡ length first → Moves pivot (base_of family) old new id (Some one) → one ≡ watch_name b
    → ((i : ℕ) → owner pivot new (base_of (other_of family)) i ≡ owner pivot old (base_of (other_of family)) i)
    → owner pivot old (base_of (other_of family)) id ≡ Some (watch_name free)
    → KeepsRows pivot old new → row ≡ literals_at old id → Contains row free → Contains row b
    → IsTyped pivot scopes free b → is_bad_now pivot (assumed_value seen) free ≡ false
    → is_bad_now pivot (assumed_value seen) b ≡ false
    → GoOn pivot scopes seen first second old first' second' new
goes_of pivot scopes seen first second first' second' old new id First free b row one board same moves is aside stands
    kept row_is j k typed f g =
    visit_typed pivot scopes seen first second first' second' old new id b free row board same (rw is at moves)
    (moves_from pivot 3 old new id (Some (watch_name free)) (aside id ∙ stands) (λ i differs. aside i))
    kept row_is k j (inr typed) g f
goes_of pivot scopes seen first second first' second' old new id Second free b row one board same moves is aside stands
    kept row_is j k typed f g =
    visit_typed pivot scopes seen first second first' second' old new id free b row board same
    (moves_from pivot 0 old new id (Some (watch_name free)) (aside id ∙ stands) (λ i differs. aside i))
    (rw is at moves) kept row_is j k (inl typed) f g

-- a row that watches two others
pub passed_both : (pivot : Quant) (values : Values) (family : Family) (name : ℕ) (old new : Arena) (id one two : ℕ)
    → Moves pivot 0 old new id (Some one) → Moves pivot 3 old new id (Some two)
    → LeadsOnElsewhere 0 old new id → LeadsOnElsewhere 3 old new id → one ≢ name → two ≢ name
    → Passes pivot values (base_of family) name old new id
passed_both pivot values First name old new id one two ones twos other_ones other_twos apart apart' =
    passed_away pivot values 0 name old new id one ones other_ones apart
passed_both pivot values Second name old new id one two ones twos other_ones other_twos apart apart' =
    passed_away pivot values 3 name old new id two twos other_twos apart'
