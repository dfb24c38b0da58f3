-- The worked values of what is forgotten.
use Rattle.std.proofs.Common.{◌≡◌, ℕ, zero, suc, ◌+◌, ◌<◌, ◌≤◌, List, true, false, cond, nat_eq, length, [], ◌∷◌, Contains, Some, None, IsTrue, refl, sym, ap, subst, ◌∙◌, ⊎_elim, arith}
use Rattle.std.proofs.lemmas.Bool.{cases_Bool, false≢true}
use Rattle.prefix.specs.declared.quant.Quant.{Quant}
use Rattle.prefix.specs.declared.quant.Quant.TheVariants.{Exists, Forall}
use Rattle.prefix.specs.Sides.{opposite}
use Rattle.calculus.proofs.Lists.{contains_cons, contains_head, contains_nil}
use Rattle.calculus.specs.Search.{Trail, cause_on}
use Rattle.calculus.specs.Search.Cause.{Propagated}
use Rattle.calculus.specs.WorkedSearch.{three}
use Rattle.trail.specs.State.{TrailState}
use Rattle.derive.specs.State.{is_live}
use Rattle.watch.specs.Links.{is_attached}
use Rattle.search.specs.Forgetting.{ComesBefore, Lets, LetsOldest, left_long, long_reasons, may_go}
use Rattle.search.specs.Long.{is_kept_long, is_long, long_in}
use Rattle.search.specs.State.{SearchState, rows_of, with_long}
use Rattle.search.specs.Worked.{attached_to, detached, trail_of}
use Rattle.search.proofs.Clearing.{clears_none, forgets_none}
use Rattle.search.proofs.Thinning.{thins_none}
use Rattle.search.specs.WorkedForgetting.{WorkedForgetting, four, long_row, one_row, propagated_by, resolvent, search_with, two_rows, with_reduction}

counted : (side : Quant) → is_kept_long (one_row side resolvent four (attached_to side)) 0 ≡ true
counted Exists = refl
counted Forall = refl

one_counted : (side : Quant) → long_in (one_row side resolvent four (attached_to side)) ≡ 1
one_counted Exists = refl
one_counted Forall = refl

none_counted : (side : Quant) → long_in (one_row side resolvent four (attached_to (opposite side))) ≡ 0
none_counted Exists = refl
none_counted Forall = refl

short_uncounted : (side : Quant) → long_in (one_row side resolvent three (attached_to side)) ≡ 0
short_uncounted Exists = refl
short_uncounted Forall = refl

reduced_long : (side : Quant) → is_long (with_reduction side resolvent) 1 ≡ true
reduced_long Exists = refl
reduced_long Forall = refl

ours : (side : Quant) (t : Trail) → is_attached side (rows_of (long_row side t)) 0 ≡ true
ours Exists t = refl
ours Forall t = refl

none_attached : (side p : Quant) (t : Trail) (id : ℕ)
    → is_attached p (rows_of (search_with side four detached t)) id ≡ false
none_attached side p t zero = refl
none_attached side p t (suc id) = refl

no_other : (side p : Quant) (t : Trail) (id : ℕ) → is_attached p (rows_of (long_row side t)) (suc id) ≡ false
no_other side p t id = refl

stays_not : (side p : Quant) (id : ℕ) → is_attached p (rows_of (long_row side [])) id ≡ true
    → may_go (long_row side []) id ≡ false
    → is_attached p (rows_of (search_with side four detached [])) id ≡ true
stays_not side p zero at may = absurd (false≢true (sym may))
stays_not side p (suc id) at may = absurd (false≢true (sym (no_other side p [] id) ∙ at))

zero_one : ◌≡◌ {A = ℕ} 0 1 → ⊥
zero_one e = absurd (omega arith)

too_many : 516 ≤ 515 → ⊥
too_many l = absurd (omega arith)

one_too_many : 21 ≤ 20 → ⊥
one_too_many l = absurd (omega arith)

only_reason : (side : Quant) (x id : ℕ) → cause_on (propagated_by side 0) x ≡ Some (Propagated id)
    → Contains (0 ∷ []) id
only_reason side x id e =
    ⊎_elim
    (λ t. let g : Some (Propagated 0) ≡ Some (Propagated id) =
    sym (ap (λ b. cond b (Some (Propagated 0)) None) t) ∙ e in
    let h : 0 ≡ id = cc in subst (λ i. Contains (0 ∷ []) i) h (contains_head 0 []))
    (λ f. absurd (let g : None ≡ Some (Propagated id) =
    sym (ap (λ b. cond b (Some (Propagated 0)) None) f) ∙ e in cc))
    (cases_Bool (nat_eq 2 x))

only_live : (side : Quant) (id : ℕ) → Contains (0 ∷ []) id
    → IsTrue (is_live (one_row side resolvent four detached) id)
only_live side id at =
    ⊎_elim (λ e. subst (λ i. IsTrue (is_live (one_row side resolvent four detached) i)) e refl)
    (λ none. absurd (contains_nil id none)) (contains_cons 0 [] id at)

one_zero : ◌≡◌ {A = ℕ} 1 0 → ⊥
one_zero e = absurd (omega arith)

-- another trail is another one
other_trail : (side : Quant) → trail_of (propagated_by side 7) ≡ trail_of [] → ⊥
other_trail side e = one_zero (ap (λ (t : TrailState). length t.placed) e)

-- of one literal
one_reason : (side : Quant) → long_reasons (long_row side (propagated_by side 0)) ≡ 1
one_reason Exists = refl
one_reason Forall = refl

no_reason : (side : Quant) → long_reasons (search_with side four detached (propagated_by side 0)) ≡ 0
no_reason Exists = refl
no_reason Forall = refl

-- numbers that aren't the same
never : (a b : ℕ) → a < b → a ≡ b → ⊥
never a b less e = absurd (omega arith)

past_two : (j : ℕ) → suc (suc j) < 2 → ⊥
past_two j low = absurd (omega arith)

three_five : ComesBefore (3 ∷ 5 ∷ []) 3 5
three_five zero low e = absurd (never 3 5 (omega arith) e)
three_five (suc zero) low e = (0, omega arith, refl)
three_five (suc (suc j)) low e = absurd (past_two j low)

not_behind : (ids : List ℕ) (first id : ℕ) → ComesBefore (id ∷ ids) first id → ⊥
not_behind ids first id before =
    let g = before 0 (let l : length (id ∷ ids) ≡ suc (length ids) = refl in omega arith) refl in
    let l = g.1 in absurd (omega arith)

-- of two rows
both_here : (side : Quant) → is_attached side (rows_of (two_rows side (attached_to side) (attached_to side))) 1 ≡ true
both_here Exists = refl
both_here Forall = refl

first_here : (side : Quant) → is_attached side (rows_of (two_rows side (attached_to side) detached)) 0 ≡ true
first_here Exists = refl
first_here Forall = refl

none_second : (side p : Quant) → is_attached p (rows_of (two_rows side (attached_to side) detached)) 1 ≡ false
none_second side p = refl

second_gone : (side : Quant) → LetsOldest (two_rows side (attached_to side) (attached_to side))
    (two_rows side (attached_to side) detached) → ⊥
second_gone side oldest =
    not_behind (1 ∷ []) 1 0
    (oldest side side 1 0 (both_here side) (λ a. false≢true (sym (none_second side side) ∙ a)) (first_here side) refl)

first_gone : (side : Quant) → LetsOldest (two_rows side (attached_to side) (attached_to side))
    (two_rows side detached (attached_to side))
first_gone side p other (suc zero) id at not still may j low e = absurd (not at)
first_gone side p other (suc (suc gone)) id at not still may j low e = absurd (false≢true at)
first_gone side p other zero zero at not still may j low e = absurd (false≢true still)
first_gone side p other zero (suc (suc id)) at not still may j low e = absurd (false≢true still)
first_gone side p other zero (suc zero) at not still may zero low e = absurd (never 0 1 (omega arith) e)
first_gone side p other zero (suc zero) at not still may (suc zero) low e = (0, omega arith, refl)
first_gone side p other zero (suc zero) at not still may (suc (suc j)) low e = absurd (past_two j low)

-- a reason was attached, and isn't then
reason_gone : (side : Quant) → Lets (long_row side (propagated_by side 0))
    (search_with side four detached (propagated_by side 0)) → ⊥
reason_gone side lets =
    false≢true (sym (none_attached side side (propagated_by side 0) 0)
    ∙ lets.stays side 0 (ours side (propagated_by side 0)) refl)

-- nothing changes where no more than may be kept are no reasons

early : (side : Quant)
    → ((with_long (long_row side []) 512).long ≤ 512 + long_reasons (with_long (long_row side []) 512)
    → with_long (long_row side []) 256 ≡ with_long (long_row side []) 512) → ⊥
early side none =
    let few : 512 ≤ 512 + 0 = omega arith in
    never 256 512 (omega arith) (ap (λ (s : SearchState). s.long) (none few))

early_beside : (side : Quant) → (513 ≤ 512 + long_reasons (long_row side (propagated_by side 0))
    → with_long (long_row side (propagated_by side 0)) 257 ≡ with_long (long_row side (propagated_by side 0)) 513) → ⊥
early_beside side none =
    let one = one_reason side in
    never 257 513 (omega arith) (ap (λ (s : SearchState). s.long) (none (omega (arith, one))))

-- else half of them are left

late : (side : Quant) (left : ℕ) → (left ≡ 256 → ⊥)
    → (512 + long_reasons (with_long (long_row side []) 513) < 513
    → left ≡ left_long 512 + long_reasons (with_long (long_row side []) 513)) → ⊥
late side left not is =
    let many : 512 + 0 < 513 = omega arith in
    not (is many)

late_beside : (side : Quant) → (512 + long_reasons (long_row side (propagated_by side 0)) < 514
    → 256 ≡ left_long 512 + long_reasons (long_row side (propagated_by side 0))) → ⊥
late_beside side is =
    let one = one_reason side in
    let left : 256 ≡ left_long 512 + long_reasons (long_row side (propagated_by side 0)) = is (omega (arith, one)) in
    never 256 257 (omega arith) (left ∙ ap (λ n. 256 + n) one)

pub forgetting : (side : Quant) → WorkedForgetting side
forgetting side = record {
  learned = refl;
  short = refl;
  clause = refl;
  cube = refl;
  reduced_clause = refl;
  reduced_cube = refl;
  reduced = reduced_long side;
  finish = refl;
  no_step = refl;
  counts = counted side;
  one = one_counted side;
  none_attached = refl;
  elsewhere = none_counted side;
  none_long = short_uncounted side;
  tallied = sym (one_counted side);
  one_off = λ e. zero_one (e ∙ one_counted side);
  reason = refl;
  other_row = refl;
  decided = refl;
  other_variable = refl;
  by_long = one_reason side;
  by_other = refl;
  by_detached = no_reason side;
  by_none = refl;
  may = refl;
  may_not = refl;
  short_stays = refl;
  goes = record {
    was = λ p id a. absurd (false≢true (sym (none_attached side p [] id) ∙ a));
    stays = stays_not side;
  };
  stays = reason_gone side;
  before = three_five;
  not_before = not_behind (5 ∷ []) 5 3;
  oldest = first_gone side;
  newest = second_gone side;
  held = refl;
  left = refl;
  left_out = refl;
  all = λ x id e live. only_reason side x id e;
  not_all = λ all. contains_nil 0 (all 2 0 refl refl);
  live = only_live side;
  not_live = λ live. false≢true (live 1 (contains_head 1 []));
  few = omega arith;
  many = too_many;
  fewer = omega arith;
  too_many = one_too_many;
  half = refl;
  thins_none = λ scopes s h. thins_none scopes s h.paused.intact h.paused.tallied;
  clears_none = clears_none;
  forgets_none = forgets_none;
  thins_trail = λ h. other_trail side h.trail;
  thins_reason = λ h. reason_gone side h.lets;
  thins_list = λ h. contains_nil 0 (subst (λ ids. Contains ids 0) (sym h.watched) (contains_head 0 []));
  thins_count = λ h. zero_one (h.tallied ∙ one_counted side);
  clears_trail = λ h. other_trail side h.trail;
  clears_count = λ h. one_zero h.long;
  clears_row = λ h. false≢true (sym (none_attached side side [] 0) ∙ h.attached side 0 (ours side []));
  clears_more = λ h. false≢true (sym (none_attached side side [] 0) ∙ h.was side 0 (ours side []));
  forgets_trail = λ h. other_trail side h.trail;
  forgets_reason = λ h. reason_gone side h.lets;
  forgets_newest = λ h. second_gone side h.oldest;
  forgets_early = λ h. early side h.none;
  forgets_reasons = λ h. early_beside side h.none;
  forgets_late = λ h. late side 513 (λ e. never 256 513 (omega arith) (sym e)) h.left;
  forgets_too_many = λ h. late side 255 (never 255 256 (omega arith)) h.left;
  forgets_too_few = λ h. late side 257 (λ e. never 256 257 (omega arith) (sym e)) h.left;
  forgets_beside = λ h. late_beside side h.left;
}
