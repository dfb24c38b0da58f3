-- Long learned rows are detached, the oldest first, and left out of the list of rows to watch.
use Rattle.std.proofs.Common.{◌≡◌, ◌≢◌, ℕ, zero, suc, ◌+◌, ◌-◌, ◌<◌, ◌≤◌, ◌&&◌, nat_eq, nat_lt, Bool, true, false, not, List, [], ◌∷◌, drop, filter, map, length, get_or, Option, Some, None, Contains, IsTrue, is_some, refl, sym, ap, ap₂, subst, ◌∙◌, ⊎_elim, arith}
use Rattle.std.specs.List.{list_any}
use Rattle.std.specs.Prelude.{count_by}
use Rattle.std.proofs.lemmas.Bool.{cases_Bool, cases_lt, eqb-true, eq-eqb, false≢true}
use Rattle.std.proofs.lemmas.List.{length-map}
use Rattle.std.proofs.lemmas.List.Sums.{length-filter, sum_by-drop_more}
use Rattle.calculus.proofs.Lists.{any_at, contains_cons, contains_head, contains_map_of, contains_nil, contains_tail, filter_at, filter_from}
use Rattle.calculus.proofs.Trails.{cause_here, cause_past, place_here, place_past, places_apart, value_here, value_past}
use Rattle.calculus.proofs.Fronts.{place_some}
use Rattle.prefix.specs.declared.quant.Quant.{Quant}
use Rattle.prefix.specs.Literal.{Literal}
use Rattle.prefix.specs.Scopes.{Scope}
use Rattle.rows.specs.Arena.{link_at}
use Rattle.calculus.specs.Rows.{Row}
use Rattle.calculus.specs.Search.{Cause, Placed, Trail, cause_on, place_on, value_on}
use Rattle.calculus.specs.Search.Cause.{Assumed, Decided, Propagated}
use Rattle.calculus.specs.Derivations.Why.{ReducedFrom}
use Rattle.derive.specs.State.{Note, Notes, OpenClause, State, arena_of, clauses_of, is_live, next_id, note_at, note_in, row_of, side_at, side_in, why_in}
use Rattle.derive.specs.Adding.{IsReductionOf}
use Rattle.derive.specs.Theorems.{ClausesAreListed}
use Rattle.trail.specs.State.{TrailState}
use Rattle.watch.specs.Links.{is_at, is_attached, mark_of}
use Rattle.clean.specs.Reasons.{HaveReasons}
use Rattle.search.specs.Long.{comes_in, is_input, is_kept_long, is_learned, is_long}
use Rattle.search.specs.Forgetting.{AreLive, HaveAllReasons, LetsOldest, Thins, is_by_long, is_from, is_held, is_reason, long_reasons, may_go, reason_of, without_detached}
use Rattle.search.specs.State.{IsAttached, IsIntact, IsSearching, IsTallied, SearchState, rows_of}
use Rattle.search.specs.Watching.{Parts}
use Rattle.search.proofs.Joining.{attached_own, same_or_not}
use Rattle.search.proofs.Listing.{each_by_place, intact_relisted}
use Rattle.search.proofs.Marks.{note_same, reasons_same, reduction_by, same_mark, step_live, steps_then}
use Rattle.search.proofs.Tallying.{count_agree, count_none, count_point, count_to, long_same, one_if}

not_not : (b : Bool) → not b ≡ false → b ≡ true
not_not true h = refl
not_not false h = absurd (false≢true (sym h))

not_true : (b : Bool) → (b ≡ true → ⊥) → b ≡ false
not_true true h = absurd (h refl)
not_true false h = refl

-- one row, and then others

pub and_true : (a b : Bool) → (a && b) ≡ true → (a ≡ true) × (b ≡ true)
and_true true b h = (refl, h)
and_true false b h = absurd (false≢true h)

-- where a trail and a row are the same
reason_same : (old new : SearchState) (id : ℕ) → new.trail ≡ old.trail
    → row_of new.derivation id ≡ row_of old.derivation id → is_reason new id ≡ is_reason old id
reason_same old new id trail row =
    ap₂ (λ (t : TrailState) (r : Row). list_any (λ (l : Literal). is_from id (cause_on t.placed l.variable)) r)
    trail row

pub thins_none : (scopes : List Scope) (s : SearchState) → IsIntact scopes s → IsTallied s → Thins scopes s s
thins_none scopes s intact tallied = record {
  intact = intact;
  tallied = tallied;
  steps = record { notes = refl; has_rows = intact.has_rows; literals = λ id. refl; clauses = refl };
  trail = refl;
  watched = refl;
  lets = record { was = λ side id a. a; stays = λ side id a may. a };
}

module _ (scopes : List Scope) (old new : SearchState) (thins : Thins scopes old new) where
  long_thinned : (id : ℕ) → is_long new.derivation id ≡ is_long old.derivation id
  long_thinned id =
      long_same old.derivation new.derivation id (note_same old.derivation new.derivation thins.steps id)
      (thins.steps.literals id) (λ a why. ap is_input (note_same old.derivation new.derivation thins.steps a))

  may_thinned : (id : ℕ) → may_go new id ≡ may_go old id
  may_thinned id =
      ap₂ (λ (a b : Bool). a && not b) (long_thinned id)
      (reason_same old new id thins.trail (thins.steps.literals id))

  -- what is counted after was so before
  was_kept : (id : ℕ) → is_kept_long new.derivation id ≡ true → is_kept_long old.derivation id ≡ true
  was_kept id kept =
      let both = and_true (is_attached (side_at new.derivation id) (rows_of new) id) (is_long new.derivation id) kept in
      let was = thins.lets.was (side_at new.derivation id) id both.0 in
      let side : side_at new.derivation id ≡ side_at old.derivation id =
      ap side_in (note_same old.derivation new.derivation thins.steps id) in
      ap₂ (λ (a b : Bool). a && b) (subst (λ p. IsAttached old p id) side was) (sym (long_thinned id) ∙ both.1)

pub thins_then : (scopes : List Scope) (a b c : SearchState) → Thins scopes a b → Thins scopes b c → Thins scopes a c
thins_then scopes a b c one two = record {
  intact = two.intact;
  tallied = two.tallied;
  steps = steps_then a.derivation b.derivation c.derivation one.steps two.steps;
  trail = two.trail ∙ one.trail;
  watched = two.watched ∙ one.watched;
  lets = record {
    was = λ side id at. one.lets.was side id (two.lets.was side id at);
    stays = λ side id at may.
        two.lets.stays side id (one.lets.stays side id at may) (may_thinned scopes a b one id ∙ may);
  };
}

-- a row that may go is detached
pub thins_parted : (scopes : List Scope) (old new : SearchState) (id : ℕ) → IsIntact scopes old → Parts old new id
    → IsTallied new → may_go old id ≡ true → Thins scopes old new
thins_parted scopes old new id intact parts tallied may = record {
  intact = parts.intact scopes intact;
  tallied = tallied;
  steps = parts.steps;
  trail = parts.trail;
  watched = parts.watched;
  lets = record {
    was = parts.stays;
    stays =
        λ side i at stays.
        ⊎_elim
        (λ e. absurd (false≢true (sym stays ∙ (ap (may_go old) e ∙ may))))
        (λ apart. same_mark side (rows_of old) (rows_of new) i (parts.others i apart) ∙ at)
        (same_or_not i id);
  };
}

pub parted_uncounted : (old new : SearchState) (id : ℕ) → Parts old new id
    → is_kept_long new.derivation id ≡ true → ⊥
parted_uncounted old new id parts kept =
    parts.gone (side_at new.derivation id)
    (and_true (is_attached (side_at new.derivation id) (rows_of new) id) (is_long new.derivation id) kept).0

-- a long row that may not go is a reason
pub stays_reason : (s : SearchState) (id : ℕ) → may_go s id ≡ false → is_kept_long s.derivation id ≡ true
    → is_reason s id ≡ true
stays_reason s id may kept =
    let long = (and_true (is_attached (side_at s.derivation id) (rows_of s) id) (is_long s.derivation id) kept).1 in
    not_not (is_reason s id) (sym (ap (λ b. b && not (is_reason s id)) long) ∙ may)

-- no other row than that is detached
pub parted_only : (old new : SearchState) (id : ℕ) → Parts old new id → (side : Quant) (i : ℕ) → IsAttached old side i
    → (IsAttached new side i → ⊥) → i ≡ id
parted_only old new id parts side i at gone =
    ⊎_elim (λ e. e)
    (λ apart. absurd (gone (same_mark side (rows_of old) (rows_of new) i (parts.others i apart) ∙ at)))
    (same_or_not i id)

-- so many rows to watch were seen: those of them that may go are detached, and no others
pub record HasThinned (scopes : List Scope) (start s : SearchState) (k most : ℕ) : Type 0 where
  pub thins : Thins scopes start s
  pub enough : most ≤ start.long → most ≤ s.long
  pub seen : (j : ℕ) → j < k → is_kept_long s.derivation (get_or s.watched j 0) ≡ true
      → is_reason s (get_or s.watched j 0) ≡ true
  pub gone : (side : Quant) (id : ℕ) → IsAttached start side id → (IsAttached s side id → ⊥)
      → (i : ℕ) × (i < k) × (get_or start.watched i 0 ≡ id)

pub thinned_none : (scopes : List Scope) (s : SearchState) (most : ℕ) → IsSearching scopes s
    → HasThinned scopes s s 0 most
thinned_none scopes s most searching = record {
  thins = thins_none scopes s searching.paused.intact searching.paused.tallied;
  enough = λ most. most;
  seen = λ j low kept. absurd (omega arith);
  gone = λ side id at not. absurd (not at);
}

module _ (scopes : List Scope) (start s new : SearchState) (k most : ℕ) (has : HasThinned scopes start s k most)
    (thins : Thins scopes s new) where
  -- one of those before
  before : ((j : ℕ) → j < k → is_kept_long s.derivation (get_or s.watched j 0) ≡ true
      → is_reason s (get_or s.watched j 0) ≡ true) → (id : ℕ) → (j : ℕ) → j < k → get_or s.watched j 0 ≡ id
      → is_kept_long new.derivation id ≡ true → is_reason new id ≡ true
  before all id j low e kept =
      reason_same s new id thins.trail (thins.steps.literals id)
      ∙ subst (λ i. is_reason s i ≡ true) e
      (all j low (subst (λ i. is_kept_long s.derivation i ≡ true) (sym e) (was_kept scopes s new thins id kept)))

  seen_next : ((j : ℕ) → j < k → is_kept_long s.derivation (get_or s.watched j 0) ≡ true
      → is_reason s (get_or s.watched j 0) ≡ true)
      → (is_kept_long new.derivation (get_or s.watched k 0) ≡ true → is_reason new (get_or s.watched k 0) ≡ true)
      → (j : ℕ) → j < k + 1 → is_kept_long new.derivation (get_or new.watched j 0) ≡ true
      → is_reason new (get_or new.watched j 0) ≡ true
  seen_next all here j low =
      subst (λ ids. is_kept_long new.derivation (get_or ids j 0) ≡ true → is_reason new (get_or ids j 0) ≡ true)
      (sym thins.watched)
      (⊎_elim
      (λ (less : j < k). λ kept. before all (get_or s.watched j 0) j less refl kept)
      (λ (least : k ≤ j). let e : k ≡ j = omega arith in
      subst (λ i. is_kept_long new.derivation (get_or s.watched i 0) ≡ true
      → is_reason new (get_or s.watched i 0) ≡ true) e here)
      (cases_lt j k))

  gone_next : ((side : Quant) (i : ℕ) → IsAttached s side i → (IsAttached new side i → ⊥) → i ≡ get_or s.watched k 0)
      → (side : Quant) (id : ℕ) → IsAttached start side id → (IsAttached new side id → ⊥)
      → (i : ℕ) × (i < k + 1) × (get_or start.watched i 0 ≡ id)
  gone_next only side id at not =
      ⊎_elim
      (λ still. (k, omega arith, ap (λ ids. get_or ids k 0) (sym has.thins.watched) ∙ sym (only side id still not)))
      (λ none. let g = has.gone side id at (λ a. false≢true (sym none ∙ a)) in (g.0, (let l = g.1 in omega arith), g.2))
      (cases_Bool (is_attached side (rows_of s) id))

  pub thinned_more : most < s.long → s.long ≤ new.long + 1
      → (is_kept_long new.derivation (get_or s.watched k 0) ≡ true → is_reason new (get_or s.watched k 0) ≡ true)
      → ((side : Quant) (i : ℕ) → IsAttached s side i → (IsAttached new side i → ⊥) → i ≡ get_or s.watched k 0)
      → HasThinned scopes start new (k + 1) most
  thinned_more more one here only = record {
    thins = thins_then scopes start s new has.thins thins;
    enough = λ least. omega arith;
    seen = seen_next has.seen here;
    gone = gone_next only;
  }

-- those that are detached were listed first
module _ (scopes : List Scope) (start s : SearchState) (k most : ℕ) (has : HasThinned scopes start s k most) where
  late : (other : Quant) (id j : ℕ) → IsAttached s other id → may_go start id ≡ true
      → get_or start.watched j 0 ≡ id → k ≤ j
  late other id j still may e =
      ⊎_elim
      (λ (early : j < k).
      let here : get_or s.watched j 0 ≡ id = ap (λ ids. get_or ids j 0) has.thins.watched ∙ e in
      let goes : may_go s id ≡ true = may_thinned scopes start s has.thins id ∙ may in
      let both = and_true (is_long s.derivation id) (not (is_reason s id)) goes in
      let own = attached_own scopes s id has.thins.intact (other, still) in
      let kept : is_kept_long s.derivation id ≡ true = ap₂ (λ (a b : Bool). a && b) own both.0 in
      let reason : is_reason s id ≡ true = subst (λ i. is_reason s i ≡ true) here
      (has.seen j early (subst (λ i. is_kept_long s.derivation i ≡ true) (sym here) kept)) in
      absurd (false≢true (ap not (sym reason) ∙ both.1)))
      (λ (past : k ≤ j). past)
      (cases_lt j k)

  pub thinned_oldest : LetsOldest start s
  thinned_oldest side other gone id at not still may j low e =
      let g = has.gone side gone at not in
      (g.0, (let l = g.1 in let past = late other id j still may e in omega arith), g.2)

-- long rows that are reasons are at most as many as the literals that were propagated from such rows

-- the row that a literal was propagated from, 0 for none
abbrev reason_in : Cause → ℕ
reason_in Assumed = 0
reason_in Decided = 0
reason_in (Propagated id) = id

-- the literals that were propagated from long rows that are attached, and these rows
abbrev by_long : State → Trail → Trail
by_long d trail = filter (λ (p : Placed). is_by_long d p.cause) trail

abbrev long_on : State → Trail → List ℕ
long_on d trail = map (λ (p : Placed). reason_in p.cause) (by_long d trail)

from_is : (id : ℕ) (o : Option Cause) → is_from id o ≡ true → o ≡ Some (Propagated id)
from_is id None h = absurd (false≢true h)
from_is id (Some Assumed) h = absurd (false≢true h)
from_is id (Some Decided) h = absurd (false≢true h)
from_is id (Some (Propagated by)) h = ap (λ i. Some (Propagated i)) (eqb-true by id h)

placed_by : (trail : Trail) (x : ℕ) (c : Cause) → cause_on trail x ≡ Some c
    → (p : Placed) × Contains trail p × (p.cause ≡ c)
placed_by [] x c e = absurd (let g : None ≡ Some c = e in cc)
placed_by (p ∷ trail) x c e =
    ⊎_elim
    (λ t. let g : Some p.cause ≡ Some c = sym (cause_here p trail x t) ∙ e in (p, contains_head p trail, cc))
    (λ f. let r = placed_by trail x c (sym (cause_past p trail x f) ∙ e) in (r.0, contains_tail p trail r.0 r.1, r.2))
    (cases_Bool (nat_eq p.literal.variable x))

is_listed_reason : (s : SearchState) (d : State) (id : ℕ) → is_reason s id ≡ true → is_kept_long d id ≡ true
    → Contains (long_on d s.trail.placed) id
is_listed_reason s d id h kept =
    let r = any_at (λ (l : Literal). is_from id (cause_on s.trail.placed l.variable)) (row_of s.derivation id) h in
    let q = placed_by s.trail.placed r.0.variable (Propagated id)
    (from_is id (cause_on s.trail.placed r.0.variable) r.2) in
    subst (λ i. Contains (long_on d s.trail.placed) i) (ap reason_in q.2)
    (contains_map_of (λ (p : Placed). reason_in p.cause) (by_long d s.trail.placed) q.0
    (filter_from (λ (p : Placed). is_by_long d p.cause) s.trail.placed q.0 q.1 (ap (is_by_long d) q.2 ∙ kept)))

and_one : (b : Bool) → (b && true) ≡ b
and_one true = refl
and_one false = refl

and_none : (b : Bool) → (b && false) ≡ false
and_none true = refl
and_none false = refl

abbrev without : (ℕ → Bool) → ℕ → ℕ → Bool
without p x i = p i && not (nat_eq i x)

count_without : (p : ℕ → Bool) (x n : ℕ) → count_to p n ≤ count_to (without p x) n + 1
count_without p x n =
    let off : (i : ℕ) → i ≢ x → p i ≡ without p x i =
    λ i apart. sym (ap (λ b. p i && not b) (not_true (nat_eq i x) (λ t. apart (eqb-true i x t))) ∙ and_one (p i)) in
    ⊎_elim
    (λ (low : x < n).
    ⊎_elim
    (λ t. let r = count_point (without p x) p x n low off
    (ap (λ b. p x && not b) (eq-eqb x x refl) ∙ and_none (p x)) t in omega arith)
    (λ f. let r = count_agree p (without p x) n (λ i below.
    ⊎_elim (λ e. subst (λ j. p j ≡ without p x j) (sym e) (f ∙ sym (ap (λ b. b && not (nat_eq x x)) f)))
    (λ apart. off i apart) (same_or_not i x)) in omega arith)
    (cases_Bool (p x)))
    (λ (high : n ≤ x).
    let r = count_agree p (without p x) n
    (λ i below. off i (λ e. let g : i ≡ x = e in absurd (omega arith))) in omega arith)
    (cases_lt x n)

-- numbers that pass a test and are on a list are at most as many as its elements
count_listed : (xs : List ℕ) (p : ℕ → Bool) (n : ℕ) → ((i : ℕ) → p i ≡ true → Contains xs i) → count_to p n ≤ length xs
count_listed [] p n all =
    let e = count_none p n (λ i. not_true (p i) (λ t. contains_nil i (all i t))) in omega arith
count_listed (x ∷ xs) p n all =
    let rest = count_listed xs (without p x) n
    (λ i t.
    let both = and_true (p i) (not (nat_eq i x)) t in
    ⊎_elim
    (λ e. absurd (false≢true (sym (ap not (eq-eqb i x (sym e))) ∙ both.1)))
    (λ at. at)
    (contains_cons x xs i (all i both.0))) in
    let one = count_without p x n in
    omega (arith, rest, one)

-- where all were seen, all that are left are reasons
pub thinned_few : (scopes : List Scope) (start s : SearchState) (k most : ℕ) → HasThinned scopes start s k most
    → length start.watched ≤ k → s.long ≤ long_reasons start
thinned_few scopes start s k most has past =
    let each = each_by_place s.watched
    (λ id. is_kept_long s.derivation id ≡ true → is_reason s id ≡ true)
    (λ j low. has.seen j (let e = ap length has.thins.watched in omega arith)) in
    let few = count_listed (long_on start.derivation s.trail.placed) (is_kept_long s.derivation) (next_id s.derivation)
    (λ i kept.
    let a = (and_true (is_attached (side_at s.derivation i) (rows_of s) i) (is_long s.derivation i) kept).0 in
    is_listed_reason s start.derivation i
    (each i (has.thins.intact.watched.listed (side_at s.derivation i) i a) kept)
    (was_kept scopes start s has.thins i kept)) in
    let long : length (long_on start.derivation s.trail.placed) ≡ length (by_long start.derivation s.trail.placed) =
    length-map (by_long start.derivation s.trail.placed) (λ (p : Placed). reason_in p.cause) in
    let count = length-filter (λ (p : Placed). is_by_long start.derivation p.cause) s.trail.placed in
    let trail = ap (λ (t : TrailState). count_by (λ (p : Placed). is_by_long start.derivation p.cause) t.placed)
    has.thins.trail in
    let tallied = has.thins.tallied in
    omega (arith, few, long, count, trail, tallied)

-- the literals from a place on that were propagated from long rows that are attached

abbrev pub reasons_from : SearchState → ℕ → ℕ
reasons_from s place =
    count_by (λ (p : Placed). is_by_long s.derivation p.cause) (drop place s.trail.placed)

abbrev nobody : Placed
nobody = record { literal = record { variable = 0; positive = true }; cause = Decided }

from_here : (s : SearchState) (k : ℕ) → k < length s.trail.placed
    → reasons_from s k
    ≡ one_if (is_by_long s.derivation (get_or s.trail.placed k nobody).cause) + reasons_from s (k + 1)
from_here s k low =
    sum_by-drop_more (λ (p : Placed). one_if (is_by_long s.derivation p.cause)) s.trail.placed k nobody low

-- one more place, from the last one on
pub reasons_back : (s old : SearchState) (place : ℕ) (r : Bool) → s ≡ old → 0 < place
    → place ≤ length old.trail.placed
    → ((other : Placed) → r ≡ is_by_long s.derivation (get_or s.trail.placed (place - 1) other).cause)
    → reasons_from old (place - 1) ≡ reasons_from old place + one_if r
reasons_back s old place r same some within is =
    let e = from_here old (place - 1) (omega arith) in
    let next : (place - 1) + 1 ≡ place = omega arith in
    let m : reasons_from old ((place - 1) + 1) ≡ reasons_from old place = ap (reasons_from old) next in
    let h : r ≡ is_by_long old.derivation (get_or old.trail.placed (place - 1) nobody).cause =
    subst (λ (t : SearchState). r ≡ is_by_long t.derivation (get_or t.trail.placed (place - 1) nobody).cause) same
    (is nobody) in
    let one = ap one_if h in
    omega (arith, e, m, one)

pub reasons_few : (s : SearchState) (place : ℕ) → place ≤ length s.trail.placed → reasons_from s place ≤ long_reasons s
reasons_few s zero within = omega arith
reasons_few s (suc k) within =
    let r = reasons_few s k (omega arith) in
    let e = from_here s k (omega arith) in
    let next : k + 1 ≡ suc k = omega arith in
    let m : reasons_from s (k + 1) ≡ reasons_from s (suc k) = ap (reasons_from s) next in
    omega (arith, r, e, m)

-- rows that aren't attached are left out

reduced_in : (notes : Notes) (o : Option Note) (a : ℕ) → why_in o ≡ ReducedFrom a → is_input (note_in notes a) ≡ true
    → is_learned notes o ≡ false
reduced_in notes None a why input = refl
reduced_in notes (Some note) a why input = ap (λ w. not (comes_in notes note.side w)) why ∙ ap not input

at_some : (o : Option ℕ) (n : ℕ) → is_at o n ≡ true → is_some o ≡ true
at_some None n h = absurd (false≢true h)
at_some (Some m) n h = refl

module _ (scopes : List Scope) (start s : SearchState) (listed : ClausesAreListed)
    (searching : IsSearching scopes start) (thins : Thins scopes start s) where
  reduction_short : (c : OpenClause) → Contains (clauses_of start.derivation) c → (id : ℕ)
      → IsReductionOf scopes start.derivation c id → may_go start id ≡ false
  reduction_short c at id r =
      let d = start.derivation in
      ap (λ b. (b && nat_lt 3 (length (row_of d id))) && not (is_reason start id))
      (⊎_elim
      (λ e. ap (λ i. is_learned d.notes (note_at d i)) e ∙ ap (is_learned d.notes) (listed.note d c at))
      (λ why. reduced_in d.notes (note_at d id) c.id why (ap is_input (listed.note d c at)))
      r.rests)

  held : (side : Quant) (id : ℕ) → IsAttached s side id → is_held (rows_of s) id ≡ true
  held side id a = at_some (link_at (rows_of s) id 6) (mark_of side) a

  now_listed : (side : Quant) (id : ℕ) → IsAttached s side id → Contains (without_detached s).watched id
  now_listed side id a =
      filter_from (is_held (rows_of s)) s.watched id (thins.intact.watched.listed side id a) (held side id a)

  was_listed : (id : ℕ) → Contains (without_detached s).watched id
      → Contains s.watched id × (is_held (rows_of s) id ≡ true)
  was_listed id at = filter_at (is_held (rows_of s)) s.watched id at

  pub left_intact : IsIntact scopes (without_detached s)
  left_intact =
      let h = thins.intact.watched in
      intact_relisted scopes s (without_detached s).watched s.joined thins.intact (record {
        marked = h.marked;
        sides = h.sides;
        listed = now_listed;
        given = λ id at. h.given id (was_listed id at).0;
        steps = λ id at live. h.steps id (was_listed id at).0 live;
        clauses =
            λ c at.
            let r = searching.paused.intact.watched.clauses c (subst (λ cs. Contains cs c) thins.steps.clauses at) in
            let a = searching.paused.attached r.0 r.1 (step_live _ r.2.step) in
            let still = thins.lets.stays a.0 r.0 a.1 (reduction_short c
            (subst (λ cs. Contains cs c) thins.steps.clauses at) r.0 r.2) in (
              r.0,
              now_listed a.0 r.0 still,
              reduction_by scopes start.derivation s.derivation c r.0
                  (note_same start.derivation s.derivation thins.steps r.0) (thins.steps.literals r.0) r.2,
            );
      })

  -- those that are left are attached
  held_attached : (id : ℕ) → Contains (without_detached s).watched id → (side : Quant) × IsAttached s side id
  held_attached id at =
      ⊎_elim
      (λ none. absurd (false≢true (sym (ap is_some none) ∙ (was_listed id at).1)))
      (λ a. a)
      (thins.intact.watched.marked id)

  pub left_live : AreLive s.derivation (without_detached s).watched
  left_live id at =
      let a = held_attached id at in step_live (note_at s.derivation id) (thins.intact.watched.sides a.0 id a.1).step

  pub left_searching : IsSearching scopes (without_detached s)
  left_searching = record {
    paused = record {
      intact = left_intact;
      attached =
          λ id at live. held_attached id at;
      tallied = thins.tallied;
    };
    reasons = λ side. subst (HaveReasons side scopes s.derivation) (sym thins.trail)
        (reasons_same start.derivation s.derivation thins.steps side scopes start.trail (searching.reasons side));
  }

-- the reasons on a trail, place by place

caused : (trail : Trail) (x : ℕ) (c : Cause) → cause_on trail x ≡ Some c → is_some (value_on trail x) ≡ true
caused [] x c e = absurd (let g : None ≡ Some c = e in cc)
caused (p ∷ trail) x c e =
    ⊎_elim
    (λ t. ap is_some (value_here p trail x t))
    (λ f. ap is_some (value_past p trail x f) ∙ caused trail x c (sym (cause_past p trail x f) ∙ e))
    (cases_Bool (nat_eq p.literal.variable x))

-- the cause of a variable stands at its place
pub cause_at : (trail : Trail) (x : ℕ) (other : Placed) → is_some (value_on trail x) ≡ true
    → cause_on trail x ≡ Some (get_or trail (place_on trail x) other).cause
cause_at [] x other known = absurd (false≢true known)
cause_at (p ∷ trail) x other known =
    ⊎_elim
    (λ t. cause_here p trail x t
    ∙ ap (λ k. Some (get_or (p ∷ trail) k other).cause) (sym (place_here p trail x t)))
    (λ f. cause_past p trail x f
    ∙ (cause_at trail x other (ap is_some (sym (value_past p trail x f)) ∙ known)
    ∙ ap (λ k. Some (get_or (p ∷ trail) k other).cause) (sym (place_past p trail x f))))
    (cases_Bool (nat_eq p.literal.variable x))

-- whether it was propagated from a long row that is attached
pub by_none : (d : State) (c : Cause) → reason_of (Some c) ≡ None → is_by_long d c ≡ false
by_none d Assumed e = refl
by_none d Decided e = refl
by_none d (Propagated id) e = absurd (let g : Some id ≡ None = e in cc)

pub by_row : (d : State) (c : Cause) (id : ℕ) → reason_of (Some c) ≡ Some id → is_by_long d c ≡ is_kept_long d id
by_row d Assumed id e = absurd (let g : None ≡ Some id = e in cc)
by_row d Decided id e = absurd (let g : None ≡ Some id = e in cc)
by_row d (Propagated by) id e = let g : Some by ≡ Some id = e in ap (is_kept_long d) cc

unlearned : (notes : Notes) (o : Option Note) → is_some o ≡ false → is_learned notes o ≡ false
unlearned notes None h = refl
unlearned notes (Some note) h = absurd (false≢true (sym h))

-- a row counts where it is live, long and attached
pub dead_unkept : (d : State) (id : ℕ) → is_live d id ≡ false → is_kept_long d id ≡ false
dead_unkept d id dead =
    ap (λ b. is_attached (side_at d id) (arena_of d) id && (b && nat_lt 3 (length (row_of d id))))
    (unlearned d.notes (note_at d id) dead)
    ∙ and_none (is_attached (side_at d id) (arena_of d) id)

pub short_unkept : (d : State) (id : ℕ) → is_long d id ≡ false → is_kept_long d id ≡ false
short_unkept d id short =
    ap (λ b. is_attached (side_at d id) (arena_of d) id && b) short
    ∙ and_none (is_attached (side_at d id) (arena_of d) id)

pub long_kept : (d : State) (id : ℕ) → is_long d id ≡ true
    → is_attached (side_at d id) (arena_of d) id ≡ is_kept_long d id
long_kept d id long =
    sym (and_one (is_attached (side_at d id) (arena_of d) id))
    ∙ ap (λ b. is_attached (side_at d id) (arena_of d) id && b) (sym long)

module _ (s : SearchState) (x place : ℕ) (positive : Bool) (at : place_on s.trail.placed x ≡ place)
    (value : value_on s.trail.placed x ≡ Some positive) where
  cause_here_is : (other : Placed) → cause_on s.trail.placed x ≡ Some (get_or s.trail.placed place other).cause
  cause_here_is other =
      cause_at s.trail.placed x other (ap is_some value)
      ∙ ap (λ k. Some (get_or s.trail.placed k other).cause) at

  pub no_row_here : reason_of (cause_on s.trail.placed x) ≡ None → (other : Placed)
      → false ≡ is_by_long s.derivation (get_or s.trail.placed place other).cause
  no_row_here e other =
      sym (by_none s.derivation (get_or s.trail.placed place other).cause (ap reason_of (sym (cause_here_is other)) ∙
      e))

  pub row_here : (id : ℕ) → reason_of (cause_on s.trail.placed x) ≡ Some id → (other : Placed)
      → is_kept_long s.derivation id ≡ is_by_long s.derivation (get_or s.trail.placed place other).cause
  row_here id e other =
      sym (by_row s.derivation (get_or s.trail.placed place other).cause id
      (ap reason_of (sym (cause_here_is other)) ∙ e))

-- a variable with the place of another one is that one
pub reason_here : (placed : Trail) (x y id : ℕ) (positive : Bool) → cause_on placed x ≡ Some (Propagated id)
    → value_on placed y ≡ Some positive → place_on placed x ≡ place_on placed y
    → reason_of (cause_on placed y) ≡ Some id
reason_here placed x y id positive cause value place =
    let e = places_apart placed x y (caused placed x (Propagated id) cause) (ap is_some value) place in
    ap (λ v. reason_of (cause_on placed v)) (sym e) ∙ ap reason_of cause

-- the same up to a place
pub record HasReasonsTo (d : State) (placed : Trail) (ids : List ℕ) (place : ℕ) : Type 0 where
  pub there : (x id : ℕ) → place_on placed x < place → cause_on placed x ≡ Some (Propagated id)
      → IsTrue (is_live d id) → Contains ids id

pub none_live : (d : State) (ids : List ℕ) → ids ≡ [] → AreLive d ids
none_live d ids e id at = absurd (contains_nil id (subst (λ is. Contains is id) e at))

pub reasons_none : (d : State) (placed : Trail) (ids : List ℕ) → HasReasonsTo d placed ids 0
reasons_none d placed ids = record { there = λ x id low cause live. absurd (omega arith) }

pub reasons_more : (d : State) (placed : Trail) (ids more : List ℕ) (place : ℕ) → HasReasonsTo d placed ids place
    → ((id : ℕ) → Contains ids id → Contains more id)
    → ((x id : ℕ) → place_on placed x ≡ place → cause_on placed x ≡ Some (Propagated id) → IsTrue (is_live d id)
    → Contains more id) → HasReasonsTo d placed more (place + 1)
reasons_more d placed ids more place has stays here = record {
  there =
      λ x id low cause live.
      ⊎_elim
      (λ (less : place_on placed x < place). stays id (has.there x id less cause live))
      (λ (least : place ≤ place_on placed x). let e : place_on placed x ≡ place = omega arith in
      here x id e cause live)
      (cases_lt (place_on placed x) place);
}

pub all_reasons : (d : State) (placed : Trail) (ids : List ℕ) (place : ℕ) → length placed ≤ place
    → HasReasonsTo d placed ids place → HaveAllReasons d placed ids
all_reasons d placed ids place past has x id cause live =
    let low = place_some placed x (caused placed x (Propagated id) cause) in
    has.there x id (omega arith) cause live
