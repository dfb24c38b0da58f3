-- How many long learned rows are attached, where steps come and go, and rows are attached and detached.
use Rattle.std.proofs.Common.{◌≡◌, ◌≢◌, ℕ, zero, suc, ◌+◌, ◌-◌, ◌<◌, ◌≤◌, ◌&&◌, ◌++◌, ◌∷◌, [], zero-add, cond, nat_lt, Bool, true, false, not, List, length, Option, Some, None, IsTrue, is_some, refl, sym, ap, ap₂, subst, ◌∙◌, ⊎_elim, arith}
use Rattle.std.specs.Prelude.{count_by, slice_index_or}
use Rattle.std.specs.List.{range_with_len}
use Rattle.std.proofs.lemmas.Bool.{cases_Bool, cases_lt, false≢true}
use Rattle.std.proofs.lemmas.List.{get_or_past}
use Rattle.std.proofs.lemmas.List.Sums.{sum_by_push}
use Rattle.prefix.specs.declared.quant.Quant.{Quant}
use Rattle.prefix.specs.declared.quant.Quant.TheVariants.{Exists, Forall}
use Rattle.prefix.specs.Scopes.{Scope}
use Rattle.rows.specs.Arena.{StoredRow, link_at, links_of, literals_of}
use Rattle.calculus.specs.Rows.{Row}
use Rattle.calculus.specs.Derivations.{IsLegalStep, IsReductionStep, Step, Why}
use Rattle.calculus.specs.Derivations.Why.{Given, ReducedFrom, ResolvedFrom, FinishedFrom}
use Rattle.derive.specs.State.{IsLegalFor, Note, Notes, State, arena_of, is_live, is_step, next_id, note_at, note_in, open_clauses, row_of, side_at, side_in, steps_of, why_at, why_in}
use Rattle.derive.specs.Growing.{GainsSteps}
use Rattle.derive.proofs.Additions.{live_below}
use Rattle.derive.proofs.Ids.{range-push}
use Rattle.derive.proofs.Legality.{listed_is_step, listed_told}
use Rattle.watch.specs.Links.{is_attached}
use Rattle.watch.specs.State.{Holds, IsUnattached, WatchState}
use Rattle.clean.specs.Reasons.{IsReducedStep}
use Rattle.search.specs.Long.{comes_in, is_input, is_kept_long, is_learned, is_long, long_in}
use Rattle.search.specs.Moves.{SameSteps}
use Rattle.search.specs.State.{IsIntact, IsTallied, SearchState, rows_of, watch_of, with_long}
use Rattle.search.specs.Watching.{Joins, KeepsMarks, KeepsOtherMarks, Parts}
use Rattle.search.proofs.Joining.{attached_own, same_or_not}
use Rattle.search.proofs.Marks.{not_attached, note_same, same_mark, step_live}

-- one for a test that is passed
abbrev pub one_if : Bool → ℕ
one_if b = cond b 1 0

pub one_true : (b : Bool) → b ≡ true → one_if b ≡ 1
one_true b t = ap one_if t

pub one_false : (b : Bool) → b ≡ false → one_if b ≡ 0
one_false b f = ap one_if f

-- how many numbers below one pass a test
abbrev pub count_to : (ℕ → Bool) → ℕ → ℕ
count_to p n = count_by p (range_with_len 0 n)

pub count_suc : (p : ℕ → Bool) (n : ℕ) → count_to p (suc n) ≡ count_to p n + one_if (p n)
count_suc p n =
    ap (count_by p) (range-push 0 n ∙ ap (λ m. range_with_len 0 n ++ m ∷ []) (zero-add n))
    ∙ sum_by_push (λ i. one_if (p i)) (range_with_len 0 n) n

pub count_agree : (p q : ℕ → Bool) (n : ℕ) → ((i : ℕ) → i < n → p i ≡ q i) → count_to p n ≡ count_to q n
count_agree p q zero h = refl
count_agree p q (suc n) h =
    count_suc p n
    ∙ (ap₂ (λ m b. m + one_if b) (count_agree p q n (λ i low. h i (omega arith))) (h n (omega arith))
    ∙ sym (count_suc q n))

-- one more
pub count_point : (p q : ℕ → Bool) (id n : ℕ) → id < n → ((i : ℕ) → i ≢ id → q i ≡ p i) → p id ≡ false → q id ≡ true
    → count_to q n ≡ count_to p n + 1
count_point p q id zero low others absent there = absurd (omega arith)
count_point p q id (suc n) low others absent there =
    let x = count_suc p n in
    let y = count_suc q n in
    ⊎_elim
    (λ (less : id < n).
    let r = count_point p q id n less others absent there in
    let s : one_if (q n) ≡ one_if (p n) =
    ap one_if (others n (λ e. let g : n ≡ id = e in absurd (omega arith))) in
    omega (arith, x, y, r, s))
    (λ (least : n ≤ id).
    let e : id ≡ n = omega arith in
    let r = count_agree q p n (λ i below. others i (λ same. let g : i ≡ id = same in absurd (omega arith))) in
    let s : one_if (q n) ≡ 1 = ap one_if (ap q (sym e) ∙ there) in
    let t : one_if (p n) ≡ 0 = ap one_if (ap p (sym e) ∙ absent) in
    omega (arith, x, y, r, s, t))
    (cases_lt id n)

-- none from a number on
pub count_longer : (p : ℕ → Bool) (n m : ℕ) → n ≤ m → ((i : ℕ) → n ≤ i → p i ≡ false) → count_to p m ≡ count_to p n
count_longer p n zero low none = let e : 0 ≡ n = omega arith in ap (count_to p) e
count_longer p n (suc m) low none =
    ⊎_elim
    (λ (last : m < n). let e : suc m ≡ n = omega arith in ap (count_to p) e)
    (λ (more : n ≤ m).
    let x = count_suc p m in
    let r = count_longer p n m more none in
    let s : one_if (p m) ≡ 0 = ap one_if (none m more) in
    omega (arith, x, r, s))
    (cases_lt m n)

pub count_none : (p : ℕ → Bool) (n : ℕ) → ((i : ℕ) → p i ≡ false) → count_to p n ≡ 0
count_none p n none = count_longer p 0 n (omega arith) (λ i low. none i)

pub count_few : (p : ℕ → Bool) (n : ℕ) → count_to p n ≤ n
count_few p zero = omega arith
count_few p (suc n) =
    let x = count_suc p n in
    let r = count_few p n in
    ⊎_elim
    (λ t. let s : one_if (p n) ≡ 1 = ap one_if t in omega (arith, x, r, s))
    (λ f. let s : one_if (p n) ≡ 0 = ap one_if f in omega (arith, x, r, s))
    (cases_Bool (p n))

and_false : (b : Bool) → (b && false) ≡ false
and_false true = refl
and_false false = refl

-- long rows

comes_same : (old new : Notes) (side : Quant) (why : Why)
    → ((a : ℕ) → why ≡ ReducedFrom a → is_input (note_in new a) ≡ is_input (note_in old a))
    → comes_in new side why ≡ comes_in old side why
comes_same old new side Given h = refl
comes_same old new side (ReducedFrom a) h = h a refl
comes_same old new side (ResolvedFrom a b x) h = refl
comes_same old new side (FinishedFrom a) h = refl

learned_same : (old new : Notes) (o : Option Note)
    → ((a : ℕ) → why_in o ≡ ReducedFrom a → is_input (note_in new a) ≡ is_input (note_in old a))
    → is_learned new o ≡ is_learned old o
learned_same old new None h = refl
learned_same old new (Some note) h = ap not (comes_same old new note.side note.why h)

module _ (old new : State) (id : ℕ) (note : note_at new id ≡ note_at old id) (row : row_of new id ≡ row_of old id)
    (inputs : (a : ℕ) → why_at old id ≡ ReducedFrom a → is_input (note_at new a) ≡ is_input (note_at old a)) where
  pub long_same : is_long new id ≡ is_long old id
  long_same =
      ap₂ (λ (b : Bool) (r : Row). b && nat_lt 3 (length r))
      (ap (is_learned new.notes) note ∙ learned_same old.notes new.notes (note_at old id) inputs) row

  pub kept_same : link_at (arena_of new) id 6 ≡ link_at (arena_of old) id 6 → is_kept_long new id ≡ is_kept_long old id
  kept_same mark =
      ap₂ (λ (a b : Bool). a && b)
      (ap (λ o. is_attached (side_in o) (arena_of new) id) note
      ∙ same_mark (side_at old id) (arena_of old) (arena_of new) id mark) long_same

-- a row that isn't attached isn't counted
pub kept_detached : (d : State) (id : ℕ) → is_attached (side_at d id) (arena_of d) id ≡ false
    → is_kept_long d id ≡ false
kept_detached d id none = ap (λ b. b && is_long d id) none

pub kept_unlinked : (d : State) (id : ℕ) → IsUnattached (arena_of d) id → is_kept_long d id ≡ false
kept_unlinked d id none = kept_detached d id (not_attached (side_at d id) (arena_of d) id none)

-- nor is one of no step
kept_dead : (d : State) (id : ℕ) → note_at d id ≡ None → is_kept_long d id ≡ false
kept_dead d id none =
    ap (λ (o : Option Note). is_attached (side_at d id) (arena_of d) id && (is_learned d.notes o
    && nat_lt 3 (length (row_of d id)))) none
    ∙ and_false (is_attached (side_at d id) (arena_of d) id)

dead_none : (o : Option Note) → is_some o ≡ false → o ≡ None
dead_none None h = refl
dead_none (Some note) h = absurd (false≢true (sym h))

pub same_count : (old new : State) → next_id old ≤ next_id new
    → ((id : ℕ) → is_kept_long new id ≡ is_kept_long old id) → long_in new ≡ long_in old
same_count old new more same =
    count_agree (is_kept_long new) (is_kept_long old) (next_id new) (λ i low. same i)
    ∙ count_longer (is_kept_long old) (next_id old) (next_id new) more
    (λ i past. kept_dead old i (get_or_past old.notes i None past))

-- no row is attached
pub tally_none : (d : State) → ((id : ℕ) → IsUnattached (arena_of d) id) → long_in d ≡ 0
tally_none d none = count_none (is_kept_long d) (next_id d) (λ i. kept_unlinked d i (none i))

-- the same steps and marks
pub tally_marks : (old new : State) → SameSteps old new → KeepsMarks (arena_of old) (arena_of new)
    → long_in new ≡ long_in old
tally_marks old new same marks =
    let next : next_id new ≡ next_id old = ap length same.notes in
    same_count old new (omega arith)
    (λ id. kept_same old new id (note_same old new same id) (same.literals id)
    (λ a why. ap is_input (note_same old new same a)) (marks id))

-- a reduction rests on a live step
pub antecedent_live : (scopes : List Scope) (d : State) (id a : ℕ) → IsLegalFor scopes d → IsTrue (is_step d id)
    → why_at d id ≡ ReducedFrom a → IsTrue (is_live d a)
antecedent_live scopes d id a legal step why =
    let s : Step = record { id = id; side = side_at d id; row = row_of d id; why = why_at d id } in
    let is : IsReductionStep scopes (steps_of d) s a =
    subst (λ w. IsLegalStep scopes (open_clauses d) (steps_of d) s w) why (legal.legal s (listed_told d id step)) in
    step_live (note_at d a)
    (subst (λ i. IsTrue (is_step d i)) is.from.is (listed_is_step d is.from.step is.from.stands))

-- steps come in
pub tally_gained : (scopes : List Scope) (old new : State) → GainsSteps old new → IsLegalFor scopes old
    → ((side : Quant) (id : ℕ) → IsTrue (is_attached side (arena_of old) id) → IsReducedStep side scopes old id)
    → long_in new ≡ long_in old
tally_gained scopes old new gains legal sides =
    same_count old new gains.grows.longer
    (λ id.
    ⊎_elim
    (λ live.
    let same = gains.grows.others id live in
    let mark : link_at (arena_of new) id 6 ≡ link_at (arena_of old) id 6 =
    ap (λ (o : Option StoredRow). slice_index_or (links_of o) 6 None) same.row in
    ⊎_elim
    (λ attached.
    kept_same old new id same.note (ap literals_of same.row)
    (λ a why. ap is_input (gains.grows.others a (antecedent_live scopes old id a legal
    (sides (side_at old id) id attached).step why)).note) mark)
    (λ free.
    kept_detached new id (ap (λ o. is_attached (side_in o) (arena_of new) id) same.note
    ∙ (same_mark (side_at old id) (arena_of old) (arena_of new) id mark ∙ free))
    ∙ sym (kept_detached old id free))
    (cases_Bool (is_attached (side_at old id) (arena_of old) id)))
    (λ dead.
    kept_unlinked new id (gains.unlinked id 6 dead) ∙ sym (kept_dead old id (dead_none (note_at old id) dead)))
    (cases_Bool (is_live old id)))

-- a row is attached, or detached

module _ (old new : State) (id : ℕ) (same : SameSteps old new)
    (others : KeepsOtherMarks (arena_of old) (arena_of new) id) where
  inputs_same : (a : ℕ) → is_input (note_at new a) ≡ is_input (note_at old a)
  inputs_same a = ap is_input (note_same old new same a)

  pub long_as_was : is_long new id ≡ is_long old id
  long_as_was = long_same old new id (note_same old new same id) (same.literals id) (λ a why. inputs_same a)

  others_kept : (i : ℕ) → i ≢ id → is_kept_long new i ≡ is_kept_long old i
  others_kept i apart = kept_same old new i (note_same old new same i) (same.literals i) (λ a why. inputs_same a)
      (others i apart)

  next_same : next_id new ≡ next_id old
  next_same = ap length same.notes

  -- a long one
  pub one_more : IsTrue (is_live old id) → is_kept_long old id ≡ false → is_kept_long new id ≡ true
      → long_in new ≡ long_in old + 1
  one_more live absent there =
      count_point (is_kept_long old) (is_kept_long new) id (next_id new)
      (let low : id < next_id old = live_below old.notes id live in let e = next_same in omega arith)
      others_kept absent there
      ∙ ap (λ n. count_to (is_kept_long old) n + 1) next_same

  pub one_less : IsTrue (is_live old id) → is_kept_long old id ≡ true → is_kept_long new id ≡ false
      → long_in old ≡ long_in new + 1
  one_less live there absent =
      count_point (is_kept_long new) (is_kept_long old) id (next_id old) (live_below old.notes id live)
      (λ i apart. sym (others_kept i apart)) absent there
      ∙ ap (λ n. count_to (is_kept_long new) n + 1) (sym next_same)

  -- another one
  pub as_many : is_kept_long new id ≡ is_kept_long old id → long_in new ≡ long_in old
  as_many here =
      same_count old new (let e = next_same in omega arith)
      (λ i. ⊎_elim (λ e. subst (λ j. is_kept_long new j ≡ is_kept_long old j) (sym e) here) (λ ne. others_kept i ne)
      (same_or_not i id))

-- with another count

same_watch : (s : SearchState) (n : ℕ) (side : Quant) → watch_of side (with_long s n) ≡ watch_of side s
same_watch s n Exists = refl
same_watch s n Forall = refl

pub intact_counted : (scopes : List Scope) (s : SearchState) (n : ℕ) → IsIntact scopes s
    → IsIntact scopes (with_long s n)
intact_counted scopes s n intact =
    let h = intact.watched in
    record {
      trail = intact.trail;
      has_rows = intact.has_rows;
      legal = intact.legal;
      watched = record {
        marked = h.marked;
        sides = h.sides;
        listed = h.listed;
        given = h.given;
        steps = h.steps;
        clauses = h.clauses;
      };
      watching = record {
        holds = λ side. subst (λ (w : WatchState). Holds side scopes w (rows_of s)) (sym (same_watch s n side))
            (intact.watching.holds side);
        front = λ side. rw (same_watch s n side) (intact.watching.front side);
        room = λ side. rw (same_watch s n side) (intact.watching.room side);
      };
      room = record { trail = intact.room.trail; signs = intact.room.signs };
    }

pub joins_counted : (scopes : List Scope) (old mid : SearchState) (id n : ℕ) → Joins scopes old mid id
    → Joins scopes old (with_long mid n) id
joins_counted scopes old mid id n joins = record {
  intact = intact_counted scopes mid n joins.intact;
  steps = joins.steps;
  trail = joins.trail;
  signs = joins.signs;
  watched = joins.watched;
  joined = joins.joined;
  here = joins.here;
  stays = joins.stays;
  others = joins.others;
}

pub parts_counted : (old mid : SearchState) (id n : ℕ) → Parts old mid id → Parts old (with_long mid n) id
parts_counted old mid id n parts = record {
  intact = λ scopes intact. intact_counted scopes mid n (parts.intact scopes intact);
  steps = parts.steps;
  trail = parts.trail;
  signs = parts.signs;
  watched = parts.watched;
  joined = parts.joined;
  gone = parts.gone;
  stays = parts.stays;
  others = parts.others;
}

-- a short row isn't counted
kept_short : (d : State) (id : ℕ) → is_long d id ≡ false → is_kept_long d id ≡ false
kept_short d id short = ap (λ b. is_attached (side_at d id) (arena_of d) id && b) short
    ∙ and_false (is_attached (side_at d id) (arena_of d) id)

kept_both : (d : State) (id : ℕ) → is_attached (side_at d id) (arena_of d) id ≡ true → is_long d id ≡ true
    → is_kept_long d id ≡ true
kept_both d id attached long = ap₂ (λ (a b : Bool). a && b) attached long

module _ (scopes : List Scope) (old mid : SearchState) (id : ℕ) (joins : Joins scopes old mid id)
    (live : IsTrue (is_live old.derivation id))
    (free : is_attached (side_at old.derivation id) (rows_of old) id ≡ false) where
  here_now : is_attached (side_at mid.derivation id) (rows_of mid) id ≡ true
  here_now = attached_own scopes mid id joins.intact joins.here

  pub tally_joined : long_in mid.derivation ≡ long_in old.derivation + one_if (is_long mid.derivation id)
  tally_joined =
      ⊎_elim
      (λ t.
      let e : one_if (is_long mid.derivation id) ≡ 1 = ap one_if t in
      let r = one_more old.derivation mid.derivation id joins.steps joins.others live
      (kept_detached old.derivation id free) (kept_both mid.derivation id here_now t) in
      omega (arith, e, r))
      (λ f.
      let e : one_if (is_long mid.derivation id) ≡ 0 = ap one_if f in
      let r = as_many old.derivation mid.derivation id joins.steps joins.others
      (kept_short mid.derivation id f ∙ sym (kept_detached old.derivation id free)) in
      omega (arith, e, r))
      (cases_Bool (is_long mid.derivation id))

  module _ (tallied : IsTallied old) (same : mid.long ≡ old.long) where
    pub tallied_joined : IsTallied (with_long mid (mid.long + one_if (is_long mid.derivation id)))
    tallied_joined = let r = tally_joined in let t = tallied in omega (arith, r, t, same)

    pub tally_fits : IsTrue (is_long mid.derivation id) → mid.long < next_id mid.derivation
    tally_fits long =
        let r = tally_joined in
        let t = tallied in
        let e : one_if (is_long mid.derivation id) ≡ 1 = ap one_if long in
        let few = count_few (is_kept_long mid.derivation) (next_id mid.derivation) in
        omega (arith, r, t, same, e, few)

-- at most one more is counted
pub one_joined : (scopes : List Scope) (old mid new : SearchState) (id : ℕ) → Joins scopes old mid id
    → mid.long ≡ old.long → new ≡ with_long mid (mid.long + one_if (is_long mid.derivation id))
    → new.long ≤ old.long + one_if (is_long old.derivation id)
one_joined scopes old mid new id joins same is =
    let was = ap one_if (long_as_was old.derivation mid.derivation id joins.steps joins.others) in
    let now = ap (λ (s : SearchState). s.long) is in
    omega (arith, was, now, same)

module _ (old mid : SearchState) (id : ℕ) (parts : Parts old mid id)
    (live : IsTrue (is_live old.derivation id))
    (held : is_attached (side_at old.derivation id) (rows_of old) id ≡ true) where
  gone_now : is_attached (side_at mid.derivation id) (rows_of mid) id ≡ false
  gone_now = ⊎_elim (λ t. absurd (parts.gone (side_at mid.derivation id) t)) (λ f. f)
      (cases_Bool (is_attached (side_at mid.derivation id) (rows_of mid) id))

  pub tally_parted : long_in old.derivation ≡ long_in mid.derivation + one_if (is_long mid.derivation id)
  tally_parted =
      let was = long_as_was old.derivation mid.derivation id parts.steps parts.others in
      ⊎_elim
      (λ t.
      let e : one_if (is_long mid.derivation id) ≡ 1 = ap one_if t in
      let r = one_less old.derivation mid.derivation id parts.steps parts.others live
      (kept_both old.derivation id held (sym was ∙ t)) (kept_detached mid.derivation id gone_now) in
      omega (arith, e, r))
      (λ f.
      let e : one_if (is_long mid.derivation id) ≡ 0 = ap one_if f in
      let r = as_many old.derivation mid.derivation id parts.steps parts.others
      (kept_short mid.derivation id f ∙ sym (kept_short old.derivation id (sym was ∙ f))) in
      omega (arith, e, r))
      (cases_Bool (is_long mid.derivation id))

  pub tallied_parted : IsTallied old → mid.long ≡ old.long
      → IsTallied (with_long mid (mid.long - one_if (is_long mid.derivation id)))
  tallied_parted tallied same = let r = tally_parted in let t = tallied in omega (arith, r, t, same)
