-- Derivations that grow by added steps.
use Rattle.std.proofs.Common.{◌≡◌, ◌≢◌, ℕ, zero, suc, ◌<◌, ◌≤◌, ◌++◌, ◌∷◌, [], length, get_or, replicate, nat_lt, false, Option, Some, None, is_some, unwrap_or, IsTrue, Result, Ok, Err, refl, ap, ◌∙◌, ⊎_elim, arith}
use Rattle.std.specs.Prelude.{IfOk, OnOk}
use Rattle.std.specs.List.{cons_option}
use Rattle.std.proofs.lemmas.Bool.{cases_eq, cases_lt, cond-true, lt-ltb, true≢false}
use Rattle.std.proofs.lemmas.List.{append-nil}
use Rattle.prefix.specs.declared.quant.Quant.{Quant}
use Rattle.prefix.specs.declared.quant.Quant.TheVariants.{Exists, Forall}
use Rattle.rows.specs.Arena.{Arena, StoredRow, link_at, links_of, new_row, with_row, row_at as stored_at}
use Rattle.calculus.specs.Rows.{Row}
use Rattle.calculus.specs.Derivations.{Why}
use Rattle.calculus.specs.Derivations.Why.{Given, ReducedFrom, ResolvedFrom, FinishedFrom}
use Rattle.derive.specs.State.{Note, Notes, State, SameStep, next_id, is_live, note_in, note_at, side_at, clauses_of, clause_from, clause_with}
use Rattle.derive.specs.Antecedents.{Fits}
use Rattle.derive.specs.Adding.{Adds, IsOver, Removes}
use Rattle.derive.specs.Growing.{Grows, AreUnlinked, GainsSteps}
use Rattle.derive.specs.Theorems.{CutsTo}
use Rattle.derive.proofs.Additions.{live_below, pushed_length, pushed_new, pushed_old, pushed_past}

pub grows_itself : (d : State) → Grows d d
grows_itself d = record {
  longer = omega arith;
  others = λ id live. record { note = refl; row = refl };
  given =
      λ id h. refl;
}

-- what holds of a step on, by what it leaves
further : (before middle after : State) → Grows before middle → next_id middle ≤ next_id after
    → ((id : ℕ) → IsTrue (is_live middle id) → SameStep middle after id)
    → ((id : ℕ) → id < next_id middle → is_live after id ≡ is_live middle id) → Grows before after
further before middle after grows longer others given =
    record {
      longer = let h = grows.longer in omega arith;
      others =
          λ id live.
          let first = grows.others id live in
          let second = others id (ap is_some first.note ∙ live) in
          record { note = second.note ∙ first.note; row = second.row ∙ first.row };
      given = λ id h. let longer_middle = grows.longer in given id (omega arith) ∙ grows.given id h;
    }

longer_by_step : (middle after : State) (id : ℕ) (note : Note) (row : Row) → Adds middle after id note row
    → next_id middle ≤ next_id after
longer_by_step middle after id note row adds =
    let same : next_id after ≡ length (middle.notes ++ Some note ∷ []) = ap next_id adds.state in
    let more = pushed_length middle.notes (Some note) in
    omega arith

pub grows_by_step : (before middle after : State) (id : ℕ) (note : Note) (row : Row) → Grows before middle
    → Adds middle after id note row → Grows before after
grows_by_step before middle after id note row grows adds = further before middle after grows
    (longer_by_step middle after id note row adds) adds.others adds.given

pub grows_by_removal : (before middle after : State) (id on : ℕ) (why : Why) (row : Row) → Grows before middle
    → Removes middle after id on why row → Grows before after
grows_by_removal before middle after id on why row grows removes =
    further before middle after grows
    (⊎_elim (λ same. let e : next_id after ≡ next_id middle = ap next_id same.2 in omega arith)
    (λ more. longer_by_step middle after id _ row more.1) removes.cases)
    removes.others removes.given

pub grows_twice : (first middle last : State) → Grows first middle → Grows middle last → Grows first last
grows_twice first middle last before after = further first middle last before after.longer after.others after.given

-- a cut to the id that came next leaves what was live before
pub grows_cut : (before after cut : State) → Grows before after → CutsTo (next_id before) after cut → Grows before cut
grows_cut before after cut grows cuts =
    record {
      longer = let longer = grows.longer in let same = cuts.drops.exactly.same_next in omega arith;
      others =
          λ id live.
          let first = grows.others id live in
          let stays = note_stays id (live_below before.notes id live) in
          let second = cuts.drops.others id (ap is_some (stays ∙ first.note) ∙ live) in
          record { note = second.note ∙ first.note; row = second.row ∙ first.row };
      given = λ id h. ap is_some (note_stays id h) ∙ grows.given id h;
    }
  where
    note_stays : (id : ℕ) → id < next_id before → note_at cut id ≡ note_at after id
    note_stays id h = cuts.front id ∙ cond-true (nat_lt id (next_id before)) (note_at after id) None
        (lt-ltb id (next_id before) h)

-- links of rows that come in

all_alike : (o : Option ℕ) (n k : ℕ) → get_or (replicate n o) k o ≡ o
all_alike o zero k = refl
all_alike o (suc n) zero = refl
all_alike o (suc n) (suc k) = all_alike o n k

-- an id that isn't live has no row, so no links
pub dead_unlinked : (notes : Notes) (arena : Arena) → Fits notes arena → (id k : ℕ) → is_some (note_in notes id) ≡ false
    → link_at arena id k ≡ None
dead_unlinked notes arena fits id k dead = ap (λ (s : Option StoredRow). get_or (links_of s) k None)
    (row_none (stored_at arena id) (fits.same_live id ∙ dead))
  where
    row_none : (s : Option StoredRow) → is_some s ≡ false → s ≡ None
    row_none None h = refl
    row_none (Some row) h = absurd (true≢false h)

-- a row that comes in brings no link
pushed_unlinked : (arena : Arena) (row : Row) (id k : ℕ) → link_at arena id k ≡ None → link_at (with_row arena row) id
    k ≡ None
pushed_unlinked arena row id k none =
    ⊎_elim
    (λ (below : id < length arena). ap (λ (s : Option StoredRow). get_or (links_of s) k None)
    (pushed_old arena (Some (new_row row)) None id below) ∙ none)
    (λ (late : length arena ≤ id).
    ⊎_elim
    (λ (last : id ≡ length arena). ap (λ (s : Option StoredRow). get_or (links_of s) k None)
    (pushed_new arena (Some (new_row row)) None id last) ∙ all_alike None 8 k)
    (λ (apart : id ≢ length arena). ap (λ (s : Option StoredRow). get_or (links_of s) k None)
    (pushed_past arena (Some (new_row row)) None id (omega arith)))
    (cases_eq id (length arena)))
    (cases_lt id (length arena))

-- the same where the parts are told by equations
pub adds_unlinked : (d : State) (notes after : Notes) (rows : Option Arena) (arena new_arena : Arena) (row : Row)
    → record { notes = notes; rows = rows } ≡ d → rows ≡ Some arena → new_arena ≡ with_row arena row → Fits notes arena
    → AreUnlinked d (record { notes = after; rows = Some new_arena })
adds_unlinked d notes after rows arena new_arena row view has is fits =
    rw (← view, is) (λ id k dead. pushed_unlinked arena row id k (dead_unlinked notes arena fits id k dead))

-- and with two rows
pub pair_unlinked : (d : State) (notes after : Notes) (rows : Option Arena) (arena new_arena : Arena)
    (row reduced : Row) → record { notes = notes; rows = rows } ≡ d → rows ≡ Some arena → new_arena ≡ with_row
    (with_row arena row) reduced → Fits notes arena → AreUnlinked d (record { notes = after; rows = Some new_arena })
pair_unlinked d notes after rows arena new_arena row reduced view has is fits =
    rw (← view, is) (λ id k dead. pushed_unlinked (with_row arena row) reduced id k
    (pushed_unlinked arena row id k (dead_unlinked notes arena fits id k dead)))

-- no link is there where nothing came in
pub same_unlinked : (d : State) (arena : Arena) → d.rows ≡ Some arena → Fits d.notes arena → AreUnlinked d d
same_unlinked d arena has fits id k dead = ap (λ (rows : Option Arena). link_at (unwrap_or rows []) id k) has
    ∙ dead_unlinked d.notes arena fits id k dead

-- steps that are no input clauses

pub gains_by_step : (old new : State) (id : ℕ) (note : Note) (row : Row) → clause_from id row note ≡ None
    → Adds old new id note row → AreUnlinked old new → GainsSteps old new
gains_by_step old new id note row none adds unlinked = record {
  grows = grows_by_step old old new id note row (grows_itself old) adds;
  has_rows = adds.has_rows;
  unlinked = unlinked;
  clauses = adds.clauses ∙ ap (λ o. clauses_of old ++ cons_option o []) none ∙ append-nil (clauses_of old);
}

over_none : (id : ℕ) (row : Row) (tag : ℕ) (side : Quant) (why : Why) (on : ℕ) → IsOver why on
    → clause_with id row tag side why ≡ None
over_none id row tag side Given on over = absurd over
over_none id row tag Exists (ReducedFrom a) on over = refl
over_none id row tag Forall (ReducedFrom a) on over = refl
over_none id row tag side (ResolvedFrom a b x) on over = absurd over
over_none id row tag Exists (FinishedFrom a) on over = refl
over_none id row tag Forall (FinishedFrom a) on over = refl

pub gains_by_removal : (old new : State) (id on : ℕ) (why : Why) (row : Row) → IsOver why on
    → Removes old new id on why row → AreUnlinked old new → GainsSteps old new
gains_by_removal old new id on why row over removes unlinked = record {
  grows = grows_by_removal old old new id on why row (grows_itself old) removes;
  has_rows = removes.has_rows;
  unlinked = unlinked;
  clauses =
      ⊎_elim
      (λ same. ap clauses_of same.2)
      (λ more. more.1.clauses ∙ ap (λ o. clauses_of old ++ cons_option o [])
      (over_none id row _ (side_at old on) why on over) ∙ append-nil (clauses_of old))
      removes.cases;
}

pub resolvent_none : (id : ℕ) (row : Row) (tag : ℕ) (side : Quant) (a b x : ℕ) → clause_with id row tag side
    (ResolvedFrom a b x) ≡ None
resolvent_none id row tag Exists a b x = refl
resolvent_none id row tag Forall a b x = refl

-- two facts of one result
pub on_both : {T E P Q : Type 0} (A : T → Type 0) (r : Result T E) → ((x : T) → A x → P → Q) → IfOk r A → OnOk r P
    → OnOk r Q
on_both A (Ok x) f a p = f x a p
on_both A (Err e) f a p = tt

-- the same where a result tells it
pub gains_if_added : {E : Type 0} (old new : State) (note : Note) (row : Row) (r : Result ℕ E)
    → ((id : ℕ) → clause_from id row note ≡ None) → IfOk r (λ id. Adds old new id note row)
    → OnOk r (AreUnlinked old new) → OnOk r (GainsSteps old new)
gains_if_added old new note row r none = on_both (λ id. Adds old new id note row) r
    (λ id adds unlinked. gains_by_step old new id note row (none id) adds unlinked)

pub gains_if_removed : {E : Type 0} (old new : State) (on : ℕ) (why : Why) (row : Row) (r : Result ℕ E) → IsOver why on
    → IfOk r (λ id. Removes old new id on why row) → OnOk r (AreUnlinked old new) → OnOk r (GainsSteps old new)
gains_if_removed old new on why row r over = on_both (λ id. Removes old new id on why row) r
    (λ id removes unlinked. gains_by_removal old new id on why row over removes unlinked)
