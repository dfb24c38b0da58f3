-- A look at a watch.
use Rattle.std.proofs.Common.{◌≡◌, ◌≢◌, ℕ, List, Contains, length, take, sym, ap, subst, ◌∙◌, inl, arith}
use Rattle.std.proofs.lemmas.List.{take_all}
use Rattle.prefix.specs.declared.quant.Quant.{Quant}
use Rattle.prefix.specs.Literal.{Literal}
use Rattle.prefix.specs.Scopes.{Scope}
use Rattle.truth.specs.Matrix.{Values}
use Rattle.calculus.specs.Rows.{Row}
use Rattle.calculus.specs.Search.{IsBadRow, IsUnitIn, literals_on, value_on}
use Rattle.trail.specs.State.{TrailState}
use Rattle.derive.specs.State.{row_of}
use Rattle.watch.specs.State.{Holds, IsFront, looked}
use Rattle.watch.specs.Links.{is_attached}
use Rattle.watch.specs.Laws.{HoldingLaws}
use Rattle.watch.specs.Events.{AreQuiet}
use Rattle.clean.specs.Reasons.{HaveReasons}
use Rattle.search.specs.State.{IsIntact, IsSearching, SearchState, rows_of, watch_of}
use Rattle.search.specs.Watching.{KeepsMarks, Looks, Touches}
use Rattle.search.proofs.Tallying.{tally_marks}
use Rattle.search.proofs.Marks.{intact_stays, live_same, marked_as_was, reasons_same, same_mark}

-- a list is a front of itself
whole : {A : Type 0} (xs : List A) → take (length xs) xs ≡ xs
whole xs = take_all (length xs) xs (omega arith)

pub front_whole : (xs ys : List Literal) → xs ≡ ys → IsFront xs ys
front_whole xs ys e = subst (λ zs. zs ≡ take (length zs) ys) (sym e) (sym (whole ys))

-- only one watch changed, and the links of its rows
pub record LooksAt (pivot : Quant) (scopes : List Scope) (old new : SearchState) : Type 0 where
  pub trail : new.trail ≡ old.trail
  pub signs : new.signs ≡ old.signs
  pub watched : new.watched ≡ old.watched
  pub long : new.long ≡ old.long
  pub others : (other : Quant) → pivot ≢ other → watch_of other new ≡ watch_of other old
  pub touches : Touches pivot old.derivation new.derivation
  pub holds : Holds pivot scopes (watch_of pivot new) (rows_of new)
  pub looked : looked (watch_of pivot new) ≡ literals_on old.trail.placed
  pub room : (watch_of pivot new).room ≡ (watch_of pivot old).room
  pub marks : KeepsMarks (rows_of old) (rows_of new)

module _ (laws : HoldingLaws) (pivot : Quant) (scopes : List Scope) (old new : SearchState)
    (looks : LooksAt pivot scopes old new) (searching : IsSearching scopes old) where
  same_attached : (side : Quant) (id : ℕ) → is_attached side (rows_of new) id ≡ is_attached side (rows_of old) id
  same_attached side id = same_mark side (rows_of old) (rows_of new) id (looks.marks id)

  still_intact : IsIntact scopes new
  still_intact =
      let intact = searching.paused.intact in
      intact_stays laws pivot scopes old new (record {
        watched = record {
          steps = looks.touches.steps;
          watched = looks.watched;
          marked = λ id. marked_as_was (rows_of old) (rows_of new) id (looks.marks id) (intact.watched.marked id);
          attached = λ side id a. inl (sym (same_attached side id) ∙ a);
        };
        trail = looks.trail;
        signs = looks.signs;
        legal = looks.touches.legal;
        others = looks.others;
        agrees = looks.touches.agrees;
        holds = looks.holds;
        front = front_whole (looked (watch_of pivot new)) (literals_on old.trail.placed) looks.looked;
        room = looks.room;
      }) intact

  pub looks_on : Looks scopes old new
  looks_on = record {
    searching = record {
      paused = record {
        intact = still_intact;
        attached =
            λ id i live.
            let a = searching.paused.attached id (subst (λ ids. Contains ids id) looks.watched i)
            (sym (live_same old.derivation new.derivation looks.touches.steps id) ∙ live) in
            (a.0, same_attached a.0 id ∙ a.1);
        tallied = looks.long ∙ (searching.paused.tallied
            ∙ sym (tally_marks old.derivation new.derivation looks.touches.steps looks.marks));
      };
      reasons = λ side. subst (HaveReasons side scopes new.derivation) (sym looks.trail)
          (reasons_same old.derivation new.derivation looks.touches.steps side scopes old.trail
          (searching.reasons side));
    };
    steps = looks.touches.steps;
    trail = looks.trail;
    marks = looks.marks;
    long = looks.long;
  }

-- a watch that was quiet is so after a look at another one
pub quiet_stays : (pivot : Quant) (scopes : List Scope) (old new : SearchState) → Looks scopes old new
    → AreQuiet pivot scopes (value_on old.trail.placed) (rows_of old)
    → AreQuiet pivot scopes (value_on new.trail.placed) (rows_of new)
quiet_stays pivot scopes old new looks quiet =
    let values : value_on new.trail.placed ≡ value_on old.trail.placed =
    ap (λ (t : TrailState). value_on t.placed) looks.trail in
    let attached : (id : ℕ) → is_attached pivot (rows_of new) id ≡ is_attached pivot (rows_of old) id =
    λ id. same_mark pivot (rows_of old) (rows_of new) id (looks.marks id) in
    record {
      none_bad =
          λ id a is_bad.
          quiet.none_bad id (sym (attached id) ∙ a)
          (subst (IsBadRow pivot scopes (value_on old.trail.placed)) (looks.steps.literals id)
          (subst (λ (v : Values). IsBadRow pivot scopes v (row_of new.derivation id)) values is_bad));
      none_unit =
          λ id l a is_unit.
          quiet.none_unit id l (sym (attached id) ∙ a)
          (subst (λ (row : Row). IsUnitIn pivot scopes (value_on old.trail.placed) row l)
          (looks.steps.literals id) (subst (λ (v : Values). IsUnitIn pivot scopes v (row_of new.derivation id) l)
          values is_unit));
    }
