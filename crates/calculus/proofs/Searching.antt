-- The steps of cleaning and of analysis, under a partial assignment with places.
use Rattle.std.proofs.Common.{List, ◌≡◌, ℕ, ◌<◌, ◌≤◌, ◌⊎◌, Bool, true, false, ◌&&◌, Contains, filter, Option, Some, None, is_some, is_none, sym, refl, ap, ◌∙◌, inl, inr, ⊎_elim, arith, nat_lt, nat_le}
use Rattle.std.specs.List.{list_any}
use Rattle.prefix.specs.Literal.{Literal}
use Rattle.prefix.specs.Scopes.{Scope}
use Rattle.prefix.specs.Sides.{bad_of}
use Rattle.prefix.specs.declared.quant.Quant.{Quant}
use Rattle.prefix.specs.declared.quant.Quant.TheVariants.{Exists, Forall}
use Rattle.truth.specs.Matrix.{Values, same as same_bool}
use Rattle.calculus.specs.Rows.{Row, depth_of, is_blocked, is_pivot, reduce, stays}
use Rattle.calculus.specs.Search.{Blocks, IsClean, IsKept, IsPending, IsUnitIn, values_up_to, is_bad_if, is_bad_now, is_open}
use Rattle.std.proofs.lemmas.Bool.{cond_both, cases_lt, cond-true, cond-false, and_parts, ltb-true, le-leb, lt-leb, or_cases, false≢true, true≢false}
use Rattle.calculus.proofs.Lists.{any_at, filter_at}
use Rattle.std.specs.Prelude.{IsTrue}

-- each literal but the one over a variable is bad, and stood on the trail before it
abbrev pub IsReason : Quant → Values → (ℕ → ℕ) → Row → ℕ → Type 0
IsReason pivot values place row x = (literal : Literal) → Contains row literal → (literal.variable ≡ x)
    ⊎ (IsTrue (is_bad_now pivot values literal) × (place literal.variable < place x))

-- what is assigned is not open
pub bad_not_open : (pivot : Quant) (o : Option Bool) (l : Literal) → is_bad_if pivot o l ≡ true → is_none o ≡ true → ⊥
bad_not_open pivot None l bad open_ = false≢true bad
bad_not_open pivot (Some b) l bad open_ = false≢true open_

bad_signs : (pivot : Quant) (b p q : Bool) → same_bool (same_bool b p) (bad_of pivot) ≡ true → same_bool (same_bool b q)
    (bad_of pivot) ≡ true → p ≡ q
bad_signs Exists true true true e f = refl
bad_signs Exists true true false e f = absurd (false≢true e)
bad_signs Exists true false true e f = absurd (false≢true f)
bad_signs Exists true false false e f = refl
bad_signs Exists false true true e f = refl
bad_signs Exists false true false e f = absurd (false≢true f)
bad_signs Exists false false true e f = absurd (false≢true e)
bad_signs Exists false false false e f = refl
bad_signs Forall true true true e f = refl
bad_signs Forall true true false e f = absurd (false≢true f)
bad_signs Forall true false true e f = absurd (false≢true e)
bad_signs Forall true false false e f = refl
bad_signs Forall false true true e f = refl
bad_signs Forall false true false e f = absurd (false≢true e)
bad_signs Forall false false true e f = absurd (false≢true f)
bad_signs Forall false false false e f = refl

bad_alike : (pivot : Quant) (o : Option Bool) (l m : Literal) → is_bad_if pivot o l ≡ true → is_bad_if pivot o m ≡ true
    → l.positive ≡ m.positive
bad_alike pivot None l m e f = absurd (false≢true e)
bad_alike pivot (Some b) l m e f = bad_signs pivot b l.positive m.positive e f

pub bad_assigned : (pivot : Quant) (o : Option Bool) (l : Literal) → is_bad_if pivot o l ≡ true → is_some o ≡ true
bad_assigned pivot None l bad = absurd (false≢true bad)
bad_assigned pivot (Some b) l bad = refl

module _ (pivot : Quant) (scopes : List Scope) (values : Values) (kept : Option Literal) where
  -- without blockers the reduction of a row with a pivot-type literal is clean
  pub unblocked_clean : (row : Row) → IsPending pivot scopes values kept row → list_any (is_pivot pivot scopes)
      row ≡ true → ((f u : Literal) → Blocks pivot scopes values row f u → ⊥) → (l : Literal)
      → Contains (reduce pivot scopes row) l → IsKept kept l ⊎ (is_bad_now pivot values l ≡ true)
  unblocked_clean row pending has_pivot free l i =
      let i' : Contains (filter (stays pivot scopes row) row) l =
      rw (cond-true (list_any (is_pivot pivot scopes) row) (filter (stays pivot scopes row) row) row has_pivot) at
      i in
      let r = filter_at (stays pivot scopes row) row l i' in
      ⊎_elim inl
      (λ s. ⊎_elim inr
      (λ o. ⊎_elim
      (λ p. absurd (true≢false (sym p ∙ o.1)))
      (λ b.
      let q = any_at (λ (p : Literal). is_pivot pivot scopes p && nat_lt (depth_of scopes l.variable)
      (depth_of scopes p.variable)) row b in
      let parts = and_parts (is_pivot pivot scopes q.0)
      (nat_lt (depth_of scopes l.variable) (depth_of scopes q.0.variable)) q.2 in
      absurd (free q.0 l
      (record {
        blocker_stands = q.1;
        blocked_stands = r.0;
        pivot_type = parts.0;
        open_yet = o.0;
        other_type = o.1;
        later = ltb-true (depth_of scopes l.variable) (depth_of scopes q.0.variable) parts.1;
      })))
      (or_cases (is_pivot pivot scopes l) (is_blocked pivot scopes row l) r.1))
      s)
      (pending l r.0)

module _ (pivot : Quant) (scopes : List Scope) (values : Values) (place : ℕ → ℕ) (kept : Option Literal)
    (kept_open : (k : Literal) → kept ≡ Some k → is_open values k ≡ true) where
  -- the one to keep is not assigned
  kept_not_bad : (o : Option Literal) → kept ≡ o → (l : Literal) → IsKept o l → is_open values l ≡ true
  kept_not_bad None e l k = absurd k
  kept_not_bad (Some m) e l k = rw k (kept_open m e)

  -- a row and a reason have no clash but at the reason's own variable
  pub reason_no_clash : (row reason : Row) (x : ℕ) → IsPending pivot scopes values kept row
      → IsReason pivot values place reason x → (l m : Literal) → Contains row l → Contains reason m
      → l.variable ≡ m.variable → (l.variable ≡ x → ⊥) → l.positive ≡ m.positive
  reason_no_clash row reason x pending is_reason l m i j e ne =
      ⊎_elim (λ same. absurd (ne (e ∙ same)))
      (λ r.
      let m_bad : is_bad_if pivot (values l.variable) m ≡ true = rw e r.0 in
      ⊎_elim (λ k. absurd (bad_not_open pivot (values l.variable) m m_bad (kept_not_bad kept refl l k)))
      (λ s. ⊎_elim (λ l_bad. bad_alike pivot (values l.variable) l m l_bad m_bad)
      (λ o. absurd (bad_not_open pivot (values l.variable) m m_bad o.0))
      s)
      (pending l i))
      (is_reason m j)

  -- what the literals of a resolvent are: a literal of the row, or bad and before the resolved one
  abbrev pub Mixes : Row → Row → ℕ → Row → Type 0
  Mixes row reason x result = (l : Literal) → Contains result l → (Contains row l ⊎ Contains reason l)
      × (l.variable ≡ x → ⊥)

  pub mixed_literal : (row reason result : Row) (x : ℕ) → IsReason pivot values place reason x
      → Mixes row reason x result → (l : Literal) → Contains result l → Contains row l
      ⊎ ((is_bad_now pivot values l ≡ true) × (place l.variable < place x))
  mixed_literal row reason result x is_reason mixes l i =
      let m = mixes l i in
      ⊎_elim inl (λ j. ⊎_elim (λ e. absurd (m.1 e)) inr (is_reason l j)) m.0

  -- the resolvent is pending too
  pub mixed_pending : (row reason result : Row) (x : ℕ) → IsPending pivot scopes values kept row
      → IsReason pivot values place reason x → Mixes row reason x result → IsPending pivot scopes values kept result
  mixed_pending row reason result x pending is_reason mixes l i =
      ⊎_elim (λ j. pending l j) (λ r. inr (inl r.0)) (mixed_literal row reason result x is_reason mixes l i)

  -- an open literal of the resolvent stood in the row
  pub mixed_open : (row reason result : Row) (x : ℕ) → IsReason pivot values place reason x → Mixes row reason x result
      → (l : Literal) → Contains result l → is_open values l ≡ true → Contains row l
  mixed_open row reason result x is_reason mixes l i o =
      ⊎_elim (λ j. j) (λ r. absurd (bad_not_open pivot (values l.variable) l r.0 o))
      (mixed_literal row reason result x is_reason mixes l i)

  -- a part of a row is pending, and has no further blockers
  pub part_pending : (row part : Row) → ((l : Literal) → Contains part l → Contains row l)
      → IsPending pivot scopes values kept row → IsPending pivot scopes values kept part
  part_pending row part within pending l i = pending l (within l i)

  pub part_blocks : (row part : Row) → ((l : Literal) → Contains part l → Contains row l) → (f u : Literal)
      → Blocks pivot scopes values part f u → Blocks pivot scopes values row f u
  part_blocks row part within f u b = record {
    blocker_stands = within f b.blocker_stands;
    blocked_stands =
        within u b.blocked_stands;
    pivot_type = b.pivot_type;
    open_yet = b.open_yet;
    other_type = b.other_type;
    later =
        b.later;
  }

  pub reduce_within : (row : Row) (l : Literal) → Contains (reduce pivot scopes row) l → Contains row l
  reduce_within row l = cond_both (list_any (is_pivot pivot scopes) row) (filter (stays pivot scopes row) row) row
      (λ r. Contains r l → Contains row l) (λ t i. (filter_at (stays pivot scopes row) row l i).0) (λ f i. i)

  -- a blocker is bad, since the one to keep blocks nothing
  pub blocker_bad : (row : Row) → IsPending pivot scopes values kept row → (f u : Literal)
      → Blocks pivot scopes values row f u → is_bad_now pivot values f ≡ true
  blocker_bad row pending f u b =
      ⊎_elim (λ k. absurd (kept_blocks_not kept refl k))
      (λ s. ⊎_elim (λ t. t) (λ o. absurd (true≢false (sym b.pivot_type ∙ o.1))) s)
      (pending f b.blocker_stands)
    where
      kept_blocks_not : (o : Option Literal) → kept ≡ o → IsKept o f → ⊥
      kept_blocks_not None e k = k
      kept_blocks_not (Some m) e k =
          let same : kept ≡ Some f = e ∙ ap Some (sym k) in
          ⊎_elim (λ ku. let u_is : u ≡ f = rw same at ku in true≢false (sym b.pivot_type ∙ rw u_is at b.other_type))
          (λ s. ⊎_elim (λ bad. bad_not_open pivot (values u.variable) u bad b.open_yet)
          (λ o. let late : depth_of scopes f.variable < depth_of scopes u.variable = rw same at o.2 in let l =
          b.later in omega arith) s)
          (pending u b.blocked_stands)

  -- with the last blocker resolved, the blockers left stood before it
  pub blockers_fall : (apart : (y z : ℕ) → is_some (values y) ≡ true → is_some (values z) ≡ true → place y ≡ place z
      → y ≡ z) (row reason result : Row) (x : ℕ) → is_some (values x) ≡ true → IsPending pivot scopes values kept row
      → IsReason pivot values place reason x → Mixes row reason x result
      → ((f u : Literal) → Blocks pivot scopes values row f u → place f.variable ≤ place x)
      → (f u : Literal) → Blocks pivot scopes values result f u → place f.variable < place x
  blockers_fall apart row reason result x on_trail pending is_reason mixes last f u blocks =
      ⊎_elim
      (λ j.
      let at_most : place f.variable ≤ place x =
      last f u (record {
        blocker_stands = j;
        blocked_stands = mixed_open row reason result x is_reason mixes u
            blocks.blocked_stands blocks.open_yet;
        pivot_type = blocks.pivot_type;
        open_yet = blocks.open_yet;
        other_type = blocks.other_type;
        later = blocks.later;
      }) in
      let differ : place f.variable ≡ place x → ⊥ = λ e. (mixes f blocks.blocker_stands).1
      (apart f.variable x
      (bad_assigned pivot (values f.variable) f
      (blocker_bad result (mixed_pending row reason result x pending is_reason mixes) f u blocks)) on_trail e) in
      omega arith)
      (λ r. r.1)
      (mixed_literal row reason result x is_reason mixes f blocks.blocker_stands)

-- the level-wise part of analysis

-- bad values stay where the variable's level is kept
cut_bad : (pivot : Quant) (values : Values) (decision_level : ℕ → ℕ) (b : ℕ) (l : Literal)
    → decision_level l.variable ≤ b → is_bad_now pivot values l ≡ true → is_bad_now pivot
    (values_up_to values decision_level b) l ≡ true
cut_bad pivot values decision_level b l low bad = ap (λ o. is_bad_if pivot o l)
    (cond-true (nat_le (decision_level l.variable) b) (values l.variable) None
    (le-leb (decision_level l.variable) b low)) ∙ bad

cut_open : (values : Values) (decision_level : ℕ → ℕ) (b : ℕ) (l : Literal) → b < decision_level l.variable
    → is_open (values_up_to values decision_level b) l ≡ true
cut_open values decision_level b l high =
    ap is_none (cond-false (nat_le (decision_level l.variable) b) (values l.variable) None
    (lt-leb (decision_level l.variable) b high))

-- a clean row is unit at a level below that of one of its pivot-type literals and not below those of the others and of
-- its literals of earlier scopes
pub unit_at_level : (pivot : Quant) (scopes : List Scope) (values : Values) (decision_level : ℕ → ℕ) (row : Row)
    (e : Literal) (b : ℕ) → IsClean pivot values row → Contains row e → is_pivot pivot scopes e ≡ true
    → b < decision_level e.variable
    → ((l : Literal) → Contains row l → (l ≡ e) ⊎ ((decision_level l.variable ≤ b) ⊎ (is_pivot pivot scopes l ≡ false)
    × (depth_of scopes e.variable < depth_of scopes l.variable)))
    → IsUnitIn pivot scopes (values_up_to values decision_level b) row e
unit_at_level pivot scopes values decision_level row e b clean i p below others = record {
  stands = i;
  pivot_type = p;
  open_yet = cut_open values decision_level b e below;
  others = λ l j. ⊎_elim inl
      (λ r. inr (⊎_elim (λ low. inl (cut_bad pivot values decision_level b l low (clean l j)))
      (λ late. ⊎_elim (λ low. inl (cut_bad pivot values decision_level b l low (clean l j)))
      (λ (high : b < decision_level l.variable). inr (cut_open values decision_level b l high, late.0, late.1))
      (low_or_high (decision_level l.variable) b))
      r))
      (others l j);
}
  where
    low_or_high : (m n : ℕ) → (m ≤ n) ⊎ (n < m)
    low_or_high m n = ⊎_elim inr inl (cases_lt n m)
