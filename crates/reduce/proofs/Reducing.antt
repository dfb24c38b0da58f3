-- What goes in a reduction, by the greatest depth of the literals that aren't pivot-type.
use Rattle.std.proofs.Common.{◌≡◌, ℕ, ◌+◌, ◌<◌, ◌≤◌, ◌||◌, ◌&&◌, not, Bool, true, false, List, filter, Contains, Some, None, refl, sym, ap, ◌∙◌, ⊎_elim, arith, nat_lt}
use Rattle.std.specs.Prelude.{◌↔◌}
use Rattle.std.specs.List.{list_any}
use Rattle.std.proofs.lemmas.Bool.{and_from, and_parts, cases_Bool, cases_lt, cond-true, cond-false, lt-ltb, ltb-true, or_left, or_right, true≢false, false≢true}
use Rattle.prefix.specs.declared.quant.Quant.{Quant}
use Rattle.prefix.specs.Literal.{Literal}
use Rattle.prefix.specs.Scopes.{Scope}
use Rattle.calculus.specs.Rows.{Row, depth_of, is_blocked, is_pivot, reduce, stays}
use Rattle.calculus.proofs.Lists.{any_at, any_from, filter_all, filter_at}
use Rattle.reduce.specs.Deepest.{IsDeepestOther, goes_at, is_deeper, keeps_all}

clash : (b : Bool) → b ≡ true → b ≡ false → ⊥
clash b t f = true≢false (sym t ∙ f)

none_any : {X : Type 0} (p : X → Bool) (xs : List X) → list_any p xs ≡ false → (x : X) → Contains xs x → p x ≡ false
none_any p xs none x i =
    ⊎_elim (λ t. absurd (clash (list_any p xs) (any_from p xs x i t) none)) (λ f. f) (cases_Bool (p x))

-- of two tests
neither : (p b : Bool) → not (p || b) ≡ true → (p ≡ false) × (b ≡ false)
neither true b h = absurd (false≢true h)
neither false true h = absurd (false≢true h)
neither false false h = (refl, refl)

second : (p b : Bool) → (p || b) ≡ true → p ≡ false → b ≡ true
second true b h f = absurd (true≢false f)
second false b h f = h

either : (p b : Bool) → not (p || b) ≡ false → (p || b) ≡ true
either true b h = refl
either false true h = refl
either false false h = absurd (true≢false h)

deeper_if : (a d : Bool) → (not a || d) ≡ true → a ≡ true → d ≡ true
deeper_if true d h t = h
deeper_if false d h t = absurd (false≢true t)

not_below : (n : ℕ) → not (nat_lt n n) ≡ true
not_below n =
    ⊎_elim (λ t. absurd (let h : n < n = ltb-true n n t in omega (arith, h))) (λ f. ap not f) (cases_Bool (nat_lt n n))

below_next : (n : ℕ) → not (nat_lt n (n + 1)) ≡ false
below_next n = ap not (lt-ltb n (n + 1) (omega arith))

at_least : (m n : ℕ) → nat_lt m n ≡ false → n ≤ m
at_least m n f = ⊎_elim (λ below. absurd (clash (nat_lt m n) (lt-ltb m n below) f)) (λ h. h) (cases_lt m n)

module _ (pivot : Quant) (scopes : List Scope) (row : Row) where
  -- a row of which each literal stays
  reduce_all : ((l : Literal) → Contains row l → stays pivot scopes row l ≡ true) → reduce pivot scopes row ≡ row
  reduce_all all =
      ⊎_elim
      (λ t. cond-true (list_any (is_pivot pivot scopes) row) (filter (stays pivot scopes row) row) row t
      ∙ filter_all (stays pivot scopes row) row all)
      (λ f. cond-false (list_any (is_pivot pivot scopes) row) (filter (stays pivot scopes row) row) row f)
      (cases_Bool (list_any (is_pivot pivot scopes) row))

  -- a literal that doesn't go at a depth is pivot-type, or of a smaller depth
  smaller : (depth : ℕ) (l : Literal) → goes_at pivot scopes depth l ≡ false → is_pivot pivot scopes l ≡ false
      → depth_of scopes l.variable < depth
  smaller depth l stands other =
      ltb-true (depth_of scopes l.variable) depth
      (second (is_pivot pivot scopes l) (nat_lt (depth_of scopes l.variable) depth)
      (either (is_pivot pivot scopes l) (nat_lt (depth_of scopes l.variable) depth) stands) other)

  -- each literal is pivot-type
  pub all_pivots : IsDeepestOther pivot scopes row None → reduce pivot scopes row ≡ row
  all_pivots none = reduce_all (λ l i. ⊎_elim
      (λ t. or_left (is_pivot pivot scopes l) (is_blocked pivot scopes row l) t)
      (λ f. absurd (let below : depth_of scopes l.variable < 0 =
      smaller 0 l (none_any (goes_at pivot scopes 0) row (none 0) l i) f in omega arith))
      (cases_Bool (is_pivot pivot scopes l)))

  module _ (depth : ℕ) (other : IsDeepestOther pivot scopes row (Some depth)) where
    -- a deeper pivot-type literal blocks all others
    stays_by : (p : Literal) → Contains row p → is_deeper pivot scopes depth p ≡ true → (l : Literal) → Contains row l
        → stays pivot scopes row l ≡ true
    stays_by p i deep l j =
        let parts = and_parts (is_pivot pivot scopes p) (nat_lt depth (depth_of scopes p.variable)) deep in
        let far : depth < depth_of scopes p.variable = ltb-true depth (depth_of scopes p.variable) parts.1 in
        ⊎_elim
        (λ t. or_left (is_pivot pivot scopes l) (is_blocked pivot scopes row l) t)
        (λ f.
        let near : depth_of scopes l.variable < depth + 1 =
        smaller (depth + 1) l
        (none_any (goes_at pivot scopes (depth + 1)) row (other (depth + 1) ∙ below_next depth) l j) f in
        let below : depth_of scopes l.variable < depth_of scopes p.variable = omega arith in
        or_right (is_pivot pivot scopes l) (is_blocked pivot scopes row l)
        (any_from (λ q. is_pivot pivot scopes q && nat_lt (depth_of scopes l.variable) (depth_of scopes q.variable)) row
        p i (and_from (is_pivot pivot scopes p) (nat_lt (depth_of scopes l.variable) (depth_of scopes p.variable))
        parts.0 (lt-ltb (depth_of scopes l.variable) (depth_of scopes p.variable) below))))
        (cases_Bool (is_pivot pivot scopes l))

    kept : keeps_all pivot scopes depth row ≡ true → reduce pivot scopes row ≡ row
    kept keeps =
        ⊎_elim
        (λ t.
        let deep =
        any_at (is_deeper pivot scopes depth) row
        (deeper_if (list_any (is_pivot pivot scopes) row) (list_any (is_deeper pivot scopes depth) row) keeps t) in
        reduce_all (stays_by deep.0 deep.1 deep.2))
        (λ f. cond-false (list_any (is_pivot pivot scopes) row) (filter (stays pivot scopes row) row) row f)
        (cases_Bool (list_any (is_pivot pivot scopes) row))

    -- a deepest other literal that stays is blocked by a deeper one
    deeper_there : filter (stays pivot scopes row) row ≡ row → list_any (is_deeper pivot scopes depth) row ≡ true
    deeper_there whole =
        let last = any_at (goes_at pivot scopes depth) row (other depth ∙ not_below depth) in
        let l : Literal = last.0 in
        let parts = neither (is_pivot pivot scopes l) (nat_lt (depth_of scopes l.variable) depth) last.2 in
        let high : depth ≤ depth_of scopes l.variable = at_least (depth_of scopes l.variable) depth parts.1 in
        let stands : Contains (filter (stays pivot scopes row) row) l = rw whole last.1 in
        let blocked =
        second (is_pivot pivot scopes l) (is_blocked pivot scopes row l)
        (filter_at (stays pivot scopes row) row l stands).1 parts.0 in
        let by =
        any_at (λ q. is_pivot pivot scopes q && nat_lt (depth_of scopes l.variable) (depth_of scopes q.variable)) row
        blocked in
        let q : Literal = by.0 in
        let both =
        and_parts (is_pivot pivot scopes q) (nat_lt (depth_of scopes l.variable) (depth_of scopes q.variable)) by.2 in
        let above : depth_of scopes l.variable < depth_of scopes q.variable =
        ltb-true (depth_of scopes l.variable) (depth_of scopes q.variable) both.1 in
        any_from (is_deeper pivot scopes depth) row q by.1
        (and_from (is_pivot pivot scopes q) (nat_lt depth (depth_of scopes q.variable)) both.0
        (lt-ltb depth (depth_of scopes q.variable) (omega arith)))

    keeps_if : reduce pivot scopes row ≡ row → keeps_all pivot scopes depth row ≡ true
    keeps_if whole =
        ⊎_elim
        (λ t. or_right (not (list_any (is_pivot pivot scopes) row)) (list_any (is_deeper pivot scopes depth) row)
        (deeper_there
        (sym (cond-true (list_any (is_pivot pivot scopes) row) (filter (stays pivot scopes row) row) row t) ∙ whole)))
        (λ f. or_left (not (list_any (is_pivot pivot scopes) row)) (list_any (is_deeper pivot scopes depth) row)
        (ap not f))
        (cases_Bool (list_any (is_pivot pivot scopes) row))

    pub keeps_where : (keeps_all pivot scopes depth row ≡ true) ↔ (reduce pivot scopes row ≡ row)
    keeps_where = (kept, keeps_if)
