-- What keeps a resolvent of reduced rows reduced.
use Rattle.std.proofs.Common.{◌≡◌, ℕ, ◌<◌, ◌≤◌, ◌&&◌, ◌⊎◌, not, Bool, true, List, filter, Contains, sym, subst, ap, ◌∙◌, inl, inr, ⊎_elim, arith, nat_eq, nat_le, nat_lt}
use Rattle.std.specs.List.{list_any}
use Rattle.std.proofs.lemmas.Bool.{and_from, and_parts, cases_Bool, cond-true, cond-false, cond_both, eq-eqb, eqb-true, leb-true, lt-ltb, ltb-true, or_cases, or_left, or_right, true≢false}
use Rattle.prefix.specs.declared.quant.Quant.{Quant}
use Rattle.prefix.specs.Literal.{Literal, negation}
use Rattle.prefix.specs.Scopes.{Scope}
use Rattle.calculus.specs.Rows.{Row, depth_of, is_blocked, is_pivot, reduce, resolve, stays}
use Rattle.calculus.specs.Search.{resolved_with}
use Rattle.calculus.proofs.Lists.{any_at, any_from, filter_all, filter_at}
use Rattle.calculus.proofs.RowLemmas.{resolve_at, resolve_left, resolve_right}
use Rattle.clean.specs.Staying.{has_as_deep, is_as_deep}

not_true : (b : Bool) → not b ≡ true → b ≡ true → ⊥
not_true b f t = true≢false (sym f ∙ ap not t)

module _ (pivot : Quant) (scopes : List Scope) where
  -- a row of which each literal stays
  reduce_whole : (row : Row) → ((l : Literal) → Contains row l → stays pivot scopes row l ≡ true)
      → reduce pivot scopes row ≡ row
  reduce_whole row all =
      ⊎_elim
      (λ t. cond-true (list_any (is_pivot pivot scopes) row) (filter (stays pivot scopes row) row) row t
      ∙ filter_all (stays pivot scopes row) row all)
      (λ f. cond-false (list_any (is_pivot pivot scopes) row) (filter (stays pivot scopes row) row) row f)
      (cases_Bool (list_any (is_pivot pivot scopes) row))

  -- a literal of a reduced row that has a pivot-type one
  stays_in : (row : Row) (p l : Literal) → reduce pivot scopes row ≡ row → Contains row p
      → is_pivot pivot scopes p ≡ true → Contains row l → stays pivot scopes row l ≡ true
  stays_in row p l whole i t j =
      let has = any_from (is_pivot pivot scopes) row p i t in
      let once : filter (stays pivot scopes row) row ≡ row =
      sym (cond-true (list_any (is_pivot pivot scopes) row) (filter (stays pivot scopes row) row) row has) ∙ whole in
      let k : Contains (filter (stays pivot scopes row) row) l =
      subst (λ (r : Row). Contains r l) (sym once) j in
      (filter_at (stays pivot scopes row) row l k).1

  -- a pivot-type literal of a greater depth blocks
  blocked_by : (row : Row) (l q : Literal) → Contains row q → is_pivot pivot scopes q ≡ true
      → depth_of scopes l.variable < depth_of scopes q.variable → stays pivot scopes row l ≡ true
  blocked_by row l q i t below =
      or_right (is_pivot pivot scopes l) (is_blocked pivot scopes row l)
      (any_from (λ p. is_pivot pivot scopes p && nat_lt (depth_of scopes l.variable) (depth_of scopes p.variable)) row
      q i (and_from (is_pivot pivot scopes q) (nat_lt (depth_of scopes l.variable) (depth_of scopes q.variable))
      t (lt-ltb (depth_of scopes l.variable) (depth_of scopes q.variable) below)))

  -- a row with a pivot-type literal that is no shallower than a variable
  module _ (x : ℕ) (result : Row) (r : Literal) (stands : Contains result r)
      (pivot_type : is_pivot pivot scopes r ≡ true) (deep : depth_of scopes x ≤ depth_of scopes r.variable) where
    -- what comes into it from a reduced row with all but that variable
    stays_on : (row : Row) (p l : Literal) → reduce pivot scopes row ≡ row → Contains row p
        → is_pivot pivot scopes p ≡ true
        → ((q : Literal) → Contains row q → (q.variable ≡ x → ⊥) → Contains result q) → Contains row l
        → stays pivot scopes result l ≡ true
    stays_on row p l whole i t comes j =
        ⊎_elim
        (λ own. or_left (is_pivot pivot scopes l) (is_blocked pivot scopes result l) own)
        (λ blocked.
        let by =
        any_at (λ q. is_pivot pivot scopes q && nat_lt (depth_of scopes l.variable) (depth_of scopes q.variable)) row
        blocked in
        let q : Literal = by.0 in
        let both =
        and_parts (is_pivot pivot scopes q) (nat_lt (depth_of scopes l.variable) (depth_of scopes q.variable)) by.2 in
        let below : depth_of scopes l.variable < depth_of scopes q.variable =
        ltb-true (depth_of scopes l.variable) (depth_of scopes q.variable) both.1 in
        ⊎_elim
        (λ e.
        let same : depth_of scopes q.variable ≡ depth_of scopes x = ap (depth_of scopes) (eqb-true q.variable x e) in
        blocked_by result l r stands pivot_type (omega arith))
        (λ f.
        blocked_by result l q
        (comes q by.1 (λ e. true≢false (sym (eq-eqb q.variable x e) ∙ f))) both.0 below)
        (cases_Bool (nat_eq q.variable x)))
        (or_cases (is_pivot pivot scopes l) (is_blocked pivot scopes row l) (stays_in row p l whole i t j))

  -- the resolvent of two reduced rows on a variable of either
  module _ (a b : Row) (x : ℕ) (p q : Literal) (a_whole : reduce pivot scopes a ≡ a)
      (b_whole : reduce pivot scopes b ≡ b) (in_a : Contains a p) (in_b : Contains b q)
      (p_pivot : is_pivot pivot scopes p ≡ true) (q_pivot : is_pivot pivot scopes q ≡ true) where
    resolved_by : (r : Literal) → Contains (resolve a b x) r → is_pivot pivot scopes r ≡ true
        → depth_of scopes x ≤ depth_of scopes r.variable → reduce pivot scopes (resolve a b x) ≡ resolve a b x
    resolved_by r stands pivot_type deep =
        reduce_whole (resolve a b x)
        (λ l i.
        ⊎_elim
        (λ j. stays_on x (resolve a b x) r stands pivot_type deep a p l a_whole in_a p_pivot
        (λ m k ne. resolve_left a b x m k ne) j)
        (λ j. stays_on x (resolve a b x) r stands pivot_type deep b q l b_whole in_b q_pivot
        (λ m k ne. resolve_right a b x m k ne) j)
        (resolve_at a b x l i).0)

    -- where one of them has another pivot-type literal that is no shallower
    pub resolved_whole : (has_as_deep pivot scopes x a ≡ true) ⊎ (has_as_deep pivot scopes x b ≡ true)
        → reduce pivot scopes (resolve a b x) ≡ resolve a b x
    resolved_whole has =
        ⊎_elim
        (λ t. let at = any_at (is_as_deep pivot scopes x (depth_of scopes x)) a t in
        let parts = as_deep at.0 at.2 in
        resolved_by at.0 (resolve_left a b x at.0 at.1 parts.0) parts.1 parts.2)
        (λ t. let at = any_at (is_as_deep pivot scopes x (depth_of scopes x)) b t in
        let parts = as_deep at.0 at.2 in
        resolved_by at.0 (resolve_right a b x at.0 at.1 parts.0) parts.1 parts.2)
        has
      where
        as_deep : (l : Literal) → is_as_deep pivot scopes x (depth_of scopes x) l ≡ true
            → (l.variable ≡ x → ⊥) × (is_pivot pivot scopes l ≡ true)
            × (depth_of scopes x ≤ depth_of scopes l.variable)
        as_deep l t =
            let parts =
            and_parts (not (nat_eq l.variable x))
            (is_pivot pivot scopes l && nat_le (depth_of scopes x) (depth_of scopes l.variable)) t in
            let rest =
            and_parts (is_pivot pivot scopes l) (nat_le (depth_of scopes x) (depth_of scopes l.variable)) parts.1 in
            let differs : l.variable ≡ x → ⊥ =
            λ e. not_true (nat_eq l.variable x) parts.0 (eq-eqb l.variable x e) in
            (differs, rest.0, leb-true (depth_of scopes x) (depth_of scopes l.variable) rest.1)

-- a row with its reason
pub turn_whole : (pivot : Quant) (scopes : List Scope) (row reason : Row) (literal : Literal)
    → reduce pivot scopes row ≡ row → reduce pivot scopes reason ≡ reason → Contains row literal
    → Contains reason (negation literal) → is_pivot pivot scopes literal ≡ true
    → (has_as_deep pivot scopes literal.variable row ≡ true)
    ⊎ (has_as_deep pivot scopes literal.variable reason ≡ true)
    → reduce pivot scopes (resolved_with row reason literal) ≡ resolved_with row reason literal
turn_whole pivot scopes row reason literal own other stands opposes pivot_type has =
    cond_both literal.positive (resolve row reason literal.variable) (resolve reason row literal.variable)
    (λ r. reduce pivot scopes r ≡ r)
    (λ t. resolved_whole pivot scopes row reason literal.variable literal (negation literal) own other stands opposes
    pivot_type pivot_type has)
    (λ f. resolved_whole pivot scopes reason row literal.variable (negation literal) literal other own opposes stands
    pivot_type pivot_type (⊎_elim inr inl has))
