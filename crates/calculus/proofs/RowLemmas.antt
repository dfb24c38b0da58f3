-- Rows: the literal over a variable, what is removed, and resolvents.
use Rattle.std.proofs.Common.{◌≡◌, ◌≢◌, ℕ, ◌<◌, ◌≤◌, ◌⊎◌, Bool, true, false, not, ◌&&◌, List, [], ◌∷◌, get_or, Contains, filter, Option, Some, None, is_some, sym, refl, ap, ◌∙◌, inl, inr, ⊎_elim, arith, nat_eq, nat_lt}
use Rattle.std.specs.List.{list_any}
use Rattle.prefix.specs.Literal.{Literal}
use Rattle.prefix.specs.Scopes.{Scope, quantifier_of}
use Rattle.prefix.specs.Sides.{bad_of}
use Rattle.prefix.specs.declared.quant.Quant.{Quant}
use Rattle.prefix.specs.declared.quant.Quant.TheVariants.{Exists, Forall}
use Rattle.truth.specs.Matrix.{same as same_bool}
use Rattle.truth.specs.Truth.{assumed_value}
use Rattle.calculus.specs.Rows.{Assignment, Row, bad_choice, depth_of, is_bad, is_bad_at, is_bad_throughout, is_blocked, is_pivot, literal_over, reduce, resolve, is_of, stays, without}
use Rattle.calculus.specs.Verdicts.{IsEndRow, IsFinish, finished}
use Rattle.calculus.proofs.Ascending.{IsAscendingRow}
use Rattle.std.proofs.lemmas.List.{get_or_default}
use Rattle.std.proofs.lemmas.Bool.{cond_both, cases_Bool, cases_eq, cases_order, eq-eqb, ne_eqb, eqb-true, cond-true, cond-false, and_parts, and_from, ltb-true, ltb-false, or_parts, or_cases, true≢false, not_from_false, false_from_ne_true}
use Rattle.calculus.proofs.Merging.{merge_holds}
use Rattle.calculus.proofs.Lists.{contains_cons, contains_nil, contains_head, contains_tail, all_at, all_from, any_at, any_from, filter_at, filter_from}
use Rattle.calculus.proofs.Levels.{one_quantifier, depth_at_least}

-- two literals of an ascending row over one variable are one
pub one_literal : (row : Row) → IsAscendingRow row → (a b : Literal) → Contains row a → Contains row b
    → a.variable ≡ b.variable → a ≡ b
one_literal row up a b i j e =
    ⊎_elim (λ same. sym i.2 ∙ (ap (λ k. get_or row k a) same ∙ (get_or_default row j.0 a b j.1 ∙ j.2)))
    (λ apart. ⊎_elim
    (λ below. absurd (let r : (get_or row i.0 a).variable < (get_or row j.0 a).variable = up i.0 j.0 a below j.1 in
    let p = ap (λ (l : Literal). l.variable) i.2 in let q = ap (λ (l : Literal). l.variable)
    (get_or_default row j.0 a b j.1 ∙ j.2) in omega arith))
    (λ above. absurd (let r : (get_or row j.0 a).variable < (get_or row i.0 a).variable = up j.0 i.0 a above i.1 in
    let p = ap (λ (l : Literal). l.variable) i.2 in let q = ap (λ (l : Literal). l.variable)
    (get_or_default row j.0 a b j.1 ∙ j.2) in omega arith)) apart)
    (cases_order i.0 j.0)

pub over_at : (row : Row) (x : ℕ) (l : Literal) → literal_over row x ≡ Some l → Contains row l × (l.variable ≡ x)
over_at [] x l e = absurd (cc)
over_at (m ∷ ms) x l e =
    ⊎_elim (λ t. let f : Some m ≡ Some l = sym (cond-true (nat_eq m.variable x) (Some m) (literal_over ms x) t) ∙ e in
    let same : m ≡ l = cc in
    (rw (← same) (contains_head m ms), rw (← same) (eqb-true m.variable x t)))
    (λ n. let r = over_at ms x l (sym (cond-false (nat_eq m.variable x) (Some m) (literal_over ms x) n) ∙ e) in
    (contains_tail m ms l r.0, r.1))
    (cases_Bool (nat_eq m.variable x))

pub over_from : (row : Row) (l : Literal) → Contains row l → (m : Literal) × (literal_over row l.variable ≡ Some m)
over_from [] l i = absurd (contains_nil l i)
over_from (m ∷ ms) l i =
    ⊎_elim (λ t. (m, cond-true (nat_eq m.variable l.variable) (Some m) (literal_over ms l.variable) t))
    (λ n. let skip = cond-false (nat_eq m.variable l.variable) (Some m) (literal_over ms l.variable) n in
    ⊎_elim (λ e. absurd (let t : nat_eq m.variable l.variable ≡ true = eq-eqb m.variable l.variable
    (ap (λ (k : Literal). k.variable) e) in true≢false (sym t ∙ n)))
    (λ j. let r = over_from ms l j in (r.0, skip ∙ r.1))
    (contains_cons m ms l i))
    (cases_Bool (nat_eq m.variable l.variable))

-- a literal is bad where its variable has the bad choice
pub bad_at_choice : (pivot : Quant) (b : Bool) (l : Literal) → b ≡ bad_choice pivot l → is_bad_at pivot b l ≡ true
bad_at_choice pivot b l e = by_cases pivot b l.positive e
  where
    by_cases : (q : Quant) (b positive : Bool) → b ≡ same_bool (bad_of q) positive → same_bool (same_bool b positive)
        (bad_of q) ≡ true
    by_cases Exists true true e = absurd (cc)
    by_cases Exists true false e = refl
    by_cases Exists false true e = refl
    by_cases Exists false false e = absurd (cc)
    by_cases Forall true true e = refl
    by_cases Forall true false e = absurd (cc)
    by_cases Forall false true e = absurd (cc)
    by_cases Forall false false e = refl

-- the literals of a resolvent
pub resolve_at : (a b : Row) (x : ℕ) (l : Literal) → Contains (resolve a b x) l → (Contains a l ⊎ Contains b l)
    × (l.variable ≡ x → ⊥)
resolve_at a b x l i =
    ⊎_elim (λ j. let r = filter_at (λ m. not (nat_eq m.variable x)) a l j in (inl r.0, differs r.1))
    (λ j. let r = filter_at (λ m. not (nat_eq m.variable x)) b l j in (inr r.0, differs r.1))
    ((merge_holds (without x a)).from (without x b) l i)
  where
    differs : not (nat_eq l.variable x) ≡ true → l.variable ≡ x → ⊥
    differs t e = let f : nat_eq l.variable x ≡ true = eq-eqb l.variable x e in let g : not true ≡ true = ap not (sym f)
        ∙ t in cc

pub resolve_left : (a b : Row) (x : ℕ) (l : Literal) → Contains a l → (l.variable ≡ x → ⊥) → Contains (resolve a b x) l
resolve_left a b x l i ne = (merge_holds (without x a)).left (without x b) l
    (filter_from (λ m. not (nat_eq m.variable x)) a l i (not_from_false (nat_eq l.variable x) (ne_eqb l.variable x ne)))

pub resolve_right : (a b : Row) (x : ℕ) (l : Literal) → Contains b l → (l.variable ≡ x → ⊥) → Contains (resolve a b x) l
resolve_right a b x l i ne = (merge_holds (without x a)).right (without x b) l
    (filter_from (λ m. not (nat_eq m.variable x)) b l i (not_from_false (nat_eq l.variable x) (ne_eqb l.variable x ne)))

one_is_bad : (pivot : Quant) (b : Bool) → (same_bool (same_bool b true) (bad_of pivot) ≡ true)
    ⊎ (same_bool (same_bool b false) (bad_of pivot) ≡ true)
one_is_bad Exists true = inr refl
one_is_bad Exists false = inl refl
one_is_bad Forall true = inl refl
one_is_bad Forall false = inr refl

-- a bad resolvent has a bad parent
pub bad_parent : (pivot : Quant) (values : Assignment) (a b : Row) (x : ℕ) → IsAscendingRow a → IsAscendingRow b
    → Contains a (record { variable = x; positive = true }) → Contains b (record { variable = x; positive = false })
    → is_bad_throughout pivot values (resolve a b x) ≡ true → (is_bad_throughout pivot values a ≡ true)
    ⊎ (is_bad_throughout pivot values b ≡ true)
bad_parent pivot values a b x up down i j bad =
    ⊎_elim (λ t. inl
    (all_from (is_bad pivot values) a
    (λ l k. ⊎_elim (λ e. rw (one_literal a up l (record { variable = x; positive = true }) k i e) t)
    (λ ne. all_at (is_bad pivot values) (resolve a b x) bad l (resolve_left a b x l k ne))
    (cases_eq l.variable x))))
    (λ t. inr
    (all_from (is_bad pivot values) b
    (λ l k. ⊎_elim (λ e. rw (one_literal b down l (record { variable = x; positive = false }) k j e) t)
    (λ ne. all_at (is_bad pivot values) (resolve a b x) bad l (resolve_right a b x l k ne))
    (cases_eq l.variable x))))
    (one_is_bad pivot (values x))

-- what the rule of reduction and the finish have in common
pub record IsRemoval (pivot : Quant) (scopes : List Scope) (assumptions : List Literal) (before after : Row) :
    Type 0 where
  pub from_before : (l : Literal) → Contains after l → Contains before l
  pub other_side : (l : Literal) → Contains before l → (Contains after l → ⊥) → quantifier_of scopes l.variable ≢ Some
      pivot
  pub unassumed : (l : Literal) → Contains before l → (Contains after l → ⊥)
      → assumed_value assumptions l.variable ≡ None
  pub earlier : (l : Literal) → Contains before l → (Contains after l → ⊥) → (k : Literal) → Contains after k
      → (depth_of scopes k.variable < depth_of scopes l.variable)
      ⊎ ((b : Bool) × (assumed_value assumptions k.variable ≡ Some b) × (quantifier_of scopes k.variable ≢ Some pivot))

pub same_true : (a : Option Quant) (b : Quant) → is_of a b ≡ true → a ≡ Some b
same_true None b t = absurd (cc)
same_true (Some Exists) Exists t = refl
same_true (Some Forall) Forall t = refl
same_true (Some Exists) Forall t = absurd (cc)
same_true (Some Forall) Exists t = absurd (cc)

pub same_from : (a : Option Quant) (b : Quant) → a ≡ Some b → is_of a b ≡ true
same_from None b t = absurd (cc)
same_from (Some Exists) Exists t = refl
same_from (Some Forall) Forall t = refl
same_from (Some Exists) Forall t = absurd (cc)
same_from (Some Forall) Exists t = absurd (cc)

pub none_from : {A : Type 0} (o : Option A) → is_some o ≡ false → o ≡ None
none_from None e = refl
none_from (Some a) e = absurd (cc)

pub some_from : {A : Type 0} (o : Option A) → is_some o ≡ true → (a : A) × (o ≡ Some a)
some_from None e = absurd (cc)
some_from (Some a) e = (a, refl)

-- a literal that reduction removes: not pivot-type, and each pivot-type literal of the row is of an earlier scope
reduced_out : (pivot : Quant) (scopes : List Scope) (row : Row) (l : Literal) → stays pivot scopes row l ≡ false
    → (quantifier_of scopes l.variable ≢ Some pivot)
    × ((p : Literal) → Contains row p → quantifier_of scopes p.variable ≡ Some pivot → depth_of scopes p.variable <
    depth_of scopes l.variable)
reduced_out pivot scopes row l out =
    let parts = or_parts (is_pivot pivot scopes l) (is_blocked pivot scopes row l) out in
    let other : quantifier_of scopes l.variable ≢ Some pivot = λ e. true≢false
    (sym (same_from (quantifier_of scopes l.variable) pivot e) ∙ parts.0) in (
      other,
      λ p i e.
          let below : depth_of scopes p.variable ≤ depth_of scopes l.variable = ⊎_elim
          (λ t. absurd
          (true≢false
          (sym (any_from (λ q. is_pivot pivot scopes q && nat_lt (depth_of scopes l.variable)
          (depth_of scopes q.variable)) row p i
          (and_from (is_pivot pivot scopes p) (nat_lt (depth_of scopes l.variable) (depth_of scopes p.variable))
          (same_from (quantifier_of scopes p.variable) pivot e) t)) ∙ parts.1)))
          (λ f. ltb-false (depth_of scopes l.variable) (depth_of scopes p.variable) f)
          (cases_Bool (nat_lt (depth_of scopes l.variable) (depth_of scopes p.variable))) in
          let apart : depth_of scopes p.variable ≡ depth_of scopes l.variable → ⊥ = λ same. other
          (sym (one_quantifier scopes p.variable l.variable same) ∙ e) in
          omega arith,
    )

-- a literal that stays has a pivot-type literal of its scope or a later one
kept_below : (pivot : Quant) (scopes : List Scope) (row : Row) (k : Literal) → Contains row k
    → stays pivot scopes row k ≡ true → (p : Literal) × Contains row p × (quantifier_of scopes p.variable ≡ Some pivot)
    × (depth_of scopes k.variable ≤ depth_of scopes p.variable)
kept_below pivot scopes row k i stay =
    ⊎_elim (λ t. (k, i, same_true (quantifier_of scopes k.variable) pivot t, omega arith))
    (λ t. let r = any_at (λ q. is_pivot pivot scopes q && nat_lt (depth_of scopes k.variable)
    (depth_of scopes q.variable)) row t in
    let parts = and_parts (is_pivot pivot scopes r.0)
    (nat_lt (depth_of scopes k.variable) (depth_of scopes r.0.variable)) r.2 in
    let below : depth_of scopes k.variable < depth_of scopes r.0.variable = ltb-true (depth_of scopes k.variable)
    (depth_of scopes r.0.variable) parts.1 in
    (r.0, r.1, same_true (quantifier_of scopes r.0.variable) pivot parts.0, omega arith))
    (or_cases (is_pivot pivot scopes k) (is_blocked pivot scopes row k) stay)

pub reduction_removes : (pivot : Quant) (scopes : List Scope) (assumptions : List Literal) (row : Row)
    → ((x : ℕ) (b : Bool) → assumed_value assumptions x ≡ Some b → depth_of scopes x ≡ 1)
    → IsRemoval pivot scopes assumptions row (reduce pivot scopes row)
reduction_removes pivot scopes assumptions row outer =
    cond_both (list_any (is_pivot pivot scopes) row) (filter (stays pivot scopes row) row) row
    (λ after. IsRemoval pivot scopes assumptions row after)
    (λ some.
    let p = any_at (is_pivot pivot scopes) row some in
    let out : (l : Literal) → Contains row l → (Contains (filter (stays pivot scopes row) row) l → ⊥)
    → stays pivot scopes row l ≡ false = λ l i gone. false_from_ne_true (stays pivot scopes row l)
    (λ t. gone (filter_from (stays pivot scopes row) row l i t)) in
    record {
      from_before = λ l i. (filter_at (stays pivot scopes row) row l i).0;
      other_side = λ l i gone. (reduced_out pivot scopes row l (out l i gone)).0;
      unassumed = λ l i gone. none_from (assumed_value assumptions l.variable)
          (false_from_ne_true (is_some (assumed_value assumptions l.variable)) (λ t.
          let r = some_from (assumed_value assumptions l.variable) t in
          let one : depth_of scopes l.variable ≡ 1 = outer l.variable r.0 r.1 in
          let below : depth_of scopes p.0.variable < depth_of scopes l.variable =
          (reduced_out pivot scopes row l (out l i gone)).1 p.0 p.1
          (same_true (quantifier_of scopes p.0.variable) pivot p.2) in
          let first : 1 ≤ depth_of scopes p.0.variable = depth_at_least scopes p.0.variable in
          absurd (omega arith)));
      earlier = λ l i gone k j.
          let kept = filter_at (stays pivot scopes row) row k j in
          let q = kept_below pivot scopes row k kept.0 kept.1 in
          let below : depth_of scopes q.0.variable < depth_of scopes l.variable =
          (reduced_out pivot scopes row l (out l i gone)).1 q.0 q.1 q.2 in
          let under : depth_of scopes k.variable ≤ depth_of scopes q.0.variable = q.3 in
          inl (omega arith);
    })
    (λ none. record {
      from_before = λ l i. i;
      other_side = λ l i gone. absurd (gone i);
      unassumed = λ l i gone. absurd (gone i);
      earlier = λ l i gone k j. absurd (gone i);
    })

pub finish_removes : (pivot : Quant) (scopes : List Scope) (assumptions : List Literal) (row : Row)
    → ((x : ℕ) (b : Bool) → assumed_value assumptions x ≡ Some b → depth_of scopes x ≡ 1)
    → IsEndRow pivot scopes assumptions row → IsRemoval pivot scopes assumptions row (finished assumptions row)
finish_removes pivot scopes assumptions row outer ends =
    let is_assumed = λ (l : Literal). is_some (assumed_value assumptions l.variable) in
    let out : (l : Literal) → Contains row l → (Contains (finished assumptions row) l → ⊥)
    → is_some (assumed_value assumptions l.variable) ≡ false = λ l i gone. false_from_ne_true (is_assumed l)
    (λ t. gone (filter_from is_assumed row l i t)) in
    let other : (l : Literal) → Contains row l → (Contains (finished assumptions row) l → ⊥)
    → quantifier_of scopes l.variable ≢ Some pivot = λ l i gone e. true≢false
    (sym (ends.pivots l i (same_from (quantifier_of scopes l.variable) pivot e)) ∙ out l i gone) in
    record {
      from_before = λ l i. (filter_at is_assumed row l i).0;
      other_side = other;
      unassumed = λ l i gone. none_from (assumed_value assumptions l.variable) (out l i gone);
      earlier = λ l i gone k j.
          let r = some_from (assumed_value assumptions k.variable) (filter_at is_assumed row k j).1 in
          let one : depth_of scopes k.variable ≡ 1 = outer k.variable r.0 r.1 in
          let first : 1 ≤ depth_of scopes l.variable = depth_at_least scopes l.variable in
          ⊎_elim (λ same. inr
          (r.0, r.1, λ e. other l i gone (one_quantifier scopes l.variable k.variable (same ∙ sym one) ∙ e)))
          (λ apart. inl (omega arith))
          (cases_eq (depth_of scopes l.variable) 1);
    }

-- what a step with one row before it removes
pub step_removes : (pivot : Quant) (scopes : List Scope) (assumptions : List Literal) (before after : Row)
    → ((x : ℕ) (b : Bool) → assumed_value assumptions x ≡ Some b → depth_of scopes x ≡ 1)
    → (after ≡ reduce pivot scopes before) ⊎ IsFinish pivot scopes assumptions before after
    → IsRemoval pivot scopes assumptions before after
step_removes pivot scopes assumptions before after outer step =
    ⊎_elim (λ e. rw e (reduction_removes pivot scopes assumptions before outer))
    (λ f. rw f.1 (finish_removes pivot scopes assumptions before outer f.0)) step
