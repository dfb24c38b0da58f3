-- The merge of two rows: what it holds, and that it ascends.
use Rattle.std.proofs.Common.{◌≡◌, ◌<◌, ◌≤◌, ◌⊎◌, Bool, true, false, cond, [], ◌∷◌, Contains, sym, refl, ap, ◌∙◌, inl, inr, ⊎_elim, arith, nat_eq, nat_lt}
use Rattle.prefix.specs.Literal.{Literal}
use Rattle.truth.specs.Matrix.{same as same_bool}
use Rattle.calculus.specs.Rows.{Row, merge, merge_literal, same_literal}
use Rattle.calculus.proofs.Ascending.{IsAscendingRow, Below}
use Rattle.std.proofs.lemmas.Bool.{cond_both, ltb-true, ltb-false, eq-eqb, eqb-true, and_parts, and_from, true≢false}
use Rattle.calculus.proofs.Lists.{contains_cons, contains_nil, contains_head, contains_tail, pairs_head, pairs_tail, pairs_cons}

pub beq_true : (a b : Bool) → same_bool a b ≡ true → a ≡ b
beq_true true true e = refl
beq_true false false e = refl
beq_true true false e = absurd (cc)
beq_true false true e = absurd (cc)

pub beq_refl : (a : Bool) → same_bool a a ≡ true
beq_refl true = refl
beq_refl false = refl

pub beq_yes : (a : Bool) → same_bool a true ≡ a
beq_yes true = refl
beq_yes false = refl

pub same_literal_true : (a b : Literal) → same_literal a b ≡ true → a ≡ b
same_literal_true a b t = let parts = and_parts (nat_eq a.variable b.variable) (same_bool a.positive b.positive) t in
    let v : a.variable ≡ b.variable = eqb-true a.variable b.variable parts.0 in let p : a.positive ≡ b.positive =
    beq_true a.positive b.positive parts.1 in λ i. record { variable = v i; positive = p i }

-- what a merge holds
module _ (l : Literal) (ls : Row) (rest : Row → Row) (from : (b : Row) (k : Literal) → Contains (rest b) k
    → Contains ls k ⊎ Contains b k) (left : (b : Row) (k : Literal) → Contains ls k → Contains (rest b) k)
    (right : (b : Row) (k : Literal) → Contains b k → Contains (rest b) k) where
  abbrev Within : Literal → Row → Row → Type 0
  Within k b r = Contains r k → Contains (l ∷ ls) k ⊎ Contains b k

  from_rest : (b c : Row) (k : Literal) → ((m : Literal) → Contains b m → Contains c m) → Contains (l ∷ rest b) k
      → Contains (l ∷ ls) k ⊎ Contains c k
  from_rest b c k within i = ⊎_elim (λ e. inl (rw e (contains_head k ls)))
      (λ j. ⊎_elim (λ s. inl (contains_tail l ls k s)) (λ s. inr (within k s)) (from b k j))
      (contains_cons l (rest b) k i)

  literal_from : (b : Row) (k : Literal) → Contains (merge_literal l rest b) k → Contains (l ∷ ls) k ⊎ Contains b k
  literal_from [] k i = from_rest [] [] k (λ m j. j) i
  literal_from (m ∷ ms) k i =
      cond_both (nat_lt l.variable m.variable) (l ∷ rest (m ∷ ms))
      (cond (same_literal l m) (l ∷ rest ms) (m ∷ merge_literal l rest ms)) (Within k (m ∷ ms))
      (λ t. from_rest (m ∷ ms) (m ∷ ms) k (λ o j. j))
      (λ n. cond_both (same_literal l m) (l ∷ rest ms) (m ∷ merge_literal l rest ms) (Within k (m ∷ ms))
      (λ t. from_rest ms (m ∷ ms) k (λ o j. contains_tail m ms o j))
      (λ f j. ⊎_elim (λ e. inr (rw e (contains_head k ms)))
      (λ s. ⊎_elim inl (λ u. inr (contains_tail m ms k u)) (literal_from ms k s))
      (contains_cons m (merge_literal l rest ms) k j)))
      i

  abbrev Holds' : Literal → Row → Type 0
  Holds' k r = Contains r k

  literal_left : (b : Row) (k : Literal) → Contains (l ∷ ls) k → Contains (merge_literal l rest b) k
  literal_left [] k i = ⊎_elim (λ e. rw (← e) (contains_head l (rest [])))
      (λ j. contains_tail l (rest []) k (left [] k j)) (contains_cons l ls k i)
  literal_left (m ∷ ms) k i =
      cond_both (nat_lt l.variable m.variable) (l ∷ rest (m ∷ ms))
      (cond (same_literal l m) (l ∷ rest ms) (m ∷ merge_literal l rest ms)) (Holds' k)
      (λ t. ⊎_elim (λ e. rw e (contains_head k (rest (m ∷ ms))))
      (λ j. contains_tail l (rest (m ∷ ms)) k (left (m ∷ ms) k j)) (contains_cons l ls k i))
      (λ n. cond_both (same_literal l m) (l ∷ rest ms) (m ∷ merge_literal l rest ms) (Holds' k)
      (λ t. ⊎_elim (λ e. rw e (contains_head k (rest ms))) (λ j. contains_tail l (rest ms) k (left ms k j))
      (contains_cons l ls k i))
      (λ f. contains_tail m (merge_literal l rest ms) k (literal_left ms k i)))

  literal_right : (b : Row) (k : Literal) → Contains b k → Contains (merge_literal l rest b) k
  literal_right [] k i = absurd (contains_nil k i)
  literal_right (m ∷ ms) k i =
      cond_both (nat_lt l.variable m.variable) (l ∷ rest (m ∷ ms))
      (cond (same_literal l m) (l ∷ rest ms) (m ∷ merge_literal l rest ms)) (Holds' k)
      (λ t. contains_tail l (rest (m ∷ ms)) k (right (m ∷ ms) k i))
      (λ n. cond_both (same_literal l m) (l ∷ rest ms) (m ∷ merge_literal l rest ms) (Holds' k)
      (λ t. ⊎_elim (λ e. let same : l ≡ k = same_literal_true l m t ∙ e in rw same (contains_head k (rest ms)))
      (λ j. contains_tail l (rest ms) k (right ms k j)) (contains_cons m ms k i))
      (λ f. ⊎_elim (λ e. rw e (contains_head k (merge_literal l rest ms)))
      (λ j. contains_tail m (merge_literal l rest ms) k (literal_right ms k j)) (contains_cons m ms k i)))

  -- it ascends where the two rows do and agree on shared variables
  literal_ascending : (b : Row) → IsAscendingRow b → ((k : Literal) → Contains ls k → l.variable < k.variable)
      → ((c : Row) → IsAscendingRow c → ((m : Literal) → Contains c m → Contains b m) → IsAscendingRow (rest c))
      → ((m : Literal) → Contains b m → l.variable ≡ m.variable → l ≡ m) → IsAscendingRow (merge_literal l rest b)
  literal_ascending [] up above rest_up one = pairs_cons Below l (rest [])
      (λ k i. ⊎_elim (λ j. above k j) (λ j. absurd (contains_nil k j)) (from [] k i)) (rest_up [] up (λ m j. j))
  literal_ascending (m ∷ ms) up above rest_up one =
      let first = pairs_head Below m ms up in
      let later = pairs_tail Below m ms up in
      cond_both (nat_lt l.variable m.variable) (l ∷ rest (m ∷ ms))
      (cond (same_literal l m) (l ∷ rest ms) (m ∷ merge_literal l rest ms)) IsAscendingRow
      (λ t.
      let below : l.variable < m.variable = ltb-true l.variable m.variable t in
      pairs_cons Below l (rest (m ∷ ms))
      (λ k i. ⊎_elim (λ j. above k j)
      (λ j. ⊎_elim (λ e. rw (← e) below) (λ s. let g : m.variable < k.variable = first k s in let r :
      l.variable < k.variable = omega arith in r) (contains_cons m ms k j)) (from (m ∷ ms) k i))
      (rest_up (m ∷ ms) up (λ o j. j)))
      (λ n. cond_both (same_literal l m) (l ∷ rest ms) (m ∷ merge_literal l rest ms) IsAscendingRow
      (λ t.
      let same : l ≡ m = same_literal_true l m t in
      let v : l.variable ≡ m.variable = ap (λ (o : Literal). o.variable) same in
      pairs_cons Below l (rest ms)
      (λ k i. ⊎_elim (λ j. above k j) (λ s. let g : m.variable < k.variable = first k s in let r :
      l.variable < k.variable = omega arith in r) (from ms k i)) (rest_up ms later (λ o j. contains_tail m ms o j)))
      (λ f.
      let under : m.variable ≤ l.variable = ltb-false l.variable m.variable n in
      let apart : l.variable ≡ m.variable → ⊥ = λ e. let same = one m (contains_head m ms) e in
      true≢false
      (sym (and_from (nat_eq l.variable m.variable) (same_bool l.positive m.positive)
      (eq-eqb l.variable m.variable e) (ap (λ (k : Literal). same_bool l.positive k.positive) (sym same)
      ∙ beq_refl l.positive)) ∙ f) in
      let strict : m.variable < l.variable = omega arith in
      pairs_cons Below m (merge_literal l rest ms)
      (λ k i. ⊎_elim
      (λ j. ⊎_elim (λ e. rw (← e) strict) (λ s. let g : l.variable < k.variable = above k s in let r :
      m.variable < k.variable = omega arith in r) (contains_cons l ls k j)) (λ s. first k s) (literal_from ms k i))
      (literal_ascending ms later above (λ c c_up within. rest_up c c_up (λ o j. contains_tail m ms o (within o j)))
      (λ o j e. one o (contains_tail m ms o j) e))))

-- what a row's merge holds
pub record MergeHolds (a : Row) : Type 0 where
  pub from : (b : Row) (k : Literal) → Contains (merge a b) k → Contains a k ⊎ Contains b k
  pub left : (b : Row) (k : Literal) → Contains a k → Contains (merge a b) k
  pub right : (b : Row) (k : Literal) → Contains b k → Contains (merge a b) k

pub merge_holds : (a : Row) → MergeHolds a
merge_holds [] = record { from = λ b k i. inr i; left = λ b k i. absurd (contains_nil k i); right = λ b k i. i }
merge_holds (l ∷ ls) =
    let h = merge_holds ls in
    record {
      from = literal_from l ls (merge ls) h.from h.left h.right;
      left = literal_left l ls (merge ls) h.from
          h.left h.right;
      right = literal_right l ls (merge ls) h.from h.left h.right;
    }

pub merge_ascending : (a b : Row) → IsAscendingRow a → IsAscendingRow b
    → ((l m : Literal) → Contains a l → Contains b m → l.variable ≡ m.variable → l ≡ m) → IsAscendingRow (merge a b)
merge_ascending [] b up down one = down
merge_ascending (l ∷ ls) b up down one =
    let h = merge_holds ls in
    literal_ascending l ls (merge ls) h.from h.left h.right b down (pairs_head Below l ls up)
    (λ c c_up within. merge_ascending ls c (pairs_tail Below l ls up) c_up
    (λ o m i j e. one o m (contains_tail l ls o i) (within m j) e))
    (λ m j e. one l m (contains_head l ls) j e)
