-- Literals that are opposite, and what is bad in words of truth.
use Rattle.std.proofs.Common.{◌≡◌, ℕ, Bool, true, false, not, List, Some, None, Option, is_some, refl, sym, ⊎_elim, inl, inr, Contains, ◌∙◌, filter}
use Rattle.std.proofs.lemmas.Bool.{cases_Bool, cond_both, or_left, true≢false, false≢true}
use Rattle.std.specs.List.{list_any}
use Rattle.prefix.specs.declared.quant.Quant.{Quant}
use Rattle.prefix.specs.declared.quant.Quant.TheVariants.{Exists, Forall}
use Rattle.prefix.specs.Literal.{Literal, negation}
use Rattle.prefix.specs.Scopes.{Scope, all_variables}
use Rattle.prefix.specs.Sides.{bad_of, same_quantifier}
use Rattle.truth.specs.Matrix.{Values, literal_true, is_true_of, clause_true, same}
use Rattle.calculus.specs.Rows.{Row, IsRow, reduce, is_bad_at, is_pivot, is_blocked, stays}
use Rattle.calculus.specs.Search.{is_bad_if, IsBadRow, IsUnitIn}
use Rattle.calculus.proofs.Lists.{any_from, filter_at, filter_from}

pub cube_bad : (o : Option Bool) (p : Bool) (x : ℕ) → is_bad_if Forall o (record { variable = x; positive = p }) ≡
    is_true_of o p
cube_bad None p x = refl
cube_bad (Some true) true x = refl
cube_bad (Some true) false x = refl
cube_bad (Some false) true x = refl
cube_bad (Some false) false x = refl

clause_bad : (o : Option Bool) (p : Bool) (x : ℕ) → is_some o ≡ true → is_true_of o p ≡ false → is_bad_if Exists o
    (record { variable = x; positive = p }) ≡ true
clause_bad None p x a f = absurd (false≢true a)
clause_bad (Some true) true x a f = absurd (true≢false f)
clause_bad (Some true) false x a f = refl
clause_bad (Some false) true x a f = refl
clause_bad (Some false) false x a f = absurd (true≢false f)

signs : (pivot : Quant) (b p q : Bool) (x : ℕ) → is_bad_at pivot b (record { variable = x; positive = p }) ≡ true
    → is_bad_at pivot b (record { variable = x; positive = q }) ≡ false → q ≡ not p
signs Exists true true true x t f = absurd (false≢true t)
signs Exists true true false x t f = refl
signs Exists true false true x t f = refl
signs Exists true false false x t f = absurd (true≢false f)
signs Exists false true true x t f = absurd (true≢false f)
signs Exists false true false x t f = refl
signs Exists false false true x t f = refl
signs Exists false false false x t f = absurd (false≢true t)
signs Forall true true true x t f = absurd (true≢false f)
signs Forall true true false x t f = refl
signs Forall true false true x t f = refl
signs Forall true false false x t f = absurd (false≢true t)
signs Forall false true true x t f = absurd (false≢true t)
signs Forall false true false x t f = refl
signs Forall false false true x t f = refl
signs Forall false false false x t f = absurd (true≢false f)

pub opposite : (pivot : Quant) (b : Bool) (l m : Literal) → l.variable ≡ m.variable → is_bad_at pivot b l ≡ true
    → is_bad_at pivot b m ≡ false → m ≡ negation l
opposite pivot b l m e t f = let s = signs pivot b l.positive m.positive l.variable t f in
    λ i. record { variable = (sym e) i; positive = s i }

-- a side is itself
pub side_itself : (q : Quant) → same_quantifier q q ≡ true
side_itself Exists = refl
side_itself Forall = refl

-- of a variable's two literals one is bad, and its opposite isn't
pub bad_there : (q : Quant) (b : Bool) → same (same b (same b (bad_of q))) (bad_of q) ≡ true
bad_there Exists true = refl
bad_there Exists false = refl
bad_there Forall true = refl
bad_there Forall false = refl

pub good_there : (q : Quant) (b : Bool) → same (same b (not (same b (bad_of q)))) (bad_of q) ≡ false
good_there Exists true = refl
good_there Exists false = refl
good_there Forall true = refl
good_there Forall false = refl

-- a reduction holds literals of its row
pub reduce_part : (pivot : Quant) (scopes : List Scope) (row : Row) (l : Literal) → Contains (reduce pivot scopes row) l
    → Contains row l
reduce_part pivot scopes row l =
    cond_both (list_any (is_pivot pivot scopes) row) (filter (stays pivot scopes row) row) row
    (λ r. Contains r l → Contains row l)
    (λ t i. (filter_at (stays pivot scopes row) row l i).0)
    (λ f i. i)

-- a clause that isn't bad when reduced
pub satisfied : (scopes : List Scope) (values : Values) (clause : Row) → IsRow scopes clause
    → ((x : ℕ) → Contains (all_variables scopes) x → is_some (values x) ≡ true)
    → (IsBadRow Exists scopes values (reduce Exists scopes clause) → ⊥) → clause_true values clause ≡ true
satisfied scopes values clause is_row assigned not_bad =
    ⊎_elim (λ t. t)
    (λ f. absurd (not_bad (λ l i.
    let j = reduce_part Exists scopes clause l i in
    inr (inl (clause_bad (values l.variable) l.positive l.variable (assigned l.variable (is_row.over_prefix l j))
    (⊎_elim (λ t. absurd (true≢false (sym (any_from (literal_true values) clause l j t) ∙ f))) (λ g. g)
    (cases_Bool (literal_true values l))))))))
    (cases_Bool (clause_true values clause))

-- a reduction holds a literal that keeps its row from being bad
pub unit_reduced : (pivot : Quant) (scopes : List Scope) (values : Values) (row : Row) (l : Literal)
    → IsUnitIn pivot scopes values row l → IsUnitIn pivot scopes values (reduce pivot scopes row) l
unit_reduced pivot scopes values row l unit = record {
  stands = cond_both (list_any (is_pivot pivot scopes) row) (filter (stays pivot scopes row) row) row
      (λ r. Contains r l)
      (λ t. filter_from (stays pivot scopes row) row l unit.stands
      (or_left (is_pivot pivot scopes l) (is_blocked pivot scopes row l) unit.pivot_type))
      (λ f. unit.stands);
  pivot_type = unit.pivot_type;
  open_yet = unit.open_yet;
  others = λ m i. unit.others m (reduce_part pivot scopes row m i);
}

pub bad_reduced : (pivot : Quant) (scopes : List Scope) (values : Values) (row : Row) → IsBadRow pivot scopes values row
    → IsBadRow pivot scopes values (reduce pivot scopes row)
bad_reduced pivot scopes values row bad = λ l i. bad l (reduce_part pivot scopes row l i)
