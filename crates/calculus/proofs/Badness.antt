-- What is bad, in words of truth.
use Rattle.std.proofs.Common.{◌≡◌, ℕ, Bool, true, false, not, ◌&&◌, ◌||◌, [], ◌∷◌, Option, Some, None, sym, refl, ap, ap₂, ◌∙◌}
use Rattle.std.proofs.lemmas.Bool.{false≢true, true≢false, false_from_ne_true}
use Rattle.prefix.specs.declared.quant.Quant.TheVariants.{Exists, Forall}
use Rattle.prefix.specs.Literal.{Literal}
use Rattle.truth.specs.Matrix.{Values, literal_true, clause_true, cube_true, is_true_of, same as same_bool}
use Rattle.calculus.specs.Rows.{Row, Assignment, is_bad_throughout}
use Rattle.calculus.specs.Plays.{total}
use Rattle.calculus.specs.Search.{IsClean, is_bad_if}
use Rattle.calculus.proofs.Lists.{any_at, all_from}

pub extended_true : (partial : Values) (values : Assignment) (l : Literal)
    → ((x : ℕ) (b : Bool) → partial x ≡ Some b → values x ≡ b) → literal_true partial l ≡ true
    → literal_true (total values) l ≡ true
extended_true partial values l extends h = by_value (partial l.variable) refl h
  where
    by_value : (o : Option Bool) → partial l.variable ≡ o → is_true_of o l.positive ≡ true
        → same_bool (values l.variable) l.positive ≡ true
    by_value None e g = absurd (false≢true g)
    by_value (Some b) e g = ap (λ c. same_bool c l.positive) (extends l.variable b e) ∙ g

false_is_bad : (b p : Bool) → same_bool (same_bool b p) false ≡ not (same_bool b p)
false_is_bad true true = refl
false_is_bad true false = refl
false_is_bad false true = refl
false_is_bad false false = refl

true_is_bad : (b p : Bool) → same_bool (same_bool b p) true ≡ same_bool b p
true_is_bad true true = refl
true_is_bad true false = refl
true_is_bad false true = refl
true_is_bad false false = refl

not_either : (a b : Bool) → (not a && not b) ≡ not (a || b)
not_either true b = refl
not_either false b = refl

pub bad_clause : (values : Assignment) (row : Row) → is_bad_throughout Exists values row ≡ not
    (clause_true (total values) row)
bad_clause values [] = refl
bad_clause values (l ∷ ls) = ap₂ (λ a b. a && b) (false_is_bad (values l.variable) l.positive) (bad_clause values ls)
    ∙ not_either (literal_true (total values) l) (clause_true (total values) ls)

pub bad_cube : (values : Assignment) (row : Row) → is_bad_throughout Forall values row ≡ cube_true (total values) row
bad_cube values [] = refl
bad_cube values (l ∷ ls) = ap₂ (λ a b. a && b) (true_is_bad (values l.variable) l.positive) (bad_cube values ls)

false_now : (o : Option Bool) (l : Literal) → is_bad_if Exists o l ≡ true → is_true_of o l.positive ≡ false
false_now None l e = refl
false_now (Some b) l e = by_signs b l.positive e
  where
    by_signs : (b p : Bool) → same_bool (same_bool b p) false ≡ true → same_bool b p ≡ false
    by_signs true true e = absurd (false≢true e)
    by_signs true false e = refl
    by_signs false true e = refl
    by_signs false false e = absurd (false≢true e)

true_now : (o : Option Bool) (l : Literal) → is_bad_if Forall o l ≡ true → is_true_of o l.positive ≡ true
true_now None l e = absurd (false≢true e)
true_now (Some b) l e = sym (true_is_bad b l.positive) ∙ e

pub clean_clause : (values : Values) (row : Row) → IsClean Exists values row → clause_true values row ≡ false
clean_clause values row clean = false_from_ne_true (clause_true values row)
    (λ t. let r = any_at (literal_true values) row t in let l = r.0 in
    true≢false (sym r.2 ∙ false_now (values l.variable) l (clean l r.1)))

pub clean_cube : (values : Values) (row : Row) → IsClean Forall values row → cube_true values row ≡ true
clean_cube values row clean = all_from (literal_true values) row (λ l i. true_now (values l.variable) l (clean l i))
