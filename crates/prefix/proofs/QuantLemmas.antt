-- The quantifiers that are kept stay those of the variables.
use Rattle.std.proofs.Common.{◌≡◌, ℕ, zero, suc, ◌+◌, ◌<◌, ◌≤◌, Bool, true, false, cond, List, [], ◌∷◌, length, get_or, set, Option, Some, None, refl, sym, ap, ⊎_elim, ◌∙◌, arith}
use Rattle.std.specs.Prelude.{◌==◌, insert, IfSome, is_some, slice_get}
use Rattle.std.specs.Option.{option_map, option_and_then}
use Rattle.std.proofs.lemmas.Bool.{cases_lt}
use Rattle.prefix.specs.declared.quant.Quant.{Quant}
use Rattle.prefix.specs.Scopes.{Scope, is_among, level_of, all_variables, quantifier_at, quantifier_of, with_variable_at, without_variable}
use Rattle.prefix.specs.Table.{AreQuants, kept_for}
use Rattle.prefix.proofs.InsertionLemmas.{level_found, level_within, quantifier_by, quantifier_from, quantifier-with}
use Rattle.prefix.proofs.RemovalLemmas.{level-without, quantifier-without}
use Rattle.prefix.proofs.ScopeLemmas.{level-insert, level-with_variable_at}
use Rattle.prefix.proofs.TableLemmas.{get_or_past, home_at, kept_for-set}

pub quants_nil : AreQuants [] []
quants_nil zero = refl
quants_nil (suc i) = refl

-- a scope without variables at place i
pub quants_with_scope : (ss : List Scope) (qs : List (Option Quant)) (i : ℕ) (q : Quant) → i ≤ length ss
    → AreQuants ss qs → AreQuants (insert ss i (record { quantifier = q; variables = [] })) qs
quants_with_scope ss qs i q h are v =
    rw (level-insert ss i q v h) (quantifier_by ss i (length ss) _ (level_of ss v) (level_within ss v) h ∙ are v)

-- the quantifier of a variable that is put in or taken out, and those of the others
changed : (ss : List Scope) (b : Bool) (n o : Option ℕ) → option_and_then (quantifier_at ss) (cond b n o)
    ≡ cond b (option_and_then (quantifier_at ss) n) (option_and_then (quantifier_at ss) o)
changed ss true n o = refl
changed ss false n o = refl

by_scopes : (new ss : List Scope) → ((m : ℕ) → quantifier_at new m ≡ quantifier_at ss m) → (o : Option ℕ)
    → option_and_then (quantifier_at new) o ≡ option_and_then (quantifier_at ss) o
by_scopes new ss same None = refl
by_scopes new ss same (Some m) = same m

-- the variable i + 1 in the scope at place n
pub quants_with_variable : (ss : List Scope) (qs rs : List (Option Quant)) (n i : ℕ) → n < length ss
    → level_of ss (suc i) ≡ None → i < length rs → ((u : ℕ) → kept_for rs u ≡ kept_for qs u) → AreQuants ss qs
    → AreQuants (with_variable_at ss n (suc i)) (set rs i (quantifier_at ss (n + 1)))
quants_with_variable ss qs rs n i h free room same are w =
    by_scopes (with_variable_at ss n (suc i)) ss (quantifier-with ss n (suc i))
    (level_of (with_variable_at ss n (suc i)) w)
    ∙ ap (option_and_then (quantifier_at ss)) (level-with_variable_at ss n (suc i) w h free)
    ∙ changed ss (w == suc i) (Some (n + 1)) (level_of ss w)
    ∙ ap (cond (w == suc i) (quantifier_at ss (n + 1))) (are w ∙ sym (same w))
    ∙ sym (kept_for-set rs i (quantifier_at ss (n + 1)) w room)

-- the variable i + 1 is taken out
pub quants_without : (ss : List Scope) (qs : List (Option Quant)) (i : ℕ) → i < length qs → AreQuants ss qs
    → AreQuants (without_variable (suc i) ss) (set qs i None)
quants_without ss qs i room are w =
    by_scopes (without_variable (suc i) ss) ss (quantifier-without ss (suc i))
    (level_of (without_variable (suc i) ss) w)
    ∙ ap (option_and_then (quantifier_at ss)) (level-without ss (suc i) w)
    ∙ changed ss (w == suc i) None (level_of ss w)
    ∙ ap (cond (w == suc i) None) (are w)
    ∙ sym (kept_for-set qs i None w room)

in_scopes : (ss : List Scope) (k : ℕ) → k < length ss
    → is_some (option_map (λ (s : Scope). s.quantifier) (slice_get ss k)) ≡ true
in_scopes [] k h = absurd (omega arith)
in_scopes (s ∷ ss) zero h = refl
in_scopes (s ∷ ss) (suc k) h = in_scopes ss k (omega arith)

quantified_by : (ss : List Scope) (o : Option ℕ) → IfSome o (λ n. (1 ≤ n) × (n ≤ length ss))
    → is_some (option_and_then (quantifier_at ss) o) ≡ is_some o
quantified_by ss None h = refl
quantified_by ss (Some zero) h = absurd (omega (arith, h.0))
quantified_by ss (Some (suc k)) h = ap is_some (quantifier_from ss k) ∙ in_scopes ss k (omega (arith, h.1))

-- a variable has a quantifier exactly where it is among the variables
pub quant_found : (ss : List Scope) (v : ℕ) → is_some (quantifier_of ss v) ≡ is_among v (all_variables ss)
quant_found ss v = quantified_by ss (level_of ss v) (level_within ss v) ∙ level_found ss v

-- the quantifier that is read for a variable
module _ (ss ts : List Scope) (qs rs : List (Option Quant)) (i v : ℕ) (are : AreQuants ss qs) (same : ss ≡ ts)
    (next : i + 1 ≡ v) (all : rs ≡ qs) where
  pub quant_is : (quant : Option Quant) → quant ≡ get_or rs i None → quantifier_of ts v ≡ quant
  quant_is quant e =
      ap (λ us. quantifier_of us v) (sym same) ∙ are v ∙ home_at qs i v next ∙ ap (λ xs. get_or xs i None) (sym all)
      ∙ sym e

-- a variable of the prefix is within the table
pub quant_within : (ss : List Scope) (qs : List (Option Quant)) (i v : ℕ) → AreQuants ss qs → i + 1 ≡ v
    → is_among v (all_variables ss) ≡ true → i < length qs
quant_within ss qs i v are next among =
    ⊎_elim (λ below. below)
    (λ past.
    let none : quantifier_of ss v ≡ None = are v ∙ home_at qs i v next ∙ sym (get_or_past qs i past) in
    absurd (not_there (quantifier_of ss v) none (quant_found ss v ∙ among)))
    (cases_lt i (length qs))
  where
    not_there : (o : Option Quant) → o ≡ None → is_some o ≡ true → ⊥
    not_there None e f = cc
    not_there (Some q) e f = cc
