-- The scopes of the sets of a prefix are those of the prefix.
use Rattle.std.proofs.Common.{◌≡◌, ◌≢◌, ℕ, Bool, false, List, [], ◌∷◌, ◌++◌, map, refl, sym, ap, ap₂, ◌∙◌}
use Rattle.std.specs.Prelude.{filter, if◌then◌else◌}
use Rattle.std.specs.List.{AllByRecursion}
use Rattle.prefix.specs.declared.quant.Quant.{Quant}
use Rattle.prefix.specs.declared.quant.Quant.TheVariants.{Exists, Forall}
use Rattle.prefix.specs.Scopes.{IsAscending, Scope, all_variables}
use Rattle.qdimacs.specs.Formula.{QuantSet, declared, in_order, join, join_if, merged, same_quant}
use Rattle.clauses.proofs.Ascending.{ascending_of}
use Rattle.qdimacs_out.specs.Writable.{TakeTurns}

-- the set of a scope
abbrev pub set_of : Scope → QuantSet
set_of s = (s.quantifier, s.variables)

pub declared_variables : (ss : List Scope) → declared (map set_of ss) ≡ all_variables ss
declared_variables [] = refl
declared_variables (s ∷ ss) = ap (λ vs. s.variables ++ vs) (declared_variables ss)

differ : (q r : Quant) → q ≢ r → same_quant q r ≡ false
differ Exists Exists h = absurd (h refl)
differ Exists Forall h = refl
differ Forall Exists h = refl
differ Forall Forall h = absurd (h refl)

join_alone : (q : Quant) (vs : List ℕ) → vs ≢ [] → join q vs [] ≡ (q, vs) ∷ []
join_alone q [] h = absurd (h refl)
join_alone q (v ∷ vs) h = refl

join_apart : (q : Quant) (vs : List ℕ) (s : QuantSet) (rest : List QuantSet) → vs ≢ [] → same_quant q s.0 ≡ false
    → join q vs (s ∷ rest) ≡ (q, vs) ∷ s ∷ rest
join_apart q [] s rest h e = absurd (h refl)
join_apart q (v ∷ vs) s rest h e = ap (λ t. join_if t q (v ∷ vs) s.0 s.1 rest) e

pub merged_back : (ss : List Scope) → AllByRecursion (λ s. s.variables ≢ []) ss → TakeTurns ss
    → merged (map set_of ss) ≡ map set_of ss
merged_back [] some turns = refl
merged_back (s ∷ []) some turns = join_alone s.quantifier s.variables some.0
merged_back (s ∷ t ∷ ss) some turns =
    ap (join s.quantifier s.variables) (merged_back (t ∷ ss) some.1 turns.1)
    ∙ join_apart s.quantifier s.variables (set_of t) (map set_of ss) some.0 (differ s.quantifier t.quantifier turns.0)

pub ordered_back : (ss : List Scope) → AllByRecursion (λ s. IsAscending s.variables) ss
    → map in_order (map set_of ss) ≡ ss
ordered_back [] h = refl
ordered_back (s ∷ ss) h =
    ap₂ (λ (vs : List ℕ) rest. record { quantifier = s.quantifier; variables = vs } ∷ rest)
    (sym (ascending_of s.variables s.variables h.0 (λ v. refl))) (ordered_back ss h.1)

pub none_kept : (p : ℕ → Bool) (xs : List ℕ) → AllByRecursion (λ x. p x ≡ false) xs → filter p xs ≡ []
none_kept p [] h = refl
none_kept p (x ∷ xs) h = ap (λ t. if t then x ∷ filter p xs else filter p xs) h.0 ∙ none_kept p xs h.1
