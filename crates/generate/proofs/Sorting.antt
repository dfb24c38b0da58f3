-- Literals over different variables, sorted by variable.
use Rattle.std.proofs.Common.{◌≡◌, ℕ, suc, ◌<◌, ◌≤◌, Bool, true, false, ◌||◌, List, [], ◌∷◌, length, get_or, refl, sym, ap, ◌∙◌, arith}
use Rattle.std.specs.Prelude.{◌==◌, nat_lt, if◌then◌else◌}
use Rattle.std.specs.List.{AllByRecursion}
use Rattle.std.specs.List.Sorted.{IsNonDecreasingBy, IsPermutation}
use Rattle.std.proofs.lemmas.Bool.{or_parts, eqb-false}
use Rattle.std.proofs.lemmas.List.Sorted.{IsPermutation-map}
use Rattle.prefix.specs.Code.{code_of}
use Rattle.prefix.specs.Literal.{Literal}
use Rattle.prefix.specs.Scopes.{AreDistinct, IsAscending, insert_ascending, is_among}
use Rattle.prefix.proofs.ScopeLemmas.{ascending-insert, is_among-insert_ascending}
use Rattle.clauses.proofs.Ascending.{same_elements, permuted_among}
use Rattle.qdimacs.proofs.Fitting.{permuted_distinct}
use Rattle.qdimacs.proofs.Codes.{codes, codes_ascend, same_codes, variables}
use Rattle.generate.specs.Made.{by_variable, put}

-- what is put in order

put_variables : (l : Literal) (ls : List Literal) → variables (put l ls) ≡ insert_ascending l.variable (variables ls)
put_variables l [] = refl
put_variables l (k ∷ ks) = by (nat_lt l.variable k.variable) (put_variables l ks)
  where
    by : (b : Bool) → variables (put l ks) ≡ insert_ascending l.variable (variables ks)
        → variables (if b then l ∷ k ∷ ks else k ∷ put l ks)
        ≡ (if b then l.variable ∷ k.variable ∷ variables ks else k.variable ∷ insert_ascending l.variable
        (variables ks))
    by true rest = refl
    by false rest = ap (λ vs. k.variable ∷ vs) rest

ordered_among : (v : ℕ) (ls : List Literal) → is_among v (variables (by_variable ls)) ≡ is_among v (variables ls)
ordered_among v [] = refl
ordered_among v (l ∷ ls) =
    ap (is_among v) (put_variables l (by_variable ls))
    ∙ is_among-insert_ascending v l.variable (variables (by_variable ls))
    ∙ ap (λ b. l.variable == v || b) (ordered_among v ls)

pub ordered_ascends : (ls : List Literal) → AreDistinct (variables ls) → IsAscending (variables (by_variable ls))
ordered_ascends [] d = tt
ordered_ascends (l ∷ ls) d =
    rw (put_variables l (by_variable ls))
    (ascending-insert l.variable (variables (by_variable ls)) (ordered_ascends ls d.1) (ordered_among l.variable ls
    ∙ d.0))

moved : (a b c : Bool) → (a || (b || c)) ≡ (b || (a || c))
moved true true c = refl
moved true false c = refl
moved false b c = refl

put_codes : (c : ℕ) (l : Literal) (ls : List Literal) → is_among c (codes (put l ls))
    ≡ (code_of l == c || is_among c (codes ls))
put_codes c l [] = refl
put_codes c l (k ∷ ks) = by (nat_lt l.variable k.variable) (put_codes c l ks)
  where
    by : (b : Bool) → is_among c (codes (put l ks)) ≡ (code_of l == c || is_among c (codes ks))
        → is_among c (codes (if b then l ∷ k ∷ ks else k ∷ put l ks))
        ≡ (code_of l == c || (code_of k == c || is_among c (codes ks)))
    by true rest = refl
    by false rest = ap (λ t. code_of k == c || t) rest
        ∙ moved (code_of k == c) (code_of l == c) (is_among c (codes ks))

pub ordered_codes : (c : ℕ) (ls : List Literal) → is_among c (codes (by_variable ls)) ≡ is_among c (codes ls)
ordered_codes c [] = refl
ordered_codes c (l ∷ ls) = put_codes c l (by_variable ls) ∙ ap (λ t. code_of l == c || t) (ordered_codes c ls)

-- a list that doesn't fall, over different variables

above : (v : ℕ) (ls : List Literal) → ((j : ℕ) (d : Literal) → j < length ls → v ≤ (get_or ls j d).variable)
    → is_among v (variables ls) ≡ false → AllByRecursion (λ w. v < w) (variables ls)
above v [] low out = tt
above v (l ∷ ls) low out =
    let parts = or_parts (l.variable == v) (is_among v (variables ls)) out in
    let other : l.variable ≡ v → ⊥ = eqb-false l.variable v parts.0 in
    let least : v ≤ l.variable = low 0 l (omega arith) in
    (omega (arith, other, least), above v ls (λ j d h. low (suc j) d (omega (arith, h))) parts.1)

rises : (ls : List Literal) → IsNonDecreasingBy (λ (l : Literal). l.variable) ls → AreDistinct (variables ls)
    → IsAscending (variables ls)
rises [] up d = tt
rises (l ∷ ls) up d = (
  above l.variable ls (λ j e h. up 0 (suc j) e (omega arith) (omega (arith, h))) d.0,
  rises ls (λ i j e le h. up (suc i) (suc j) e (omega (arith, le)) (omega (arith, h))) d.1,
)

-- the same literals sorted by variable
pub sorted_is : (ls ks : List Literal) → AreDistinct (variables ls) → IsPermutation ls ks
    → IsNonDecreasingBy (λ (l : Literal). l.variable) ks → ks ≡ by_variable ls
sorted_is ls ks d p up =
    let distinct : AreDistinct (variables ks) = permuted_distinct (variables ls) (variables ks)
    (IsPermutation-map (λ (l : Literal). l.variable) ls ks p) d in
    same_codes ks (by_variable ls) (same_elements (codes ks) (codes (by_variable ls))
    (codes_ascend ks (rises ks up distinct))
    (codes_ascend (by_variable ls) (ordered_ascends ls d))
    (λ c. sym (permuted_among c (codes ls) (codes ks) (IsPermutation-map code_of ls ks p)) ∙ sym (ordered_codes c ls)))
