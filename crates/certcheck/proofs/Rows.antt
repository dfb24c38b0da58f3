-- The rows of clauses of circuit literals are true where the clauses are.
use Rattle.std.proofs.Common.{◌≡◌, ℕ, zero, suc, ◌+◌, ◌*◌, ◌/◌, ◌%◌, ⊎_elim, Bool, true, false, not, ◌&&◌, ◌||◌, cond, List, [], ◌∷◌, map, filter, Contains, refl, sym, ap, ap₂, ◌∙◌, arith, nat_eq}
use Rattle.std.specs.List.{list_any}
use Rattle.std.proofs.lemmas.Bool.{cases_Bool, or_cases, or_parts, not-true, not_from_false, eqb-false, ne_eqb, true≢false}
use Rattle.prefix.specs.Scopes.{is_among}
use Rattle.truth.specs.Matrix.{same, literal_true, clause_true, matrix_true}
use Rattle.calculus.specs.Rows.{Assignment}
use Rattle.calculus.specs.Plays.{total}
use Rattle.calculus.proofs.Lists.{any_at, any_from, among_at, among_from, filter_at, filter_from}
use Rattle.calculus.proofs.Merging.{beq_yes}
use Rattle.clauses.specs.Clause.{ascending}
use Rattle.clauses.proofs.Ascending.{ascending_among}
use Rattle.builder.specs.Rows.{as_row, flipped, is_left_out, literal_of, rows_of}
use Rattle.builder.proofs.Opposites.{parity}
use Rattle.builder.proofs.Lists.{same_bools}
use Rattle.certcheck.proofs.Numbers.{value_at, value_suc, number_true, even_true, odd_true, flipped_true, holds, all_hold, value_zero}

pub any_map : {X Y : Type 0} (p : Y → Bool) (f : X → Y) (xs : List X)
    → list_any p (map f xs) ≡ list_any (λ x. p (f x)) xs
any_map p f [] = refl
any_map p f (x ∷ xs) = ap (λ b. p (f x) || b) (any_map p f xs)

-- the constant true
one_true : (σ : Assignment) → number_true σ 1 ≡ true
one_true σ = odd_true σ 1 0 refl ∙ ap not (value_zero σ)

-- a clause that is left out holds
pub left_out_holds : (σ : Assignment) (ns : List ℕ) → is_left_out ns ≡ true → holds σ ns ≡ true
left_out_holds σ ns e =
    ⊎_elim
    (λ t. any_from (number_true σ) ns 1 (among_at ns 1 t) (one_true σ))
    (λ t.
    let r = any_at (λ n. is_among (flipped n) ns) ns t in
    ⊎_elim
    (λ yes_. any_from (number_true σ) ns r.0 r.1 yes_)
    (λ no_. any_from (number_true σ) ns (flipped r.0) (among_at ns (flipped r.0) r.2)
    (flipped_true σ r.0 ∙ ap not no_))
    (cases_Bool (number_true σ r.0)))
    (or_cases (is_among 1 ns) (list_any (λ n. is_among (flipped n) ns) ns) e)

same_no : (b : Bool) → same b false ≡ not b
same_no true = refl
same_no false = refl

value_some : (σ : Assignment) (v : ℕ) → (v ≡ 0 → ⊥) → value_at σ v ≡ σ v
value_some σ zero ne = absurd (ne refl)
value_some σ (suc v) ne = value_suc σ v

-- a literal that is no constant
pub literal_is : (σ : Assignment) (n : ℕ) → (n ≡ 0 → ⊥) → (n ≡ 1 → ⊥)
    → literal_true (total σ) (literal_of n) ≡ number_true σ n
literal_is σ n ne ne1 =
    let some : n / 2 ≡ 0 → ⊥ = λ z. omega (arith, z, ne, ne1) in
    ⊎_elim
    (λ (e : n ≡ 2 * (n / 2)).
    let even : n % 2 ≡ 0 = omega (arith, e) in
    ap (λ r. same (σ (n / 2)) (nat_eq r 0)) even ∙ beq_yes (σ (n / 2)) ∙ sym (value_some σ (n / 2) some)
    ∙ sym (even_true σ n (n / 2) e))
    (λ (o : n ≡ 2 * (n / 2) + 1).
    let odd : n % 2 ≡ 1 = omega (arith, o) in
    ap (λ r. same (σ (n / 2)) (nat_eq r 0)) odd ∙ same_no (σ (n / 2)) ∙ ap not (sym (value_some σ (n / 2) some))
    ∙ sym (odd_true σ n (n / 2) o))
    (parity n)

-- the literals that are kept are those that aren't 0
pub kept_at : (ns : List ℕ) (n : ℕ) → Contains (ascending (filter (λ m. not (nat_eq m 0)) ns)) n → Contains ns n
    × (n ≡ 0 → ⊥)
kept_at ns n c =
    let some = filter (λ m. not (nat_eq m 0)) ns in
    let r = filter_at (λ m. not (nat_eq m 0)) ns n
    (among_at some n (sym (ascending_among n some) ∙ among_from (ascending some) n c)) in
    (r.0, eqb-false n 0 (not-true (nat_eq n 0) r.1))

pub kept_from : (ns : List ℕ) (n : ℕ) → Contains ns n → (n ≡ 0 → ⊥)
    → Contains (ascending (filter (λ m. not (nat_eq m 0)) ns)) n
kept_from ns n c ne =
    let some = filter (λ m. not (nat_eq m 0)) ns in
    among_at (ascending some) n
    (ascending_among n some
    ∙ among_from some n (filter_from (λ m. not (nat_eq m 0)) ns n c (not_from_false (nat_eq n 0) (ne_eqb n 0 ne))))

pub none_there : (ns : List ℕ) → is_among 1 ns ≡ false → (n : ℕ) → Contains ns n → n ≡ 1 → ⊥
none_there ns f n c e = true≢false (sym (among_from ns n c) ∙ ap (λ m. is_among m ns) e ∙ f)

-- number 0 is false
zero_false : (σ : Assignment) (n : ℕ) → n ≡ 0 → number_true σ n ≡ false
zero_false σ n e = let z : n ≡ 2 * 0 = omega (arith, e) in even_true σ n 0 z ∙ value_zero σ

pub row_holds : (σ : Assignment) (ns : List ℕ) → is_among 1 ns ≡ false → clause_true (total σ) (as_row ns) ≡ holds σ ns
row_holds σ ns none =
    let kept = ascending (filter (λ m. not (nat_eq m 0)) ns) in
    let p : ℕ → Bool = λ n. literal_true (total σ) (literal_of n) in
    any_map (literal_true (total σ)) literal_of kept
    ∙ same_bools (list_any p kept) (holds σ ns)
    (λ t.
    let r = any_at p kept t in
    let k = kept_at ns r.0 r.1 in
    any_from (number_true σ) ns r.0 k.0 (sym (literal_is σ r.0 k.1 (none_there ns none r.0 k.0)) ∙ r.2))
    (λ t.
    let r = any_at (number_true σ) ns t in
    let some : r.0 ≡ 0 → ⊥ = λ z. true≢false (sym r.2 ∙ zero_false σ r.0 z) in
    any_from p kept r.0 (kept_from ns r.0 r.1 some) (literal_is σ r.0 some (none_there ns none r.0 r.1) ∙ r.2))

pub rows_hold : (σ : Assignment) (cs : List (List ℕ)) → matrix_true (total σ) (rows_of cs) ≡ all_hold σ cs
rows_hold σ [] = refl
rows_hold σ (c ∷ cs) =
    ⊎_elim
    (λ t.
    ap (λ b. matrix_true (total σ)
    (map as_row (cond (not b) (c ∷ filter (λ d. not (is_left_out d)) cs) (filter (λ d. not (is_left_out d)) cs)))) t
    ∙ rows_hold σ cs ∙ sym (ap (λ b. b && all_hold σ cs) (left_out_holds σ c t)))
    (λ f.
    ap (λ b. matrix_true (total σ)
    (map as_row (cond (not b) (c ∷ filter (λ d. not (is_left_out d)) cs) (filter (λ d. not (is_left_out d)) cs)))) f
    ∙ ap₂ (λ a b. a && b) (row_holds σ c (or_parts (is_among 1 c) (list_any (λ n. is_among (flipped n) c) c) f).0)
    (rows_hold σ cs))
    (cases_Bool (is_left_out c))
