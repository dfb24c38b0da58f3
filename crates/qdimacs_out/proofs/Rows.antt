-- The clause of the numbers of a row is the row.
use Rattle.std.proofs.Common.{◌≡◌, ℕ, ◌+◌, ◌-◌, ◌*◌, ◌/◌, ◌≤◌, ◌<◌, ℤ, pos, negsuc, nat_abs, Bool, true, false, not, ◌||◌, List, [], ◌∷◌, map, refl, sym, ap, ap₂, ◌∙◌, arith}
use Rattle.std.specs.Prelude.{filter, if◌then◌else◌}
use Rattle.std.specs.List.{AllByRecursion}
use Rattle.std.proofs.lemmas.Bool.{ne_eqb}
use Rattle.prefix.specs.Code.{code_of as literal_code}
use Rattle.prefix.specs.Literal.{Literal, signed_number}
use Rattle.prefix.specs.Scopes.{IsAscending}
use Rattle.qdimacs.specs.Formula.{matrix_of}
use Rattle.qdimacs.proofs.Codes.{codes, codes_ascend, literals_back, variables, number_abs}
use Rattle.clauses.specs.Clause.{as_row, is_tautology}
use Rattle.clauses.specs.Codes.{code_of, codes_of, has_pair, literal_of}
use Rattle.clauses.proofs.Rows.{not_taut, row_is}

-- the numbers of literals
abbrev pub numbers : List Literal → List ℤ
numbers ls = map signed_number ls

abbrev pub ArePositive : List Literal → Type 0
ArePositive ls = AllByRecursion (λ (l : Literal). 1 ≤ l.variable) ls

number_code : (l : Literal) → 1 ≤ l.variable → code_of (signed_number l) ≡ literal_code l
number_code l h = by l.positive
  where
    by : (s : Bool) → code_of (if s then pos l.variable else negsuc (l.variable - 1))
        ≡ 2 * l.variable + (if s then 1 else 0)
    by true = refl
    by false = let e : 2 * (l.variable - 1 + 1) ≡ 2 * l.variable + 0 = omega (arith, h) in e

number_codes : (ls : List Literal) → ArePositive ls → codes_of (numbers ls) ≡ codes ls
number_codes [] h = refl
number_codes (l ∷ ls) h = ap₂ (λ (c : ℕ) cs. c ∷ cs) (number_code l h.0) (number_codes ls h.1)

numbers_some : (ls : List Literal) → ArePositive ls → AllByRecursion (λ n. 0 < nat_abs n) (numbers ls)
numbers_some [] h = tt
numbers_some (l ∷ ls) h = (rw (number_abs l h.0) h.0, numbers_some ls h.1)

code_half : (l : Literal) → literal_code l / 2 ≡ l.variable
code_half l = by l.positive
  where
    by : (s : Bool) → (2 * l.variable + (if s then 1 else 0)) / 2 ≡ l.variable
    by true = omega arith
    by false = omega arith

-- no two neighbours have one variable
no_pair : (ls : List Literal) → IsAscending (variables ls) → has_pair (codes ls) ≡ false
no_pair [] h = refl
no_pair (l ∷ []) h = refl
no_pair (l ∷ k ∷ ls) h =
    let below : l.variable < k.variable = h.0.0 in
    ap₂ (λ a b. a || b)
    (ne_eqb (literal_code l / 2) (literal_code k / 2) (λ e. omega (arith, e, below, code_half l, code_half k)))
    (no_pair (k ∷ ls) h.1)

module _ (ls : List Literal) (up : IsAscending (variables ls)) (some : ArePositive ls) where
  same : codes_of (numbers ls) ≡ codes ls
  same = number_codes ls some

  rising : IsAscending (codes_of (numbers ls))
  rising = rw same (codes_ascend ls up)

  apart : has_pair (codes_of (numbers ls)) ≡ false
  apart = ap has_pair same ∙ no_pair ls up

  pub no_tautology : is_tautology (numbers ls) ≡ false
  no_tautology = not_taut (numbers ls) (codes_of (numbers ls)) (numbers_some ls some) rising (λ c. refl) apart

  pub row_back : as_row (numbers ls) ≡ ls
  row_back =
      sym (row_is (numbers ls) (codes_of (numbers ls)) (numbers_some ls some) rising (λ c. refl) apart)
      ∙ ap (map literal_of) same ∙ literals_back ls

-- clauses of such rows
abbrev pub IsRowOf : List Literal → Type 0
IsRowOf ls = IsAscending (variables ls) × ArePositive ls

pub matrix_back : (cs : List (List Literal)) → AllByRecursion IsRowOf cs → matrix_of (map numbers cs) ≡ cs
matrix_back [] h = refl
matrix_back (c ∷ cs) h =
    ap (λ t. map as_row (if not t then numbers c ∷ filter (λ d. not (is_tautology d)) (map numbers cs)
    else filter (λ d. not (is_tautology d)) (map numbers cs))) (no_tautology c h.0.0 h.0.1)
    ∙ ap₂ (λ (d : List Literal) ds. d ∷ ds) (row_back c h.0.0 h.0.1) (matrix_back cs h.1)
