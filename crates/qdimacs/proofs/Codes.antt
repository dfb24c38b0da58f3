-- Literals with their codes and their numbers.
use Rattle.std.proofs.Common.{◌≡◌, ℕ, suc, ◌+◌, ◌-◌, ◌*◌, ◌/◌, ◌%◌, ◌<◌, ◌≤◌, pos, negsuc, nat_abs, Bool, true, false, List, [], ◌∷◌, map, refl, sym, ap, ap₂, ◌∙◌, arith}
use Rattle.std.specs.Prelude.{◌==◌, if◌then◌else◌}
use Rattle.std.specs.List.{AllByRecursion}
use Rattle.prefix.specs.Code.{code_of}
use Rattle.prefix.specs.Literal.{Literal, signed_number}
use Rattle.prefix.specs.Scopes.{IsAscending}
use Rattle.clauses.specs.Codes.{literal_of}

abbrev pub variables : List Literal → List ℕ
variables ls = map (λ (l : Literal). l.variable) ls

abbrev pub codes : List Literal → List ℕ
codes ls = map code_of ls

-- a literal is known by its code

abbrev literal : ℕ → Bool → Literal
literal v s = record { variable = v; positive = s }

literal_back : (l : Literal) → literal_of (code_of l) ≡ l
literal_back l = by l.variable l.positive
  where
    by : (v : ℕ) (s : Bool) → literal_of (code_of (literal v s)) ≡ literal v s
    by v true =
        let half : (2 * v + 1) / 2 ≡ v = omega arith in
        let sign : (2 * v + 1) % 2 ≡ 1 = omega arith in
        ap₂ (λ n r. literal n (r == 1)) half sign
    by v false =
        let half : (2 * v + 0) / 2 ≡ v = omega arith in
        let sign : (2 * v + 0) % 2 ≡ 0 = omega arith in
        ap₂ (λ n r. literal n (r == 1)) half sign

pub literals_back : (ls : List Literal) → map literal_of (codes ls) ≡ ls
literals_back [] = refl
literals_back (l ∷ ls) = ap₂ (λ (k : Literal) ks. k ∷ ks) (literal_back l) (literals_back ls)

pub same_codes : (ls ks : List Literal) → codes ls ≡ codes ks → ls ≡ ks
same_codes ls ks e = sym (literals_back ls) ∙ ap (map literal_of) e ∙ literals_back ks

-- codes ascend where variables do

code_less : (k l : Literal) → k.variable < l.variable → code_of k < code_of l
code_less k l h = by k.positive l.positive
  where
    by : (s t : Bool) → 2 * k.variable + (if s then 1 else 0) < 2 * l.variable + (if t then 1 else 0)
    by true true = omega (arith, h)
    by true false = omega (arith, h)
    by false true = omega (arith, h)
    by false false = omega (arith, h)

codes_above : (k : Literal) (ls : List Literal) → AllByRecursion (λ v. k.variable < v) (variables ls)
    → AllByRecursion (λ c. code_of k < c) (codes ls)
codes_above k [] h = tt
codes_above k (l ∷ ls) h = (code_less k l h.0, codes_above k ls h.1)

pub codes_ascend : (ls : List Literal) → IsAscending (variables ls) → IsAscending (codes ls)
codes_ascend [] h = tt
codes_ascend (l ∷ ls) h = (codes_above l ls h.0, codes_ascend ls h.1)

-- the number of a literal
pub number_abs : (l : Literal) → 1 ≤ l.variable → nat_abs (signed_number l) ≡ l.variable
number_abs l h = by l.positive
  where
    by : (s : Bool) → nat_abs (if s then pos l.variable else negsuc (l.variable - 1)) ≡ l.variable
    by true = refl
    by false = let e : suc (l.variable - 1) ≡ l.variable = omega (arith, h) in e
