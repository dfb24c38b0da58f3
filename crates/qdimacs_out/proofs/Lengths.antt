-- How long texts are.
use Rattle.std.proofs.Common.{◌≡◌, ℕ, suc, ◌+◌, ◌*◌, ◌^◌, ◌≤◌, ℤ, pos, negsuc, nat_abs, List, [], ◌∷◌, ◌++◌, length, refl, ap, arith, length-append}
use Rattle.std.specs.Prelude.{flat_map}
use Rattle.std.specs.List.{AllByRecursion}
use Rattle.std.specs.Fmt.{decimal, signed_decimal}
use Rattle.std.proofs.lemmas.Fmt.{length-decimal-le}
use Rattle.prefix.specs.declared.quant.Quant.{Quant}
use Rattle.prefix.specs.declared.quant.Quant.TheVariants.{Exists, Forall}
use Rattle.prefix.specs.Literal.{Literal, signed_number}
use Rattle.prefix.specs.Scopes.{Scope, all_variables}
use Rattle.truth.specs.declared.formula.Formula.{Formula}
use Rattle.qdimacs_out.specs.Pieces.{clause_text, closing, scope_text}
use Rattle.blocks.specs.Lines.{line_text, spaced}
use Rattle.qdimacs_out.specs.Texts.{formula_text, header_line, literal_word, quantifier_word}
use Rattle.qdimacs_out.specs.Writable.{IsWritable}
use Rattle.qdimacs_out.proofs.Lines.{clause_is, scope_is, text_is}
use Rattle.qdimacs_out.proofs.ReadBack.{Fits, LiteralFits, literals_fit, scopes_fit}

-- numbers below 10^8

short_decimal : (n : ℕ) → n ≤ 2 ^ 24 → length (decimal n) ≤ 8
short_decimal n h = length-decimal-le 8 n (omega arith) (omega (arith, h)) (omega (arith, h))

short_signed : (z : ℤ) → nat_abs z ≤ 1048576 → length (signed_decimal z) ≤ 9
short_signed (pos n) h = omega (arith, short_decimal n (omega (arith, h)))
short_signed (negsuc n) h = omega (arith, short_decimal (suc n) (omega (arith, h)))

short_letter : (q : Quant) → length (spaced (quantifier_word q)) ≡ 2
short_letter Exists = refl
short_letter Forall = refl

variables_long : (vs : List ℕ) → AllByRecursion Fits vs
    → length (flat_map (λ v. spaced (decimal v)) vs) ≤ 9 * length vs
variables_long [] h = omega arith
variables_long (v ∷ vs) h =
    let low : v ≤ 1048576 = h.0 in
    omega (
      arith,
      variables_long vs h.1,
      short_decimal v (omega (arith, low)),
      length-append (decimal v) (32 ∷ []),
      length-append (spaced (decimal v)) (flat_map (λ u. spaced (decimal u)) vs),
    )

scope_long : (s : Scope) → AllByRecursion Fits s.variables → length (scope_text s) ≤ 4 + 9 * length s.variables
scope_long s h =
    let letter = spaced (quantifier_word s.quantifier) in
    let vars = flat_map (λ v. spaced (decimal v)) s.variables in
    omega (
      arith,
      ap length (scope_is s.quantifier s.variables),
      short_letter s.quantifier,
      variables_long s.variables h,
      length-append letter (vars ++ closing),
      length-append vars closing,
    )

scopes_long : (ss : List Scope) → AllByRecursion (λ s. AllByRecursion Fits s.variables) ss
    → length (flat_map scope_text ss) ≤ 4 * length ss + 9 * length (all_variables ss)
scopes_long [] h = omega arith
scopes_long (s ∷ ss) h =
    omega (
      arith,
      scope_long s h.0,
      scopes_long ss h.1,
      length-append (scope_text s) (flat_map scope_text ss),
      length-append s.variables (all_variables ss),
    )

literals_long : (c : List Literal) → AllByRecursion LiteralFits c
    → length (flat_map (λ l. spaced (literal_word l)) c) ≤ 10 * length c
literals_long [] h = omega arith
literals_long (l ∷ c) h =
    omega (
      arith,
      literals_long c h.1,
      short_signed (signed_number l) h.0,
      length-append (literal_word l) (32 ∷ []),
      length-append (spaced (literal_word l)) (flat_map (λ k. spaced (literal_word k)) c),
    )

clause_long : (c : List Literal) → AllByRecursion LiteralFits c → length (clause_text c) ≤ 2 + 10 * length c
clause_long c h =
    omega (
      arith,
      ap length (clause_is c),
      literals_long c h,
      length-append
          (flat_map (λ l. spaced (literal_word l)) c) closing,
    )

clauses_long : (cs : List (List Literal)) → AllByRecursion (AllByRecursion LiteralFits) cs
    → length (flat_map clause_text cs) ≤ 2 * length cs + 10 * length (flat_map (λ c. c) cs)
clauses_long [] h = omega arith
clauses_long (c ∷ cs) h =
    omega (
      arith,
      clause_long c h.0,
      clauses_long cs h.1,
      length-append (clause_text c) (flat_map clause_text cs),
      length-append c (flat_map (λ d. d) cs),
    )

header_long : (v m : ℕ) → v ≤ 2 ^ 24 → m ≤ 2 ^ 24 → length (line_text (header_line v m)) ≤ 24
header_long v m h k =
    omega (
      arith,
      short_decimal v h,
      short_decimal m k,
      length-append (decimal v) (32 ∷ decimal m),
      length-append (decimal v ++ (32 ∷ decimal m)) (10 ∷ []),
    )

-- the text of a formula in the form in which it is written
pub text_long : (f : Formula) → IsWritable f → length (formula_text f)
    ≤ 24 + (4 * length f.prefix + 9 * length (all_variables f.prefix)) +
    (2 * length f.clauses + 10 * length (flat_map (λ c. c) f.clauses))
text_long f w =
    let vars : f.declared_vars ≤ 1048576 = w.vars_few in
    let header = line_text (header_line f.declared_vars f.declared_clauses) in
    let first = header_long f.declared_vars f.declared_clauses (omega (arith, vars)) w.clauses_few in
    let second = scopes_long f.prefix (scopes_fit f w) in
    let third = clauses_long f.clauses (literals_fit f w) in
    omega (
      arith,
      ap length (text_is f),
      first,
      second,
      third,
      length-append header (flat_map scope_text f.prefix ++ flat_map clause_text f.clauses),
      length-append (flat_map scope_text f.prefix) (flat_map clause_text f.clauses),
    )
