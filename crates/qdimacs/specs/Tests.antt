-- Worked texts, of which the outcome is computed.
use Rattle.std.specs.Prelude.{◌≡◌, ℕ, suc, ℤ, pos, negsuc, true, false, ◌==◌, if◌then◌else◌, List, [], ◌∷◌, ◌++◌, map, codes, refl, Option, Some}
use Rattle.prefix.specs.declared.quant.Quant.TheVariants.{Exists, Forall}
use Rattle.reading.specs.declared.refusal.Quantity.TheVariants.{Variables, Clauses}
use Rattle.prefix.specs.Literal.{Literal}
use Rattle.prefix.specs.Scopes.{Scope}
use Rattle.qdimacs.specs.Formula.{QuantSet}
use Rattle.qdimacs.specs.Rules.{Outcome, parsed, refused, limit}
use Rattle.qdimacs.specs.Run.{outcome_of}

-- a text in which a stroke stands for each line end
abbrev pub text : List ℕ → List ℕ
text bytes = map (λ b. if b == 47 then 10 else b) bytes

abbrev pub scope : QuantSet → Scope
scope set = record { quantifier = set.0; variables = set.1 }

abbrev pub literal : ℤ → Literal
literal (pos n) = record { variable = n; positive = true }
literal (negsuc n) = record { variable = suc n; positive = false }

abbrev pub formula : List QuantSet → List (List ℤ) → ℕ → ℕ → Option Outcome
formula scopes clauses vars count = Some (parsed (record {
  prefix = map scope scopes;
  clauses = map (map literal) clauses;
  declared_vars = vars;
  declared_clauses = count;
}))

abbrev pub refusal : ℕ → ℕ → Option Outcome
refusal line number = Some (refused number line)

abbrev pub one : ℤ
one = pos 1

abbrev pub two : ℤ
two = pos 2

abbrev pub not_one : ℤ
not_one = negsuc 0

abbrev pub not_two : ℤ
not_two = negsuc 1

two_scopes : outcome_of (text (codes "p cnf 2 2/a 1 0/e 2 0/1 2 0/-1 -2 0/"))
    ≡ formula ((Forall, 1 ∷ []) ∷ (Exists, 2 ∷ []) ∷ []) ((one ∷ two ∷ []) ∷ (not_one ∷ not_two ∷ []) ∷ []) 2 2
two_scopes = refl

free_variable : outcome_of (text (codes "p cnf 2 2/a 1 0/1 2 0/-1 -2 0/"))
    ≡ formula ((Exists, 2 ∷ []) ∷ (Forall, 1 ∷ []) ∷ []) ((one ∷ two ∷ []) ∷ (not_one ∷ not_two ∷ []) ∷ []) 2 2
free_variable = refl

no_clause : outcome_of (text (codes "p cnf 0 0/")) ≡ formula [] [] 0 0
no_clause = refl

empty_clause : outcome_of (text (codes "p cnf 0 1/0/")) ≡ formula [] ([] ∷ []) 0 1
empty_clause = refl

tautology : outcome_of (text (codes "p cnf 2 2/a 1 0/e 2 0/1 -1 2 0/2 2 0/"))
    ≡ formula ((Forall, 1 ∷ []) ∷ (Exists, 2 ∷ []) ∷ []) ((two ∷ []) ∷ []) 2 2
tautology = refl

cut_or_wrong : (outcome_of (text (codes "p cnf 1 2/1 0/")) ≡ refusal 3 16)
    × (outcome_of (text (codes "p cnf 1 1/2 0/")) ≡ refusal 2 12)
    × (outcome_of (text (codes "p cnf 1 1/1")) ≡ refusal 2 15)
cut_or_wrong = (refl, refl, refl)

comments_and_returns : outcome_of (text (codes "c x" ++ 13 ∷ codes "/p cnf 1 1" ++ 13 ∷ codes "/e 1 0/c inside/1/0"
    ++ 13 ∷ 10 ∷ [])) ≡ formula ((Exists, 1 ∷ []) ∷ []) ((one ∷ []) ∷ []) 1 1
comments_and_returns = refl

each_refusal : (outcome_of [] ≡ refusal 1 10)
    × (outcome_of (text (codes "p cnf 1/")) ≡ refusal 1 11)
    × (outcome_of (text (codes "p cnf 1 0/e 1 0/a 1 0/")) ≡ refusal 3 13)
    × (outcome_of (text (codes "p cnf 1 1/1 0/e 1 0/")) ≡ refusal 3 14)
    × (outcome_of (text (codes "p cnf 1 1/1 0/1 0/")) ≡ refusal 3 17)
    × (outcome_of (text (codes "p cnf 1 1/x 0/")) ≡ refusal 2 18)
    × (outcome_of (text (codes "p cnf 1 1/99999999999999999999 0/")) ≡ refusal 2 8)
each_refusal = (refl, refl, refl, refl, refl, refl, refl)

most_variables : (outcome_of (text (codes "p cnf 1048576 0/")) ≡ formula [] [] 1048576 0)
    × (outcome_of (text (codes "p cnf 1048577 0/")) ≡ Some (limit Variables 1))
most_variables = (refl, refl)

-- malformed texts
malformed : (outcome_of (text (codes "cnf 1 0/")) ≡ refusal 2 10)
    × (outcome_of (text (codes "p dnf 1 0/")) ≡ refusal 1 11)
    × (outcome_of (text (codes "p cnf -1 0/")) ≡ refusal 1 11)
    × (outcome_of (text (codes "p cnf 1 0 0/")) ≡ refusal 1 11)
    × (outcome_of (text (codes "p cnf 9223372036854775808 0/")) ≡ refusal 1 8)
    × (outcome_of (text (codes "p cnf 1 1/-9223372036854775807 0/")) ≡ refusal 2 12)
    × (outcome_of (text (codes "p cnf 2 1/e 1/1 0/")) ≡ refusal 3 13)
    × (outcome_of (text (codes "p cnf 2 1/e 1 a 2 0/")) ≡ refusal 2 15)
    × (outcome_of (text (codes "p cnf 1 1/1 e 0/")) ≡ refusal 2 15)
    × (outcome_of (text (codes "p cnf 1 0/e 1/")) ≡ refusal 3 15)
    × (outcome_of (text (codes "p cnf 1 1/e -1 0/")) ≡ refusal 2 12)
    × (outcome_of (text (codes "p cnf 1 1/1 -0/")) ≡ refusal 2 18)
    × (outcome_of (31 ∷ 139 ∷ 8 ∷ 0 ∷ 255 ∷ []) ≡ refusal 1 7)
malformed = (refl, refl, refl, refl, refl, refl, refl, refl, refl, refl, refl, refl, refl)

-- limits of the header
limits : (outcome_of (text (codes "p cnf 1 16777216/1 0/")) ≡ refusal 3 16)
    × (outcome_of (text (codes "p cnf 16777217/")) ≡ refusal 1 11)
    × (outcome_of (text (codes "p cnf 1 16777217/1 0/")) ≡ Some (limit Clauses 1))
    × (outcome_of (text (codes "p cnf 1048577 16777217/")) ≡ Some (limit Variables 1))
    × (outcome_of (text (codes "p cnf 1048577 1 1/")) ≡ refusal 1 11)
    × (outcome_of (text (codes "p cnf 1048577 1/") ++ 255 ∷ []) ≡ refusal 2 7)
    × (outcome_of (text (codes "p cnf 1/") ++ 255 ∷ []) ≡ refusal 2 7)
limits = (refl, refl, refl, refl, refl, refl, refl)

-- empty sets are left out, neighbours merged, variables and literals put in order
built : outcome_of (text (codes "p cnf 9 3/e 3 0/a 0/e 1 0/a 5 4 0/2 -7 -3 2 0/8 -8 0/ 0/"))
    ≡ formula ((Exists, 1 ∷ 2 ∷ 3 ∷ 7 ∷ 8 ∷ []) ∷ (Forall, 4 ∷ 5 ∷ []) ∷ [])
    ((two ∷ negsuc 2 ∷ negsuc 6 ∷ []) ∷ [] ∷ []) 9 3
built = refl

-- which of two rules comes first
order : (outcome_of (text (codes "p cnf 1 0/5 0/")) ≡ refusal 2 17)
    × (outcome_of (text (codes "p cnf 2 1/e 1 1 3 0/")) ≡ refusal 2 13)
    × (outcome_of (text (codes "p cnf 2 1/e 3 1 1 0/")) ≡ refusal 2 12)
    × (outcome_of (text (codes "p cnf 2 1/1 0/1 a 0/")) ≡ refusal 3 17)
    × (outcome_of (text (codes "p cnf 2 2/1 0/a 1 0/")) ≡ refusal 3 14)
    × (outcome_of (text (codes "p cnf 2 2/1 a 0/")) ≡ refusal 2 15)
    × (outcome_of (text (codes "p/cnf 1 0/")) ≡ refusal 1 11)
    × (outcome_of (text (codes "p")) ≡ refusal 1 11)
    × (outcome_of (text (codes " /c p cnf 1 0/  7 p/")) ≡ refusal 3 10)
    × (outcome_of (text (codes "p cnf 1 0/c 1 0/ c e 1 0/a 0 e 0 a 0/")) ≡ formula [] [] 1 0)
order = (refl, refl, refl, refl, refl, refl, refl, refl, refl, refl)
