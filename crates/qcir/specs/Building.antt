-- What the formula is built of.
use Rattle.std.specs.Prelude.{Bool, true, false, List, [], ◌∷◌, length, map}
use Rattle.prefix.specs.declared.quant.Quant.TheVariants.{Exists}
use Rattle.prefix.specs.Literal.{Literal, negation}
use Rattle.prefix.specs.Scopes.{Scope, quantifier_at}
use Rattle.prefix.specs.Sides.{is_of}

-- whether the last scope is existential
abbrev pub ends_existential : List Scope → Bool
ends_existential scopes = is_of (quantifier_at scopes (length scopes)) Exists

-- a literal itself, or its negation
abbrev pub literal_when : Bool → Literal → Literal
literal_when true l = l
literal_when false l = negation l

-- for each of these literals, or of their negations, a clause of it behind another
abbrev pub pairs : Literal → Bool → List Literal → List (List Literal)
pairs first kept ls = map (λ l. first ∷ literal_when kept l ∷ []) ls
