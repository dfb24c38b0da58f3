-- Two small formulas, for worked values.
use Rattle.std.specs.Prelude.{[], ◌∷◌}
use Rattle.prefix.specs.declared.quant.Quant.TheVariants.{Exists, Forall}
use Rattle.truth.specs.declared.formula.Formula.{Formula}
use Rattle.clauses.specs.Worked.{minus, plus}

-- three scopes of one variable each, and a clause over all of them
abbrev pub smallest : Formula
smallest = record {
  prefix = record { quantifier = Exists; variables = 1 ∷ [] }
      ∷ record { quantifier = Forall; variables = 2 ∷ [] }
      ∷ record { quantifier = Exists; variables = 3 ∷ [] }
      ∷ [];
  clauses = (minus 1 ∷ plus 2 ∷ minus 3 ∷ []) ∷ [];
  declared_vars = 3;
  declared_clauses = 1;
}

-- three scopes, the last with two variables, and two clauses
abbrev pub two_clauses : Formula
two_clauses = record {
  prefix = record { quantifier = Exists; variables = 1 ∷ [] }
      ∷ record { quantifier = Forall; variables = 2 ∷ [] }
      ∷ record { quantifier = Exists; variables = 3 ∷ 4 ∷ [] }
      ∷ [];
  clauses = (minus 1 ∷ minus 3 ∷ minus 4 ∷ []) ∷ (minus 1 ∷ plus 3 ∷ minus 4 ∷ []) ∷ [];
  declared_vars = 4;
  declared_clauses = 2;
}
