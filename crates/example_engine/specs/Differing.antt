-- For each value of 1 there is one of 2 that differs from it, asked where 1 is true.
use Rattle.std.specs.Prelude.{◌≡◌, true, false, [], ◌∷◌}
use Rattle.prefix.specs.declared.quant.Quant.TheVariants.{Exists, Forall}
use Rattle.frames.specs.State.{OpenFormula, empty_formula, empty_frame}
use Rattle.engine.specs.State.{EngineState}

-- two scopes, one frame with two clauses, and one assumption, in version 1
abbrev pub differing : OpenFormula
differing = record empty_formula {
  scopes =
      record { quantifier = Forall; variables = 1 ∷ [] }
      ∷ record { quantifier = Exists; variables = 2 ∷ [] }
      ∷ [];
  frames = record empty_frame {
    clauses =
        (record { variable = 1; positive = true } ∷ record { variable = 2; positive = true } ∷ [])
        ∷ (record { variable = 1; positive = false } ∷ record { variable = 2; positive = false } ∷ [])
        ∷ [];
  } ∷ [];
  assumptions = record { variable = 1; positive = true } ∷ [];
}

-- an engine with this formula, whose search never begins anew
pub record Holds (formula : OpenFormula) (e : EngineState) : Type 0 where
  pub formula_is : e.formula ≡ formula
  pub never : e.restarts ≡ 0
