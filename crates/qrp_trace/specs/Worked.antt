-- Worked values: the texts of small cores.
use Rattle.std.specs.Prelude.{◌≡◌, List, [], ◌∷◌, codes}
use Rattle.prefix.specs.declared.quant.Quant.TheVariants.{Exists, Forall}
use Rattle.calculus.specs.Worked.{existential, existential_first, minus, plus, universal}
use Rattle.step_core.specs.declared.listing.Line.{Line}
use Rattle.step_core.specs.declared.listing.CoreStep.TheVariants.{Input, One, Two}
use Rattle.step_core.specs.Worked.{refuted}
use Rattle.qrp_trace.specs.Texts.{greatest, qrp_text}

-- under e 2 9, a 5: from 2 5 and -2 follow 2 and the empty clause
abbrev pub with_gaps : List Line
with_gaps =
    record { lits = plus 2 ∷ plus 5 ∷ []; step = Input }
    ∷ record { lits = minus 2 ∷ []; step = Input }
    ∷ record { lits = plus 2 ∷ []; step = One 1 }
    ∷ record { lits = []; step = Two 3 2 2 }
    ∷ []

-- under a 12 2, e 5: from the cubes 2 5 and -2 -5 follow 2, -2 and the empty cube
abbrev pub cubes_with_gaps : List Line
cubes_with_gaps =
    record { lits = plus 2 ∷ plus 5 ∷ []; step = Input }
    ∷ record { lits = minus 2 ∷ minus 5 ∷ []; step = Input }
    ∷ record { lits = plus 2 ∷ []; step = One 1 }
    ∷ record { lits = minus 2 ∷ []; step = One 2 }
    ∷ record { lits = []; step = Two 3 4 2 }
    ∷ []

-- texts of both sides where the greatest number of a variable isn't how many there are, nor that of the last one
pub record WorkedGaps : Type 0 where
  pub greatest_in_front : greatest (12 ∷ 2 ∷ 5 ∷ []) ≡ 12
  pub greatest_between : greatest (2 ∷ 9 ∷ 5 ∷ []) ≡ 9
  pub greatest_at_last : greatest (5 ∷ 2 ∷ 9 ∷ []) ≡ 9
  pub gaps_text : qrp_text (existential (2 ∷ 9 ∷ []) ∷ universal (5 ∷ []) ∷ [])
      (record { winner = Forall; lines = with_gaps })
      ≡ codes "p qrp 9 4\ne 2 9 0\na 5 0\n1 2 5 0 0\n2 -2 0 0\n3 2 0 1 0\n4 0 2 3 0\nr UNSAT\n"
  pub cube_gaps_text : qrp_text (universal (12 ∷ 2 ∷ []) ∷ existential (5 ∷ []) ∷ [])
      (record { winner = Exists; lines = cubes_with_gaps })
      ≡ codes "p qrp 12 5\na 12 2 0\ne 5 0\n1 2 5 0 0\n2 -2 -5 0 0\n3 2 0 1 0\n4 -2 0 2 0\n5 0 3 4 0\nr SAT\n"

-- texts: of the core of the empty clause; of an assumed clause that is its own proof; of a cube with its finish; of no
-- variables
pub record WorkedTexts : Type 0 where
  pub refutation_text : qrp_text existential_first (record { winner = Forall; lines = refuted })
      ≡ codes "p qrp 2 5\ne 2 0\na 1 0\n1 1 2 0 0\n2 -1 -2 0 0\n3 2 0 1 0\n4 -2 0 2 0\n5 0 3 4 0\nr UNSAT\n"
  pub assumed_text : qrp_text (existential (1 ∷ 2 ∷ []) ∷ [])
      (record { winner = Forall; lines = record { lits = plus 1 ∷ []; step = Input } ∷ [] })
      ≡ codes "p qrp 2 1\ne 1 2 0\n1 1 0 0\nr UNSAT\n"
  pub cube_text : qrp_text (existential (1 ∷ []) ∷ [])
      (record {
        winner = Exists;
        lines = record { lits = plus 1 ∷ []; step = Input }
            ∷ record { lits = []; step = One 1 } ∷ [];
      })
      ≡ codes "p qrp 1 2\ne 1 0\n1 1 0 0\n2 0 1 0\nr SAT\n"
  pub empty_text : qrp_text (existential [] ∷ [])
      (record { winner = Exists; lines = record { lits = []; step = Input } ∷ [] }) ≡ codes "p qrp 0 1\n1 0 0\nr SAT\n"
  pub greater_number_last : qrp_text []
      (record { winner = Forall; lines = record { lits = []; step = Two 4 3 2 } ∷ [] })
      ≡ codes "p qrp 0 1\n1 0 3 4 0\nr UNSAT\n"
