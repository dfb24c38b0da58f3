-- Proofs of one step.
use Rattle.std.proofs.Common.{[], ◌∷◌, ◌≡◌, None, Some, refl, false, codes}
use Rattle.prefix.specs.declared.quant.Quant.TheVariants.{Exists, Forall}
use Rattle.calculus.specs.Derivations.Reason.{Input}
use Rattle.calculus.specs.Verdicts.{IsProof}
use Rattle.calculus.proofs.Lists.{contains_nil, contains_head}
use Rattle.solve.specs.Decisions.{Decides}
use Rattle.solve.specs.Worked.{contradiction, refuted}
use Rattle.solve.specs.Outputs.{says}
use Rattle.solve.specs.Standing.{Witness}

-- the empty cube hits no clause, and is a proof by itself
pub empty_cube : IsProof Forall [] [] [] (record { row = []; reason = Input } ∷ [])
empty_cube = record {
  front = [];
  last = record { row = []; reason = Input };
  parts = refl;
  legal = tt;
  last_row = record { ascending = tt; over_prefix = λ l i. absurd (contains_nil l i) };
  last_step = λ c i. absurd (contains_nil c i);
  decided = λ l i. absurd (contains_nil l i);
  used = tt;
}

-- the empty clause is a proof by itself
pub empty_proof : IsProof Exists [] ([] ∷ []) [] (record { row = []; reason = Input } ∷ [])
empty_proof = record {
  front = [];
  last = record { row = []; reason = Input };
  parts = refl;
  legal = tt;
  last_row = record { ascending = tt; over_prefix = λ l i. absurd (contains_nil l i) };
  last_step = contains_head [] [];
  decided = λ l i. absurd (contains_nil l i);
  used = tt;
}

-- the formula of the empty clause is false, whatever came before
pub refutes : (witness : Witness) → Decides (record { script = contradiction.script; witness = witness })
    (says (codes "UNSAT\n")) refuted
refutes witness = record {
  truth = false;
  right = refl;
  witness = record { proof = empty_proof; values = λ e. absurd (let f : None ≡ Some Forall = e in cc) };
  says_truth = refl;
  state = refl;
}
