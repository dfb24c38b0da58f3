-- What commands come to that build and decide a formula.
use Rattle.std.specs.Prelude.{◌≡◌, List, Some, []}
use Rattle.prefix.specs.Literal.{Literal}
use Rattle.prefix.specs.Scopes.{quantifier_at}
use Rattle.calculus.specs.Derivations.{Inference}
use Rattle.calculus.specs.Verdicts.{IsProof}
use Rattle.versions.specs.declared.version.Version.{Version}
use Rattle.versions.specs.declared.version.Version.TheVariants.{One}
use Rattle.frames.specs.Fold.{Given, ScriptState, script_in}
use Rattle.frames.specs.State.{OpenFormula, open_clauses}
use Rattle.engine.specs.Asks.{AreFirstValues}
use Rattle.engine.specs.Refusals.{winner_of}
use Rattle.engine.specs.Verdicts.{loser_of}

-- what all replies of one verdict share: its proof, and the values of the first scope where this is the winner's
pub record Witness : Type 0 where
  pub proof : List Inference
  pub values : List Literal

-- the state that the accepted commands leave, and what the last verdict's replies share
pub record Standing : Type 0 where
  pub script : ScriptState
  pub witness : Witness

-- no command was given, in a script of a version
abbrev pub start_of : Version → Standing
start_of version = record { script = script_in version; witness = record { proof = []; values = [] } }

-- the same of version 1
abbrev pub start : Standing
start = start_of One

-- a proof of the verdict, and values of the first scope where this is the winner's
pub record IsWitness (formula : OpenFormula) (given : Given) (witness : Witness) : Type 0 where
  pub proof : IsProof (loser_of given.truth) formula.scopes (open_clauses formula) given.assumptions witness.proof
  pub values : quantifier_at formula.scopes 1 ≡ Some (winner_of given.truth) →
      AreFirstValues formula given.truth given.assumptions witness.values
