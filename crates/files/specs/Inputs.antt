-- What the text of an input says: the formula that is decided, or why there is none.
use Rattle.std.specs.Prelude.{◌≡◌, List, ℕ}
use Rattle.truth.specs.declared.formula.Formula.{Formula}
use Rattle.truth.specs.Truth.{truth}
use Rattle.qdimacs.specs.Rules.{Outcome, parsed, refused, limit}
use Rattle.qdimacs.specs.Reads.{Reads}
use Rattle.qcir.specs.declared.circuit.Circuit.{Circuit}
use Rattle.qcir.specs.Truth.{circuit_truth}
use Rattle.qcir.specs.Translation.{translated}
use Rattle.qcir_reader.specs.Rules.{parsed as circuit, refused as circuit_refused, limit as circuit_limit}
use Rattle.qcir_reader.specs.Reads.{Reads as ReadsCircuit}
use Rattle.files.specs.declared.job.Job.{Job}
use Rattle.files.specs.declared.job.Job.TheVariants.{Solve, Qdo, Qcir, Trace, Cert}

-- how an input is written: as a formula in QDIMACS 1.1, or as a quantified circuit in QCIR-14
pub data Format : Type 0 where
  as_formula : Format
  as_circuit : Format

-- the format of a job's input
abbrev pub format_of : Job → Format
format_of Solve = as_formula
format_of Qdo = as_formula
format_of Qcir = as_circuit
format_of Trace = as_formula
format_of (Cert binary trim) = as_formula

-- The text is a circuit, and the formula is its translation, which is true exactly where the circuit is.
pub record IsTranslated (text : List ℕ) (f : Formula) : Type 0 where
  pub source : Circuit
  pub read : ReadsCircuit text (circuit source)
  pub formula : f ≡ translated source
  pub same_truth : truth f.prefix f.clauses ≡ circuit_truth source

-- What a text says that is read as a circuit: the circuit's formula, or where it is malformed or beyond a limit.
abbrev pub SaysOfCircuit : List ℕ → Outcome → Type 0
SaysOfCircuit text (parsed f) = IsTranslated text f
SaysOfCircuit text (refused number line) = ReadsCircuit text (circuit_refused number line)
SaysOfCircuit text (limit quantity line) = ReadsCircuit text (circuit_limit quantity line)

-- What a text says by its format.
abbrev pub Says : Format → List ℕ → Outcome → Type 0
Says as_formula text outcome = Reads text outcome
Says as_circuit text outcome = SaysOfCircuit text outcome
