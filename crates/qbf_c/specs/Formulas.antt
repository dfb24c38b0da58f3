-- Formulas that are written.
use Rattle.std.specs.Prelude.{◌≡◌, ◌≢◌, ◌↔◌, ◌⊎◌, ℕ, ◌-◌, ◌^◌, ◌<◌, ◌≤◌, Bool, false, List, length, Some, None, IfSome}
use Rattle.prefix.specs.Scopes.{all_variables}
use Rattle.prefix.specs.Sides.{opposite}
use Rattle.truth.specs.declared.formula.Formula.{Formula}
use Rattle.truth.specs.Formed.{IsFormed}
use Rattle.truth.specs.Truth.{truth}
use Rattle.calculus.specs.Plays.{Wins}
use Rattle.aig.specs.declared.strategy.Strategy.{Strategy}
use Rattle.aig.specs.Strategies.{values_of}
use Rattle.reading.specs.declared.refusal.Quantity.{Quantity}
use Rattle.reading.specs.declared.refusal.Quantity.TheVariants.{Clauses}
use Rattle.certcheck.specs.Building.{limit_of}
use Rattle.certcheck.specs.Check.{checked}
use Rattle.certcheck.specs.declared.fault.CheckFault.{CheckFault}
use Rattle.certcheck.specs.declared.fault.CheckFault.TheVariants.{Limit, NoMemory}
use Rattle.qdimacs_out.specs.Texts.{formula_text, lent_text}
use Rattle.qrp_trace.specs.Texts.{greatest}
use Rattle.frames.specs.State.{OpenFormula, open_clauses}
use Rattle.engine.specs.State.{EngineState, VerdictState}
use Rattle.qbf_c.specs.Buffers.{AreLeft, IsPut}
use Rattle.qbf_c.specs.Codes.{ask_refusal_code, no_memory}
use Rattle.qbf_c.specs.Read.{limit_code}
use Rattle.qbf_c.specs.Told.{IsToldCircuit}

-- the greatest number of clauses that a header declares
abbrev pub most_declared : ℕ
most_declared = 2 ^ 32 - 1

-- the text of the open formula, whose header declares the greatest variable and as many clauses as there are
abbrev pub open_text : OpenFormula → List ℕ
open_text formula = lent_text (record {
  vars = greatest (all_variables formula.scopes);
  clauses = length (open_clauses formula);
}) formula.scopes (open_clauses formula)

-- The text of the open formula is put into the buffer, or it has more clauses than a header declares; unless there is
-- no memory.
pub record WriteSays (formula : OpenFormula) (old new : List ℕ) (before now code : ℕ) : Type 0 where
  pub memory : code ≡ no_memory → AreLeft old new before now
  pub many : most_declared < length (open_clauses formula) → code ≢ no_memory
      → (code ≡ limit_code Clauses) × AreLeft old new before now
  pub put : length (open_clauses formula) ≤ most_declared → code ≢ no_memory
      → IsPut (open_text formula) old new now code

-- the check formula of a circuit that certifies the verdict, which is within the limits, and is unsatisfiable exactly
-- where this wins
pub record IsChecked (trimmed : Bool) (e : EngineState) (v : VerdictState) (f : Formula) : Type 0 where
  pub circuit : Strategy
  pub told : IsToldCircuit trimmed e v circuit
  pub are : f ≡ checked (open_clauses e.formula) v.assumptions circuit
  pub within : limit_of f ≡ None
  pub formed : IsFormed f
  pub decides : (truth f.prefix f.clauses ≡ false)
      ↔ Wins (opposite circuit.winner) e.formula.scopes (open_clauses e.formula) v.assumptions (values_of circuit)

-- it goes beyond a limit, which this code tells
pub record IsUnchecked (trimmed : Bool) (e : EngineState) (v : VerdictState) (code : ℕ) : Type 0 where
  pub circuit : Strategy
  pub told : IsToldCircuit trimmed e v circuit
  pub quantity : Quantity
  pub beyond : limit_of (checked (open_clauses e.formula) v.assumptions circuit) ≡ Some quantity
  pub tells : code ≡ limit_code quantity

abbrev pub fault_code : CheckFault → ℕ
fault_code (Limit quantity) = limit_code quantity
fault_code NoMemory = no_memory

-- The text of the check formula is put into the buffer, or it goes beyond a limit; unless there is no verdict, or no
-- memory.
pub record CheckSays (trimmed : Bool) (e : EngineState) (old new : List ℕ) (before now code : ℕ) : Type 0 where
  pub refused : IfSome (ask_refusal_code e) (λ c. (code ≡ c) × AreLeft old new before now)
  pub memory : code ≡ no_memory → AreLeft old new before now
  pub told : ask_refusal_code e ≡ None → code ≢ no_memory → IfSome e.verdict
      (λ v. ((f : Formula) × IsChecked trimmed e v f × IsPut (formula_text f) old new now code)
      ⊎ (IsUnchecked trimmed e v code × AreLeft old new before now))
