-- What is told of a verdict.
use Rattle.std.specs.Prelude.{◌≡◌, ◌≢◌, ℕ, ℤ, ◌≤◌, Bool, true, false, List, length, map, None, IfSome}
use Rattle.prefix.specs.Literal.{signed_number}
use Rattle.trail.specs.State.{Account}
use Rattle.calculus.specs.Derivations.{core_order}
use Rattle.calculus.specs.Limits.{removal_bound, removals_of, weight_bound}
use Rattle.calculus.specs.Verdicts.{relevant_of}
use Rattle.frames.specs.State.{OpenFormula}
use Rattle.step_core.specs.Cores.{IsNumbered, Trace, inferences_of}
use Rattle.aig.specs.declared.strategy.Strategy.{Strategy}
use Rattle.aig.specs.Strategies.{IsStrategy, values_of as circuit_values}
use Rattle.aiger_out.specs.Aag.{IsAagText}
use Rattle.aiger_out.specs.Binary.{IsAigBytes}
use Rattle.trim.specs.Trimmed.{IsTrimmed, KeepsReached}
use Rattle.qrp_trace.specs.Texts.{qrp_text}
use Rattle.engine.specs.declared.counts.Counts.{Counts}
use Rattle.engine.specs.declared.group_core.CoreRefusal.TheVariants.{Spent}
use Rattle.engine.specs.Asks.{Decides, IsCertificateOf}
use Rattle.engine.specs.Cores.{HasCore, IsCoreStop, core_of, core_refusal}
use Rattle.engine.specs.Refusals.{winner_of}
use Rattle.engine.specs.State.{EngineState, VerdictState}
use Rattle.qbf_c.specs.Buffers.{AreLeft, IsPut}
use Rattle.qbf_c.specs.Codes.{core_code, no_memory, trial_spent}

-- the numbers of the assumptions that matter, which alone give the same verdict
pub record AreRelevant (formula : OpenFormula) (v : VerdictState) (numbers : List ℤ) : Type 0 where
  pub are : numbers ≡ map signed_number (relevant_of v.assumptions v.row)
  pub decide : Decides formula v (relevant_of v.assumptions v.row)

-- a circuit as it is, or trimmed
pub record IsCut (whole s : Strategy) : Type 0 where
  pub trimmed : IsTrimmed whole s
  pub reached : KeepsReached whole s
  pub plays : circuit_values s ≡ circuit_values whole

abbrev pub IsShownAs : Bool → Strategy → Strategy → Type 0
IsShownAs false whole s = s ≡ whole
IsShownAs true whole s = IsCut whole s

-- as many steps of a proof may remove literals, and as many gates may a circuit have, by what an engine has counted
abbrev pub most_removals : Counts → ℕ
most_removals c = removal_bound c.clauses c.solves c.budget c.restarts c.vars

abbrev pub most_gates : Counts → ℕ
most_gates c = weight_bound c.clauses c.solves c.budget c.restarts c.vars

-- A circuit that certifies the verdict, as it is or trimmed. It has a variable for each input, its outputs are edges of
-- it, and it has no more gates than the engine's counts allow.
pub record IsToldCircuit (trimmed : Bool) (e : EngineState) (v : VerdictState) (s : Strategy) : Type 0 where
  pub whole : Strategy
  pub certifies : IsCertificateOf e.formula v whole
  pub shown : IsShownAs trimmed whole s
  pub strategy : IsStrategy s
  pub few : length s.aig.gates ≤ most_gates e.counts

-- a text of it: the binary form, or ASCII
abbrev pub IsTextOf : Bool → Strategy → List ℕ → Type 0
IsTextOf false s text = IsAagText text s
IsTextOf true s text = IsAigBytes text s

-- a text of a circuit that is told
pub record IsCircuitText (binary trimmed : Bool) (e : EngineState) (v : VerdictState) (text : List ℕ) : Type 0 where
  pub circuit : Strategy
  pub told : IsToldCircuit trimmed e v circuit
  pub written : IsTextOf binary circuit text

-- The text of the trace of the verdict's proof, whose steps are numbered, the inputs first. Each rests on earlier ones,
-- and a later one on each but the last. No more of them remove literals than the engine's counts allow.
pub record IsTraceText (e : EngineState) (v : VerdictState) (text : List ℕ) : Type 0 where
  pub core : Trace
  pub proof : inferences_of core.lines ≡ v.proof
  pub winner : core.winner ≡ winner_of v.truth
  pub numbered : IsNumbered core.lines
  pub inputs_first : core_order v.proof ≡ v.proof
  pub few : removals_of (inferences_of core.lines) ≤ most_removals e.counts
  pub written : text ≡ qrp_text e.formula.scopes core

-- The numbers of the core's groups are put into the buffer, unless it is refused, a trial's budget is spent, or there
-- is no memory.
pub record CoreSays (budget : ℕ) (e : EngineState) (old new : List ℕ) (before now code : ℕ) : Type 0 where
  pub refused : IfSome (core_refusal e) (λ r. (code ≡ core_code r) × AreLeft old new before now)
  pub memory : code ≡ no_memory → AreLeft old new before now
  pub spent : code ≡ trial_spent → AreLeft old new before now
      × IfSome e.verdict (λ v. (account : Account)
      × IsCoreStop e.restarts budget e.formula v.assumptions (Spent account))
  pub put : core_refusal e ≡ None → code ≢ no_memory → code ≢ trial_spent → IfSome e.verdict
      (λ v. HasCore e.formula v.assumptions × IsPut (core_of e.formula v.assumptions) old new now code)
