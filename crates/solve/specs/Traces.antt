-- What the trace of a verdict is.
use Rattle.std.specs.Prelude.{◌≡◌, Bool, List}
use Rattle.prefix.specs.Scopes.{Scope}
use Rattle.calculus.specs.Derivations.{Inference, core_order}
use Rattle.step_core.specs.Cores.{IsNumbered, Trace as TraceCore, inferences_of}
use Rattle.qrp_trace.specs.Texts.{qrp_text}
use Rattle.engine.specs.Refusals.{winner_of}
use Rattle.solve.specs.Outputs.{Text}

-- the text is the trace of a proof, whose steps are those of a core, the inputs first, for the winner
pub record IsTraceText (scopes : List Scope) (truth : Bool) (proof : List Inference) (text : Text) : Type 0 where
  pub core : TraceCore
  pub winner : core.winner ≡ winner_of truth
  pub numbered : IsNumbered core.lines
  pub proof_steps : inferences_of core.lines ≡ proof
  pub inputs_first : core_order proof ≡ proof
  pub text_of_core : text ≡ qrp_text scopes core
