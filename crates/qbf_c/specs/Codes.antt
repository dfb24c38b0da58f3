-- The codes that calls answer, and what they say.
use Rattle.std.specs.Prelude.{◌≡◌, ◌≢◌, ◌⊎◌, ℕ, Bool, true, false, ◌==◌, if◌then◌else◌, List, Option, Some, None, is_none, Result, Ok, Err, MatchOption, unwrap_or}
use Rattle.std.specs.Option.{option_map}
use Rattle.prefix.specs.declared.quant.Quant.{Quant}
use Rattle.prefix.specs.declared.quant.Quant.TheVariants.{Exists, Forall}
use Rattle.prefix.specs.Scopes.{Scope, quantifier_at}
use Rattle.versions.specs.declared.version.Version.{Version}
use Rattle.versions.specs.declared.version.Version.TheVariants.{One, Two, Three}
use Rattle.frames.specs.declared.refusal.FrameRefusal.{FrameRefusal}
use Rattle.frames.specs.Refusal.{number_of}
use Rattle.engine.specs.declared.group_core.CoreRefusal.{CoreRefusal}
use Rattle.engine.specs.declared.group_core.CoreRefusal.TheVariants.{NoVerdict, NotUnsat, Spent, NoMemory}
use Rattle.engine.specs.declared.refusal.AskRefusal.{AskRefusal}
use Rattle.engine.specs.Refusals.{ask_number, ask_refusal}
use Rattle.engine.specs.State.{EngineState, VerdictState}

-- accepted; no such scope; no such variable; want of memory; a handle without an engine
abbrev pub accepted : ℕ
accepted = 0

abbrev pub scope_range : ℕ
scope_range = 3

abbrev pub unknown_var : ℕ
unknown_var = 41

abbrev pub no_memory : ℕ
no_memory = 60

abbrev pub no_engine : ℕ
no_engine = 61

-- a buffer with less room than is wanted; the budget of a trial is spent; no such version; no such number of rows
abbrev pub short : ℕ
short = 62

abbrev pub trial_spent : ℕ
trial_spent = 63

abbrev pub bad_version : ℕ
bad_version = 64

abbrev pub bad_kept : ℕ
bad_kept = 65

-- a refusal's number, as a reply to a script tells it
abbrev pub refusal_code : FrameRefusal → ℕ
refusal_code e = unwrap_or (number_of e) no_memory

abbrev pub code_of : {X : Type 0} → Result X FrameRefusal → ℕ
code_of (Ok x) = accepted
code_of (Err e) = refusal_code e

abbrev pub ask_code : AskRefusal → ℕ
ask_code e = unwrap_or (ask_number e) no_memory

-- the code by which each question about a verdict is refused, if it is
abbrev pub ask_refusal_code : EngineState → Option ℕ
ask_refusal_code e = option_map ask_code (ask_refusal e)

abbrev pub core_code : CoreRefusal → ℕ
core_code NoVerdict = 50
core_code NotUnsat = 53
core_code (Spent stopped) = trial_spent
core_code NoMemory = no_memory

-- What the code of a command says: which refusal comes, by this one if any, where none does want of memory at most;
-- and what holds then.
pub record Did (refusal : Option FrameRefusal) (Done Undone : Type 0) (code : ℕ) : Type 0 where
  pub ok : code ≡ accepted → Done
  pub refused : MatchOption refusal ((code ≡ accepted) ⊎ (code ≡ no_memory)) (λ e. code ≡ refusal_code e)
  pub err : code ≢ accepted → Undone

-- the same of one that takes no memory
pub record DidInPlace (refusal : Option FrameRefusal) (Done Undone : Type 0) (code : ℕ) : Type 0 where
  pub ok : code ≡ accepted → Done
  pub refused : MatchOption refusal (code ≡ accepted) (λ e. code ≡ refusal_code e)
  pub err : code ≢ accepted → Undone

abbrev pub quantifier_for : Bool → Quant
quantifier_for true = Forall
quantifier_for false = Exists

-- the number that tells a quantifier: 1 where the variables are universal
abbrev pub forall_number : Quant → ℕ
forall_number Exists = 0
forall_number Forall = 1

-- the number of a scope, 0 for the last place
abbrev pub place_for : ℕ → Option ℕ
place_for n = if n == 0 then None else Some n

-- the version of a number
abbrev pub version_for : ℕ → Option Version
version_for n = if n == 1 then Some One else if n == 2 then Some Two else if n == 3 then Some Three else None

-- the code of a verdict, or that there is none
abbrev pub truth_code : Bool → ℕ
truth_code true = 10
truth_code false = 20

abbrev pub verdict_code : Option VerdictState → ℕ
verdict_code None = 50
verdict_code (Some v) = truth_code v.truth

-- the code by which a question about a scope is refused, if it is
abbrev pub refusal_at : List Scope → ℕ → Option ℕ
refusal_at scopes n = if is_none (quantifier_at scopes n) then Some scope_range else None
