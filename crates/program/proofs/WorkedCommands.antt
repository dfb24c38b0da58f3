-- Worked values: what is said of a command of each kind, on terms of its own.
use Rattle.std.proofs.Common.{◌≡◌, ℕ, Bool, true, false, List, codes, length, Option, None, refl}
use Rattle.std.specs.Prelude.{IfSome}
use Rattle.trail.specs.State.{Account}
use Rattle.command.specs.Forms.{Text}
use Rattle.command.specs.declared.command.Command.{Command}
use Rattle.command.specs.declared.command.Command.TheVariants.{Demo, Read}
use Rattle.command.specs.declared.command.Input.{Input}
use Rattle.command.specs.declared.command.Verb.TheVariants.{Cert, Check, Solve, Trace}
use Rattle.command.specs.declared.command.SolveForm.TheVariants.{Plain, Qcir, Qdo}
use Rattle.samples.specs.Samples.{counts_text}
use Rattle.files.specs.declared.job.Job.TheVariants.{Cert as CertJob, Qcir as QcirJob, Qdo as QdoJob, Solve as SolveJob, Trace as TraceJob}
use Rattle.files.specs.Checks.{RoomForCheck}
use Rattle.files.specs.Inputs.{Format}
use Rattle.files.specs.Inputs.Format.{as_circuit, as_formula}
use Rattle.files.specs.Jobs.{RoomForJob}
use Rattle.solve.specs.Terms.{Terms, terms_of}
use Rattle.program.specs.Asked.{IsSample, OfCheckTask, OfFormula, OfScript, RoomForTask, SteadyFor, known_for, solve_job, task_of}
use Rattle.program.specs.Told.{IsCheckOutput, IsJobOutput, IsOutputOf, IsSampleOutput}

-- an input on terms of its own
abbrev pub some_input : Input
some_input = record { budget = 7; restarts = 1; kept = 512; name = None }

abbrev qdo : Command
qdo = Read (Solve Qdo) some_input

abbrev circuit : Command
circuit = Read (Solve Qcir) some_input

abbrev trace : Command
trace = Read Trace some_input

abbrev cert : Command
cert = Read (Cert true false) some_input

abbrev check : Command
check = Read (Check true) some_input

abbrev demo : Command
demo = Demo 0 1

abbrev seven : Terms
seven = terms_of 7 1 512

-- the jobs of `solve`
pub with_qdo : solve_job Qdo ≡ QdoJob
with_qdo = refl

pub with_qcir : solve_job Qcir ≡ QcirJob
with_qcir = refl

pub without_flag : solve_job Plain ≡ SolveJob
without_flag = refl

-- each reads the formula of its input, and one of them a circuit
module _ (content : Text → Option Text) (P : Format → Terms → Text → Type 0) where
  pub of_qdo : OfFormula (task_of qdo) content P → IfSome (content (codes "-")) (P as_formula seven)
  of_qdo h = h

  pub of_circuit : OfFormula (task_of circuit) content P → IfSome (content (codes "-")) (P as_circuit seven)
  of_circuit h = h

  pub of_trace : OfFormula (task_of trace) content P → IfSome (content (codes "-")) (P as_formula seven)
  of_trace h = h

  pub of_cert : OfFormula (task_of cert) content P → IfSome (content (codes "-")) (P as_formula seven)
  of_cert h = h

  pub of_check : OfFormula (task_of check) content P → IfSome (content (codes "-")) (P as_formula seven)
  of_check h = h

  pub to_qdo : IfSome (content (codes "-")) (P as_formula seven) → OfFormula (task_of qdo) content P
  to_qdo h = h

  pub to_circuit : IfSome (content (codes "-")) (P as_circuit seven) → OfFormula (task_of circuit) content P
  to_circuit h = h

  pub to_trace : IfSome (content (codes "-")) (P as_formula seven) → OfFormula (task_of trace) content P
  to_trace h = h

  pub to_cert : IfSome (content (codes "-")) (P as_formula seven) → OfFormula (task_of cert) content P
  to_cert h = h

  pub to_check : IfSome (content (codes "-")) (P as_formula seven) → OfFormula (task_of check) content P
  to_check h = h

  pub no_formula_of_demo : OfFormula (task_of demo) content P → ⊥
  no_formula_of_demo h = h

-- and no script, and `demo` has none
module _ (content : Text → Option Text) (P : Terms → Text → Type 0) where
  pub no_script_of_circuit : OfScript (task_of circuit) content P → ⊥
  no_script_of_circuit h = h

  pub no_script_of_trace : OfScript (task_of trace) content P → ⊥
  no_script_of_trace h = h

  pub no_script_of_cert : OfScript (task_of cert) content P → ⊥
  no_script_of_cert h = h

  pub no_script_of_check : OfScript (task_of check) content P → ⊥
  no_script_of_check h = h

  pub no_script_of_demo : OfScript (task_of demo) content P → ⊥
  no_script_of_demo h = h

  pub known_of_trace : known_for content (task_of trace) ≡ content (codes "-")
  known_of_trace = refl

  pub known_of_cert : known_for content (task_of cert) ≡ content (codes "-")
  known_of_cert = refl

  pub known_of_check : known_for content (task_of check) ≡ content (codes "-")
  known_of_check = refl

  pub known_of_demo : known_for content (task_of demo) ≡ None
  known_of_demo = refl

-- `check` alone checks a certificate
module _ (content : Text → Option Text) (P : Bool → Terms → Text → Type 0) where
  pub checks : OfCheckTask (task_of check) content P → IfSome (content (codes "-")) (P true seven)
  checks h = h

  pub is_checked : IfSome (content (codes "-")) (P true seven) → OfCheckTask (task_of check) content P
  is_checked h = h

  pub no_check_of_qdo : OfCheckTask (task_of qdo) content P → ⊥
  no_check_of_qdo h = h

  pub no_check_of_circuit : OfCheckTask (task_of circuit) content P → ⊥
  no_check_of_circuit h = h

  pub no_check_of_trace : OfCheckTask (task_of trace) content P → ⊥
  no_check_of_trace h = h

  pub no_check_of_cert : OfCheckTask (task_of cert) content P → ⊥
  no_check_of_cert h = h

  pub no_check_of_demo : OfCheckTask (task_of demo) content P → ⊥
  no_check_of_demo h = h

pub no_sample_of_check : IsSample (task_of check) → ⊥
no_sample_of_check h = h

pub no_sample_of_trace : IsSample (task_of trace) → ⊥
no_sample_of_trace h = h

pub no_sample_of_cert : IsSample (task_of cert) → ⊥
no_sample_of_cert h = h

-- each leaves what its job does, on its terms
module _ (known : Option Text) (written : Option Text × Option Text) (stops : List Account) (status : ℕ) where
  pub qdo_leaves : IsOutputOf (task_of qdo) known written stops status → IsJobOutput QdoJob seven known written stops
      status
  qdo_leaves h = h

  pub circuit_leaves : IsOutputOf (task_of circuit) known written stops status
      → IsJobOutput QcirJob seven known written stops status
  circuit_leaves h = h

  pub trace_leaves : IsOutputOf (task_of trace) known written stops status → IsJobOutput TraceJob seven known written
      stops status
  trace_leaves h = h

  pub cert_leaves : IsOutputOf (task_of cert) known written stops status
      → IsJobOutput (CertJob true false) seven known written stops status
  cert_leaves h = h

  pub check_leaves : IsOutputOf (task_of check) known written stops status → IsCheckOutput true seven known written
      stops status
  check_leaves h = h

  pub demo_leaves : IsOutputOf (task_of demo) known written stops status → IsSampleOutput (counts_text 0 1) written
      stops status
  demo_leaves h = h

-- and wants no more room
module _ (known : Option Text) (has_room : ℕ → Type 0) where
  pub room_for_qdo : RoomForJob QdoJob seven known has_room → RoomForTask (task_of qdo) known has_room
  room_for_qdo h = h

  pub room_for_circuit : RoomForJob QcirJob seven known has_room → RoomForTask (task_of circuit) known has_room
  room_for_circuit h = h

  pub room_for_trace : RoomForJob TraceJob seven known has_room → RoomForTask (task_of trace) known has_room
  room_for_trace h = h

  pub room_for_cert : RoomForJob (CertJob true false) seven known has_room → RoomForTask (task_of cert) known has_room
  room_for_cert h = h

  pub room_for_check : RoomForCheck true seven known has_room → RoomForTask (task_of check) known has_room
  room_for_check h = h

  pub room_for_demo : has_room (length (counts_text 0 1)) → RoomForTask (task_of demo) known has_room
  room_for_demo h = h

-- nor a desk that is steady for more than its input
module _ (steady : Text → Type 0) where
  pub steady_for_circuit : steady (codes "-") → SteadyFor (task_of circuit) steady
  steady_for_circuit h = h

  pub steady_for_trace : steady (codes "-") → SteadyFor (task_of trace) steady
  steady_for_trace h = h

  pub steady_for_cert : steady (codes "-") → SteadyFor (task_of cert) steady
  steady_for_cert h = h

  pub steady_for_check : steady (codes "-") → SteadyFor (task_of check) steady
  steady_for_check h = h

  pub steady_for_demo : SteadyFor (task_of demo) steady
  steady_for_demo = tt
