-- Worked values: what jobs write, and what comes of checking certificates.
use Rattle.std.specs.Prelude.{◌≡◌, ◌≤◌, true, false, ◌∷◌, codes, Some, None, []}
use Rattle.prefix.specs.declared.quant.Quant.TheVariants.{Exists, Forall}
use Rattle.truth.specs.declared.formula.Formula.{Formula}
use Rattle.trail.specs.State.{Account}
use Rattle.reading.specs.declared.refusal.Quantity.TheVariants.{Variables}
use Rattle.solve.specs.declared.answer.Answer.TheVariants.{Sat, Unsat, Unknown}
use Rattle.solve.specs.declared.ending.Ending.TheVariants.{CheckLimit, Done, NoMemory}
use Rattle.files.specs.declared.job.Job.TheVariants.{Solve as SolveJob, Qdo as QdoJob, Qcir as QcirJob, Trace as TraceJob, Cert as CertJob}
use Rattle.files.specs.declared.check.Outcome.TheVariants.{Unknown as Stopped, Checked, Undecided, Beyond}
use Rattle.files.specs.Checks.{IsCheck, IsCheckReply, LeavesCheck, check_ending}
use Rattle.files.specs.Jobs.{IsJobText, IsReplyTo, LeavesOutput, RoomForJob, solution_line, value_lines}
use Rattle.solve.specs.Terms.{terms_of}
use Rattle.files.specs.WorkedInputs.{one_text}
use Rattle.solve.specs.Worked.{at_thirty_six, differs, nothing_fits, trace_text}

-- a formula of no clause
abbrev pub anything_fits : Formula
anything_fits = record { prefix = []; clauses = []; declared_vars = 0; declared_clauses = 0 }

-- a search over two variables that stopped at nineteen steps, after one assignment
abbrev pub at_nineteen : Account
at_nineteen = record at_thirty_six { budget = 19 }

pub record WorkedJobs : Type 0 where
  -- a line for a solve, and no other
  pub solved : IsJobText SolveJob (terms_of 0 0 512) nothing_fits Unsat (codes "UNSAT\n")
  pub not_solved : IsJobText SolveJob (terms_of 0 0 512) nothing_fits Unsat (codes "SAT\n") → ⊥
  -- the same for a circuit, by its formula
  pub circuit_solved : IsJobText QcirJob (terms_of 0 0 512) nothing_fits Unsat (codes "UNSAT\n")
  pub circuit_not_solved : IsJobText QcirJob (terms_of 0 0 512) nothing_fits Unsat (codes "SAT\n") → ⊥
  pub circuit_unknown : IsJobText QcirJob (terms_of 0 0 512) nothing_fits Unknown (codes "UNKNOWN\n")
  pub circuit_not_silent : IsJobText QcirJob (terms_of 0 0 512) nothing_fits Unknown [] → ⊥
  -- the trace of the empty clause, which no line of an answer is
  pub traced : IsJobText TraceJob (terms_of 0 0 512) nothing_fits Unsat trace_text
  pub not_traced : IsJobText TraceJob (terms_of 0 0 512) nothing_fits Unsat (codes "UNSAT\n") → ⊥
  -- a circuit without variables, which is no trace, in ASCII and in the binary form
  pub certified : IsJobText (CertJob false true) (terms_of 0 0 512) anything_fits Sat
      (codes "aag 0 0 0 0 0\nc\nskolem\n")
  pub not_certified : IsJobText (CertJob false true) (terms_of 0 0 512) anything_fits Sat
      (codes "p qrp 0 1\n1 0 0\nr SAT\n") → ⊥
  pub in_binary : IsJobText (CertJob true false) (terms_of 0 0 512) anything_fits Sat
      (codes "aig 0 0 0 0 0\nc\nskolem\n")
  pub not_in_binary : IsJobText (CertJob true false) (terms_of 0 0 512) anything_fits Sat
      (codes "aag 0 0 0 0 0\nc\nskolem\n") → ⊥
  -- a solution line with the header's numbers, for each answer
  pub true_line : solution_line Sat (differs Forall Exists) ≡ codes "s cnf 1 2 2\n"
  pub false_line : solution_line Unsat nothing_fits ≡ codes "s cnf 0 0 1\n"
  pub unknown_line : IsJobText QdoJob (terms_of 0 0 512) nothing_fits Unknown (codes "s cnf -1 0 1\n")
  pub not_false_line : IsJobText QdoJob (terms_of 0 0 512) nothing_fits Unknown (codes "s cnf 0 0 1\n") → ⊥
  -- a line for each value of the first scope, where this is the winner's
  pub values_won : value_lines (differs Exists Forall).prefix true
      (record { variable = 1; positive = false } ∷ []) ≡ codes "V -1 0\n"
  pub values_lost : value_lines (differs Exists Forall).prefix false
      (record { variable = 1; positive = false } ∷ []) ≡ []
  -- another line for each other job where the answer is unknown
  pub unknown : IsJobText (CertJob true true) (terms_of 0 0 512) nothing_fits Unknown (codes "UNKNOWN\n")
  pub not_silent : IsJobText TraceJob (terms_of 0 0 512) nothing_fits Unknown [] → ⊥
  -- a reply with its entry, and none without
  pub told : IsReplyTo SolveJob (terms_of 19 0 512) (differs Forall Exists) ([], at_nineteen ∷ []) Unknown
      (codes "UNKNOWN\n")
  pub untold : IsReplyTo SolveJob (terms_of 19 0 512) (differs Forall Exists) ([], []) Unknown (codes "UNKNOWN\n") → ⊥
  -- Eight bytes are room for each line of a solve, and five aren't. Where the formula is known to be true, with a
  -- budget that suffices, four are.
  pub room : RoomForJob SolveJob (terms_of 0 0 512) None (λ n. n ≤ 8)
  pub no_room : RoomForJob SolveJob (terms_of 0 0 512) None (λ n. n ≤ 5) → ⊥
  pub room_for_one : RoomForJob SolveJob (terms_of 16 0 512) (Some (codes "p cnf 0 0\n")) (λ n. n ≤ 4)
  pub no_room_for_one : RoomForJob SolveJob (terms_of 16 0 512) (Some (codes "p cnf 0 0\n")) (λ n. n ≤ 3) → ⊥
  -- a circuit that is true wants room for its own line alone, where it is known
  pub room_for_circuit : RoomForJob QcirJob (terms_of 64 0 512) (Some one_text) (λ n. n ≤ 4)
  pub no_room_for_circuit : RoomForJob QcirJob (terms_of 64 0 512) None (λ n. n ≤ 4) → ⊥
  -- after an ending without an answer nothing more is written
  pub kept : LeavesOutput SolveJob (terms_of 12 0 512) None (Some [], Some []) ([], []) NoMemory
  pub not_kept : LeavesOutput SolveJob (terms_of 12 0 512) None (Some [], Some (codes "SAT\n")) ([], []) NoMemory → ⊥

pub record WorkedChecks : Type 0 where
  -- the check formula of the circuit of no gates, which wins where there is no clause: a selector is true, of none
  pub written : IsCheck false (terms_of 0 0 512) anything_fits ([], []) (Checked true) (codes "p cnf 0 1\n0\n")
  pub not_decided : IsCheck false (terms_of 0 0 512) anything_fits ([], []) (Checked true) (codes "WINS\n") → ⊥
  pub decided : IsCheck true (terms_of 0 0 512) anything_fits ([], []) (Checked true) (codes "WINS\n")
  pub not_written : IsCheck true (terms_of 0 0 512) anything_fits ([], []) (Checked true) (codes "p cnf 0 1\n0\n") → ⊥
  pub not_false : IsCheck false (terms_of 0 0 512) anything_fits ([], []) (Checked false) (codes "p cnf 0 1\n0\n") → ⊥
  -- a search that stops is told, on the way to the verdict and where the check formula is decided
  pub unknown : IsCheck true (terms_of 19 0 512) (differs Forall Exists) ([], at_nineteen ∷ []) Stopped
      (codes "UNKNOWN\n")
  pub untold : IsCheck true (terms_of 19 0 512) (differs Forall Exists) ([], []) Stopped (codes "UNKNOWN\n") → ⊥
  pub undecided : IsCheckReply true (terms_of 19 0 512) (differs Forall Exists) true ([], at_nineteen ∷ []) Undecided
      (codes "UNDECIDED\n")
  pub not_won : IsCheckReply true (terms_of 19 0 512) (differs Forall Exists) true ([], at_nineteen ∷ []) Undecided
      (codes "WINS\n") → ⊥
  pub not_asked : IsCheckReply false (terms_of 19 0 512) (differs Forall Exists) true ([], at_nineteen ∷ []) Undecided
      (codes "UNDECIDED\n") → ⊥
  -- endings
  pub ends : check_ending (Checked false) ≡ Done 20
  pub ends_undecided : check_ending Undecided ≡ Done 0
  pub ends_beyond : check_ending (Beyond Variables) ≡ CheckLimit Variables
  -- after an ending without an answer nothing more is written
  pub kept : LeavesCheck true (terms_of 12 0 512) None (Some [], Some []) ([], []) NoMemory
  pub not_kept : LeavesCheck true (terms_of 12 0 512) None (Some [], Some (codes "WINS\n")) ([], []) NoMemory → ⊥
