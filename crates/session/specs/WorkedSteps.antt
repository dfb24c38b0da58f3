-- Worked values: which reply comes to a command, and what a command leaves of a session.
use Rattle.std.specs.Prelude.{List, pos, [], ◌∷◌, None}
use Rattle.std.specs.List.{AllByRecursion}
use Rattle.prefix.specs.declared.quant.Quant.TheVariants.{Exists}
use Rattle.engine.specs.State.{EngineState, new_engine}
use Rattle.qscript.specs.declared.command.Command.{Command}
use Rattle.qscript.specs.declared.command.Command.TheVariants.{Assume, Cert, Clause, Pop, Push, Relevant, Scope, Solve, Trace, Value, Var}
use Rattle.session.specs.declared.reply.Reply.TheVariants.{Refused, Sat, Silent, Unknown, Unsat, Written}
use Rattle.session.specs.Replies.{refusal_number}
use Rattle.solve.specs.Standing.{start}
use Rattle.session.specs.State.{SessionState}
use Rattle.session.specs.Steps.{IsAcceptedReply, IsQuestion, IsReplyFor, LeavesAtWant}
use Rattle.solve.specs.Terms.{terms_of}
use Rattle.session.specs.Worked.{negative}
use Rattle.solve.specs.Worked.{at_thirty_six, contradiction}

-- a command of each kind that changes the formula, and one of each that asks for something
abbrev pub changes : List Command
changes = Scope Exists None ∷ Var 1 1 ∷ Clause [] ∷ Push ∷ Pop ∷ Assume (pos 1) ∷ []

abbrev pub questions : List Command
questions = Value 1 ∷ Relevant ∷ Trace ∷ Cert ∷ []

-- a session with this engine
abbrev pub session_with : EngineState → SessionState
session_with e = record { terms = terms_of 0 0 512; engine = e }

-- the same engine with so many long learned rows
abbrev pub two_long : EngineState
two_long = record new_engine { kept_long = 2 }

pub record WorkedSteps : Type 0 where
  -- an accepted change has no reply, and a refusal its number
  pub silent : IsReplyFor (refusal_number start Push) start Push Silent
  pub numbered : IsReplyFor (refusal_number start Pop) start Pop (Refused 40)
  pub not_numbered : IsReplyFor (refusal_number start Pop) start Pop Silent → ⊥
  pub other_number : IsReplyFor (refusal_number start Pop) start Pop (Refused 41) → ⊥
  pub accepted_changes : AllByRecursion (λ c. IsAcceptedReply start c Silent) changes
  pub no_written_changes : AllByRecursion (λ c. IsAcceptedReply start c Written → ⊥) changes
  -- a solve says the truth, or that it is unknown
  pub says_false : IsReplyFor (refusal_number contradiction Solve) contradiction Solve Unsat
  pub not_true : IsReplyFor (refusal_number contradiction Solve) contradiction Solve Sat → ⊥
  pub not_silent : IsReplyFor (refusal_number contradiction Solve) contradiction Solve Silent → ⊥
  pub not_refused : IsReplyFor (refusal_number contradiction Solve) contradiction Solve (Refused 50) → ⊥
  pub not_written : IsReplyFor (refusal_number contradiction Solve) contradiction Solve Written → ⊥
  pub gives_up : IsReplyFor (refusal_number contradiction Solve) contradiction Solve (Unknown at_thirty_six)
  pub says_true : IsReplyFor (refusal_number start Solve) start Solve Sat
  pub not_false : IsReplyFor (refusal_number start Solve) start Solve Unsat → ⊥
  -- what was asked is written
  pub answered : IsReplyFor (refusal_number negative (Value 1)) negative (Value 1) Written
  pub written_answers : AllByRecursion (λ c. IsAcceptedReply start c Written) questions
  pub no_silent_answers : AllByRecursion (λ c. IsAcceptedReply start c Silent → ⊥) questions
  -- which commands ask
  pub all_ask : AllByRecursion IsQuestion questions
  pub none_asks : AllByRecursion (λ c. IsQuestion c → ⊥) (Solve ∷ changes)
  -- without memory for it, `clause` may let go of long learned rows, and of nothing else
  pub fewer : LeavesAtWant (Clause []) (session_with two_long) (session_with new_engine)
  pub not_more : LeavesAtWant (Clause []) (session_with new_engine) (session_with two_long) → ⊥
  pub nothing_else : LeavesAtWant (Clause []) (session_with new_engine)
      (session_with (record new_engine { restarts = 1 })) → ⊥
  -- any other command but a solve leaves all as it was
  pub all_left : AllByRecursion (λ c. LeavesAtWant c (session_with two_long) (session_with two_long))
      (Solve ∷ changes)
  pub none_less : AllByRecursion (λ c. LeavesAtWant c (session_with two_long) (session_with new_engine) → ⊥)
      (Scope Exists None ∷ Var 1 1 ∷ Push ∷ Pop ∷ Assume (pos 1) ∷ questions)
