-- Worked values: what accepted changes lead to, and what questions of a verdict are replied to.
use Rattle.std.specs.Prelude.{◌++◌, ℕ, pos, negsuc, true, false, Bool, List, [], ◌∷◌, codes, None}
use Rattle.prefix.specs.declared.quant.Quant.TheVariants.{Exists, Forall}
use Rattle.versions.specs.declared.version.Version.TheVariants.{Three}
use Rattle.trail.specs.State.{Account}
use Rattle.frames.specs.Commands.{AddClause, CloseGroup as CloseFrames, OpenGroup as OpenFrames, Push as PushFrame, Solve as Decide, Verdict}
use Rattle.frames.specs.Fold.{script_in, state_from, state_of}
use Rattle.qscript.specs.declared.command.Command.{Command}
use Rattle.qscript.specs.declared.command.Command.TheVariants.{Activate, Assume, Cert, Clause, CloseGroup, Deactivate, GroupCore, OpenGroup, Pop, Push, Relevant, Scope, Solve, Trace, Value, Var}
use Rattle.session.specs.Replies.{IsReply, Leads}
use Rattle.session.specs.Worked.{lost, negative}
use Rattle.solve.specs.Outputs.{Output, says, verdict_text}
use Rattle.solve.specs.Standing.{Standing, start, start_of}
use Rattle.solve.specs.Terms.{terms_of}
use Rattle.solve.specs.Worked.{at_thirty_six}

-- in a script with groups these commands, and then a solve, may reply with this verdict alone
abbrev pub Says : List Command → Bool → Type 0
Says commands truth = (after : Standing)
    × Leads (terms_of 0 0 512) (start_of Three) (commands ++ Solve ∷ []) (says (verdict_text truth)) after

-- there is a 1, of which the clause 1 is the only one
abbrev pub one : List Command
one = Scope Exists None ∷ Var 1 1 ∷ Clause (pos 1 ∷ []) ∷ []

-- an empty clause in the group 1
abbrev pub grouped : List Command
grouped = OpenGroup 1 ∷ Clause [] ∷ CloseGroup ∷ []

-- which verdict the next solve may tell
pub record WorkedChanges : Type 0 where
  -- an accepted change has no reply, and tells of no search
  pub silent : IsReply (terms_of 0 0 512) start Push (says []) (record start { script = state_of (PushFrame ∷ []) })
  pub not_silent : (after : Standing) → IsReply (terms_of 0 0 512) start Push (says (codes "SAT\n")) after → ⊥
  pub no_entry : (after : Standing)
      → IsReply (terms_of 0 0 512) start Push (record { text = []; stops = at_thirty_six ∷ [] }) after → ⊥
  -- the clause 1 is true for a 1, and not for each, nor where -1 is assumed
  pub existential : Says one false → ⊥
  pub universal : Says (Scope Forall None ∷ Var 1 1 ∷ Clause (pos 1 ∷ []) ∷ []) true → ⊥
  pub assumed : Says (one ++ Assume (negsuc 0) ∷ []) true → ⊥
  -- an empty clause in a frame makes the formula false, up to the pop
  pub pushed : Says (Push ∷ Clause [] ∷ []) true → ⊥
  pub popped : Says (Push ∷ Clause [] ∷ Pop ∷ []) false → ⊥
  -- and in a group while this is active
  pub active : Says grouped true → ⊥
  pub inactive : Says (grouped ++ Deactivate 1 ∷ []) false → ⊥
  pub active_again : Says (grouped ++ Deactivate 1 ∷ Activate 1 ∷ []) true → ⊥

-- the group 1 is false, and so is the formula
abbrev pub refuted_by_group : Standing
refuted_by_group = record {
  script = state_from (script_in Three)
      (OpenFrames 1 ∷ AddClause [] ∷ CloseFrames ∷ Decide (Verdict false) ∷ []);
  witness = record { proof = []; values = [] };
}

-- the same where the verdict has gone
abbrev pub gone : Standing → Standing
gone s = record s { script = record s.script { verdict = None } }

-- what is told of a search over no variables that stopped at a budget
abbrev pub spent_at : ℕ → Account
spent_at budget = record { budget = budget; vars = 0; assigned = 9999; restarts = 0 }

-- the reply to a core whose trial stopped so
abbrev pub unknown_with : List Account → Output
unknown_with stops = record { text = codes "UNKNOWN\n"; stops = stops }

-- how a verdict's questions are replied to
pub record WorkedQuestions : Type 0 where
  -- the value of 1 is false; that is told, and the verdict stays
  pub value : IsReply (terms_of 0 0 512) negative (Value 1) (says (codes "value -1\n")) negative
  pub other_value : (after : Standing)
      → IsReply (terms_of 0 0 512) negative (Value 1) (says (codes "value 1\n")) after → ⊥
  pub value_alone : IsReply (terms_of 0 0 512) negative (Value 1) (says (codes "value -1\n")) (gone negative) → ⊥
  -- no assumption is relevant
  pub relevant : IsReply (terms_of 0 0 512) negative Relevant (says (codes "relevant 0\n")) negative
  pub other_relevant : (after : Standing)
      → IsReply (terms_of 0 0 512) negative Relevant (says (codes "relevant -1 0\n")) after → ⊥
  pub relevant_alone : IsReply (terms_of 0 0 512) negative Relevant (says (codes "relevant 0\n")) (gone negative) → ⊥
  -- neither a trace nor a circuit is an empty text
  pub no_trace : (after : Standing) → IsReply (terms_of 0 0 512) negative Trace (says []) after → ⊥
  pub trace_alone : (out : Output) → IsReply (terms_of 0 0 512) negative Trace out (gone negative) → ⊥
  pub no_circuit : (after : Standing) → IsReply (terms_of 0 0 512) negative Cert (says []) after → ⊥
  pub circuit_alone : (out : Output) → IsReply (terms_of 0 0 512) negative Cert out (gone negative) → ⊥
  -- the group 1 is the core, and the verdict stays
  pub other_core : (after : Standing)
      → IsReply (terms_of 0 0 512) refuted_by_group GroupCore (says (codes "core 0\n")) after → ⊥
  pub core_alone : (out : Output)
      → IsReply (terms_of 0 0 512) refuted_by_group GroupCore out (gone refuted_by_group) → ⊥
  -- of a formula that is true there is none
  pub no_core : (text : List ℕ) (after : Standing) → IsReply (terms_of 0 0 512) lost GroupCore (says text) after → ⊥
  -- without a step for a trial the core may be unknown, which tells of the search that stopped
  pub unknown : IsReply (terms_of 0 0 512) refuted_by_group GroupCore (unknown_with (spent_at 0 ∷ [])) refuted_by_group
  pub no_entry : (after : Standing)
      → IsReply (terms_of 0 0 512) refuted_by_group GroupCore (unknown_with []) after → ⊥
  pub other_budget : (after : Standing)
      → IsReply (terms_of 0 0 512) refuted_by_group GroupCore (unknown_with (spent_at 1 ∷ [])) after → ⊥
  pub other_text : (after : Standing)
      → IsReply (terms_of 0 0 512) refuted_by_group GroupCore (record { text = []; stops = spent_at 0 ∷ [] }) after → ⊥
  -- not where the budget suffices for no variables
  pub enough : (after : Standing)
      → IsReply (terms_of 16 0 512) refuted_by_group GroupCore (unknown_with (spent_at 16 ∷ [])) after → ⊥
