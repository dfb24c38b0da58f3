-- Worked values: replies to commands.
use Rattle.std.specs.Prelude.{◌≡◌, pos, negsuc, true, false, ◌∷◌, codes, Some, None, []}
use Rattle.prefix.specs.declared.quant.Quant.TheVariants.{Exists}
use Rattle.frames.specs.Commands.{AddScope, AddVariable, Assume as AssumeLiteral, Solve as Decide, Verdict}
use Rattle.frames.specs.Fold.{state_of}
use Rattle.qscript.specs.declared.command.Command.TheVariants.{Assume, Clause, Pop, Solve, Trace, Value}
use Rattle.solve.specs.declared.ending.Ending.TheVariants.{Done, Refused}
use Rattle.session.specs.Replies.{AllowedReplies, refusal_number, refused_text, relevant_text, value_in, value_text}
use Rattle.solve.specs.Outputs.{says}
use Rattle.session.specs.Scripts.{IsScriptEnding}
use Rattle.solve.specs.Standing.{Standing, start}
use Rattle.solve.specs.Terms.{terms_of}

-- one existential variable, which is assumed to be false
abbrev pub negative : Standing
negative = record {
  script = state_of (AddScope Exists None ∷ AddVariable 1 1 ∷ AssumeLiteral (negsuc 0) ∷ Decide (Verdict true) ∷ []);
  witness = record { proof = []; values = record { variable = 1; positive = false } ∷ [] };
}

-- The same where the verdict is the other one.
abbrev pub lost : Standing
lost = record negative {
  script = record negative.script { verdict = Some (record { truth = false; assumptions = [] }) };
}

-- numbers of refusals, texts, and replies that are allowed and that aren't
pub record WorkedReplies : Type 0 where
  pub no_frame : refusal_number start Pop ≡ Some 40
  pub unknown_variable : refusal_number start (Assume (pos 5)) ≡ Some 41
  pub no_verdict : refusal_number start (Value 1) ≡ Some 50
  pub no_trace : refusal_number start Trace ≡ Some 50
  -- 51 comes before 52, where both hold
  pub not_outermost : refusal_number negative (Value 2) ≡ Some 51
  pub not_winner : refusal_number lost (Value 1) ≡ Some 52
  pub not_first : refusal_number lost (Value 2) ≡ Some 51
  pub accepted : refusal_number negative (Value 1) ≡ None
  pub solved : refusal_number start Solve ≡ None
  pub refused : refused_text 40 ≡ codes "refused 40\n"
  pub value : value_text (value_in negative.witness.values 1) ≡ codes "value -1\n"
  pub none_relevant : relevant_text [] ≡ codes "relevant 0\n"
  pub one_relevant : relevant_text (record { variable = 1; positive = false } ∷ []) ≡ codes "relevant -1 0\n"
  -- refused commands, each with its line
  pub lines : AllowedReplies (terms_of 0 0 512) (Pop ∷ Assume (pos 5) ∷ Value 1 ∷ [])
      (says (codes "refused 40\nrefused 41\nrefused 50\n"))
  pub not_silent : AllowedReplies (terms_of 0 0 512) (Pop ∷ []) (says []) → ⊥
  -- an accepted clause has no reply, and the empty one makes the formula false, whatever the budget
  pub unsat : AllowedReplies (terms_of 0 0 512) (Clause [] ∷ Solve ∷ []) (says (codes "UNSAT\n"))
  -- an empty script ends well
  pub empty : IsScriptEnding (codes "p qscript 1\n") (Done 0)
  pub not_refused : IsScriptEnding (codes "p qscript 1\n") (Refused 30 1) → ⊥
