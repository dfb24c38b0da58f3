-- Worked values: which reply comes to the commands of groups, and what they leave of a session.
use Rattle.std.specs.Prelude.{List, [], ◌∷◌}
use Rattle.std.specs.List.{AllByRecursion}
use Rattle.engine.specs.State.{new_engine}
use Rattle.qscript.specs.declared.command.Command.{Command}
use Rattle.qscript.specs.declared.command.Command.TheVariants.{Activate, CloseGroup, Deactivate, GroupCore, OpenGroup}
use Rattle.session.specs.declared.reply.Reply.{Reply}
use Rattle.session.specs.declared.reply.Reply.TheVariants.{Refused, Sat, Silent, Unknown, Unsat, Written}
use Rattle.session.specs.Steps.{IsAcceptedReply, IsQuestion, LeavesAtWant}
use Rattle.session.specs.WorkedSteps.{session_with, two_long}
use Rattle.solve.specs.Standing.{start}
use Rattle.solve.specs.Worked.{at_thirty_six}

-- a command of each kind that changes groups
abbrev pub group_changes : List Command
group_changes = OpenGroup 1 ∷ CloseGroup ∷ Activate 1 ∷ Deactivate 1 ∷ []

-- replies that are none to a question for a core
abbrev pub other_replies : List Reply
other_replies = Silent ∷ Refused 50 ∷ Sat ∷ Unsat ∷ []

pub record WorkedGroups : Type 0 where
  -- an accepted change has no reply; a question for a core has one, or is unknown
  pub silent_changes : AllByRecursion (λ c. IsAcceptedReply start c Silent) group_changes
  pub no_written_changes : AllByRecursion (λ c. IsAcceptedReply start c Written → ⊥) group_changes
  pub written_core : IsAcceptedReply start GroupCore Written
  pub unknown_core : IsAcceptedReply start GroupCore (Unknown at_thirty_six)
  pub no_other_core : AllByRecursion (λ r. IsAcceptedReply start GroupCore r → ⊥) other_replies
  -- only the core is a question
  pub core_asks : IsQuestion GroupCore
  pub none_asks : AllByRecursion (λ c. IsQuestion c → ⊥) group_changes
  -- without memory `activate` may let go of long learned rows, and of nothing else; the others leave all as it was
  pub all_left : AllByRecursion (λ c. LeavesAtWant c (session_with two_long) (session_with two_long))
      (GroupCore ∷ group_changes)
  pub fewer : LeavesAtWant (Activate 1) (session_with two_long) (session_with new_engine)
  pub not_more : LeavesAtWant (Activate 1) (session_with new_engine) (session_with two_long) → ⊥
  pub none_less : AllByRecursion (λ c. LeavesAtWant c (session_with two_long) (session_with new_engine) → ⊥)
      (OpenGroup 1 ∷ CloseGroup ∷ Deactivate 1 ∷ GroupCore ∷ [])
