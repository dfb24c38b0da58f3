-- Worked values: what the work on a script comes to.
use Rattle.std.specs.Prelude.{◌≡◌, ◌≤◌, ℕ, List, [], ◌∷◌, codes, None, Some}
use Rattle.reading.specs.declared.refusal.Quantity.{Quantity}
use Rattle.reading.specs.declared.refusal.Quantity.TheVariants.{Bytes, Variables}
use Rattle.versions.specs.declared.version.Version.TheVariants.{One, Two}
use Rattle.qscript.specs.declared.command.Command.TheVariants.{Pop, Push}
use Rattle.solve.specs.declared.ending.Ending.{Ending}
use Rattle.solve.specs.declared.ending.Ending.TheVariants.{CheckLimit, Done, Limit, NoMemory, ReadFault, Refused, WriteFault}
use Rattle.session.specs.Scripts.{AreAnswered, AreFirst, IsScriptEnding, RoomForReplies}
use Rattle.solve.specs.Terms.{terms_of}
use Rattle.solve.specs.Worked.{at_thirty_six}

-- a script of two commands, each of which is refused
abbrev pub two_pops : List ℕ
two_pops = codes "p qscript 1\npop\npop\n"

-- the reply to one of them, and to both
abbrev pub one_refusal : List ℕ
one_refusal = codes "refused 40\n"

abbrev pub two_refusals : List ℕ
two_refusals = codes "refused 40\nrefused 40\n"

-- a script whose second line is malformed
abbrev pub sat_line : List ℕ
sat_line = codes "p qscript 1\nsat\n"

-- what is written, with nothing told of a search
abbrev pub Replied : List ℕ → Ending → Type 0
Replied text ending = AreAnswered (terms_of 0 0 512) (Some two_pops) (Some [], Some text) ([], []) ending

pub record WorkedScripts : Type 0 where
  -- an ending is that of the script, and no limit is one but that of bytes
  pub malformed : IsScriptEnding sat_line (Refused 31 2)
  pub malformed_done : IsScriptEnding sat_line (Done 0) → ⊥
  pub other_status : IsScriptEnding two_pops (Done 10) → ⊥
  pub no_limit : IsScriptEnding two_pops (Limit Bytes 4) → ⊥
  pub of_bytes : (text : List ℕ) (quantity : Quantity) (line : ℕ) → IsScriptEnding text (Limit quantity line)
      → quantity ≡ Bytes
  pub of_no_check : (text : List ℕ) (quantity : Quantity) → IsScriptEnding text (CheckLimit quantity) → ⊥
  -- the first commands of a script, none and all of them among these, by the version of its header
  pub none_first : AreFirst two_pops (Some One) []
  pub one_first : AreFirst two_pops (Some One) (Pop ∷ [])
  pub both_first : AreFirst two_pops (Some One) (Pop ∷ Pop ∷ [])
  pub other_first : AreFirst two_pops (Some One) (Push ∷ []) → ⊥
  pub too_many : AreFirst two_pops (Some One) (Pop ∷ Pop ∷ Pop ∷ []) → ⊥
  pub other_version : AreFirst two_pops (Some Two) [] → ⊥
  pub no_version : AreFirst two_pops None [] → ⊥
  pub second_version : AreFirst (codes "p qscript 2\npop\n") (Some Two) (Pop ∷ [])
  -- a script that is answered got all of its replies
  pub both : Replied two_refusals (Done 0)
  pub one_alone : Replied one_refusal (Done 0) → ⊥
  -- and so did one that is malformed behind them, or goes beyond the limit there
  pub one_alone_refused : Replied one_refusal (Refused 31 4) → ⊥
  pub one_alone_limit : Replied one_refusal (Limit Bytes 4) → ⊥
  -- none ends at a limit of a check formula
  pub ends_checked : Replied two_refusals (CheckLimit Variables) → ⊥
  -- without memory, or after a read fault, the replies to some of the first
  pub one : Replied one_refusal NoMemory
  pub none_read : Replied [] ReadFault
  pub part : Replied (codes "ref") NoMemory → ⊥
  pub part_read : Replied (codes "ref") ReadFault → ⊥
  -- after a write fault a front of them
  pub front : Replied (codes "refused 40\nref") WriteFault
  pub no_front : Replied (codes "SAT\n") WriteFault → ⊥
  -- commands that are not the script's have no reply
  pub not_its_own : Replied (codes "UNSAT\n") NoMemory → ⊥
  -- what is told of a search has its `UNKNOWN`
  pub told : AreAnswered (terms_of 0 0 512) (Some two_pops) (Some [], Some two_refusals) ([], at_thirty_six ∷ [])
      (Done 0)
      → ⊥
  -- 22 bytes are room for all replies, and 21 aren't
  pub room : RoomForReplies (terms_of 0 0 512) (Some two_pops) (λ n. n ≤ 22)
  pub no_room : RoomForReplies (terms_of 0 0 512) (Some two_pops) (λ n. n ≤ 21) → ⊥
