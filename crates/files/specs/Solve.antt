-- What the answer to a text is, and how the work on it ends.
use Rattle.std.specs.Prelude.{◌≡◌, ℕ, List}
use Rattle.truth.specs.declared.formula.Formula.{Formula}
use Rattle.qdimacs.specs.Rules.{parsed, refused, limit}
use Rattle.files.specs.Inputs.{Format, Says}
use Rattle.solve.specs.Terms.{Terms}
use Rattle.solve.specs.declared.answer.Answer.{Answer}
use Rattle.solve.specs.declared.ending.Ending.{Ending}
use Rattle.solve.specs.declared.ending.Ending.TheVariants.{Done, Refused, Limit, CheckLimit, ReadFault, WriteFault, NoMemory}
use Rattle.solve.specs.Answers.{IsAnswerTo, answer_status}

-- The text says a formula with this answer.
abbrev pub Solves : Format → Terms → List ℕ → Answer → Type 0
Solves format terms text answer = (f : Formula) × Says format text (parsed f) × IsAnswerTo terms f answer

-- An answer has this status.
abbrev pub HasAnswer : ℕ → Type 0
HasAnswer status = (answer : Answer) × (status ≡ answer_status answer)

-- This is so of the answer with the status.
abbrev pub OfAnswer : ℕ → (Answer → Type 0) → Type 0
OfAnswer status P = (answer : Answer) × (status ≡ answer_status answer) × P answer

-- The ending is what the text says. Faults and want of memory say nothing of it.
abbrev pub IsEnding : Format → Terms → List ℕ → Ending → Type 0
IsEnding format terms text (Done status) = OfAnswer status (Solves format terms text)
IsEnding format terms text (Refused number line) = Says format text (refused number line)
IsEnding format terms text (Limit quantity line) = Says format text (limit quantity line)
IsEnding format terms text (CheckLimit quantity) = ⊥
IsEnding format terms text ReadFault = Unit {0}
IsEnding format terms text WriteFault = Unit {0}
IsEnding format terms text NoMemory = Unit {0}
