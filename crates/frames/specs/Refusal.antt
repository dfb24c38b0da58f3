-- The numbers of refusals.
use Rattle.std.specs.Prelude.{ℕ, Option, Some, None}
use Rattle.prefix.specs.declared.refusal.PrefixRefusal.{PrefixRefusal}
use Rattle.prefix.specs.declared.refusal.PrefixRefusal.TheVariants.{VarTwice, VarRange, ScopeRange, ScopeLimit, NoMemory as NoRoom}
use Rattle.frames.specs.declared.refusal.FrameRefusal.{FrameRefusal}
use Rattle.frames.specs.declared.refusal.FrameRefusal.TheVariants.{Prefix, NoFrame, UnknownVar, AssumeScope, AssumeClash, AssumptionsHeld, Limit, GroupOpen, GroupRange, NoGroup, GroupFrame, NoMemory}

-- a refusal of the prefix; want of memory is the same everywhere
abbrev pub refusal_for : PrefixRefusal → FrameRefusal
refusal_for VarTwice = Prefix VarTwice
refusal_for VarRange = Prefix VarRange
refusal_for ScopeRange = Prefix ScopeRange
refusal_for ScopeLimit = Prefix ScopeLimit
refusal_for NoRoom = NoMemory

abbrev pub prefix_number : PrefixRefusal → Option ℕ
prefix_number VarTwice = Some 1
prefix_number VarRange = Some 2
prefix_number ScopeRange = Some 3
prefix_number ScopeLimit = Some 4
prefix_number NoRoom = None

-- the number that a reply tells; want of memory has none
abbrev pub number_of : FrameRefusal → Option ℕ
number_of (Prefix refusal) = prefix_number refusal
number_of NoFrame = Some 40
number_of UnknownVar = Some 41
number_of AssumeScope = Some 42
number_of AssumeClash = Some 43
number_of AssumptionsHeld = Some 44
number_of Limit = Some 45
number_of GroupOpen = Some 46
number_of GroupRange = Some 47
number_of NoGroup = Some 48
number_of GroupFrame = Some 49
number_of NoMemory = None
