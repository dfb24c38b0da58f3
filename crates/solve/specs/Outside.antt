-- What a call that reads an input and replies to it does to the outside.
use Rattle.std.specs.Prelude.{◌≡◌, ℕ, List, [], Option, Some, IfSome, Result, IsOk, IsErrOf, OnOk}
use Rattle.ports.specs.Bytes.{AllFlushed}
use Rattle.ports.specs.Causes.{IsCounted}
use Rattle.solve.specs.declared.ending.Ending.{Ending}
use Rattle.solve.specs.declared.ending.Ending.TheVariants.{ReadFault, WriteFault}

-- A call takes the chosen input, by what desks of its type tell: all that is left of it, where it ends well. It ends
-- with a read fault only where the desk counted one, so never where the desk flows, and well only where it counted
-- none. What the desk holds, and whether it is steady, stays.
pub record TakesInput {D T : Type 0} (content : D → List ℕ → Option (List ℕ)) (left : D → Option (List ℕ))
    (faults : D → ℕ) (steady : D → List ℕ → Type 0) (flows : D → Type 0) (old new : D) (result : Result T Ending)
    : Type 0 where
  pub to_end : OnOk result (IfSome (left old) (λ _. left new ≡ Some []))
  pub counted : IsCounted (IsErrOf result ReadFault) (IsOk result) (faults old) (faults new)
  pub flowing : flows old → ¬ IsErrOf result ReadFault × flows new
  pub holds : (n : List ℕ) → content new n ≡ content old n
  pub stays : (n : List ℕ) → steady old n → steady new n

-- A call sends its reply, by what sinks of its type tell, and flushes all, where it ends well. It ends with a write
-- fault only where the sink counted one, so never where there is room, and well only where it counted none.
pub record SendsReply {S T : Type 0} (written flushed : S → Option (List ℕ)) (faults : S → ℕ) (room : Type 0)
    (old new : S) (result : Result T Ending) : Type 0 where
  pub counted : IsCounted (IsErrOf result WriteFault) (IsOk result) (faults old) (faults new)
  pub fits : room → ¬ IsErrOf result WriteFault
  pub all_flushed : OnOk result (AllFlushed (written new) (flushed old) (flushed new))
