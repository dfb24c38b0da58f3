use Rattle.std.proofs.Common.{◌≡◌, ℕ, take}
use Rattle.std.specs.Option.{option_or}
use Rattle.certcheck.specs.Check.{named_inputs}
use Rattle.certcheck.specs.Tables.{entry_of, named}
use Rattle.certcheck.proofs.names.put_inputs.Given as goal

abbrev pub invariant-loop-i : goal.invariant-loop-i
invariant-loop-i l = (w : ℕ) → entry_of l.table.items w ≡ option_or (entry_of l.initial.table.items w)
    (named (named_inputs 0 (take l.i l.inputs)) w)
