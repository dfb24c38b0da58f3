-- Steps as they are kept, in 16 bytes each.
use Rattle.std.specs.Prelude.{◌≡◌, ◌≢◌, ℕ, ◌+◌, ◌*◌, ◌/◌, ◌%◌, ◌≤◌, ◌==◌, if◌then◌else◌, Option, None, Some}
use Rattle.prefix.specs.declared.quant.Quant.{Quant}
use Rattle.prefix.specs.declared.quant.Quant.TheVariants.{Exists, Forall}
use Rattle.calculus.specs.Derivations.{Why}
use Rattle.calculus.specs.Derivations.Why.{Given, ReducedFrom, ResolvedFrom, FinishedFrom}
use Rattle.derive.specs.State.{Note}
use Rattle.derive.specs.declared.note.Kind.{Kind}
use Rattle.derive.specs.declared.note.Kind.TheVariants as kind

-- an id, by its last 32 bits and those before them
abbrev pub joined : ℕ → ℕ → ℕ
joined low high = high * 4294967296 + low

-- why a step stands, by its kind, the ids that it may rest on and the variable of a resolution
abbrev pub why_kept : Kind → ℕ → ℕ → ℕ → Why
why_kept kind.Given a b pivot = Given
why_kept kind.Reduced a b pivot = ReducedFrom a
why_kept kind.Finished a b pivot = FinishedFrom a
why_kept kind.Resolved a b pivot = ResolvedFrom a b pivot

-- the kind that a number stands for
abbrev pub kind_numbered : ℕ → Kind
kind_numbered n = if n == 0 then kind.Given else if n == 1 then kind.Reduced else if n == 2 then kind.Finished
    else kind.Resolved

-- the side that a number stands for
abbrev pub side_numbered : ℕ → Quant
side_numbered n = if n == 0 then Exists else Forall

-- the parts of the number that holds what is short: the variable of a resolution, the kind, the side, and the bits of
-- the two ids before their last 32
abbrev pub pivot_part : ℕ → ℕ
pivot_part short = short / 2048

abbrev pub kind_part : ℕ → Kind
kind_part short = kind_numbered (short / 512 % 4)

abbrev pub side_part : ℕ → Quant
side_part short = side_numbered (short / 256 % 2)

abbrev pub first_part : ℕ → ℕ
first_part short = short / 16 % 16

abbrev pub second_part : ℕ → ℕ
second_part short = short % 16

-- what is kept of a step, by the last 32 bits of the ids that it rests on, its tag, and what is short
abbrev pub unpacked : ℕ → ℕ → ℕ → ℕ → Note
unpacked first second tag short = record {
  side = side_part short;
  why = why_kept (kind_part short) (joined first (first_part short)) (joined second (second_part short))
      (pivot_part short);
  tag = tag;
}

-- the same, where 4294967295 in place of what is short says that no step is live
abbrev pub slot_of : ℕ → ℕ → ℕ → ℕ → Option Note
slot_of first second tag short = if short == 4294967295 then None else Some (unpacked first second tag short)

-- a resolution has a variable, and no variable has a greater number than 1048576
abbrev pub NamesPivot : Kind → ℕ → Type 0
NamesPivot of pivot = (of ≡ kind.Resolved → 1 ≤ pivot) × (pivot ≤ 1048576)

-- so it is with what is short, where a step is live
abbrev pub IsShort : ℕ → Type 0
IsShort short = short ≢ 4294967295 → NamesPivot (kind_part short) (pivot_part short)
