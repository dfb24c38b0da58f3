-- Inputs by name.
use Rattle.std.specs.Prelude.{ℕ, List, [], ◌∷◌, Option, Some, None, cond, map, drop, slice_get, string_bytes}
use Rattle.std.specs.Option.{option_map, option_and_then}
use Rattle.std.specs.Str.{bytes_eq}
use Rattle.ports.specs.declared.memory_desk.Input.{Input}

-- the bytes under a name, those of the first of that name
abbrev pub bytes_under : List (List ℕ × List ℕ) → List ℕ → Option (List ℕ)
bytes_under [] name = None
bytes_under (e ∷ es) name = cond (bytes_eq e.0 name) (Some e.1) (bytes_under es name)

-- names and bytes of inputs
abbrev pub pairs_of : List Input → List (List ℕ × List ℕ)
pairs_of inputs = map (λ (i : Input). (string_bytes i.name, i.bytes.items)) inputs

-- what is left of the input at a place
abbrev pub left_of : List Input → Option ℕ → ℕ → Option (List ℕ)
left_of inputs chosen at = option_map (λ (i : Input). drop at i.bytes.items) (option_and_then (slice_get inputs) chosen)
