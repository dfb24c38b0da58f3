-- What a writer does to a sink, by what sinks of its type tell.
use Rattle.std.specs.Prelude.{◌≡◌, ℕ, ◌-◌, ◌≤◌, List, length, Option, Result, MatchResult}
use Rattle.std.specs.Io.KnownBytes.{Appends, Keeps}
use Rattle.ports.specs.Bytes.{AppendsFront}
use Rattle.ports.specs.Causes.{Rose}

-- all of a text was written, and nothing flushed
pub record Wrote {S : Type 0} (written flushed : S → Option (List ℕ)) (faults : S → ℕ) (has_room : S → ℕ → Type 0)
    (old new : S) (text : List ℕ) : Type 0 where
  pub appended : Appends (written old) (written new) text
  pub kept : Keeps (flushed old) (flushed new)
  pub no_fault : faults new ≡ faults old
  pub room : (n : ℕ) → length text ≤ n → has_room old n → has_room new (n - length text)

-- a front of a text was written, and then a fault came, for which there was no cause where there was room
pub record Stops {S : Type 0} (written flushed : S → Option (List ℕ)) (faults : S → ℕ) (has_room : S → ℕ → Type 0)
    (old new : S) (text : List ℕ) : Type 0 where
  pub front : AppendsFront (written old) (written new) text
  pub kept : Keeps (flushed old) (flushed new)
  pub later : faults old ≤ faults new
  pub rose : Rose (faults old) (faults new)
  pub no_room : (n : ℕ) → length text ≤ n → has_room old n → ⊥

-- a text was written, or a front of it before a fault
abbrev pub Writes : {S T E : Type 0} → (written flushed : S → Option (List ℕ)) → (S → ℕ) → (S → ℕ → Type 0) → S → S
    → List ℕ → Result T E → Type 0
Writes written flushed faults has_room old new text result =
    MatchResult result (λ _. Wrote written flushed faults has_room old new text)
    (λ _. Stops written flushed faults has_room old new text)
