-- Texts of which bytes are held back.
use Rattle.std.specs.Prelude.{◌≡◌, ◌++◌, ℕ, List, Option, Result, MatchResult}
use Rattle.ports.specs.Writing.{Wrote, Stops}

-- Bytes were written: with what is held now, they are what was held and then the text.
pub record PassesOn {S : Type 0} (written flushed : S → Option (List ℕ)) (faults : S → ℕ) (has_room : S → ℕ → Type 0)
    (old : S) (held : List ℕ) (new : S) (holds text : List ℕ) : Type 0 where
  pub bytes : List ℕ
  pub in_order : held ++ text ≡ bytes ++ holds
  pub wrote : Wrote written flushed faults has_room old new bytes

-- a text was put behind what was held, or a front of both was written before a fault
abbrev pub Puts : {S T E : Type 0} → (written flushed : S → Option (List ℕ)) → (S → ℕ) → (S → ℕ → Type 0) → S
    → List ℕ → S → List ℕ → List ℕ → Result T E → Type 0
Puts written flushed faults has_room old held new holds text result =
    MatchResult result (λ _. PassesOn written flushed faults has_room old held new holds text)
    (λ _. Stops written flushed faults has_room old new (held ++ text))
