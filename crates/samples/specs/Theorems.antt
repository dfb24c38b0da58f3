-- What the text of a made formula is read as (QDIMACS 1.1, input format).
use Rattle.std.specs.Prelude.{ℕ, ◌≤◌}
use Rattle.generate.specs.Made.{made}
use Rattle.qdimacs.specs.Reads.{Reads}
use Rattle.qdimacs.specs.Rules.{parsed}
use Rattle.qdimacs_out.specs.Texts.{formula_text}

-- a made formula is read from its text
abbrev pub MadeRead : Type 0
MadeRead = (seed v m : ℕ) → 3 ≤ v → v ≤ 32000 → m ≤ 1000000
    → Reads (formula_text (made seed v m)) (parsed (made seed v m))
