-- The open formula as it is written.
use Rattle.std.proofs.Common.{◌≡◌, ◌≢◌, ℕ, ◌<◌, ◌≤◌, List, length, refl, subst, arith}
use Rattle.std.specs.Prelude.{nat_le}
use Rattle.reading.specs.declared.refusal.Quantity.TheVariants.{Clauses}
use Rattle.frames.specs.State.{OpenFormula, open_clauses}
use Rattle.qbf_c.specs.Buffers.{IsPut}
use Rattle.qbf_c.specs.Codes.{no_memory}
use Rattle.qbf_c.specs.Formulas.{WriteSays, most_declared, open_text}
use Rattle.qbf_c.specs.Read.{limit_code}
use Rattle.qbf_c.proofs.Checking.{put_code}

-- a text that was put into the buffer
pub write_put : (f : OpenFormula) (text old new : List ℕ) (before now code : ℕ) → text ≡ open_text f
    → length (open_clauses f) ≤ most_declared → IsPut text old new now code → WriteSays f old new before now code
write_put f text old new before now code is few put = record {
  memory = λ wanting. absurd (put_code (nat_le (length text) (length old)) code put.answer wanting);
  many = λ low there. absurd (let no : ⊥ = omega (arith, low, few) in no);
  put = λ low there. subst (λ (t : List ℕ). IsPut t old new now code) is put;
}

-- a formula without a text, or without memory for it
pub write_left : (f : OpenFormula) (old : List ℕ) (before code : ℕ)
    → (code ≢ no_memory → (code ≡ limit_code Clauses) × (most_declared < length (open_clauses f)))
    → WriteSays f old old before before code
write_left f old before code cause = record {
  memory = λ wanting. (refl, refl);
  many = λ low there. ((cause there).0, (refl, refl));
  put = λ few there. absurd (let low = (cause there).1 in let no : ⊥ = omega (arith, low, few) in no);
}
