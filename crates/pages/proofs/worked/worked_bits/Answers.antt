use Rattle.std.proofs.Common.{◌≡◌, ℕ, ◌/◌, ◌%◌, ◌<◌, ◌≤◌, false, List, [], ◌∷◌, get_or, refl, sym, ap, ◌∙◌, ⊎_elim, arith}
use Rattle.std.specs.Prelude.{◌==◌}
use Rattle.std.specs.Int.{bit_at}
use Rattle.std.proofs.lemmas.Bool.{cases_lt, false≢true}
use Rattle.std.proofs.lemmas.List.{get_or_past}
use Rattle.std.proofs.lemmas.Nat.Bits.{bit_at_above, bit_at-zero}
use Rattle.pages.specs.Words.{bit_of}
use Rattle.pages.proofs.worked.worked_bits.Goals as goal

five : List ℕ
five = 5 ∷ []

none_behind : (i : ℕ) → 3 ≤ i → bit_of (5 ∷ []) i ≡ false
none_behind i high = ⊎_elim
    (λ (low : i < 64).
    let q : i / 64 ≡ 0 = omega arith in
    let r : i % 64 ≡ i = omega arith in
    let w : ◌≡◌ {A = ℕ} (get_or (5 ∷ []) (i / 64) 0) 5 = ap (λ (k : ℕ). get_or (5 ∷ []) k 0) q in
    ap (λ (n : ℕ). bit_at n (i % 64) == 1) w ∙ ap (λ (b : ℕ). b == 1) (bit_at_above 5 3 (i % 64) (omega arith)
    (omega arith)))
    (λ (far : 64 ≤ i).
    let w : ◌≡◌ {A = ℕ} (get_or (5 ∷ []) (i / 64) 0) 0 = get_or_past (5 ∷ []) (i / 64) 0 (omega arith) in
    ap (λ (n : ℕ). bit_at n (i % 64) == 1) w ∙ ap (λ (b : ℕ). b == 1) (bit_at-zero (i % 64)))
    (cases_lt i 64)

pub returns : goal.returns
returns c = record {
  bits = refl;
  second_word = refl;
  other_bit = refl;
  no_word = refl;
  three = record { room = omega arith; rest = none_behind };
  two = λ a. false≢true (sym (a.rest 2 (omega arith)));
  beyond = λ a. let r = a.room in omega arith;
}
