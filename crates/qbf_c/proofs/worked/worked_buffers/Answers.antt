use Rattle.std.proofs.Common.{◌≡◌, ℕ, List, [], ◌∷◌, length, get_or, Option, Some, None, refl, ap, ◌∙◌, subst, arith}
use Rattle.std.specs.Prelude.{if◌then◌else◌, nat_le}
use Rattle.buffers.specs.Filled.{put_into}
use Rattle.qbf_c.proofs.worked.worked_buffers.Goals as goal

pub returns : goal.returns
returns c = record {
  room = record { answer = refl; counted = refl; filled = refl };
  full = record { answer = refl; counted = refl; filled = refl };
  short = record { answer = refl; counted = refl; filled = refl };
  cut = λ h. absurd (let e : ◌≡◌ {A = ℕ} 1 7 = ap (λ xs. get_or xs 0 0) h.filled in omega (arith, e));
  not_short = λ h. absurd (let e : ◌≡◌ {A = ℕ} 62 0 = h.answer in omega (arith, e));
  rest = λ h. absurd (let e : ◌≡◌ {A = ℕ} 1 7 = ap (λ xs. get_or xs 1 0) h.filled in omega (arith, e));
  uncounted = λ h. absurd (let e : ◌≡◌ {A = ℕ} 0 3 = h.counted in omega (arith, e));
  refused = record {
    refused = (refl, (refl, refl));
    memory = λ e. (refl, refl);
    put = λ e. absurd (let f : ◌≡◌ {A = Option ℕ} (Some 50) None = e in cc);
  };
  wrote = λ h. absurd (let e : ◌≡◌ {A = ℕ} 1 7 = ap (λ xs. get_or xs 0 0) h.refused.1.0 in omega (arith, e));
  counted = λ h. absurd (let e : ◌≡◌ {A = ℕ} 0 4 = h.refused.1.1 in omega (arith, e));
  other_code = λ h. absurd (let e : ◌≡◌ {A = ℕ} 51 50 = h.refused.0 in omega (arith, e));
  unrefused = λ h.
      let p = h.put refl (λ e. absurd (let f : ◌≡◌ {A = ℕ} 50 60 = e in omega (arith, f))) in
      absurd (let e : ◌≡◌ {A = ℕ} 50 0 =
      subst (λ (xs : List ℕ). ◌≡◌ {A = ℕ} 50 (if nat_le (length xs) 1 then 0 else 62)) p.1 p.2.answer in
      omega (arith, e));
  empty = (refl, (refl, refl));
  wanting = record { refused = tt; memory = λ e. (refl, refl); put = λ e n. absurd (n refl) };
  in_place = record {
    refused = tt;
    put = λ e. (1 ∷ [], refl, record { answer = refl; counted = refl; filled = refl });
  };
  in_place_short = record {
    refused = tt;
    put = λ e. (1 ∷ [], refl, record { answer = refl; counted = refl; filled = refl });
  };
  in_place_refused = record {
    refused = (refl, (refl, refl));
    put = λ e. absurd (let f : ◌≡◌ {A = Option ℕ} (Some 50) None = e in cc);
  };
  never_wanting = λ h.
      let p = h.put refl in
      absurd (let e : ◌≡◌ {A = ℕ} 60 0 =
      subst (λ (xs : List ℕ). ◌≡◌ {A = ℕ} 60 (if nat_le (length xs) 1 then 0 else 62)) p.1 p.2.answer in
      omega (arith, e));
  other_values = λ h.
      let p = h.put refl in
      absurd (let e : ◌≡◌ {A = ℕ} 2 1 =
      ap (λ (xs : List ℕ). get_or xs 0 0) (p.2.filled ∙ ap (put_into (7 ∷ [])) p.1) in omega (arith, e));
  in_place_wrote = λ h. absurd (let e : ◌≡◌ {A = ℕ} 1 7 = ap (λ xs. get_or xs 0 0) h.refused.1.0 in omega (arith, e));
  in_place_other_code = λ h. absurd (let e : ◌≡◌ {A = ℕ} 60 50 = h.refused.0 in omega (arith, e));
}
