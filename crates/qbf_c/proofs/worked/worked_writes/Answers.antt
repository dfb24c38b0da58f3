use Rattle.std.proofs.Common.{◌≡◌, ℕ, ◌<◌, ◌≤◌, List, get_or, refl, ap, arith}
use Rattle.std.specs.Fmt.{digits}
use Rattle.qbf_c.proofs.worked.worked_writes.Goals as goal

abbrev most : ℕ
most = 4294967295

none_many : most < 0 → ⊥
none_many low = omega (arith, low)

few_none : 0 ≤ most
few_none = omega arith

not_wanting : ◌≡◌ {A = ℕ} 0 60 → ⊥
not_wanting e = omega (arith, e)

pub returns : goal.returns
unfolding digits
returns c = record {
  most = refl;
  written = record {
    memory = λ e. absurd (not_wanting e);
    many = λ low there. absurd (none_many low);
    put = λ few there. record { answer = refl; counted = refl; filled = refl };
  };
  short = record {
    memory = λ e. absurd (let f : ◌≡◌ {A = ℕ} 62 60 = e in omega (arith, f));
    many = λ low there. absurd (none_many low);
    put = λ few there. record { answer = refl; counted = refl; filled = refl };
  };
  other_text = λ h. absurd (let e : ◌≡◌ {A = ℕ} 49 48 =
      ap (λ (xs : List ℕ). get_or xs 6 0) (h.put few_none not_wanting).filled in omega (arith, e));
  not_many = λ h. absurd (let e : ◌≡◌ {A = ℕ} 122 62 =
      (h.put few_none (λ e. absurd (let f : ◌≡◌ {A = ℕ} 122 60 = e in omega (arith, f)))).answer in omega (arith, e));
  many = λ f low. record {
    memory = λ e. absurd (let g : ◌≡◌ {A = ℕ} 122 60 = e in omega (arith, g));
    many = λ high there. (refl, (refl, refl));
    put = λ few there. absurd (let no : ⊥ = omega (arith, low, few) in no);
  };
  many_written = λ f new count low h. absurd (let e : ◌≡◌ {A = ℕ} 0 122 = (h.many low not_wanting).0 in
      omega (arith, e));
  wanting = λ f. record {
    memory = λ e. (refl, refl);
    many = λ low there. absurd (there refl);
    put = λ few there. absurd (there refl);
  };
  wrote = λ f h. absurd (let e : ◌≡◌ {A = ℕ} 1 7 = ap (λ (xs : List ℕ). get_or xs 0 0) (h.memory refl).0 in
      omega (arith, e));
}
