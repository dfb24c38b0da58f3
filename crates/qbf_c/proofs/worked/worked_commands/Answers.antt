use Rattle.std.proofs.Common.{◌≡◌, ℕ, ◌<◌, true, false, inl, inr, ⊎_elim, arith, refl}
use Rattle.qbf_c.proofs.worked.worked_commands.Goals as goal

pub returns : goal.returns
returns c = record {
  done = record { ok = λ e. tt; refused = inl refl; err = λ n. absurd (n refl) };
  refused = record {
    ok = λ e. absurd (let f : ◌≡◌ {A = ℕ} 40 0 = e in omega (arith, f));
    refused = refl;
    err = λ n. tt;
  };
  wanting = record {
    ok = λ e. absurd (let f : ◌≡◌ {A = ℕ} 60 0 = e in omega (arith, f));
    refused = inr refl;
    err = λ n. tt;
  };
  not_done = λ h. h.ok refl;
  undone = λ h. h.err (λ e. absurd (let f : ◌≡◌ {A = ℕ} 40 0 = e in omega (arith, f)));
  unrefused = λ h.
      ⊎_elim (λ e. absurd (let f : ◌≡◌ {A = ℕ} 40 0 = e in omega (arith, f)))
      (λ e. absurd (let f : ◌≡◌ {A = ℕ} 40 60 = e in omega (arith, f))) h.refused;
  in_place = record { ok = λ e. tt; refused = refl; err = λ n. absurd (n refl) };
  in_place_refused = record {
    ok = λ e. absurd (let f : ◌≡◌ {A = ℕ} 40 0 = e in omega (arith, f));
    refused = refl;
    err = λ n. tt;
  };
  never_wanting = λ h. absurd (let e : ◌≡◌ {A = ℕ} 60 0 = h.refused in omega (arith, e));
  made = record {
    live_now = λ e. refl;
    made = λ e. refl;
    same = λ n. absurd (n refl);
    memory = λ n. absurd (n refl);
  };
  unmade = λ live now. record {
    live_now = λ e. absurd (let f : ◌≡◌ {A = ℕ} 60 0 = e in omega (arith, f));
    made = λ e. absurd (let f : ◌≡◌ {A = ℕ} 60 0 = e in omega (arith, f));
    same = λ n. tt;
    memory = λ n. refl;
  };
  not_live = λ h. absurd (let e : false ≡ true = h.live_now refl in cc);
  other_code = λ now h.
      absurd (let e : ◌≡◌ {A = ℕ} 61 60 =
      h.memory (λ e. absurd (let f : ◌≡◌ {A = ℕ} 61 0 = e in omega (arith, f))) in omega (arith, e));
  left = λ before h. absurd (let e : ◌≡◌ {A = ℕ} 8 9 = h.all in omega (arith, e));
  enough = λ h. absurd (let low : 16 < 16 = h.short in omega (arith, low));
}
