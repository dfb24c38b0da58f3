use Rattle.std.proofs.Common.{◌≡◌, ◌≤◌, ℕ, true, false, refl, ap, arith}
use Rattle.session.specs.declared.reply.Reply.TheVariants.{Refused, Silent, Written}
use Rattle.engine.specs.State.{new_engine}
use Rattle.session.specs.State.{SessionState}
use Rattle.session.specs.WorkedSteps.{session_with, two_long}
use Rattle.session.proofs.worked.worked_steps.Goals as goal

apart : Written ≡ Silent → ⊥
apart e = absurd (cc)

apart_again : Silent ≡ Written → ⊥
apart_again e = absurd (cc)

long_of : SessionState → ℕ
long_of s = s.engine.kept_long

less : session_with new_engine ≡ session_with two_long → ⊥
unfolding long_of
less e = absurd (let n : 0 ≡ 2 = ap long_of e in omega (arith, n))

pub returns : goal.returns
returns c =
    record {
      silent = refl;
      numbered = refl;
      not_numbered = λ e. absurd (let f : Silent ≡ Refused 40 = e in cc);
      other_number = λ e. absurd (let f : Refused 41 ≡ Refused 40 = e in cc);
      accepted_changes = (refl, (refl, (refl, (refl, (refl, (refl, tt))))));
      no_written_changes = (apart, (apart, (apart, (apart, (apart, (apart, tt))))));
      says_false = refl;
      not_true = λ e. absurd (let f : false ≡ true = e in cc);
      not_silent = λ e. e;
      not_refused = λ e. e;
      not_written = λ e. e;
      gives_up = tt;
      says_true = refl;
      not_false = λ e. absurd (let f : true ≡ false = e in cc);
      answered = refl;
      written_answers = (refl, (refl, (refl, (refl, tt))));
      no_silent_answers = (apart_again, (apart_again, (apart_again, (apart_again, tt))));
      all_ask = (tt, (tt, (tt, (tt, tt))));
      none_asks = (λ e. e, (λ e. e, (λ e. e, (λ e. e, (λ e. e, (λ e. e, (λ e. e, tt)))))));
      fewer = record { rest = refl; fewer = omega arith };
      not_more = λ h. absurd (let few : 2 ≤ 0 = h.fewer in omega (arith, few));
      nothing_else = λ h. absurd (let n : 1 ≡ 0 = ap (λ (s : SessionState). s.engine.restarts) h.rest in
          omega (arith, n));
      all_left = (
        tt,
        (refl, (refl, (record { rest = refl; fewer = omega arith }, (refl, (refl, (refl, tt)))))),
      );
      none_less = (less, (less, (less, (less, (less, (less, (less, (less, (less, tt)))))))));
    }
