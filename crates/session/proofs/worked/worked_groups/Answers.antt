use Rattle.std.proofs.Common.{◌≡◌, ◌≤◌, ℕ, refl, ap, arith}
use Rattle.session.specs.declared.reply.Reply.TheVariants.{Silent, Written}
use Rattle.engine.specs.State.{new_engine}
use Rattle.session.specs.State.{SessionState}
use Rattle.session.specs.WorkedSteps.{session_with, two_long}
use Rattle.session.proofs.worked.worked_groups.Goals as goal

apart : Written ≡ Silent → ⊥
apart e = absurd (cc)

long_of : SessionState → ℕ
long_of s = s.engine.kept_long

less : session_with new_engine ≡ session_with two_long → ⊥
unfolding long_of
less e = absurd (let n : 0 ≡ 2 = ap long_of e in omega (arith, n))

pub returns : goal.returns
returns c = record {
  silent_changes = (refl, (refl, (refl, (refl, tt))));
  no_written_changes = (apart, (apart, (apart, (apart, tt))));
  written_core = tt;
  unknown_core = tt;
  no_other_core = (λ e. e, (λ e. e, (λ e. e, (λ e. e, tt))));
  core_asks = tt;
  none_asks = (λ e. e, (λ e. e, (λ e. e, (λ e. e, tt))));
  all_left = (refl, (refl, (refl, (record { rest = refl; fewer = omega arith }, (refl, tt)))));
  fewer = record { rest = refl; fewer = omega arith };
  not_more = λ h. absurd (let few : 2 ≤ 0 = h.fewer in omega (arith, few));
  none_less = (less, (less, (less, (less, tt))));
}
