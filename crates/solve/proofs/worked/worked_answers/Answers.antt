use Rattle.std.proofs.Common.{◌≡◌, ◌<◌, ◌≤◌, true, false, [], ◌∷◌, refl, arith, lit<}
use Rattle.solve.specs.Worked.{at_thirty_six}
use Rattle.solve.proofs.worked.worked_answers.Goals as goal

none_given : at_thirty_six ∷ [] ≡ [] → ⊥
none_given e = absurd (cc)

pub returns : goal.returns
returns c = record {
  sat = refl;
  not_unsat = λ e. absurd (let f : true ≡ false = e in cc);
  unsat = refl;
  not_sat = λ e. absurd (let f : false ≡ true = e in cc);
  nineteen = record { limit = lit< tt; propagation = λ _. lit< tt };
  not_enough = λ s. absurd (let low : 192 < 192 = s.limit in omega (arith, low));
  told = record { budget = refl; vars = refl; few = lit< tt; restarts = omega arith };
  not_told = λ s. absurd (let low : 36 < 24 = s.few in omega (arith, low));
  restarted = record { budget = refl; vars = refl; few = lit< tt; restarts = omega arith };
  not_restarted = λ s. absurd (let low : 1 ≤ 0 = s.restarts in omega (arith, low));
  not_as_before = λ s. absurd (let low : 1 ≤ 0 = s.restarts in omega (arith, low));
  twice = λ s. absurd (let low : 384 < 384 = s.limit in omega (arith, low));
  fewer_restarts = refl;
  more_restarts = refl;
  fewer_rows = refl;
  entry = (at_thirty_six, refl, record { budget = refl; vars = refl; few = lit< tt; restarts = omega arith });
  no_entry = none_given;
}
