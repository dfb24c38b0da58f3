use Rattle.std.proofs.Common.{[], codes, refl}
use Rattle.std.specs.Fmt.{digits}
use Rattle.solve.specs.Outputs.{says}
use Rattle.solve.specs.Standing.{start}
use Rattle.session.proofs.Working.{empty_script, empty_ends, no_silence, one_row}
use Rattle.session.proofs.worked.worked_replies.Goals as goal

pub returns : goal.returns
unfolding digits
returns c = record {
  no_frame = refl;
  unknown_variable = refl;
  no_verdict = refl;
  no_trace = refl;
  not_outermost = refl;
  not_winner = refl;
  not_first = refl;
  accepted = refl;
  solved = refl;
  refused = refl;
  value = refl;
  none_relevant = refl;
  one_relevant = refl;
  lines = (
    start,
    (
      says (codes "refused 40\n"),
      says (codes "refused 41\nrefused 50\n"),
      start,
      refl,
      (refl, refl),
      (
        says (codes "refused 41\n"),
        says (codes "refused 50\n"),
        start,
        refl,
        (refl, refl),
        (says (codes "refused 50\n"), says [], start, refl, (refl, refl), (refl, refl)),
      ),
    ),
  );
  not_silent = λ h. no_silence h;
  unsat = one_row;
  empty = empty_script;
  not_refused = λ r. empty_ends r;
}
