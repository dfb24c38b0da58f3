use Rattle.std.proofs.Common.{[], refl, sym, ap, subst, ◌∙◌}
use Rattle.watch.specs.State.{Holds, WatchState, looked}
use Rattle.watch.proofs.Stability.{holds_begins}
use Rattle.test_watch.proofs.watch_tests.desk.watch_for.Goals as goal

pub returns : goal.returns
returns g c = record {
  holds = λ scopes.
      let P : WatchState → Type 0 = λ w. Holds g.S.Side.PIVOT scopes w [] in
      c.in_ok-reserve.ensures.holds [] scopes
      (subst P (sym c.new-watch.ensures) (holds_begins g.S.Side.PIVOT scopes [] (λ i. refl)));
  looked = c.in_ok-reserve.ensures.looked ∙ ap looked c.new-watch.ensures;
}
