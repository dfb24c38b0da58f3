use Rattle.std.proofs.Common.{◌≡◌, List, sym, subst, refl, ◌∙◌}
use Rattle.prefix.specs.Literal.{Literal}
use Rattle.calculus.specs.Search.{literals_on}
use Rattle.rows.specs.Arena.{Arena}
use Rattle.trail.specs.declared.allowed.Allowed.TheVariants.{Anything, Nothing}
use Rattle.watch.specs.State.{Holds, IsFront}
use Rattle.test_watch.proofs.watch_tests.desk.Desk.new.Goals as goal

pub invariant_of-result : goal.invariant_of-result
invariant_of-result g c =
    let scopes = c.args.prefix in
    let trail = c.in_ok-trail.trail in
    let watch = c.in_ok-watch.watch in
    let H : Arena → Type 0 = λ arena. Holds g.S.Side.PIVOT scopes watch arena in
    let F : List Literal → Type 0 = λ xs. IsFront xs (literals_on trail.placed) in
    record {
      holds = subst H (sym c.new.ensures) (c.in_ok-watch.ensures.holds scopes);
      front = subst F (sym c.in_ok-watch.ensures.looked) refl;
      order = c.in_ok-trail.ensures.kept scopes;
      allowed = λ e. let h : Anything ≡ Nothing = sym c.in_ok-trail.ensures.allowed ∙ e in cc;
    }
