use Rattle.std.proofs.Common.{◌≡◌, true, false, refl, sym, arith}
use Rattle.trail.specs.Open.{is_finished, IsFirstOpen}
use Rattle.trail.proofs.Opening.{assigned_all, assigned_through, full_scope, open_here, open_not_all}
use Rattle.trail.proofs.trail.Trail.first_open.Goals as goal

pub next_unfinished-scope-requires-in-loop-scope-clause-earlier :
    goal.next_unfinished-scope-requires-in-loop-scope-clause-earlier
next_unfinished-scope-requires-in-loop-scope-clause-earlier c =
    let full : is_finished c.args.prefix.now c.args.self.now.placed c.loop-scope.scope ≡ true =
    sym c.if-not-is_full.ensures in
    assigned_through c.args.prefix.now c.args.self.now.placed c.loop-scope.scope c.loop-scope.invariant.0
    c.loop-scope.invariant.1 (full_scope c.args.prefix.now c.args.self.now.placed c.loop-scope.scope full)

open_one : (c : goal.Then-not-is_full) → IsFirstOpen c.args.prefix.now c.args.self.now.placed c.loop-scope.scope
open_one c =
    let high = c.loop-scope-test.true in
    let scopes = c.scopes-in-loop-scope.ensures.value in
    let fewer : is_finished c.args.prefix.now c.args.self.now.placed c.loop-scope.scope ≡ false =
    sym c.if-not-is_full.ensures in
    open_here c.args.prefix.now c.args.self.now.placed c.loop-scope.scope c.loop-scope.invariant.0 (omega arith)
    c.loop-scope.invariant.1 fewer

pub returns-then-not-is_full-clause-none : goal.returns-then-not-is_full-clause-none
returns-then-not-is_full-clause-none c = (
  (λ e. absurd (cc)),
  λ all. absurd (open_not_all c.args.prefix.now c.args.self.now.placed c.loop-scope.scope
      (open_one c) all),
)

pub returns-then-not-is_full-clause-some : goal.returns-then-not-is_full-clause-some
returns-then-not-is_full-clause-some c = open_one c

pub returns-clause-none : goal.returns-clause-none
returns-clause-none c =
    let scopes = c.scopes-in-loop-scope.ensures.value in
    let past = c.loop-scope-test.false in (
      (λ e. assigned_all c.args.prefix.now c.args.self.now.placed c.loop-scope.scope (omega arith)
          c.loop-scope.invariant.1),
      λ all. refl,
    )
