use Rattle.std.proofs.Common.{◌≡◌, arith, refl, sym, subst}
use Rattle.frames.specs.Commands.{Deactivate, formula_after, refusal_of}
use Rattle.frames.specs.State.{FramesState, settled}
use Rattle.engine.proofs.Changing.{turned, turn_allowed}
use Rattle.engine.proofs.Marked.{AreMarkedIn, older_marked}
use Rattle.engine.proofs.engine.Engine.deactivate.Goals as goal

pub invariant_of-self : goal.invariant_of-self
invariant_of-self c = record {
  tied = c.forget_outcome.ensures.tied;
  held = tt;
  finishes = c.forget_outcome.ensures.finishes;
  cubes = λ none. c.forget_outcome.ensures.cubes (c.drop_group.ensures.cubes (c.self.invariant.cubes none));
  reductions = let most = c.self.invariant.reductions in let less = c.drop_group.ensures.reductions in
      let same = c.forget_outcome.ensures.reductions in omega (arith, most, less, same);
  variables = tt;
  long = tt;
  marked =
      let f = c.self.inside.frames.formula in
      let marks = c.self.inside.marks.items in
      let e = c.forget_outcome.new.search.derivation in
      let is : c.deactivate.new.self ≡ settled (formula_after f (Deactivate c.args.group)) =
      turned (refusal_of f (Deactivate c.args.group)) c.may_turn.result c.in_ok-number.number c.args.group
      c.deactivate.result _ c.in_ok-number.was c.may_turn.ensures c.deactivate.ensures.refused
      c.deactivate.ensures.ok in
      subst (λ (g : FramesState). AreMarkedIn g.formula marks e) (sym is)
      (older_marked f marks c.drop_group.new.search.derivation e c.forget_outcome.ensures.older
      (older_marked f marks c.self.inside.search.derivation c.drop_group.new.search.derivation
      c.drop_group.ensures.older c.self.invariant.marked));
}

pub returns-clause-ok : goal.returns-clause-ok
returns-clause-ok c =
    let f = c.self.inside.frames.formula in
    let is : c.deactivate.new.self ≡ settled (formula_after f (Deactivate c.args.group)) =
    turned (refusal_of f (Deactivate c.args.group)) c.may_turn.result c.in_ok-number.number c.args.group
    c.deactivate.result _ c.in_ok-number.was c.may_turn.ensures c.deactivate.ensures.refused
    c.deactivate.ensures.ok in
    rw (← c.self.view_is, is) refl

pub returns-clause-refused : goal.returns-clause-refused
returns-clause-refused c =
    let f = c.self.inside.frames.formula in
    let none = turn_allowed (refusal_of f (Deactivate c.args.group)) c.may_turn.result c.in_ok-number.number
    c.args.group c.in_ok-number.was c.may_turn.ensures in
    rw (← c.self.view_is, none) refl
