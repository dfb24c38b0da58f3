use Rattle.std.proofs.Common.{ℕ, ap, refl, sym, subst, ◌∙◌}
use Rattle.frames.specs.State.{FramesState}
use Rattle.search.specs.Changing.{IsRoomy}
use Rattle.search.specs.Long.{long_in}
use Rattle.engine.specs.Kept.{IsEngine}
use Rattle.engine.proofs.Changing.{accepted, cubes_kept, reserved, roomier, variable_added, variable_is}
use Rattle.engine.proofs.Marked.{older_marked, variable_marked}
use Rattle.engine.proofs.engine.Engine.var.Goals as goal

pub forget_outcome-requires : goal.forget_outcome-requires
forget_outcome-requires c =
    let accepts = accepted _ c.var.result c.in_ok-var.field-0 c.in_ok-var.was c.var.ensures.refused in
    let same = variable_is _ c.variable_for.result c.in_ok-v.v c.args.var c.in_ok-v.was c.variable_for.ensures in
    let new = c.reserve.new.self in
    let tied = reserved c.self.inside.frames.formula c.self.inside.search new c.reserve.ensures.resting
    c.reserve.ensures.derivation c.self.invariant.tied in
    let room = subst (λ (v : ℕ). IsRoomy v new) same c.in_ok-reserve.ensures.ok in
    rw c.in_ok-var.ensures.ok (variable_added c.self.inside.frames.formula new c.args.var c.args.scope tied room
    accepts c.prefixes_grow.ensures c.resting_grows.ensures)

pub invariant_of-self-2 : goal.invariant_of-self-2
invariant_of-self-2 c = record {
  tied = c.forget_outcome.ensures.tied;
  held = tt;
  finishes = c.forget_outcome.ensures.finishes;
  cubes = λ none. c.forget_outcome.ensures.cubes
      (cubes_kept c.self.inside.search c.reserve.new.self c.reserve.ensures.watched c.reserve.ensures.derivation
      (c.self.invariant.cubes none));
  reductions = rw (c.forget_outcome.ensures.reductions, c.reserve.ensures.derivation) c.self.invariant.reductions;
  variables = tt;
  long = tt;
  marked =
      let f = c.self.inside.frames.formula in
      let d = c.self.inside.search.derivation in
      let accepts = accepted _ c.var.result c.in_ok-var.field-0 c.in_ok-var.was c.var.ensures.refused in
      older_marked c.var.new.self.formula c.self.inside.marks.items c.reserve.new.self.derivation
      c.forget_outcome.new.search.derivation c.forget_outcome.ensures.older
      (rw (c.reserve.ensures.derivation, c.in_ok-var.ensures.ok) (variable_marked f c.args.var c.args.scope
      c.self.inside.marks.items d accepts c.prefixes_grow.ensures c.self.invariant.marked));
}

pub invariant_of-self : goal.invariant_of-self
invariant_of-self c =
    let e = c.reserve.ensures in
    roomier c.self.inside.frames.formula c.self.inside.search c.reserve.new.self c.self.inside.verdict
    c.self.inside.counts c.self.inside.marks.items e.resting e.derivation e.watched c.self.invariant

pub invariant_of-self-in_err-var : goal.invariant_of-self-in_err-var
invariant_of-self-in_err-var c =
    let e = c.reserve.ensures in
    subst (λ (f : FramesState). IsEngine f.formula c.reserve.new.self c.self.inside.verdict c.self.inside.counts
    c.self.inside.marks.items) (sym c.in_err-var.ensures.err)
    (roomier c.self.inside.frames.formula c.self.inside.search c.reserve.new.self c.self.inside.verdict
    c.self.inside.counts c.self.inside.marks.items e.resting e.derivation e.watched c.self.invariant)

pub returns-clause-ok : goal.returns-clause-ok
returns-clause-ok c =
    let scopes = c.self.inside.frames.formula.scopes in
    let was = c.self.invariant.tied.resting in
    let is = c.reserve.ensures.resting scopes was in
    let long = c.forget_outcome.ensures.long
    ∙ (is.tallied ∙ (ap long_in c.reserve.ensures.derivation ∙ sym was.tallied)) in
    rw (← c.self.view_is, long, c.in_ok-var.ensures.ok) refl
