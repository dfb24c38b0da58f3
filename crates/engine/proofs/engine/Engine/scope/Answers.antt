use Rattle.engine.proofs.Changing.{accepted, scope_added}
use Rattle.engine.proofs.Marked.{older_marked, scope_marked}
use Rattle.engine.proofs.engine.Engine.scope.Goals as goal

pub forget_outcome-requires : goal.forget_outcome-requires
forget_outcome-requires c =
    let accepts = accepted _ c.scope.result c.in_ok-scope.field-0 c.in_ok-scope.was c.scope.ensures.refused in
    rw c.in_ok-scope.ensures.ok (scope_added c.self.inside.frames.formula c.self.inside.search c.args.quant c.args.at
    c.self.invariant.tied accepts c.prefixes_grow.ensures c.resting_grows.ensures)

pub invariant_of-self-2 : goal.invariant_of-self-2
invariant_of-self-2 c = record {
  tied = c.forget_outcome.ensures.tied;
  held = tt;
  finishes = c.forget_outcome.ensures.finishes;
  cubes = λ none. c.forget_outcome.ensures.cubes (c.self.invariant.cubes none);
  reductions = rw c.forget_outcome.ensures.reductions c.self.invariant.reductions;
  variables = tt;
  long = tt;
  marked =
      let f = c.self.inside.frames.formula in
      let accepts = accepted _ c.scope.result c.in_ok-scope.field-0 c.in_ok-scope.was c.scope.ensures.refused in
      older_marked c.scope.new.self.formula c.self.inside.marks.items c.self.inside.search.derivation
      c.forget_outcome.new.search.derivation c.forget_outcome.ensures.older
      (rw c.in_ok-scope.ensures.ok (scope_marked f c.args.quant c.args.at c.self.inside.marks.items
      c.self.inside.search.derivation accepts c.prefixes_grow.ensures c.self.invariant.marked));
}
