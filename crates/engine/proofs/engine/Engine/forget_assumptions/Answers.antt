use Rattle.engine.proofs.Changing.{without_assumptions}
use Rattle.engine.proofs.Marked.{older_marked}
use Rattle.engine.proofs.engine.Engine.forget_assumptions.Goals as goal

pub invariant_of-self : goal.invariant_of-self
invariant_of-self c =
    let f = c.self.inside.frames.formula in
    rw c.clear_assumptions.ensures (record {
      tied = without_assumptions f c.forget_outcome.new.search c.forget_outcome.ensures.tied;
      held = tt;
      finishes = c.forget_outcome.ensures.finishes;
      cubes = λ none. c.forget_outcome.ensures.cubes (c.self.invariant.cubes none);
      reductions = rw c.forget_outcome.ensures.reductions c.self.invariant.reductions;
      variables = tt;
      long = tt;
      marked = older_marked f c.self.inside.marks.items c.self.inside.search.derivation
          c.forget_outcome.new.search.derivation c.forget_outcome.ensures.older c.self.invariant.marked;
    })
