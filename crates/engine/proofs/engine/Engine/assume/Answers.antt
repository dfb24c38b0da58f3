use Rattle.engine.proofs.Marked.{older_marked}
use Rattle.engine.proofs.engine.Engine.assume.Goals as goal

pub invariant_of-self-2 : goal.invariant_of-self-2
invariant_of-self-2 c = record {
  tied = c.forget_outcome.ensures.tied;
  held = tt;
  finishes = c.forget_outcome.ensures.finishes;
  cubes = λ none. c.forget_outcome.ensures.cubes (c.self.invariant.cubes none);
  reductions = rw c.forget_outcome.ensures.reductions c.self.invariant.reductions;
  variables = tt;
  long = tt;
  marked = older_marked c.assume.new.self.formula c.self.inside.marks.items c.self.inside.search.derivation
      c.forget_outcome.new.search.derivation c.forget_outcome.ensures.older
      (rw c.in_ok-assume.ensures.ok c.self.invariant.marked);
}
