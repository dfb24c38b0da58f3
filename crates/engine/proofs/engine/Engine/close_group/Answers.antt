use Rattle.engine.proofs.Changing.{group_closed}
use Rattle.engine.proofs.Marked.{older_marked}
use Rattle.engine.proofs.engine.Engine.close_group.Goals as goal

pub forget_outcome-requires : goal.forget_outcome-requires
forget_outcome-requires c =
    rw c.in_ok-close_group.ensures.ok
    (group_closed c.self.inside.frames.formula c.self.inside.search c.self.invariant.tied)

pub invariant_of-self-2 : goal.invariant_of-self-2
invariant_of-self-2 c = record {
  tied = c.forget_outcome.ensures.tied;
  held = tt;
  finishes = c.forget_outcome.ensures.finishes;
  cubes = λ none. c.forget_outcome.ensures.cubes (c.self.invariant.cubes none);
  reductions = rw c.forget_outcome.ensures.reductions c.self.invariant.reductions;
  variables = tt;
  long = tt;
  marked = older_marked c.close_group.new.self.formula c.self.inside.marks.items c.self.inside.search.derivation
      c.forget_outcome.new.search.derivation c.forget_outcome.ensures.older
      (rw c.in_ok-close_group.ensures.ok c.self.invariant.marked);
}
