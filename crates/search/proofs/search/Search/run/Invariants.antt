use Rattle.std.proofs.Common.{◌≡◌, ◌+◌, ◌-◌, ◌≤◌}
use Rattle.calculus.specs.Limits.{assignment_limit}
use Rattle.calculus.specs.Search.{AreTheAssumptions, IsRefuted}
use Rattle.trail.specs.declared.allowed.Allowed.TheVariants.{Anything}
use Rattle.derive.specs.State.{clauses_of}
use Rattle.search.specs.Counting.{IsCounted, ReducesFew, size_of}
use Rattle.search.specs.Forcing.{IsRefuting, NoCubeAttached}
use Rattle.search.specs.Forgetting.{HasFewLong}
use Rattle.search.specs.Moves.{IsMatrix, KeepsOlder}
use Rattle.search.specs.State.{IsSearching}
use Rattle.search.proofs.search.Search.run.Given as goal

abbrev pub invariant-turns : goal.invariant-turns
invariant-turns l = record {
  searching : IsSearching l.prefix l.self;
  allowed : l.self.trail.allowed ≡ Anything;
  assumed : AreTheAssumptions l.self.trail.placed l.assumptions;
  counted : IsCounted (size_of l.prefix) 0 l.fn.steps.spent l.self.trail l.steps;
  clauses : clauses_of l.self.derivation ≡ clauses_of l.fn.self.derivation;
  older : KeepsOlder l.fn.self.derivation l.self.derivation;
  budget : l.steps.budget ≡ l.fn.steps.budget;
  rises : l.fn.steps.spent ≤ l.steps.spent;
  restarts : l.self.trail.restarts ≤ l.restarts;
  reductions : ReducesFew l.fn.self.derivation l.self.derivation l.fn.steps l.steps;
  forced : NoCubeAttached l.fn.self → IsRefuted l.prefix l.matrix l.assumptions
      → IsRefuting l.prefix l.matrix l.fn.steps.spent l.self l.steps;
  long : HasFewLong l.kept l.prefix l.self;
  matrix : IsMatrix l.self.derivation l.matrix;
}

abbrev pub decreases-turns : goal.decreases-turns
decreases-turns l = (assignment_limit l.restarts (size_of l.prefix) + l.restarts)
    - (l.self.trail.assigned + l.self.trail.restarts)
