use Rattle.std.proofs.Common.{◌++◌, drop}
use Rattle.std.specs.Prelude.{IfSome}
use Rattle.cores.specs.Cores.{grouped_in}
use Rattle.cores.specs.Trials.{IsRefutation, IsTrying}
use Rattle.cores.proofs.Keeping.{Tried}
use Rattle.cores.proofs.choosing.try_all.Given as goal

-- the groups before the place were tried, the search holds what is kept and what is still to be tried, and a refutation
-- is one of that
abbrev pub invariant-loop-place : goal.invariant-loop-place
invariant-loop-place l = record {
  trying : IsTrying l.question.prefix.now l.search l.kept (drop l.place l.parts);
  tried : Tried l.question.assumptions.now l.question.prefix.now l.fn.kept l.parts l.place l.kept l.core.items;
  refuted : IfSome l.refutation (IsRefutation l.question.prefix.now (l.kept ++ grouped_in (drop l.place l.parts))
      l.question.assumptions.now l.search.derivation);
}
