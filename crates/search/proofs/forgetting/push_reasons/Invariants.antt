use Rattle.search.specs.Forgetting.{AreLive}
use Rattle.search.proofs.Thinning.{HasReasonsTo}
use Rattle.search.proofs.forgetting.push_reasons.Given as goal

abbrev pub invariant-loop-place : goal.invariant-loop-place
invariant-loop-place l = record {
  live : AreLive l.derivation l.keep.items;
  all : HasReasonsTo l.derivation l.trail.placed l.keep.items l.place;
}
