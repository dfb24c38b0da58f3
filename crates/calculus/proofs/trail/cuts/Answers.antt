use Rattle.calculus.proofs.TrailLaws.{level_most}
use Rattle.calculus.proofs.Cutting.{cut_all, cut_at, cut_front, cut_taken, cut_shorter, cut_reached, level_none}
use Rattle.calculus.proofs.trail.cuts.Goals as goal
use Rattle.std.proofs.Common.{arith}

pub returns : goal.returns
returns c = record {
  front = λ trail b. cut_front 0 b trail;
  taken = cut_taken;
  decision = λ trail b high. let at = cut_at 0 b trail (omega arith) high in
      (at.decision, at.back, at.is_decision, at.parts);
  shorter = cut_shorter;
  reached = λ trail b high. cut_reached 0 b trail (omega arith) high;
  whole = λ trail b low. cut_all 0 b trail low;
  level = λ trail x. level_most 0 trail x;
  undecided = λ trail none. level_none 0 trail none;
}
