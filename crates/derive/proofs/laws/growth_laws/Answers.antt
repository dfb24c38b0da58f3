use Rattle.derive.proofs.Drops.{restored}
use Rattle.derive.proofs.Growth.{grows_itself, grows_twice, grows_by_step, grows_by_removal, grows_cut}
use Rattle.derive.proofs.laws.growth_laws.Goals as goal

pub returns : goal.returns
returns c = record {
  itself = grows_itself;
  follows = grows_twice;
  adds = grows_by_step;
  removes = grows_by_removal;
  restores = λ before after cut grows cuts. restored before after cut grows.longer grows.others grows.given cuts.drops
      cuts.front;
  cuts = grows_cut;
}
