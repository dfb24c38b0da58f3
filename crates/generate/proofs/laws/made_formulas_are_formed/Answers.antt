use Rattle.std.proofs.Common.{◌≡◌, List, length}
use Rattle.std.specs.List.{range_with_len}
use Rattle.prefix.specs.Literal.{Literal}
use Rattle.generate.specs.Draws.{start_of}
use Rattle.generate.specs.Made.{clause_at}
use Rattle.generate.proofs.Forming.{all_mapped, clause_length, made_formed, prefix_is, variables_are}
use Rattle.generate.proofs.laws.made_formulas_are_formed.Goals as goal

pub returns : goal.returns
returns c = record {
  formed = made_formed;
  prefix = prefix_is;
  variables = λ v low. variables_are v;
  clauses = λ seed v m. all_mapped (λ (d : List Literal). length d ≡ 3) (clause_at (start_of seed) v)
      (range_with_len 0 m)
      (clause_length (start_of seed) v);
}
