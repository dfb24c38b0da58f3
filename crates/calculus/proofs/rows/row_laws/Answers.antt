use Rattle.calculus.proofs.Opposites.{reduce_part}
use Rattle.calculus.proofs.RowLemmas.{resolve_at}
use Rattle.calculus.proofs.Ascending.{pairs_from}
use Rattle.calculus.proofs.RowLaws.{same_rows, reduce_row, resolve_row, reduce_twice}
use Rattle.calculus.proofs.rows.row_laws.Goals as goal

pub returns : goal.returns
returns c = record {
  same_rows = λ a b up down to from. same_rows a b (pairs_from a up) (pairs_from b down) to from;
  reduce_row = reduce_row;
  resolve_row = resolve_row;
  reduce_twice = reduce_twice;
  reduce_part = reduce_part;
  resolve_part = λ a b x l i. let r = resolve_at a b x l i in (r.1, r.0);
}
