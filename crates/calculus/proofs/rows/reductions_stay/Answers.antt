use Rattle.calculus.proofs.RowLaws.{reduce_reads}
use Rattle.calculus.proofs.rows.reductions_stay.Goals as goal

pub returns : goal.returns
returns c = record {
  reduced = λ pivot old new row extends is_row. reduce_reads pivot old new row
      (λ l i. extends.quantifiers l.variable (is_row.over_prefix l i))
      (λ l m i j. extends.depths l.variable m.variable (is_row.over_prefix l i) (is_row.over_prefix m j));
  row = λ old new row extends is_row. record {
    ascending = is_row.ascending;
    over_prefix = λ l i. extends.has l.variable
        (is_row.over_prefix l i);
  };
}
