use Rattle.std.proofs.Common.{◌≡◌, ◌+◌, ◌≤◌, length, take}
use Rattle.frames.specs.State.{literals_in}
use Rattle.frames.proofs.lists.cut.Given as goal

-- a front of the rows is left, and what is gone is counted no longer
abbrev pub invariant-loop-rows : goal.invariant-loop-rows
invariant-loop-rows l = record {
  front : l.rows.items ≡ take (length l.rows.items) l.initial.rows.items;
  long : l.len ≤ length l.rows.items;
  clauses : l.total.clauses + length l.initial.rows.items ≡ l.initial.total.clauses + length l.rows.items;
  literals : l.total.literals + literals_in l.initial.rows.items
      ≡ l.initial.total.literals + literals_in l.rows.items;
}

abbrev pub decreases-loop-rows : goal.decreases-loop-rows
decreases-loop-rows l = length l.rows.items
