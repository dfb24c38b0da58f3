use Rattle.std.proofs.Common.{◌≡◌, ℕ, ◌≤◌, map, take, get_or}
use Rattle.qdimacs.specs.declared.sets.Row.{Row}
use Rattle.qdimacs.specs.Kept.{sets_of}
use Rattle.qdimacs.specs.Formula.{in_order}
use Rattle.qdimacs.proofs.sets.Sets.prefix.Given as goal

-- the scopes so far are put, and all are as they were but for the order of variables
abbrev pub invariant-loop-i : goal.invariant-loop-i
invariant-loop-i l = record {
  done : l.prefix ≡ take l.i (map in_order (sets_of l.fn.self.rows.items));
  same : map in_order (sets_of l.self.rows.items) ≡ map in_order (sets_of l.fn.self.rows.items);
  marks : l.self.marks ≡ l.fn.self.marks;
  rest : (j : ℕ) (d : Row) → l.i ≤ j → get_or l.self.rows.items j d ≡ get_or l.fn.self.rows.items j d;
}
