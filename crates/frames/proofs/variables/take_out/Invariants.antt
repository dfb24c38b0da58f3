use Rattle.std.proofs.Common.{◌≡◌, ◌≤◌, length, take, drop}
use Rattle.frames.specs.State.{without_assumed, without_variables}
use Rattle.frames.proofs.variables.take_out.Given as goal

-- a front of the variables is left, and the rest of them is to be taken out as before
abbrev pub invariant-loop-vars : goal.invariant-loop-vars
invariant-loop-vars l = record {
  front : l.vars.items ≡ take (length l.vars.items) l.initial.vars.items;
  long : l.len ≤ length l.vars.items;
  prefix : without_variables (drop l.len l.vars.items) l.prefix
      ≡ without_variables (drop l.len l.initial.vars.items) l.initial.prefix;
  assumptions : without_assumed (drop l.len l.vars.items) l.assumptions
      ≡ without_assumed (drop l.len l.initial.vars.items) l.initial.assumptions;
}

abbrev pub decreases-loop-vars : goal.decreases-loop-vars
decreases-loop-vars l = length l.vars.items
