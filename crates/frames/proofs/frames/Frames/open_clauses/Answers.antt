use Rattle.std.proofs.Common.{◌∙◌, ◌++◌, List, ap}
use Rattle.calculus.specs.Rows.{Row, IsRow}
use Rattle.calculus.proofs.Lists.{all_append}
use Rattle.frames.specs.Groups.{active_in}
use Rattle.frames.specs.Kept.{at_first}
use Rattle.frames.proofs.Counting.{all_active}
use Rattle.frames.proofs.Starts.{frames_clauses}
use Rattle.frames.proofs.frames.Frames.open_clauses.Goals as goal

pub returns-in_err-put_active-clause-rows : goal.returns-in_err-put_active-clause-rows
returns-in_err-put_active-clause-rows c =
    let self = c.self.inside in
    rw (← c.self.view_is, frames_clauses at_first self.starts.items self.rows.items self.vars.items)
    (all_append (IsRow self.prefix) self.rows.items (active_in self.groups.groups) c.self.invariant.0.rows
    (all_active (IsRow self.prefix) self.groups.groups c.self.invariant.3.rows))

pub returns-clause-rows : goal.returns-clause-rows
returns-clause-rows c =
    let self = c.self.inside in
    rw (← c.self.view_is, frames_clauses at_first self.starts.items self.rows.items self.vars.items)
    (all_append (IsRow self.prefix) self.rows.items (active_in self.groups.groups) c.self.invariant.0.rows
    (all_active (IsRow self.prefix) self.groups.groups c.self.invariant.3.rows))

pub returns-clause-value : goal.returns-clause-value
returns-clause-value c =
    let self = c.self.inside in
    rw (← c.self.view_is, frames_clauses at_first self.starts.items self.rows.items self.vars.items)
    (c.in_ok-put_active.ensures
    ∙ ap (λ (rows : List Row). rows ++ active_in self.groups.groups) (c.new-matrix.ensures ∙ c.deref.ensures.value))
