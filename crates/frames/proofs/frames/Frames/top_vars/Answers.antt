use Rattle.std.proofs.Common.{◌≡◌, ◌-◌, ◌≤◌, ◌∙◌, true, length, drop, sym, ap, arith}
use Rattle.std.specs.Prelude.{is_some}
use Rattle.prefix.specs.Scopes.{level_of}
use Rattle.frames.specs.Kept.{at_first, frames_from, last_vars}
use Rattle.frames.proofs.Starts.{frames_top, last_within}
use Rattle.frames.proofs.Holding.{held_top}
use Rattle.frames.proofs.Keeping.{ending}
use Rattle.frames.proofs.Leaving.{all_top, below_popped, distinct_top, first_top, never_top}
use Rattle.frames.proofs.frames.Frames.top_vars.Goals as goal

pub vars_from-requires : goal.vars_from-requires
vars_from-requires c =
    let self = c.self.inside in
    let is : c.top_start.result ≡ last_vars self.starts.items = c.top_start.ensures
    ∙ ap last_vars c.deref-2.ensures.value in
    let within : last_vars self.starts.items ≤ length self.vars.items =
    last_within at_first self.starts.items (ending self.rows.items self.vars.items) c.self.invariant.0.ascending in
    let same : length c.deref.result.now ≡ length self.vars.items = ap length c.deref.ensures.value in
    omega (arith, is, within, same)

pub returns-clause-value : goal.returns-clause-value
returns-clause-value c =
    let self = c.self.inside in
    let last : c.top_start.result ≡ last_vars self.starts.items = c.top_start.ensures
    ∙ ap last_vars c.deref-2.ensures.value in
    let is : c.top_start.result ≡ last_vars self.starts.items - 0 = omega (arith, last) in
    rw (← c.self.view_is)
    (c.vars_from.ensures ∙ ap (drop c.top_start.result) c.deref.ensures.value ∙ ap (λ n. drop n self.vars.items) is
    ∙ sym (frames_top at_first self.starts.items (ending self.rows.items self.vars.items) self.rows.items
    self.vars.items c.self.invariant.0.ascending))

pub returns-clause-known : goal.returns-clause-known
returns-clause-known c =
    let self = c.self.inside in
    rw (← c.self.view_is) (all_top (λ v. is_some (level_of self.prefix v) ≡ true)
    (frames_from at_first self.starts.items self.rows.items self.vars.items) c.self.invariant.2.known)

pub returns-clause-distinct : goal.returns-clause-distinct
returns-clause-distinct c =
    let self = c.self.inside in
    rw (← c.self.view_is) (distinct_top (frames_from at_first self.starts.items self.rows.items self.vars.items)
    c.self.invariant.2.distinct)

pub returns-clause-below : goal.returns-clause-below
returns-clause-below c =
    let self = c.self.inside in
    rw (← c.self.view_is) (below_popped (frames_from at_first self.starts.items self.rows.items self.vars.items)
    c.self.invariant.2.outlast)

pub returns-clause-grouped : goal.returns-clause-grouped
returns-clause-grouped c =
    let self = c.self.inside in
    rw (← c.self.view_is) (held_top self.prefix self.starts.items (ending self.rows.items self.vars.items)
    self.rows.items self.vars.items self.groups self.latest c.self.invariant.0.ascending c.self.invariant.3)

pub returns-clause-never : goal.returns-clause-never
returns-clause-never c =
    let self = c.self.inside in
    rw (← c.self.view_is) (λ e. never_top (frames_from at_first self.starts.items self.rows.items self.vars.items)
    (c.self.invariant.2.never e))

pub returns-clause-first : goal.returns-clause-first
returns-clause-first c =
    let self = c.self.inside in
    rw (← c.self.view_is) (λ e. first_top (frames_from at_first self.starts.items self.rows.items self.vars.items)
    c.self.invariant.2.first e)
