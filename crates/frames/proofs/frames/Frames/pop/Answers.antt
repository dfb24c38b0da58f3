use Rattle.std.proofs.Common.{List, drop, refl, ap₂, ◌∙◌}
use Rattle.prefix.specs.Literal.{Literal}
use Rattle.prefix.specs.Scopes.{Scope}
use Rattle.frames.specs.declared.frames.Latest.TheVariants.{Other}
use Rattle.frames.specs.Groups.{grouped_in}
use Rattle.frames.specs.Kept.{outside, state_of}
use Rattle.frames.proofs.Holding.{counted_cut, held_popped}
use Rattle.frames.proofs.Keeping.{depth_above, popped_frames, popped_leaving, popped_place, view_popped}
use Rattle.frames.proofs.Leaving.{outer_left}
use Rattle.frames.proofs.frames.Frames.pop.Goals as goal

pub cut-requires-clause-place : goal.cut-requires-clause-place
cut-requires-clause-place c =
    let self = c.self.inside in
    (popped_place self.version self.prefix self.starts.items c.pop.new.self.items self.rows.items self.vars.items
    (outside self.latest self.groups.current) c.in-Some.start c.in-Some.ensures.items c.self.invariant.0).1

pub take_out-requires : goal.take_out-requires
take_out-requires c =
    let self = c.self.inside in
    (popped_place self.version self.prefix self.starts.items c.pop.new.self.items self.rows.items self.vars.items
    (outside self.latest self.groups.current) c.in-Some.start c.in-Some.ensures.items c.self.invariant.0).2

pub invariant_of-self-2 : goal.invariant_of-self-2
invariant_of-self-2 c =
    let self = c.self.inside in
    let news = c.pop.new.self.items in
    let rows = c.cut.new.rows.items in
    let vars = c.take_out.new.vars.items in
    let gone = drop c.in-Some.start.vars self.vars.items in (
      rw c.take_out.ensures.prefix (popped_frames self.version self.prefix self.starts.items news self.rows.items
          self.vars.items (outside self.latest self.groups.current) c.in-Some.start c.in-Some.ensures.items
          c.self.invariant.0 c.self.invariant.2
          rows vars c.cut.ensures.rows c.take_out.ensures.vars),
      rw (c.take_out.ensures.prefix, c.take_out.ensures.assumptions)
          (outer_left gone self.prefix self.assumptions c.self.invariant.1),
      rw c.take_out.ensures.prefix (popped_leaving self.version self.prefix self.starts.items news self.rows.items
          self.vars.items (outside self.latest self.groups.current) c.in-Some.start c.in-Some.ensures.items
          c.self.invariant.0 c.self.invariant.2
          rows vars c.cut.ensures.rows c.take_out.ensures.vars),
      rw c.take_out.ensures.prefix (held_popped self.prefix self.starts.items news c.in-Some.start self.vars.items vars
          self.groups self.latest c.in-Some.ensures.items c.take_out.ensures.vars c.self.invariant.3),
      counted_cut self.total c.cut.new.total self.rows.items rows (grouped_in self.groups.groups) c.in-Some.start.rows
          c.cut.ensures.rows c.cut.ensures.clauses c.cut.ensures.literals c.self.invariant.4,
    )

pub returns-clause-ok : goal.returns-clause-ok
returns-clause-ok c =
    let self = c.self.inside in
    let news = c.pop.new.self.items in
    let rows = c.cut.new.rows.items in
    let vars = c.take_out.new.vars.items in
    rw (← c.self.view_is)
    (ap₂ (λ (scopes : List Scope) (assumptions : List Literal). state_of self.version scopes news rows vars
    self.groups assumptions Other) c.take_out.ensures.prefix c.take_out.ensures.assumptions
    ∙ view_popped self.version self.prefix self.starts.items news self.rows.items self.vars.items
    (outside self.latest self.groups.current) c.in-Some.start c.in-Some.ensures.items c.self.invariant.0
    rows vars self.groups self.assumptions c.cut.ensures.rows c.take_out.ensures.vars)

pub returns-clause-refused : goal.returns-clause-refused
returns-clause-refused c =
    let self = c.self.inside in
    rw (
      ← c.self.view_is,
      depth_above self.starts.items c.pop.new.self.items self.rows.items self.vars.items
          c.in-Some.start c.in-Some.ensures.items,
    ) refl
