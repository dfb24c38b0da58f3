use Rattle.std.proofs.Common.{sym, subst}
use Rattle.frames.specs.Places.{GroupsState, IsGapFor, IsGroupAt}
use Rattle.frames.proofs.Placing.{at_low, groups_new, opened_new, opened_there}
use Rattle.frames.proofs.groups.Groups.open_group.Goals as goal

pub invariant_of-self : goal.invariant_of-self
invariant_of-self c =
    let at = subst (λ (s : GroupsState). IsGroupAt s.groups c.args.number c.in-Ok.place) (sym c.self.view_is)
    c.in-Ok.ensures.found in
    record {
      rising = c.self.invariant.rising;
      placed = at_low c.self.inside.groups.items c.args.number c.in-Ok.place c.self.invariant.rising at;
    }

pub returns-in-Ok-clause-ok : goal.returns-in-Ok-clause-ok
returns-in-Ok-clause-ok c =
    let at = subst (λ (s : GroupsState). IsGroupAt s.groups c.args.number c.in-Ok.place) (sym c.self.view_is)
    c.in-Ok.ensures.found in
    rw (← c.self.view_is) (opened_there c.self.inside.groups.items c.args.number c.in-Ok.place
    c.self.invariant.rising at)

pub invariant_of-self-in-Err : goal.invariant_of-self-in-Err
invariant_of-self-in-Err c =
    let gap = subst (λ (s : GroupsState). IsGapFor s.groups c.args.number c.in-Err.place) (sym c.self.view_is)
    c.in-Err.ensures.absent in
    rw (c.in_ok-insert-in-Err.ensures.items, c.new-group.ensures)
    (groups_new c.self.inside.groups.items c.args.number c.in-Err.place gap c.self.invariant.rising)

pub returns-in_ok-insert-in-Err-clause-ok : goal.returns-in_ok-insert-in-Err-clause-ok
returns-in_ok-insert-in-Err-clause-ok c =
    let gap = subst (λ (s : GroupsState). IsGapFor s.groups c.args.number c.in-Err.place) (sym c.self.view_is)
    c.in-Err.ensures.absent in
    rw (← c.self.view_is, c.in_ok-insert-in-Err.ensures.items, c.new-group.ensures)
    (opened_new c.self.inside.groups.items c.args.number c.in-Err.place gap)
