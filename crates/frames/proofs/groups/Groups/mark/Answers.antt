use Rattle.std.proofs.Common.{sym, ap, subst, arith, List}
use Rattle.frames.specs.Groups.{Group, marked}
use Rattle.frames.specs.Places.{GroupsState, IsGroupAt}
use Rattle.frames.proofs.Grouping.{marked_numbers}
use Rattle.frames.proofs.Placing.{at_low, groups_kept, marked_is, state_kept, unmarked_is}
use Rattle.frames.proofs.groups.Groups.mark.Goals as goal

pub index_mut-requires : goal.index_mut-requires
index_mut-requires c =
    let at = subst (λ (s : GroupsState). IsGroupAt s.groups c.args.number c.in-Ok.place) (sym c.self.view_is)
    c.in-Ok.ensures.found in
    let low = at_low c.self.inside.groups.items c.args.number c.in-Ok.place c.self.invariant.rising at in
    omega (arith, low, c.self.inside.groups.ok.0)

pub invariant_of-self : goal.invariant_of-self
invariant_of-self c =
    let at = subst (λ (s : GroupsState). IsGroupAt s.groups c.args.number c.in-Ok.place) (sym c.self.view_is)
    c.in-Ok.ensures.found in
    groups_kept (marked c.args.active c.args.number) (marked_numbers c.args.active c.args.number)
    c.self.inside.groups.items _ c.self.inside.current
    (marked_is c.self.inside.groups.items c.args.number c.in-Ok.place c.self.invariant.rising at c.args.active
    _ _ c.index_mut.ensures.value c.mark.ensures)
    c.self.invariant

pub returns-in-Ok : goal.returns-in-Ok
returns-in-Ok c =
    let at = subst (λ (s : GroupsState). IsGroupAt s.groups c.args.number c.in-Ok.place) (sym c.self.view_is)
    c.in-Ok.ensures.found in
    rw (← c.self.view_is) (state_kept (marked c.args.active c.args.number)
    (marked_numbers c.args.active c.args.number)
    c.self.inside.groups.items _ c.self.inside.current
    (marked_is c.self.inside.groups.items c.args.number c.in-Ok.place c.self.invariant.rising at c.args.active
    _ _ c.index_mut.ensures.value c.mark.ensures))

pub returns-in-Err : goal.returns-in-Err
returns-in-Err c =
    ap (λ (gs : List Group). record c.args.self.now { groups = gs })
    (unmarked_is c.args.self.now.groups c.args.number _ c.in-Err.ensures.absent c.args.active)
