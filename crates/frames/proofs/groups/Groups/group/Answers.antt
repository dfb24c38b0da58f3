use Rattle.std.proofs.Common.{sym, subst, arith}
use Rattle.frames.specs.Places.{GroupsState, IsGroupAt}
use Rattle.frames.proofs.Placing.{absent_is, at_low, found_is}
use Rattle.frames.proofs.groups.Groups.group.Goals as goal

pub index-requires : goal.index-requires
index-requires c =
    let at = subst (λ (s : GroupsState). IsGroupAt s.groups c.args.number c.in-Ok.place) (sym c.self.view_is)
    c.in-Ok.ensures.found in
    let low = at_low c.self.inside.groups.items c.args.number c.in-Ok.place c.self.invariant.rising at in
    omega (arith, low, c.self.inside.groups.ok.0)

pub returns-in-Ok : goal.returns-in-Ok
returns-in-Ok c =
    let at = subst (λ (s : GroupsState). IsGroupAt s.groups c.args.number c.in-Ok.place) (sym c.self.view_is)
    c.in-Ok.ensures.found in
    rw (← c.self.view_is) (found_is c.self.inside.groups.items c.args.number c.in-Ok.place c.self.invariant.rising at
    c.index.result.now c.index.ensures)

pub returns-in-Err : goal.returns-in-Err
returns-in-Err c = absent_is c.args.self.now.groups c.args.number _ c.in-Err.ensures.absent
