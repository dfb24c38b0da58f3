use Rattle.std.proofs.Common.{arith}
use Rattle.frames.proofs.Placing.{in_order, joined_with_last, last_is, left_groups, none_left, placed_low}
use Rattle.frames.proofs.groups.Groups.take_last.Goals as goal

pub index_mut-requires : goal.index_mut-requires
index_mut-requires c =
    let low = placed_low c.self.inside.groups.items c.self.inside.current c.in-Some.place c.in-Some.is
    c.self.invariant.placed in
    omega (arith, low, c.self.inside.groups.ok.0)

pub invariant_of-self : goal.invariant_of-self
invariant_of-self c =
    left_groups c.self.inside.groups.items c.self.inside.current c.in-Some.place c.index_mut.result.now c.in-Some.is
    c.self.invariant c.index_mut.ensures.value c.pop.result c.pop.new.self c.pop.ensures.last c.pop.ensures.none

pub returns-in-Some-clause-order : goal.returns-in-Some-clause-order
returns-in-Some-clause-order c =
    in_order _ c.self.inside.current (left_groups c.self.inside.groups.items c.self.inside.current c.in-Some.place
    c.index_mut.result.now c.in-Some.is c.self.invariant c.index_mut.ensures.value c.pop.result c.pop.new.self
    c.pop.ensures.last c.pop.ensures.none)

pub returns-in-Some-clause-value : goal.returns-in-Some-clause-value
returns-in-Some-clause-value c =
    rw (← c.self.view_is) (last_is c.self.inside.groups.items c.self.inside.current c.in-Some.place
    c.index_mut.result.now c.in-Some.is c.self.invariant c.index_mut.ensures.value c.pop.result c.pop.new.self
    c.pop.ensures.last c.pop.ensures.none)

pub returns-in-Some-clause-last : goal.returns-in-Some-clause-last
returns-in-Some-clause-last c =
    rw (← c.self.view_is) (joined_with_last c.self.inside.groups.items c.self.inside.current c.in-Some.place
    c.index_mut.result.now c.in-Some.is c.self.invariant c.index_mut.ensures.value c.pop.result c.pop.new.self
    c.pop.ensures.last c.pop.ensures.none)

pub returns-in-Some-clause-none : goal.returns-in-Some-clause-none
returns-in-Some-clause-none c =
    rw (← c.self.view_is) (none_left c.self.inside.groups.items c.self.inside.current c.in-Some.place
    c.index_mut.result.now c.in-Some.is c.self.invariant c.index_mut.ensures.value c.pop.result c.pop.new.self
    c.pop.ensures.none)
