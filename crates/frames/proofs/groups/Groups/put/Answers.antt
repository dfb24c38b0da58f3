use Rattle.std.proofs.Common.{subst, arith}
use Rattle.frames.specs.Places.{AreInOrder}
use Rattle.frames.proofs.Placing.{in_order, placed_low, put_groups, put_is}
use Rattle.frames.proofs.groups.Groups.put.Goals as goal

pub index_mut-requires : goal.index_mut-requires
index_mut-requires c =
    let low = placed_low c.self.inside.groups.items c.self.inside.current c.in-Some.place c.in-Some.is
    c.self.invariant.placed in
    omega (arith, low, c.self.inside.groups.ok.0)

pub returns-in_err-put-in-Some-clause-order : goal.returns-in_err-put-in-Some-clause-order
returns-in_err-put-in-Some-clause-order c =
    subst AreInOrder c.self.view_is (in_order c.self.inside.groups.items c.self.inside.current c.self.invariant)

pub invariant_of-self-in-Some : goal.invariant_of-self-in-Some
invariant_of-self-in-Some c =
    put_groups c.self.inside.groups.items c.self.inside.current c.in-Some.place c.index_mut.result.now c.in-Some.is
    c.self.invariant c.index_mut.ensures.value c.args.row c.put.new.self c.in_ok-put-in-Some.ensures.ok

pub returns-in_ok-put-in-Some-clause-order : goal.returns-in_ok-put-in-Some-clause-order
returns-in_ok-put-in-Some-clause-order c =
    subst AreInOrder c.self.view_is (in_order c.self.inside.groups.items c.self.inside.current c.self.invariant)

pub returns-in_ok-put-in-Some-clause-ok : goal.returns-in_ok-put-in-Some-clause-ok
returns-in_ok-put-in-Some-clause-ok c =
    rw (← c.self.view_is) (put_is c.self.inside.groups.items c.self.inside.current c.in-Some.place
    c.index_mut.result.now c.in-Some.is c.self.invariant c.index_mut.ensures.value c.args.row c.put.new.self
    c.in_ok-put-in-Some.ensures.ok)
