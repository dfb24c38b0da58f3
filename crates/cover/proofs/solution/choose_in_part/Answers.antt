use Rattle.std.proofs.Common.{List, ◌++◌, ◌+◌, map, take, sym, subst}
use Rattle.std.proofs.lemmas.List.{append-nil, take_all}
use Rattle.calculus.specs.Rows.{Row}
use Rattle.calculus.specs.Search.{value_on}
use Rattle.cover.specs.Choices.{AreChosenBut}
use Rattle.cover.proofs.Choosing.{existential_skip, existential_takes, one_listed, one_longer}
use Rattle.cover.proofs.solution.choose_in_part.Goals as goal

pub loop-clause-init : goal.loop-clause-init
loop-clause-init c before was =
    subst (λ (clauses : List Row). AreChosenBut c.args.prefix.now (value_on c.args.trail.now.placed)
    (map (λ row. row.now) c.args.others.now.items) clauses c.args.table.now.items) (sym (append-nil before)) was

pub loop-clause-preserved-in-None : goal.loop-clause-preserved-in-None
loop-clause-preserved-in-None c before was =
    let scopes = c.args.prefix.now in
    let values = value_on c.args.trail.now.placed in
    let part = c.args.part.now in
    let i = c.loop-clause.clause-index in
    let table = c.loop-clause.table.items in
    let clause = c.clause-item.result in
    let others = map (λ row. row.now) c.loop-clause.others.items in
    let longer = one_longer before part i clause c.loop-clause-test.true c.clause-item.is in
    let none = rw c.lits.ensures at c.in-None.ensures in
    let now =
    existential_skip scopes values (before ++ take i part) others clause table none
    (c.loop-clause.invariant before was) in
    rw (one_listed _ _ _ c.in_ok-push-in-None.ensures.items (λ row. row.now), longer) now

pub loop-clause-preserved : goal.loop-clause-preserved
loop-clause-preserved c before was =
    let scopes = c.args.prefix.now in
    let values = value_on c.args.trail.now.placed in
    let part = c.args.part.now in
    let i = c.loop-clause.clause-index in
    let clause = c.clause-item.result in
    let others = map (λ row. row.now) c.loop-clause.others.items in
    let taken = rw c.lits.ensures at c.in-Some.ensures in
    subst (λ (clauses : List Row). AreChosenBut scopes values others clauses c.choose.new.table.items)
    (sym (one_longer before part i clause c.loop-clause-test.true c.clause-item.is))
    (existential_takes scopes values (before ++ take i part) others clause c.loop-clause.table.items
    c.choose.new.table.items c.in-Some.lit taken c.in_ok-choose-in-Some.ensures (c.loop-clause.invariant before was))

pub returns : goal.returns
returns c before was =
    subst (λ (part : List Row). AreChosenBut c.args.prefix.now (value_on c.args.trail.now.placed)
    (map (λ row. row.now) c.loop-clause.others.items) (before ++ part) c.loop-clause.table.items)
    (take_all c.loop-clause.clause-index c.args.part.now c.loop-clause-test.false) (c.loop-clause.invariant before was)
