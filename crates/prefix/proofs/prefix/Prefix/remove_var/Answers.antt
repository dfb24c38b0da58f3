use Rattle.std.proofs.Common.{◌≡◌, ◌+◌, Some, suc, sym, ap, ◌∙◌, true, arith}
use Rattle.prefix.specs.Scopes.{all_variables, is_among, level_of, without_variable}
use Rattle.prefix.proofs.QuantLemmas.{quant_within, quants_without}
use Rattle.prefix.proofs.RemovalLemmas.{index_within, level-without, removal_keeps_order, table_taken, without_absent, without_is}
use Rattle.prefix.proofs.prefix.Prefix.remove_var.Goals as goal

pub returns-in_default-clause-value : goal.returns-in_default-clause-value
returns-in_default-clause-value c = without_absent c.args.v c.args.self.now (sym c.in_default.ensures.found)

pub index_mut-requires : goal.index_mut-requires
index_mut-requires c =
    let level : level_of c.self.inside.blocks.scopes c.args.v ≡ Some c.in-Some.scope = ap (λ ss. level_of ss c.args.v)
    c.self.view_is ∙ sym c.in-Some.ensures.value in
    rw c.self.inside.homes.ok.0
    (index_within c.self.inside.blocks.scopes c.self.inside.blocks.ids c.self.inside.numbers.items
    c.self.inside.homes.items c.self.inside.count
    c.index.result c.args.v c.in-Some.scope c.index.ensures.place c.self.invariant.0 level)

pub invariant_of-self : goal.invariant_of-self
invariant_of-self c =
    let level : level_of c.self.inside.blocks.scopes c.args.v ≡ Some c.in-Some.scope = ap (λ ss. level_of ss c.args.v)
    c.self.view_is ∙ sym c.in-Some.ensures.value in
    let among : is_among c.args.v (all_variables c.self.inside.blocks.scopes) ≡ true =
    ap (λ ss. is_among c.args.v (all_variables ss)) c.self.view_is ∙ sym c.in-Some.ensures.found in
    let table =
    table_taken c.self.inside.blocks.scopes c.self.inside.blocks.ids c.self.inside.numbers.items
    c.self.inside.homes.items c.self.inside.count c.index.result c.args.v c.in-Some.scope c.index.ensures.place
    c.self.invariant.0 level
    c.take_out.new.self.scopes c.take_out.new.self.ids among
    (without_is c.self.inside.blocks.scopes c.take_out.new.self.scopes c.in-Some.scope
    c.args.v c.self.invariant.0.distinct level c.in-Some.ensures.within.0 c.take_out.ensures.scopes)
    c.take_out.ensures.ids in
    let next : c.index-2.result + 1 ≡ c.args.v = c.index-2.ensures.place in
    let is_next : c.args.v ≡ suc c.index-2.result = omega arith in
    let taken =
    without_is c.self.inside.blocks.scopes c.take_out.new.self.scopes c.in-Some.scope c.args.v
    c.self.invariant.0.distinct level c.in-Some.ensures.within.0 c.take_out.ensures.scopes in
    let room =
    quant_within c.self.inside.blocks.scopes c.self.inside.quants.items c.index-2.result c.args.v
    c.self.invariant.1 next among in
    let quants =
    quants_without c.self.inside.blocks.scopes c.self.inside.quants.items c.index-2.result room
    c.self.invariant.1 in
    (table, rw (taken, is_next) quants)

pub index_mut-requires-2 : goal.index_mut-requires-2
index_mut-requires-2 c =
    let among : is_among c.args.v (all_variables c.self.inside.blocks.scopes) ≡ true =
    ap (λ ss. is_among c.args.v (all_variables ss)) c.self.view_is ∙ sym c.in-Some.ensures.found in
    rw c.self.inside.quants.ok.0 (quant_within c.self.inside.blocks.scopes c.self.inside.quants.items
    c.index-2.result c.args.v c.self.invariant.1 c.index-2.ensures.place among)

pub returns-clause-value : goal.returns-clause-value
returns-clause-value c =
    let level : level_of c.self.inside.blocks.scopes c.args.v ≡ Some c.in-Some.scope = ap (λ ss. level_of ss c.args.v)
    c.self.view_is ∙ sym c.in-Some.ensures.value in
    without_is c.self.inside.blocks.scopes c.take_out.new.self.scopes c.in-Some.scope c.args.v
    c.self.invariant.0.distinct level c.in-Some.ensures.within.0 c.take_out.ensures.scopes
    ∙ ap (without_variable c.args.v) c.self.view_is

pub returns-clause-levels : goal.returns-clause-levels
returns-clause-levels c = λ w. ap (λ ss. level_of ss w) (returns-clause-value c) ∙ level-without c.args.self.now
    c.args.v w

pub returns-clause-kept : goal.returns-clause-kept
returns-clause-kept c = rw (returns-clause-value c) (removal_keeps_order c.args.self.now c.args.v)
