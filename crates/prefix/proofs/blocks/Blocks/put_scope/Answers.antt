use Rattle.std.proofs.Common.{◌≡◌, ◌≤◌, length, [], ap, sym, arith, ◌∙◌}
use Rattle.std.specs.Prelude.{insert}
use Rattle.std.proofs.lemmas.Bool.{cond-true}
use Rattle.std.proofs.lemmas.List.{length_push}
use Rattle.prefix.specs.Blocks.{Ordered}
use Rattle.prefix.proofs.BlockLemmas.{order_more, scopes_put}
use Rattle.prefix.proofs.blocks.Blocks.put_scope.Goals as goal

-- the ids then
moved : (c : goal.After-insert) → c.insert.new.self.items ≡ insert c.self.inside.order.items c.args.place
    (length c.self.inside.blocks.items)
moved c =
    c.insert.ensures.items ∙ cond-true _ _ _ (c.insert.ensures.succeeds (omega (arith, c.in_ok-reserve.ensures.ok)))
    ∙ ap (λ is. insert is c.args.place c.len-id.result) c.reserve.ensures.items
    ∙ ap (insert c.self.inside.order.items c.args.place) (c.len-id.ensures ∙ c.self.inside.blocks.ok.0)

pub invariant_of-self-2 : goal.invariant_of-self-2
invariant_of-self-2 c =
    let count : length c.args.self.now.ids ≡ length c.self.inside.order.items = ap (λ (o : Ordered). length o.ids)
    (sym c.self.view_is) in
    let within : c.args.place ≤ length c.self.inside.order.items = omega (arith, count, c.requires.place) in
    rw (moved c, c.in_ok-push.ensures.items, length_push) (order_more _ _ c.args.place within c.self.invariant)

pub returns-clause-scopes : goal.returns-clause-scopes
returns-clause-scopes c =
    scopes_put c.self.inside.blocks.items c.push.new.self.items c.self.inside.order.items c.insert.new.self.items
    c.args.place _ c.self.invariant c.in_ok-push.ensures.items (moved c) c.new.ensures.empty
    ∙ ap (λ (o : Ordered). insert o.scopes c.args.place (record { quantifier = c.args.quant; variables = [] }))
    c.self.view_is
