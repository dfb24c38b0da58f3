use Rattle.std.proofs.Common.{List, length, take, ap, ◌∙◌, arith}
use Rattle.std.proofs.lemmas.List.{length-take-le}
use Rattle.prefix.specs.declared.quant.Quant.TheVariants.{Exists}
use Rattle.prefix.specs.Scopes.{Scope}
use Rattle.clauses.specs.Clause.{ascending}
use Rattle.qcir.proofs.Scoping.{and_scope, ascending_permuted, new_permuted}
use Rattle.qcir.proofs.scopes.with_last.Goals as goal

pub add_scope-requires-clause-room : goal.add_scope-requires-clause-room
add_scope-requires-clause-room c =
    omega (
      arith,
      ap length c.in_ok-prefix.ensures.scopes,
      length-take-le c.args.count c.args.old.now c.requires.count,
      c.requires.room,
    )

pub add_scope-requires-clause-new : goal.add_scope-requires-clause-new
add_scope-requires-clause-new c =
    let first : List Scope = take c.args.count c.args.old.now in
    rw (c.in_ok-prefix.ensures.scopes, c.deref.ensures.value)
    (new_permuted first c.args.vars.items c.sort_unstable.new.self.items c.requires.new
    c.sort_unstable.ensures.permutation)

pub returns-clause-scopes : goal.returns-clause-scopes
returns-clause-scopes c =
    c.in_ok-add_scope.ensures.ok
    ∙ ap (λ p. and_scope p Exists (ascending c.deref.result.now)) c.in_ok-prefix.ensures.scopes
    ∙ ap (and_scope (take c.args.count c.args.old.now) Exists)
    (ap ascending c.deref.ensures.value
    ∙ ascending_permuted c.args.vars.items c.sort_unstable.new.self.items c.sort_unstable.ensures.permutation)
