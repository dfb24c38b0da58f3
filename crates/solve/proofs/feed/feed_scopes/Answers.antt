use Rattle.std.proofs.Common.{◌≡◌, ◌+◌, ◌-◌, ◌∙◌, ◌≤◌, ◌∷◌, ◌++◌, [], sym, ap, subst, arith, length, take, IsTrue, true, false}
use Rattle.std.specs.Prelude.{is_some}
use Rattle.frames.specs.State.{OpenFormula}
use Rattle.solve.specs.Feeding.{HoldsFormula}
use Rattle.solve.proofs.Feeding.{and_scope, scope_ascending, scope_new, scopes_fed}
use Rattle.solve.proofs.feed.feed_scopes.Goals.{in-Some+in_ok-feed_scope, in_default}
use Rattle.solve.proofs.feed.feed_scopes.Goals as goal

pub feed_scope-requires-clause-new : goal.feed_scope-requires-clause-new
feed_scope-requires-clause-new c =
    let ss = c.args.prefix.now in
    let last : c.loop-number.number ≤ length ss =
    omega (arith, c.loop-number-test.true, c.scopes-number-end.ensures.value) in
    rw (c.vars_of.ensures, ap (λ (f : OpenFormula). f.scopes) c.loop-number.invariant.formula)
    (scope_new ss c.loop-number.number c.scopes-number-end.ensures.valid c.loop-number.auto.number last)

pub feed_scope-requires-clause-ascending : goal.feed_scope-requires-clause-ascending
feed_scope-requires-clause-ascending c =
    rw c.vars_of.ensures (scope_ascending c.args.prefix.now c.loop-number.number c.scopes-number-end.ensures.valid)

pub loop-number-preserved : goal.loop-number-preserved
loop-number-preserved c =
    let ss = c.args.prefix.now in
    let number = c.loop-number.number in
    let last : number ≤ length ss = omega (arith, c.loop-number-test.true, c.scopes-number-end.ensures.value) in
    elim c.match-scope_quant.branch [
      | in-Some+in_ok-feed_scope w ↦
          let grown : c.loop-number.engine.formula.scopes
          ++ record { quantifier = w.in-Some.quant; variables = w.vars_of.result.now.keys } ∷ []
          ≡ take (number + 1 - 1) ss =
          ap (λ (f : OpenFormula). and_scope f.scopes w.in-Some.quant w.vars_of.result.now.keys)
          c.loop-number.invariant.formula
          ∙ ap (and_scope (take (number - 1) ss) w.in-Some.quant) w.vars_of.ensures
          ∙ sym (scopes_fed ss number w.in-Some.quant c.loop-number.auto.number
          (sym w.in-Some.is ∙ c.scope_quant.ensures.value)) in
          subst (HoldsFormula (take (number + 1 - 1) ss) []) (sym w.engine-is)
          (subst (λ scopes. HoldsFormula scopes [] w.feed_scope.new.engine) grown w.in_ok-feed_scope.ensures.ok)
      | in_default w ↦
          absurd (let e : false ≡ true = subst (λ o. IsTrue (is_some o)) w.in_default.is
          (c.scope_quant.ensures.found.1 (c.loop-number.auto.number, last)) in cc)
    ]
