use Rattle.std.proofs.Common.{◌≡◌, ◌∷◌, ◌++◌, [], drop, length, take}
use Rattle.solve.specs.Feeding.{HoldsFormula}
use Rattle.solve.proofs.feed.feed_scope.Given as goal

-- the engine holds the scope with the variables so far, and the others follow
abbrev pub invariant-loop-var : goal.invariant-loop-var
invariant-loop-var l = HoldsFormula (l.fn.engine.formula.scopes
    ++ record { quantifier = l.fn.quant; variables = take (length l.yielded) l.vars.keys } ∷ []) [] l.engine
    × (l.var-iterator ≡ drop (length l.yielded) l.vars.keys)
