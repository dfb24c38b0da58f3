use Rattle.std.proofs.Common.{◌≡◌, ℕ, Bool, List, Option, Some, IfSome, ap₂, sym, ◌∙◌, subst}
use Rattle.prefix.specs.Literal.{Literal}
use Rattle.prefix.specs.Scopes.{IsAscending, Scope, level_of, quantifier_at}
use Rattle.calculus.specs.Rows.{variables_in}
use Rattle.calculus.proofs.RowLemmas.{same_true}
use Rattle.derive.specs.State.{State}
use Rattle.engine.specs.declared.verdict.Held.{Held}
use Rattle.engine.specs.Asks.{end_row_of, first_value, values_of}
use Rattle.engine.specs.Kept.{IsHeld}
use Rattle.engine.specs.Refusals.{winner_of}
use Rattle.engine.specs.Verdicts.{told as tell}
use Rattle.engine.proofs.Asking.{first_decide, level_is, value_told}
use Rattle.engine.proofs.Framing.{tied_legal}
use Rattle.engine.proofs.Telling.{before_ascends, holds}
use Rattle.engine.proofs.engine.Engine.value.Goals as goal

pub first_value-requires-clause-row : goal.first_value-requires-clause-row
first_value-requires-clause-row c =
    let f = c.self.inside.frames.formula in
    let d = c.self.inside.search.derivation in
    let held = c.in-Some.held in
    let tied = c.self.invariant.tied in
    let is = subst (λ (v : Option Held). IfSome v (IsHeld f d)) c.in-Some.is c.self.invariant.held in
    let distinct = c.prefix-prefix.ensures.valid.distinct in
    subst (λ (s : State). IsAscending (variables_in (end_row_of s held.verdict.end))) (sym c.derivation.ensures)
    (before_ascends f d held.assumed held.verdict distinct (tied_legal f c.self.inside.search tied) is.found
    c.end_rows_give_proofs.ensures c.proofs_decide.ensures
    c.steps_are_listed.ensures)

abbrev literal : ℕ → Bool → Literal
literal x b = record { variable = x; positive = b }

pub returns-else-not-is_won-clause-value : goal.returns-else-not-is_won-clause-value
returns-else-not-is_won-clause-value c =
    let f = c.self.inside.frames.formula in
    let d = c.self.inside.search.derivation in
    let held = c.in-Some.held in
    let tied = c.self.invariant.tied in
    let is = subst (λ (v : Option Held). IfSome v (IsHeld f d)) c.in-Some.is c.self.invariant.held in
    let x = c.args.var in
    let over = c.in-Some-outermost.ensures in
    let scopes = c.prefix-prefix.ensures.value in
    let first : level_of f.scopes x ≡ Some 1 = subst (λ (ss : List Scope). level_of ss x ≡ Some 1) scopes
    (level_is (level_of c.prefix-prefix.result.now x) over.0) in
    let won = same_true (quantifier_at c.prefix-prefix.result.now 1) (winner_of held.verdict.truth)
    (sym c.is_won.ensures ∙ c.if-not-is_won.false) in
    let told = value_told f d held c.prefix-prefix.ensures.valid.distinct (tied_legal f c.self.inside.search tied)
    is.found c.end_rows_give_proofs.ensures c.proofs_decide.ensures
    c.steps_are_listed.ensures c.steps_have_cores.ensures c.plays_exist.ensures c.last_steps_decide.ensures x first
    (subst (λ (ss : List Scope). quantifier_at ss 1 ≡ Some (winner_of held.verdict.truth)) scopes won) in
    let value : c.first_value.result ≡ values_of f (tell d held) x = c.first_value.ensures
    ∙ ap₂ (λ (s : State) (v : ℕ). first_value s held v) c.derivation.ensures over.1 ∙ told in
    rw (← c.self.view_is, c.in-Some.is)
    (c.new.ensures ∙ ap₂ literal over.1 value)

pub returns-else-not-is_won-clause-decides : goal.returns-else-not-is_won-clause-decides
returns-else-not-is_won-clause-decides c =
    let f = c.self.inside.frames.formula in
    let d = c.self.inside.search.derivation in
    let held = c.in-Some.held in
    let tied = c.self.invariant.tied in
    let is = subst (λ (v : Option Held). IfSome v (IsHeld f d)) c.in-Some.is c.self.invariant.held in
    let distinct = c.prefix-prefix.ensures.valid.distinct in
    let won = same_true (quantifier_at c.prefix-prefix.result.now 1) (winner_of held.verdict.truth)
    (sym c.is_won.ensures ∙ c.if-not-is_won.false) in
    let facts = holds f d held distinct (tied_legal f c.self.inside.search tied) is.found
    c.end_rows_give_proofs.ensures c.proofs_decide.ensures c.steps_are_listed.ensures in
    rw (← c.self.view_is, c.in-Some.is) (first_decide f (tell d held) distinct facts c.plays_exist.ensures
    c.first_values_decide.ensures (subst (λ (ss : List Scope). quantifier_at ss 1 ≡ Some (winner_of held.verdict.truth))
    c.prefix-prefix.ensures.value won))
