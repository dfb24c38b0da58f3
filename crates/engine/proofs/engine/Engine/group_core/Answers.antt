use Rattle.std.proofs.Common.{◌≡◌, ◌≤◌, ◌∙◌, ℕ, ap, sym, subst, List, Ok, Some, option_map}
use Rattle.std.specs.Prelude.{Contains}
use Rattle.std.specs.List.{AllByRecursion}
use Rattle.prefix.specs.Scopes.{Scope, all_variables}
use Rattle.calculus.specs.Rows.{IsRow}
use Rattle.cores.specs.Cores.{Group as Part, grouped_in}
use Rattle.engine.specs.declared.group_core.CoreRefusal.{CoreRefusal}
use Rattle.engine.specs.State.{EngineState}
use Rattle.engine.specs.Verdicts.{told}
use Rattle.engine.proofs.Bounding.{within_room}
use Rattle.engine.proofs.Coring.{all_parts, cored}
use Rattle.engine.proofs.engine.Engine.group_core.Goals as goal

pub core_of-requires-clause-room : goal.core_of-requires-clause-room
core_of-requires-clause-room c = λ x known.
    subst (λ (n : ℕ). x ≤ n) (sym c.room.ensures)
    (within_room c.self.inside.frames.formula.scopes c.self.inside.search c.self.invariant.tied.resting.intact x
    (subst (λ (scopes : List Scope). Contains (all_variables scopes) x) c.prefix.ensures.value known))

pub core_of-requires-clause-parts : goal.core_of-requires-clause-parts
core_of-requires-clause-parts c =
    let f = c.self.inside.frames.formula in
    let all = all_parts (IsRow f.scopes) f.groups c.groups_len-groups.ensures.rows in
    subst (λ (scopes : List Scope). AllByRecursion (IsRow scopes) (grouped_in c.deref.result.now))
    (sym c.prefix.ensures.value)
    (subst (λ (parts : List Part). AllByRecursion (IsRow f.scopes) (grouped_in parts))
    (sym (c.deref.ensures.value ∙ c.in_ok-parts.ensures)) all)

pub returns-clause-core : goal.returns-clause-core
returns-clause-core c =
    let f = c.args.self.now.formula in
    let v = told c.self.inside.search.derivation c.in-Some.held in
    let there : c.args.self.now.verdict ≡ Some v = sym (ap (λ (e : EngineState). e.verdict) c.self.view_is)
    ∙ ap (option_map (told c.self.inside.search.derivation)) c.in-Some.is in
    cored {E = CoreRefusal} (Ok c.in_ok-core.core) f c.args.self.now.verdict v there c.verdict-facts.ensures.facts
    c.if-held.false c.cores_are_minimal.ensures
