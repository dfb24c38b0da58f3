use Rattle.std.proofs.Common.{ℕ, ◌≤◌, Contains, sym, subst}
use Rattle.prefix.specs.Scopes.{all_variables}
use Rattle.engine.specs.State.{EngineState}
use Rattle.engine.proofs.Bounding.{within_room}
use Rattle.engine.proofs.engine.Engine.room.Goals as goal

pub returns : goal.returns
returns c = subst (λ (e : EngineState). (x : ℕ) → Contains (all_variables e.formula.scopes) x → x ≤ c.room.result)
    c.self.view_is (λ x known. subst (λ (n : ℕ). x ≤ n) (sym c.room.ensures)
    (within_room c.self.inside.frames.formula.scopes c.self.inside.search c.self.invariant.tied.resting.intact x known))
