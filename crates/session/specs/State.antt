-- A session, as contracts see it.
use Rattle.engine.specs.State.{EngineState}
use Rattle.solve.specs.Terms.{Terms}

-- the terms of each solve, and the engine
pub record SessionState : Type 0 where
  pub terms : Terms
  pub engine : EngineState
