-- What a call says that makes an engine.
use Rattle.std.specs.Prelude.{◌≡◌, ◌≢◌, ℕ, Bool, true}
use Rattle.engine.specs.State.{EngineState}
use Rattle.qbf_c.specs.Codes.{accepted, no_memory}

-- the handle holds this engine, or there is no memory and the handle is as it was
pub record Makes (engine : EngineState) (Same : Type 0) (live : Bool) (now : EngineState) (code : ℕ) : Type 0 where
  pub live_now : code ≡ accepted → live ≡ true
  pub made : code ≡ accepted → now ≡ engine
  pub same : code ≢ accepted → Same
  pub memory : code ≢ accepted → code ≡ no_memory
