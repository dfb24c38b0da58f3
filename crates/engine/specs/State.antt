-- An engine, as contracts see it.
use Rattle.std.specs.Prelude.{ℕ, Bool, ◌==◌, if◌then◌else◌, List, [], length, Option, None}
use Rattle.prefix.specs.Literal.{Literal}
use Rattle.calculus.specs.Rows.{Row}
use Rattle.calculus.specs.Derivations.{Inference}
use Rattle.versions.specs.declared.version.Version.{Version}
use Rattle.versions.specs.declared.version.Version.TheVariants.{One}
use Rattle.frames.specs.State.{OpenFormula, new_formula}
use Rattle.frames.specs.Commands.{Command, formula_after}
use Rattle.engine.specs.declared.counts.Counts.{Counts}
use Rattle.engine.specs.Counting.{no_counts}
use Rattle.engine.specs.Keeping.{first_kept}

-- a verdict that is kept: the truth, the assumptions that it was found under, its proof, the step that this ends in, by
-- its id and with its row, and how many long learned rows its solve might keep
pub record VerdictState : Type 0 where
  pub truth : Bool
  pub assumptions : List Literal
  pub proof : List Inference
  pub end : ℕ
  pub row : Row
  pub kept : ℕ

-- the open formula with its assumptions, the verdict where no change came after it, the counts, how often a solve may
-- begin anew, how many long learned rows it may keep, and how many are attached
pub record EngineState : Type 0 where
  pub formula : OpenFormula
  pub verdict : Option VerdictState
  pub counts : Counts
  pub restarts : ℕ
  pub kept_rows : ℕ
  pub kept_long : ℕ

-- an engine of no scopes and no clauses, for scripts of a version
abbrev pub engine_of : Version → EngineState
engine_of version = record {
  formula = new_formula version;
  verdict = None;
  counts = no_counts;
  restarts = 0;
  kept_rows = first_kept;
  kept_long = 0;
}

-- the same of version 1
abbrev pub new_engine : EngineState
new_engine = engine_of One

-- an engine after an accepted change of its formula: there is no verdict
abbrev pub changed : EngineState → Command → EngineState
changed e command = record e { formula = formula_after e.formula command; verdict = None }

-- an engine without assumptions: where one stood that is a change, so that there is no verdict
abbrev pub forgotten : EngineState → EngineState
forgotten e = if length e.formula.assumptions == 0 then e
    else record e { formula = record e.formula { assumptions = [] }; verdict = None }
