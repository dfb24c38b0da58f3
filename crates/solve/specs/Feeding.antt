-- An engine that holds one formula, and what commands come to that build it.
use Rattle.std.specs.Prelude.{◌≡◌, ◌≤◌, List, ◌∷◌, None, length, []}
use Rattle.prefix.specs.Literal.{Literal}
use Rattle.prefix.specs.Scopes.{Scope}
use Rattle.frames.specs.State.{OpenFormula, empty_formula, empty_frame}
use Rattle.engine.specs.Keeping.{first_kept}
use Rattle.engine.specs.State.{EngineState}
use Rattle.truth.specs.declared.formula.Formula.{Formula}
use Rattle.solve.specs.Standing.{Standing}

-- these scopes and clauses in version 1, the clauses in frame 0, with no other frame and no assumption
abbrev pub formula_with : List Scope → List (List Literal) → OpenFormula
formula_with scopes clauses =
    record empty_formula { scopes = scopes; frames = record empty_frame { clauses = clauses } ∷ [] }

-- a formula as commands would build it: its clauses in frame 0, no other frame, no assumption
abbrev pub opened : Formula → OpenFormula
opened f = formula_with f.prefix f.clauses

-- what commands come to that build a formula
abbrev pub built : Formula → Standing
built f = record {
  script = record { formula = opened f; verdict = None; clauses = length f.clauses; solves = 0; greatest = 0 };
  witness = record { proof = []; values = [] };
}

-- The engine holds these scopes and clauses, accepted no more clauses than these, and has not decided any formula; a
-- search never begins anew, and keeps as many long learned rows as at first.
pub record HoldsFormula (scopes : List Scope) (clauses : List (List Literal)) (e : EngineState) : Type 0 where
  pub formula : e.formula ≡ formula_with scopes clauses
  pub undecided : e.verdict ≡ None
  pub counted : e.counts.clauses ≤ length clauses
  pub unsolved : e.counts.solves ≡ 0
  pub unbudgeted : e.counts.budget ≡ 0
  pub unsized : e.counts.vars ≡ 0
  pub restarts : e.restarts ≡ 0
  pub never : e.counts.restarts ≡ 0
  pub kept : e.kept_rows ≡ first_kept
