-- Another number of restarts, and of rows that may be kept.
use Rattle.std.proofs.Common.{◌≡◌, ℕ, refl, ap, arith}
use Rattle.std.specs.Prelude.{max}
use Rattle.engine.specs.Keeping.{first_kept}
use Rattle.engine.specs.State.{EngineState}
use Rattle.solve.specs.Standing.{Standing}
use Rattle.solve.specs.Holding.{Holds}
use Rattle.solve.specs.Terms.{Terms, terms_of, with_kept, with_restarts}

-- it is no change
pub set_holds : (terms : Terms) (e : EngineState) (s : Standing) (restarts : ℕ) → Holds terms e s
    → Holds (with_restarts restarts terms) (record e { restarts = restarts }) s
set_holds terms e s restarts holds = record {
  formula = holds.formula;
  verdict = holds.verdict;
  proof = holds.proof;
  values = holds.values;
  clauses = holds.clauses;
  solves = holds.solves;
  budgets = holds.budgets;
  restarts = refl;
  most_restarts = let low = holds.most_restarts in omega (arith, low);
  kept = holds.kept;
  variables = holds.variables;
}

pub kept_holds : (terms : Terms) (e : EngineState) (s : Standing) (kept : ℕ) → Holds terms e s
    → Holds (with_kept kept terms) (record e { kept_rows = kept }) s
kept_holds terms e s kept holds = record {
  formula = holds.formula;
  verdict = holds.verdict;
  proof = holds.proof;
  values = holds.values;
  clauses = holds.clauses;
  solves = holds.solves;
  budgets = holds.budgets;
  restarts = holds.restarts;
  most_restarts = holds.most_restarts;
  kept = refl;
  variables = holds.variables;
}

-- the first ones that are set
pub first_terms : (budget restarts kept : ℕ)
    → with_kept kept (with_restarts restarts (terms_of budget 0 first_kept)) ≡ terms_of budget restarts kept
first_terms budget restarts kept =
    ap (λ g. record { budget = budget; restarts = restarts; greatest = g; kept = kept })
    (let same : max 0 restarts ≡ restarts = omega arith in same)
