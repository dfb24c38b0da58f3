-- Lessons without literals that others imply.
use Rattle.std.proofs.Common.{◌≡◌, ℕ, ◌+◌, ◌<◌, List, Contains, Some, subst, ⊎_elim, arith}
use Rattle.prefix.specs.declared.quant.Quant.{Quant}
use Rattle.prefix.specs.Literal.{Literal}
use Rattle.prefix.specs.Scopes.{Scope}
use Rattle.steps.specs.Counter.{Counter}
use Rattle.calculus.specs.Rows.{IsRow, Row}
use Rattle.calculus.specs.Search.{IsLast, IsOrderedTrail, Trail, cause_on, decision_level_on}
use Rattle.calculus.specs.Search.Cause.{Decided}
use Rattle.calculus.proofs.Trails.{decision_level_least}
use Rattle.trail.specs.State.{TrailState}
use Rattle.derive.specs.State.{State}
use Rattle.clean.specs.Cleanable.{IsCleanable, StaysCleanable}
use Rattle.clean.specs.Marks.{CleansReasons}
use Rattle.clean.specs.Reasons.{IsReducedStep}
use Rattle.clean.proofs.Circling.{cleans_none}
use Rattle.clean.proofs.Looping.{cleans_more}
use Rattle.analyse.specs.Fronts.{IsBadOnFront}
use Rattle.analyse.specs.Lessons.{MakesLast}
use Rattle.analyse.specs.Levels.{IsLevelBelow, MakesUnitFirstAt}
use Rattle.analyse.proofs.Fronting.{decided_stays, lower_known}
use Rattle.analyse.proofs.Leveling.{level_makes_unit}

module _ (pivot : Quant) (scopes : List Scope) (trail : Trail) (row : Row) (e : Literal) where
  -- a part of a row that makes a literal unit does so too
  pub part_makes : (part : Row) → MakesLast pivot scopes trail row e → Contains part e
      → ((l : Literal) → Contains part l → Contains row l) → MakesLast pivot scopes trail part e
  part_makes part makes stands within = record {
    on = record {
      end = makes.on.end;
      bad = λ l i. makes.on.bad l (within l i);
      assumed = makes.on.assumed;
    };
    last = record {
      stands = stands;
      pivot_type = makes.last.pivot_type;
      last = λ l i p. makes.last.last l (within l i) p;
    };
    above = makes.above;
    below = λ l i must. makes.below l (within l i) must;
  }

  -- at the least level
  pub makes_first : IsRow scopes row → MakesLast pivot scopes trail row e → (b : ℕ)
      → IsLevelBelow pivot scopes trail e row b → MakesUnitFirstAt pivot scopes trail row e b
  makes_first is_row makes b below = level_makes_unit pivot scopes trail row e is_row makes.on makes.last b below
      (⊎_elim
      (λ none. let above = makes.above in omega arith)
      (λ at. let low = (makes.below at.0 at.1 at.2).1 in let is = at.3 in omega arith)
      below.reached)

  -- a decision does, and what is below a level
  module _ (is_row : IsRow scopes row) (on : IsBadOnFront pivot scopes trail row)
      (last : IsLast pivot scopes trail row e) where
    pub decided_makes : IsOrderedTrail scopes trail → cause_on trail e.variable ≡ Some Decided
        → MakesLast pivot scopes trail row e
    decided_makes ordered decided = record {
      on = on;
      last = last;
      above = decision_level_least 0 trail e.variable decided;
      below = λ l i must. decided_stays pivot scopes trail on.end row e on.bad last ordered is_row decided l i must;
    }

    pub level_makes : (b : ℕ) → IsLevelBelow pivot scopes trail e row b → b < decision_level_on trail e.variable
        → MakesLast pivot scopes trail row e
    level_makes b below low = record {
      on = on;
      last = last;
      above = omega arith;
      below = λ l i must.
          let bound = below.bound l i must in
          let lower : decision_level_on trail l.variable < decision_level_on trail e.variable = omega arith in
          (lower_known pivot scopes trail on.end row e on.bad last l i lower, lower);
    }

-- steps that came in after others
pub cleans_twice : (scopes : List Scope) (old now new : State) (t u : TrailState) (before spent later : Counter)
    (taken left most : ℕ) → taken + left ≡ most → CleansReasons scopes old now t u before spent taken
    → CleansReasons scopes now new u u spent later left → CleansReasons scopes old new t u before later most
cleans_twice scopes old now new t u before spent later taken left most sum first second =
    subst (λ (n : ℕ). CleansReasons scopes old new t u before later n) sum
    (cleans_more scopes old now new t u u before spent later taken left first second)

-- what stays in order twice
pub order_twice : (scopes : List Scope) (old now new : State) (t u w : TrailState)
    → StaysCleanable scopes old now t u → StaysCleanable scopes now new u w → StaysCleanable scopes old new t w
order_twice scopes old now new t u w first second = record {
  rows = second.rows;
  legal = second.legal;
  trail = second.trail;
  reasons = λ side have. second.reasons side (first.reasons side have);
}

-- the state of the loop
pub record IsShortening (pivot : Quant) (scopes : List Scope) (old now : State) (t : TrailState)
    (before spent : Counter) (row taken : ℕ) : Type 0 where
  pub cleans : CleansReasons scopes old now t t before spent taken
  pub order : StaysCleanable scopes old now t t
  pub step : IsReducedStep pivot scopes now row

pub shortening_starts : (pivot : Quant) (scopes : List Scope) (d : State) (t : TrailState) (c : Counter) (row : ℕ)
    → IsCleanable pivot scopes d t → IsReducedStep pivot scopes d row → IsShortening pivot scopes d d t c c row 0
shortening_starts pivot scopes d t c row was step = record {
  cleans = cleans_none scopes d t c was.rows;
  order = record { rows = was.rows; legal = was.legal; trail = was.trail; reasons = λ side have. have };
  step = step;
}

pub shortening_goes_on : (pivot : Quant) (scopes : List Scope) (old now new : State) (t : TrailState)
    (before spent later : Counter) (row taken id : ℕ) → IsShortening pivot scopes old now t before spent row taken
    → CleansReasons scopes now new t t spent later 1 → StaysCleanable scopes now new t t
    → IsReducedStep pivot scopes new id → IsShortening pivot scopes old new t before later id (taken + 1)
shortening_goes_on pivot scopes old now new t before spent later row taken id is cleans order step = record {
  cleans = cleans_more scopes old now new t t t before spent later taken 1 is.cleans cleans;
  order = order_twice scopes old now new t t t is.order order;
  step = step;
}

pub still_cleanable : (pivot : Quant) (scopes : List Scope) (old now : State) (t : TrailState)
    → IsCleanable pivot scopes old t → StaysCleanable scopes old now t t → IsCleanable pivot scopes now t
still_cleanable pivot scopes old now t was stays = record {
  rows = stays.rows;
  legal = stays.legal;
  trail = stays.trail;
  reasons = stays.reasons pivot was.reasons;
}
