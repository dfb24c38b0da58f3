-- Reasons that are made clean.
use Rattle.std.specs.Prelude.{◌≡◌, ℕ, suc, ◌+◌, ◌-◌, ◌*◌, ◌≤◌, Bool, IsTrue, IsFalse, List, [], ◌∷◌, length, map, Some, if◌then◌else◌}
use Rattle.prefix.specs.declared.quant.Quant.{Quant}
use Rattle.prefix.specs.Scopes.{Scope}
use Rattle.steps.specs.Counter.{Counter, after}
use Rattle.calculus.specs.Search.{Cause, Placed, Trail, before_on, cause_on}
use Rattle.calculus.specs.Search.Cause.{Assumed, Decided, Propagated}
use Rattle.trail.specs.State.{TrailState, is_marked}
use Rattle.derive.specs.State.{State, row_of}
use Rattle.clean.specs.Blockers.{IsBlocked}
use Rattle.clean.specs.Reasons.{HaveReasons}
use Rattle.clean.specs.Turns.{Resolves}

-- a cause without its step
abbrev pub kind_of : Cause → Cause
kind_of Assumed = Assumed
kind_of Decided = Decided
kind_of (Propagated id) = Propagated 0

-- a trail without its reasons
abbrev pub kinds_on : Trail → Trail
kinds_on trail = map (λ (p : Placed). record { literal = p.literal; cause = kind_of p.cause }) trail

-- how many reasons are marked
abbrev pub marks_in : List Bool → ℕ
marks_in [] = 0
marks_in (b ∷ rest) = if b then suc (marks_in rest) else marks_in rest

-- how many literals of a trail have no marked reason: no more reasons are made clean
abbrev pub marks_left : TrailState → ℕ
marks_left t = length t.placed - marks_in t.marks

-- that many reasons were made clean: they are marked, what was marked before stays as it was, and the trail is else
-- the same
pub record MarksMore (old new : TrailState) (made : ℕ) : Type 0 where
  pub kinds : kinds_on new.placed ≡ kinds_on old.placed
  pub depths : new.depths ≡ old.depths
  pub long : length new.marks ≡ length old.marks
  pub finished : new.finished ≡ old.finished
  pub assigned : new.assigned ≡ old.assigned
  pub restarts : new.restarts ≡ old.restarts
  pub room : new.room ≡ old.room
  pub allowed : new.allowed ≡ old.allowed
  pub stay : (x : ℕ) → IsTrue (is_marked old x)
      → IsTrue (is_marked new x) × (cause_on new.placed x ≡ cause_on old.placed x)
  pub others : (x : ℕ) → IsFalse (is_marked new x) → cause_on new.placed x ≡ cause_on old.placed x
  pub marked : marks_in new.marks ≡ marks_in old.marks + made

-- reasons were made clean, each with at most as many resolvents as the trail has literals; beside them at most that
-- many came in; and a step was counted for each of them, and for each reduction that came in with them
pub record CleansReasons (scopes : List Scope) (old new : State) (trail now : TrailState) (before later : Counter)
    (most : ℕ) : Type 0 where
  pub made : ℕ
  pub taken : ℕ
  pub reduced : ℕ
  pub marks : MarksMore trail now made
  pub few : taken ≤ made * length trail.placed + most
  pub counted : later ≡ after before (taken + reduced)
  pub resolves : Resolves scopes old new taken reduced

-- what is left after a stop: reasons that were made clean stay, each step that was live is live, and what came in is
-- legal, at most one resolvent or reduction for each of the steps that were counted, which are at most twice that many
pub record StopsCleaning (scopes : List Scope) (old new : State) (trail now : TrailState) (before later : Counter)
    (most : ℕ) : Type 0 where
  pub made : ℕ
  pub taken : ℕ
  pub came : ℕ
  pub reduced : ℕ
  pub marks : MarksMore trail now made
  pub few : taken ≤ 2 * most
  pub fewer : came + reduced ≤ taken
  pub counted : later ≡ after before taken
  pub resolves : Resolves scopes old new came reduced

-- what reasons the trail had it has, those of either side
abbrev pub KeepsReasons : List Scope → State → State → TrailState → TrailState → Type 0
KeepsReasons scopes old new trail now =
    (side : Quant) → HaveReasons side scopes old trail → HaveReasons side scopes new now

-- the reason of a variable isn't marked, and a literal of its row keeps one from reduction that was open before the
-- variable's place: a resolution is due before the reason is clean
pub record IsReasonBlocked (pivot : Quant) (scopes : List Scope) (d : State) (t : TrailState) (x : ℕ) : Type 0 where
  pub unmarked : IsFalse (is_marked t x)
  pub blocked : (id : ℕ) → cause_on t.placed x ≡ Some (Propagated id)
      → IsBlocked pivot scopes (before_on t.placed x) (row_of d id)
