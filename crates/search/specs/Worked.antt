-- Worked values: how steps are counted, when a solve stops, what is found and due, what is kept, and which finishes and
-- reductions are live, with rows of both sides.
use Rattle.std.specs.Prelude.{◌≡◌, ℕ, true, List, [], ◌∷◌, Option, Some, None, length, replicate, ◌++◌}
use Rattle.prefix.specs.declared.quant.Quant.{Quant}
use Rattle.prefix.specs.declared.quant.Quant.TheVariants.{Exists, Forall}
use Rattle.prefix.specs.Scopes.{Scope}
use Rattle.prefix.specs.Sides.{opposite}
use Rattle.steps.specs.Counter.{Counter}
use Rattle.calculus.specs.Derivations.Why.{FinishedFrom, Given, ReducedFrom}
use Rattle.calculus.specs.Rows.{Row}
use Rattle.calculus.specs.Search.{Trail}
use Rattle.calculus.specs.Search.Cause.{Assumed, Decided, Propagated}
use Rattle.calculus.specs.Worked.{existential, minus, plus}
use Rattle.calculus.specs.WorkedSearch.{alternating, bad, three}
use Rattle.trail.specs.State.{Account, TrailState}
use Rattle.trail.specs.declared.allowed.Allowed.TheVariants.{Anything, NoDecision}
use Rattle.decide.specs.Memory.{Memory}
use Rattle.cover.specs.Worked.{lone, mixed, three_scopes}
use Rattle.derive.specs.State.{Note, OpenClause, State, with_step}
use Rattle.clean.specs.Turns.{reductions_in}
use Rattle.watch.specs.Links.{mark_of}
use Rattle.watch.specs.State.{new_watch}
use Rattle.search.specs.declared.outcome.Found.TheVariants.{Unit as IsUnit, Bad, Quiet}
use Rattle.search.specs.declared.outcome.SolveStop.TheVariants.{Spent}
use Rattle.search.specs.Changing.{AddsClause, AddsClauses, IsRoomy, WatchesMany, room_of}
use Rattle.search.specs.Counting.{IsBounded, IsCounted, ReducesFew, size_of}
use Rattle.search.specs.Finishes.{GainsNoFinish, HasNoFinish, IsFinishId, finishes_in}
use Rattle.search.specs.Forcing.{HasNoCubes, IsForced}
use Rattle.search.specs.Moves.{IsDue, IsFound, IsInitialCube, IsMatrix}
use Rattle.search.specs.State.{AreAttached, AreMarked, IsAtRest, SearchState, rows_of}
use Rattle.search.specs.Stops.{IsQuickStop, IsSpent}

-- the links of a row that is attached to the watch of a side, and of one that is attached to none
abbrev pub attached_to : Quant → List (Option ℕ)
attached_to side = replicate 6 None ++ Some (mark_of side) ∷ None ∷ []

abbrev pub detached : List (Option ℕ)
detached = replicate 8 None

-- the row 1 2 3 of a side, as the step 0, with these links
abbrev pub three_of : Quant → List (Option ℕ) → State
three_of pivot links = record {
  notes = Some (record { side = pivot; why = Given; tag = 0 }) ∷ [];
  rows = Some (Some (record { literals = three; links = links }) ∷ []);
}

-- the row 1 2 3 of a side, with its finish as the step 1
abbrev pub finished_three : Quant → State
finished_three pivot =
    with_step (three_of pivot detached) (record { side = pivot; why = FinishedFrom 0; tag = 0 }) []

-- the same with a reduction in the place of the finish
abbrev pub reduced_three : Quant → State
reduced_three pivot =
    with_step (three_of pivot detached) (record { side = pivot; why = ReducedFrom 0; tag = 0 }) []

-- an open clause with this id, of a frame
abbrev pub framed : ℕ → ℕ → Row → OpenClause
framed id frame row = record { id = id; frame = frame; row = row }

-- a trail of these literals, each of which was assigned once
abbrev pub trail_of : Trail → TrailState
trail_of placed = record {
  placed = placed;
  depths = [];
  marks = [];
  finished = [];
  assigned = length placed;
  restarts = 0;
  room = 3;
  allowed = Anything;
}

-- a search with this derivation and this trail
abbrev pub search_of : State → TrailState → SearchState
search_of d trail = record {
  derivation = d;
  trail = trail;
  clauses = new_watch;
  cubes = new_watch;
  signs = [];
  watched = 0 ∷ [];
  joined = true;
  long = 0;
}

-- a search over the row 1 2 3, with this trail
abbrev pub search_over : Quant → List (Option ℕ) → Trail → SearchState
search_over pivot links placed = search_of (three_of pivot links) (trail_of placed)

-- a search whose trail has room for three variables, with room for so many in the watches, and with these signs
abbrev pub with_rooms : ℕ → ℕ → Memory → SearchState
with_rooms clauses cubes signs = record (search_over Exists detached []) {
  clauses = record new_watch { room = clauses };
  cubes = record new_watch { room = cubes };
  signs = signs;
}

-- 1 and 2 are bad, for which 3 is unit
abbrev pub two_bad : Quant → Trail
two_bad pivot =
    record { literal = bad pivot 1; cause = Assumed } ∷ record { literal = bad pivot 2; cause = Decided } ∷ []

-- 1 and 3 are bad, and so is the row
abbrev pub all_bad : Quant → Trail
all_bad pivot =
    record { literal = bad pivot 1; cause = Assumed } ∷ record { literal = bad pivot 3; cause = Propagated 7 } ∷ []

-- what is found on a trail, and due
pub record WorkedFinds (pivot : Quant) : Type 0 where
  -- an attached row that is unit, or bad; not one that isn't attached, nor one of the other side
  pub unit : IsFound (alternating pivot) (search_over pivot (attached_to pivot) (two_bad pivot))
      (IsUnit pivot 0 (plus 3))
  pub bad : IsFound (alternating pivot) (search_over pivot (attached_to pivot) (all_bad pivot)) (Bad pivot 0)
  pub no_unit : IsFound (alternating pivot) (search_over pivot detached (two_bad pivot)) (IsUnit pivot 0 (plus 3)) → ⊥
  pub no_bad : IsFound (alternating pivot) (search_over pivot (attached_to (opposite pivot)) (all_bad pivot))
      (Bad pivot 0) → ⊥
  -- quiet where nothing is attached; not where the attached row is unit
  pub quiet : IsFound (alternating pivot) (search_over pivot detached (two_bad pivot)) Quiet
  pub not_quiet : IsFound (alternating pivot) (search_over pivot (attached_to pivot) (two_bad pivot)) Quiet → ⊥
  -- a unit literal is due; on an empty trail the first variable is
  pub unit_due : IsDue (alternating pivot) (search_over pivot detached (two_bad pivot))
  pub decision_due : IsDue (alternating pivot) (search_over pivot detached [])
  -- each row is attached to one of the two watches or to none, and link 6 has no other number
  pub attached : AreMarked (rows_of (search_over pivot (attached_to pivot) []))
  pub not_attached : AreMarked (rows_of (search_over pivot detached []))
  pub elsewhere : AreMarked (rows_of (search_over pivot (replicate 6 None ++ Some 2 ∷ None ∷ []) [])) → ⊥
  -- a live row to watch is attached, or isn't; one that was dropped need not be
  pub attached_row : AreAttached (search_over pivot (attached_to pivot) [])
  pub detached_row : AreAttached (search_over pivot detached []) → ⊥
  pub dropped_row : AreAttached (record (search_over pivot detached []) { watched = 1 ∷ [] })

-- a derivation of no steps
abbrev pub no_steps : State
no_steps = record { notes = []; rows = Some [] }

-- an input of a side
abbrev pub given : Quant → Note
given side = record { side = side; why = Given; tag = 0 }

-- the clauses -1 2 3 and -1 -2 as the steps 0 and 1, and the cube -1 3 as the step 2
abbrev pub covered : State
covered =
    with_step (with_step (with_step no_steps (given Exists) mixed) (given Exists) lone) (given Forall)
    (minus 1 ∷ plus 3 ∷ [])

-- -1, 2 and 3 are true, and 4 may be
abbrev pub three_true : Trail → Trail
three_true rest =
    record { literal = minus 1; cause = Decided }
    ∷ record { literal = plus 2; cause = Decided }
    ∷ record { literal = plus 3; cause = Decided }
    ∷ rest

abbrev pub all_true : Trail
all_true = three_true (record { literal = plus 4; cause = Decided } ∷ [])

-- which steps are due under a 1, e 2, e 3 4
pub record WorkedDue : Type 0 where
  -- no decision is due where none is allowed, nor where all are assigned
  pub not_allowed : IsDue three_scopes (search_of no_steps (record (trail_of []) { allowed = NoDecision })) → ⊥
  pub none_open : IsDue three_scopes (search_of no_steps (trail_of all_true)) → ⊥
  -- where all are assigned, the cube -1 3 is an initial one, of which 3 is to go; a clause is none
  pub initial : IsInitialCube three_scopes (search_of covered (trail_of all_true)) 2
  pub cube_due : IsDue three_scopes (search_of covered (trail_of all_true))
  pub unassigned : IsInitialCube three_scopes (search_of covered (trail_of (three_true []))) 2 → ⊥
  pub a_clause : IsInitialCube three_scopes (search_of covered (trail_of all_true)) 1 → ⊥

-- one assignment of three variables, at which the counter stood at 10 when the search began
abbrev pub once : Quant → Trail
once pivot = record { literal = bad pivot 1; cause = Assumed } ∷ []

abbrev pub spent : ℕ → Counter
spent n = record { spent = n; budget = 100 }

-- what a stop tells of so many variables, after so many assignments
abbrev pub stopped : ℕ → ℕ → Account
stopped vars assigned = record { budget = 100; vars = vars; assigned = assigned; restarts = 0 }

-- e 1
abbrev pub alone : List Scope
alone = existential (1 ∷ []) ∷ []

pub record WorkedCounts : Type 0 where
  pub size : size_of (alternating Exists) ≡ 3
  -- an assignment has paid for one step, and two steps need a slack
  pub counted : IsCounted 3 0 10 (trail_of (once Exists)) (spent 11)
  pub too_many : IsCounted 3 0 10 (trail_of (once Exists)) (spent 12) → ⊥
  pub owed : IsCounted 3 1 10 (trail_of (once Exists)) (spent 12)
  -- a solve of one assignment stops after at most 63 steps
  pub bounded : IsBounded 3 10 (trail_of (once Exists)) (spent 73)
  pub unbounded : IsBounded 3 10 (trail_of (once Exists)) (spent 74) → ⊥
  -- no decision stands, and one step was taken for each literal; not after a decision, nor after a step more
  pub forced : IsForced (alternating Exists) 10 (search_over Exists detached (once Exists)) (spent 11)
  pub one_more : IsForced (alternating Exists) 10 (search_over Exists detached (once Exists)) (spent 12) → ⊥
  pub decided : IsForced (alternating Exists) 10 (search_over Exists detached (two_bad Exists)) (spent 12) → ⊥
  -- a matrix has each open clause, as often as it likes, and no other; cubes are none
  pub matrix : IsMatrix (three_of Exists detached) (three ∷ [])
  pub again : IsMatrix (three_of Exists detached) (three ∷ three ∷ [])
  pub none_there : IsMatrix (three_of Exists detached) [] → ⊥
  pub another : IsMatrix (three_of Exists detached) (three ∷ [] ∷ []) → ⊥
  pub a_cube : IsMatrix (three_of Forall detached) []
  pub no_cubes : HasNoCubes (search_over Exists detached [])
  pub cubes : HasNoCubes (search_over Forall detached []) → ⊥
  -- a clause comes last, with its frame
  pub added : AddsClause 1 three [] (record { id = 4; frame = 1; row = three } ∷ [])
  pub other_frame : AddsClause 1 three [] (record { id = 4; frame = 0; row = three } ∷ []) → ⊥
  -- two clauses come last, both of their frame and in their order; and so many rows to watch, behind the others
  pub both_added : AddsClauses 7 (three ∷ (plus 1 ∷ []) ∷ []) (framed 0 7 [] ∷ [])
      (framed 0 7 [] ∷ framed 4 7 three ∷ framed 6 7 (plus 1 ∷ []) ∷ [])
  pub one_elsewhere : AddsClauses 7 (three ∷ (plus 1 ∷ []) ∷ []) []
      (framed 4 7 three ∷ framed 6 0 (plus 1 ∷ []) ∷ []) → ⊥
  pub turned : AddsClauses 7 ((plus 1 ∷ []) ∷ three ∷ []) [] (framed 4 7 three ∷ framed 6 7 (plus 1 ∷ []) ∷ []) → ⊥
  pub two_watched : WatchesMany 2 (9 ∷ []) (9 ∷ 5 ∷ 6 ∷ [])
  pub not_before : WatchesMany 2 (9 ∷ []) (5 ∷ 6 ∷ 9 ∷ []) → ⊥
  pub not_three : WatchesMany 3 (9 ∷ []) (9 ∷ 5 ∷ 6 ∷ []) → ⊥
  -- room for three variables, and none for a sign
  pub no_signs : IsRoomy 3 (search_over Exists detached []) → ⊥
  pub no_room : IsRoomy 0 (search_over Exists detached [])
  -- variables have room up to the least of the four numbers
  pub least_of_signs : room_of (with_rooms 5 4 (None ∷ Some true ∷ [])) ≡ 2
  pub least_of_clauses : room_of (with_rooms 2 4 (None ∷ Some true ∷ None ∷ [])) ≡ 2
  pub least_of_cubes : room_of (with_rooms 5 1 (None ∷ Some true ∷ None ∷ [])) ≡ 1
  pub least_of_trail : room_of (with_rooms 5 4 (None ∷ Some true ∷ None ∷ None ∷ [])) ≡ 3
  -- rest is an empty trail on which nothing was counted
  pub not_at_rest : IsAtRest (trail_of (once Exists)) → ⊥

-- finishes and reductions that are live
pub record WorkedFinishes (pivot : Quant) : Type 0 where
  -- the finish of a row, not the row itself, nor what comes next
  pub finish : IsFinishId (finished_three pivot) 1
  pub row : IsFinishId (finished_three pivot) 0 → ⊥
  pub next : IsFinishId (finished_three pivot) 2 → ⊥
  -- none beside a row alone; not where its finish is
  pub none_there : HasNoFinish (three_of pivot detached)
  pub one_there : HasNoFinish (finished_three pivot) → ⊥
  -- no new one where the finish goes; not where it comes
  pub goes : GainsNoFinish (finished_three pivot) (three_of pivot detached)
  pub comes : GainsNoFinish (three_of pivot detached) (finished_three pivot) → ⊥
  -- how many there are: a reduction is no finish, and a finish is no reduction
  pub no_finishes : finishes_in (three_of pivot detached) ≡ 0
  pub one_finish : finishes_in (finished_three pivot) ≡ 1
  pub no_reductions : reductions_in (finished_three pivot) ≡ 0
  pub one_reduction : reductions_in (reduced_three pivot) ≡ 1
  pub not_finished : finishes_in (reduced_three pivot) ≡ 0
  -- a step pays for a reduction that came in; not without a step
  pub paid : ReducesFew (three_of pivot detached) (reduced_three pivot) (spent 10) (spent 11)
  pub unpaid : ReducesFew (three_of pivot detached) (reduced_three pivot) (spent 10) (spent 10) → ⊥
  -- none is to be paid where it goes
  pub gone : ReducesFew (reduced_three pivot) (three_of pivot detached) (spent 10) (spent 10)

-- when a solve may stop
pub record WorkedStops : Type 0 where
  -- a refutation by propagation of two variables takes at most twenty steps
  pub quick : IsQuickStop 2 (record { spent = 81; budget = 100 }) (Spent (stopped 3 0))
  pub slow : IsQuickStop 2 (record { spent = 80; budget = 100 }) (Spent (stopped 3 0)) → ⊥
  -- a literal was to be assumed and no step was left, or two were and one was left
  pub at_once : IsSpent 0 (alternating Exists) no_steps (plus 1 ∷ []) (spent 100) (spent 100) (stopped 3 0)
  pub one_of_two : IsSpent 0 (existential (1 ∷ 2 ∷ []) ∷ []) no_steps (plus 1 ∷ plus 2 ∷ []) (spent 99) (spent 100)
      (stopped 2 1)
  -- not while one is left, nor where another number of variables, another budget, more restarts or another number of
  -- assignments are told, nor where a step was left for each assumption and none was due
  pub one_left : IsSpent 0 (alternating Exists) no_steps (plus 1 ∷ []) (spent 99) (spent 99) (stopped 3 0) → ⊥
  pub other_vars : IsSpent 0 (alternating Exists) no_steps (plus 1 ∷ []) (spent 100) (spent 100) (stopped 2 0) → ⊥
  pub other_budget : IsSpent 0 (alternating Exists) no_steps (plus 1 ∷ []) (spent 100) (spent 100)
      (record { budget = 99; vars = 3; assigned = 0; restarts = 0 }) → ⊥
  pub more_restarts : IsSpent 0 (alternating Exists) no_steps (plus 1 ∷ []) (spent 100) (spent 100)
      (record { budget = 100; vars = 3; assigned = 0; restarts = 1 }) → ⊥
  pub other_count : IsSpent 0 alone no_steps (plus 1 ∷ []) (spent 100) (spent 100) (stopped 1 1) → ⊥
  pub none_due : IsSpent 0 alone no_steps (plus 1 ∷ []) (spent 99) (spent 100) (stopped 1 1) → ⊥
