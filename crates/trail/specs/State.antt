-- An assignment trail, as contracts see it.
use Rattle.std.specs.Prelude.{◌≡◌, ℕ, zero, suc, ◌+◌, ◌-◌, ◌*◌, ◌^◌, ◌<◌, ◌≤◌, Bool, ⊤, true, false, if◌then◌else◌, ◌==◌, nat_le, min, max, map, take, drop, replicate, length, IsFalse, All, List, [], ◌∷◌, ◌++◌, Some, slice_index_or, slice_set}
use Rattle.trail.specs.declared.allowed.Allowed.{Allowed}
use Rattle.trail.specs.declared.allowed.Allowed.TheVariants.{Anything, NoDecision, Nothing}
use Rattle.prefix.specs.Literal.{Literal}
use Rattle.prefix.specs.Scopes.{Scope, all_variables, depth_of}
use Rattle.calculus.specs.Search.{Cause, Placed, Trail, cause_on, cut_trail, decisions_on, is_decision, last_level, IsOrderedTrail, place_on}
pub use Rattle.calculus.specs.Search.{assumed}
use Rattle.calculus.specs.Search.Cause.{Propagated}
use Rattle.calculus.specs.Limits.{assignment_limit}
use Rattle.calculus.specs.Weights.{trail_weight}
use Rattle.trail.specs.Open.{AreFinished, finished_assumed, finished_with, finished_without, is_finished, placed_with}
use Rattle.trail.specs.Finished.{emptied}

-- the assigned literals with their causes, oldest first; the number of each one's scope, by the prefix of its
-- assignment, and whether its reason is marked as clean; the scopes that are known to be all assigned, by their
-- numbers less 1; how many were assigned since the last clear or stop, undone ones too, and how often the search began
-- anew since then; the greatest number of a variable that there is room for; and what may be assigned next
pub record TrailState : Type 0 where
  pub placed : Trail
  pub depths : List ℕ
  pub marks : List Bool
  pub finished : List Bool
  pub assigned : ℕ
  pub restarts : ℕ
  pub room : ℕ
  pub allowed : Allowed

-- a trail of nothing, without room
abbrev pub new_trail : TrailState
new_trail = record {
  placed = [];
  depths = [];
  marks = [];
  finished = [];
  assigned = 0;
  restarts = 0;
  room = 0;
  allowed = Anything;
}

-- a count after some more; at 2 ^ 64 - 1 it stays
abbrev pub counted : ℕ → ℕ → ℕ
counted assigned zero = assigned
counted assigned (suc more) = min (assigned + suc more) (2 ^ 64 - 1)

-- a literal of this cause may be assigned: no decision comes first after a cut, and nothing after assumptions were
-- given up
abbrev pub MayFollow : Allowed → Cause → Type 0
MayFollow Anything cause = ⊤
MayFollow NoDecision cause = IsFalse (is_decision cause)
MayFollow Nothing cause = ⊥

-- room for the variables up to a number
abbrev pub with_room : TrailState → ℕ → TrailState
with_room t vars = record {
  placed = t.placed;
  depths = t.depths;
  marks = t.marks;
  finished = t.finished ++ replicate (vars - t.room) false;
  assigned = t.assigned;
  restarts = t.restarts;
  room = max t.room vars;
  allowed = t.allowed;
}

-- one more literal, of the scope of this number
abbrev pub with_placed : TrailState → Literal → Cause → ℕ → TrailState
with_placed t literal cause depth = record {
  placed = placed_with t.placed literal cause;
  depths = t.depths ++ depth ∷ [];
  marks = t.marks ++ false ∷ [];
  finished = t.finished;
  assigned = counted t.assigned 1;
  restarts = t.restarts;
  room = t.room;
  allowed = Anything;
}

-- the scopes known to be all assigned, once a literal of the scope of this number is on the trail
abbrev pub with_finished : TrailState → Bool → Bool → ℕ → TrailState
with_finished t is_full is_decided depth = record {
  placed = t.placed;
  depths = t.depths;
  marks = t.marks;
  finished = finished_with is_full is_decided depth t.finished;
  assigned = t.assigned;
  restarts = t.restarts;
  room = t.room;
  allowed = t.allowed;
}

-- one more literal
abbrev pub with_literal : List Scope → TrailState → Literal → Cause → TrailState
with_literal scopes t literal cause =
    with_finished (with_placed t literal cause (depth_of scopes literal.variable))
    (is_finished scopes (placed_with t.placed literal cause) (depth_of scopes literal.variable))
    (is_decision cause) (depth_of scopes literal.variable)

-- an assumption has no reason
abbrev pub unmarked : Literal → Bool
unmarked literal = false

-- what may be assigned next once these were
abbrev pub allowed_after : List Literal → Allowed → Allowed
allowed_after [] allowed = allowed
allowed_after (literal ∷ literals) allowed = Anything

-- an empty trail with these assumptions
abbrev pub with_assumed : List Scope → TrailState → List Literal → TrailState
with_assumed scopes t literals = record {
  placed = map assumed literals;
  depths = map (λ (l : Literal). depth_of scopes l.variable) literals;
  marks = map unmarked literals;
  finished = finished_assumed scopes [] literals t.finished;
  assigned = counted t.assigned (length literals);
  restarts = t.restarts;
  room = t.room;
  allowed = allowed_after literals t.allowed;
}

-- an empty trail on which some assumptions were assigned and undone again
abbrev pub given_up : TrailState → ℕ → TrailState
given_up t undone = record {
  placed = [];
  depths = [];
  marks = [];
  finished = emptied t.finished;
  assigned = counted t.assigned undone;
  restarts = t.restarts;
  room = t.room;
  allowed = Nothing;
}

-- a trail of which this front is left, which has so many literals
abbrev pub with_front : Trail → ℕ → TrailState → TrailState
with_front front len t = record {
  placed = front;
  depths = take len t.depths;
  marks = take len t.marks;
  finished = finished_without (drop len t.depths) t.finished;
  assigned = t.assigned;
  restarts = t.restarts;
  room = t.room;
  allowed = NoDecision;
}

-- a trail without its last literal
abbrev pub without_last : TrailState → TrailState
without_last t = with_front (take (length t.placed - 1) t.placed) (length t.placed - 1) t

-- a trail that is cut to a decision level; where that takes literals off no decision comes next
abbrev pub undone_to : ℕ → TrailState → TrailState
undone_to level t =
    if nat_le (last_level t.placed) level
    then t
    else with_front (cut_trail level t.placed) (length (cut_trail level t.placed)) t

-- what may be assigned next once a search begins anew: what a cut forbids is allowed again
abbrev pub allowed_anew : Allowed → Allowed
allowed_anew Anything = Anything
allowed_anew NoDecision = Anything
allowed_anew Nothing = Nothing

-- a trail from which the search begins anew
abbrev pub begun_anew : TrailState → TrailState
begun_anew t = record t { restarts = counted t.restarts 1; allowed = allowed_anew t.allowed }

-- a trail that is cut to level 0, from where the search begins anew
abbrev pub restarted : TrailState → TrailState
restarted t = begun_anew (undone_to 0 t)

-- an empty trail, with the counts begun anew
abbrev pub cleared : TrailState → TrailState
cleared t = record {
  placed = [];
  depths = [];
  marks = [];
  finished = emptied t.finished;
  assigned = 0;
  restarts = 0;
  room = t.room;
  allowed = Anything;
}

-- whether the reason of a variable is marked as clean
abbrev pub is_marked : TrailState → ℕ → Bool
is_marked t x = slice_index_or t.marks (place_on t.placed x) false

-- a variable stands on the trail and was propagated
abbrev pub IsPropagated : Trail → ℕ → Type 0
IsPropagated trail x = (id : ℕ) × (cause_on trail x ≡ Some (Propagated id))

-- a trail with another step as the reason of a variable
abbrev pub with_reason : Trail → ℕ → ℕ → Trail
with_reason [] x id = []
with_reason (p ∷ rest) x id =
    if p.literal.variable == x
    then record { literal = p.literal; cause = Propagated id } ∷ rest
    else p ∷ with_reason rest x id

-- that step as the reason of a variable, and its mark; nothing else changes
abbrev pub with_clean : TrailState → ℕ → ℕ → TrailState
with_clean t x id = record {
  placed = with_reason t.placed x id;
  depths = t.depths;
  marks = slice_set t.marks (place_on t.placed x) true;
  finished = t.finished;
  assigned = t.assigned;
  restarts = t.restarts;
  room = t.room;
  allowed = t.allowed;
}

-- there is room for each assigned variable, and for as many as are assigned
pub record HasRoom (t : TrailState) : Type 0 where
  pub count : length t.placed ≤ t.room
  pub variables : All (λ (p : Placed). p.literal.variable ≤ t.room) t.placed

-- the count of assignments, after this number of restarts, is at most the weight of the trail on top of the greatest
-- weight of each round before; after a cut it is below the weight that any assignment but a decision gives; once
-- assumptions were given up the trail is empty, and the count below the limit
abbrev pub IsWeighed : ℕ → ℕ → Allowed → Trail → ℕ → Type 0
IsWeighed n restarts Anything trail assigned = assigned ≤ restarts * 2 ^ (n + 1) + trail_weight n (decisions_on trail)
IsWeighed n restarts NoDecision trail assigned =
    (length trail < n) × (assigned < restarts * 2 ^ (n + 1) + trail_weight n (decisions_on trail ++ false ∷ []))
IsWeighed n restarts Nothing trail assigned = (trail ≡ []) × (assigned + 1 < assignment_limit restarts n)

-- what a trail keeps for the prefix that its calls were given since the last clear or stop: its order, the scopes'
-- numbers, a mark for each literal, that the scopes known to be all assigned are, and that each assignment raised the
-- weight above all earlier ones since the last restart
pub record IsTrailFor (scopes : List Scope) (t : TrailState) : Type 0 where
  pub ordered : IsOrderedTrail scopes t.placed
  pub numbered : t.depths ≡ map (λ (p : Placed). depth_of scopes p.literal.variable) t.placed
  pub marked : length t.marks ≡ length t.placed
  pub all_assigned : AreFinished scopes t.placed t.finished
  pub weighed : IsWeighed (length (all_variables scopes)) t.restarts t.allowed t.placed t.assigned

-- fewer literals were assigned than the limit for the prefix and the restarts, and 2 more
abbrev pub IsFew : List Scope → TrailState → Type 0
IsFew scopes t = t.assigned + 1 < assignment_limit t.restarts (length (all_variables scopes))

-- a trail outweighs another one, whatever the number of variables
abbrev pub Outweighs : Trail → Trail → Type 0
Outweighs more less = (n : ℕ) → trail_weight n (decisions_on less) < trail_weight n (decisions_on more)

-- a trail with any assignment but a decision after it outweighs another one that has at most as many literals as
-- there are variables
abbrev pub OutweighsWithOne : Trail → Trail → Type 0
OutweighsWithOne more less =
    (n : ℕ) → length less ≤ n → trail_weight n (decisions_on less) < trail_weight n (decisions_on more ++ false ∷ [])

-- what a stop tells: the counter's budget, the number of the prefix's variables, and the assignments and restarts that
-- were counted
pub record Account : Type 0 where
  pub budget : ℕ
  pub vars : ℕ
  pub assigned : ℕ
  pub restarts : ℕ

-- what a stop of a trail tells
abbrev pub account_of : List Scope → TrailState → ℕ → Account
account_of scopes t budget = record {
  budget = budget;
  vars = length (all_variables scopes);
  assigned = t.assigned;
  restarts = t.restarts;
}
