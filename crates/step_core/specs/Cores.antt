-- Cores: the steps that a verdict rests on, numbered from 1.
use Rattle.std.specs.Prelude.{◌≡◌, ◌≢◌, ℕ, ◌+◌, ◌-◌, ◌==◌, ◌<◌, ◌≤◌, ◌⊎◌, Bool, true, false, not, IsTrue, if◌then◌else◌, List, [], ◌∷◌, ◌++◌, map, filter, length, slice_index_or, Option, option_map}
use Rattle.std.specs.List.{filter_map, range_with_len}
use Rattle.prefix.specs.declared.quant.Quant.{Quant}
use Rattle.prefix.specs.Literal.{Literal}
use Rattle.prefix.specs.Scopes.{Scope}
use Rattle.prefix.specs.Sides.{opposite}
use Rattle.calculus.specs.Rows.{Row}
use Rattle.calculus.specs.Derivations.{Inference, Reason, Step, Why, core_of, needed}
use Rattle.calculus.specs.Derivations.Reason.{Input as ByInput, One as ByOne, Two as ByTwo}
use Rattle.calculus.specs.Derivations.Why.{Given, ReducedFrom, ResolvedFrom, FinishedFrom}
use Rattle.calculus.specs.Verdicts.{IsEndRow, IsProof, finished, proof_of}
use Rattle.derive.specs.State.{Note, State, is_step, note_at, row_of, side_at, steps_of, why_at}
use Rattle.step_core.specs.declared.listing.Line.{Line}
use Rattle.step_core.specs.declared.listing.CoreStep.{CoreStep}
use Rattle.step_core.specs.declared.listing.CoreStep.TheVariants.{Input, One, Two}

-- a core, as contracts see it: the winner, and the steps in order
pub record Trace : Type 0 where
  pub winner : Quant
  pub lines : List Line

-- the literals of each step
abbrev pub core_rows : List Line → List Row
core_rows lines = map (λ (l : Line). l.lits) lines

-- the literals with a number, counted from 1
abbrev pub row_numbered : List Row → ℕ → Row
row_numbered rows i = slice_index_or rows (i - 1) []

-- why the step with a number stands, counted from 1
abbrev pub step_numbered : List Line → ℕ → CoreStep
step_numbered lines i = slice_index_or (map (λ (l : Line). l.step) lines) (i - 1) Input

-- a step rests on the one with this number
abbrev pub RestsOnNumber : CoreStep → ℕ → Type 0
RestsOnNumber Input k = ⊥
RestsOnNumber (One a) k = a ≡ k
RestsOnNumber (Two a b x) k = (a ≡ k) ⊎ (b ≡ k)

-- a later step rests, by its number, on the step with this number
pub record IsUsedLater (lines : List Line) (k : ℕ) : Type 0 where
  pub by : ℕ
  pub later : k < by
  pub within : by ≤ length lines
  pub rests : RestsOnNumber (step_numbered lines by) k

-- steps with their numbers: each rests on earlier ones, and each but the last is one that a later one rests on
pub record IsNumbered (lines : List Line) : Type 0 where
  pub earlier : (i k : ℕ) → 1 ≤ i → i ≤ length lines → RestsOnNumber (step_numbered lines i) k → (1 ≤ k) × (k < i)
  pub used : (k : ℕ) → 1 ≤ k → k < length lines → IsUsedLater lines k

-- a step with the rows that it rests on in place of their numbers
abbrev pub reason_by : List Row → CoreStep → Reason
reason_by rows Input = ByInput
reason_by rows (One k) = ByOne (row_numbered rows k)
reason_by rows (Two p n x) = ByTwo (row_numbered rows p) (row_numbered rows n) x

-- the same with its own row
abbrev pub inference_from : List Row → Line → Inference
inference_from rows line = record { row = line.lits; reason = reason_by rows line.step }

-- a core, as the calculus' list of inferences
abbrev pub inferences_of : List Line → List Inference
inferences_of lines = map (inference_from (core_rows lines)) lines

-- the quantifier of the loser's variables, which is the pivot quantifier of the steps
abbrev pub loser_of : Trace → Quant
loser_of core = opposite core.winner

-- a core is a proof that its winner wins
abbrev pub IsProofOf : Trace → List Scope → List Literal → List Row → Type 0
IsProofOf core scopes assumptions clauses =
    IsProof (loser_of core) scopes clauses assumptions (inferences_of core.lines)

-- the core of a step

-- the live step under an id, which may be a finish
abbrev pub kept_with : ℕ → Row → Note → Step
kept_with id row note = record { id = id; side = note.side; row = row; why = note.why }

abbrev pub kept_at : State → ℕ → Option Step
kept_at d id = option_map (kept_with id (row_of d id)) (note_at d id)

-- the live steps with ids below a number, by ascending ids
abbrev pub steps_below : State → ℕ → List Step
steps_below d n = filter_map (kept_at d) (range_with_len 0 n)

-- whether a step is an input
abbrev pub is_given : Why → Bool
is_given Given = true
is_given (ReducedFrom a) = false
is_given (ResolvedFrom a b x) = false
is_given (FinishedFrom a) = false

-- core order: the input steps first, then the others, both as they came
abbrev pub in_core_order : List Step → List Step
in_core_order steps = filter (λ (s : Step). is_given s.why) steps ++ filter (λ (s : Step). not (is_given s.why)) steps

-- whether the step under an id is one that the step under another id rests on, at once or through others, or itself
abbrev pub is_needed : State → ℕ → ℕ → Bool
is_needed d end id = needed (steps_below d (end + 1)) end id

-- the steps that the one under an id rests on, at once or through others, and itself, in core order
abbrev pub core_steps : State → ℕ → List Step
core_steps d end = in_core_order (core_of (steps_below d (end + 1)) end)

-- their ids
abbrev pub core_ids : State → ℕ → List ℕ
core_ids d end = map (λ (s : Step). s.id) (core_steps d end)

-- the place of the first id like this, counted from 1, one past the last where there is none
abbrev pub number_in : List ℕ → ℕ → ℕ
number_in [] id = 1
number_in (x ∷ xs) id = if x == id then 1 else number_in xs id + 1

-- why a step stands, with numbers in place of ids
abbrev pub numbered_by : List ℕ → Why → CoreStep
numbered_by ids Given = Input
numbered_by ids (ReducedFrom a) = One (number_in ids a)
numbered_by ids (ResolvedFrom a b x) = Two (number_in ids a) (number_in ids b) x
numbered_by ids (FinishedFrom a) = One (number_in ids a)

-- the step under an id, with its literals
abbrev pub line_at : State → List ℕ → ℕ → Line
line_at d ids id = record { lits = row_of d id; step = numbered_by ids (why_at d id) }

-- the steps under these ids, in this order, with their places for numbers
abbrev pub lines_at : State → List ℕ → List Line
lines_at d ids = map (line_at d ids) ids

-- the step under an id is the finish of an end row: that row's own step where all of its literals are over assumed
-- variables, and else a step that rests on it and keeps just these
pub record IsFinishAt (scopes : List Scope) (assumptions : List Literal) (d : State) (end : ℕ) : Type 0 where
  pub before : ℕ
  pub step : IsTrue (is_step d before)
  pub end_row : IsEndRow (side_at d before) scopes assumptions (row_of d before)
  pub finish : row_of d end ≡ finished assumptions (row_of d before)
  pub stands : (end ≡ before) ⊎ ((why_at d end ≡ FinishedFrom before) × (row_of d end ≢ row_of d before))

-- the step of the end row: the one that a finish rests on, and else the end's own
abbrev pub end_row_in : Why → ℕ → ℕ
end_row_in Given end = end
end_row_in (ReducedFrom a) end = end
end_row_in (ResolvedFrom a b x) end = end
end_row_in (FinishedFrom a) end = a

-- the step under an id, as the calculus has it
abbrev pub step_under : State → ℕ → Step
step_under d id = record { id = id; side = side_at d id; row = row_of d id; why = why_at d id }

-- the proof of a verdict that ends in the step under an id
abbrev pub proof_at : State → List Literal → ℕ → List Inference
proof_at d assumptions end = proof_of (steps_of d) (step_under d (end_row_in (why_at d end) end)) assumptions
