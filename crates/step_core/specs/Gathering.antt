-- Tables by the distance from a step's id: which steps it needs, and their numbers.
use Rattle.std.specs.Prelude.{◌≡◌, ℕ, ◌+◌, ◌-◌, ◌<◌, ◌≤◌, Bool, true, false, not, if◌then◌else◌, List, map, filter, length, slice_index_or, Contains}
use Rattle.calculus.specs.Derivations.{RestsOn, Step, Why, core_of}
use Rattle.derive.specs.State.{State, is_live, side_at, why_at}
use Rattle.derive.specs.Antecedents.{IsAntecedentIn}
use Rattle.step_core.specs.Cores.{is_given, is_needed, steps_below}

-- whether an id is marked, by its distance from the end's
abbrev pub is_marked : ℕ → List Bool → ℕ → Bool
is_marked end marks id = slice_index_or marks (end - id) false

-- marks stand at live steps, and reach no further than the first id
pub record AreMarks (d : State) (end : ℕ) (marks : List Bool) : Type 0 where
  pub live : (id : ℕ) → id ≤ end → is_marked end marks id ≡ true → is_live d id ≡ true
  pub short : length marks ≤ end + 1

-- an antecedent that is marked
pub record IsMarkedAntecedent (d : State) (end : ℕ) (marks : List Bool) (id on : ℕ) : Type 0 where
  pub stands : IsAntecedentIn d.notes id (side_at d id) on
  pub marked : is_marked end marks on ≡ true

-- the marked ids are those of the steps that the end needs
pub record AreNeeded (d : State) (end : ℕ) (table : List Bool) : Type 0 where
  pub marks : AreMarks d end table
  pub value : (id : ℕ) → id ≤ end → is_marked end table id ≡ is_needed d end id
  pub closed : (id on : ℕ) → id ≤ end → is_marked end table id ≡ true → RestsOn (why_at d id) on
      → IsMarkedAntecedent d end table id on

-- whether a step is of the part of a core: an input, or another one
abbrev pub is_in_part : Bool → Why → Bool
is_in_part inputs why = if inputs then is_given why else not (is_given why)

-- the ids of a part of a core, ascending
abbrev pub part_of_core : State → ℕ → Bool → List ℕ
part_of_core d end inputs = map (λ (s : Step). s.id)
    (filter (λ (s : Step). is_in_part inputs s.why) (core_of (steps_below d (end + 1)) end))

-- ids that are marked and live, with all that they rest on among them
pub record AreCoreIds (d : State) (end : ℕ) (marks : List Bool) (ids : List ℕ) : Type 0 where
  pub within : (id : ℕ) → Contains ids id → (id ≤ end) × (end - id < length marks)
  pub live : (id : ℕ) → Contains ids id → is_live d id ≡ true
  pub closed : (id on : ℕ) → Contains ids id → RestsOn (why_at d id) on → Contains ids on
