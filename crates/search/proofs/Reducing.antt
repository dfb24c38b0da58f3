-- Reductions that are live, where steps come and go.
use Rattle.std.proofs.Common.{◌≡◌, ℕ, ◌+◌, ◌≤◌, Bool, not, cond, List, [], ◌++◌, length, filter, Option, refl, ap, ap₂, ◌∙◌, ⊎_elim, arith}
use Rattle.std.specs.Prelude.{count_by, Result, Ok, Err, IfOk, OnErr, OnOk}
use Rattle.std.specs.List.{cons_option, filter_map, range_with_len}
use Rattle.std.specs.Option.{option_and_then}
use Rattle.std.proofs.lemmas.List.{append-nil, length_push}
use Rattle.std.proofs.lemmas.List.Filters.{sum_by-filter_both}
use Rattle.std.proofs.lemmas.List.Sums.{sum_by_push}
use Rattle.prefix.specs.declared.quant.Quant.{Quant}
use Rattle.prefix.specs.declared.quant.Quant.TheVariants.{Exists}
use Rattle.prefix.specs.Scopes.{Scope}
use Rattle.calculus.specs.Derivations.{Step, Why}
use Rattle.calculus.specs.Derivations.Why.{Given, ReducedFrom, ResolvedFrom, FinishedFrom}
use Rattle.calculus.specs.Rows.{Row, reduce}
use Rattle.derive.specs.State.{Note, State, is_live, row_of, step_at, step_from, step_with, steps_of}
use Rattle.steps.specs.Counter.{Counter}
use Rattle.clean.proofs.Turning.{reduces}
use Rattle.search.specs.Counting.{ReducesFew}
use Rattle.derive.specs.Adding.{Adds, CountsRemoval, InputsClause, Removes, clause_note}
use Rattle.derive.specs.Dropping.{Drops, StepTest}
use Rattle.derive.specs.Inputs.{AddsClauses, InputsClauses}
use Rattle.derive.specs.Inputs.AddsClauses.{no_clause, one_more}
use Rattle.clean.specs.Turns.{is_reduction, reductions_in}
use Rattle.search.specs.Moves.{SameSteps}
use Rattle.search.proofs.Marks.{note_same}

-- the same steps
pub steps_same : (old new : State) → SameSteps old new → steps_of new ≡ steps_of old
steps_same old new same =
    let step : step_at new ≡ step_at old =
    λ i id. ap₂ (λ (row : Row) (note : Option Note). option_and_then (step_from id row) note) (same.literals id)
    (note_same old new same id) i in
    ap₂ (λ (step : ℕ → Option Step) (n : ℕ). filter_map step (range_with_len 0 n)) step (ap length same.notes)

pub reductions_alike : (old new : State) → steps_of new ≡ steps_of old → reductions_in new ≡ reductions_in old
reductions_alike old new same = ap (count_by (λ (s : Step). is_reduction s.why)) same

pub reductions_same : (old new : State) → SameSteps old new → reductions_in new ≡ reductions_in old
reductions_same old new same = reductions_alike old new (steps_same old new same)

-- one for a reduction
abbrev pub one_if : Why → ℕ
one_if why = cond (is_reduction why) 1 0

counted : (steps : List Step) (id : ℕ) (side : Quant) (row : Row) (why : Why)
    → count_by (λ (s : Step). is_reduction s.why) (steps ++ cons_option (step_with id side row why) [])
    ≡ count_by (λ (s : Step). is_reduction s.why) steps + one_if why
counted steps id side row Given = sum_by_push (λ (s : Step). one_if s.why) steps _
counted steps id side row (ReducedFrom a) = sum_by_push (λ (s : Step). one_if s.why) steps _
counted steps id side row (ResolvedFrom a b x) = sum_by_push (λ (s : Step). one_if s.why) steps _
counted steps id side row (FinishedFrom a) =
    let whole = ap (count_by (λ (s : Step). is_reduction s.why)) (append-nil steps) in
    omega (arith, whole)

-- a step comes in
pub reductions_added : (old new : State) (id : ℕ) (note : Note) (row : Row) → Adds old new id note row
    → reductions_in new ≡ reductions_in old + one_if note.why
reductions_added old new id note row adds =
    ap (count_by (λ (s : Step). is_reduction s.why)) adds.steps
    ∙ counted (steps_of old) id note.side row note.why

-- a removal
pub reductions_removed : (old new : State) (id on : ℕ) (why : Why) (row : Row) → Removes old new id on why row
    → reductions_in new ≤ reductions_in old + one_if why
reductions_removed old new id on why row removes =
    ⊎_elim
    (λ same. let e : reductions_in new ≡ reductions_in old = ap reductions_in same.2 in omega arith)
    (λ more. let e = reductions_added old new id _ row more.1 in omega arith)
    removes.cases

-- one that counts a step where something goes
pub few_reduced : {E : Type 0} (r : Result ℕ E) (scopes : List Scope) (first middle new : State) (before now : Counter)
    (on : ℕ) (row : Row) → reductions_in middle ≡ reductions_in first
    → IfOk r (λ id. Removes middle new id on (ReducedFrom on) row)
    → OnOk r (CountsRemoval (row_of middle on) row before now) → OnErr r (new ≡ middle)
    → ReducesFew first new before now
few_reduced (Ok id) scopes first middle new before now on row same ok counts err =
    let r = reduces scopes middle new before now id on row ok counts in
    let more = r.reductions in
    let spent : now.spent ≡ before.spent + r.reduced = ap (λ (c : Counter). c.spent) r.counted in
    omega arith
few_reduced (Err e) scopes first middle new before now on row same ok counts err =
    let none = ap reductions_in err in
    omega (arith, same, none)

-- a finish
pub reductions_finished : (old new : State) (id on : ℕ) (row : Row) → Removes old new id on (FinishedFrom on) row
    → reductions_in new ≡ reductions_in old
reductions_finished old new id on row removes =
    ⊎_elim
    (λ same. ap reductions_in same.2)
    (λ more. let e = reductions_added old new id _ row more.1 in omega arith)
    removes.cases

-- some of the steps are left
pub count_left : (p q : Step → Bool) (steps : List Step) → count_by p (filter q steps) ≤ count_by p steps
count_left p q steps =
    let both = sum_by-filter_both q (λ s. not (q s)) (λ s. refl) (λ s. cond (p s) 1 0) steps in
    omega (arith, both)

pub reductions_left : (is_root : StepTest) (old new : State) → Drops is_root old new
    → reductions_in new ≤ reductions_in old
reductions_left is_root old new drops =
    let left = ap (count_by (λ (s : Step). is_reduction s.why)) drops.left in
    let few = count_left (λ s. is_reduction s.why) (λ s. is_live new s.id) (steps_of old) in
    omega (arith, left, few)

-- a clause comes in, with its reduction
pub reductions_input : (scopes : List Scope) (old new : State) (first second frame : ℕ) (row : Row)
    → InputsClause scopes old new first second frame row → reductions_in new ≤ reductions_in old + 1
reductions_input scopes old new first second frame row inputs =
    let adds = inputs.adds in
    let input = reductions_added old adds.with_input first (clause_note frame) row adds.input in
    let reduction = reductions_removed adds.with_input inputs.added second first (ReducedFrom first)
    (reduce Exists scopes row) adds.reduction in
    let left = reductions_left _ inputs.added new inputs.cubes in
    omega (arith, input, reduction, left)

-- clauses come in at once
reductions_entered : (scopes : List Scope) (frame : ℕ) (old new : State) (rows : List Row) (ids : List ℕ)
    → AddsClauses scopes frame old new rows ids → reductions_in new ≤ reductions_in old + length rows
reductions_entered scopes frame old new rows ids no_clause = omega arith
reductions_entered scopes frame old new rows ids (one_more middle _ before row earlier first second chain adds) =
    let so_far = reductions_entered scopes frame old middle before earlier chain in
    let input = reductions_added middle adds.with_input first (clause_note frame) row adds.input in
    let reduction = reductions_removed adds.with_input new second first (ReducedFrom first)
    (reduce Exists scopes row) adds.reduction in
    let long = length_push before row in
    omega (arith, so_far, input, reduction, long)

pub reductions_inputs : (scopes : List Scope) (frame : ℕ) (old new : State) (rows : List Row) (listed now : List ℕ)
    → InputsClauses scopes frame old new rows listed now → reductions_in new ≤ reductions_in old + length rows
reductions_inputs scopes frame old new rows listed now inputs =
    let came = reductions_entered scopes frame old inputs.added rows inputs.ids inputs.adds in
    let left = reductions_left _ inputs.added new inputs.cubes in
    omega (arith, came, left)
