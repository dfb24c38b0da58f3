-- Ids that are given once: what is live under an older one was so before.
use Rattle.std.proofs.Common.{◌≡◌, ℕ, ◌<◌, List, [], ◌∷◌, Some, is_some, length, refl, sym, ap, ◌∙◌, ⊎_elim, arith}
use Rattle.std.proofs.lemmas.List.{length-append}
use Rattle.prefix.specs.Scopes.{Scope}
use Rattle.rows.specs.Arena.{literals_of}
use Rattle.calculus.specs.Derivations.{Why}
use Rattle.calculus.specs.Rows.{Row}
use Rattle.derive.specs.State.{Note, State, next_id}
use Rattle.derive.specs.Adding.{Adds, InputsClause, Removes}
use Rattle.derive.specs.Dropping.{Drops, StepTest}
use Rattle.derive.specs.Growing.{Grows}
use Rattle.search.specs.Moves.{KeepsOlder, SameSteps}
use Rattle.search.proofs.Marks.{note_same}

pub older_none : (d : State) → KeepsOlder d d
older_none d = record { longer = omega arith; note = λ id low live. refl; row = λ id low live. refl }

pub older_equal : (old new : State) → new ≡ old → KeepsOlder old new
older_equal old new same = rw same (older_none old)

-- one after the other
pub older_then : (a b c : State) → KeepsOlder a b → KeepsOlder b c → KeepsOlder a c
older_then a b c one two =
    let first = one.longer in
    let second = two.longer in
    record {
      longer = omega arith;
      note = λ id low live. let below : id < next_id b = omega arith in
          let e = two.note id below live in e ∙ one.note id low (ap is_some (sym e) ∙ live);
      row = λ id low live. let below : id < next_id b = omega arith in
          let e = two.note id below live in two.row id below live ∙ one.row id low (ap is_some (sym e) ∙ live);
    }

-- the same steps
pub older_same : (old new : State) → SameSteps old new → KeepsOlder old new
older_same old new same =
    let next : next_id new ≡ next_id old = ap length same.notes in
    record {
      longer = omega arith;
      note = λ id low live. note_same old new same id;
      row = λ id low live. same.literals id;
    }

-- steps go
pub older_dropped : (is_root : StepTest) (old new : State) → Drops is_root old new → KeepsOlder old new
older_dropped is_root old new drops =
    let next : next_id new ≡ next_id old = drops.exactly.same_next in
    record {
      longer = omega arith;
      note = λ id low live. (drops.others id live).note;
      row = λ id low live. ap literals_of (drops.others id live).row;
    }

-- steps come in
pub older_grown : (old new : State) → Grows old new → KeepsOlder old new
older_grown old new grows = record {
  longer = grows.longer;
  note = λ id low live. (grows.others id (sym (grows.given id low) ∙ live)).note;
  row = λ id low live. ap literals_of (grows.others id (sym (grows.given id low) ∙ live)).row;
}

pub older_added : (old new : State) (id : ℕ) (note : Note) (row : Row) → Adds old new id note row → KeepsOlder old new
older_added old new id note row adds =
    let more = ap next_id adds.state in
    let long = length-append old.notes (Some note ∷ []) in
    record {
      longer = omega (arith, more, long);
      note = λ k low live. (adds.others k (sym (adds.given k low) ∙ live)).note;
      row = λ k low live. ap literals_of (adds.others k (sym (adds.given k low) ∙ live)).row;
    }

pub older_removed : (old new : State) (id on : ℕ) (why : Why) (row : Row) → Removes old new id on why row
    → KeepsOlder old new
older_removed old new id on why row removes =
    ⊎_elim (λ same. older_equal old new same.2) (λ more. older_added old new id _ row more.1) removes.cases

-- a clause comes in, with its reduction, and cubes go
pub older_input : (scopes : List Scope) (old new : State) (first second frame : ℕ) (row : Row)
    → InputsClause scopes old new first second frame row → KeepsOlder old new
older_input scopes old new first second frame row inputs =
    let adds = inputs.adds in
    older_then old inputs.added new
    (older_then old adds.with_input inputs.added (older_added old adds.with_input first _ row adds.input)
    (older_removed adds.with_input inputs.added second first _ _ adds.reduction))
    (older_dropped _ inputs.added new inputs.cubes)
