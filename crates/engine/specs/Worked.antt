-- Worked values: counts, changes, clauses with their frames, and proofs of verdicts of both sides.
use Rattle.std.specs.Prelude.{◌≡◌, ℕ, ◌-◌, ◌^◌, true, false, List, [], ◌∷◌, Option, Some, None}
use Rattle.prefix.specs.declared.quant.Quant.TheVariants.{Forall}
use Rattle.calculus.specs.Derivations.{Inference, Why}
use Rattle.calculus.specs.Derivations.Reason.{Input, One}
use Rattle.calculus.specs.Derivations.Why.{Given, FinishedFrom}
use Rattle.calculus.specs.Limits.{removals_of}
use Rattle.calculus.specs.Worked.{minus, plus, refutation}
use Rattle.derive.specs.State.{Note, OpenClause, State}
use Rattle.clean.specs.Turns.{reductions_in}
use Rattle.frames.specs.Commands.{Push}
use Rattle.frames.specs.Fold.{state_of}
use Rattle.frames.specs.State.{Frame, OpenFormula, popped}
use Rattle.frames.specs.Worked.{framed as framed_commands}
use Rattle.step_core.specs.Cores.{proof_at}
use Rattle.step_core.specs.Worked.{clause, derived, stored}
use Rattle.search.specs.Finishes.{finishes_in}
use Rattle.engine.specs.declared.counts.Counts.{Counts}
use Rattle.engine.specs.declared.verdict.Verdict.{Verdict}
use Rattle.engine.specs.Counting.{more, one_more, with_clause, with_clauses, with_solve}
use Rattle.engine.specs.Keeping.{MayBeKept}
use Rattle.engine.specs.Kept.{frame_rows, group_tag, joined_tag, tagged_rows, under}
use Rattle.engine.specs.State.{EngineState, changed, forgotten, new_engine}
use Rattle.engine.specs.Verdicts.{HasProof, told}

abbrev pub some_counts : Counts
some_counts = record { clauses = 5; solves = 1; budget = 200; restarts = 1; vars = 2 }

-- the clause 1 in frame 0 and the clause -1 2 in a pushed one
abbrev pub two_frames : List Frame
two_frames = (state_of framed_commands).formula.frames

-- the same frames, and two groups, of which the second is inactive
abbrev pub grouped : OpenFormula
grouped = record (state_of framed_commands).formula {
  groups = record { number = 2; active = true; clauses = (minus 1 ∷ []) ∷ (plus 2 ∷ []) ∷ [] }
      ∷ record { number = 5; active = false; clauses = (plus 1 ∷ []) ∷ [] } ∷ [];
}

-- the clause of one variable, under a tag
abbrev pub tagged : ℕ → ℕ → OpenClause
tagged tag v = record { id = v; frame = tag; row = plus v ∷ [] }

-- what is kept of an initial cube
abbrev pub cube : Why → Option Note
cube why = Some (record { side = Forall; why = why; tag = 0 })

-- the row 1 2 and its finish where 1 alone is assumed
abbrev pub finished_with : (Why → Option Note) → State
finished_with note = record {
  notes = note Given ∷ note (FinishedFrom 0) ∷ [];
  rows = Some (stored (plus 1 ∷ plus 2 ∷ []) ∷ stored (plus 1 ∷ []) ∷ []);
}

-- the proof that ends in the finish
abbrev pub finished_proof : List Inference
finished_proof =
    record { row = plus 1 ∷ plus 2 ∷ []; reason = Input }
    ∷ record { row = plus 1 ∷ []; reason = One (plus 1 ∷ plus 2 ∷ []) }
    ∷ []

-- an engine with a verdict, and with long learned rows
abbrev pub decided : EngineState
decided = record {
  formula = (state_of framed_commands).formula;
  verdict = Some (told derived (record {
    verdict = record { truth = false; end = 6 };
    assumed = [];
    relevant = [];
    kept = 9;
  }));
  counts = some_counts;
  restarts = 0;
  kept_rows = 20;
  kept_long = 3;
}

-- the same where 1 is assumed
abbrev pub assuming : EngineState
assuming = record decided { formula = record decided.formula { assumptions = plus 1 ∷ [] } }

pub record WorkedEngines : Type 0 where
  -- a count stays at its last value
  pub one : one_more 0 ≡ 1
  pub stays : one_more (2 ^ 64 - 1) ≡ 2 ^ 64 - 1
  pub clauses : (with_clause some_counts).clauses ≡ 6
  pub solves : with_solve 100 4 3 some_counts
      ≡ record { clauses = 5; solves = 2; budget = 200; restarts = 4; vars = 3 }
  -- a change drops the verdict, and counts nothing else
  pub dropped : (changed decided Push).verdict ≡ None
  pub counted : (changed decided Push).counts ≡ some_counts
  -- assumptions are taken back, which drops the verdict; where none stands it stays
  pub forgot : forgotten assuming ≡ record decided { verdict = None }
  pub kept : forgotten decided ≡ decided
  -- so many clauses come back at once
  pub back : (with_clauses 3 some_counts).clauses ≡ 8
  pub back_stays : more 3 (2 ^ 64 - 2) ≡ 2 ^ 64 - 1
  -- clauses under the numbers of their frames, and without the top frame's
  pub first_frame : frame_rows two_frames 0 ≡ (plus 1 ∷ []) ∷ []
  pub second_frame : frame_rows two_frames 1 ≡ (minus 1 ∷ plus 2 ∷ []) ∷ []
  pub no_frame : frame_rows two_frames 2 ≡ []
  pub popped : frame_rows (popped two_frames) 1 ≡ []
  -- clauses under the tags of groups: of an active one, of an inactive one, and of none; frame 5 is no group
  pub active : tagged_rows grouped (group_tag 2) ≡ (minus 1 ∷ []) ∷ (plus 2 ∷ []) ∷ []
  pub inactive : tagged_rows grouped (group_tag 5) ≡ []
  pub no_group : tagged_rows grouped (group_tag 3) ≡ []
  pub frame_below : tagged_rows grouped 1 ≡ (minus 1 ∷ plus 2 ∷ []) ∷ []
  pub last_frame : tagged_rows grouped 65536 ≡ []
  pub first_tag : group_tag 1 ≡ 65538
  -- the tag of a clause that is accepted now: of the top frame, of the open group, or none where this is inactive
  pub in_frame : joined_tag grouped ≡ Some 1
  pub in_group : joined_tag (record grouped { current = Some 2 }) ≡ Some 65539
  pub in_none : joined_tag (record grouped { current = Some 5 }) ≡ None
  -- the rows of one tag, in order
  pub under_one : under 2 (tagged 0 1 ∷ tagged 2 3 ∷ tagged 2 2 ∷ []) ≡ (plus 3 ∷ []) ∷ (plus 2 ∷ []) ∷ []
  -- proofs: of the empty clause; of a clause that is left whole under its assumptions; and of a finish, of both sides
  pub refuted : proof_at derived [] 6 ≡ refutation
  pub whole : proof_at (finished_with clause) (minus 1 ∷ minus 2 ∷ []) 0
      ≡ record { row = plus 1 ∷ plus 2 ∷ []; reason = Input } ∷ []
  pub finish : proof_at (finished_with clause) (minus 1 ∷ []) 1 ≡ finished_proof
  pub cube_finish : proof_at (finished_with cube) (plus 1 ∷ []) 1 ≡ finished_proof
  -- the finish is the one removal of such a proof, and is live
  pub removals : removals_of finished_proof ≡ 1
  pub finishes : finishes_in (finished_with clause) ≡ 1
  pub reductions : reductions_in (finished_with clause) ≡ 0
  -- no long learned row is attached at first; a change leaves those that are
  pub none_long : new_engine.kept_long ≡ 0
  pub some_long : (changed decided Push).kept_long ≡ 3
  -- 512 may be kept at first; a change leaves the number that was set
  pub first_rows : new_engine.kept_rows ≡ 512
  pub some_rows : (changed decided Push).kept_rows ≡ 20
  -- from 16 to 16,777,216 may be set
  pub least_rows : MayBeKept 16
  pub most_rows : MayBeKept 16777216
  pub too_few_rows : MayBeKept 15 → ⊥
  pub too_many_rows : MayBeKept 16777217 → ⊥
  -- no verdict, no proof
  pub none : (formula : OpenFormula) (verdict : Verdict) → HasProof formula verdict None → ⊥
