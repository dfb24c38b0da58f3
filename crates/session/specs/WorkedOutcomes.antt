-- Worked values: what a step leaves on a sink and in an engine. Its reply is written, or this fails, or there is no
-- memory.
use Rattle.std.specs.Prelude.{ℕ, List, [], ◌∷◌, codes, false, Option, Some, None, Result, Ok, Err}
use Rattle.std.specs.List.{AllByRecursion}
use Rattle.trail.specs.State.{Account}
use Rattle.ports.specs.Shelf.{HasRoom, Shelf}
use Rattle.calculus.specs.Worked.{minus}
use Rattle.frames.specs.Commands.{Push as PushFrame}
use Rattle.engine.specs.Counting.{no_counts}
use Rattle.engine.specs.State.{EngineState, VerdictState, changed, new_engine}
use Rattle.engine.specs.declared.counts.Counts.{Counts}
use Rattle.qscript.specs.declared.command.Command.{Command}
use Rattle.qscript.specs.declared.command.Command.TheVariants.{Pop, Push, Relevant, Solve}
use Rattle.session.specs.declared.reply.Reply.{Reply}
use Rattle.session.specs.declared.reply.Reply.TheVariants.{Refused, Silent, Unknown}
use Rattle.session.specs.declared.reply.SessionStop.{SessionStop}
use Rattle.session.specs.declared.reply.SessionStop.TheVariants.{NoMemory, WriteFault}
use Rattle.session.specs.Steps.{StepsOf}
use Rattle.solve.specs.Standing.{Standing, start}
use Rattle.solve.specs.Terms.{terms_of}
use Rattle.solve.specs.Worked.{at_thirty_six, refuted}

-- an empty sink with room for eleven bytes
abbrev pub sink : Shelf
sink = record {
  bytes = [];
  flushed = [];
  room = 11;
  greatest = 4;
  calls = record { failing = []; made = 0; failed = 0 };
}

-- the same with room for three
abbrev pub small_sink : Shelf
small_sink = record sink { room = 3 }

-- with these bytes
abbrev pub with_bytes : List ℕ → Shelf → Shelf
with_bytes bytes s = record s { bytes = bytes }

-- after a fault
abbrev pub with_fault : Shelf → Shelf
with_fault s = record s { calls = record s.calls { failed = 1 } }

-- a step without a budget, by what sinks in memory tell
abbrev pub Does : Command → Standing → (old new : Shelf) → EngineState → Result Reply SessionStop → Type 0
Does command s old new e result = StepsOf (λ (d : Shelf). Some d.bytes) (λ (d : Shelf). Some d.flushed)
    (λ (d : Shelf). d.calls.failed) HasRoom (terms_of 0 0 512) command s old new e result

-- a first command has this reply
abbrev pub RepliesBy : Command → Reply → (new : Shelf) → EngineState → Type 0
RepliesBy command reply new e = Does command start sink new e (Ok reply)

-- the refusal of a first `pop` can't be written
abbrev pub Faults : (told : Option Account) → (new : Shelf) → EngineState → Type 0
Faults told new e = Does Pop start small_sink new e (Err (WriteFault told))

-- there is no memory for a command
abbrev pub Wants : Command → Standing → (new : Shelf) → EngineState → Type 0
Wants command s new e = Does command s sink new e (Err NoMemory)

-- the engine after a first `push`
abbrev pub after_push : EngineState
after_push = changed new_engine PushFrame

-- an empty one that has counted this
abbrev pub counting : Counts → EngineState
counting counts = record new_engine { counts = counts }

-- the verdict of the empty clause
abbrev pub its_verdict : VerdictState
its_verdict = record {
  truth = false;
  assumptions = [];
  proof = refuted.witness.proof;
  end = 0;
  row = [];
  kept = 512;
}

-- an engine with that clause and a verdict
abbrev pub holding : VerdictState → EngineState
holding v = record {
  formula = refuted.script.formula;
  verdict = Some v;
  counts = record no_counts { clauses = 1; solves = 1 };
  restarts = 0;
  kept_rows = 512;
  kept_long = 0;
}

-- engines that hold something else than no command: a frame, a verdict, other terms, or too great a count
abbrev pub other_engines : List EngineState
other_engines = after_push
    ∷ record new_engine { verdict = Some its_verdict }
    ∷ record new_engine { restarts = 1 }
    ∷ record new_engine { kept_rows = 16 }
    ∷ counting (record no_counts { clauses = 1 })
    ∷ counting (record no_counts { solves = 1 })
    ∷ counting (record no_counts { budget = 1 })
    ∷ counting (record no_counts { restarts = 1 })
    ∷ counting (record no_counts { vars = 1 })
    ∷ []

pub record WorkedOutcomes : Type 0 where
  -- a change is made in silence, and a refusal is told by its number
  pub pushed : RepliesBy Push Silent sink after_push
  pub refused : RepliesBy Pop (Refused 40) (with_bytes (codes "refused 40\n") sink) new_engine
  -- neither has the other's reply
  pub not_refused : (e : EngineState) → RepliesBy Push (Refused 2) sink e → ⊥
  pub not_silent : (e : EngineState) → RepliesBy Pop Silent (with_bytes (codes "refused 40\n") sink) e → ⊥
  -- the reply is written, all of it, and it tells of a search on these terms
  pub other_text : (e : EngineState) → RepliesBy Pop (Refused 40) (with_bytes (codes "refused 41\n") sink) e → ⊥
  pub no_text : (e : EngineState) → RepliesBy Pop (Refused 40) sink e → ⊥
  pub other_search : (e : EngineState)
      → RepliesBy Solve (Unknown at_thirty_six) (with_bytes (codes "UNKNOWN\n") sink) e → ⊥
  -- with it no fault comes, nothing is flushed, and the other room stays
  pub at_fault : (e : EngineState) → RepliesBy Push Silent (with_fault sink) e → ⊥
  pub flushed : (e : EngineState) → RepliesBy Push Silent (record sink { flushed = codes "x" }) e → ⊥
  pub less_room : (e : EngineState) → RepliesBy Push Silent small_sink e → ⊥
  -- the engine holds what the command comes to
  pub not_pushed : RepliesBy Push Silent sink new_engine → ⊥
  pub not_kept : RepliesBy Pop (Refused 40) (with_bytes (codes "refused 40\n") sink) after_push → ⊥
  -- a front of a reply is written before a fault, and the engine holds what the command comes to
  pub front : Faults None (with_fault (with_bytes (codes "ref") small_sink)) new_engine
  pub no_front : (e : EngineState) → Faults None (with_fault (with_bytes (codes "SAT") small_sink)) e → ⊥
  pub no_fault : (e : EngineState) → Faults None (with_bytes (codes "ref") small_sink) e → ⊥
  pub told : (e : EngineState)
      → Faults (Some at_thirty_six) (with_fault (with_bytes (codes "ref") small_sink)) e → ⊥
  pub front_not_kept : Faults None (with_fault (with_bytes (codes "ref") small_sink)) after_push → ⊥
  -- with room for the reply there is none
  pub with_room : (e : EngineState)
      → Does Pop start sink (with_fault (with_bytes (codes "ref") sink)) e (Err (WriteFault None)) → ⊥
  -- without memory nothing is written, and the engine holds what came before
  pub want : Wants Push start sink new_engine
  pub written : (e : EngineState) → Wants Push start (with_bytes (codes "x") sink) e → ⊥
  pub others : AllByRecursion (λ e. Wants Push start sink e → ⊥) other_engines
  -- a command that is refused wants none
  pub want_of_refused : (e : EngineState) → Wants Pop start sink e → ⊥
  -- A verdict is kept, with its proof and its values. A solve keeps none, and counts.
  pub want_of_asked : Wants Relevant refuted sink (holding its_verdict)
  pub other_proof : Wants Relevant refuted sink (holding (record its_verdict { proof = [] })) → ⊥
  pub other_values : Wants Relevant (record refuted {
    witness = record refuted.witness { values = minus 1 ∷ [] };
  }) sink (holding its_verdict) → ⊥
  pub want_of_solve : Wants Solve start sink (counting (record no_counts { solves = 1 }))
  pub uncounted : Wants Solve start sink new_engine → ⊥
  pub verdict_kept : Wants Solve refuted sink (holding its_verdict) → ⊥
