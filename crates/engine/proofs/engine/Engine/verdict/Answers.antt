use Rattle.std.specs.Option.{option_map}
use Rattle.engine.specs.Verdicts.{told}
use Rattle.engine.proofs.Asking.{told_holds, verdict_plays}
use Rattle.engine.proofs.Framing.{tied_legal}
use Rattle.engine.proofs.engine.Engine.verdict.Goals as goal

pub returns-in-Some-clause-facts : goal.returns-in-Some-clause-facts
returns-in-Some-clause-facts c =
    let f = c.self.inside.frames.formula in
    let d = c.self.inside.search.derivation in
    let tied = c.self.invariant.tied in
    rw (← c.self.view_is) (told_holds f d c.self.inside.verdict c.prefix-valid.ensures.valid.distinct
    (tied_legal f c.self.inside.search tied) c.self.invariant.held
    c.end_rows_give_proofs.ensures c.proofs_decide.ensures c.steps_are_listed.ensures)

pub returns-in-Some-clause-first : goal.returns-in-Some-clause-first
returns-in-Some-clause-first c =
    let f = c.self.inside.frames.formula in
    let d = c.self.inside.search.derivation in
    let held = c.self.inside.verdict in
    let tied = c.self.invariant.tied in
    let distinct = c.prefix-valid.ensures.valid.distinct in
    rw (← c.self.view_is) (verdict_plays f (option_map (told d) held) distinct c.plays_exist.ensures
    c.first_values_decide.ensures
    (told_holds f d held distinct (tied_legal f c.self.inside.search tied) c.self.invariant.held
    c.end_rows_give_proofs.ensures c.proofs_decide.ensures
    c.steps_are_listed.ensures))
