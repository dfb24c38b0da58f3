use Rattle.std.proofs.Common.{◌+◌, ◌-◌, ◌++◌, drop, length}
use Rattle.derive.specs.Dropping.{has_tag}
use Rattle.cores.specs.Cores.{grouped_in}
use Rattle.cores.proofs.Refuting.{still_decides}
use Rattle.cores.proofs.Trying.{gone_at, matrix_of, on_ok_always, still_trying}
use Rattle.cores.proofs.choosing.refuted_without.Goals as goal

pub refuted_with-requires-clause-matrix : goal.refuted_with-requires-clause-matrix
refuted_with-requires-clause-matrix c =
    let scopes = c.args.question.now.prefix.now in
    let place = c.args.place in
    let parts = c.args.parts.now in
    matrix_of scopes c.drop_frame.new.self c.args.kept.now (drop (place + 1) parts)
    (gone_at scopes c.args.search.now c.drop_frame.new.self c.args.kept.now place parts c.requires.place
    (c.drop_frame.ensures.resting scopes c.requires.trying.resting) c.drop_frame.ensures.clauses c.requires.trying)

pub returns-then-stays-clause-trying : goal.returns-then-stays-clause-trying
returns-then-stays-clause-trying c =
    let scopes = c.args.question.now.prefix.now in
    gone_at scopes c.args.search.now c.drop_frame.new.self c.args.kept.now c.args.place c.args.parts.now
    c.requires.place (c.drop_frame.ensures.resting scopes c.requires.trying.resting) c.drop_frame.ensures.clauses
    c.requires.trying

pub returns-then-stays-clause-decides : goal.returns-then-stays-clause-decides
returns-then-stays-clause-decides c =
    let scopes = c.args.question.now.prefix.now in
    let kept = c.args.kept.now in
    let place = c.args.place in
    let parts = c.args.parts.now in
    let old = c.args.search.now in
    let new = c.drop_frame.new.self in
    let resting = c.drop_frame.ensures.resting scopes c.requires.trying.resting in
    still_decides (has_tag (length parts - place)) old.derivation new.derivation c.drop_frame.ensures.loses
    (record {
      gives = c.end_rows_give_proofs.ensures;
      decide = c.proofs_decide.ensures;
      serve = c.same_clauses_serve.ensures;
      listed = c.steps_are_listed.ensures;
    })
    scopes c.args.question.now.assumptions.now (kept ++ grouped_in (drop place parts))
    (kept ++ grouped_in (drop (place + 1) parts)) c.scopes-valid.ensures.valid c.requires.outer
    c.requires.trying.resting.intact.legal resting.intact.legal
    (matrix_of scopes old kept (drop place parts) c.requires.trying)
    (matrix_of scopes new kept (drop (place + 1) parts)
    (gone_at scopes old new kept place parts c.requires.place resting c.drop_frame.ensures.clauses c.requires.trying))
    c.args.refutation (c.is_beside-stays.ensures.some c.if-stays.true) c.requires.refuted
    (c.is_beside-stays.ensures.stays c.if-stays.true)

pub returns-clause-trying : goal.returns-clause-trying
returns-clause-trying c =
    let scopes = c.args.question.now.prefix.now in
    let place = c.args.place in
    let parts = c.args.parts.now in
    on_ok_always c.refuted_with.result
    (still_trying scopes c.drop_frame.new.self c.refuted_with.new.search c.args.kept.now (drop (place + 1) parts)
    c.refuted_with.ensures.resting c.refuted_with.ensures.clauses
    (gone_at scopes c.args.search.now c.drop_frame.new.self c.args.kept.now place parts c.requires.place
    (c.drop_frame.ensures.resting scopes c.requires.trying.resting) c.drop_frame.ensures.clauses c.requires.trying))
