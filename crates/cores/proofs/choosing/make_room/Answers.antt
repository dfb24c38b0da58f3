use Rattle.std.proofs.Common.{◌≤◌, [], arith}
use Rattle.search.specs.Changing.{IsRoomy}
use Rattle.search.specs.State.{IsResting}
use Rattle.cores.proofs.Trying.{in_range, on_ok, rests_empty, rests_under}
use Rattle.cores.proofs.choosing.make_room.Goals as goal

pub returns-in-Some-clause-resting : goal.returns-in-Some-clause-resting
returns-in-Some-clause-resting c =
    let scopes = c.args.prefix.now in
    let new = c.reserve.new.self in
    let valid = c.scopes-valid.ensures.valid in
    on_ok c.reserve.result (IsRoomy c.in-Some.greatest new) (IsResting scopes new) c.reserve.ensures.ok
    (λ roomy. rests_under c.resting_grows.ensures scopes new c.in-Some.greatest valid roomy
    (λ x i. (let low : x ≤ c.args.room = c.requires.room x i in
    let within : (1 ≤ x) × (x ≤ 1048576) = in_range scopes valid x i in
    omega arith))
    (c.reserve.ensures.resting [] c.requires.resting))

pub returns-in-None-clause-resting : goal.returns-in-None-clause-resting
returns-in-None-clause-resting c =
    let scopes = c.args.prefix.now in
    let valid = c.scopes-valid.ensures.valid in
    rests_empty c.resting_grows.ensures scopes c.args.search.now
    (λ x i. (let low : x ≤ c.args.room = c.requires.room x i in
    let within : (1 ≤ x) × (x ≤ 1048576) = in_range scopes valid x i in
    omega arith))
    c.requires.resting
