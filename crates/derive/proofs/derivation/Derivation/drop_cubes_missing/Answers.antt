use Rattle.std.proofs.Common.{refl}
use Rattle.derive.specs.Cubes.{misses}
use Rattle.derive.specs.State.{arena_of}
use Rattle.derive.proofs.Drops.{legal_drops, clauses_same, clause_side_stays, left_hit, hit_stays}
use Rattle.derive.proofs.Missed.{cubes_missing}
use Rattle.derive.proofs.derivation.Derivation.drop_cubes_missing.Goals as goal

pub drop_cubes-requires-clause-cubes : goal.drop_cubes-requires-clause-cubes
drop_cubes-requires-clause-cubes c = cubes_missing c.args.clause.now (arena_of c.args.self.now)

pub returns-clause-drops : goal.returns-clause-drops
returns-clause-drops c = c.drop_cubes.ensures.drops

pub returns-clause-left : goal.returns-clause-left
returns-clause-left c = left_hit c.args.clause.now c.args.self.now _ c.drop_cubes.ensures.drops

pub returns-clause-stays : goal.returns-clause-stays
returns-clause-stays c = hit_stays c.args.clause.now c.args.self.now _ c.drop_cubes.ensures.drops

pub returns-clause-kept : goal.returns-clause-kept
returns-clause-kept c =
    clause_side_stays (misses c.args.clause.now (arena_of c.args.self.now)) c.args.self.now _
    (cubes_missing c.args.clause.now (arena_of c.args.self.now)) c.drop_cubes.ensures.supported
    c.drop_cubes.ensures.drops

pub returns-clause-clauses : goal.returns-clause-clauses
returns-clause-clauses c = clauses_same
    (misses c.args.clause.now (arena_of c.args.self.now)) c.args.self.now _ c.drop_cubes.ensures.drops
    (λ clause. refl)

pub returns-clause-legal : goal.returns-clause-legal
returns-clause-legal c = legal_drops
    (misses c.args.clause.now (arena_of c.args.self.now)) c.args.self.now _ c.drop_cubes.ensures.drops
