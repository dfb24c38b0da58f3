use Rattle.std.proofs.Common.{refl}
use Rattle.derive.specs.Dropping.{is_outside, names}
use Rattle.derive.specs.State.{arena_of}
use Rattle.derive.proofs.Drops.{clauses_unnamed, left_unnamed, legal_drops}
use Rattle.derive.proofs.Leaving.{none_noted}
use Rattle.derive.proofs.derivation.Derivation.drop_outside.Goals as goal

pub drop_all-requires-clause-below : goal.drop_all-requires-clause-below
drop_all-requires-clause-below c =
    none_noted c.args.prefix.now c.args.from c.args.self.now _ _ refl refl c.requires.below

pub returns-clause-clauses : goal.returns-clause-clauses
returns-clause-clauses c = clauses_unnamed (is_outside c.args.prefix.now) c.args.self.now _ c.drop_all.ensures.drops

pub returns-clause-left : goal.returns-clause-left
returns-clause-left c = left_unnamed (is_outside c.args.prefix.now) c.args.self.now _ c.drop_all.ensures.drops

pub returns-clause-legal : goal.returns-clause-legal
returns-clause-legal c =
    legal_drops (names (is_outside c.args.prefix.now) (arena_of c.args.self.now)) c.args.self.now _
    c.drop_all.ensures.drops
