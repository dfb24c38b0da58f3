use Rattle.std.proofs.Common.{is_some, ap, ◌∙◌}
use Rattle.derive.specs.Dropping.{has_tag, is_outside, mentions, names}
use Rattle.derive.specs.State.{OpenClause, clauses_of}
use Rattle.std.specs.Prelude.{filter, not, ◌==◌}
use Rattle.search.specs.Leaving.{Loses, leaves}
use Rattle.search.specs.State.{rows_of}
use Rattle.search.proofs.Popping.{filter_both, loses_both, none_below_left, older_lost}
use Rattle.derive.proofs.Leaving.{names_same}
use Rattle.search.proofs.search.Search.pop_frame.Goals as goal

pub drop_frame-requires : goal.drop_frame-requires
drop_frame-requires c = (c.requires.resting.0, c.requires.resting.2)

pub drop_outside-requires-clause-resting : goal.drop_outside-requires-clause-resting
drop_outside-requires-clause-resting c = (
  c.requires.resting.0,
  c.requires.resting.1,
  c.drop_frame.ensures.resting c.requires.resting.0 c.requires.resting.2,
)

pub drop_outside-requires-clause-below : goal.drop_outside-requires-clause-below
drop_outside-requires-clause-below c =
    none_below_left (has_tag c.args.frame) c.args.self.now.derivation c.drop_frame.new.self.derivation
    c.args.prefix.now c.args.from c.drop_frame.ensures.loses c.requires.below

loses : (c : goal.After-drop_outside)
    → Loses (leaves c.args.frame c.args.prefix.now (rows_of c.args.self.now)) c.args.self.now.derivation
    c.drop_outside.new.self.derivation
loses c =
    let old = c.args.self.now in
    let mid = c.drop_frame.new.self in
    let outside = is_outside c.args.prefix.now in
    loses_both (has_tag c.args.frame) (names outside (rows_of old)) (names outside (rows_of mid)) old.derivation
    mid.derivation c.drop_outside.new.self.derivation c.drop_frame.ensures.loses c.drop_outside.ensures.loses
    (λ id note there. names_same outside (rows_of old) (rows_of mid) id note
    (c.drop_frame.ensures.loses.rows id (ap is_some there)))

pub returns-clause-loses : goal.returns-clause-loses
returns-clause-loses c = loses c

pub returns-clause-older : goal.returns-clause-older
returns-clause-older c =
    older_lost (leaves c.args.frame c.args.prefix.now (rows_of c.args.self.now)) c.args.self.now.derivation
    c.drop_outside.new.self.derivation (loses c)

pub returns-clause-clauses : goal.returns-clause-clauses
returns-clause-clauses c =
    let unnamed = λ (k : OpenClause). not (mentions (is_outside c.args.prefix.now) k.row) in
    c.drop_outside.ensures.clauses
    ∙ (ap (filter unnamed) c.drop_frame.ensures.clauses
    ∙ filter_both (λ (k : OpenClause). k.frame == c.args.frame)
    (λ (k : OpenClause). mentions (is_outside c.args.prefix.now) k.row) (clauses_of c.args.self.now.derivation))
