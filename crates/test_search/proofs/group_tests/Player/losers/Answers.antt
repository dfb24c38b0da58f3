use Rattle.std.proofs.Common.{◌≡◌, ◌∙◌, filter, sym, ap}
use Rattle.derive.specs.State.{clauses_of}
use Rattle.test_search.proofs.Grouped.{left_first, open_first, open_more, outside_group, rows_of}
use Rattle.test_search.proofs.group_tests.Player.losers.Goals as goal

pub loser-requires : goal.loser-requires
loser-requires c =
    let clauses = c.args.clauses.now in
    let group = c.args.group.now in
    let old = clauses_of c.args.self.now.derivation in
    let one = clauses_of c.put.new.self.derivation in
    let two = clauses_of c.put-2.new.self.derivation in
    open_more 65537 clauses group one two (open_first 0 clauses old one c.requires.begun c.in_ok-put.ensures)
    c.in_ok-put-2.ensures
    ∙ sym c.requires.both

pub loser-requires-2 : goal.loser-requires-2
loser-requires-2 c =
    let clauses = c.args.clauses.now in
    let group = c.args.group.now in
    let old = clauses_of c.args.self.now.derivation in
    let one = clauses_of c.put.new.self.derivation in
    let two = clauses_of c.put-2.new.self.derivation in
    ap rows_of
    (c.drop_group.ensures
    ∙ (ap (filter outside_group) c.loser.ensures
    ∙ left_first clauses group old one two c.requires.begun c.in_ok-put.ensures c.in_ok-put-2.ensures))
    ∙ (open_first 0 clauses old one c.requires.begun c.in_ok-put.ensures ∙ sym c.requires.alone)

pub loser-requires-3 : goal.loser-requires-3
loser-requires-3 c =
    let clauses = c.args.clauses.now in
    let group = c.args.group.now in
    let old = clauses_of c.args.self.now.derivation in
    let one = clauses_of c.put.new.self.derivation in
    let two = clauses_of c.put-2.new.self.derivation in
    let three = clauses_of c.loser-2.new.self.derivation in
    let four = clauses_of c.put-3.new.self.derivation in
    let left : rows_of three ≡ clauses =
    ap rows_of
    (c.loser-2.ensures
    ∙ (c.drop_group.ensures
    ∙ (ap (filter outside_group) c.loser.ensures
    ∙ left_first clauses group old one two c.requires.begun c.in_ok-put.ensures c.in_ok-put-2.ensures)))
    ∙ open_first 0 clauses old one c.requires.begun c.in_ok-put.ensures in
    open_more 65537 clauses group three four left c.in_ok-put-3.ensures ∙ sym c.requires.both
