use Rattle.std.proofs.Common.{[], ◌∙◌}
use Rattle.derive.specs.State.{clauses_of}
use Rattle.cores.proofs.Trying.{gains, kept_in, nothing_in}
use Rattle.cores.proofs.choosing.fill.Goals as goal

pub returns : goal.returns
returns c =
    let scopes = c.args.prefix.now in
    c.put_groups.ensures c.args.others.now
    (kept_in scopes c.make_room.new.search c.add_clauses.new.self [] [] c.add_clauses.ensures.resting
    (nothing_in scopes c.make_room.new.search c.in_ok-make_room.ensures.resting
    (c.make_room.ensures.clauses ∙ c.requires.none))
    c.args.others.now
    (gains 0 c.args.others.now (clauses_of c.make_room.new.search.derivation)
    (clauses_of c.add_clauses.new.self.derivation) c.in_ok-add_clauses.ensures.ok))
