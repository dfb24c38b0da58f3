use Rattle.derive.proofs.Entering.{grown_one}
use Rattle.derive.proofs.derivation.Derivation.add_listed.Goals as goal

pub returns-clause-ok : goal.returns-clause-ok
returns-clause-ok c = record {
  first = c.in_ok-id.field-0-0;
  second = c.in_ok-id.id;
  adds = c.in_ok-id.ensures.ok;
  unlinked = c.in_ok-id.ensures.unlinked;
  lists = c.in_ok-push.ensures.items;
}

pub returns-clause-grows : goal.returns-clause-grows
returns-clause-grows c =
    grown_one c.args.prefix.now c.args.self.now c.add_clause.new.self c.in_ok-id.field-0-0 c.in_ok-id.id c.args.frame
    c.args.lits.now c.in_ok-id.ensures.ok
