use Rattle.std.proofs.Common.{subst}
use Rattle.derive.specs.Antecedents.{AreSupported}
use Rattle.derive.specs.State.{State}
use Rattle.derive.proofs.Inputs.{inputs_clause, legal_input, clauses_kept, stays_live}
use Rattle.derive.proofs.derivation.Derivation.input_clause.Goals as goal

pub returns-clause-ok : goal.returns-clause-ok
returns-clause-ok c = inputs_clause c.args.prefix.now c.args.self.now c.drop_cubes_missing.new.self c.in_ok-ids.ids.0
    c.in_ok-ids.ids.1 c.args.frame c.args.lits.now c.add_clause.new.self c.in_ok-ids.ensures.ok
    c.drop_cubes_missing.ensures.drops

pub returns-clause-legal : goal.returns-clause-legal
returns-clause-legal c = legal_input c.args.prefix.now c.args.self.now c.drop_cubes_missing.new.self c.in_ok-ids.ids.0
    c.in_ok-ids.ids.1 c.args.frame c.args.lits.now c.add_clause.new.self c.in_ok-ids.ensures.ok
    c.drop_cubes_missing.ensures.drops

pub returns-clause-kept : goal.returns-clause-kept
returns-clause-kept c = clauses_kept c.args.prefix.now c.args.self.now c.drop_cubes_missing.new.self c.in_ok-ids.ids.0
    c.in_ok-ids.ids.1 c.args.frame c.args.lits.now c.add_clause.new.self c.in_ok-ids.ensures.ok
    c.drop_cubes_missing.ensures.drops c.drop_cubes_missing.ensures.kept

pub returns-clause-stays : goal.returns-clause-stays
returns-clause-stays c = stays_live c.args.prefix.now c.args.self.now c.drop_cubes_missing.new.self c.in_ok-ids.ids.0
    c.in_ok-ids.ids.1 c.args.frame c.args.lits.now c.add_clause.new.self c.in_ok-ids.ensures.ok
    c.drop_cubes_missing.ensures.drops
    (subst (λ (s : State). AreSupported s.notes) c.self.view_is c.self.invariant.0.supported)
