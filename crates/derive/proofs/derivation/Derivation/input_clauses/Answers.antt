use Rattle.std.proofs.Common.{sym, subst, ◌∙◌}
use Rattle.derive.specs.Cubes.{misses_one}
use Rattle.derive.specs.Inputs.{IsWhole}
use Rattle.derive.specs.State.{arena_of}
use Rattle.derive.proofs.Entering.{all_input, all_kept, all_legal, all_others, all_stay, all_unlinked, none_entered}
use Rattle.derive.proofs.Missed.{cubes_missing_one, none_missed}
use Rattle.derive.proofs.Shortening.{nothing_goes}
use Rattle.derive.proofs.derivation.Derivation.input_clauses.Goals as goal

pub drop_cubes-requires-clause-cubes : goal.drop_cubes-requires-clause-cubes
drop_cubes-requires-clause-cubes c = cubes_missing_one c.args.clauses.now (arena_of c.add_all.new.self)

pub returns-clause-ok : goal.returns-clause-ok
returns-clause-ok c =
    let all = c.in_ok-add_all.ensures.ok in
    all_input c.args.prefix.now c.args.frame c.args.self.now c.drop_cubes.new.self c.add_all.new.self
    c.args.clauses.now all.ids all.adds
    c.drop_cubes.ensures.supported c.drop_cubes.ensures.drops c.args.reductions.now.items
    c.add_all.new.reductions.items all.lists

pub returns-clause-kept : goal.returns-clause-kept
returns-clause-kept c =
    let all = c.in_ok-add_all.ensures.ok in
    all_kept c.args.prefix.now c.args.frame c.args.self.now c.drop_cubes.new.self c.add_all.new.self
    c.args.clauses.now all.ids all.adds
    c.drop_cubes.ensures.supported c.drop_cubes.ensures.drops

pub returns-clause-stays : goal.returns-clause-stays
returns-clause-stays c =
    let all = c.in_ok-add_all.ensures.ok in
    all_stay c.args.prefix.now c.args.frame c.args.self.now c.drop_cubes.new.self c.add_all.new.self
    c.args.clauses.now all.ids all.adds
    c.drop_cubes.ensures.supported c.drop_cubes.ensures.drops

pub returns-clause-others : goal.returns-clause-others
returns-clause-others c =
    let all = c.in_ok-add_all.ensures.ok in
    all_others c.args.prefix.now c.args.frame c.args.self.now c.drop_cubes.new.self c.add_all.new.self
    c.args.clauses.now all.ids all.adds
    c.drop_cubes.ensures.supported c.drop_cubes.ensures.drops

pub returns-clause-unlinked : goal.returns-clause-unlinked
returns-clause-unlinked c =
    let all = c.in_ok-add_all.ensures.ok in
    all_unlinked c.args.prefix.now c.args.frame c.args.self.now c.drop_cubes.new.self c.add_all.new.self
    c.args.clauses.now all.ids all.adds
    c.drop_cubes.ensures.supported c.drop_cubes.ensures.drops all.unlinked

pub returns-clause-legal : goal.returns-clause-legal
returns-clause-legal c =
    let all = c.in_ok-add_all.ensures.ok in
    all_legal c.args.prefix.now c.args.frame c.args.self.now c.drop_cubes.new.self c.add_all.new.self
    c.args.clauses.now all.ids all.adds
    c.drop_cubes.ensures.supported c.drop_cubes.ensures.drops

pub returns-clause-none : goal.returns-clause-none
returns-clause-none c = λ none.
    let all = c.in_ok-add_all.ensures.ok in
    let same = none_entered c.args.prefix.now c.args.frame c.args.self.now c.add_all.new.self c.args.clauses.now
    all.ids all.adds none in
    nothing_goes (misses_one c.args.clauses.now (arena_of c.add_all.new.self)) c.add_all.new.self c.drop_cubes.new.self
    (subst IsWhole (sym same) c.add_all.ensures.whole)
    (none_missed c.args.clauses.now none (arena_of c.add_all.new.self)) c.drop_cubes.ensures.drops
    ∙ same
