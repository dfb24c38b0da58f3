use Rattle.derive.specs.State.{open_clauses}
use Rattle.test_engine.proofs.extract_tests.finished_circuit.Goals as goal

pub extract-requires-clause-proof : goal.extract-requires-clause-proof
extract-requires-clause-proof c =
    let scopes = c.args.prefix.now in
    let assumptions = c.args.assumptions.now in
    let old = c.args.derivation.now in
    let new = c.finish.new.self in (
      open_clauses new,
      c.in_ok-core.ensures.proof scopes assumptions (c.in_ok-finish.ensures.legal scopes c.requires.legal)
          (c.finishes_end_proofs.ensures scopes assumptions old new c.in_ok-finish.finish c.args.end c.requires.step
          c.requires.end_row c.in_ok-finish.ensures.ok),
    )
