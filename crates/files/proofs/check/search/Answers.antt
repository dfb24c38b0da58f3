use Rattle.std.proofs.Common.{refl}
use Rattle.solve.specs.Feeding.{built}
use Rattle.solve.specs.Terms.{terms_of}
use Rattle.files.proofs.Checking.{found_by}
use Rattle.solve.proofs.Answering.{built_held}
use Rattle.files.proofs.check.search.Goals as goal

pub returns : goal.returns
returns c =
    let terms = terms_of c.args.request.budget c.args.request.restarts c.args.request.kept in
    let g = c.args.g.now in
    found_by c.no_assumptions.ensures terms g c.decide.new.engine c.decide.result
    (c.decide.ensures.ok terms (built g) refl
    (built_held c.args.request.budget c.args.request.restarts c.args.request.kept g c.in_ok-engine.engine
    c.set_restarts.new.self c.set_kept_rows.new.self
    c.in_ok-engine.ensures c.set_restarts.ensures c.set_kept_rows.ensures))
