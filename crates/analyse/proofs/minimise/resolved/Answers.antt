use Rattle.clean.proofs.Trying.{cleans_at_most}
use Rattle.analyse.proofs.minimise.resolved.Goals as goal

pub returns-in-Err-clause-counted : goal.returns-in-Err-clause-counted
returns-in-Err-clause-counted g c =
    cleans_at_most c.args.prefix.now c.args.derivation.now c.args.trail.now c.args.steps.now c.args.most
    c.requires.cleanable.rows
