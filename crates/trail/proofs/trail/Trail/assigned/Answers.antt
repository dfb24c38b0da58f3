use Rattle.trail.proofs.Keeping.{assigned_few}
use Rattle.trail.proofs.trail.Trail.assigned.Goals as goal

pub returns-clause-few : goal.returns-clause-few
returns-clause-few c = λ scopes kept. assigned_few scopes c.args.self.now kept
