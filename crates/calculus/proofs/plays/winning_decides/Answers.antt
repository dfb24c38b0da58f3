use Rattle.calculus.proofs.Winning.{winning_decides}
use Rattle.calculus.proofs.plays.winning_decides.Goals as goal

pub returns : goal.returns
returns c pivot scopes clauses assumptions circuit distinct outer over keeps wins earlier = winning_decides pivot scopes
    clauses assumptions circuit outer over keeps wins earlier distinct
