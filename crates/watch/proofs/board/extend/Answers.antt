use Rattle.std.proofs.Common.{◌≡◌, ◌++◌, ◌∷◌, [], Some, arith, length, rules}
use Rattle.std.specs.Prelude.{slice_get}
use Rattle.calculus.specs.Search.{literals_on}
use Rattle.watch.proofs.Looking.{extending_more}
use Rattle.watch.proofs.board.extend.Goals as goal

pub loop-calm-preserved : goal.loop-calm-preserved
loop-calm-preserved c =
    let seen : c.push.new.self.items ≡ c.loop-calm.seen.items ++ c.at.result ∷ [] = search rules in
    let calm : c.push-in-loop-calm.new.self.items ≡ c.loop-calm.calm.items ++ c.last_calm-n.result ∷ [] =
    search rules in
    let at : slice_get (literals_on c.args.trail.now.placed) (length c.loop-calm.seen.items) ≡ Some c.at.result =
    rw (c.len-in-loop-calm-2.ensures, c.loop-calm.seen.ok.0) at c.at.ensures.literal in (
      extending_more (literals_on c.args.trail.now.placed) c.args.seen.now.items c.args.calm.now.items
          c.loop-calm.seen.items c.loop-calm.calm.items c.push.new.self.items c.push-in-loop-calm.new.self.items
          c.at.result c.last_calm-n.result c.loop-calm.invariant.0 at seen c.last_calm-n.ensures calm,
      omega (arith, c.loop-calm.invariant.1, c.push.ensures.capacity),
      omega (arith, c.loop-calm.invariant.2, c.push-in-loop-calm.ensures.capacity),
    )
