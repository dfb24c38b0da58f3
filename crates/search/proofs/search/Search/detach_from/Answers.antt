use Rattle.std.proofs.Common.{◌≤◌, ap, length, arith}
use Rattle.derive.specs.State.{next_id}
use Rattle.search.specs.Leaving.{Goes, Reaches}
use Rattle.search.specs.State.{SearchState}
use Rattle.search.proofs.Shedding.{goes_before, reaches_same, shed_all, shed_more, shed_none}
use Rattle.search.proofs.search.Search.detach_from.Goals as goal

pub loop-id-init : goal.loop-id-init
loop-id-init c =
    shed_none (Goes c.args.leaving.now c.args.self.now.derivation)
    (Reaches c.args.leaving.now c.args.self.now.derivation)
    c.args.self.now c.args.from c.args.from (omega arith) c.requires.intact.1.has_rows c.requires.tallied

pub loop-id-preserved : goal.loop-id-preserved
loop-id-preserved c =
    let leaving = c.args.leaving.now in
    let old = c.args.self.now.derivation in
    let now = c.loop-id.self.derivation in
    let same = c.loop-id.invariant.sheds.steps in
    shed_more (Goes leaving old) (Goes leaving now) (Reaches leaving old) c.args.self.now c.loop-id.self
    c.detach_at.new.self c.args.from c.loop-id.id c.loop-id.invariant c.detach_at.ensures.sheds
    (λ is. c.detach_at.ensures.free (reaches_same leaving old now same c.loop-id.id is))
    (λ id goes. goes_before leaving old now same id goes)

pub returns-clause-free : goal.returns-clause-free
returns-clause-free c =
    let old = c.args.self.now.derivation in
    let now = c.loop-id.self.derivation in
    let same = c.loop-id.invariant.sheds.steps in
    let past : next_id now ≤ c.loop-id.id =
    (let given = c.next_id-next.ensures.value in
    let is = ap (λ (s : SearchState). next_id s.derivation) c.self.view_is in
    let notes = ap length same.notes in
    let end = c.loop-id-test.false in
    omega arith) in
    shed_all (Goes c.args.leaving.now old) (Reaches c.args.leaving.now old) c.args.self.now c.loop-id.self c.args.from
    c.loop-id.id c.loop-id.invariant c.requires.intact past
