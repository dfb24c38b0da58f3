use Rattle.std.proofs.Common.{◌/◌, sym, subst, ◌∙◌}
use Rattle.aiger_out.proofs.Deltas.{IsBegun, begun_last, begun_more}
use Rattle.aiger_out.proofs.gate.push_delta.Goals as goal

pub loop-rest-preserved : goal.loop-rest-preserved
loop-rest-preserved c =
    subst (λ bytes. IsBegun c.args.number c.args.bytes.now.items bytes (c.loop-rest.rest / 128))
    (sym c.push.ensures.items)
    (begun_more c.args.number c.args.bytes.now.items c.loop-rest.bytes.items c.loop-rest.rest c.loop-rest-test.true
    c.loop-rest.invariant)

pub returns-clause-items : goal.returns-clause-items
returns-clause-items c =
    c.push-2.ensures.items
    ∙ begun_last c.args.number c.args.bytes.now.items c.loop-rest.bytes.items c.loop-rest.rest c.loop-rest-test.false
    c.loop-rest.invariant
