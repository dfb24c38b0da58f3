use Rattle.std.proofs.Common.{◌<◌, length, get_or, refl, ◌∙◌, arith}
use Rattle.std.proofs.lemmas.List.{length-set}
use Rattle.derive.proofs.Sweeps.{named_all, named_more, named_none, named_within}
use Rattle.derive.proofs.sweeping.mark_named.Goals as goal

pub set-requires : goal.set-requires
set-requires c =
    let within = named_within c.args.keep.now c.loop-id.id-index (length c.args.marks.now) c.requires (omega arith) in
    let same = c.loop-id.invariant.1 in
    omega arith

pub loop-id-init : goal.loop-id-init
loop-id-init c = (named_none c.args.keep.now c.args.marks.now, refl)

pub loop-id-preserved : goal.loop-id-preserved
loop-id-preserved c =
    let given = named_within c.args.keep.now c.loop-id.id-index (length c.args.marks.now) c.requires (omega arith) in
    let same = c.loop-id.invariant.1 in
    let within : get_or c.args.keep.now c.loop-id.id-index 0 < length c.loop-id.marks = omega arith in
    rw c.set.ensures (
      named_more c.args.keep.now c.args.marks.now c.loop-id.marks c.loop-id.id-index (omega arith) within
          c.loop-id.invariant.0,
      length-set c.loop-id.marks _ _ ∙ c.loop-id.invariant.1,
    )

pub returns-clause-named : goal.returns-clause-named
returns-clause-named c =
    named_all c.args.keep.now c.args.marks.now c.loop-id.marks c.loop-id.id-index (omega arith) c.loop-id.invariant.0
