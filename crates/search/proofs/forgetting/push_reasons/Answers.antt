use Rattle.std.proofs.Common.{arith}
use Rattle.search.proofs.Thinning.{all_reasons, none_live, reasons_more, reasons_none}
use Rattle.search.proofs.forgetting.push_reasons.Goals as goal

pub loop-place-init : goal.loop-place-init
loop-place-init c = record {
  live = none_live c.args.derivation.now c.args.keep.now.items c.requires;
  all = reasons_none c.args.derivation.now c.args.trail.now.placed c.args.keep.now.items;
}

pub loop-place-preserved : goal.loop-place-preserved
loop-place-preserved c = record {
  live = c.push_reason.ensures.live c.loop-place.invariant.live;
  all = reasons_more c.args.derivation.now c.args.trail.now.placed c.loop-place.keep.items c.push_reason.new.keep.items
      c.loop-place.place c.loop-place.invariant.all c.push_reason.ensures.stays c.in_ok-push_reason.ensures.there;
}

pub returns-in_err-push_reason-clause-live : goal.returns-in_err-push_reason-clause-live
returns-in_err-push_reason-clause-live c = c.push_reason.ensures.live c.loop-place.invariant.live

pub returns-clause-all : goal.returns-clause-all
returns-clause-all c =
    all_reasons c.args.derivation.now c.args.trail.now.placed c.loop-place.keep.items c.loop-place.place
    (omega arith) c.loop-place.invariant.all
