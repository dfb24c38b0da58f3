use Rattle.clean.proofs.Circling.{propagated_stays}
use Rattle.clean.proofs.reason.clean_marked.Goals as goal

pub reason_of-requires : goal.reason_of-requires
reason_of-requires g c =
    let cleans = c.in_ok-make_clean.ensures.cleans in
    propagated_stays c.args.trail.now c.make_clean.new.trail cleans.made c.args.v cleans.marks c.requires.propagated
