use Rattle.derive.proofs.Sweeps.{antecedent_given}
use Rattle.derive.proofs.sweeping.mark_for.Goals as goal

pub mark_antecedents-requires : goal.mark_antecedents-requires
mark_antecedents-requires c on r = antecedent_given c.args.notes.now c.args.marks.now c.args.id on c.args.note.now
    c.requires.supported c.requires.there c.requires.given c.requires.room r
