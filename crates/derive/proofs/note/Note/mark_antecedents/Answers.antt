use Rattle.std.proofs.Common.{sym, ◌∙◌, inl, inr, arith}
use Rattle.derive.specs.Told.{told}
use Rattle.derive.proofs.Sweeps.{finished_rests, reduced_rests, resolved_rests, why_told}
use Rattle.derive.proofs.note.Note.mark_antecedents.Goals as goal

pub set_mark-requires : goal.set_mark-requires
set_mark-requires c =
    let note = c.args.self.now in
    c.requires c.in-Resolved.a (resolved_rests (told note.side note.why) note.why c.in-Resolved.a c.in-Resolved.b
    c.in-Resolved.pivot (why_told note.side note.why) (sym c.step.ensures ∙ c.in-Resolved.is)).0

pub set_mark-requires-in-Resolved : goal.set_mark-requires-in-Resolved
set_mark-requires-in-Resolved c =
    let note = c.args.self.now in
    let within = c.requires c.in-Resolved.b
    (resolved_rests (told note.side note.why) note.why c.in-Resolved.a c.in-Resolved.b c.in-Resolved.pivot
    (why_told note.side note.why) (sym c.step.ensures ∙ c.in-Resolved.is)).1 in
    let same = c.set_mark.ensures.count in
    omega arith

pub set_mark-requires-in-Reduced : goal.set_mark-requires-in-Reduced
set_mark-requires-in-Reduced c =
    let note = c.args.self.now in
    elim c.in-Reduced.is [
      | inl e ↦ c.requires c.in-Reduced.a (reduced_rests (told note.side note.why) note.why c.in-Reduced.a
          (why_told note.side note.why) (sym c.step.ensures ∙ e))
      | inr e ↦ c.requires c.in-Reduced.a (finished_rests (told note.side note.why) note.why c.in-Reduced.a
          (why_told note.side note.why) (sym c.step.ensures ∙ e))
    ]
