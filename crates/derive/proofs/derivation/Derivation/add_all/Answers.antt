use Rattle.std.proofs.Common.{◌∙◌, take, ap, sym}
use Rattle.derive.proofs.derivation.Derivation.add_all.Goals as goal

pub returns-in-Err-clause-whole : goal.returns-in-Err-clause-whole
returns-in-Err-clause-whole c = record { rows_here = c.requires; fits = c.next_id-first.ensures.fits }

pub returns-in-Err-clause-err : goal.returns-in-Err-clause-err
returns-in-Err-clause-err c =
    c.undo_to.ensures c.args.self.now (record { rows_here = c.requires; fits = c.next_id-first.ensures.fits })
    (sym c.next_id-first.ensures.value) c.add_each.ensures.grows

pub returns-in-Err-clause-unlisted : goal.returns-in-Err-clause-unlisted
returns-in-Err-clause-unlisted c =
    c.truncate.ensures.items
    ∙ (ap (λ n. take n c.add_each.new.reductions.items) (c.len-listed.ensures ∙ c.args.reductions.now.ok.0)
    ∙ c.add_each.ensures.listed)

pub returns-in-Ok-clause-whole : goal.returns-in-Ok-clause-whole
returns-in-Ok-clause-whole c = record { rows_here = c.requires; fits = c.next_id-first.ensures.fits }
