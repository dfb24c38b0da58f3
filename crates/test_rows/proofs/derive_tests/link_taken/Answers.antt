use Rattle.std.proofs.Common.{◌≡◌, ◌∙◌, ap, sym, length, is_some}
use Rattle.derive.specs.Antecedents.{Fits}
use Rattle.derive.specs.State.{State, Notes, note_in}
use Rattle.test_rows.proofs.derive_tests.link_taken.Goals as goal

-- the rows that are put back are those that were taken, with another link
pub put_rows-requires-clause-fits : goal.put_rows-requires-clause-fits
put_rows-requires-clause-fits c =
    let fits = c.take_rows-rows.ensures.fits in
    let notes = ap (λ (s : State). s.notes) c.take_rows-rows.ensures.state in
    record {
      same_next = c.link_first.ensures.next ∙ fits.same_next ∙ ap (λ (ns : Notes). length ns) (sym notes);
      same_live = λ id. c.link_first.ensures.live id ∙ fits.same_live id
          ∙ ap (λ (ns : Notes). is_some (note_in ns id)) (sym notes);
    }
