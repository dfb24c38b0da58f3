use Rattle.derive.proofs.Listing.{listed_note, listed_row}
use Rattle.derive.proofs.laws.clauses_are_listed.Goals as goal

pub returns : goal.returns
returns c = record { note = listed_note; row = listed_row }
