use Rattle.std.proofs.Common.{◌∙◌, ap, sym, Some}
use Rattle.derive.specs.State.{State}
use Rattle.derive.proofs.Legality.{same_legal}
use Rattle.derive.proofs.derivation.Derivation.put_rows.Goals as goal

pub returns-clause-legal : goal.returns-clause-legal
returns-clause-legal c before scopes same rows legal =
    let after : State = record { notes = c.self.inside.notes; rows = Some c.args.rows } in
    same_legal scopes before after (same ∙ ap (λ (d : State). d.notes) (sym c.self.view_is)) rows legal
