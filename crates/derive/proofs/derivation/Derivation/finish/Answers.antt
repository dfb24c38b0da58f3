use Rattle.std.proofs.Common.{◌≡◌, ◌∙◌, ap, ap₂, sym, ◌++◌, length}
use Rattle.calculus.specs.Rows.{Row}
use Rattle.calculus.specs.Verdicts.{finished, is_assumed}
use Rattle.derive.specs.State.{row_of}
use Rattle.derive.proofs.Removals.{filter_whole}
use Rattle.derive.proofs.derivation.Derivation.finish.Goals as goal

finish_is : (c : goal.After-as_slice) → c.as_slice.result.now ≡ finished c.args.assumptions.now
    (row_of c.args.self.now c.args.row)
finish_is c = c.as_slice.ensures ∙ c.in_ok-push_assumed.ensures
    ∙ ap₂ (λ (front row : Row). front ++ finished c.args.assumptions.now row) c.new-finish.ensures.items c.lits.ensures

pub add_removal-requires-clause-part : goal.add_removal-requires-clause-part
add_removal-requires-clause-part c e = finish_is c ∙ filter_whole (is_assumed c.args.assumptions.now)
    (row_of c.args.self.now c.args.row) (ap (λ (r : Row). length r) (sym (finish_is c)) ∙ e)
