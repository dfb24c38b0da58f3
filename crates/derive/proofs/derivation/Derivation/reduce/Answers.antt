use Rattle.std.proofs.Common.{◌≡◌, ◌∙◌, ap₂}
use Rattle.std.proofs.lemmas.Result.{IfOk-weaker}
use Rattle.calculus.specs.Rows.{Row, reduce}
use Rattle.derive.specs.State.{row_of, side_at}
use Rattle.derive.proofs.Legality.{legal_reduction}
use Rattle.derive.proofs.Removals.{reduced_whole}
use Rattle.derive.proofs.derivation.Derivation.reduce.Goals as goal

reduced : (c : goal.After-as_slice) → c.as_slice.result.now ≡ reduce (side_at c.args.self.now c.args.a)
    c.args.prefix.now (row_of c.args.self.now c.args.a)
reduced c = c.as_slice.ensures ∙ c.in_ok-reduce_of.ensures ∙ ap₂ (λ side (row : Row). reduce side c.args.prefix.now row)
    c.side.ensures c.lits.ensures

pub add_removal-requires-clause-part : goal.add_removal-requires-clause-part
add_removal-requires-clause-part c e = reduced_whole (side_at c.args.self.now c.args.a) c.args.prefix.now
    (row_of c.args.self.now c.args.a) _ (reduced c) e

pub returns-clause-legal : goal.returns-clause-legal
returns-clause-legal c =
    let is : c.as_slice.result.now ≡ reduce (side_at c.args.self.now c.args.a) c.args.prefix.now
    (row_of c.args.self.now c.args.a) =
    c.as_slice.ensures ∙ c.in_ok-reduce_of.ensures ∙ ap₂ (λ side (row : Row). reduce side c.args.prefix.now row)
    c.side.ensures c.lits.ensures in
    IfOk-weaker c.add_removal.result _ _
    (λ id removes legal. legal_reduction c.args.prefix.now _ _ id c.args.a c.requires.step (rw is at removes) legal)
    c.add_removal.ensures.ok
