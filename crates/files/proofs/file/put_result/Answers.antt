use Rattle.std.proofs.Common.{◌≡◌, ◌≤◌, ◌++◌, ◌∙◌, [], Some, ap, length, refl, subst, sym, true}
use Rattle.std.specs.Prelude.{flat_map, if◌then◌else◌}
use Rattle.prefix.specs.Scopes.{quantifier_at}
use Rattle.prefix.specs.Sides.{is_of}
use Rattle.frames.specs.State.{OpenFormula}
use Rattle.engine.specs.Refusals.{winner_of}
use Rattle.blocks.proofs.Putting.{part_more, puts_err, puts_then}
use Rattle.blocks.specs.Held.{Puts}
use Rattle.engine.specs.Asks.{first_values}
use Rattle.solve.specs.Decisions.{unassumed}
use Rattle.files.specs.Jobs.{solution_line, value_line, value_lines}
use Rattle.solve.specs.Outputs.{Text}
use Rattle.files.proofs.Outermost.{is_of_itself, of_side, there, verdict_by}
use Rattle.files.proofs.file.put_result.Goals as goal

pub put_values-requires : goal.put_values-requires
put_values-requires g c =
    let won : is_of (quantifier_at c.prefix.result.now 1) c.winner.result ≡ true =
    sym c.is_won_first.ensures ∙ c.if-not-is_won_first.false in
    subst (λ ss. 1 ≤ length ss) c.prefix.ensures.value (there c.prefix.result.now c.winner.result won)

pub returns : goal.returns
returns g c terms f s truth holds header formula verdict is =
    let e = c.args.engine.now in
    let won : is_of (quantifier_at c.prefix.result.now 1) c.winner.result ≡ true =
    sym c.is_won_first.ensures ∙ c.if-not-is_won_first.false in
    let scopes : c.prefix.result.now ≡ f.prefix =
    c.prefix.ensures.value ∙ ap (λ (o : OpenFormula). o.scopes) (sym holds.formula ∙ formula) in
    let side : quantifier_at c.prefix.result.now 1 ≡ Some (winner_of truth) =
    of_side (quantifier_at c.prefix.result.now 1) c.winner.result won ∙ ap Some (c.winner.ensures truth is) in
    let first : is_of (quantifier_at f.prefix 1) (winner_of truth) ≡ true =
    ap (λ o. is_of o (winner_of truth)) (ap (λ ss. quantifier_at ss 1) (sym scopes) ∙ side)
    ∙ is_of_itself (winner_of truth) in
    verdict_by e.verdict truth (unassumed truth) refl (sym verdict ∙ holds.verdict) (λ v some same.
    let lines : value_lines f.prefix truth s.witness.values ≡ flat_map value_line (first_values e.formula v) =
    ap (λ b. if◌then◌else◌ {A = Text} b (flat_map value_line s.witness.values) []) first
    ∙ ap (flat_map value_line) (holds.values v some) in
    subst (λ t. Puts g.S.Sink.written g.S.Sink.flushed g.S.Sink.faults g.S.Sink.has_room c.args.sink.now
    c.args.block.now
    c.put_values.new.sink c.put_values.new.block (solution_line c.args.answer f ++ t) c.put_values.result) (sym lines)
    (puts_then g.S.Sink.written g.S.Sink.flushed g.S.Sink.faults g.S.Sink.has_room c.put_values.result c.args.sink.now
    c.args.block.now
    c.put_solution.new.sink c.put_solution.new.block c.put_values.new.sink c.put_values.new.block (solution_line
    c.args.answer f)
    (flat_map value_line (first_values e.formula v)) (c.in_ok-put_solution.ensures f header)
    (c.put_values.ensures v some (ap (λ ss. quantifier_at ss 1) (sym c.prefix.ensures.value) ∙ side
    ∙ ap (λ b. Some (winner_of b)) (sym same)))))

pub returns-in_err-put_solution : goal.returns-in_err-put_solution
returns-in_err-put_solution g c terms f s truth holds header formula verdict is =
    puts_err g.S.Sink.written g.S.Sink.flushed g.S.Sink.faults g.S.Sink.has_room _ c.from_residual.result
    c.args.sink.now c.args.block.now c.put_solution.new.sink c.put_solution.new.block _ c.from_residual.ensures.1
    (part_more g.S.Sink.written g.S.Sink.flushed g.S.Sink.faults g.S.Sink.has_room c.args.sink.now c.args.block.now
    c.put_solution.new.sink c.put_solution.new.block
    (solution_line c.args.answer f) (value_lines f.prefix truth s.witness.values)
    (c.in_err-put_solution.ensures f header))
