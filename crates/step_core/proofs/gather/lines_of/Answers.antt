use Rattle.std.proofs.Common.{◌≡◌, ◌++◌, ◌∷◌, [], arith, get_or, map, take, ap, ap₂, sym, ◌∙◌}
use Rattle.std.proofs.lemmas.List.{take_more, map-append}
use Rattle.step_core.specs.Cores.{line_at}
use Rattle.step_core.specs.declared.listing.Line.{Line}
use Rattle.step_core.specs.declared.listing.CoreStep.{CoreStep}
use Rattle.prefix.specs.Literal.{Literal}
use Rattle.std.proofs.Common.{List}
use Rattle.std.proofs.lemmas.List.Elements.{Contains-get_or}
use Rattle.step_core.proofs.gather.lines_of.Goals as goal

pub numbered-requires-clause-within : goal.numbered-requires-clause-within
numbered-requires-clause-within c on rests =
    c.requires.within on (c.requires.closed (get_or c.args.ids.now c.loop-id.id-index 0) on
    (Contains-get_or c.args.ids.now c.loop-id.id-index 0 (omega arith)) rests)

pub loop-id-preserved : goal.loop-id-preserved
loop-id-preserved c =
    let d = c.args.derivation.now in
    let ids = c.args.ids.now in
    let id = get_or ids c.loop-id.id-index 0 in
    let at = Contains-get_or ids c.loop-id.id-index 0 (omega arith) in
    let lits : c.in_ok-copied.field-0 ≡ (line_at d ids id).lits = c.in_ok-copied.ensures ∙ c.lits.ensures in
    let step : c.numbered.result ≡ (line_at d ids id).step =
    c.numbered.ensures ids (λ on rests. c.requires.numbers on (c.requires.closed id on at rests)) in
    let line : record { lits = c.in_ok-copied.field-0; step = c.numbered.result } ≡ line_at d ids id =
    ap₂ (λ (l : List Literal) (s : CoreStep). record { lits = l; step = s }) lits step in
    c.in_ok-push.ensures.items
    ∙ ap₂ (λ (ls : List Line) (l : Line). ls ++ l ∷ []) c.loop-id.invariant line
    ∙ sym (ap (map (line_at d ids)) (take_more ids c.loop-id.id-index 0 (omega arith))
    ∙ map-append (line_at d ids) (take c.loop-id.id-index ids) (id ∷ []))
