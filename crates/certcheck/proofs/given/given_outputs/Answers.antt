use Rattle.std.proofs.Common.{◌≡◌, ◌+◌, ◌<◌, ◌++◌, ◌∷◌, [], List, ℕ, length, take, get_or, sym, ap, subst, ◌∙◌, arith}
use Rattle.std.specs.List.{All}
use Rattle.std.proofs.lemmas.List.{get_or_default, map_more}
use Rattle.std.proofs.lemmas.List.Elements.{All-push}
use Rattle.aig.specs.Circuits.{edge_number}
use Rattle.aig.specs.declared.strategy.Output.{Output}
use Rattle.certcheck.specs.Check.{named_output, named_outputs, number_when}
use Rattle.certcheck.proofs.Assumed.{given_more, given_same}
use Rattle.certcheck.proofs.Named.{output_small}
use Rattle.certcheck.proofs.given.given_outputs.Goals.{in-Some+in_ok-push, in_default}
use Rattle.certcheck.proofs.given.given_outputs.Goals as goal

pub overflow_cast-number : goal.overflow_cast-number
overflow_cast-number c =
    let number : c.number.result ≡ edge_number c.inputs-inputs.result c.index-outputs-i-in-Some.result.edge =
    c.number.ensures ∙ ap (λ (p : Output). edge_number c.inputs-inputs.result p.edge)
    (sym c.index-outputs-i-in-Some.is) in
    let small : c.number.result < 2097154 =
    output_small c.args.s.now c.outputs-outputs.result.now c.loop-i.i c.inputs-inputs.result c.number.result
    c.index-outputs-i-in-Some.result c.requires.strategy c.requires.small c.outputs-outputs.ensures (omega arith)
    c.index-outputs-i-in-Some.is c.inputs-inputs.ensures number in
    omega (arith, small)

pub when-requires : goal.when-requires
when-requires c =
    let number : c.number.result ≡ edge_number c.inputs-inputs.result c.index-outputs-i-in-Some.result.edge =
    c.number.ensures ∙ ap (λ (p : Output). edge_number c.inputs-inputs.result p.edge)
    (sym c.index-outputs-i-in-Some.is) in
    output_small c.args.s.now c.outputs-outputs.result.now c.loop-i.i c.inputs-inputs.result c.number.result
    c.index-outputs-i-in-Some.result c.requires.strategy c.requires.small c.outputs-outputs.ensures (omega arith)
    c.index-outputs-i-in-Some.is c.inputs-inputs.ensures number

pub loop-i-preserved : goal.loop-i-preserved
loop-i-preserved c =
    let i = c.loop-i.i in
    let inputs = c.inputs-inputs.result in
    let outputs = c.outputs-outputs.result.now in
    let o = get_or outputs i c.index-outputs-i.result in
    let ns = named_outputs inputs (take i outputs) in
    let below : i < length outputs = omega arith in
    let more : named_outputs inputs (take (i + 1) outputs) ≡ ns ++ named_output inputs o ∷ [] =
    map_more (named_output inputs) outputs i c.index-outputs-i.result below in
    elim c.match-entry_at.branch [
      | in-Some+in_ok-push w ↦
          record {
            value = λ assumptions table.
                given_more assumptions ns (named_outputs inputs (take (i + 1) outputs)) (named_output inputs o) more
                c.loop-i.given.items (c.loop-i.invariant.value assumptions table) c.match-entry_at.given.items
                w.in-Some.value w.when.result (sym w.in-Some.is ∙ c.entry_at.ensures ∙ table o.var)
                (w.when.ensures.value ∙ ap (number_when w.in-Some.value) (w.number.ensures
                ∙ ap (λ (p : Output). edge_number inputs p.edge)
                (get_or_default outputs i w.index-outputs-i-in-Some.result c.index-outputs-i.result below)))
                (ap (λ v. v.items) w.given-is ∙ w.in_ok-push.ensures.items);
            below = subst (λ (l : List ℕ). All (λ n. n < 2097154) l)
                (sym (ap (λ v. v.items) w.given-is ∙ w.in_ok-push.ensures.items))
                (All-push (λ n. n < 2097154) c.loop-i.given.items w.when.result c.loop-i.invariant.below
                w.when.ensures.below);
          }
      | in_default w ↦ record {
        value = λ assumptions table.
            ap (λ v. v.items) w.given-is
            ∙ given_same assumptions ns (named_outputs inputs (take (i + 1) outputs)) (named_output inputs o) more
            c.loop-i.given.items (c.loop-i.invariant.value assumptions table) c.entry_at.result
            (c.entry_at.ensures ∙ table o.var) w.in_default.not-Some;
        below = subst (λ (l : List ℕ). All (λ n. n < 2097154) l) (sym (ap (λ v. v.items) w.given-is))
            c.loop-i.invariant.below;
      }
    ]
