use Rattle.std.proofs.Common.{◌≡◌, ◌++◌, ◌∷◌, [], ap, ◌∙◌, refl, length, arith, ◌+◌}
use Rattle.qcir_reader.proofs.Keeping.{gate_kept}
use Rattle.qcir_reader.proofs.reader.Reader.end_gate.Goals as goal

pub returns-in_ok-push-clause-kept : goal.returns-in_ok-push-clause-kept
returns-in_ok-push-clause-kept c = λ f k.
    let r = c.args.self.now in
    let taken : c.replace-inputs.result.items ≡ r.inputs.items = ap (λ v. v.items) c.replace-inputs.ensures.value in
    let inputs : c.in_ok-list.list ≡ r.inputs.items = c.in_ok-list.ensures.list ∙ taken in
    let long : length c.replace-inputs.result.items ≡ length r.inputs.items = ap length taken in
    let many : c.len.result ≡ length r.inputs.items = omega (arith, c.len.ensures, c.replace-inputs.result.ok.0, long)
    in
    gate_kept r _ f k c.requires.last
    (c.in_ok-push.ensures.items
    ∙ ap (λ v. r.gates.items ++ record { var = v; kind = r.kind; inputs = c.in_ok-list.list } ∷ [])
    c.in-Some.ensures.1 ∙ ap (λ x. r.gates.items ++ record { var = r.name; kind = r.kind; inputs = x } ∷ []) inputs)
    (ap (λ n. r.amount + (n + 1)) many) refl (ap (λ v. v.items) c.replace-inputs.ensures.after ∙ c.new.ensures.items)
    refl refl refl refl refl refl
