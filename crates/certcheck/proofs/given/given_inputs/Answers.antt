use Rattle.std.proofs.Common.{◌≡◌, ◌+◌, ◌*◌, ◌<◌, ◌++◌, ◌∷◌, [], List, ℕ, take, sym, ap, subst, ◌∙◌, arith}
use Rattle.std.specs.List.{All}
use Rattle.std.proofs.lemmas.List.Elements.{All-push}
use Rattle.certcheck.specs.Check.{named_inputs}
use Rattle.certcheck.proofs.Assumed.{given_more, given_same}
use Rattle.certcheck.proofs.Named.{inputs_more}
use Rattle.certcheck.proofs.given.given_inputs.Goals.{in-Some+in_ok-push, in_default}
use Rattle.certcheck.proofs.given.given_inputs.Goals as goal

pub loop-i-preserved : goal.loop-i-preserved
loop-i-preserved c =
    let i = c.loop-i.i in
    let x = c.index-inputs-i.result in
    let ns = named_inputs 0 (take i c.args.inputs.now) in
    let more : named_inputs 0 (take (i + 1) c.args.inputs.now)
    ≡ ns ++ record { variable = x; number = 2 * (i + 1) } ∷ [] =
    inputs_more c.args.inputs.now i x (omega arith)
    ∙ ap (λ y. ns ++ record { variable = y; number = 2 * (i + 1) } ∷ []) (sym c.index-inputs-i.is) in
    elim c.match-entry_at.branch [
      | in-Some+in_ok-push w ↦ record {
        value = λ assumptions table.
            given_more assumptions ns (named_inputs 0 (take (i + 1) c.args.inputs.now))
            (record { variable = x; number = 2 * (i + 1) }) more c.loop-i.given.items
            (c.loop-i.invariant.value assumptions table) c.match-entry_at.given.items w.in-Some.value w.when.result
            (sym w.in-Some.is ∙ c.entry_at.ensures ∙ table x) w.when.ensures.value
            (ap (λ v. v.items) w.given-is ∙ w.in_ok-push.ensures.items);
        below = subst (λ (l : List ℕ). All (λ n. n < 2097154) l)
            (sym (ap (λ v. v.items) w.given-is ∙ w.in_ok-push.ensures.items))
            (All-push (λ n. n < 2097154) c.loop-i.given.items w.when.result c.loop-i.invariant.below
            w.when.ensures.below);
      }
      | in_default w ↦ record {
        value = λ assumptions table.
            ap (λ v. v.items) w.given-is
            ∙ given_same assumptions ns (named_inputs 0 (take (i + 1) c.args.inputs.now))
            (record { variable = x; number = 2 * (i + 1) }) more c.loop-i.given.items
            (c.loop-i.invariant.value assumptions table) c.entry_at.result (c.entry_at.ensures ∙ table x)
            w.in_default.not-Some;
        below = subst (λ (l : List ℕ). All (λ n. n < 2097154) l) (sym (ap (λ v. v.items) w.given-is))
            c.loop-i.invariant.below;
      }
    ]
