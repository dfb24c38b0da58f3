use Rattle.std.proofs.Common.{◌≡◌, ◌∙◌, ap, ap₂}
use Rattle.std.specs.Prelude.{max}
use Rattle.calculus.specs.Derivations.Why.{ResolvedFrom}
use Rattle.std.proofs.lemmas.Result.{IfOk-weaker}
use Rattle.calculus.specs.Rows.{Row, resolve}
use Rattle.derive.specs.State.{clause_from, row_of, side_at, tag_at}
use Rattle.derive.proofs.Growth.{gains_if_added, resolvent_none}
use Rattle.derive.proofs.Legality.{legal_resolvent, supported_resolvent}
use Rattle.derive.proofs.derivation.Derivation.resolve.Goals as goal

note_is : (c : goal.After-as_slice) → c.new-note.result ≡ record {
  side = side_at c.args.self.now c.args.a;
  why =
      ResolvedFrom c.args.a c.args.b c.args.pivot;
  tag = max (tag_at c.args.self.now c.args.a)
      (tag_at c.args.self.now c.args.b);
}
note_is c = c.new-note.ensures
    ∙ ap₂ (λ side tag. record { side = side; why = ResolvedFrom c.args.a c.args.b c.args.pivot; tag = tag })
    c.side.ensures (c.max-tag.ensures ∙ ap₂ max c.tag.ensures.value c.tag-2.ensures.value)

pub add-requires-clause-support : goal.add-requires-clause-support
add-requires-clause-support c = supported_resolvent c.args.self.now c.args.a c.args.b c.args.pivot c.new-note.result
    (note_is c) c.requires.positive c.requires.negative c.requires.one_side

pub returns-clause-legal : goal.returns-clause-legal
returns-clause-legal c =
    let old = c.args.self.now in
    let is : c.new-note.result ≡ record {
      side = side_at old c.args.a;
      why = ResolvedFrom c.args.a c.args.b
          c.args.pivot;
      tag = max (tag_at old c.args.a) (tag_at old c.args.b);
    } =
    c.new-note.ensures
    ∙ ap₂ (λ side tag. record { side = side; why = ResolvedFrom c.args.a c.args.b c.args.pivot; tag = tag })
    c.side.ensures (c.max-tag.ensures ∙ ap₂ max c.tag.ensures.value c.tag-2.ensures.value) in
    let row : c.as_slice.result.now ≡ resolve (row_of old c.args.a) (row_of old c.args.b) c.args.pivot =
    c.as_slice.ensures ∙ c.in_ok-resolve.ensures.ok ∙ ap₂ (λ (a b : Row). resolve a b c.args.pivot) c.lits.ensures
    c.lits-2.ensures in
    IfOk-weaker c.add.result _ _ (λ id adds may legal. legal_resolvent c.args.prefix.now _ _ id c.args.a c.args.b
    c.args.pivot _ c.requires.positive c.requires.negative c.requires.one_side (rw (is, row) at adds) may legal)
    c.add.ensures.ok

pub returns-clause-gains : goal.returns-clause-gains
returns-clause-gains c =
    let is : c.new-note.result ≡ record {
      side = side_at c.args.self.now c.args.a;
      why = ResolvedFrom c.args.a c.args.b
          c.args.pivot;
      tag = max (tag_at c.args.self.now c.args.a) (tag_at c.args.self.now c.args.b);
    } =
    c.new-note.ensures
    ∙ ap₂ (λ side tag. record { side = side; why = ResolvedFrom c.args.a c.args.b c.args.pivot; tag = tag })
    c.side.ensures (c.max-tag.ensures ∙ ap₂ max c.tag.ensures.value c.tag-2.ensures.value) in
    gains_if_added c.args.self.now c.add.new.self c.new-note.result c.as_slice.result.now c.add.result
    (λ id. ap (clause_from id c.as_slice.result.now) is ∙ resolvent_none id c.as_slice.result.now _
    (side_at c.args.self.now c.args.a) c.args.a c.args.b c.args.pivot)
    c.add.ensures.ok c.add.ensures.unlinked
