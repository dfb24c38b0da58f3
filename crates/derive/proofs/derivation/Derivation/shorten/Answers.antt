use Rattle.std.proofs.Common.{◌≡◌, ◌∙◌, length, take, ap, sym, subst, Option, Some, arith}
use Rattle.std.specs.Option.{option_copied_mut, option_map}
use Rattle.std.proofs.lemmas.List.{length-take}
use Rattle.rows.specs.Arena.{Arena}
use Rattle.rows.proofs.Shortening.{NoneFrom}
use Rattle.derive.specs.Inputs.{shortened}
use Rattle.derive.specs.Kept.{BelongTogether}
use Rattle.derive.specs.State.{Notes, State, is_live}
use Rattle.derive.proofs.Shortening.{front_kept}
use Rattle.derive.proofs.derivation.Derivation.shorten.Goals as goal

pub take_back-requires : goal.take_back-requires
take_back-requires c = λ id past.
    let here : c.self.inside.rows ≡ Some c.unwrap.result.now =
    sym c.as_mut.ensures.value ∙ ap option_copied_mut c.unwrap.ensures in
    (c.self.invariant.0.fits c.unwrap.result.now here).same_live id
    ∙ (ap (λ (d : State). is_live d id) c.self.view_is ∙ c.requires.none id past)

here : (c : goal.After-self-1) → c.self.inside.rows ≡ Some c.unwrap.result.now
here c = sym c.as_mut.ensures.value ∙ ap option_copied_mut c.unwrap.ensures

none : (c : goal.After-self-1) → NoneFrom c.self.inside.notes c.args.first
none c = λ id past. ap (λ (d : State). is_live d id) c.self.view_is ∙ c.requires.none id past

kept : (c : goal.After-self-1)
    → BelongTogether c.truncate.new.self
    (Some c.take_back.new.self) c.self.inside.frames_from.items c.self.inside.cubes.items
    c.self.inside.finishes_from
kept c =
    let notes = c.self.inside.notes in
    let first = c.args.first in
    let cubes = c.self.inside.cubes.items in
    let finishes = c.self.inside.finishes_from in
    let old : BelongTogether notes
    (Some c.unwrap.result.now) c.self.inside.frames_from.items cubes c.self.inside.finishes_from =
    subst (λ (rows : Option Arena). BelongTogether notes rows c.self.inside.frames_from.items cubes
    c.self.inside.finishes_from) (here c) c.self.invariant.0 in
    let front = front_kept notes first
    (none c) c.unwrap.result.now c.self.inside.frames_from.items cubes c.self.inside.finishes_from old in
    subst (λ (ns : Notes). BelongTogether ns (Some c.take_back.new.self) c.self.inside.frames_from.items cubes finishes)
    (sym c.truncate.ensures)
    (subst (λ (a : Arena). BelongTogether (take first notes) (Some a) c.self.inside.frames_from.items cubes finishes)
    (sym c.take_back.ensures) front)

pub invariant_of-self : goal.invariant_of-self
invariant_of-self c = (
  kept c,
  (let short = length-take c.args.first c.self.inside.notes in
      let same = ap (λ (ns : Notes). length ns) c.truncate.ensures in
      let room = c.self.invariant.1 in omega arith),
)

pub returns : goal.returns
returns c =
    let here : c.self.inside.rows ≡ Some c.unwrap.result.now =
    sym c.as_mut.ensures.value ∙ ap option_copied_mut c.unwrap.ensures in
    let rows : Some c.take_back.new.self ≡ option_map (take c.args.first) c.self.inside.rows =
    ap Some c.take_back.ensures ∙ sym (ap (option_map (take c.args.first)) here) in
    (λ i. record { notes = c.truncate.ensures i; rows = rows i }) ∙ ap (shortened c.args.first) c.self.view_is
