use Rattle.std.proofs.Common.{◌≡◌, ◌∙◌, ap, sym, subst, Some, arith}
use Rattle.std.specs.Option.{option_copied_mut}
use Rattle.derive.specs.State.{Notes, State, is_live}
use Rattle.derive.specs.Antecedents.{AreSupported}
use Rattle.derive.specs.Sweeping.{AreMarked, is_unmarked}
use Rattle.derive.proofs.Drops.{kept_drop, kept_listed, drops_of}
use Rattle.derive.proofs.Missed.{listed_left}
use Rattle.derive.proofs.Sweeps.{swept, swept_clauses, swept_kept, swept_legal}
use Rattle.derive.proofs.derivation.Derivation.sweep.Goals as goal

pub sweep_all-requires-clause-live : goal.sweep_all-requires-clause-live
sweep_all-requires-clause-live c id at = ap (λ (d : State). is_live d id) c.self.view_is ∙ c.requires.live id at

pub invariant_of-self : goal.invariant_of-self
invariant_of-self c =
    let here : c.self.inside.rows ≡ Some c.unwrap.result.now = sym c.as_mut.ensures.value
    ∙ ap option_copied_mut c.unwrap.ensures in
    let p = c.sweep_all.ensures.drops in
    let kept = kept_drop (is_unmarked p.0) c.self.inside.notes c.sweep_all.new.notes c.self.inside.rows
    c.unwrap.result.now c.sweep_all.new.rows c.self.inside.frames_from.items c.self.inside.cubes.items
    c.self.inside.finishes_from here p.2 c.self.invariant.0 in (
      kept_listed _ _ _ _ _ _ (listed_left _ c.self.inside.cubes.items _ c.retain_cubes.ensures kept.listed) kept,
      (let same = p.2.same_next in let count = c.sweep_all.ensures.count in let room = c.self.invariant.1 in
          omega arith),
    )

pub returns-clause-sweeps : goal.returns-clause-sweeps
returns-clause-sweeps c =
    let here : c.self.inside.rows ≡ Some c.unwrap.result.now = sym c.as_mut.ensures.value
    ∙ ap option_copied_mut c.unwrap.ensures in
    let p = c.sweep_all.ensures.drops in
    let is : c.self.inside.notes ≡ c.args.self.now.notes = ap (λ (d : State). d.notes) c.self.view_is in
    let P : Notes → Type 0 = λ ns. AreMarked c.args.keep.now ns p.0 0 in
    swept c.args.keep.now c.args.self.now _ p.0 (subst AreSupported is c.self.invariant.0.supported) c.requires.live
    (subst P is p.1)
    (drops_of (is_unmarked p.0) _ _ _ _ _ _ c.self.view_is here p.2)

pub returns-clause-drops : goal.returns-clause-drops
returns-clause-drops c =
    let here : c.self.inside.rows ≡ Some c.unwrap.result.now = sym c.as_mut.ensures.value
    ∙ ap option_copied_mut c.unwrap.ensures in
    let p = c.sweep_all.ensures.drops in
    (is_unmarked p.0, drops_of (is_unmarked p.0) _ _ _ _ _ _ c.self.view_is here p.2)

pub returns-clause-kept : goal.returns-clause-kept
returns-clause-kept c = swept_kept c.args.keep.now c.args.self.now _ c.requires.live (returns-clause-sweeps c)

pub returns-clause-clauses : goal.returns-clause-clauses
returns-clause-clauses c =
    let here : c.self.inside.rows ≡ Some c.unwrap.result.now = sym c.as_mut.ensures.value
    ∙ ap option_copied_mut c.unwrap.ensures in
    let p = c.sweep_all.ensures.drops in
    swept_clauses c.args.self.now _ p.0 (drops_of (is_unmarked p.0) _ _ _ _ _ _ c.self.view_is here p.2)

pub returns-clause-legal : goal.returns-clause-legal
returns-clause-legal c scopes legal =
    let here : c.self.inside.rows ≡ Some c.unwrap.result.now = sym c.as_mut.ensures.value
    ∙ ap option_copied_mut c.unwrap.ensures in
    let p = c.sweep_all.ensures.drops in
    swept_legal c.args.self.now _ p.0 (drops_of (is_unmarked p.0) _ _ _ _ _ _ c.self.view_is here p.2) scopes legal
