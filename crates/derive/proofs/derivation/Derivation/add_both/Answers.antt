use Rattle.std.proofs.Common.{ℕ, ◌≡◌, ◌<◌, ◌≤◌, ◌++◌, ◌∷◌, [], ◌∙◌, ap, ap₂, sym, subst, Some, length, get_or, arith}
use Rattle.std.specs.Option.{option_copied_mut}
use Rattle.std.specs.Prelude.{min}
use Rattle.std.proofs.lemmas.List.{length_push}
use Rattle.prefix.specs.declared.quant.Quant.TheVariants.{Exists}
use Rattle.calculus.specs.Derivations.Why.{ReducedFrom}
use Rattle.derive.specs.State.{Note}
use Rattle.derive.specs.Adding.{clause_note}
use Rattle.derive.specs.Kept.{BelongTogether}
use Rattle.derive.proofs.Additions.{kept_both, kept_room, kept_widened, adds_both}
use Rattle.derive.proofs.Growth.{pair_unlinked}
use Rattle.derive.proofs.derivation.Derivation.add_both.Goals as goal
use Rattle.derive.proofs.derivation.Derivation.add_both.Goals.{In_ok-ids}

here : (c : In_ok-ids) → c.self.inside.rows ≡ Some c.unwrap-rows.result.now
here c = sym c.as_mut.ensures.value ∙ ap option_copied_mut c.unwrap-rows.ensures

-- a frame without a place has one now
wide : (c : In_ok-ids) → BelongTogether c.self.inside.notes c.self.inside.rows c.widen.new.frames_from.items
    c.self.inside.cubes.items c.self.inside.finishes_from
wide c =
    kept_widened _ _ _ _ _ _ _ _
    (λ f. subst (λ n. min (get_or c.widen.new.frames_from.items f n) n ≤ get_or c.self.inside.frames_from.items f n)
    c.len-next.ensures (c.widen.ensures.told f)) (λ id at. at) (omega arith) c.self.invariant.0

-- the frame has a place, with no later id
placed : (c : In_ok-ids) → (c.args.frame < length c.widen.new.frames_from.items)
    × (get_or c.widen.new.frames_from.items c.args.frame (length c.self.inside.notes) ≤ length c.self.inside.notes)
placed c =
    let at = c.in_ok-widen.ensures.ok in
    (at.0, subst (λ n. get_or c.widen.new.frames_from.items c.args.frame n ≤ n) c.len-next.ensures at.1)

-- the note of the reduction of the clause with an id
abbrev reduction_note : ℕ → ℕ → Note
reduction_note frame clause = record { side = Exists; why = ReducedFrom clause; tag = frame }

pushed : (c : In_ok-ids)
    → c.enter_both.new.notes ≡ (c.self.inside.notes ++ Some (clause_note c.args.frame) ∷ [])
    ++ Some (reduction_note c.args.frame (length c.self.inside.notes)) ∷ []
pushed c =
    c.in_ok-ids.ensures.notes
    ∙ ap₂ (λ (first second : Note). (c.self.inside.notes ++ Some first ∷ []) ++ Some second ∷ [])
    c.in_ok-both.ensures.0
    (c.in_ok-both.ensures.1 ∙ ap (reduction_note c.args.frame) c.len-next.ensures)

marked : (c : In_ok-ids) → length c.enter_both.new.notes ≤ length c.widen_marks.new.marks
marked c =
    let n = ap length (pushed c) in
    let old = c.self.inside.notes in
    let first = length_push old (Some (clause_note c.args.frame)) in
    let second = length_push (old ++ Some (clause_note c.args.frame) ∷ [])
    (Some (reduction_note c.args.frame (length old))) in
    let h = c.in_ok-widen_marks.ensures.ok in
    let e = c.len-next.ensures in
    omega arith

pub invariant_of-self-2 : goal.invariant_of-self-2
invariant_of-self-2 c = (
  kept_both c.self.inside.notes _ _ _ _ c.args.frame c.args.lits.now c.args.row.now _ _ _ (placed c).0 (placed c).1
      (here c) (pushed c) c.in_ok-ids.ensures.rows (wide c),
  marked c,
)

pub returns-clause-ok : goal.returns-clause-ok
returns-clause-ok c =
    adds_both _ _ _ _ _ _ c.args.frame c.args.lits.now c.args.row.now _ _ _ _ _ (placed c).0 (placed c).1
    c.self.view_is (here c) (pushed c) c.in_ok-ids.ensures.rows c.in_ok-ids.ensures.ids.0 c.in_ok-ids.ensures.ids.1
    (wide c)

pub returns-clause-unlinked : goal.returns-clause-unlinked
returns-clause-unlinked c =
    pair_unlinked _ c.self.inside.notes c.enter_both.new.notes c.self.inside.rows _ _ c.args.lits.now c.args.row.now
    c.self.view_is (here c) c.in_ok-ids.ensures.rows (c.self.invariant.0.fits c.unwrap-rows.result.now (here c))

pub invariant_of-self-in_err-ids : goal.invariant_of-self-in_err-ids
invariant_of-self-in_err-ids c =
    let here : c.self.inside.rows ≡ Some c.unwrap-rows.result.now =
    sym c.as_mut.ensures.value ∙ ap option_copied_mut c.unwrap-rows.ensures in
    let h = c.in_ok-widen_marks.ensures.grown in
    let e = ap length c.in_err-ids.ensures.no_note in
    let room = c.self.invariant.1 in (
      kept_room _ _ _ _ _ _ _ _ _ _ _ c.len-next.ensures c.in_err-ids.ensures.no_note
          (ap Some c.in_err-ids.ensures.no_row ∙ sym here) c.widen.ensures.told (λ id at. at) (omega arith)
          c.self.invariant.0,
      omega arith,
    )
