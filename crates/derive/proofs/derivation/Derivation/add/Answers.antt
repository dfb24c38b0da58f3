use Rattle.std.proofs.Common.{ℕ, ◌≡◌, ◌<◌, ◌≤◌, ◌++◌, ◌∷◌, [], ◌∙◌, ap, sym, subst, Some, length, get_or, Contains, true, arith}
use Rattle.std.specs.Option.{option_copied_mut}
use Rattle.std.specs.Prelude.{min}
use Rattle.std.proofs.lemmas.List.{length_push}
use Rattle.derive.specs.State.{Note, is_finish}
use Rattle.derive.specs.Dropping.{is_cube}
use Rattle.derive.specs.Kept.{BelongTogether}
use Rattle.derive.proofs.Additions.{kept_add, kept_room, kept_widened, adds_of}
use Rattle.derive.proofs.Growth.{adds_unlinked}
use Rattle.derive.proofs.derivation.Derivation.add.Goals as goal
use Rattle.derive.proofs.derivation.Derivation.add.Goals.{In_ok-id}

here : (c : In_ok-id) → c.self.inside.rows ≡ Some c.unwrap.result.now
here c = sym c.as_mut.ensures.value ∙ ap option_copied_mut c.unwrap.ensures

-- a frame without a place has one now
wide : (c : In_ok-id) → BelongTogether c.self.inside.notes c.self.inside.rows c.widen.new.frames_from.items
    c.list_cube.new.cubes.items c.note_finish.new.finishes_from
wide c =
    kept_widened _ _ _ _ _ _ _ _
    (λ f. subst (λ n. min (get_or c.widen.new.frames_from.items f n) n ≤ get_or c.self.inside.frames_from.items f n)
    c.len-next.ensures (c.widen.ensures.told f)) c.list_cube.ensures.kept c.note_finish.ensures.sooner
    c.self.invariant.0

-- the frame of the step has a place, with no later id
placed : (c : In_ok-id) → (c.args.step.tag < length c.widen.new.frames_from.items)
    × (get_or c.widen.new.frames_from.items c.args.step.tag (length c.self.inside.notes) ≤ length c.self.inside.notes)
placed c =
    let tag : c.tag.result ≡ c.args.step.tag = c.tag.ensures ∙ ap (λ (n : Note). n.tag) c.in_ok-note.ensures in
    let frames = c.widen.new.frames_from.items in
    let P : ℕ → ℕ → Type 0 = λ t n. (t < length frames) × (get_or frames t n ≤ n) in
    subst (λ t. P t (length c.self.inside.notes)) tag
    (subst (P c.tag.result) c.len-next.ensures c.in_ok-widen.ensures.ok)

-- an initial cube is listed under its id
listed : (c : In_ok-id) → is_cube c.args.step.side c.args.step.why ≡ true
    → Contains c.list_cube.new.cubes.items (length c.self.inside.notes)
listed c is =
    subst (λ n. Contains c.list_cube.new.cubes.items n) c.len-next.ensures
    (c.in_ok-list_cube.ensures.listed
    (subst (λ (n : Note). is_cube n.side n.why ≡ true) (sym c.in_ok-note.ensures) is))

-- a finish is told of under its id
told : (c : In_ok-id) → is_finish c.args.step.why ≡ true → c.note_finish.new.finishes_from ≤ length c.self.inside.notes
told c is =
    subst (λ n. c.note_finish.new.finishes_from ≤ n) c.len-next.ensures
    (c.note_finish.ensures.there (subst (λ (n : Note). is_finish n.why ≡ true) (sym c.in_ok-note.ensures) is))

pub invariant_of-self-2 : goal.invariant_of-self-2
invariant_of-self-2 c =
    let pushed : c.enter.new.notes ≡ c.self.inside.notes ++ Some c.args.step ∷ [] =
    c.in_ok-id.ensures.notes ∙ ap (λ (n : Note). c.self.inside.notes ++ Some n ∷ []) c.in_ok-note.ensures in
    let n = ap length pushed in
    let l = length_push c.self.inside.notes (Some c.args.step) in
    let h = c.in_ok-widen_marks.ensures.ok in
    let e = c.len-next.ensures in (
      kept_add c.self.inside.notes _ _ _ _ c.args.step c.args.lits.now _ _ _ (placed c).0 (placed c).1 (listed c)
          (told c) (here c) pushed c.in_ok-id.ensures.rows (rw (← c.self.view_is) at c.requires.support) (wide c),
      omega arith,
    )

pub returns-clause-ok : goal.returns-clause-ok
returns-clause-ok c =
    let pushed : c.enter.new.notes ≡ c.self.inside.notes ++ Some c.args.step ∷ [] =
    c.in_ok-id.ensures.notes ∙ ap (λ (n : Note). c.self.inside.notes ++ Some n ∷ []) c.in_ok-note.ensures in
    adds_of _ _ _ _ _ _ c.args.step c.args.lits.now _ _ _ _ c.self.view_is (here c) pushed c.in_ok-id.ensures.rows
    c.in_ok-id.ensures.id c.self.invariant.0

pub returns-clause-unlinked : goal.returns-clause-unlinked
returns-clause-unlinked c =
    adds_unlinked _ c.self.inside.notes c.enter.new.notes c.self.inside.rows _ _ c.args.lits.now c.self.view_is
    (here c) c.in_ok-id.ensures.rows (c.self.invariant.0.fits c.unwrap.result.now (here c))

pub invariant_of-self-in_err-id : goal.invariant_of-self-in_err-id
invariant_of-self-in_err-id c =
    let here : c.self.inside.rows ≡ Some c.unwrap.result.now =
    sym c.as_mut.ensures.value ∙ ap option_copied_mut c.unwrap.ensures in
    let h = c.in_ok-widen_marks.ensures.grown in
    let e = ap length c.in_err-id.ensures.no_note in
    let room = c.self.invariant.1 in (
      kept_room _ _ _ _ _ _ _ _ _ _ _ c.len-next.ensures c.in_err-id.ensures.no_note
          (ap Some c.in_err-id.ensures.no_row ∙ sym here) c.widen.ensures.told c.list_cube.ensures.kept
          c.note_finish.ensures.sooner c.self.invariant.0,
      omega arith,
    )
