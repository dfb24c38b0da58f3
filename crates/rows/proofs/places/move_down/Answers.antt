use Rattle.std.proofs.Common.{◌≡◌, ◌+◌, ◌≤◌, ℕ, List, Option, Some, drop, set, length, ap, sym, subst, refl, ◌∙◌, arith}
use Rattle.std.specs.Option.{option_map}
use lib.Seq.{paste}
use Rattle.prefix.specs.Literal.{Literal}
use Rattle.rows.specs.declared.places.Place.{Place}
use Rattle.rows.specs.Places.{AreMoving, KeepsParts, moved_to}
use Rattle.rows.proofs.Parts.{moved_is, moved_length, moving_down, parts_down}
use Rattle.rows.proofs.places.move_down.Goals as goal

pub returns-clause-moving : goal.returns-clause-moving
returns-clause-moving c =
    let xs = c.args.lits.now.items in
    let places = c.args.places.now in
    let place = c.args.place in
    let e : c.copy_within.new.self.items ≡ paste xs c.args.to (drop place.start xs) place.len =
    moved_is xs c.copy_within.new.self.items c.args.to place.start place.len c.copy_within.ensures.items in
    let down : c.args.to ≤ place.start = c.requires.moving.above c.args.id place (omega arith) c.requires.place in
    let within : place.start + place.len ≤ length xs = c.requires.moving.spread.within c.args.id place
    c.requires.place in
    let l : length c.copy_within.new.self.items ≡ length xs = ap (λ (ls : List Literal). length ls) e
    ∙ moved_length xs c.args.to place.start place.len down within in
    let P : ℕ → Type 0 = λ n. AreMoving n
    (set places c.args.id (Some (record { start = c.args.to; len = place.len; block = place.block })))
    (c.args.id + 1) (c.args.to + place.len) in
    let is : c.set_start.new.self ≡ set places c.args.id (Some (moved_to c.args.to place)) = c.set_start.ensures
    ∙ ap (λ (o : Option Place). set places c.args.id (option_map (moved_to c.args.to) o)) c.requires.place in
    let Q : List (Option Place) → Type 0 = λ ps. AreMoving (length c.copy_within.new.self.items) ps
    (c.args.id + 1) (c.args.to + place.len) in
    subst Q (sym is)
    (subst P (sym l) (moving_down (length xs) places c.args.id c.args.to c.requires.moving place c.requires.place))

pub returns-clause-kept : goal.returns-clause-kept
returns-clause-kept c =
    let xs = c.args.lits.now.items in
    let places = c.args.places.now in
    let place = c.args.place in
    let e : c.copy_within.new.self.items ≡ paste xs c.args.to (drop place.start xs) place.len =
    moved_is xs c.copy_within.new.self.items c.args.to place.start place.len c.copy_within.ensures.items in
    let P : List Literal → Type 0 = λ ls. KeepsParts xs places ls
    (set places c.args.id (Some (record { start = c.args.to; len = place.len; block = place.block }))) in
    let is : c.set_start.new.self ≡ set places c.args.id (Some (moved_to c.args.to place)) = c.set_start.ensures
    ∙ ap (λ (o : Option Place). set places c.args.id (option_map (moved_to c.args.to) o)) c.requires.place in
    let Q : List (Option Place) → Type 0 = λ ps. KeepsParts xs places c.copy_within.new.self.items ps in
    subst Q (sym is)
    (subst P (sym e) (parts_down (length xs) places c.args.id c.args.to c.requires.moving place c.requires.place xs
    refl))
