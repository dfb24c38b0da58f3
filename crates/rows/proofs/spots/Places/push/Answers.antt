use Rattle.std.specs.Prelude.{count_by, vec_capacity}
use Rattle.std.proofs.Common.{◌≡◌, ◌+◌, ◌≤◌, ℕ, List, Option, is_some, length, sym, subst, ap, ◌∙◌, arith}
use Rattle.std.proofs.lemmas.Result.{on_ok_weaker}
use Rattle.rows.specs.declared.places.Place.{Place}
use Rattle.rows.specs.Places.{blocks_of}
use Rattle.rows.specs.Spots.{AreSpotted}
use Rattle.rows.proofs.Standing.{blocks_kept, kept_pushed, push_stands}
use Rattle.rows.proofs.spots.Places.push.Goals as goal

pub invariant_of-self-2 : goal.invariant_of-self-2
invariant_of-self-2 c =
    let slots = c.self.inside.slots in
    let spots = c.self.inside.spots.items in
    let told = c.in_ok-reserve.ensures in
    let live : count_by is_some (blocks_of c.args.self.now) ≤ c.args.live = c.requires.live in
    let same : count_by is_some (blocks_of slots) ≡ count_by is_some (blocks_of c.args.self.now) =
    ap (count_by is_some)
    (sym (blocks_kept spots slots) ∙ ap (λ (ps : List (Option Place)). blocks_of ps) c.self.view_is) in
    let fits : c.args.live + 1 ≤ vec_capacity c.reserve.new.spots = told.ok in
    let enough : count_by is_some (blocks_of slots) + 1 ≤ vec_capacity c.reserve.new.spots = omega arith in
    let P : ℕ → Type 0 = λ n. AreSpotted (blocks_of c.push.new.self) n (vec_capacity c.reserve.new.spots) in
    subst P (sym (ap length told.items))
    (kept_pushed c.push.result slots c.push.new.self c.args.slot (length spots) (vec_capacity c.self.inside.spots)
    (vec_capacity c.reserve.new.spots) c.push.ensures.ok c.push.ensures.err c.self.invariant c.requires.own told.room
    enough)

pub returns-clause-ok : goal.returns-clause-ok
returns-clause-ok c =
    on_ok_weaker c.push.result
    (push_stands c.self.inside.spots.items c.reserve.new.spots.items c.self.inside.slots c.push.new.self c.args.self.now
    c.args.slot c.in_ok-reserve.ensures.items c.requires.own c.self.view_is)
    c.push.ensures.ok
