use Rattle.std.specs.Prelude.{count_by, vec_capacity}
use Rattle.std.proofs.Common.{◌≡◌, ◌+◌, ◌≤◌, ◌++◌, ◌∷◌, [], ℕ, List, Option, is_some, length, refl, sym, subst, ap, ◌∙◌, arith}
use Rattle.std.proofs.lemmas.Result.{on_ok_weaker}
use Rattle.rows.specs.declared.places.Place.{Place}
use Rattle.rows.specs.Places.{blocks_of}
use Rattle.rows.specs.Spots.{AreSpotted}
use Rattle.rows.proofs.Standing.{blocks_kept, kept_pushed_pair, push_stands}
use Rattle.rows.proofs.spots.Places.push_pair.Goals as goal

pub invariant_of-self-2 : goal.invariant_of-self-2
invariant_of-self-2 c =
    let slots = c.self.inside.slots in
    let spots = c.self.inside.spots.items in
    let told = c.in_ok-reserve.ensures in
    let live : count_by is_some (blocks_of c.args.self.now) ≤ c.args.live = c.requires.live in
    let same : count_by is_some (blocks_of slots) ≡ count_by is_some (blocks_of c.args.self.now) =
    ap (count_by is_some)
    (sym (blocks_kept spots slots) ∙ ap (λ (ps : List (Option Place)). blocks_of ps) c.self.view_is) in
    let fits : c.args.live + 2 ≤ vec_capacity c.reserve.new.spots = told.ok in
    let enough : count_by is_some (blocks_of slots) + 2 ≤ vec_capacity c.reserve.new.spots = omega arith in
    let P : ℕ → Type 0 = λ n. AreSpotted (blocks_of c.push_pair.new.self) n (vec_capacity c.reserve.new.spots) in
    subst P (sym (ap length told.items))
    (kept_pushed_pair c.push_pair.result slots c.push_pair.new.self c.args.first c.args.second (length spots)
    (vec_capacity c.self.inside.spots) (vec_capacity c.reserve.new.spots) c.push_pair.ensures.ok c.push_pair.ensures.err
    c.self.invariant c.requires.first c.requires.second told.room enough)

pub returns-clause-ok : goal.returns-clause-ok
returns-clause-ok c =
    let slots = c.self.inside.slots in
    let spots = c.self.inside.spots.items in
    on_ok_weaker c.push_pair.result
    (push_stands spots c.reserve.new.spots.items (slots ++ c.args.first ∷ []) c.push_pair.new.self
    (c.args.self.now ++ c.args.first ∷ []) c.args.second c.in_ok-reserve.ensures.items c.requires.second
    (push_stands spots spots slots (slots ++ c.args.first ∷ []) c.args.self.now c.args.first refl c.requires.first
    c.self.view_is refl))
    c.push_pair.ensures.ok
