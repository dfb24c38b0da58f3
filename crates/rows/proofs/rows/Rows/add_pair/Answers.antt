use Rattle.std.proofs.Common.{length-append, refl, ap₂, ◌≡◌, ◌+◌, ◌≤◌, ℕ, List, [], ◌∷◌, ◌++◌, length, Option, Some, None, ap, ap₂, sym, subst, ◌∙◌, arith}
use Rattle.prefix.specs.Literal.{Literal}
use Rattle.rows.specs.Blocks.{Block}
use Rattle.rows.specs.declared.places.Place.{Place}
use Rattle.rows.specs.Arena.{Arena, with_row}
use Rattle.rows.specs.Places.{most_blocks}
use Rattle.rows.specs.Stored.{AreStored, arena_of}
use Rattle.rows.proofs.Arenas.{arena_put}
use Rattle.rows.proofs.Storing.{blocks_few, stored_put}
use Rattle.rows.proofs.rows.Rows.add_pair.Goals as goal

pub overflow_sub-self-inside : goal.overflow_sub-self-inside
overflow_sub-self-inside c =
    let few = blocks_few (length c.self.inside.lits.items) c.self.inside.places c.self.inside.blocks.items
    c.self.inside.live c.self.inside.blocks.room c.self.invariant in
    let is = c.len-3.ensures in
    omega arith

pub invariant_of-self-2 : goal.invariant_of-self-2
invariant_of-self-2 c =
    let lits = c.self.inside.lits.items in
    let places = c.self.inside.places in
    let first = c.args.first.now in
    let second = c.args.second.now in
    let e1 : c.put.new.all.items ≡ lits ++ first = c.put.ensures.lits ∙ ap (λ (ls : List Literal). ls ++ first)
    c.reserve-2.ensures.items in
    let middle = places ++ Some (record { start = length lits; len = length first; block = None }) ∷ [] in
    let ok_lits = c.self.inside.lits.ok.0 in
    let start : c.len.result ≡ length lits = c.len.ensures ∙ ok_lits in
    let size : length c.put.new.all.items ≡ length lits + length first = ap (λ (ls : List Literal). length ls) e1
    ∙ length-append lits first in
    let start_two : c.len-2.result + length first ≡ length c.put.new.all.items =
    (let s = c.len-2.ensures in omega arith) in
    let slot_at : ℕ → ℕ → Option Place = λ n m. Some (record { start = n; len = m; block = None }) in
    let one_is = c.in_ok-slot.ensures ∙ ap (λ (n : ℕ). slot_at n (length first)) start in
    let two_is = c.in_ok-next.ensures ∙ ap (λ (n : ℕ). slot_at n (length second)) start_two in
    let e2 : c.push_pair.new.self ≡ middle ++ slot_at (length c.put.new.all.items) (length second) ∷ [] =
    c.in_ok-push_pair.ensures.ok
    ∙ ap₂ (λ (a b : Option Place). (places ++ a ∷ []) ++ b ∷ []) one_is two_is in
    let few = blocks_few (length lits) places c.self.inside.blocks.items c.self.inside.live
    c.self.inside.blocks.room c.self.invariant in
    let is = c.len-3.ensures in
    let room = c.in_ok-reserve.ensures.ok in
    let fits : (c.self.inside.live + 1) + 1 ≤ c.reserve.new.self.room = omega arith in
    let most = c.in_ok-within.ensures in
    let few_one : c.self.inside.live + 1 ≤ most_blocks = omega arith in
    let few_two : (c.self.inside.live + 1) + 1 ≤ most_blocks = omega arith in
    let fits_one : c.self.inside.live + 1 ≤ c.reserve.new.self.room = omega arith in
    let two : (c.self.inside.live + 1) + 1 ≡ c.self.inside.live + 2 = omega arith in
    let one = stored_put lits first c.put.new.all.items places middle c.self.inside.blocks.items
    c.self.inside.live c.self.inside.blocks.room c.reserve.new.self.room e1 refl
    c.self.invariant fits_one few_one in
    let both = stored_put c.put.new.all.items second c.put-2.new.all.items middle
    c.push_pair.new.self c.self.inside.blocks.items (c.self.inside.live + 1) c.reserve.new.self.room
    c.reserve.new.self.room c.put-2.ensures.lits e2 one fits few_two in
    let P : List Block → Type 0 = λ bs. AreStored (length c.put-2.new.all.items) c.push_pair.new.self bs
    ((c.self.inside.live + 1) + 1) c.reserve.new.self.room in
    let Q : ℕ → Type 0 = λ n. AreStored (length c.put-2.new.all.items) c.push_pair.new.self
    c.reserve.new.self.items n c.reserve.new.self.room in
    subst Q two (subst P (sym c.reserve.ensures.items) both)

pub returns-clause-arena : goal.returns-clause-arena
returns-clause-arena c =
    let lits = c.self.inside.lits.items in
    let places = c.self.inside.places in
    let blocks = c.self.inside.blocks.items in
    let first = c.args.first.now in
    let second = c.args.second.now in
    let e1 : c.put.new.all.items ≡ lits ++ first = c.put.ensures.lits ∙ ap (λ (ls : List Literal). ls ++ first)
    c.reserve-2.ensures.items in
    let middle = places ++ Some (record { start = length lits; len = length first; block = None }) ∷ [] in
    let ok_lits = c.self.inside.lits.ok.0 in
    let start : c.len.result ≡ length lits = c.len.ensures ∙ ok_lits in
    let size : length c.put.new.all.items ≡ length lits + length first = ap (λ (ls : List Literal). length ls) e1
    ∙ length-append lits first in
    let start_two : c.len-2.result + length first ≡ length c.put.new.all.items =
    (let s = c.len-2.ensures in omega arith) in
    let slot_at : ℕ → ℕ → Option Place = λ n m. Some (record { start = n; len = m; block = None }) in
    let one_is = c.in_ok-slot.ensures ∙ ap (λ (n : ℕ). slot_at n (length first)) start in
    let two_is = c.in_ok-next.ensures ∙ ap (λ (n : ℕ). slot_at n (length second)) start_two in
    let e2 : c.push_pair.new.self ≡ middle ++ slot_at (length c.put.new.all.items) (length second) ∷ [] =
    c.in_ok-push_pair.ensures.ok
    ∙ ap₂ (λ (a b : Option Place). (places ++ a ∷ []) ++ b ∷ []) one_is two_is in
    let few = blocks_few (length lits) places blocks c.self.inside.live c.self.inside.blocks.room
    c.self.invariant in
    let is = c.len-3.ensures in
    let room = c.in_ok-reserve.ensures.ok in
    let most = c.in_ok-within.ensures in
    let few_one : c.self.inside.live + 1 ≤ most_blocks = omega arith in
    let few_two : (c.self.inside.live + 1) + 1 ≤ most_blocks = omega arith in
    let fits_one : c.self.inside.live + 1 ≤ c.reserve.new.self.room = omega arith in
    let one = stored_put lits first c.put.new.all.items places middle blocks c.self.inside.live
    c.self.inside.blocks.room c.reserve.new.self.room e1 refl c.self.invariant fits_one
    few_one in
    ap (λ (bs : List Block). arena_of c.put-2.new.all.items bs c.push_pair.new.self) c.reserve.ensures.items
    ∙ arena_put c.put.new.all.items second c.put-2.new.all.items blocks middle c.push_pair.new.self
    c.put-2.ensures.lits e2 one.spread
    ∙ ap (λ (a : Arena). with_row a second)
    (arena_put lits first c.put.new.all.items blocks places middle e1 refl c.self.invariant.spread
    ∙ ap (λ (a : Arena). with_row a first) c.self.view_is)
