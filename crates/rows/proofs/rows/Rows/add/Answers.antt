use Rattle.std.proofs.Common.{ℕ, ◌≡◌, ◌+◌, ◌≤◌, List, [], ◌∷◌, ◌++◌, length, Option, Some, None, ap, sym, subst, ◌∙◌, arith}
use Rattle.std.specs.Option.{option_map}
use Rattle.std.proofs.lemmas.List.{length-map}
use Rattle.prefix.specs.Literal.{Literal}
use Rattle.rows.specs.Blocks.{Block}
use Rattle.rows.specs.declared.places.Place.{Place}
use Rattle.rows.specs.Arena.{Arena, ChangesAt, new_row, with_row}
use Rattle.rows.specs.Stored.{AreStored, arena_of, stored}
use Rattle.rows.proofs.Arenas.{ChangesAt-more, arena_put}
use Rattle.rows.proofs.Storing.{blocks_few, stored_put}
use Rattle.rows.proofs.rows.Rows.add.Goals as goal

pub overflow_sub-self-inside : goal.overflow_sub-self-inside
overflow_sub-self-inside c =
    let few = blocks_few (length c.self.inside.lits.items) c.self.inside.places c.self.inside.blocks.items
    c.self.inside.live c.self.inside.blocks.room c.self.invariant in
    let is = c.len-2.ensures in
    omega arith

pub invariant_of-self-2 : goal.invariant_of-self-2
invariant_of-self-2 c =
    let lits = c.self.inside.lits.items in
    let places = c.self.inside.places in
    let row = c.args.lits.now in
    let e1 : c.put.new.all.items ≡ lits ++ row = c.put.ensures.lits ∙ ap (λ (ls : List Literal). ls ++ row)
    c.reserve-2.ensures.items in
    let start : c.len.result ≡ length lits = c.len.ensures ∙ c.self.inside.lits.ok.0 in
    let e2 : c.push.new.self ≡ places ++ Some (record { start = length lits; len = length row; block = None }) ∷ [] =
    c.in_ok-push.ensures.ok
    ∙ ap (λ (o : Option Place). places ++ o ∷ [])
    (c.in_ok-slot.ensures ∙ ap (λ (n : ℕ). Some (record { start = n; len = length row; block = None })) start) in
    let few = blocks_few (length lits) places c.self.inside.blocks.items c.self.inside.live
    c.self.inside.blocks.room c.self.invariant in
    let is = c.len-2.ensures in
    let room = c.in_ok-reserve.ensures.ok in
    let fits : c.self.inside.live + 1 ≤ c.reserve.new.self.room = omega arith in
    let P : List Block → Type 0 = λ bs. AreStored (length c.put.new.all.items) c.push.new.self bs
    (c.self.inside.live + 1) c.reserve.new.self.room in
    subst P (sym c.reserve.ensures.items)
    (stored_put lits row c.put.new.all.items places c.push.new.self c.self.inside.blocks.items c.self.inside.live
    c.self.inside.blocks.room c.reserve.new.self.room e1 e2 c.self.invariant fits
    c.in_ok-within.ensures)

pub returns-clause-arena : goal.returns-clause-arena
returns-clause-arena c =
    let lits = c.self.inside.lits.items in
    let places = c.self.inside.places in
    let row = c.args.lits.now in
    let e1 : c.put.new.all.items ≡ lits ++ row = c.put.ensures.lits ∙ ap (λ (ls : List Literal). ls ++ row)
    c.reserve-2.ensures.items in
    let start : c.len.result ≡ length lits = c.len.ensures ∙ c.self.inside.lits.ok.0 in
    let e2 : c.push.new.self ≡ places ++ Some (record { start = length lits; len = length row; block = None }) ∷ [] =
    c.in_ok-push.ensures.ok
    ∙ ap (λ (o : Option Place). places ++ o ∷ [])
    (c.in_ok-slot.ensures ∙ ap (λ (n : ℕ). Some (record { start = n; len = length row; block = None })) start) in (
      c.len-id.ensures
          ∙ sym (length-map places (option_map (stored lits c.self.inside.blocks.items))) ∙ ap (λ (a : Arena). length a)
          c.self.view_is,
      ap (λ (bs : List Block). arena_of c.put.new.all.items bs c.push.new.self) c.reserve.ensures.items
          ∙ arena_put lits row c.put.new.all.items c.self.inside.blocks.items places c.push.new.self e1 e2
          c.self.invariant.spread
          ∙ ap (λ (a : Arena). with_row a row) c.self.view_is,
    )

pub returns-clause-rest : goal.returns-clause-rest
returns-clause-rest c =
    let both = returns-clause-arena c in
    let P : Arena → Type 0 = λ a. ChangesAt c.args.self.now a c.len-id.result (Some (new_row c.args.lits.now)) in
    subst P (sym both.1) (ChangesAt-more c.args.self.now c.args.lits.now c.len-id.result both.0)
