use Rattle.std.proofs.Common.{◌≡◌, ℕ, suc, ◌+◌, ◌*◌, ◌<◌, ◌≤◌, ◌++◌, ◌∷◌, [], List, Result, Ok, Err, OnOk, length, get_or, set, ap, ◌∙◌, ⊎_elim, arith}
use Rattle.std.proofs.lemmas.List.{length_push}
use Rattle.pages.specs.Paging.{AreFull, EndsIn, joined}
use Rattle.pages.proofs.Joining.{full_last, full_more, joined_more, joined_push}
use Rattle.pages.proofs.Paged.{is_page}
use Rattle.pages.proofs.pages.push_place.Goals as goal

last_page : {A : Type 0} (ps : List (List A)) (at : ℕ) → EndsIn ps at → at < length ps
    → (suc at ≡ length ps) × (length (get_or ps at []) < 64)
last_page ps at ends low = ⊎_elim (λ last. (let e = last.0 in omega arith, last.1))
    (λ next. let e = next.0 in absurd (omega arith)) ends

full_pages : {A : Type 0} (ps : List (List A)) (at : ℕ) → EndsIn ps at → length ps ≤ at
    → length (joined ps) ≡ 64 * length ps
full_pages ps at ends high = ⊎_elim (λ last. let e = last.0 in absurd (omega arith)) (λ next. next.1) ends

module _ {A : Type 0} (ps : List (List A)) (full : AreFull 64 ps) (at : ℕ) (v : A) (page new : List A)
    (ends : EndsIn ps at) (low : at < length ps) (is : page ≡ get_or ps at page) where
  on_last : {E : Type 0} (o : Result (Unit {0}) E) → OnOk o (new ≡ page ++ v ∷ [])
      → OnOk o (AreFull 64 (set ps at new) × (joined (set ps at new) ≡ joined ps ++ v ∷ []))
  on_last (Err e) put = tt
  on_last (Ok u) put =
      let last = last_page ps at ends low in
      let was = is_page ps full at page low is in
      let made : new ≡ get_or ps at [] ++ v ∷ [] = put ∙ ap (λ (p : List A). p ++ v ∷ []) was in
      let count : length new ≡ length (get_or ps at []) + 1
      = ap (λ (p : List A). length p) made ∙ length_push (get_or ps at []) v in (
        full_last ps full at new last.0 (let s = last.1 in omega arith),
        ap (λ (p : List A). joined (set ps at p)) made ∙ joined_push ps at v last.0,
      )

pub returns-then-at-len-clause-ok : goal.returns-then-at-len-clause-ok
returns-then-at-len-clause-ok g c =
    let o = c.args.pages.now.ok.0 in
    let l = c.len.ensures in
    on_last c.args.pages.now.items c.requires.full c.args.at c.args.value c.index_mut.result.now c.push.new.self
    c.requires.last (omega (arith, c.if-at-len.true)) c.index_mut.ensures.value c.push.result c.push.ensures.ok

pub returns-clause-ok : goal.returns-clause-ok
returns-clause-ok g c =
    let ps = c.args.pages.now.items in
    let o = c.args.pages.now.ok.0 in
    let l = c.len.ensures in
    let made : c.push-2.new.self ≡ c.args.value ∷ [] = c.in_ok-push.ensures.ok
    ∙ ap (λ p. p ++ c.args.value ∷ []) c.new-page.ensures in
    let one : length c.push-2.new.self ≡ 1 = ap length made in
    let all = full_pages ps c.args.at c.requires.last (omega (arith, c.if-at-len.false)) in
    let items = c.in_ok-push-2.ensures.items in (
      rw items (full_more ps c.requires.full c.push-2.new.self all (omega arith)),
      ap joined items ∙ (joined_more ps c.push-2.new.self ∙ ap (λ p. joined ps ++ p) made),
    )
