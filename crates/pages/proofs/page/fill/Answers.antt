use Rattle.std.proofs.Common.{◌≡◌, ◌+◌, ◌<◌, ◌∷◌, ◌++◌, [], length, vec_len, vec_capacity, is_ok, true, ap, sym, ◌∙◌, arith}
use Rattle.std.proofs.lemmas.Bool.{cond-true}
use Rattle.std.proofs.lemmas.List.{length_push}
use Rattle.pages.specs.Paging.{page_of}
use Rattle.pages.proofs.Stored.{page_more}
use Rattle.pages.proofs.page.fill.Goals as goal

pub loop-preserved : goal.loop-preserved
loop-preserved g c =
    let inv = c.loop.invariant in
    let test = c.loop-test.true in
    let fits = c.requires.fits in
    let room = c.requires.room in
    let more = c.loop.auto.counter in
    let len : vec_len c.loop.stored ≡ length c.loop.stored.items = c.loop.stored.ok.0 in
    let free : vec_len c.loop.stored < vec_capacity c.loop.stored = omega (arith, inv.1, inv.2) in
    let went : is_ok c.push.result ≡ true = c.push.ensures.succeeds free in
    let items : c.push.new.self.items ≡ c.loop.stored.items ++ c.blank.result ∷ [] = c.push.ensures.items
    ∙ cond-true (is_ok c.push.result) (c.loop.stored.items ++ c.blank.result ∷ []) c.loop.stored.items went in (
      items ∙ (ap (λ xs. xs ++ c.blank.result ∷ []) inv.0
          ∙ (ap (λ b. page_of g.T.Blank.blank c.args.stored.now.items c.loop.counter ++ b ∷ []) c.blank.ensures
          ∙ sym (page_more g.T.Blank.blank c.args.stored.now.items c.loop.counter (let l =
          c.len-counter.ensures in let o = c.args.stored.now.ok.0 in omega arith)))),
      (let k = c.push.ensures.capacity in omega (arith, inv.1)),
      ap length items ∙ (length_push c.loop.stored.items c.blank.result ∙ ap (λ n. n + 1) inv.2),
    )
