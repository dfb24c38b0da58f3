-- A row whose field 7 is written: no list changes.
use Rattle.std.proofs.Common.{◌≡◌, ◌≢◌, ℕ, ◌+◌, ◌<◌, Bool, true, false, cond, List, Option, Some, None, is_some, refl, sym, ap, ap₂, ◌∙◌, arith, nat_eq}
use Rattle.std.specs.Prelude.{IfSome}
use Rattle.std.proofs.lemmas.Bool.{cond-false, ne_eqb, true≢false}
use Rattle.prefix.specs.declared.quant.Quant.{Quant}
use Rattle.rows.specs.Arena.{Arena, link_at}
use Rattle.watch.specs.Links.{IsLinked, LeadsOnElsewhere, Moves, Writes, first_of, is_at, is_attached, mark_of, owner}
use Rattle.watch.specs.State.{IsBoard, KeepsRows, waits}
use Rattle.watch.proofs.Boards.{KeepsRows-more}
use Rattle.watch.proofs.Threads.{Linked-same}

module _ (pivot : Quant) (old new : Arena) (id : ℕ) (at value : Option ℕ) (mine : IfSome at (λ i. i ≡ id))
    (w : Writes old new at 7 value) where
  -- every other field is as it was
  pub hint_links : (i k : ℕ) → k < 7 → link_at new i k ≡ link_at old i k
  hint_links i k low = w.links i k ∙ same (is_at at i) (nat_eq k 7) (ne_eqb k 7 (λ e. absurd (omega arith)))
    where
      same : (b c : Bool) → c ≡ false → cond b (cond c value (link_at old i k)) (link_at old i k) ≡ link_at old i k
      same true c f = cond-false c value (link_at old i k) f
      same false c f = refl

  pub hint_attached : (i : ℕ) → is_attached pivot new i ≡ is_attached pivot old i
  hint_attached i = ap (λ o. is_at o (mark_of pivot)) (hint_links i 6 (omega arith))

  pub hint_owner : (base i : ℕ) → base < 7 → owner pivot new base i ≡ owner pivot old base i
  hint_owner base i low = ap₂ (λ b o. cond b o None) (hint_attached i) (hint_links i base low)

  pub hint_linked : (base : ℕ) (heads : List (Option ℕ)) → base + 2 < 7 → IsLinked pivot heads old base
      → IsLinked pivot heads new base
  hint_linked base heads low linked =
      Linked-same (first_of heads) (owner pivot old base) (λ i. link_at old i (base + 1)) (λ i. link_at old i (base +
      2)) (first_of heads) (owner pivot new base) (λ i. link_at new i (base + 1)) (λ i. link_at new i (base + 2))
      linked (λ n. refl)
      (λ i. hint_owner base i (omega arith))
      (λ i n e. hint_links i (base + 1) (omega arith))
      (λ i n e. hint_links i (base + 2) (omega arith))

  pub hint_board : (first second : List (Option ℕ)) → IsBoard pivot first second old → IsBoard pivot first second new
  hint_board first second board = record {
    ones = hint_linked 0 first (omega arith) board.ones;
    twos = hint_linked 3 second (omega arith) board.twos;
    somewhere = λ i t. ap is_some (hint_owner 0 i (omega arith)) ∙ board.somewhere i (sym (hint_attached i) ∙ t);
    alone = λ i w. hint_owner 3 i (omega arith)
        ∙ board.alone i (sym (ap waits (hint_owner 0 i (omega arith))) ∙ w);
  }

  pub hint_kept : is_attached pivot old id ≡ true → KeepsRows pivot old new
  hint_kept attached = record {
    same_next = w.same_next;
    same_live = w.live;
    same_literals = w.literals;
    same_attached = λ i. hint_links i 6 (omega arith);
    others = λ i f. w.rows i (apart at mine i (λ e. true≢false (sym attached ∙ (ap (is_attached pivot old) e ∙ f))));
  }
    where
      apart : (o : Option ℕ) → IfSome o (λ j. j ≡ id) → (i : ℕ) → id ≢ i → is_at o i ≡ false
      apart None h i differs = refl
      apart (Some j) h i differs = ne_eqb j i (λ e. differs (sym h ∙ e))

  -- what moves then, moved from where it was
  module _ (last : Arena) where
    pub hint_moves : (base : ℕ) (name : Option ℕ) → base < 7 → Moves pivot base new last id name
        → Moves pivot base old last id name
    hint_moves base name low m i = m i ∙ ap (cond (nat_eq i id) name) (hint_owner base i low)

    pub hint_elsewhere : (base : ℕ) → base + 2 < 7 → LeadsOnElsewhere base new last id → LeadsOnElsewhere base old
        last id
    hint_elsewhere base low leads i differs apart =
        leads i differs (λ e. apart (sym (hint_links id (base + 1) (omega arith)) ∙ e)) ∙ hint_links i (base + 2) low

    pub hint_rows : is_attached pivot old id ≡ true → KeepsRows pivot new last → KeepsRows pivot old last
    hint_rows attached kept = KeepsRows-more pivot old new last (hint_kept attached) kept
