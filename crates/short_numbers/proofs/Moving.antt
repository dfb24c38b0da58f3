-- Last numbers that come into the place of others.
use Rattle.std.proofs.Common.{◌≡◌, ℕ, ◌+◌, ◌-◌, ◌<◌, ◌≤◌, List, length, take, drop, get_or, set, Option, None, sym, ap, ◌∙◌, arith}
use Rattle.std.proofs.lemmas.List.{get_or-drop, length-drop}
use Rattle.std.proofs.lemmas.List.Edits.{paste_all, paste_more, length-paste, drop-paste}
use lib.Seq.{paste}
use Rattle.short_numbers.specs.Lists.{last_moved}

-- the list after so many turns
abbrev pub so_far : List (Option ℕ) → ℕ → ℕ → ℕ → List (Option ℕ)
so_far items to count k = paste items to (drop (length items - count) items) k

-- what stands behind what a turn has written is as it was
pub not_reached : (d : List (Option ℕ)) (at : ℕ) (s : List (Option ℕ)) (k i : ℕ) → at ≤ length d → k ≤ length s → at +
    k ≤ i
    → get_or (paste d at s k) i None ≡ get_or d i None
not_reached d at s k i within short behind =
    let is : (at + k) + (i - (at + k)) ≡ i = omega arith in
    ap (λ j. get_or (paste d at s k) j None) (sym is)
    ∙ sym (get_or-drop (at + k) (paste d at s k) (i - (at + k)) None)
    ∙ ap (λ l. get_or l (i - (at + k)) None) (drop-paste d at s k within short)
    ∙ get_or-drop (at + k) d (i - (at + k)) None
    ∙ ap (λ j. get_or d j None) is

module _ (items : List (Option ℕ)) (to count : ℕ) (within : to + count ≤ length items) where
  abbrev from : ℕ
  from = length items - count

  long_enough : length (drop from items) ≡ count
  long_enough = let l = length-drop from items in omega arith

  -- what a turn reads
  pub read_at : (k : ℕ) → k < count → get_or (so_far items to count k) (from + k) None ≡ get_or items (from + k) None
  read_at k h =
      let l = long_enough in
      not_reached items to (drop from items) k (from + k) (omega arith) (omega arith) (omega arith)

  -- what a turn makes of the list
  pub one_more : (k : ℕ) → k < count → set (so_far items to count k) (to + k) (get_or items (from + k) None)
      ≡ so_far items to count (k + 1)
  one_more k h =
      let l = long_enough in
      ap (set (so_far items to count k) (to + k)) (sym (get_or-drop from items k None))
      ∙ paste_more items to (drop from items) k None (omega arith) (omega arith)

  pub length_kept : (k : ℕ) → k ≤ count → length (so_far items to count k) ≡ length items
  length_kept k h = let l = long_enough in length-paste items to (drop from items) k (omega arith) (omega arith)

  -- the list at the end
  pub all_moved : take from (so_far items to count count) ≡ last_moved to count items
  all_moved = ap (take from) (paste_all items to (drop from items) count (sym long_enough))
