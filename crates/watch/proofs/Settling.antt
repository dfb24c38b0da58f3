-- A row that waits and is put in front of a list of each family.
use Rattle.std.proofs.Common.{◌≡◌, ◌≢◌, ℕ, ◌<◌, true, false, cond, List, length, set, Option, Some, None, sym, ap, ◌∙◌, arith, nat_eq}
use Rattle.std.proofs.lemmas.Bool.{true≢false}
use Rattle.prefix.specs.declared.quant.Quant.{Quant}
use Rattle.rows.specs.Arena.{Arena, ChangesLinks, is_live, link_at, next_id}
use Rattle.watch.specs.Links.{IsLinked, Moves, Relinks, Writes, first_of, is_at, is_attached, owner}
use Rattle.watch.specs.State.{IsBoard, KeepsRows}
use Rattle.watch.proofs.Threads.{not_at, same_some}
use Rattle.watch.proofs.Boards.{KeepsRows-more, alone_after, moved_here, moved_other, moves_from, owner_apart, rows_kept, somewhere_after, zero_six, zero_three}
use Rattle.watch.proofs.Moving.{IsPut, here_or, out_of, owner_attached, owner_live, put_linked, put_moves, three_literals, three_others, unwritten, written}

-- the six fields of the row are written, and the fields of those that were first in the two lists
module _ (pivot : Quant) (first second : List (Option ℕ)) (a0 a1 a2 a3 a4 : Arena) (id one two : ℕ)
    (next_one next_two : Option ℕ)
    (ones : IsLinked pivot first a0 0)
    (twos : IsLinked pivot second a0 3)
    (attached : is_attached pivot a0 id ≡ true)
    (out_one : owner pivot a0 0 id ≡ None)
    (out_two : owner pivot a0 3 id ≡ None)
    (one_in : one < length first)
    (two_in : two < length second)
    (one_is : next_one ≡ first_of first one)
    (two_is : next_two ≡ first_of second two)
    (w1 : ChangesLinks a0 a1 id 0 (Some one, None, next_one))
    (w2 : ChangesLinks a1 a2 id 3 (Some two, None, next_two))
    (same_next : next_id a2 ≡ next_id a0)
    (w3 : Writes a2 a3 next_one 1 (Some id))
    (w4 : Writes a3 a4 next_two 4 (Some id)) where
  pub behind_one : (j : ℕ) → next_one ≡ Some j → is_live a2 j ≡ true
  behind_one j e = w2.same_live j
      ∙ (w1.same_live j ∙ owner_live pivot a0 0 j one (ones.top j one (sym one_is ∙ e)).0)

  pub behind_two : (j : ℕ) → next_two ≡ Some j → is_live a3 j ≡ true
  behind_two j e = w3.live j
      ∙ (w2.same_live j ∙ (w1.same_live j ∙ owner_live pivot a0 3 j two (twos.top j two (sym two_is ∙ e)).0))

  -- the fields from 0 on aren't those from 3 on
  low : (i k : ℕ) → k < 3 → link_at a2 i k ≡ link_at a1 i k
  low i k below = three_others a1 a2 id 3 (Some two, None, next_two) w2 i k (λ e. absurd (omega arith))
      (λ e. absurd (omega arith)) (λ e. absurd (omega arith))

  high : (i k : ℕ) → 2 < k → link_at a1 i k ≡ link_at a0 i k
  high i k above = three_others a0 a1 id 0 (Some one, None, next_one) w1 i k (λ e. absurd (omega arith))
      (λ e. absurd (omega arith)) (λ e. absurd (omega arith))

  last : (i k : ℕ) → (k ≡ 1 → ⊥) → (k ≡ 4 → ⊥) → link_at a4 i k ≡ link_at a2 i k
  last i k not_one not_four = unwritten a3 a4 next_two 4 (Some id) w4 i k not_four
      ∙ unwritten a2 a3 next_one 1 (Some id) w3 i k not_one

  six : (i : ℕ) → link_at a4 i 6 ≡ link_at a0 i 6
  six i =
      last i 6 (λ e. absurd (omega arith)) (λ e. absurd (omega arith))
      ∙ (three_others a1 a2 id 3 (Some two, None, next_two) w2 i 6 (λ e. absurd (omega arith))
      (λ e. absurd (omega arith)) (λ e. absurd (omega arith))
      ∙ high i 6 (omega arith))

  put_one : IsPut a0 a4 0 id one next_one
  put_one = record {
    own = λ i. last i 0 (λ e. absurd (omega arith)) (λ e. absurd (omega arith)) ∙ (low i 0 (omega arith)
        ∙ here_or a0 a1 id 0 (Some one, None, next_one) w1 i 0 (Some one) w1.first);
    prev = λ i. unwritten a3 a4 next_two 4 (Some id) w4 i 1 (λ e. absurd (omega arith))
        ∙ (written a2 a3 next_one 1 (Some id) w3 i
        ∙ ap (cond (is_at next_one i) (Some id)) (low i 1 (omega arith)
        ∙ here_or a0 a1 id 0 (Some one, None, next_one) w1 i 1 None w1.second));
    next = λ i. last i 2 (λ e. absurd (omega arith)) (λ e. absurd (omega arith)) ∙ (low i 2 (omega arith)
        ∙ here_or a0 a1 id 0 (Some one, None, next_one) w1 i 2 next_one w1.third);
    mark = six;
  }

  put_two : IsPut a0 a4 3 id two next_two
  put_two = record {
    own = λ i. last i 3 (λ e. absurd (omega arith)) (λ e. absurd (omega arith))
        ∙ (here_or a1 a2 id 3 (Some two, None, next_two) w2 i 3 (Some two) w2.first
        ∙ ap (cond (nat_eq i id) (Some two)) (high i 3 (omega arith)));
    prev = λ i. written a3 a4 next_two 4 (Some id) w4 i
        ∙ ap (cond (is_at next_two i) (Some id))
        (unwritten a2 a3 next_one 1 (Some id) w3 i 4 (λ e. absurd (omega arith))
        ∙ (here_or a1 a2 id 3 (Some two, None, next_two) w2 i 4 None w2.second
        ∙ ap (cond (nat_eq i id) None) (high i 4 (omega arith))));
    next = λ i. last i 5 (λ e. absurd (omega arith)) (λ e. absurd (omega arith))
        ∙ (here_or a1 a2 id 3 (Some two, None, next_two) w2 i 5 next_two w2.third
        ∙ ap (cond (nat_eq i id) next_two) (high i 5 (omega arith)));
    mark = six;
  }

  pub both_ones : Moves pivot 0 a0 a4 id (Some one)
  both_ones = put_moves pivot first a0 a4 0 id one next_one ones attached out_one one_in one_is put_one

  pub both_twos : Moves pivot 3 a0 a4 id (Some two)
  both_twos = put_moves pivot second a0 a4 3 id two next_two twos attached out_two two_in two_is put_two

  pub both_first : IsLinked pivot (set first one (Some id)) a4 0
  both_first = put_linked pivot first a0 a4 0 id one next_one ones attached out_one one_in one_is put_one

  pub both_second : IsLinked pivot (set second two (Some id)) a4 3
  both_second = put_linked pivot second a0 a4 3 id two next_two twos attached out_two two_in two_is put_two

  pub both_kept : KeepsRows pivot a0 a4
  both_kept = record {
    same_next = w4.same_next ∙ (w3.same_next ∙ same_next);
    same_live = λ i. w4.live i ∙ (w3.live i ∙ (w2.same_live i ∙ w1.same_live i));
    same_literals = λ i. w4.literals i ∙ (w3.literals i
        ∙ (three_literals a1 a2 id 3 (Some two, None, next_two) w2 i
        ∙ three_literals a0 a1 id 0 (Some one, None, next_one) w1 i));
    same_attached = six;
    others = λ i f. w4.rows i (out_of pivot a0 next_two i
        (λ j e. owner_attached pivot a0 3 j two (twos.top j two (sym two_is ∙ e)).0) f)
        ∙ (w3.rows i (out_of pivot a0 next_one i
        (λ j e. owner_attached pivot a0 0 j one (ones.top j one (sym one_is ∙ e)).0) f)
        ∙ (w2.elsewhere i (not_id i f) ∙ w1.elsewhere i (not_id i f)));
  }
    where
      not_id : (i : ℕ) → is_attached pivot a0 i ≡ false → i ≢ id
      not_id i f same = true≢false (sym attached ∙ (ap (is_attached pivot a0) (sym same) ∙ f))

-- the row left its list before
module _ (pivot : Quant) (first first' second second' : List (Option ℕ)) (old a0 a4 : Arena) (id one two : ℕ)
    (board : IsBoard pivot first second old)
    (m : Moves pivot 0 old a0 id None)
    (r : Relinks pivot 0 old a0)
    (both_ones : Moves pivot 0 a0 a4 id (Some one))
    (both_twos : Moves pivot 3 a0 a4 id (Some two))
    (both_kept : KeepsRows pivot a0 a4) where
  pub settled_ones : Moves pivot 0 old a4 id (Some one)
  settled_ones = moves_from pivot 0 old a4 id (Some one) (moved_here pivot 0 a0 a4 id (Some one) both_ones)
      (λ i differs. moved_other pivot 0 a0 a4 id (Some one) both_ones i differs
      ∙ moved_other pivot 0 old a0 id None m i differs)

  pub settled_twos : Moves pivot 3 old a4 id (Some two)
  settled_twos = moves_from pivot 3 old a4 id (Some two) (moved_here pivot 3 a0 a4 id (Some two) both_twos)
      (λ i differs. moved_other pivot 3 a0 a4 id (Some two) both_twos i differs
      ∙ owner_apart pivot 0 3 old a0 r zero_six zero_three i)

  pub settled_kept : KeepsRows pivot old a4
  settled_kept = KeepsRows-more pivot old a0 a4 (rows_kept pivot 0 old a0 zero_six r) both_kept

  pub settled_board : 0 < one → IsLinked pivot first' a4 0 → IsLinked pivot second' a4 3
      → IsBoard pivot first' second' a4
  settled_board past ones twos = record {
    ones = ones;
    twos = twos;
    somewhere = somewhere_after pivot old a4 id one settled_ones settled_kept board.somewhere;
    alone = alone_after pivot old a4 id (Some one) (Some two) settled_ones settled_twos board.alone
        (λ w. absurd (true≢false (sym w ∙ not_at (Some one) 0
        (λ e. let is : one ≡ 0 = same_some one 0 e in absurd (omega arith)))));
  }
