-- Bytes that were read and bytes that are left.
use Rattle.std.proofs.Common.{◌≡◌, ℕ, zero, suc, ◌+◌, ◌<◌, ◌≤◌, Option, None, Some, List, [], ◌∷◌, ◌++◌, length, take, drop, slice_get, refl, sym, ap, ◌∙◌, arith}
use Rattle.std.specs.Io.KnownBytes.{Keeps, IsAtEnd, Consumes, prepend_known}
use Rattle.std.proofs.Math.Seq.{take-length}
use Rattle.std.proofs.lemmas.List.{take-append-le, drop-drop}
use Rattle.std.proofs.lemmas.Bool.{ne_eqb}
use Rattle.std.specs.Prelude.{true, false, ◌==◌, ◌-◌}
use Rattle.lexer.specs.State.{State, past}

pub none_first : (xs : List ℕ) → slice_get xs 0 ≡ None → xs ≡ []
none_first [] h = refl
none_first (x ∷ xs) h = cc

-- bytes that a read gave stand ahead now
pub read_stays : (ahead bytes : List ℕ) (old new : Option (List ℕ)) → slice_get ahead 0 ≡ None → Consumes old new bytes
    → Keeps (prepend_known ahead old) (prepend_known bytes new)
read_stays ahead bytes None new h c = tt
read_stays ahead bytes (Some xs) None h c = c
read_stays ahead bytes (Some xs) (Some ys) h c = sym c ∙ ap (λ a. a ++ xs) (sym (none_first ahead h))

-- what a whole buffer was written with
pub written : (n : ℕ) (buf items : List ℕ) → length buf ≡ n → length items ≡ n
    → take n (buf ++ drop (length buf) items) ≡ buf
written n buf items h k = take-append-le n buf (drop (length buf) items) (omega arith) ∙ ap (λ m. take m buf) (sym h)
    ∙ take-length buf

-- a read that gave nothing into a buffer with room was at the end
pub ended : (n : ℕ) (buf : List ℕ) (left : Option (List ℕ)) → n ≤ length buf → 0 < length buf
    → (n ≡ 0 → 0 < length buf → IsAtEnd left) → slice_get (take n buf) 0 ≡ None → IsAtEnd left
ended zero buf left le lt at_end none = at_end refl lt
ended (suc n) [] left le lt at_end none = absurd (omega arith)
ended (suc n) (b ∷ buf) left le lt at_end none = cc

pub drop_one : (n : ℕ) (xs : List ℕ) → drop (n + 1) xs ≡ drop 1 (drop n xs)
drop_one n xs = sym (drop-drop 1 n xs)

-- behind a byte, field by field
pub past_line_end : (s : State) (b : ℕ) (after : List ℕ) → b ≡ 10 → after ≡ drop 1 s.ahead
    → record {
      comments = s.comments;
      fresh = true;
      line = s.line + 1;
      room = s.room - 1;
      ahead = after;
      failed =
          s.failed;
    } ≡ past b s
past_line_end s b after e h = rw (e, h) refl

pub past_other : (s : State) (b : ℕ) (after : List ℕ) → (b ≡ 10 → ⊥) → after ≡ drop 1 s.ahead
    → record {
      comments = s.comments;
      fresh = s.fresh;
      line = s.line;
      room = s.room - 1;
      ahead = after;
      failed =
          s.failed;
    } ≡ past b s
past_other s b after e h = let f : (b == 10) ≡ false = ne_eqb b 10 e in rw (f, h) refl
