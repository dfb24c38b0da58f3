-- What stands behind the end of a line.
use Rattle.std.proofs.Common.{◌≡◌, ℕ, ◌+◌, ◌<◌, Bool, true, false, Option, None, Some, List, [], ◌∷◌, ◌++◌, slice_get, refl, sym, ap, subst, arith}
use Rattle.std.specs.Prelude.{◌-◌, ◌&&◌, Err, IfSome, drop, if◌then◌else◌, map, option_map, unwrap_or, nat_le, length, take, ◌^◌}
use Rattle.std.specs.Io.KnownBytes.{IsAtEnd}
use Rattle.std.proofs.lemmas.Bool.{eqb-true}
use Rattle.lexer.specs.declared.scan.Scan.{Scan}
use Rattle.lexer.specs.declared.token.Comments.{Comments}
use Rattle.lexer.specs.declared.token.LexRefusal.{LexRefusal}
use Rattle.lexer.specs.declared.token.Token.{Token}
use Rattle.lexer.specs.declared.token.Word.TheVariants.{Num}
use Rattle.lexer.specs.Words.{Item, Seen, begins_comment, byte, beyond, is_line_end, is_plain, number_range, signed, word, bad_byte, too_long, the_end, fault_of, classified, bytes_of, number_of, item_of, words_of, laid_out, outside_comment, items_of_lines, items_from, seen, lines_of, last_line, ending}
use Rattle.lexer.specs.State.{State, bytes_ahead, upcoming, Stays}
use Rattle.lexer.specs.Answers.{IsBehind, AreBehind, Gives, IsScanned, Refuses}
use Rattle.lexer.specs.Machine.{upcoming_behind_word}
use Rattle.lexer.specs.Scan.{scanned}
use Rattle.lexer.proofs.Known.{past_blank, end_left, item_behind, refused_behind}

module _ (n m : ℕ) (behind : n < m) where
  or_behind : (o : Option Item) (item : Item) → IfSome o (IsBehind n) → IsBehind n item → IsBehind n (unwrap_or o item)
  or_behind None item fault other = other
  or_behind (Some x) item fault other = fault

  fault_behind : (w : List Seen) → IfSome (fault_of m w) (IsBehind n)
  fault_behind [] = tt
  fault_behind (byte b ∷ w) = by (is_plain b) (fault_behind w)
    where
      by : (t : Bool) → IfSome (fault_of m w) (IsBehind n)
          → IfSome (if t then fault_of m w else Some (bad_byte m)) (IsBehind n)
      by true rest = rest
      by false rest = behind
  fault_behind (beyond ∷ w) = behind

  class_behind : (bytes : List ℕ) (o : Option (Bool × ℕ)) → IsBehind n (classified m bytes o)
  class_behind bytes None = behind
  class_behind bytes (Some v) = by (nat_le v.1 (2 ^ 63 - 1))
    where
      by : (t : Bool) → IsBehind n (if t then word (record { word = Num (signed v.0 v.1); line = m }) else number_range m)
      by true = behind
      by false = behind

  word_behind : (w : List Seen) → IsBehind n (item_of m w)
  word_behind w = or_behind (fault_of m w) (classified m (bytes_of w) (number_of (bytes_of w))) (fault_behind w)
      (class_behind (bytes_of w) (number_of (bytes_of w)))

  ending_behind : (room : ℕ) (text : List ℕ) → IsBehind n (ending m room text)
  ending_behind room text = by (nat_le (length text) room)
    where
      by : (t : Bool) → IsBehind n (if t then the_end (last_line m text) else too_long (last_line m (take room text)))
      by true = tt
      by false = omega arith

words_behind : (n m : ℕ) → n < m → (ws : List (List Seen)) (rest : List Item) (last : Item)
    → AreBehind n (Some (rest ++ last ∷ [])) → AreBehind n (Some ((map (item_of m) ws ++ rest) ++ last ∷ []))
words_behind n m behind [] rest last at = at
words_behind n m behind (w ∷ ws) rest last at = word_behind n m behind w

lines_behind : (c : Comments) (fresh : Bool) (n m : ℕ) → n < m → (ls : List (List Seen)) (last : Item)
    → IsBehind n last → AreBehind n (Some (items_of_lines c fresh m ls ++ last ∷ []))
lines_behind c fresh n m behind [] last at = at
lines_behind c fresh n m behind (l ∷ ls) last at = words_behind n m behind
    (outside_comment c fresh (words_of (laid_out c l))) (items_of_lines c true (m + 1) ls) last
    (lines_behind c true n (m + 1) (omega (arith, behind)) ls last at)

text_behind : (c : Comments) (fresh : Bool) (n m room : ℕ) (text : List ℕ) → n < m
    → AreBehind n (Some (items_from c fresh m room text))
text_behind c fresh n m room text behind = lines_behind c fresh n m behind (lines_of (seen c room text))
    (ending m room text) (ending_behind n m behind room text)

-- behind byte 10
pub line_ended : (s : State) (b : ℕ) (l : Option (List ℕ)) → slice_get s.ahead 0 ≡ Some b → 0 < s.room
    → is_line_end b ≡ true
    → AreBehind s.line (upcoming s l)
line_ended s b None first some is = tt
line_ended s b (Some rest) first some is =
    let at : slice_get s.ahead 0 ≡ Some 10 = subst (λ x. slice_get s.ahead 0 ≡ Some x) (eqb-true b 10 is) first in
    subst (AreBehind s.line) (past_blank s 10 (Some rest) at some refl)
    (text_behind s.comments true s.line (s.line + 1) (s.room - 1) (drop 1 s.ahead ++ rest) (omega arith))

-- and at the end of the text
pub text_ended : (s : State) (l : Option (List ℕ)) → slice_get s.ahead 0 ≡ None → IsAtEnd l
    → AreBehind s.line (upcoming s l)
text_ended s None none end = tt
text_ended s (Some rest) none end = subst (λ is. AreBehind s.line (Some is))
    (sym (end_left s.comments s.fresh s.line s.room s.ahead rest none end)) tt

-- a word on the line
pub item_on_line : (x : Option (List Item)) (s : State) (scan : Scan) (l : Option (List ℕ)) (t : Token)
    → s.fresh ≡ false → scanned s.line scan ≡ word t → Stays x (upcoming_behind_word s scan l)
    → Gives t x (upcoming s l)
item_on_line x s scan l t had is stays =
    subst (λ f. Gives t x (option_map (items_from s.comments f s.line s.room) (bytes_ahead s l))) (sym had)
    (item_behind x s scan l t (ap (λ f. f && begins_comment s.comments (map byte scan.text)) had) is stays)

pub refused_on_line : (x : Option (List Item)) (s : State) (scan : Scan) (l : Option (List ℕ)) (e : LexRefusal)
    → s.fresh ≡ false → IsScanned (Err e) (scanned s.line scan) → Stays x (upcoming_behind_word s scan l)
    → Refuses e x
refused_on_line x s scan l e had is stays = refused_behind x s scan l e
    (ap (λ f. f && begins_comment s.comments (map byte scan.text)) had) is stays
