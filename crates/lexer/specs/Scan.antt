-- What is kept of a word while its bytes come.
use Rattle.std.specs.Prelude.{ℕ, ◌+◌, ◌*◌, ◌^◌, ◌-◌, min, Bool, true, false, not, ◌&&◌, ◌||◌, ◌==◌, nat_le, if◌then◌else◌, [], ◌∷◌, ◌++◌, length, take}
use Rattle.lexer.specs.declared.token.Word.TheVariants.{Num, Text, Other}
use Rattle.lexer.specs.declared.scan.Shape.{Shape}
use Rattle.lexer.specs.declared.scan.Shape.TheVariants.{Empty, Minus, Digits, NoNumber}
use Rattle.lexer.specs.declared.scan.Scan.{Scan}
use Rattle.lexer.specs.Words.{Item, word, bad_byte, number_range, is_plain, is_digit, signed}

-- A value that stops at the greatest number of 64 bits.
abbrev pub capped : ℕ → ℕ
capped n = min n (2 ^ 64 - 1)

-- A digit goes on or begins a number, another byte makes it none.
abbrev pub digits_begun : Bool → Bool → ℕ → Shape
digits_begun negative true n = Digits negative n
digits_begun negative false n = NoNumber

-- The shape of a word with one more byte.
abbrev pub shape_after : Shape → ℕ → Shape
shape_after Empty b = if b == 45 then Minus else digits_begun false (is_digit b) (b - 48)
shape_after Minus b = digits_begun true (is_digit b) (b - 48)
shape_after (Digits negative n) b = digits_begun negative (is_digit b) (capped (capped (n * 10) + (b - 48)))
shape_after NoNumber b = NoNumber

-- What is kept of a word with one more byte.
abbrev pub scan_after : Scan → ℕ → Scan
scan_after s b = record {
  text = take 16 (s.text ++ b ∷ []);
  is_long = s.is_long || (length s.text == 16);
  is_bad = s.is_bad || not (is_plain b);
  shape = shape_after s.shape b;
}

-- No byte has come.
abbrev pub no_scan : Scan
no_scan = record { text = []; is_long = false; is_bad = false; shape = Empty }

-- The text of a word that was scanned so.
abbrev pub scanned_text : ℕ → Scan → Item
scanned_text line s = word (record { word = (if s.is_long then Other else Text s.text); line = line })

-- The number of a word that was scanned so, or its refusal.
abbrev pub scanned_number : ℕ → Bool → ℕ → Item
scanned_number line negative n =
    if nat_le n (2 ^ 63 - 1) then word (record { word = Num (signed (not negative) n); line = line })
    else number_range line

-- What a word of this shape is.
abbrev pub scanned_shape : ℕ → Scan → Shape → Item
scanned_shape line s Empty = scanned_text line s
scanned_shape line s Minus = scanned_text line s
scanned_shape line s NoNumber = scanned_text line s
scanned_shape line s (Digits negative n) =
    if negative && (n == 0) then scanned_text line s
    else scanned_number line negative n

-- The item of a word that was scanned so.
abbrev pub scanned : ℕ → Scan → Item
scanned line s = if s.is_bad then bad_byte line else scanned_shape line s s.shape
