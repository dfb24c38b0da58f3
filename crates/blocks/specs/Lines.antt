-- Texts of lines, and lines of words: what the formats of formulas, traces and circuits have in common.
use Rattle.std.specs.Prelude.{ℕ, List, [], ◌∷◌, ◌++◌}
use Rattle.std.specs.List.{flat_map, join_with_byte}

-- a line, as the list of its words
abbrev pub Line : Type 0
Line = List (List ℕ)

-- the bytes of a line: its words with one blank between two, and the line's end
abbrev pub line_text : Line → List ℕ
line_text words = join_with_byte 32 words ++ 10 ∷ []

-- the bytes of lines
abbrev pub text_of : List Line → List ℕ
text_of lines = flat_map line_text lines

-- a word with the blank behind it
abbrev pub spaced : List ℕ → List ℕ
spaced word = word ++ 32 ∷ []
