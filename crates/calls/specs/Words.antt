-- The words of a command line that is one text.
use Rattle.std.specs.Prelude.{◌≡◌, ℕ, ◌<◌, List, [], ◌∷◌, ◌++◌, length, codes}
use Rattle.std.specs.Str.{NoCharPasses, EmptyOrStartsWithPassing}
use Rattle.std.specs.Char.{is_whitespace, is_not_whitespace}

-- The text is white space, the word, and the rest, which is empty or begins with white space.
pub record StartsWith (text word rest : List ℕ) : Type 0 where
  pub gap : List ℕ
  pub split : text ≡ gap ++ (word ++ rest)
  pub nonempty : 0 < length word
  pub gap_is_blank : NoCharPasses is_not_whitespace gap
  pub word_has_no_space : NoCharPasses is_whitespace word
  pub rest_starts_blank : (more : List ℕ) × EmptyOrStartsWithPassing is_whitespace rest more

-- These are the words of the text.
abbrev pub SplitsInto : List ℕ → List (List ℕ) → Type 0
SplitsInto text [] = NoCharPasses is_not_whitespace text
SplitsInto text (word ∷ words) = (rest : List ℕ) × StartsWith text word rest × SplitsInto rest words

-- The words of a command line: the program's name, and those of the text.
abbrev pub AreWordsOf : List ℕ → List (List ℕ) → Type 0
AreWordsOf text all = (words : List (List ℕ)) × SplitsInto text words × (all ≡ codes "qbf" ∷ words)
