-- Worked blocks, and worked lines.
use Rattle.std.specs.Prelude.{◌≡◌, ⊤, ℕ, List, [], ◌∷◌, Some, None, codes}
use Rattle.blocks.specs.Held.{PassesOn}
use Rattle.blocks.specs.Lines.{line_text, spaced, text_of}

-- what is passed on between sinks that got these bytes, with what was held before, and what is held now
abbrev pub Passes : List ℕ → List ℕ → List ℕ → List ℕ → List ℕ → Type 0
Passes old held new holds text = PassesOn (λ (bytes : List ℕ). Some bytes) (λ _. None) (λ _. 0) (λ _ _. ⊤) old held new
    holds text

-- `ab` was written and `cd` held, and then `efg` is put
pub record WorkedBlocks : Type 0 where
  pub all_held : Passes (codes "ab") (codes "cd") (codes "ab") (codes "cdefg") (codes "efg")
  pub some_held : Passes (codes "ab") (codes "cd") (codes "abcde") (codes "fg") (codes "efg")
  pub none_held : Passes (codes "ab") (codes "cd") (codes "abcdefg") (codes "") (codes "efg")
  pub byte_lost : ¬ Passes (codes "ab") (codes "cd") (codes "abcde") (codes "g") (codes "efg")
  pub block_twice : ¬ Passes (codes "ab") (codes "cd") (codes "abcd") (codes "cdefg") (codes "efg")
  pub not_first : ¬ Passes (codes "ab") (codes "cd") (codes "abe") (codes "cdfg") (codes "efg")

-- Lines of three words, of one and of none, and two lines; and texts that are none of them: with a blank at the end,
-- with no blank between words, without the line's end, and with the lines exchanged.
pub record WorkedLines : Type 0 where
  pub three_words : line_text (codes "6" ∷ codes "40" ∷ codes "2" ∷ []) ≡ codes "6 40 2\n"
  pub one_word : line_text (codes "skolem" ∷ []) ≡ codes "skolem\n"
  pub no_word : line_text [] ≡ codes "\n"
  pub two_lines : text_of ((codes "c" ∷ []) ∷ (codes "e" ∷ codes "10" ∷ []) ∷ []) ≡ codes "c\ne 10\n"
  pub word : spaced (codes "-12") ≡ codes "-12 "
  pub blank_at_end : ¬ (line_text (codes "6" ∷ codes "4" ∷ []) ≡ codes "6 4 \n")
  pub no_blank : ¬ (line_text (codes "6" ∷ codes "4" ∷ []) ≡ codes "64\n")
  pub no_end : ¬ (line_text (codes "6" ∷ codes "4" ∷ []) ≡ codes "6 4")
  pub exchanged : ¬ (text_of ((codes "c" ∷ []) ∷ (codes "e" ∷ []) ∷ []) ≡ codes "e\nc\n")
