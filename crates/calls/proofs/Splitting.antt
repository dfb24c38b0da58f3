-- The invariant of `words_of`'s loop.
use Rattle.std.proofs.Common.{◌≡◌, ℕ, ◌<◌, List, [], ◌∷◌, ◌++◌, length, map, sym, ap, ◌∙◌, subst, append_assoc, append-nil, codes, String, string_bytes}
use Rattle.std.proofs.lemmas.List.{map-append}
use Rattle.std.specs.Str.{NoCharPasses, EmptyOrStartsWithPassing}
use Rattle.std.specs.Char.{is_whitespace, is_not_whitespace}
use Rattle.calls.specs.Words.{StartsWith, SplitsInto, AreWordsOf}

-- what `split_whitespace` says of an item, as the record
pub starts_with_item : (text word rest : List ℕ) → (gap : List ℕ) × (text ≡ gap ++ (word ++ rest))
    × (0 < length word) × NoCharPasses is_not_whitespace gap × NoCharPasses is_whitespace word
    × ((more : List ℕ) × EmptyOrStartsWithPassing is_whitespace rest more) → StartsWith text word rest
starts_with_item text word rest item = record {
  gap = item.0;
  split = item.1;
  nonempty = item.2;
  gap_is_blank = item.3;
  word_has_no_space = item.4;
  rest_starts_blank = item.5;
}

-- the words so far are the program's name and those in front of the rest
pub record WordsBefore (text rest : List ℕ) (all : List (List ℕ)) : Type 0 where
  pub seen : List (List ℕ)
  pub is : all ≡ codes "qbf" ∷ seen
  pub seen_then_rest : (words : List (List ℕ)) → SplitsInto rest words → SplitsInto text (seen ++ words)

module _ {text rest : List ℕ} {all : List (List ℕ)} (before : WordsBefore text rest all) where
  -- a word more
  pub words_before_next : {word next : List ℕ} → {new : List (List ℕ)} → StartsWith rest word next
      → new ≡ all ++ (word ∷ []) → WordsBefore text next new
  words_before_next {word} {next} starts is = record {
    seen = before.seen ++ (word ∷ []);
    is = is ∙ ap (λ ws. ws ++ (word ∷ [])) before.is;
    seen_then_rest = λ words splits. subst (SplitsInto text) (sym (append_assoc before.seen (word ∷ []) words))
        (before.seen_then_rest (word ∷ words) (next, starts, splits));
  }

  -- no word is left
  pub words_at_end : SplitsInto rest [] → AreWordsOf text all
  words_at_end none =
      (before.seen, subst (SplitsInto text) (append-nil before.seen) (before.seen_then_rest [] none), before.is)

-- a string at the end of strings
pub bytes_push : {Z : Type 0} (news olds : List (String Z)) (s : String Z) (word : List ℕ)
    → news ≡ olds ++ (s ∷ []) → string_bytes s ≡ word
    → map string_bytes news ≡ map string_bytes olds ++ (word ∷ [])
bytes_push {Z} news olds s word pushed is =
    ap (map string_bytes) pushed ∙ (map-append string_bytes olds (s ∷ [])
    ∙ ap (λ w. map string_bytes olds ++ (w ∷ [])) is)
