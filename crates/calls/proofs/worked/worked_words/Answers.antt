use Rattle.std.proofs.Common.{◌≡◌, ℕ, List, [], ◌∷◌, codes, ap, refl, subst, arith}
use Rattle.std.specs.Prelude.{slice_index_or}
use Rattle.calls.specs.Words.{SplitsInto}
use Rattle.calls.proofs.WorkedLines.{no_word}
use Rattle.calls.proofs.worked.worked_words.Goals as goal

pub returns : goal.returns
returns c = record {
  none = ([], ([], refl, search), refl);
  no_name = λ are. let bad = are.2 in cc;
  other_name = λ are.
      let no : 81 ≡ 113 = ap (λ (ws : List (List ℕ)). slice_index_or (slice_index_or ws 0 []) 0 0) are.2 in
      omega (arith, no);
  word_too_many = λ are.
      let words_are : are.0 ≡ codes "a" ∷ [] = (let e = are.2 in cc) in
      let split : SplitsInto [] (codes "a" ∷ []) = subst (SplitsInto []) words_are are.1 in
      no_word split.1.gap split.0 split.1.split;
}
