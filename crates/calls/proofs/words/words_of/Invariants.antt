use Rattle.std.specs.Prelude.{map, string_bytes}
use Rattle.std.specs.Str.Iter.{split_whitespace_rest}
use Rattle.calls.proofs.Splitting.{WordsBefore}
use Rattle.calls.proofs.words.words_of.Given as goal

abbrev pub invariant-loop-word : goal.invariant-loop-word
invariant-loop-word l = WordsBefore l.line (split_whitespace_rest l.word-iterator) (map string_bytes l.words.items)
