use Rattle.std.proofs.Common.{◌≡◌, ℕ, List, [], ◌++◌, length, get_or, ap, sym, refl, codes, ◌∙◌, arith}
use Rattle.std.proofs.lemmas.List.{append_assoc}
use Rattle.blocks.specs.Worked.{Passes}
use Rattle.blocks.proofs.worked.worked_blocks.Goals as goal

-- no byte is lost, told twice or moved
total : (old held new holds text : List ℕ) → Passes old held new holds text → old ++ (held ++ text) ≡ new ++ holds
total old held new holds text h =
    ap (λ l. old ++ l) h.in_order ∙ sym (append_assoc old h.bytes holds) ∙ ap (λ l. l ++ holds) (sym h.wrote.appended)

pub returns : goal.returns
returns c = record {
  all_held = record {
    bytes = [];
    in_order = refl;
    wrote = record { appended = refl; kept = tt; no_fault = refl; room = λ _ _ _. tt };
  };
  some_held = record {
    bytes = codes "cde";
    in_order = refl;
    wrote = record { appended = refl; kept = tt; no_fault = refl; room = λ _ _ _. tt };
  };
  none_held = record {
    bytes = codes "cdefg";
    in_order = refl;
    wrote = record { appended = refl; kept = tt; no_fault = refl; room = λ _ _ _. tt };
  };
  byte_lost = λ h.
      let e : 7 ≡ 6 = ap length (total (codes "ab") (codes "cd") (codes "abcde") (codes "g") (codes "efg") h) in
      omega arith;
  block_twice = λ h.
      let e : 7 ≡ 9 = ap length (total (codes "ab") (codes "cd") (codes "abcd") (codes "cdefg") (codes "efg") h) in
      omega arith;
  not_first = λ h.
      let e : 99 ≡ 101 = ap (λ xs. get_or xs 2 0)
      (total (codes "ab") (codes "cd") (codes "abe") (codes "cdfg") (codes "efg") h) in
      omega arith;
}
