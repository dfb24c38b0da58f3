-- Lines on the error output that aren't those of the status.
use Rattle.std.proofs.Common.{◌≡◌, ◌≤◌, ℕ, zero, suc, List, [], ◌∷◌, ◌++◌, Some, codes, length, take, sym, ◌∙◌, ap, subst, arith}
use Rattle.std.specs.Prelude.{slice_index_or}
use Rattle.ports.specs.Bytes.{AppendsFront}

-- the line of want of memory
abbrev pub no_memory : List ℕ
no_memory = codes "qbf: no memory\n"

pub cut : (line : List ℕ) → line ≡ no_memory → (length line ≤ 15 → codes "qbf:" ≡ line) → ⊥
cut line is whole =
    let fits : length line ≤ 15 = subst (λ (l : List ℕ). length l ≤ 15) (sym is) (omega arith) in
    let same : codes "qbf:" ≡ no_memory = whole fits ∙ is in cc

front_of : (count : ℕ) → codes "QBF" ≡ take count no_memory → ⊥
front_of zero h = cc
front_of (suc n) h = let no : 81 ≡ 113 = ap (λ text. slice_index_or text 0 0) h in omega (arith, no)

pub other : (line : List ℕ) → line ≡ no_memory → AppendsFront (Some []) (Some (codes "QBF")) line → ⊥
other line is h = front_of h.count (h.appended ∙ ap (take h.count) is)

-- an empty text has no word
pub no_word : (gap rest : List ℕ) → [] ≡ gap ++ (97 ∷ rest) → ⊥
no_word [] rest e = cc
no_word (x ∷ xs) rest e = cc
