-- Sets of places, block by block.
use Rattle.std.proofs.Common.{◌≡◌, ℕ, zero, suc, ◌+◌, ◌-◌, ◌*◌, ◌<◌, ◌≤◌, Bool, true, false, ◌⊎◌, inl, inr, List, [], ◌∷◌, ◌++◌, replicate, ap₂, length, set, max, refl, sym, ap, ◌∙◌, ⊎_elim, arith}
use Rattle.std.proofs.lemmas.Bool.{cases_eq, cases_lt, false≢true}
use Rattle.std.proofs.lemmas.List.{length-set, get_or-set_same, get_or-set_other, get_or_past}
use Rattle.trail.specs.Finished.{emptied, is_in, with_before, AreBlocks, AreIn}

-- one more place
pub in_more : (places : List Bool) (first last : ℕ) → AreIn places first last → is_in places last ≡ true
    → AreIn places first (last + 1)
in_more places first last h here i low high = ⊎_elim (λ (below : i < last). h i low below)
    (λ (above : last ≤ i). let at : i ≡ last = omega arith in ap (is_in places) at ∙ here) (cases_lt i last)

pub in_none : (places : List Bool) (first : ℕ) → AreIn places first first
in_none places first i low high = absurd (omega arith)

-- two parts that meet
pub in_both : (places : List Bool) (first middle start last : ℕ) → AreIn places first middle → AreIn places start last
    → start ≤ middle → AreIn places first (max middle last)
in_both places first middle start last h k meets i low high =
    ⊎_elim (λ (below : i < middle). h i low below) (λ (above : middle ≤ i). k i (omega arith) (omega arith))
    (cases_lt i middle)

pub in_joined : (places : List Bool) (first middle start last : ℕ) → AreIn places first middle → AreIn places start last
    → start ≤ middle → AreIn places first last
in_joined places first middle start last h k meets i low high =
    ⊎_elim (λ (below : i < middle). h i low below) (λ (above : middle ≤ i). k i (omega arith) high) (cases_lt i middle)

-- the places of marked blocks
pub in_blocks : (places blocks : List Bool) (first last : ℕ) → AreBlocks places blocks → AreIn blocks first last
    → AreIn places (first * 64) (last * 64)
in_blocks places blocks first last are h i low high = by_block (last - first) first (omega arith) (omega arith) low
  where
    by_block : (n b : ℕ) → first ≤ b → b + n ≡ last → b * 64 ≤ i → is_in places i ≡ true
    by_block zero b above number from = absurd (omega arith)
    by_block (suc n) b above number from =
        ⊎_elim
        (λ (here : i < b * 64 + 64).
        let at : b * 64 + (i - b * 64) ≡ i = omega arith in
        ap (is_in places) (sym at) ∙ are b (i - b * 64) (h b above (omega arith)) (omega arith))
        (λ (past : b * 64 + 64 ≤ i). by_block n (suc b) (omega arith) (omega arith) (omega arith))
        (cases_lt i (b * 64 + 64))

-- a place that is put in
pub blocks_more : (places blocks : List Bool) (place : ℕ) → place < length places → AreBlocks places blocks
    → AreBlocks (set places place true) blocks
blocks_more places blocks place within are b i marked below =
    ⊎_elim
    (λ (same : b * 64 + i ≡ place). ap (is_in (set places place true)) same ∙ get_or-set_same places place true false
    within)
    (λ differs. get_or-set_other places place (b * 64 + i) true false differs ∙ are b i marked below)
    (cases_eq (b * 64 + i) place)

-- a block that is marked
pub blocks_marked : (places blocks : List Bool) (block : ℕ) → block < length blocks → AreIn places (block * 64)
    (block * 64 + 64) → AreBlocks places blocks → AreBlocks places (set blocks block true)
blocks_marked places blocks block within h are b i marked below =
    ⊎_elim
    (λ (same : b ≡ block). h (b * 64 + i) (omega arith) (omega arith))
    (λ differs. are b i (sym (get_or-set_other blocks block b true false differs) ∙ marked) below)
    (cases_eq b block)

-- a place that is taken out, with the mark of its block
pub blocks_less : (places blocks : List Bool) (place block : ℕ) → block * 64 ≤ place → place < block * 64 + 64
    → AreBlocks places blocks → AreBlocks (set places place false) (set blocks block false)
blocks_less places blocks place block low high are b i marked below =
    ⊎_elim
    (λ (same : b ≡ block).
    ⊎_elim
    (λ (there : block < length blocks). absurd
    (false≢true (sym (get_or-set_same blocks block false false there)
    ∙ (ap (is_in (set blocks block false)) (sym same) ∙ marked))))
    (λ (past : length blocks ≤ block). absurd
    (false≢true
    (sym (get_or_past (set blocks block false) b false (let long = length-set blocks block false in omega arith))
    ∙ marked)))
    (cases_lt block (length blocks)))
    (λ differs. get_or-set_other places place (b * 64 + i) false false (λ e. differs (omega arith))
    ∙ are b i (sym (get_or-set_other blocks block b false false differs) ∙ marked) below)
    (cases_eq b block)

-- more places
pub blocks_wider : (places blocks more wider : List Bool) → ((i : ℕ) → is_in more i ≡ is_in places i)
    → ((i : ℕ) → is_in wider i ≡ is_in blocks i) → AreBlocks places blocks → AreBlocks more wider
blocks_wider places blocks more wider same alike are b i marked below = same (b * 64 + i)
    ∙ are b i (sym (alike b) ∙ marked) below

-- no blocks
pub blocks_none : (places blocks : List Bool) → ((i : ℕ) → is_in blocks i ≡ false) → AreBlocks places blocks
blocks_none places blocks none b i marked below = absurd (false≢true (sym (none b) ∙ marked))

-- all places before one
pub before_length : (n : ℕ) (places : List Bool) → length (with_before n places) ≡ length places
before_length zero places = refl
before_length (suc n) [] = refl
before_length (suc n) (p ∷ places) = ap suc (before_length n places)

pub before_in : (n : ℕ) (places : List Bool) (i : ℕ) → is_in (with_before n places) i ≡ true → (i < n)
    ⊎ (is_in places i ≡ true)
before_in zero places i h = inr h
before_in (suc n) [] i h = inr h
before_in (suc n) (p ∷ places) zero h = inl (omega arith)
before_in (suc n) (p ∷ places) (suc i) h = ⊎_elim (λ (below : i < n). inl (omega arith)) (λ there. inr there)
    (before_in n places i h)

pub before_is : (n : ℕ) (places more : List Bool) → length more ≡ length places
    → ((i : ℕ) → i < n → i < length places → is_in more i ≡ true) → ((i : ℕ) → n ≤ i → is_in more i ≡ is_in places i)
    → more ≡ with_before n places
before_is zero [] [] long first later = refl
before_is zero [] (m ∷ more) long first later = absurd (omega arith)
before_is zero (p ∷ places) [] long first later = absurd (omega arith)
before_is zero (p ∷ places) (m ∷ more) long first later =
    ap₂ (λ (b : Bool) (bs : List Bool). b ∷ bs) (later 0 (omega arith))
    (before_is zero places more (omega arith) (λ i below within. absurd (omega arith))
    (λ i low. later (suc i) (omega arith)))
before_is (suc n) [] [] long first later = refl
before_is (suc n) [] (m ∷ more) long first later = absurd (omega arith)
before_is (suc n) (p ∷ places) [] long first later = absurd (omega arith)
before_is (suc n) (p ∷ places) (m ∷ more) long first later =
    ap₂ (λ (b : Bool) (bs : List Bool). b ∷ bs) (first 0 (omega arith) (omega arith))
    (before_is n places more (omega arith) (λ i below within. first (suc i) (omega arith) (omega arith))
    (λ i low. later (suc i) (omega arith)))

-- more places that aren't in the set
pub wider_in : (places : List Bool) (n i : ℕ) → is_in (places ++ replicate n false) i ≡ is_in places i
wider_in [] zero i = refl
wider_in [] (suc n) zero = refl
wider_in [] (suc n) (suc i) = wider_in [] n i
wider_in (p ∷ places) n zero = refl
wider_in (p ∷ places) n (suc i) = wider_in places n i

pub emptied_in : (places : List Bool) (i : ℕ) → is_in (emptied places) i ≡ false
emptied_in [] i = refl
emptied_in (p ∷ places) zero = refl
emptied_in (p ∷ places) (suc i) = emptied_in places i
