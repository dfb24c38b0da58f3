-- One more clause, and groups of clauses one behind the other.
use Rattle.std.proofs.Common.{append_assoc, ◌≡◌, ℕ, ◌+◌, ◌^◌, ◌<◌, ◌≤◌, true, false, not, ◌||◌, cond, List, [], ◌∷◌, ◌++◌, length, map, filter, take, get_or, nat_eq, refl, sym, ap, ◌∙◌, arith, subst, append-nil, length-append, Result, Ok, Err}
use Rattle.std.specs.List.{flat_map}
use Rattle.std.specs.Prelude.{OnOk}
use Rattle.std.proofs.lemmas.List.{map-append}
use Rattle.std.proofs.lemmas.List.Elements.{filter-append, filter_more}
use Rattle.std.proofs.lemmas.Bool.{eq-eqb, ne_eqb}
use Rattle.std.proofs.lemmas.List.Concat.{flat_map-append}
use Rattle.prefix.specs.Literal.{Literal}
use Rattle.prefix.specs.Scopes.{IsAscending, is_among}
use Rattle.clauses.specs.Codes.{has_pair}
use Rattle.builder.specs.Rows.{is_left_out, as_row, rows_of, literal_of}
use Rattle.builder.specs.Building.{Kept, Builds, Adds, capped, amount_of, AreFew, has_one, no_rows, row_of_sorted}
use Rattle.builder.proofs.Sorting.{left_out_is, row_is}

kept_last : (cs : List (List ℕ)) (c : List ℕ) → rows_of (cs ++ c ∷ []) ≡ rows_of cs ++ map as_row
    (filter (λ d. not (is_left_out d)) (c ∷ []))
kept_last cs c =
    ap (map as_row) (filter-append (λ d. not (is_left_out d)) cs (c ∷ []))
    ∙ map-append as_row (filter (λ d. not (is_left_out d)) cs) (filter (λ d. not (is_left_out d)) (c ∷ []))

pub rows_same : (cs : List (List ℕ)) (c : List ℕ) → is_left_out c ≡ true → rows_of (cs ++ c ∷ []) ≡ rows_of cs
rows_same cs c t = kept_last cs c ∙ ap (λ b. rows_of cs ++ map as_row (cond (not b) (c ∷ []) [])) t
    ∙ append-nil (rows_of cs)

pub rows_more : (cs : List (List ℕ)) (c : List ℕ) → is_left_out c ≡ false
    → rows_of (cs ++ c ∷ []) ≡ rows_of cs ++ as_row c ∷ []
rows_more cs c f = kept_last cs c ∙ ap (λ b. rows_of cs ++ map as_row (cond (not b) (c ∷ []) [])) f

amount_more : (rows : List (List Literal)) (row : List Literal)
    → amount_of (rows ++ row ∷ []) ≡ amount_of rows + length row
amount_more rows row =
    ap length (flat_map-append (λ r. r) rows (row ∷ [])) ∙ length-append (flat_map (λ r. r) rows) (row ++ [])
    ∙ ap (λ r. length (flat_map (λ s. s) rows) + length r) (append-nil row)

-- a clause that is left out changes nothing
pub builds_same : (build : Kept) (cs : List (List ℕ)) (c : List ℕ) → is_left_out c ≡ true → Builds build cs
    → Builds build (cs ++ c ∷ [])
builds_same build cs c t b =
    let e = rows_same cs c t in
    record {
      count = b.count ∙ sym (ap (λ r. capped (length r)) e);
      amount = b.amount ∙ sym (ap (λ r. capped (amount_of r)) e);
      rows = λ few. b.rows (subst AreFew e few) ∙ sym e;
    }

-- another one is counted, and put behind the others within the limits
pub builds_more : (old new : Kept) (cs : List (List ℕ)) (c : List ℕ) (row : List Literal) → is_left_out c ≡ false
    → row ≡ as_row c
    → new.count ≡ capped (old.count + 1) → new.amount ≡ capped (old.amount + length row)
    → (new.count ≤ 2 ^ 24 → new.amount ≤ 2 ^ 28 → new.rows ≡ old.rows ++ row ∷ [])
    → Builds old cs → Builds new (cs ++ c ∷ [])
builds_more old new cs c row f is count amount rows b =
    let e : rows_of (cs ++ c ∷ []) ≡ rows_of cs ++ row ∷ [] = rows_more cs c f
    ∙ ap (λ r. rows_of cs ++ r ∷ []) (sym is) in
    let more : length (rows_of cs ++ row ∷ []) ≡ length (rows_of cs) + 1 = length-append (rows_of cs) (row ∷ []) in
    let wider : amount_of (rows_of cs ++ row ∷ []) ≡ amount_of (rows_of cs) + length row =
    amount_more (rows_of cs) row in
    let many : new.count ≡ capped (length (rows_of cs) + 1) = count
    ∙ capped_more (length (rows_of cs)) 1 old.count b.count in
    let wide : new.amount ≡ capped (amount_of (rows_of cs) + length row) = amount
    ∙ capped_more (amount_of (rows_of cs)) (length row) old.amount b.amount in
    record {
      count = many ∙ sym (ap (λ r. capped (length r)) e ∙ ap capped more);
      amount = wide ∙ sym (ap (λ r. capped (amount_of r)) e ∙ ap capped wider);
      rows = λ few.
          let within : AreFew (rows_of cs ++ row ∷ []) = subst AreFew e few in
          let low : length (rows_of cs) + 1 ≤ 2 ^ 24 = omega (arith, within.0, more) in
          let low_amount : amount_of (rows_of cs) + length row ≤ 2 ^ 28 = omega (arith, within.1, wider) in
          rows (omega (arith, many, low)) (omega (arith, wide, low_amount))
          ∙ ap (λ r. r ++ row ∷ []) (b.rows (omega (arith, low), omega (arith, low_amount))) ∙ sym e;
    }
  where
    capped_more : (n m k : ℕ) → k ≡ capped n → capped (k + m) ≡ capped (n + m)
    capped_more n m k e = omega (arith, e)

-- the row of a clause that ascends, put behind the others
pub adds_row : {E : Type 0} (r : Result (Unit {0}) E) (old new : Kept) (done : List ℕ) (row : List Literal)
    → IsAscending done → (has_one done || has_pair done) ≡ false → row ≡ row_of_sorted done
    → OnOk r (new.count ≡ capped (old.count + 1)) → OnOk r (new.amount ≡ capped (old.amount + length row))
    → OnOk r (new.count ≤ 2 ^ 24 → new.amount ≤ 2 ^ 28 → new.rows ≡ old.rows ++ row ∷ [])
    → OnOk r ((clause : List ℕ) → ((n : ℕ) → is_among n done ≡ is_among n clause) → Adds old new (clause ∷ []))
adds_row (Ok x) old new done row up none is count amount rows = λ clause same cs b.
    builds_more old new cs clause row (sym (left_out_is clause done up same) ∙ none) (is ∙ row_is clause done up same)
    count amount rows b
adds_row (Err e) old new done row up none is count amount rows = tt

-- the row of one more literal
row_more : (xs : List ℕ) (i d : ℕ) → i < length xs
    → row_of_sorted (take (i + 1) xs) ≡ row_of_sorted (take i xs) ++ map literal_of
    (cond (not (nat_eq (get_or xs i d) 0)) (get_or xs i d ∷ []) [])
row_more xs i d below =
    ap (map literal_of) (filter_more (λ n. not (nat_eq n 0)) xs i d below)
    ∙ map-append literal_of (filter (λ n. not (nat_eq n 0)) (take i xs))
    (cond (not (nat_eq (get_or xs i d) 0)) (get_or xs i d ∷ []) [])

pub row_kept : (xs : List ℕ) (i d : ℕ) → i < length xs → (get_or xs i d ≡ 0 → ⊥)
    → row_of_sorted (take (i + 1) xs) ≡ row_of_sorted (take i xs) ++ literal_of (get_or xs i d) ∷ []
row_kept xs i d below ne =
    row_more xs i d below
    ∙ ap (λ b. row_of_sorted (take i xs) ++ map literal_of (cond (not b) (get_or xs i d ∷ []) []))
    (ne_eqb (get_or xs i d) 0 ne)

pub row_skipped : (xs : List ℕ) (i d : ℕ) → i < length xs → get_or xs i d ≡ 0
    → row_of_sorted (take (i + 1) xs) ≡ row_of_sorted (take i xs)
row_skipped xs i d below e =
    row_more xs i d below
    ∙ ap (λ b. row_of_sorted (take i xs) ++ map literal_of (cond (not b) (get_or xs i d ∷ []) []))
    (eq-eqb (get_or xs i d) 0 e)
    ∙ append-nil (row_of_sorted (take i xs))

-- no clause
pub builds_none : (build : Kept) → build ≡ no_rows → Builds build []
builds_none build is =
    subst (λ b. Builds b []) (sym is) (record { count = refl; amount = refl; rows = λ few. refl })

-- groups of clauses one behind the other
pub adds_none : (build : Kept) → Adds build build []
adds_none build cs b = subst (Builds build) (sym (append-nil cs)) b

pub adds_more : (first mid last : Kept) (xs ys : List (List ℕ)) → Adds first mid xs → Adds mid last ys
    → Adds first last (xs ++ ys)
adds_more first mid last xs ys a b cs h = subst (Builds last) (append_assoc cs xs ys) (b (cs ++ xs) (a cs h))

pub adds_same : (first last : Kept) (xs ys : List (List ℕ)) → xs ≡ ys → Adds first last xs → Adds first last ys
adds_same first last xs ys e a = subst (Adds first last) e a
