-- Sorting the variables of a row changes nothing of its scope.
use Rattle.std.proofs.Common.{◌≡◌, ℕ, zero, suc, ◌+◌, ◌<◌, List, [], ◌∷◌, ◌++◌, length, map, take, get_or, set, refl, sym, ap, ◌∙◌, arith}
use Rattle.std.specs.List.Sorted.{IsPermutation}
use Rattle.prefix.specs.Scopes.{Scope}
use Rattle.qdimacs.specs.declared.sets.Row.{Row}
use Rattle.qdimacs.specs.Formula.{in_order}
use Rattle.qdimacs.specs.Kept.{sets_of}
use Rattle.clauses.proofs.Ascending.{ascending_same, permuted_among}

pub same_scope : (old new : Row) → new.quant ≡ old.quant → IsPermutation old.vars.items new.vars.items
    → in_order (new.quant, new.vars.items) ≡ in_order (old.quant, old.vars.items)
same_scope old new q p = ap (λ r. in_order (r, new.vars.items)) q
    ∙ ap (λ vs. record { quantifier = old.quant; variables = vs })
    (ascending_same new.vars.items old.vars.items (λ v. sym (permuted_among v old.vars.items new.vars.items p)))

pub set_in_order : (rows : List Row) (i : ℕ) (d new : Row) → i < length rows
    → in_order (new.quant, new.vars.items) ≡ in_order ((get_or rows i d).quant, (get_or rows i d).vars.items)
    → map in_order (sets_of (set rows i new)) ≡ map in_order (sets_of rows)
set_in_order [] i d new low e = absurd (omega arith)
set_in_order (x ∷ xs) zero d new low e = ap (λ s. s ∷ map in_order (sets_of xs)) e
set_in_order (x ∷ xs) (suc i) d new low e = ap (λ r. in_order (x.quant, x.vars.items) ∷ r)
    (set_in_order xs i d new (omega arith) e)

pub taken_in_order : (rows : List Row) (i : ℕ) (d : Row) → i < length rows → take (suc i) (map in_order (sets_of rows))
    ≡ take i (map in_order (sets_of rows)) ++ in_order ((get_or rows i d).quant, (get_or rows i d).vars.items) ∷ []
taken_in_order [] i d low = absurd (omega arith)
taken_in_order (x ∷ xs) zero d low = refl
taken_in_order (x ∷ xs) (suc i) d low = ap (λ r. in_order (x.quant, x.vars.items) ∷ r)
    (taken_in_order xs i d (omega arith))

pub row_step : (rows : List Row) (i : ℕ) (row new : Row) (all : List Scope) → i < length rows → row ≡ get_or rows i row
    → new.quant ≡ row.quant → IsPermutation row.vars.items new.vars.items
    → map in_order (sets_of rows) ≡ all
    → (take (i + 1) all ≡ take i all ++ in_order (new.quant, new.vars.items) ∷ [])
    × (map in_order (sets_of (set rows i new)) ≡ all)
row_step rows i row new all low is q p whole =
    let old : in_order (new.quant, new.vars.items) ≡ in_order
    ((get_or rows i row).quant, (get_or rows i row).vars.items) = same_scope row new q p
    ∙ ap (λ r. in_order (r.quant, r.vars.items)) is in
    let plus : i + 1 ≡ suc i = omega arith in (
      ap (λ m. take m all) plus ∙ ap (take (suc i)) (sym whole) ∙ taken_in_order rows i row low
          ∙ ap (λ s. take i (map in_order (sets_of rows)) ++ s ∷ []) (sym old)
          ∙ ap (λ a. take i a ++ in_order (new.quant, new.vars.items) ∷ []) whole,
      set_in_order rows i row new low old ∙ whole,
    )

rows_length : (zs : List Row) → length zs ≡ length (map in_order (sets_of zs))
rows_length [] = refl
rows_length (z ∷ zs) = ap suc (rows_length zs)

pub as_long : (xs ys : List Row) → map in_order (sets_of xs) ≡ map in_order (sets_of ys) → length xs ≡ length ys
as_long xs ys e = rows_length xs ∙ ap length e ∙ sym (rows_length ys)
