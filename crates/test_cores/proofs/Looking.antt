-- Rows, one further.
use Rattle.std.proofs.Common.{◌≡◌, ℕ, ◌+◌, ◌<◌, List, [], ◌∷◌, ◌++◌, length, take, get_or, sym, subst, ap, ◌∙◌}
use Rattle.std.specs.List.{AllByRecursion}
use Rattle.std.proofs.lemmas.List.{append-nil, take_more}
use Rattle.calculus.specs.Rows.{Row}
use Rattle.cores.specs.Cores.{Group, grouped_in}
use Rattle.cores.proofs.Minimal.{grouped_append}

taken : {X : Type 0} (xs : List X) (i : ℕ) (x : X) → i < length xs → x ≡ get_or xs i x
    → take (i + 1) xs ≡ take i xs ++ x ∷ []
taken xs i x low is = take_more xs i x low ∙ ap (λ y. take i xs ++ y ∷ []) (sym is)

all_both : (P : Row → Type 0) (xs ys : List Row) → AllByRecursion P xs → AllByRecursion P ys
    → AllByRecursion P (xs ++ ys)
all_both P [] ys a b = b
all_both P (x ∷ xs) ys a b = (a.0, all_both P xs ys a.1 b)

pub one_row : (P : Row → Type 0) (rows : List Row) (i : ℕ) (row : Row) → i < length rows → row ≡ get_or rows i row
    → AllByRecursion P (take i rows) → P row → AllByRecursion P (take (i + 1) rows)
one_row P rows i row low is all here =
    subst (AllByRecursion P) (sym (taken rows i row low is)) (all_both P (take i rows) (row ∷ []) all (here, tt))

pub one_group : (P : Row → Type 0) (gs : List Group) (i : ℕ) (g : Group) → i < length gs → g ≡ get_or gs i g
    → AllByRecursion P (grouped_in (take i gs)) → AllByRecursion P g.clauses
    → AllByRecursion P (grouped_in (take (i + 1) gs))
one_group P gs i g low is all here =
    subst (AllByRecursion P)
    (sym (ap grouped_in (taken gs i g low is) ∙ grouped_append (take i gs) (g ∷ [])
    ∙ ap (λ r. grouped_in (take i gs) ++ r) (append-nil g.clauses)))
    (all_both P (grouped_in (take i gs)) g.clauses all here)
