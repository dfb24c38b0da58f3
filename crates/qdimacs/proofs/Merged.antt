-- Scopes that are merged as they come.
use Rattle.std.proofs.Common.{◌≡◌, ℕ, Bool, true, false, List, [], ◌∷◌, ◌++◌, refl, sym, ap, ◌∙◌}
use Rattle.std.specs.Prelude.{if◌then◌else◌}
use Rattle.std.proofs.lemmas.List.{append_assoc, append-nil}
use Rattle.prefix.specs.declared.quant.Quant.{Quant}
use Rattle.prefix.specs.declared.quant.Quant.TheVariants.{Exists, Forall}
use Rattle.qdimacs.specs.Formula.{QuantSet, merged, join, join_if, same_quant, declared}

same_self : (q : Quant) → same_quant q q ≡ true
same_self Exists = refl
same_self Forall = refl

pub same_is : (q r : Quant) → same_quant q r ≡ true → q ≡ r
same_is Exists Exists h = refl
same_is Forall Forall h = refl
same_is Exists Forall h = cc
same_is Forall Exists h = cc

-- a set in two parts
join_join : (q : Quant) (us ts : List ℕ) (xs : List QuantSet) → join q (us ++ ts) xs ≡ join q us (join q ts xs)
join_join q [] ts xs = refl
join_join q (u ∷ us) [] xs = ap (λ r. join q (u ∷ r) xs) (append-nil us)
join_join q (u ∷ us) (t ∷ ts) [] = ap (λ x. join_if x q (u ∷ us) q (t ∷ ts) []) (sym (same_self q))
join_join q (u ∷ us) (t ∷ ts) (x ∷ xs) = by (same_quant q x.0)
  where
    by : (s : Bool) → join_if s q ((u ∷ us) ++ t ∷ ts) x.0 x.1 xs ≡ join q (u ∷ us) (join_if s q (t ∷ ts) x.0 x.1 xs)
    by true = ap (λ r. (q, u ∷ r) ∷ xs) (append_assoc us (t ∷ ts) x.1)
        ∙ ap (λ s. join_if s q (u ∷ us) q ((t ∷ ts) ++ x.1) xs) (sym (same_self q))
    by false = ap (λ s. join_if s q (u ∷ us) q (t ∷ ts) (x ∷ xs)) (sym (same_self q))

merged_join : (q : Quant) (us : List ℕ) (xs ys : List QuantSet) → merged (join q us xs ++ ys) ≡ join q us
    (merged (xs ++ ys))
merged_join q [] xs ys = refl
merged_join q (u ∷ us) [] ys = refl
merged_join q (u ∷ us) (x ∷ xs) ys = by (same_quant q x.0) refl
  where
    by : (s : Bool) → same_quant q x.0 ≡ s → merged (join_if s q (u ∷ us) x.0 x.1 xs ++ ys) ≡ join q (u ∷ us)
        (join x.0 x.1 (merged (xs ++ ys)))
    by true e = join_join q (u ∷ us) x.1 (merged (xs ++ ys))
        ∙ ap (λ r. join q (u ∷ us) (join r x.1 (merged (xs ++ ys)))) (same_is q x.0 e)
    by false e = refl

-- merged scopes do for the sets that they were merged from
pub merged_again : (sets ys : List QuantSet) → merged (merged sets ++ ys) ≡ merged (sets ++ ys)
merged_again [] ys = refl
merged_again (s ∷ sets) ys = merged_join s.0 s.1 (merged sets) ys ∙ ap (join s.0 s.1) (merged_again sets ys)

join_declared : (q : Quant) (vs : List ℕ) (xs : List QuantSet) → declared (join q vs xs) ≡ vs ++ declared xs
join_declared q [] xs = refl
join_declared q (v ∷ vs) [] = refl
join_declared q (v ∷ vs) (x ∷ xs) = by (same_quant q x.0)
  where
    by : (s : Bool) → declared (join_if s q (v ∷ vs) x.0 x.1 xs) ≡ (v ∷ vs) ++ (x.1 ++ declared xs)
    by true = append_assoc (v ∷ vs) x.1 (declared xs)
    by false = refl

pub merged_declared : (sets : List QuantSet) → declared (merged sets) ≡ declared sets
merged_declared [] = refl
merged_declared (s ∷ sets) = join_declared s.0 s.1 (merged sets) ∙ ap (λ r. s.1 ++ r) (merged_declared sets)

-- one more variable joins the last scope, or begins one
abbrev pub put_last : Quant → ℕ → List QuantSet → List QuantSet
put_last q v [] = (q, v ∷ []) ∷ []
put_last q v (x ∷ []) = if same_quant x.0 q then (x.0, x.1 ++ v ∷ []) ∷ [] else x ∷ (q, v ∷ []) ∷ []
put_last q v (x ∷ y ∷ rest) = x ∷ put_last q v (y ∷ rest)

join_put : (r : Quant) (us : List ℕ) (q : Quant) (v : ℕ) (xs : List QuantSet) → join r us (put_last q v xs) ≡ put_last q
    v (join r us xs)
join_put r [] q v xs = refl
join_put r (u ∷ us) q v [] = by (same_quant r q)
  where
    by : (s : Bool) → join_if s r (u ∷ us) q (v ∷ []) [] ≡
        (if s then (r, (u ∷ us) ++ v ∷ []) ∷ [] else (r, u ∷ us) ∷ (q, v ∷ []) ∷ [])
    by true = refl
    by false = refl
join_put r (u ∷ us) q v (x ∷ []) = by (same_quant r x.0) (same_quant x.0 q) refl refl
  where
    by : (s t : Bool) → same_quant r x.0 ≡ s → same_quant x.0 q ≡ t
        → join r (u ∷ us) (if t then (x.0, x.1 ++ v ∷ []) ∷ [] else x ∷ (q, v ∷ []) ∷ []) ≡ put_last q v
        (join_if s r (u ∷ us) x.0 x.1 [])
    by true true e f =
        ap (λ s. join_if s r (u ∷ us) x.0 (x.1 ++ v ∷ []) []) e
        ∙ ap (λ w. (r, w) ∷ []) (sym (append_assoc (u ∷ us) x.1 (v ∷ [])))
        ∙ ap (λ s. if s then (r, ((u ∷ us) ++ x.1) ++ v ∷ []) ∷ [] else (r, (u ∷ us) ++ x.1) ∷ (q, v ∷ []) ∷ [])
        (sym f ∙ ap (λ z. same_quant z q) (sym (same_is r x.0 e)))
    by true false e f =
        ap (λ s. join_if s r (u ∷ us) x.0 x.1 ((q, v ∷ []) ∷ [])) e
        ∙ ap (λ s. if s then (r, ((u ∷ us) ++ x.1) ++ v ∷ []) ∷ [] else (r, (u ∷ us) ++ x.1) ∷ (q, v ∷ []) ∷ [])
        (sym f ∙ ap (λ z. same_quant z q) (sym (same_is r x.0 e)))
    by false true e f =
        ap (λ s. join_if s r (u ∷ us) x.0 (x.1 ++ v ∷ []) []) e
        ∙ ap (λ t. (r, u ∷ us) ∷ (if t then (x.0, x.1 ++ v ∷ []) ∷ [] else x ∷ (q, v ∷ []) ∷ [])) (sym f)
    by false false e f =
        ap (λ s. join_if s r (u ∷ us) x.0 x.1 ((q, v ∷ []) ∷ [])) e
        ∙ ap (λ t. (r, u ∷ us) ∷ (if t then (x.0, x.1 ++ v ∷ []) ∷ [] else x ∷ (q, v ∷ []) ∷ [])) (sym f)
join_put r (u ∷ us) q v (x ∷ y ∷ rest) = by (same_quant r x.0)
  where
    by : (s : Bool) → join_if s r (u ∷ us) x.0 x.1 (put_last q v (y ∷ rest)) ≡ put_last q v
        (join_if s r (u ∷ us) x.0 x.1 (y ∷ rest))
    by true = refl
    by false = refl

one_put : (q : Quant) (vs : List ℕ) (v : ℕ) → join q (vs ++ v ∷ []) [] ≡ put_last q v (join q vs [])
one_put q [] v = refl
one_put q (u ∷ us) v = ap (λ s. if s then (q, (u ∷ us) ++ v ∷ []) ∷ [] else (q, u ∷ us) ∷ (q, v ∷ []) ∷ [])
    (sym (same_self q))

-- what a variable makes of the merged scopes
pub merged_put : (sets : List QuantSet) (q : Quant) (vs : List ℕ) (v : ℕ) → merged (sets ++ (q, vs ++ v ∷ []) ∷ []) ≡
    put_last q v (merged (sets ++ (q, vs) ∷ []))
merged_put [] q vs v = one_put q vs v
merged_put (s ∷ sets) q vs v = ap (join s.0 s.1) (merged_put sets q vs v) ∙ join_put s.0 s.1 q v
    (merged (sets ++ (q, vs) ∷ []))
