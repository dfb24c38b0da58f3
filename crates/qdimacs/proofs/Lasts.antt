-- The last scope.
use Rattle.std.proofs.Common.{◌≡◌, ℕ, zero, suc, ◌<◌, Bool, true, false, not, List, [], ◌∷◌, ◌++◌, length, get_or, set, refl, ap, ◌∙◌, arith}
use Rattle.std.specs.Prelude.{if◌then◌else◌}
use Rattle.prefix.specs.declared.quant.Quant.{Quant}
use Rattle.qdimacs.specs.declared.sets.Row.{Row}
use Rattle.qdimacs.specs.Formula.{QuantSet, same_quant}
use Rattle.qdimacs.specs.Kept.{sets_of, last_differs, put_last, with_last}

pub differs_at : (q : Quant) (rows : List Row) (m : ℕ) (d : Row) → length rows ≡ suc m
    → last_differs q (sets_of rows) ≡ not (same_quant (get_or rows m d).quant q)
differs_at q [] m d e = absurd (omega (arith, e))
differs_at q (x ∷ []) zero d e = refl
differs_at q (x ∷ []) (suc m) d e = absurd (omega (arith, e))
differs_at q (x ∷ y ∷ rows) zero d e = absurd (omega (arith, e))
differs_at q (x ∷ y ∷ rows) (suc m) d e = differs_at q (y ∷ rows) m d (omega (arith, e))

pub differs_none : (q : Quant) (rows : List Row) → length rows ≡ 0 → last_differs q (sets_of rows) ≡ true
differs_none q [] e = refl
differs_none q (x ∷ rows) e = absurd (omega (arith, e))

pub differs_some : (q : Quant) (xs : List QuantSet) → last_differs q xs ≡ false → 0 < length xs
differs_some q [] e = cc
differs_some q (x ∷ xs) e = omega arith

pub put_begins : (q : Quant) (v : ℕ) (xs : List QuantSet) → last_differs q xs ≡ true → put_last q v xs ≡ xs ++
    (q, v ∷ []) ∷ []
put_begins q v [] e = refl
put_begins q v (x ∷ []) e = by (same_quant x.0 q) e
  where
    by : (s : Bool) → not s ≡ true → (if s then (x.0, x.1 ++ v ∷ []) ∷ [] else x ∷ (q, v ∷ []) ∷ []) ≡ x ∷
        (q, v ∷ []) ∷ []
    by true e = cc
    by false e = refl
put_begins q v (x ∷ y ∷ rest) e = ap (λ r. x ∷ r) (put_begins q v (y ∷ rest) e)

pub put_joins : (q : Quant) (v : ℕ) (xs : List QuantSet) → last_differs q xs ≡ false → put_last q v xs ≡ with_last v xs
put_joins q v [] e = cc
put_joins q v (x ∷ []) e = by (same_quant x.0 q) e
  where
    by : (s : Bool) → not s ≡ false → (if s then (x.0, x.1 ++ v ∷ []) ∷ [] else x ∷ (q, v ∷ []) ∷ []) ≡
        (x.0, x.1 ++ v ∷ []) ∷ []
    by true e = refl
    by false e = cc
put_joins q v (x ∷ y ∷ rest) e = ap (λ r. x ∷ r) (put_joins q v (y ∷ rest) e)

-- the last row with one more variable
pub last_joined : (v : ℕ) (rows : List Row) (m : ℕ) (d new : Row) → length rows ≡ suc m
    → new.quant ≡ (get_or rows m d).quant → new.vars.items ≡ (get_or rows m d).vars.items ++ v ∷ []
    → sets_of (set rows m new) ≡ with_last v (sets_of rows)
last_joined v [] m d new e f g = absurd (omega (arith, e))
last_joined v (x ∷ []) zero d new e f g = ap (λ q. (q, new.vars.items) ∷ []) f ∙ ap (λ us. (x.quant, us) ∷ []) g
last_joined v (x ∷ []) (suc m) d new e f g = absurd (omega (arith, e))
last_joined v (x ∷ y ∷ rows) zero d new e f g = absurd (omega (arith, e))
last_joined v (x ∷ y ∷ rows) (suc m) d new e f g = later m e (last_joined v (y ∷ rows) m d new (omega (arith, e)) f g)
  where
    front : (zs ws : List QuantSet) → zs ≡ with_last v (sets_of (y ∷ rows)) → (x.quant, x.vars.items) ∷ zs ≡
        (x.quant, x.vars.items) ∷ with_last v (sets_of (y ∷ rows))
    front zs ws h = ap (λ r. (x.quant, x.vars.items) ∷ r) h

    later : (k : ℕ) → length (x ∷ y ∷ rows) ≡ suc (suc k) → sets_of (set (y ∷ rows) k new) ≡ with_last v
        (sets_of (y ∷ rows)) → sets_of (set (x ∷ y ∷ rows) (suc k) new) ≡ with_last v (sets_of (x ∷ y ∷ rows))
    later k e h = front (sets_of (set (y ∷ rows) k new)) [] h

-- a row with the same set is put in
pub set_same : (rows : List Row) (m : ℕ) (d new : Row) → m < length rows → new.quant ≡ (get_or rows m d).quant
    → new.vars.items ≡ (get_or rows m d).vars.items → sets_of (set rows m new) ≡ sets_of rows
set_same [] m d new low f g = absurd (omega (arith, low))
set_same (x ∷ rows) zero d new low f g = ap (λ q. (q, new.vars.items) ∷ sets_of rows) f
    ∙ ap (λ us. (x.quant, us) ∷ sets_of rows) g
set_same (x ∷ rows) (suc m) d new low f g = ap (λ r. (x.quant, x.vars.items) ∷ r)
    (set_same rows m d new (omega (arith, low)) f g)
