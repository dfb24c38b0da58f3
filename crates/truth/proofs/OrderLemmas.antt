-- One scope more.
use Rattle.std.proofs.Common.{◌≡◌, ℕ, zero, suc, ◌+◌, ◌-◌, ◌<◌, true, List, [], ◌∷◌, ◌++◌, length, map, take, get_or, Some, None, refl, sym, ap, ◌∙◌, add-one, arith}
use Rattle.std.specs.Prelude.{◌==◌, slice_get, is_some, unwrap_or}
use Rattle.std.specs.List.{AllByRecursion}
use Rattle.std.specs.Option.{option_map}
use Rattle.std.proofs.lemmas.Bool.{cond-false, ne_eqb}
use Rattle.std.proofs.lemmas.List.{append-nil, append_assoc, map-append, get_or-map}
use Rattle.prefix.specs.declared.quant.Quant.{Quant}
use Rattle.prefix.specs.Scopes.{Scope, all_variables, quantifier_at, variables_at, BoundVariable, variables_of, bound_by, prefix_order}
use Rattle.truth.specs.declared.order.BoundVar.{BoundVar}
use Rattle.truth.specs.Order.{bound_of, bounds_of}

-- the quantifier and the variables at a place from 0
quantifier_from : (ss : List Scope) (s : ℕ) → quantifier_at ss (s + 1) ≡ option_map (λ (c : Scope). c.quantifier)
    (slice_get ss s)
quantifier_from ss s =
    let back : s + 1 - 1 ≡ s = omega arith in
    cond-false (s + 1 == 0) None (option_map (λ (c : Scope). c.quantifier) (slice_get ss (s + 1 - 1)))
    (ne_eqb (s + 1) 0 (λ e. absurd (omega arith)))
    ∙ ap (λ k. option_map (λ (c : Scope). c.quantifier) (slice_get ss k)) back

variables_from : (ss : List Scope) (s : ℕ) → variables_at ss (s + 1) ≡ unwrap_or
    (option_map (λ (c : Scope). c.variables) (slice_get ss s)) []
variables_from ss s =
    let back : s + 1 - 1 ≡ s = omega arith in
    ap (λ k. unwrap_or (option_map (λ (c : Scope). c.variables) (slice_get ss k)) []) back

is_there : (ss : List Scope) (s : ℕ) → s < length ss
    → is_some (option_map (λ (c : Scope). c.quantifier) (slice_get ss s)) ≡ true
is_there [] s h = absurd (omega arith)
is_there (c ∷ ss) zero h = refl
is_there (c ∷ ss) (suc s) h = is_there ss s (omega arith)

pub has_quantifier : (ss : List Scope) (s : ℕ) → s < length ss → is_some (quantifier_at ss (s + 1)) ≡ true
has_quantifier ss s h = ap is_some (quantifier_from ss s) ∙ is_there ss s h

order_more : (ss : List Scope) (s : ℕ) (q : Quant) → s < length ss → option_map (λ (c : Scope). c.quantifier)
    (slice_get ss s) ≡ Some q → prefix_order (take (suc s) ss) ≡ prefix_order (take s ss) ++ map (bound_by q)
    (unwrap_or (option_map (λ (c : Scope). c.variables) (slice_get ss s)) [])
order_more [] s q h e = absurd (omega arith)
order_more (c ∷ ss) zero q h e =
    let same : c.quantifier ≡ q = cc in
    append-nil _ ∙ ap (λ k. map (bound_by k) c.variables) same
order_more (c ∷ ss) (suc s) q h e =
    ap (λ xs. map (bound_by c.quantifier) c.variables ++ xs) (order_more ss s q (omega arith) e)
    ∙ sym (append_assoc (map (bound_by c.quantifier) c.variables) (prefix_order (take s ss)) _)

pub prefix_order_more : (ss : List Scope) (s : ℕ) (q : Quant) → s < length ss → quantifier_at ss (s + 1) ≡ Some q
    → prefix_order (take (s + 1) ss) ≡ prefix_order (take s ss) ++ map (bound_by q) (variables_at ss (s + 1))
prefix_order_more ss s q h e =
    let more : s + 1 ≡ suc s = omega arith in
    ap (λ n. prefix_order (take n ss)) more ∙ order_more ss s q h (sym (quantifier_from ss s) ∙ e)
    ∙ ap (λ vs. prefix_order (take s ss) ++ map (bound_by q) vs) (sym (variables_from ss s))

pub bound_at : (order : List BoundVar) (n : ℕ) (x : BoundVar) → n < length order → x ≡ get_or order n x
    → get_or (bounds_of order) n (bound_of x) ≡ bound_of x
bound_at order n x h e = get_or-map bound_of order n x (bound_of x) h ∙ ap bound_of (sym e)

pub slice_get_in : {X : Type 0} (xs : List X) (k : ℕ) (d : X) → k < length xs → slice_get xs k ≡ Some (get_or xs k d)
slice_get_in [] k d h = absurd (omega arith)
slice_get_in (x ∷ xs) zero d h = refl
slice_get_in (x ∷ xs) (suc k) d h = slice_get_in xs k d (omega arith)

variables_of-bound_by : (q : Quant) (vs : List ℕ) → variables_of (map (bound_by q) vs) ≡ vs
variables_of-bound_by q [] = refl
variables_of-bound_by q (v ∷ vs) = ap (λ us. v ∷ us) (variables_of-bound_by q vs)

pub variables_of-prefix_order : (ss : List Scope) → variables_of (prefix_order ss) ≡ all_variables ss
variables_of-prefix_order [] = refl
variables_of-prefix_order (s ∷ ss) =
    map-append (λ (x : BoundVariable). x.variable) (map (bound_by s.quantifier) s.variables) (prefix_order ss)
    ∙ ap (λ vs. vs ++ variables_of (prefix_order ss)) (variables_of-bound_by s.quantifier s.variables)
    ∙ ap (λ vs. s.variables ++ vs) (variables_of-prefix_order ss)

-- what holds of the first variables, of one more
pub all_more : (P Q : BoundVariable → Type 0) (order : List BoundVar) (i : ℕ) (x : BoundVar) → i < length order
    → x ≡ get_or order i x → ((y : BoundVariable) → P y → Q y) → AllByRecursion P (bounds_of (take i order))
    → Q (bound_of x) → AllByRecursion Q (bounds_of (take (i + 1) order))
all_more P Q order i x h e f a q = rw add-one (more order i h e a)
  where
    more : (ys : List BoundVar) (n : ℕ) → n < length ys → x ≡ get_or ys n x → AllByRecursion P (bounds_of (take n ys))
        → AllByRecursion Q (bounds_of (take (suc n) ys))
    more [] n l g b = absurd (omega arith)
    more (y ∷ ys) zero l g b = (rw (← g) q, tt)
    more (y ∷ ys) (suc n) l g b = (f (bound_of y) b.0, more ys n (omega arith) g b.1)
