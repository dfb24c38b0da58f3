-- Scopes and numbers in texts.
use Rattle.std.proofs.Common.{◌≡◌, ℕ, zero, suc, ◌+◌, ◌-◌, ◌<◌, ◌≤◌, ◌==◌, Bool, false, max, List, [], ◌∷◌, ◌++◌, length, take, get_or, Option, Some, None, unwrap_or, refl, sym, ap, ap₂, ◌∙◌, arith}
use Rattle.std.specs.Prelude.{◌↔◌, IsTrue, slice_get, codes}
use Rattle.std.specs.Option.{option_map}
use Rattle.std.specs.List.{flat_map, range_with_len}
use Rattle.std.proofs.lemmas.List.{append-nil, take_more}
use Rattle.std.proofs.lemmas.Bool.{cond-false, ne_eqb, true≢false}
use Rattle.std.proofs.lemmas.Grind.{flat_map-append}
use Rattle.prefix.specs.declared.quant.Quant.{Quant}
use Rattle.prefix.specs.declared.quant.Quant.TheVariants.{Exists}
use Rattle.prefix.specs.Scopes.{Scope, all_variables, quantifier_at, variables_at}
use Rattle.qrp_trace.specs.Texts.{greatest, number_word, quantifier_word, scope_line, scope_numbered, variables_line}

pub greatest-append : (xs ys : List ℕ) → greatest (xs ++ ys) ≡ max (greatest xs) (greatest ys)
greatest-append [] ys = grind arith
greatest-append (x ∷ xs) ys = ap (max x) (greatest-append xs ys) ∙ assoc x (greatest xs) (greatest ys)
  where
    assoc : (a b c : ℕ) → max a (max b c) ≡ max (max a b) c
    assoc a b c = grind arith

max_none : (a : ℕ) → max a 0 ≡ a
max_none a = grind arith

pub greatest_next : (left later : List ℕ) (v most n new all : ℕ) → left ≡ v ∷ later
    → max most (greatest left) ≡ all → n ≡ v → new ≡ max most n → max new (greatest later) ≡ all
greatest_next left later v most n new all is before same more =
    ap (λ m. max m (greatest later)) (more ∙ ap (max most) same) ∙ assoc most v (greatest later)
    ∙ ap (λ vs. max most (greatest vs)) (sym is) ∙ before
  where
    assoc : (a b c : ℕ) → max (max a b) c ≡ max a (max b c)
    assoc a b c = grind arith

pub greatest_all : (left : List ℕ) (most all : ℕ) → left ≡ [] → max most (greatest left) ≡ all → most ≡ all
greatest_all left most all is before = sym (max_none most) ∙ ap (λ vs. max most (greatest vs)) (sym is) ∙ before

slice_get_in : {X : Type 0} (xs : List X) (k : ℕ) (d : X) → k < length xs → slice_get xs k ≡ Some (get_or xs k d)
slice_get_in [] k d h = absurd (omega arith)
slice_get_in (x ∷ xs) zero d h = refl
slice_get_in (x ∷ xs) (suc k) d h = slice_get_in xs k d (omega arith)

abbrev none : Scope
none = record { quantifier = Exists; variables = [] }

pub variables_is : (scopes : List Scope) (s : ℕ) → 1 ≤ s → s ≤ length scopes
    → variables_at scopes s ≡ (scope_numbered scopes s).variables
variables_is scopes s first last =
    ap (λ o. unwrap_or (option_map (λ (c : Scope). c.variables) o) []) (slice_get_in scopes (s - 1) none (omega arith))

pub quantifier_is : (scopes : List Scope) (s : ℕ) → 1 ≤ s → s ≤ length scopes
    → quantifier_at scopes s ≡ Some (scope_numbered scopes s).quantifier
quantifier_is scopes s first last =
    cond-false (s == 0) None (option_map (λ (c : Scope). c.quantifier) (slice_get scopes (s - 1)))
    (ne_eqb s 0 (λ e. omega arith))
    ∙ ap (option_map (λ (c : Scope). c.quantifier)) (slice_get_in scopes (s - 1) none (omega arith))

pub variables_more : (scopes : List Scope) (s : ℕ) → s < length scopes
    → all_variables (take (s + 1) scopes) ≡ all_variables (take s scopes) ++ variables_at scopes (s + 1)
variables_more scopes s below =
    let back : s + 1 - 1 ≡ s = omega arith in
    let here : variables_at scopes (s + 1) ≡ (get_or scopes s none).variables =
    variables_is scopes (s + 1) (omega arith) (omega arith) ∙ ap (λ k. (get_or scopes k none).variables) back in
    ap all_variables (take_more scopes s none below)
    ∙ flat_map-append (λ (c : Scope). c.variables) (take s scopes) (get_or scopes s none ∷ [])
    ∙ ap (λ ys. all_variables (take s scopes) ++ ys) (append-nil (get_or scopes s none).variables ∙ sym here)

pub greatest_later : (scopes : List Scope) (s most n new : ℕ) → s < length scopes
    → most ≡ greatest (all_variables (take s scopes)) → n ≡ greatest (variables_at scopes (s + 1)) → new ≡ max most n
    → new ≡ greatest (all_variables (take (s + 1) scopes))
greatest_later scopes s most n new below before same more =
    more ∙ ap₂ max before same
    ∙ sym (greatest-append (all_variables (take s scopes)) (variables_at scopes (s + 1)))
    ∙ sym (ap greatest (variables_more scopes s below))

pub line_some : (scope : Scope) (vars : List ℕ) (q : Quant) → vars ≡ scope.variables → q ≡ scope.quantifier
    → (length vars == 0) ≡ false → scope_line scope ≡ quantifier_word q ++ (flat_map number_word vars ++ codes "0\n")
line_some scope vars q is quantifier some = by_list vars is some
  where
    by_list : (xs : List ℕ) → xs ≡ scope.variables → (length xs == 0) ≡ false → scope_line scope ≡ quantifier_word q
        ++ (flat_map number_word xs ++ codes "0\n")
    by_list [] e t = absurd (true≢false t)
    by_list (x ∷ xs) e t = ap₂ variables_line (sym quantifier) (sym e)

-- a test of emptiness by numbers
pub some_by : (is_empty : Bool) (n : ℕ) → (IsTrue is_empty ↔ (n ≡ 0)) → is_empty ≡ false → (n == 0) ≡ false
some_by is_empty n means known = ne_eqb n 0 (λ e. true≢false (sym (means.1 e) ∙ known))

-- what a loop has put, and what follows
pub put_next : (f : ℕ → List ℕ) (left later : List ℕ) (v n : ℕ) (text all : List ℕ) → left ≡ v ∷ later
    → text ++ flat_map f left ≡ all → n ≡ v → text ++ (f n ++ flat_map f later) ≡ all
put_next f left later v n text all is before same =
    ap (λ m. text ++ (f m ++ flat_map f later)) same ∙ ap (λ vs. text ++ flat_map f vs) (sym is) ∙ before

pub put_all : (f : ℕ → List ℕ) (left text all : List ℕ) → left ≡ [] → text ++ flat_map f left ≡ all → text ≡ all
put_all f left text all is before = sym (append-nil text) ∙ ap (λ vs. text ++ flat_map f vs) (sym is) ∙ before

pub range_length : (a n : ℕ) → length (range_with_len a n) ≡ n
range_length a zero = refl
range_length a (suc n) = ap suc (range_length (a + 1) n)

pub range_at : (a n i : ℕ) → i < n → get_or (range_with_len a n) i 0 ≡ a + i
range_at a zero i below = absurd (omega arith)
range_at a (suc n) zero below = omega arith
range_at a (suc n) (suc i) below = let e = range_at (a + 1) n i (omega arith) in omega arith

pub quantifier_found : (scopes : List Scope) (s : ℕ) (found : Option Quant) (q : Quant) → 1 ≤ s → s ≤ length scopes
    → found ≡ quantifier_at scopes s → found ≡ Some q → q ≡ (scope_numbered scopes s).quantifier
quantifier_found scopes s found q first last is some = let e : Some q ≡ Some (scope_numbered scopes s).quantifier =
    sym some ∙ is ∙ quantifier_is scopes s first last in cc
