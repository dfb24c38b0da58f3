-- Variables put into a new scope one after the other.
use Rattle.std.proofs.Common.{◌≡◌, ℕ, zero, suc, ◌+◌, ◌-◌, ◌<◌, ◌≤◌, Bool, true, false, ◌||◌, List, [], ◌∷◌, ◌++◌, length, take, get_or, Option, Some, None, Result, Ok, Err, refl, sym, ap, ◌∙◌, arith, length-append, nat_eq}
use Rattle.std.specs.Prelude.{nat_lt, if◌then◌else◌, is_some, MatchOption, IsOkUnless, OnErr}
use Rattle.std.specs.Option.{option_map}
use Rattle.std.proofs.lemmas.List.{take_more}
use Rattle.std.proofs.lemmas.Bool.{ne_eqb, eqb-true, true≢false}
use Rattle.std.proofs.lemmas.Bool.Decides.{nat_tests}
use Rattle.prefix.specs.declared.quant.Quant.{Quant}
use Rattle.prefix.specs.declared.refusal.PrefixRefusal.{PrefixRefusal}
use Rattle.prefix.specs.declared.refusal.PrefixRefusal.TheVariants.{NoMemory, VarRange, VarTwice, ScopeRange, ScopeLimit}
use Rattle.prefix.specs.Refusals.{scope_refusal, variable_refusal}
use Rattle.prefix.specs.Scopes.{Scope, insert_ascending, with_variable_at, with_scope, is_among, level_of, AreDistinct}
use Rattle.prefix.proofs.ScopeLemmas.{is_among-insert_ascending, is_among-append, level_none_parts, ascending-insert}
use Rattle.clauses.specs.Clause.{ascending}
use Rattle.clauses.proofs.Ascending.{ascending_among, ascending_is, ascending_of}
use Rattle.builder.specs.NewScope.{AreNew, scope_of}
use Rattle.builder.proofs.Lists.{among_get}

turned : (a b : Bool) → (a || b) ≡ (b || (a || false))
turned true true = refl
turned true false = refl
turned false true = refl
turned false false = refl

-- one more variable
put_last : (v : ℕ) (xs : List ℕ) → is_among v xs ≡ false
    → insert_ascending v (ascending xs) ≡ ascending (xs ++ v ∷ [])
put_last v xs new =
    ascending_of (insert_ascending v (ascending xs)) (xs ++ v ∷ [])
    (ascending-insert v (ascending xs) (ascending_is xs) (ascending_among v xs ∙ new))
    (λ w. is_among-insert_ascending w v (ascending xs) ∙ ap (λ b. nat_eq v w || b) (ascending_among w xs)
    ∙ turned (nat_eq v w) (is_among w xs) ∙ sym (is_among-append w xs (v ∷ [])))

pub scope_last : (ss : List Scope) (q : Quant)
    → with_scope ss q None ≡ ss ++ record { quantifier = q; variables = [] } ∷ []
scope_last [] q = refl
scope_last (s ∷ ss) q = ap (λ r. s ∷ r) (scope_last ss q)

pub variable_last : (ss : List Scope) (q : Quant) (us : List ℕ) (v : ℕ)
    → with_variable_at (ss ++ record { quantifier = q; variables = us } ∷ []) (length ss) v
    ≡ ss ++ record { quantifier = q; variables = insert_ascending v us } ∷ []
variable_last [] q us v = refl
variable_last (s ∷ ss) q us v = ap (λ r. s ∷ r) (variable_last ss q us v)

-- a variable stands in no scope where it stands neither in these nor in the last
pub last_none : (ss : List Scope) (q : Quant) (us : List ℕ) (v : ℕ) → level_of ss v ≡ None → is_among v us ≡ false
    → level_of (ss ++ record { quantifier = q; variables = us } ∷ []) v ≡ None
last_none [] q us v h e = ap (λ b. if b then Some 1 else None) e
last_none (s ∷ ss) q us v h e =
    let more = ss ++ record { quantifier = q; variables = us } ∷ [] in
    let parts : (is_among v s.variables ≡ false) × (level_of ss v ≡ None) = level_none_parts s ss v h in
    ap (λ b. if b then Some 1 else option_map (λ n. n + 1) (level_of more v)) parts.0
    ∙ ap (option_map (λ n. n + 1)) (last_none ss q us v parts.1 e)

pub taken_new : (vs : List ℕ) (i : ℕ) → i < length vs → AreDistinct vs → is_among (get_or vs i 0) (take i vs) ≡ false
taken_new [] i low d = absurd (omega arith)
taken_new (x ∷ xs) zero low d = refl
taken_new (x ∷ xs) (suc i) low d =
    let v : ℕ = get_or xs i 0 in
    let other : nat_eq x v ≡ false = ne_eqb x v (λ e.
    true≢false (sym (among_get xs i 0 (omega arith)) ∙ ap (λ z. is_among z xs) (sym e) ∙ d.0)) in
    ap (λ b. b || is_among v (take i xs)) other ∙ taken_new xs i (omega arith) d.1

-- a scope is refused for want of memory alone
pub scope_memory : (ss : List Scope) (r : Result (Unit {0}) PrefixRefusal) → length ss < 65536
    → MatchOption (scope_refusal ss None) (IsOkUnless r NoMemory) (λ e. r ≡ Err e) → IsOkUnless r NoMemory
scope_memory ss r room h = by (nat_eq (length ss) 65536) refl h
  where
    by : (b : Bool) → nat_eq (length ss) 65536 ≡ b
        → MatchOption (if b then Some ScopeLimit else None) (IsOkUnless r NoMemory) (λ e. r ≡ Err e)
        → IsOkUnless r NoMemory
    by true e h = absurd (omega (arith, room, eqb-true (length ss) 65536 e))
    by false e h = h

-- a variable that is new is refused for want of memory alone
pub variable_memory : (ss : List Scope) (v n : ℕ) (r : Result (Unit {0}) PrefixRefusal) → 1 ≤ v → v ≤ 1048576
    → level_of ss v ≡ None → 1 ≤ n → n ≤ length ss
    → MatchOption (variable_refusal ss v n) (IsOkUnless r NoMemory) (λ e. r ≡ Err e) → IsOkUnless r NoMemory
variable_memory ss v n r low high new first last h =
    let range : (nat_eq v 0 || nat_lt 1048576 v) ≡ false = grind (arith, nat_tests, low, high) in
    let there : (nat_eq n 0 || nat_lt (length ss) n) ≡ false = grind (arith, nat_tests, first, last) in
    by (nat_eq v 0 || nat_lt 1048576 v) (level_of ss v) (nat_eq n 0 || nat_lt (length ss) n) range new there h
  where
    by : (a : Bool) (o : Option ℕ) (b : Bool) → a ≡ false → o ≡ None → b ≡ false
        → MatchOption (if a then Some VarRange else if is_some o then Some VarTwice
        else if b then Some ScopeRange else None) (IsOkUnless r NoMemory) (λ e. r ≡ Err e) → IsOkUnless r NoMemory
    by true o b e f g h = absurd (true≢false e)
    by false (Some m) b e f g h = absurd (let k : Some m ≡ None = f in cc)
    by false None true e f g h = absurd (true≢false g)
    by false None false e f g h = h

module _ (ss now : List Scope) (q : Quant) (vs : List ℕ) (i n : ℕ) (low : i < length vs) (new : AreNew ss vs)
    (number : n ≡ length ss + 1) (built : now ≡ ss ++ scope_of q (take i vs) ∷ []) where
  -- the scope has one more variable
  pub scope_grows : with_variable_at now (n - 1) (get_or vs i 0) ≡ ss ++ scope_of q (take (i + 1) vs) ∷ []
  scope_grows =
      let v : ℕ = get_or vs i 0 in
      let place : n - 1 ≡ length ss = omega (arith, number) in
      ap (λ m. with_variable_at now m v) place ∙ ap (λ o. with_variable_at o (length ss) v) built
      ∙ variable_last ss q (ascending (take i vs)) v
      ∙ ap (λ us. ss ++ record { quantifier = q; variables = us } ∷ [])
      (put_last v (take i vs) (taken_new vs i low new.distinct) ∙ ap ascending (sym (take_more vs i 0 low)))

  -- the next variable is refused for want of memory alone
  pub next_memory : (r : Result (Unit {0}) PrefixRefusal)
      → MatchOption (variable_refusal now (get_or vs i 0) n) (IsOkUnless r NoMemory) (λ e. r ≡ Err e)
      → IsOkUnless r NoMemory
  next_memory r h =
      let v : ℕ = get_or vs i 0 in
      let each = new.each v (among_get vs i 0 low) in
      let out : is_among v (ascending (take i vs)) ≡ false =
      ascending_among v (take i vs) ∙ taken_new vs i low new.distinct in
      let long : length now ≡ length ss + 1 = ap length built ∙ length-append ss (scope_of q (take i vs) ∷ []) in
      variable_memory now v n r each.0 each.1
      (ap (λ s. level_of s v) built ∙ last_none ss q (ascending (take i vs)) v each.2 out) (omega (arith, number))
      (omega (arith, number, long)) h

-- what holds anyway holds of an error
pub on_err : {A E : Type 0} {P : Type 0} (r : Result A E) → P → OnErr r P
on_err (Ok x) p = tt
on_err (Err e) p = p
