-- What was read with one word less.
use Rattle.std.proofs.Common.{◌≡◌, ◌≢◌, ℕ, zero, suc, ◌<◌, ◌≤◌, ℤ, nat_abs, Bool, true, false, ◌||◌, List, [], ◌∷◌, ◌++◌, length, take, drop, refl, sym, ap, subst, ◌∙◌, arith, length-append}
use Rattle.std.specs.Prelude.{◌==◌, if◌then◌else◌}
use Rattle.std.specs.List.{AllByRecursion}
use Rattle.std.proofs.lemmas.List.{append_assoc, append-nil}
use Rattle.std.proofs.lemmas.Bool.{ne_eqb, eqb-false, or_parts}
use Rattle.prefix.specs.declared.quant.Quant.{Quant}
use Rattle.qdimacs.specs.Formula.{QuantSet, merged, join, join_if, same_quant, declared, literals_of}
use Rattle.qdimacs.specs.Rules.{Header}
use Rattle.truth.specs.Limits.{max_scopes, max_literals}
use Rattle.qdimacs.specs.Reads.{AreAllowed}
use Rattle.qdimacs.proofs.Grown.{declared_more, declared_variable, literals_more, merged_empty}
use Rattle.prefix.specs.Scopes.{is_among, AreDistinct}

pub all_less : {X : Type 0} (P : X → Type 0) (xs : List X) (x : X) → AllByRecursion P (xs ++ x ∷ [])
    → AllByRecursion P xs × P x
all_less P [] x all = (tt, all.0)
all_less P (y ∷ ys) x all = let rest : AllByRecursion P ys × P x = all_less P ys x all.1 in ((all.0, rest.0), rest.1)

pub on_less : {X : Type 0} (P : X → Type 0) (n : ℕ) (xs : List X) (x : X) → AllByRecursion P (take n (xs ++ x ∷ []))
    → AllByRecursion P (take n xs) × (length xs < n → P x)
on_less P zero xs x all = (tt, λ lt. absurd (omega arith))
on_less P (suc n) [] x all = (tt, λ lt. all.0)
on_less P (suc n) (y ∷ ys) x all = let rest : AllByRecursion P (take n ys) × (length ys < n → P x) =
    on_less P n ys x all.1 in ((all.0, rest.0), λ lt. rest.1 (omega arith))

pub fifth_less : {X : Type 0} (P : X → Type 0) (n : ℕ) (xs : List X) (x : X) → AllByRecursion P
    (take 1 (drop n (xs ++ x ∷ []))) → AllByRecursion P (take 1 (drop n xs)) × (length xs ≡ n → P x)
fifth_less P zero [] x all = (tt, λ _. all.0)
fifth_less P zero (y ∷ ys) x all = ((all.0, tt), λ e. absurd (omega (arith, e)))
fifth_less P (suc n) [] x all = (tt, λ e. absurd (omega (arith, e)))
fifth_less P (suc n) (y ∷ ys) x all = let rest : AllByRecursion P (take 1 (drop n ys)) × (length ys ≡ n → P x) =
    fifth_less P n ys x all in (rest.0, λ e. rest.1 (omega (arith, e)))

old_first : (u : ℕ) (us : List ℕ) (v : ℕ) → is_among u (us ++ v ∷ []) ≡ false → (is_among u us ≡ false)
    × ((v == u) ≡ false)
old_first u [] v h = (refl, (or_parts (v == u) false h).0)
old_first u (w ∷ ws) v h =
    let parts : ((w == u) ≡ false) × (is_among u (ws ++ v ∷ []) ≡ false) = or_parts (w == u) (is_among u (ws ++ v ∷ []))
    h in
    let rest : (is_among u ws ≡ false) × ((v == u) ≡ false) = old_first u ws v parts.1 in
    (ap (λ t. t || is_among u ws) parts.0 ∙ rest.0, rest.1)

pub distinct_less : (vs : List ℕ) (v : ℕ) → AreDistinct (vs ++ v ∷ []) → AreDistinct vs × (is_among v vs ≡ false)
distinct_less [] v all = (tt, refl)
distinct_less (u ∷ us) v all =
    let rest : AreDistinct us × (is_among v us ≡ false) = distinct_less us v all.1 in
    let parts : (is_among u us ≡ false) × ((v == u) ≡ false) = old_first u us v all.0 in
    ((parts.0, rest.0), ap (λ t. t || is_among v us) (ne_eqb u v (λ q. eqb-false v u parts.1 (sym q))) ∙ rest.1)

-- the last of a list
pub last_of : {X : Type 0} (x : X) (xs : List X) → (ys : List X) × (y : X) × (x ∷ xs ≡ ys ++ y ∷ [])
last_of x [] = ([], x, refl)
last_of x (z ∷ zs) = let rest = last_of z zs in (x ∷ rest.0, rest.1, ap (λ r. x ∷ r) rest.2)

-- merged scopes grow with a set
joined_length : (t : Bool) (q : Quant) (vs : List ℕ) (r : Quant) (us : List ℕ) (rest : List QuantSet)
    → length (join_if t q vs r us rest) ≡ (if t then suc (length rest) else suc (suc (length rest)))
joined_length true q vs r us rest = refl
joined_length false q vs r us rest = refl

-- a list of scopes that begins as another does, and is no shorter
abbrev pub GoesOn : List QuantSet → List QuantSet → Type 0
GoesOn [] ys = Unit {0}
GoesOn (x ∷ xs) [] = ⊥
GoesOn (x ∷ xs) (y ∷ ys) = (x.0 ≡ y.0) × (length xs ≤ length ys)

join_goes : (q : Quant) (vs : List ℕ) (xs ys : List QuantSet) → GoesOn xs ys → GoesOn (join q vs xs) (join q vs ys)
join_goes q [] xs ys h = h
join_goes q (v ∷ vs) [] [] h = (refl, omega arith)
join_goes q (v ∷ vs) [] (y ∷ ys) h = first (same_quant q y.0)
  where
    first : (t : Bool) → GoesOn ((q, v ∷ vs) ∷ []) (join_if t q (v ∷ vs) y.0 y.1 ys)
    first true = (refl, omega arith)
    first false = (refl, omega arith)
join_goes q (v ∷ vs) (x ∷ xs) [] h = absurd h
join_goes q (v ∷ vs) (x ∷ xs) (y ∷ ys) h =
    subst (λ r. GoesOn (join_if (same_quant q x.0) q (v ∷ vs) x.0 x.1 xs)
    (join_if (same_quant q r) q (v ∷ vs) y.0 y.1 ys)) h.0 (both (same_quant q x.0))
  where
    both : (t : Bool) → GoesOn (join_if t q (v ∷ vs) x.0 x.1 xs) (join_if t q (v ∷ vs) y.0 y.1 ys)
    both true = (refl, h.1)
    both false = (refl, omega (arith, h.1))

one_goes : (q : Quant) (vs : List ℕ) (v : ℕ) → GoesOn (join q vs []) (join q (vs ++ v ∷ []) [])
one_goes q [] v = tt
one_goes q (u ∷ us) v = (refl, omega arith)

merged_goes : (sets : List QuantSet) (q : Quant) (vs : List ℕ) (v : ℕ) → GoesOn (merged (sets ++ (q, vs) ∷ []))
    (merged (sets ++ (q, vs ++ v ∷ []) ∷ []))
merged_goes [] q vs v = one_goes q vs v
merged_goes (s ∷ sets) q vs v = join_goes s.0 s.1 (merged (sets ++ (q, vs) ∷ []))
    (merged (sets ++ (q, vs ++ v ∷ []) ∷ [])) (merged_goes sets q vs v)

goes_length : (xs ys : List QuantSet) → GoesOn xs ys → length xs ≤ length ys
goes_length [] ys h = omega arith
goes_length (x ∷ xs) [] h = absurd h
goes_length (x ∷ xs) (y ∷ ys) h = omega (arith, h.1)

pub merged_less : (sets : List QuantSet) (q : Quant) (vs : List ℕ) (v : ℕ) → length (merged (sets ++ (q, vs) ∷ [])) ≤
    length (merged (sets ++ (q, vs ++ v ∷ []) ∷ []))
merged_less sets q vs v = goes_length (merged (sets ++ (q, vs) ∷ [])) (merged (sets ++ (q, vs ++ v ∷ []) ∷ []))
    (merged_goes sets q vs v)

-- what is allowed with one less
pub set_shrinks : (h : Header) (sets : List QuantSet) (q : Quant) (vs : List ℕ) (v : ℕ)
    → AreAllowed h (sets ++ (q, vs ++ v ∷ []) ∷ []) []
    → AreAllowed h (sets ++ (q, vs) ∷ []) [] × (0 < v) × (v ≤ h.vars) × (is_among v (declared sets ++ vs) ≡ false)
set_shrinks h sets q vs v a =
    let same : declared (sets ++ (q, vs ++ v ∷ []) ∷ []) ≡ declared (sets ++ (q, vs) ∷ []) ++ v ∷ [] =
    declared_variable sets q vs v in
    let P : ℕ → Type 0 = λ v. (0 < v) × (v ≤ h.vars) in
    let each : AllByRecursion P (declared (sets ++ (q, vs) ∷ [])) × P v = all_less P (declared (sets ++ (q, vs) ∷ [])) v
    (subst (λ d. AllByRecursion P d) same a.variables) in
    let apart : AreDistinct (declared (sets ++ (q, vs) ∷ [])) × (is_among v (declared (sets ++ (q, vs) ∷ [])) ≡ false) =
    distinct_less (declared (sets ++ (q, vs) ∷ [])) v (subst AreDistinct same a.distinct) in (
      record {
        limits = a.limits;
        variables = each.0;
        distinct = apart.0;
        scopes = (let m : length (merged (sets ++ (q, vs) ∷ [])) ≤ length (merged (sets ++ (q, vs ++ v ∷ []) ∷ [])) =
            merged_less sets q vs v in let r : length (merged (sets ++ (q, vs ++ v ∷ []) ∷ [])) ≤ max_scopes =
            a.scopes in omega arith);
        count = a.count;
        literals = a.literals;
        amount = a.amount;
      },
      each.1.0,
      each.1.1,
      ap (is_among v) (sym (declared_more sets q vs)) ∙ apart.1,
    )

pub set_unbegun : (h : Header) (sets : List QuantSet) (q : Quant) → AreAllowed h (sets ++ (q, []) ∷ []) []
    → AreAllowed h sets []
set_unbegun h sets q a = record {
  limits = a.limits;
  variables = subst (λ d. AllByRecursion (λ v. (0 < v) × (v ≤ h.vars)) d)
      (declared_more sets q [] ∙ append-nil (declared sets)) a.variables;
  distinct = subst AreDistinct (declared_more sets q [] ∙ append-nil (declared sets)) a.distinct;
  scopes = rw merged_empty at a.scopes;
  count = a.count;
  literals = a.literals;
  amount = a.amount;
}

pub clause_unbegun : (h : Header) (sets : List QuantSet) (clauses : List (List ℤ)) → AreAllowed h sets
    (clauses ++ [] ∷ []) → AreAllowed h sets clauses × (length clauses ≢ h.count)
clause_unbegun h sets clauses a =
    let many : length (clauses ++ [] ∷ []) ≤ h.count = a.count in (
      record {
        limits = a.limits;
        variables = a.variables;
        distinct = a.distinct;
        scopes = a.scopes;
        count = omega (arith, length-append clauses ([] ∷ []));
        literals = subst (λ d. AllByRecursion (λ l. (0 < nat_abs l) × (nat_abs l ≤ h.vars)) d)
            (literals_more clauses [] ∙ append-nil (literals_of clauses)) a.literals;
        amount = subst (λ d. length d ≤ max_literals) (literals_more clauses [] ∙ append-nil (literals_of clauses))
            a.amount;
      },
      λ e. omega (arith, length-append clauses ([] ∷ []), e, many),
    )

pub clause_shrinks : (h : Header) (sets : List QuantSet) (clauses : List (List ℤ)) (ls : List ℤ) (n : ℤ)
    → AreAllowed h sets (clauses ++ (ls ++ n ∷ []) ∷ [])
    → AreAllowed h sets (clauses ++ ls ∷ []) × (0 < nat_abs n) × (nat_abs n ≤ h.vars)
    × (length (literals_of clauses ++ ls) < max_literals)
clause_shrinks h sets clauses ls n a =
    let same : literals_of (clauses ++ (ls ++ n ∷ []) ∷ []) ≡ literals_of (clauses ++ ls ∷ []) ++ n ∷ [] =
    literals_more clauses (ls ++ n ∷ []) ∙ sym (append_assoc (literals_of clauses) ls (n ∷ []))
    ∙ ap (λ r. r ++ n ∷ []) (sym (literals_more clauses ls)) in
    let P : ℤ → Type 0 = λ l. (0 < nat_abs l) × (nat_abs l ≤ h.vars) in
    let each : AllByRecursion P (literals_of (clauses ++ ls ∷ [])) × P n = all_less P (literals_of (clauses ++ ls ∷ []))
    n (subst (λ d. AllByRecursion P d) same a.literals) in
    let many : length (clauses ++ (ls ++ n ∷ []) ∷ []) ≤ h.count = a.count in
    let full : length (literals_of (clauses ++ ls ∷ []) ++ n ∷ []) ≤ max_literals = subst (λ d. length d ≤ max_literals)
    same a.amount in (
      record {
        limits = a.limits;
        variables = a.variables;
        distinct = a.distinct;
        scopes = a.scopes;
        count = omega (arith, length-append clauses (ls ∷ []), length-append clauses ((ls ++ n ∷ []) ∷ []));
        literals = each.0;
        amount = omega (arith, length-append (literals_of (clauses ++ ls ∷ [])) (n ∷ []));
      },
      each.1.0,
      each.1.1,
      omega (arith, length-append (literals_of (clauses ++ ls ∷ [])) (n ∷ []), ap length (literals_more clauses ls)),
    )
