-- The formula at the end of the text.
use Rattle.std.proofs.Common.{◌≡◌, ℕ, zero, suc, ◌+◌, ◌<◌, ◌≤◌, ℤ, nat_abs, Bool, true, false, not, ◌&&◌, ◌||◌, List, [], ◌∷◌, ◌++◌, length, map, Some, refl, sym, ap, ap₂, ◌∙◌, arith}
use Rattle.std.specs.Prelude.{◌==◌, nat_lt, if◌then◌else◌, filter, slice_index_or}
use Rattle.std.proofs.lemmas.Bool.{eq-eqb, eqb-true, lt-ltb, le-ltb, or_left}
use Rattle.std.proofs.lemmas.List.{append-nil}
use Rattle.prefix.specs.declared.quant.Quant.{Quant}
use Rattle.prefix.specs.declared.quant.Quant.TheVariants.{Exists, Forall}
use Rattle.prefix.specs.Scopes.{is_among, AreDistinct}
use Rattle.prefix.proofs.ScopeLemmas.{is_among-append}
use Rattle.truth.specs.declared.formula.Formula.{Formula}
use Rattle.reading.specs.declared.refusal.Quantity.TheVariants.{Scopes}
use Rattle.qdimacs.specs.Formula.{QuantSet, in_order, join, free, merged, occurring, declared, literals_of, scopes_of, formula_of}
use Rattle.qdimacs.specs.Rules.{Header, Front, between, first_of, end_rules, limit, parsed}
use Rattle.truth.specs.Limits.{max_scopes}
use Rattle.qdimacs.specs.Kept.{AreMarks, put_front, AreScopes}
use Rattle.qdimacs.proofs.Merged.{merged_declared}
use Rattle.qdimacs.proofs.Fitting.{front_fits}
use Rattle.clauses.proofs.Ascending.{ascending_same, true_is_not}

pub filter_among : (v : ℕ) (p : ℕ → Bool) (xs : List ℕ) → is_among v (filter p xs) ≡ (is_among v xs && p v)
filter_among v p [] = refl
filter_among v p (x ∷ xs) = by (p x) (x == v) refl refl (filter_among v p xs)
  where
    by : (a b : Bool) → p x ≡ a → (x == v) ≡ b → is_among v (filter p xs) ≡ (is_among v xs && p v)
        → is_among v (if a then x ∷ filter p xs else filter p xs) ≡ ((b || is_among v xs) && p v)
    by true true e f h = ap (λ b. b || is_among v (filter p xs)) f ∙ sym e ∙ ap p (eqb-true x v f)
    by true false e f h = ap (λ b. b || is_among v (filter p xs)) f ∙ h
    by false true e f h =
        let off : p v ≡ false = ap p (sym (eqb-true x v f)) ∙ e in
        h ∙ ap (λ b. is_among v xs && b) off ∙ and_off (is_among v xs) ∙ sym off
      where
        and_off : (b : Bool) → (b && false) ≡ false
        and_off true = refl
        and_off false = refl
    by false false e f h = h

-- the variables found by marks are the free ones
pub free_found : (sets : List QuantSet) (clauses : List (List ℤ)) (found : List ℕ) (occur marks : List Bool)
    → AreMarks occur (map nat_abs (literals_of clauses ++ [])) → AreMarks marks (declared sets)
    → ((v : ℕ) → is_among v found ≡ (slice_index_or occur v false && not (slice_index_or marks v false)))
    → (v : ℕ) → is_among v found ≡ is_among v (free sets clauses)
free_found sets clauses found occur marks o m h v =
    h v ∙ ap (λ b. b && not (slice_index_or marks v false))
    (o v ∙ ap (λ ls. is_among v (map nat_abs ls)) (append-nil (literals_of clauses)))
    ∙ ap (λ b. is_among v (occurring clauses) && not b) (m v)
    ∙ sym (filter_among v (λ v. not (is_among v (declared sets))) (occurring clauses))

-- marks that were read are the marks
pub found_by : (occur marks seen known : List Bool) (found : List ℕ)
    → ((v : ℕ) → is_among v found ≡ (slice_index_or seen v false && not (slice_index_or known v false)))
    → seen ≡ occur → known ≡ marks
    → (v : ℕ) → is_among v found ≡ (slice_index_or occur v false && not (slice_index_or marks v false))
found_by occur marks seen known found those is_seen is_known v =
    those v ∙ ap₂ (λ (a b : List Bool). slice_index_or a v false && not (slice_index_or b v false)) is_seen is_known

or_turned : (a b : Bool) → (a || b) ≡ (b || a)
or_turned true true = refl
or_turned true false = refl
or_turned false true = refl
or_turned false false = refl

at_first : (f g : ℕ) (fs gs : List ℕ) (q : Quant) (us : List ℕ) (rest : List QuantSet)
    → ((v : ℕ) → is_among v (f ∷ fs) ≡ is_among v (g ∷ gs))
    → map in_order (put_front (f ∷ fs) ((q, us) ∷ rest)) ≡ map in_order (join Exists (g ∷ gs) ((q, us) ∷ rest))
at_first f g fs gs Exists us rest same = ap (λ vs. record { quantifier = Exists; variables = vs } ∷ map in_order rest)
    (ascending_same (us ++ f ∷ fs) ((g ∷ gs) ++ us) (λ v. is_among-append v us (f ∷ fs) ∙ ap (λ b. is_among v us || b)
    (same v) ∙ or_turned (is_among v us) (is_among v (g ∷ gs)) ∙ sym (is_among-append v (g ∷ gs) us)))
at_first f g fs gs Forall us rest same =
    ap (λ vs. record { quantifier = Exists; variables = vs } ∷ in_order (Forall, us) ∷ map in_order rest)
    (ascending_same (f ∷ fs) (g ∷ gs) same)

-- free variables in front, however often they stand
pub front_same : (found named : List ℕ) (scopes : List QuantSet) → ((v : ℕ) → is_among v found ≡ is_among v named)
    → map in_order (put_front found scopes) ≡ map in_order (join Exists named scopes)
front_same [] [] scopes same = refl
front_same [] (g ∷ gs) scopes same = true_is_not (sym (or_left (g == g) (is_among g gs) (eq-eqb g g refl))
    ∙ sym (same g))
front_same (f ∷ fs) [] scopes same = true_is_not (sym (or_left (f == f) (is_among f fs) (eq-eqb f f refl)) ∙ same f)
front_same (f ∷ fs) (g ∷ gs) [] same = ap (λ vs. record { quantifier = Exists; variables = vs } ∷ [])
    (ascending_same (f ∷ fs) (g ∷ gs) same)
front_same (f ∷ fs) (g ∷ gs) (x ∷ rest) same = at_first f g fs gs x.0 x.1 rest same

-- the scopes in front of which the variables stand that were found by marks
pub scopes_are : (sets : List QuantSet) (clauses : List (List ℤ)) (found : List ℕ) (occur marks seen known : List Bool)
    (old new : List QuantSet) → AreMarks occur (map nat_abs (literals_of clauses ++ []))
    → AreMarks marks (declared sets)
    → ((v : ℕ) → is_among v found ≡ (slice_index_or seen v false && not (slice_index_or known v false)))
    → seen ≡ occur → known ≡ marks → new ≡ put_front found old → old ≡ merged sets
    → map in_order new ≡ map in_order (scopes_of sets clauses)
scopes_are sets clauses found occur marks seen known old new o m those is_seen is_known put is_merged =
    ap (map in_order) (put ∙ ap (put_front found) is_merged)
    ∙ front_same found (free sets clauses) (merged sets)
    (free_found sets clauses found occur marks o m (found_by occur marks seen known found those is_seen is_known))

in_order_length : (xs : List QuantSet) → length (map in_order xs) ≡ length xs
in_order_length [] = refl
in_order_length (x ∷ xs) = ap suc (in_order_length xs)

pub scopes_length : (xs ys : List QuantSet) → map in_order xs ≡ map in_order ys → length xs ≡ length ys
scopes_length xs ys e = sym (in_order_length xs) ∙ ap length e ∙ in_order_length ys

-- more scopes than there may be
pub too_many : (front : Front) (h : Header) (sets : List QuantSet) (clauses : List (List ℤ)) (line n : ℕ)
    → front ≡ between h sets clauses → h.count ≤ length clauses → n ≡ length (scopes_of sets clauses) → max_scopes < n
    → first_of (end_rules front line) ≡ Some (limit Scopes line)
too_many front h sets clauses line n is all same more =
    rw (is, le-ltb (length clauses) h.count all, ap (nat_lt max_scopes) (sym same) ∙ lt-ltb max_scopes n more) refl

-- the formula
pub formula_read : (front : Front) (h : Header) (sets : List QuantSet) (clauses : List (List ℤ)) (line n : ℕ)
    (f : Formula) → front ≡ between h sets clauses → h.count ≤ length clauses → n ≡ length (scopes_of sets clauses)
    → n ≤ max_scopes
    → f ≡ formula_of h.vars h.count sets clauses → first_of (end_rules front line) ≡ Some (parsed f)
formula_read front h sets clauses line n f is all same few built =
    rw (is, le-ltb (length clauses) h.count all, ap (nat_lt max_scopes) (sym same) ∙ le-ltb max_scopes n few)
    (ap (λ g. Some (parsed g)) (sym built))

both_false : (a b : Bool) → (a && not b) ≡ true → (a ≡ true) × (b ≡ false)
both_false true true h = cc
both_false true false h = (refl, refl)
both_false false b h = cc

marked_below : (marks : List Bool) (v : ℕ) → slice_index_or marks v false ≡ true → v < length marks
marked_below [] v h = absurd (let e : true ≡ false = sym h in cc)
marked_below (m ∷ ms) zero h = omega arith
marked_below (m ∷ ms) (suc v) h = omega (arith, marked_below ms v h)

-- what the prefix takes
pub whole_fits : (found : List ℕ) (sets : List QuantSet) (occur marks : List Bool) (numbers : List ℕ)
    (rows : List QuantSet) (vars : ℕ) → vars ≤ 1048576
    → length occur ≡ vars + 1 → length marks ≡ vars + 1 → AreMarks occur numbers → is_among 0 numbers ≡ false
    → AreMarks marks (declared sets) → AreDistinct (declared sets) → is_among 0 (declared sets) ≡ false
    → AreDistinct found
    → ((v : ℕ) → is_among v found ≡ (slice_index_or occur v false && not (slice_index_or marks v false)))
    → rows ≡ put_front found (merged sets) → length rows ≤ 65536 → AreScopes rows
whole_fits found sets occur marks numbers rows vars few occur_len marks_len o none m distinct positive once those is
    low =
    let same : declared (merged sets) ≡ declared sets = merged_declared sets in
    let old_range : (v : ℕ) → is_among v (declared (merged sets)) ≡ true → (1 ≤ v) × (v ≤ 1048576) = λ v h.
    in_range v (declared sets) marks marks_len positive (ap (is_among v) (sym same) ∙ h)
    (m v ∙ ap (is_among v) (sym same) ∙ h) in
    let free_range : (v : ℕ) → is_among v found ≡ true → (1 ≤ v) × (v ≤ 1048576)
    × (is_among v (declared (merged sets)) ≡ false) = λ v h.
    let parts = both_false (slice_index_or occur v false) (slice_index_or marks v false) (sym (those v) ∙ h) in
    let r = in_range v numbers occur occur_len none (sym (o v) ∙ parts.0) parts.0 in
    (r.0, r.1, ap (is_among v) same ∙ sym (m v) ∙ parts.1) in
    let all = front_fits found (merged sets) once free_range (rw same distinct) old_range in
    record { few = low; distinct = rw is all.0; each = λ v h. all.1 v (ap (λ r. is_among v (declared r)) (sym is) ∙ h) }
  where
    in_range : (v : ℕ) (vs : List ℕ) (ms : List Bool) → length ms ≡ vars + 1 → is_among 0 vs ≡ false
        → is_among v vs ≡ true → slice_index_or ms v false ≡ true → (1 ≤ v) × (v ≤ 1048576)
    in_range zero vs ms e z h k = true_is_not (sym h ∙ z)
    in_range (suc v) vs ms e z h k = (omega arith, omega (arith, marked_below ms (suc v) k, e, few))
