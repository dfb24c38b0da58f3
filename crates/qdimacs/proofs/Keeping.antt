-- What the reader keeps after one more word.
use Rattle.std.proofs.Common.{◌≡◌, ℕ, suc, ◌+◌, ◌<◌, ◌≤◌, ℤ, pos, negsuc, nat_abs, Bool, true, false, ◌&&◌, ◌||◌, not, List, [], ◌∷◌, ◌++◌, length, map, set, refl, sym, ap, ◌∙◌, ⊎_elim, arith, length-append}
use Rattle.std.specs.Prelude.{◌==◌, nat_lt, nat_le, if◌then◌else◌, filter, slice_index_or, None, Some}
use Rattle.std.specs.List.{AllByRecursion}
use Rattle.std.proofs.lemmas.Bool.{ne_eqb, cases_eq, eq-eqb}
use Rattle.std.proofs.lemmas.Bool.Decides.{nat_tests}
use Rattle.std.proofs.lemmas.List.{get_or-set_same, get_or-set_other, length-set, map-append, append_assoc, append-nil}
use Rattle.prefix.specs.declared.quant.Quant.{Quant}
use Rattle.prefix.specs.Literal.{Literal}
use Rattle.prefix.specs.Scopes.{is_among}
use Rattle.qdimacs.specs.declared.sets.Sets.{Sets}
use Rattle.qdimacs.specs.declared.clause_rows.Clauses.{Clauses}
use Rattle.qdimacs.specs.Formula.{QuantSet, merged, declared, same_quant, literals_of, matrix_of}
use Rattle.clauses.specs.Clause.{is_tautology, as_row, row_unless_tautology}
use Rattle.qdimacs.specs.Rules.{Header, variable_rules}
use Rattle.truth.specs.Limits.{max_literals, max_scopes}
use Rattle.qdimacs.specs.Kept.{sets_of, AreMarks, last_differs, put_last, variable_rules_kept, with_clause}
use Rattle.clauses.specs.Codes.{code_of, codes_of}
use Rattle.qdimacs.specs.Represents.{KeepsSets, KeepsClauses}
use Rattle.qdimacs.proofs.Lists.{all_more, distinct_more}
use Rattle.qdimacs.proofs.Grown.{declared_more, declared_variable, literals_more, merged_empty}
use Rattle.qdimacs.proofs.Merged.{merged_put}

-- one more number in a list
pub among_more : (v : ℕ) (vs : List ℕ) (u : ℕ) → is_among u (vs ++ v ∷ []) ≡ (v == u || is_among u vs)
among_more v [] u = refl
among_more v (w ∷ ws) u = ap (λ b. w == u || b) (among_more v ws u) ∙ turned (w == u) (v == u) (is_among u ws)
  where
    turned : (a b c : Bool) → (a || (b || c)) ≡ (b || (a || c))
    turned true true c = refl
    turned true false c = refl
    turned false true c = refl
    turned false false c = refl

-- 0 is none of them still
zero_not : (vs : List ℕ) (v : ℕ) → 0 < v → is_among 0 vs ≡ false → is_among 0 (vs ++ v ∷ []) ≡ false
zero_not vs v some none = among_more v vs 0 ∙ ap (λ b. b || is_among 0 vs) (ne_eqb v 0 (λ e. omega (arith, e))) ∙ none

-- one more mark
pub marks_more : (marks : List Bool) (vs : List ℕ) (v : ℕ) → v < length marks → AreMarks marks vs
    → AreMarks (set marks v true) (vs ++ v ∷ [])
marks_more marks vs v low m u = ⊎_elim same other (cases_eq u v)
  where
    same : u ≡ v → slice_index_or (set marks v true) u false ≡ is_among u (vs ++ v ∷ [])
    same e = rw e
        (get_or-set_same marks v true false low
        ∙ sym (among_more v vs v ∙ ap (λ b. b || is_among v vs) (eq-eqb v v refl)))

    other : (u ≡ v → ⊥) → slice_index_or (set marks v true) u false ≡ is_among u (vs ++ v ∷ [])
    other n = get_or-set_other marks v u true false n ∙ m u
        ∙ sym (among_more v vs u ∙ ap (λ b. b || is_among u vs) (ne_eqb v u (λ e. n (sym e))))

-- how many scopes there are with one more variable
pub put_length : (q : Quant) (v : ℕ) (xs : List QuantSet) → length (put_last q v xs) ≡
    (if last_differs q xs then suc (length xs) else length xs)
put_length q v [] = refl
put_length q v (x ∷ []) = by (same_quant x.0 q)
  where
    the_list : Bool → List QuantSet
    the_list s = if s then (x.0, x.1 ++ v ∷ []) ∷ [] else x ∷ (q, v ∷ []) ∷ []

    by : (s : Bool) → length (the_list s) ≡ (if not s then 2 else 1)
    by true = refl
    by false = refl
put_length q v (x ∷ y ∷ rest) = ap suc (put_length q v (y ∷ rest)) ∙ by (last_differs q (y ∷ rest))
  where
    by : (s : Bool) → suc (if s then suc (length (y ∷ rest)) else length (y ∷ rest)) ≡
        (if s then suc (length (x ∷ y ∷ rest)) else length (x ∷ y ∷ rest))
    by true = refl
    by false = refl

-- the limit of scopes, over merged ones
pub scopes_limit : (d : Bool) (n : ℕ) → n ≤ max_scopes → nat_lt max_scopes (if d then suc n else n) ≡
    (d && nat_le max_scopes n)
scopes_limit true n h = grind (arith, nat_tests)
scopes_limit false n h = grind (arith, nat_tests)

pub rules_kept : (h : Header) (kept : Sets) (sets : List QuantSet) (q : Quant) (vs : List ℕ) (n : ℤ) (line : ℕ)
    → KeepsSets h.vars kept (sets ++ (q, vs) ∷ [])
    → variable_rules h sets q vs n line ≡ variable_rules_kept h.vars kept.marks.items (sets_of kept.rows.items) q n line
rules_kept h kept sets q vs n line k =
    let marked : slice_index_or kept.marks.items (nat_abs n) false ≡ is_among (nat_abs n) (declared sets ++ vs) =
    k.marks (nat_abs n) ∙ ap (is_among (nat_abs n)) (declared_more sets q vs) in
    let all : List QuantSet = merged (sets ++ (q, vs) ∷ []) in
    let amount : length (merged (sets ++ (q, vs ++ nat_abs n ∷ []) ∷ [])) ≡
    (if last_differs q all then suc (length all) else length all) = ap length (merged_put sets q vs (nat_abs n))
    ∙ put_length q (nat_abs n) all in
    rw (marked, k.scopes, amount, scopes_limit (last_differs q all) (length all) k.few) refl

-- one more variable of a set
pub set_more : (vars : ℕ) (old new : Sets) (sets : List QuantSet) (q : Quant) (vs : List ℕ) (v : ℕ) → 0 < v → v ≤ vars
    → slice_index_or old.marks.items v false ≡ false
    → length (put_last q v (sets_of old.rows.items)) ≤ max_scopes
    → sets_of new.rows.items ≡ put_last q v (sets_of old.rows.items) → new.marks.items ≡ set old.marks.items v true
    → KeepsSets vars old (sets ++ (q, vs) ∷ []) → KeepsSets vars new (sets ++ (q, vs ++ v ∷ []) ∷ [])
set_more vars old new sets q vs v some low unmarked few rows marks k =
    let grown : merged (sets ++ (q, vs ++ v ∷ []) ∷ []) ≡ put_last q v (sets_of old.rows.items) = merged_put sets q vs v
    ∙ ap (put_last q v) (sym k.scopes) in
    record {
      scopes = rows ∙ sym grown;
      few = rw grown few;
      distinct = rw (declared_variable sets q vs v) (distinct_more (declared (sets ++ (q, vs) ∷ [])) v k.distinct
          (sym (k.marks v) ∙ unmarked));
      positive = ap (is_among 0) (declared_variable sets q vs v) ∙ zero_not (declared (sets ++ (q, vs) ∷ [])) v some
          k.positive;
      marks = rw (marks, declared_variable sets q vs v) (marks_more old.marks.items (declared (sets ++ (q, vs) ∷ [])) v
          (omega (arith, k.marked, low)) k.marks);
      marked = ap length marks ∙ length-set old.marks.items v true ∙ k.marked;
    }

-- a set begins
pub set_begun_kept : (vars : ℕ) (kept : Sets) (sets : List QuantSet) (q : Quant) → KeepsSets vars kept sets
    → KeepsSets vars kept (sets ++ (q, []) ∷ [])
set_begun_kept vars kept sets q k = record {
  scopes = k.scopes ∙ sym (merged_empty sets q);
  few = rw (merged_empty sets q) k.few;
  distinct = rw (declared_more sets q [], append-nil) k.distinct;
  positive = rw (declared_more sets q [], append-nil) k.positive;
  marks = rw (declared_more sets q [], append-nil) k.marks;
  marked = k.marked;
}

-- one more literal
pub literal_more : (vars count : ℕ) (old new : Clauses) (clauses : List (List ℤ)) (ls : List ℤ) (n : ℤ) → 0 < nat_abs n
    → nat_abs n ≤ vars → old.amount < max_literals
    → new.begun.items ≡ old.begun.items ++ code_of n ∷ [] → new.amount ≡ old.amount + 1
    → new.marks.items ≡ set old.marks.items (nat_abs n) true
    → new.rows.items ≡ old.rows.items → new.ended ≡ old.ended
    → KeepsClauses vars count old clauses ls → KeepsClauses vars count new clauses (ls ++ n ∷ [])
literal_more vars count old new clauses ls n some low room begun amount marks rows ended k =
    let longer : literals_of clauses ++ (ls ++ n ∷ []) ≡ (literals_of clauses ++ ls) ++ n ∷ [] =
    sym (append_assoc (literals_of clauses) ls (n ∷ [])) in
    record {
      fewer = k.fewer;
      rows = rows ∙ k.rows;
      ended = ended ∙ k.ended;
      begun = begun ∙ ap (λ r. r ++ code_of n ∷ []) k.begun ∙ sym (map-append code_of ls (n ∷ []));
      low = all_more (λ n. (0 < nat_abs n) × (nat_abs n ≤ vars)) ls n k.low (some, low);
      enough = omega (arith, amount, room);
      amount = amount ∙ ap (λ a. a + 1) k.amount
          ∙ sym (ap length longer ∙ length-append (literals_of clauses ++ ls) (n ∷ []));
      marks = rw (marks, longer, map-append nat_abs (literals_of clauses ++ ls) (n ∷ []))
          (marks_more old.marks.items (map nat_abs (literals_of clauses ++ ls)) (nat_abs n)
          (omega (arith, k.marked, low)) k.marks);
      positive = ap (is_among 0) (ap (map nat_abs) longer ∙ map-append nat_abs (literals_of clauses ++ ls) (n ∷ []))
          ∙ zero_not (map nat_abs (literals_of clauses ++ ls)) (nat_abs n) some k.positive;
      marked = ap length marks ∙ length-set old.marks.items (nat_abs n) true ∙ k.marked;
    }

-- the matrix where the clause has no row, and where it has one
pub with_none : (clause : List ℤ) (rows : List (List Literal)) → None ≡ row_unless_tautology clause
    → rows ≡ with_clause clause rows
with_none clause rows is = by (is_tautology clause) is
  where
    by : (t : Bool) → None ≡ (if t then None else Some (as_row clause))
        → rows ≡ (if t then rows else rows ++ as_row clause ∷ [])
    by true e = refl
    by false e = cc

pub with_some : (clause : List ℤ) (rows : List (List Literal)) (row : List Literal)
    → Some row ≡ row_unless_tautology clause → rows ++ row ∷ [] ≡ with_clause clause rows
with_some clause rows row is = by (is_tautology clause) is
  where
    by : (t : Bool) → Some row ≡ (if t then None else Some (as_row clause))
        → rows ++ row ∷ [] ≡ (if t then rows else rows ++ as_row clause ∷ [])
    by true e = cc
    by false e = cc

-- the matrix with one more clause
pub matrix_more : (clauses : List (List ℤ)) (clause : List ℤ) → matrix_of (clauses ++ clause ∷ []) ≡ with_clause clause
    (matrix_of clauses)
matrix_more [] clause = by (is_tautology clause)
  where
    by : (t : Bool) → map as_row (if not t then clause ∷ [] else []) ≡ (if t then [] else as_row clause ∷ [])
    by true = refl
    by false = refl
matrix_more (c ∷ cs) clause = by (is_tautology c) (matrix_more cs clause)
  where
    later : (t : Bool) → as_row c ∷ (if t then matrix_of cs else matrix_of cs ++ as_row clause ∷ []) ≡
        (if t then as_row c ∷ matrix_of cs else (as_row c ∷ matrix_of cs) ++ as_row clause ∷ [])
    later true = refl
    later false = refl

    rest : List (List ℤ) → List (List ℤ)
    rest xs = filter (λ d. not (is_tautology d)) xs

    by : (t : Bool) → matrix_of (cs ++ clause ∷ []) ≡ with_clause clause (matrix_of cs)
        → map as_row (if not t then c ∷ rest (cs ++ clause ∷ []) else rest (cs ++ clause ∷ [])) ≡ with_clause clause
        (map as_row (if not t then c ∷ rest cs else rest cs))
    by true later_rows = later_rows
    by false later_rows = ap (λ m. as_row c ∷ m) later_rows ∙ later (is_tautology clause)

-- a clause ends
pub clause_ended : (vars count : ℕ) (old new : Clauses) (clauses : List (List ℤ)) (ls : List ℤ) → length clauses < count
    → new.rows.items ≡ with_clause ls old.rows.items → new.begun.items ≡ [] → new.ended ≡ old.ended + 1
    → new.amount ≡ old.amount → new.marks.items ≡ old.marks.items
    → KeepsClauses vars count old clauses ls → KeepsClauses vars count new (clauses ++ ls ∷ []) []
clause_ended vars count old new clauses ls low rows begun ended amount marks k =
    let same : literals_of (clauses ++ ls ∷ []) ++ [] ≡ literals_of clauses ++ ls =
    append-nil (literals_of (clauses ++ ls ∷ [])) ∙ literals_more clauses ls in
    record {
      fewer = omega (arith, length-append clauses (ls ∷ []), low);
      rows = rows ∙ ap (with_clause ls) k.rows ∙ sym (matrix_more clauses ls);
      ended = ended ∙ ap (λ e. e + 1) k.ended ∙ sym (length-append clauses (ls ∷ []));
      begun = begun;
      low = tt;
      enough = omega (arith, amount, k.enough);
      amount = amount ∙ k.amount ∙ ap length (sym same);
      marks = rw (marks, same) k.marks;
      positive = rw same k.positive;
      marked = ap length marks ∙ k.marked;
    }

pub above_zero : (vars : ℕ) (ls : List ℤ) → AllByRecursion (λ n. (0 < nat_abs n) × (nat_abs n ≤ vars)) ls
    → AllByRecursion (λ n. 0 < nat_abs n) ls
above_zero vars [] all = tt
above_zero vars (l ∷ ls) all = (all.0.0, above_zero vars ls all.1)

-- the codes of declared literals
pub codes_low : (vars : ℕ) (ls : List ℤ) → vars ≤ 1048576 → AllByRecursion (λ n. (0 < nat_abs n) × (nat_abs n ≤ vars))
    ls → AllByRecursion (λ c. (2 ≤ c) × (c < 2097154)) (codes_of ls)
codes_low vars [] le all = tt
codes_low vars (pos n ∷ ls) le all = let h : (0 < n) × (n ≤ vars) = all.0 in
    ((omega (arith, h.0), omega (arith, h.1, le)), codes_low vars ls le all.1)
codes_low vars (negsuc n ∷ ls) le all = let h : (0 < suc n) × (suc n ≤ vars) = all.0 in
    ((omega (arith, h.0), omega (arith, h.1, le)), codes_low vars ls le all.1)
