-- What an engine is given of a formula that was read: no refusal, and what it then holds.
use Rattle.std.proofs.Common.{◌≡◌, ℕ, zero, suc, ◌+◌, ◌-◌, ◌<◌, ◌≤◌, Bool, true, false, ◌||◌, List, [], ◌∷◌, ◌++◌, length, reverse, take, get_or, Option, None, Some, refl, sym, ap, subst, ◌∙◌, arith, length-append}
use Rattle.std.specs.Prelude.{◌==◌, ◌^◌, min, drop, slice_get, unwrap_or, nat_lt, nat_le, if◌then◌else◌, is_some, flat_map, IsOkUnless, MatchOption, Result, Err}
use Rattle.std.specs.Option.{option_map}
use Rattle.std.specs.List.{AllByRecursion, list_all}
use Rattle.std.proofs.lemmas.Bool.{eqb-true, ne_eqb, or_right}
use Rattle.std.proofs.lemmas.Bool.Decides.{nat_tests}
use Rattle.std.proofs.lemmas.List.{append-nil, append_assoc, get_or_at, length-take-le, reverse-append, take_at, take_more}
use Rattle.prefix.specs.declared.quant.Quant.{Quant}
use Rattle.prefix.specs.Literal.{Literal}
use Rattle.prefix.specs.Scopes.{Scope, all_variables, insert_ascending, is_among, level_of, quantifier_at, variables_at, with_variable_at, AreDistinct, IsAscending, IsPrefix}
use Rattle.prefix.specs.Refusals.{variable_refusal}
use Rattle.prefix.proofs.InsertionLemmas.{level_found}
use Rattle.prefix.proofs.ScopeLemmas.{is_among-append}
use Rattle.clauses.specs.Clause.{variables_of}
use Rattle.frames.specs.declared.refusal.FrameRefusal.{FrameRefusal}
use Rattle.frames.specs.declared.refusal.FrameRefusal.TheVariants.{NoMemory}
use Rattle.engine.specs.Counting.{with_clause}
use Rattle.engine.specs.State.{EngineState, changed}
use Rattle.frames.specs.State.{literals_in}
use Rattle.frames.specs.Commands.{AddClause, AddScope, AddVariable, first_of, formula_after, is_known, prefix_refusals, refusal_of}
use Rattle.truth.specs.Limits.{max_clauses, max_literals}
use Rattle.truth.specs.Formed.{IsClauseOver}
use Rattle.qdimacs.specs.Kept.{AreNew}
use Rattle.qdimacs.proofs.Fitting.{distinct_apart, distinct_parts}
use Rattle.qdimacs.proofs.Building.{among_get, last_none, scope_last, taken_new, variable_last}
use Rattle.solve.specs.Feeding.{HoldsFormula, formula_with}
use Rattle.frames.proofs.Numbers.{amount, known_in, no_tautology, numbers, positive_in, same_row}

-- Clauses.

-- no clause over the prefix is refused, while there are few
pub clause_taken : (scopes : List Scope) (rows : List (List Literal)) (row : List Literal) → IsPrefix scopes
    → IsClauseOver scopes row → length rows < max_clauses → literals_in rows + length row ≤ max_literals
    → refusal_of (formula_with scopes rows) (AddClause (numbers row)) ≡ None
clause_taken scopes rows row valid over few low =
    let positive = positive_in scopes row valid over.1 in
    let known : list_all (is_known scopes) (numbers row) ≡ true = known_in scopes row positive over.1 in
    let long : length (variables_of (numbers row)) ≡ length row = amount row positive over.0 in
    let one : nat_le max_clauses (length rows) ≡ false = grind (arith, nat_tests, few) in
    let two : nat_lt max_literals (literals_in rows + length row) ≡ false = grind (arith, nat_tests, low) in
    rw (known, no_tautology row positive over.0, append-nil rows, append-nil rows, append-nil rows, long, one, two) refl

pub clause_given : (scopes : List Scope) (rows : List (List Literal)) (row : List Literal) → IsPrefix scopes
    → IsClauseOver scopes row → formula_after (formula_with scopes rows) (AddClause (numbers row)) ≡ formula_with scopes
    (rows ++ row ∷ [])
clause_given scopes rows row valid over =
    let positive = positive_in scopes row valid over.1 in
    rw (no_tautology row positive over.0, same_row row positive over.0) refl

-- one of many clauses
pub all_at : {X : Type 0} (P : X → Type 0) (xs : List X) (i : ℕ) (d : X) → i < length xs → AllByRecursion P xs
    → P (get_or xs i d)
all_at P [] i d low all = absurd (omega arith)
all_at P (x ∷ xs) zero d low all = all.0
all_at P (x ∷ xs) (suc i) d low all = all_at P xs i d (omega arith) all.1

-- the literals up to a clause are among all
pub literals_before : (rows : List (List Literal)) (i : ℕ) (d : List Literal) → i < length rows
    → literals_in (take i rows) + length (get_or rows i d) ≤ literals_in rows
literals_before [] i d low = absurd (omega arith)
literals_before (x ∷ xs) zero d low = omega (arith, length-append x (flat_map (λ row. row) xs))
literals_before (x ∷ xs) (suc i) d low = omega (
  arith,
  length-append x (flat_map (λ row. row) xs),
  length-append x
      (flat_map (λ row. row) (take i xs)),
  literals_before xs i d (omega arith),
)

-- one clause more of those that move in
pub front_is : (xs ys all : List (List Literal)) → xs ++ ys ≡ all → take (length xs) all ≡ xs
front_is xs ys all e = ap (take (length xs)) (sym e) ∙ take_at xs ys (length xs) refl

pub next_is : (xs : List (List Literal)) (y : List Literal) (ys all : List (List Literal)) → xs ++ y ∷ ys ≡ all
    → (length xs < length all) × (y ≡ get_or all (length xs) y)
next_is xs y ys all e = (
  subst (λ zs. length xs < length zs) e (omega (arith, length-append xs (y ∷ ys))),
  sym (ap (λ zs. get_or zs (length xs) y) (sym e) ∙ get_or_at xs y ys y (length xs) refl),
)

pub more_is : (xs : List (List Literal)) (y : List Literal) (ys all : List (List Literal)) → xs ++ y ∷ ys ≡ all
    → (xs ++ y ∷ []) ++ ys ≡ all
more_is xs y ys all e = append_assoc xs (y ∷ []) ys ∙ e

pub next_front : (xs : List (List Literal)) (y : List Literal) (ys all : List (List Literal)) → xs ++ y ∷ ys ≡ all
    → take (length xs + 1) all ≡ xs ++ y ∷ []
next_front xs y ys all e =
    let long : length (xs ++ y ∷ []) ≡ length xs + 1 = length-append xs (y ∷ []) in
    ap (take (length xs + 1)) (sym (more_is xs y ys all e)) ∙ take_at (xs ++ y ∷ []) ys (length xs + 1) long

-- the same where those to come stand in reverse, and the next is taken from their end
pub turned_next : (moved rest old all : List (List Literal)) (y : List Literal) → old ≡ rest ++ y ∷ []
    → moved ++ reverse old ≡ all → moved ++ y ∷ reverse rest ≡ all
turned_next moved rest old all y e parts = ap (λ ys. moved ++ ys) (sym (reverse-append rest (y ∷ [])))
    ∙ (ap (λ xs. moved ++ reverse xs) (sym e) ∙ parts)

none_left : (ys : List (List Literal)) → length ys ≡ 0 → ys ≡ []
none_left [] e = refl
none_left (y ∷ ys) e = absurd (omega (arith, e))

pub all_given : (xs ys all : List (List Literal)) → length ys ≡ 0 → xs ++ ys ≡ all → xs ≡ all
all_given xs ys all none e = sym (append-nil xs) ∙ (ap (λ zs. xs ++ zs) (sym (none_left ys none)) ∙ e)

-- Scopes.

-- a scope as the last is refused only where there are as many as may be
pub scope_taken : (scopes : List Scope) (q : Quant) → length scopes < 65536 → refusal_of (formula_with scopes [])
    (AddScope q None) ≡ None
scope_taken scopes q room =
    let few : (length scopes == 65536) ≡ false = ne_eqb (length scopes) 65536 (λ e. omega (arith, e, room)) in
    rw few refl

pub scope_given : (scopes : List Scope) (q : Quant) → formula_after (formula_with scopes [])
    (AddScope q None) ≡ formula_with (scopes ++ record { quantifier = q; variables = [] } ∷ []) []
scope_given scopes q = ap (λ ss. formula_with ss []) (scope_last scopes q)

-- with this scope as the last
abbrev pub and_scope : List Scope → Quant → List ℕ → List Scope
and_scope scopes q vs = scopes ++ record { quantifier = q; variables = vs } ∷ []

-- a variable above all of an ascending list
put_behind : (v : ℕ) (us : List ℕ) → AllByRecursion (λ u. u < v) us → insert_ascending v us ≡ us ++ v ∷ []
put_behind v [] low = refl
put_behind v (u ∷ us) low =
    let less : u < v = low.0 in
    let e : nat_lt v u ≡ false = grind (arith, nat_tests, less) in
    ap (λ t. if t then v ∷ u ∷ us else u ∷ insert_ascending v us) e ∙ ap (λ r. u ∷ r) (put_behind v us low.1)

all_get : (P : ℕ → Type 0) (xs : List ℕ) (i : ℕ) → i < length xs → AllByRecursion P xs → P (get_or xs i 0)
all_get P xs i low all = all_at P xs i 0 low all

before_get : (vs : List ℕ) (i : ℕ) → i < length vs → IsAscending vs → AllByRecursion (λ u. u < get_or vs i 0)
    (take i vs)
before_get [] i low a = absurd (omega arith)
before_get (x ∷ xs) zero low a = tt
before_get (x ∷ xs) (suc i) low a = (all_get (λ y. x < y) xs i (omega arith) a.0, before_get xs i (omega arith) a.1)

pub variable_given : (scopes : List Scope) (q : Quant) (vs : List ℕ) (i n : ℕ) → i < length vs → IsAscending vs
    → n ≡ length scopes + 1
    → formula_after (formula_with (and_scope scopes q (take i vs)) []) (AddVariable (get_or vs i 0) n) ≡ formula_with
    (and_scope scopes q (take (i + 1) vs)) []
variable_given scopes q vs i n low a number =
    let place : n - 1 ≡ length scopes = omega (arith, number) in
    ap (λ m. formula_with (with_variable_at (and_scope scopes q (take i vs)) m (get_or vs i 0)) []) place
    ∙ ap (λ ss. formula_with ss []) (variable_last scopes q (take i vs) (get_or vs i 0))
    ∙ ap (λ us. formula_with (and_scope scopes q us) []) (put_behind (get_or vs i 0) (take i vs) (before_get vs i low a)
    ∙ sym (take_more vs i 0 low))

not_refused : (ss : List Scope) (v n : ℕ) → 1 ≤ v → v ≤ 1048576 → level_of ss v ≡ None → 1 ≤ n → n ≤ length ss
    → variable_refusal ss v n ≡ None
not_refused ss v n low high new first last =
    let range : (v == 0 || nat_lt 1048576 v) ≡ false = grind (arith, nat_tests, low, high) in
    let there : (n == 0 || nat_lt (length ss) n) ≡ false = grind (arith, nat_tests, first, last) in
    rw (range, new, there) refl

pub variable_taken : (scopes : List Scope) (q : Quant) (vs : List ℕ) (i n : ℕ) → i < length vs → AreNew scopes vs
    → n ≡ length scopes + 1
    → refusal_of (formula_with (and_scope scopes q (take i vs)) []) (AddVariable (get_or vs i 0) n) ≡ None
variable_taken scopes q vs i n low new number =
    let v : ℕ = get_or vs i 0 in
    let each = new.each v (among_get vs i low) in
    let long : length (and_scope scopes q (take i vs)) ≡ length scopes + 1 = length-append scopes
    (record { quantifier = q; variables = take i vs } ∷ []) in
    let none : variable_refusal (and_scope scopes q (take i vs)) v n ≡ None =
    not_refused (and_scope scopes q (take i vs)) v n each.0 each.1
    (last_none scopes q (take i vs) v each.2 (taken_new vs i low new.distinct)) (omega (arith, number))
    (omega (arith, number, long)) in
    ap (λ o. first_of (prefix_refusals o)) none

-- What a call of the engine gives.

-- what isn't refused ends with want of memory alone
pub only_memory : (o : Option FrameRefusal) (r : Result (Unit {0}) FrameRefusal) → o ≡ None
    → MatchOption o (IsOkUnless r NoMemory) (λ e. r ≡ Err e) → IsOkUnless r NoMemory
only_memory o r none h = subst (λ p. MatchOption p (IsOkUnless r NoMemory) (λ e. r ≡ Err e)) none h

-- one more clause of many
module _ (scopes : List Scope) (clauses : List (List Literal)) (valid : IsPrefix scopes)
    (over : AllByRecursion (IsClauseOver scopes) clauses) (i : ℕ) (low : i < length clauses) (row : List Literal)
    (is : row ≡ get_or clauses i row) where
  pub this_over : IsClauseOver scopes row
  this_over = subst (IsClauseOver scopes) (sym is) (all_at (IsClauseOver scopes) clauses i row low over)

  pub clause_memory : (e : EngineState) → HoldsFormula scopes (take i clauses) e → length clauses ≤ max_clauses
      → literals_in clauses ≤ max_literals → refusal_of e.formula (AddClause (numbers row)) ≡ None
  clause_memory e holds count few =
      let long : length (take i clauses) ≡ i = length-take-le i clauses (omega (arith, low)) in
      let before : literals_in (take i clauses) + length row ≤ literals_in clauses =
      subst (λ r. literals_in (take i clauses) + length r ≤ literals_in clauses) (sym is)
      (literals_before clauses i row low) in
      ap (λ f. refusal_of f (AddClause (numbers row))) holds.formula
      ∙ clause_taken scopes (take i clauses) row valid this_over (omega (arith, long, low, count))
      (omega (arith, before, few))

  pub clause_fed : (old new : EngineState) → HoldsFormula scopes (take i clauses) old
      → new ≡ record (changed old (AddClause (numbers row))) {
        counts = with_clause old.counts;
        kept_long = new.kept_long;
      }
      → HoldsFormula scopes (take (i + 1) clauses) new
  clause_fed old new holds is_new = record {
    formula = ap (λ (e : EngineState). e.formula) is_new ∙ ap (λ f. formula_after f (AddClause (numbers row)))
        holds.formula
        ∙ clause_given scopes (take i clauses) row valid this_over ∙ ap (λ rows. formula_with scopes rows)
        (ap (λ r. take i clauses ++ r ∷ []) is ∙ sym (take_more clauses i row low));
    undecided = ap (λ (e : EngineState). e.verdict) is_new;
    counted =
        let count : new.counts.clauses ≡ min (old.counts.clauses + 1) (2 ^ 64 - 1) =
        ap (λ (e : EngineState). e.counts.clauses) is_new in
        let long : length (take i clauses) ≡ i = length-take-le i clauses (omega (arith, low)) in
        let longer : length (take (i + 1) clauses) ≡ i + 1 = length-take-le (i + 1) clauses (omega (arith, low)) in
        omega (arith, count, long, longer, holds.counted);
    unsolved = ap (λ (e : EngineState). e.counts.solves) is_new ∙ holds.unsolved;
    unbudgeted = ap (λ (e : EngineState). e.counts.budget) is_new ∙ holds.unbudgeted;
    unsized = ap (λ (e : EngineState). e.counts.vars) is_new ∙ holds.unsized;
    restarts = ap (λ (e : EngineState). e.restarts) is_new ∙ holds.restarts;
    never = ap (λ (e : EngineState). e.counts.restarts) is_new ∙ holds.never;
    kept = ap (λ (e : EngineState). e.kept_rows) is_new ∙ holds.kept;
  }

-- one more variable of a scope
module _ (scopes : List Scope) (q : Quant) (vs : List ℕ) (i n v : ℕ) (low : i < length vs) (is : v ≡ get_or vs i 0)
    (number : n ≡ length scopes + 1) where
  pub variable_memory : (e : EngineState) → HoldsFormula (and_scope scopes q (take i vs)) [] e → AreNew scopes vs
      → refusal_of e.formula (AddVariable v n) ≡ None
  variable_memory e holds new =
      ap (λ f. refusal_of f (AddVariable v n)) holds.formula
      ∙ ap (λ w. refusal_of (formula_with (and_scope scopes q (take i vs)) []) (AddVariable w n)) is
      ∙ variable_taken scopes q vs i n low new number

  pub variable_fed : (old new : EngineState) → HoldsFormula (and_scope scopes q (take i vs)) [] old → IsAscending vs
      → new ≡ changed old (AddVariable v n) → HoldsFormula (and_scope scopes q (take (i + 1) vs)) [] new
  variable_fed old new holds rising is_new = record {
    formula = ap (λ (e : EngineState). e.formula) is_new ∙ ap (λ f. formula_after f (AddVariable v n)) holds.formula
        ∙ ap (λ w. formula_after (formula_with (and_scope scopes q (take i vs)) []) (AddVariable w n)) is
        ∙ variable_given scopes q vs i n low rising number;
    undecided = ap (λ (e : EngineState). e.verdict) is_new;
    counted = subst (λ n. n ≤ 0) (sym (ap (λ (e : EngineState). e.counts.clauses) is_new)) holds.counted;
    unsolved = ap (λ (e : EngineState). e.counts.solves) is_new ∙ holds.unsolved;
    unbudgeted = ap (λ (e : EngineState). e.counts.budget) is_new ∙ holds.unbudgeted;
    unsized = ap (λ (e : EngineState). e.counts.vars) is_new ∙ holds.unsized;
    restarts = ap (λ (e : EngineState). e.restarts) is_new ∙ holds.restarts;
    never = ap (λ (e : EngineState). e.counts.restarts) is_new ∙ holds.never;
    kept = ap (λ (e : EngineState). e.kept_rows) is_new ∙ holds.kept;
  }

-- a scope without variables
pub scope_fed : (old new : EngineState) (q : Quant) → HoldsFormula old.formula.scopes [] old → new ≡ changed old
    (AddScope q None) → HoldsFormula (and_scope old.formula.scopes q []) [] new
scope_fed old new q holds is_new = record {
  formula = ap (λ (e : EngineState). e.formula) is_new ∙ ap (λ f. formula_after f (AddScope q None)) holds.formula
      ∙ scope_given old.formula.scopes q;
  undecided = ap (λ (e : EngineState). e.verdict) is_new;
  counted = subst (λ n. n ≤ 0) (sym (ap (λ (e : EngineState). e.counts.clauses) is_new)) holds.counted;
  unsolved = ap (λ (e : EngineState). e.counts.solves) is_new ∙ holds.unsolved;
  unbudgeted = ap (λ (e : EngineState). e.counts.budget) is_new ∙ holds.unbudgeted;
  unsized = ap (λ (e : EngineState). e.counts.vars) is_new ∙ holds.unsized;
  restarts = ap (λ (e : EngineState). e.restarts) is_new ∙ holds.restarts;
  never = ap (λ (e : EngineState). e.counts.restarts) is_new ∙ holds.never;
  kept = ap (λ (e : EngineState). e.kept_rows) is_new ∙ holds.kept;
}

-- The scopes of a prefix one after another.

-- the variables of the scope at a place
abbrev vars_at : List Scope → ℕ → List ℕ
vars_at ss i = unwrap_or (option_map (λ (s : Scope). s.variables) (slice_get ss i)) []

-- one more scope
scopes_more : (ss : List Scope) (i : ℕ) (q : Quant) → Some q ≡ option_map (λ (s : Scope). s.quantifier) (slice_get ss i)
    → take (suc i) ss ≡ and_scope (take i ss) q (vars_at ss i)
scopes_more [] i q h = absurd (let e : Some q ≡ None = h in cc)
scopes_more (s ∷ ss) zero q h = ap (λ o. record { quantifier = unwrap_or o s.quantifier; variables = s.variables } ∷ [])
    (sym h)
scopes_more (s ∷ ss) (suc i) q h = ap (λ r. s ∷ r) (scopes_more ss i q h)

ascending_at : (ss : List Scope) (i : ℕ) → AllByRecursion (λ (s : Scope). IsAscending s.variables) ss
    → IsAscending (vars_at ss i)
ascending_at [] i all = tt
ascending_at (s ∷ ss) zero all = all.0
ascending_at (s ∷ ss) (suc i) all = ascending_at ss i all.1

-- those of the scopes before, those of the scope, and those of the scopes behind
parted : (ss : List Scope) (i : ℕ) → i < length ss → all_variables ss ≡ all_variables (take i ss) ++
    (vars_at ss i ++ all_variables (drop (suc i) ss))
parted [] i low = absurd (omega arith)
parted (s ∷ ss) zero low = refl
parted (s ∷ ss) (suc i) low = ap (λ r. s.variables ++ r) (parted ss i (omega arith))
    ∙ sym (append_assoc s.variables (all_variables (take i ss)) (vars_at ss i ++ all_variables (drop (suc i) ss)))

none_found : {X : Type 0} (o : Option X) → is_some o ≡ false → o ≡ None
none_found None h = refl
none_found (Some x) h = absurd (let e : true ≡ false = h in cc)

all_none : (P : ℕ → Type 0) (xs : List ℕ) → AllByRecursion P xs → (v : ℕ) → is_among v xs ≡ true → P v
all_none P [] all v e = absurd (let f : false ≡ true = e in cc)
all_none P (x ∷ xs) all v e = by (x == v) refl e (all_none P xs all.1 v)
  where
    by : (b : Bool) → (x == v) ≡ b → (b || is_among v xs) ≡ true → (is_among v xs ≡ true → P v) → P v
    by true f g rest = subst P (eqb-true x v f) all.0
    by false f g rest = rest g

new_at : (ss : List Scope) (i : ℕ) → IsPrefix ss → i < length ss → AreNew (take i ss) (vars_at ss i)
new_at ss i valid low =
    let before : List ℕ = all_variables (take i ss) in
    let here : List ℕ = vars_at ss i in
    let behind : List ℕ = all_variables (drop (suc i) ss) in
    let once : AreDistinct (before ++ (here ++ behind)) = subst AreDistinct (parted ss i low) valid.distinct in
    let there : (v : ℕ) → is_among v here ≡ true → is_among v (here ++ behind) ≡ true = λ v h. is_among-append v here
    behind ∙ ap (λ b. b || is_among v behind) h in
    record {
      distinct = (distinct_parts here behind (distinct_parts before (here ++ behind) once).1).0;
      each = λ v h.
          let inside : is_among v (all_variables ss) ≡ true = ap (is_among v) (parted ss i low)
          ∙ is_among-append v before (here ++ behind) ∙ or_right (is_among v before) (is_among v (here ++ behind))
          (there v h) in
          let range = all_none (λ x. (1 ≤ x) × (x ≤ 1048576)) (all_variables ss) valid.in_range v inside in (
            range.0,
            range.1,
            none_found (level_of (take i ss) v)
                (level_found (take i ss) v ∙ distinct_apart before (here ++ behind) v once (there v h)),
          );
    }

-- the scope of this number, from 1
pub scope_new : (ss : List Scope) (number : ℕ) → IsPrefix ss → 1 ≤ number → number ≤ length ss
    → AreNew (take (number - 1) ss) (variables_at ss number)
scope_new ss number valid first last = new_at ss (number - 1) valid (omega (arith, first, last))

pub scope_ascending : (ss : List Scope) (number : ℕ) → IsPrefix ss → IsAscending (variables_at ss number)
scope_ascending ss number valid = ascending_at ss (number - 1) valid.ascending

pub scopes_fed : (ss : List Scope) (number : ℕ) (q : Quant) → 1 ≤ number → Some q ≡ quantifier_at ss number
    → take (number + 1 - 1) ss ≡ and_scope (take (number - 1) ss) q (variables_at ss number)
scopes_fed ss number q first h =
    let plus : number + 1 - 1 ≡ suc (number - 1) = omega (arith, first) in
    let some : (number == 0) ≡ false = ne_eqb number 0 (λ e. omega (arith, e, first)) in
    let found : Some q ≡ option_map (λ (s : Scope). s.quantifier) (slice_get ss (number - 1)) = h
    ∙ ap (λ b. if b then None else option_map (λ (s : Scope). s.quantifier) (slice_get ss (number - 1))) some in
    ap (λ n. take n ss) plus ∙ scopes_more ss (number - 1) q found
