-- A formula that is read has the form in which it is written.
use Rattle.std.proofs.Common.{◌≡◌, ◌≢◌, ⊎_elim, ℕ, ◌≤◌, ◌<◌, ℤ, nat_abs, Bool, true, false, not, ◌&&◌, ◌||◌, List, [], ◌∷◌, ◌++◌, length, map, Option, Some, None, refl, sym, ap, subst, ◌∙◌, arith}
use Rattle.std.specs.Prelude.{◌==◌, if◌then◌else◌, nat_lt}
use Rattle.std.specs.List.{AllByRecursion}
use Rattle.std.proofs.lemmas.Bool.{false≢true, or_cases, or_parts}
use Rattle.std.proofs.lemmas.Bool.Decides.{nat_tests}
use Rattle.std.proofs.lemmas.List.{length-map}
use Rattle.lexer.specs.declared.token.Word.{Word}
use Rattle.lexer.specs.declared.token.Word.TheVariants.{Num, Text, Other}
use Rattle.lexer.specs.Words.{Item, bad_byte, number_range, the_end, too_long, word}
use Rattle.prefix.specs.declared.quant.Quant.{Quant}
use Rattle.prefix.specs.declared.quant.Quant.TheVariants.{Exists, Forall}
use Rattle.prefix.specs.Scopes.{AreDistinct, IsAscending, all_variables, is_among}
use Rattle.prefix.proofs.ScopeLemmas.{is_among-append}
use Rattle.truth.specs.declared.formula.Formula.{Formula}
use Rattle.qdimacs.specs.Formula.{QuantSet, declared, formula_of, free, in_order, join, join_if, literals_of, merged, occurring, same_quant, scopes_of}
use Rattle.clauses.specs.Clause.{ascending, put}
use Rattle.reading.specs.declared.refusal.Quantity.TheVariants.{Clauses, Scopes, Variables}
use Rattle.qdimacs.specs.Reads.{AreAllowed, IsAllowed, Reads}
use Rattle.qdimacs.specs.Rules.{Front, Header, Outcome, between, between_rules, clause_rules, end_rules, first_of, headed, header_limits, in_clause, in_header, in_set, inside_rules, limit, literal_rules, nothing, outside_rules, parsed, refused, set_rules, unless_zero, variable_rules, verdict, whole_rules, word_rules}
use Rattle.truth.specs.Limits.{max_clauses, max_scopes, max_vars}
use Rattle.reading.specs.Words.{is_zero, quant_of}
use Rattle.clauses.proofs.Ascending.{ascending_among, ascending_is}
use Rattle.qdimacs.proofs.Finishing.{filter_among}
use Rattle.qdimacs.proofs.Fitting.{distinct_apart, distinct_append, distinct_parts}
use Rattle.qdimacs.proofs.Formed.{formed_of, ordered_among, rows_few}
use Rattle.qdimacs.proofs.Merged.{merged_declared, same_is}
use Rattle.qdimacs.proofs.Lists.{ascending_distinct}
use Rattle.qdimacs_out.specs.Writable.{IsWritable, TakeTurns}
use Rattle.qdimacs_out.proofs.All.{all_mapped, at_among, from_among}

-- no rule on a word makes a formula

abbrev is_parsed : Outcome → Bool
is_parsed (parsed f) = true
is_parsed (refused number line) = false
is_parsed (limit quantity line) = false

abbrev NoneParsed : List (Bool × Outcome) → Type 0
NoneParsed rules = AllByRecursion (λ (r : Bool × Outcome). is_parsed r.1 ≡ false) rules

-- a rule that makes no formula didn't decide it
passed : (b : Bool) (o : Outcome) (rest : List (Bool × Outcome)) (p : Outcome) → is_parsed o ≡ false
    → is_parsed p ≡ true
    → first_of ((b, o) ∷ rest) ≡ Some p → (b ≡ false) × (first_of rest ≡ Some p)
passed true o rest p n y e = let same : o ≡ p = cc in absurd (false≢true (sym n ∙ ap is_parsed same ∙ y))
passed false o rest p n y e = (refl, e)

none_decides : (rules : List (Bool × Outcome)) (f : Formula) → NoneParsed rules → first_of rules ≡ Some (parsed f) → ⊥
none_decides [] f h e = cc
none_decides (r ∷ rules) f h e = none_decides rules f h.1 (passed r.0 r.1 rules (parsed f) h.0 refl e).1

unless_none : (n : ℤ) (rules : List (Bool × Outcome)) → NoneParsed rules → NoneParsed (unless_zero n rules)
unless_none n rules h = by (is_zero n)
  where
    by : (b : Bool) → NoneParsed (if b then [] else rules)
    by true = tt
    by false = h

inside_none : (o : Option Quant) (line : ℕ) → NoneParsed (inside_rules o line)
inside_none (Some q) line = (refl, tt)
inside_none None line = (refl, tt)

outside_none : (clauses : List (List ℤ)) (o : Option Quant) (line : ℕ) → NoneParsed (outside_rules clauses o line)
outside_none clauses (Some q) line = (refl, tt)
outside_none clauses None line = (refl, tt)

between_none : (h : Header) (clauses : List (List ℤ)) (w : Word) (line : ℕ)
    → NoneParsed (between_rules h clauses w line)
between_none h clauses (Num n) line = (refl, unless_none n (literal_rules h clauses [] n line) (refl, (refl, tt)))
between_none h clauses (Text t) line = outside_none clauses (quant_of (Text t)) line
between_none h clauses Other line = outside_none clauses None line

set_none : (h : Header) (sets : List QuantSet) (q : Quant) (vs : List ℕ) (w : Word) (line : ℕ)
    → NoneParsed (set_rules h sets q vs w line)
set_none h sets q vs (Num n) line = unless_none n (variable_rules h sets q vs n line) (refl, (refl, (refl, tt)))
set_none h sets q vs (Text t) line = inside_none (quant_of (Text t)) line
set_none h sets q vs Other line = inside_none None line

clause_none : (h : Header) (clauses : List (List ℤ)) (ls : List ℤ) (w : Word) (line : ℕ)
    → NoneParsed (clause_rules h clauses ls w line)
clause_none h clauses ls (Num n) line = unless_none n (literal_rules h clauses ls n line) (refl, (refl, tt))
clause_none h clauses ls (Text t) line = inside_none (quant_of (Text t)) line
clause_none h clauses ls Other line = inside_none None line

word_none : (front : Front) (w : Word) (line : ℕ) → NoneParsed (word_rules front w line)
word_none nothing w line = (refl, tt)
word_none (in_header start ws) w line = (refl, (refl, tt))
word_none (headed h) w line = (refl, (refl, (refl, between_none h [] w line)))
word_none (between h sets clauses) w line = between_none h clauses w line
word_none (in_set h sets q vs) w line = set_none h sets q vs w line
word_none (in_clause h sets clauses ls) w line = clause_none h clauses ls w line

-- whole sets and clauses, as many as declared, are what is read as a formula
record IsWhole (f : Formula) : Type 0 where
  header : Header
  sets : List QuantSet
  clauses : List (List ℤ)
  allowed : AreAllowed header sets clauses
  few : length (scopes_of sets clauses) ≤ max_scopes
  is : formula_of header.vars header.count sets clauses ≡ f

at_most : (a b : ℕ) → nat_lt b a ≡ false → a ≤ b
at_most a b e = grind (arith, nat_tests, e)

one_formula : (f g : Formula) → Some (parsed f) ≡ Some (parsed g) → f ≡ g
one_formula f g e = cc

whole_end : (h : Header) (sets : List QuantSet) (clauses : List (List ℤ)) (line : ℕ) (f : Formula)
    → AreAllowed h sets clauses
    → first_of (whole_rules h sets clauses line) ≡ Some (parsed f) → IsWhole f
whole_end h sets clauses line f a e =
    let made : Formula = formula_of h.vars h.count sets clauses in
    let last : List (Bool × Outcome) = (true, parsed made) ∷ [] in
    let scopes : Bool = nat_lt max_scopes (length (scopes_of sets clauses)) in
    let first : (nat_lt (length clauses) h.count ≡ false)
    × (first_of ((scopes, limit Scopes line) ∷ last) ≡ Some (parsed f)) =
    passed (nat_lt (length clauses) h.count) (refused 16 line) ((scopes, limit Scopes line) ∷ last)
    (parsed f) refl refl e in
    let second : (scopes ≡ false) × (Some (parsed made) ≡ Some (parsed f)) =
    passed scopes (limit Scopes line) last (parsed f) refl refl first.1 in
    record {
      header = h;
      sets = sets;
      clauses = clauses;
      allowed = a;
      few = at_most (length (scopes_of sets clauses)) max_scopes second.0;
      is = one_formula made f second.1;
    }

headed_end : (h : Header) (line : ℕ) (f : Formula) → first_of (header_limits h ++ whole_rules h [] [] line)
    ≡ Some (parsed f) → IsWhole f
headed_end h line f e =
    let first = passed (nat_lt max_vars h.vars) (limit Variables h.line)
    ((nat_lt max_clauses h.count, limit Clauses h.line) ∷ whole_rules h [] [] line) (parsed f) refl refl e in
    let second = passed (nat_lt max_clauses h.count) (limit Clauses h.line) (whole_rules h [] [] line)
    (parsed f) refl refl first.1 in
    whole_end h [] [] line f
    (record {
      limits = (at_most h.vars max_vars first.0, at_most h.count max_clauses second.0);
      variables = tt;
      distinct = tt;
      scopes = omega arith;
      count = omega arith;
      literals = tt;
      amount = omega arith;
    }) second.1

end_whole : (front : Front) (line : ℕ) (f : Formula) → IsAllowed front
    → first_of (end_rules front line) ≡ Some (parsed f) → IsWhole f
end_whole nothing line f a e = absurd (none_decides (end_rules nothing line) f (refl, tt) e)
end_whole (in_header start ws) line f a e = absurd (none_decides ((true, refused 11 start) ∷ []) f (refl, tt) e)
end_whole (headed h) line f a e = headed_end h line f e
end_whole (between h sets clauses) line f a e = whole_end h sets clauses line f a.1 e
end_whole (in_set h sets q vs) line f a e = absurd (none_decides ((true, refused 15 line) ∷ []) f (refl, tt) e)
end_whole (in_clause h sets clauses ls) line f a e = absurd
    (none_decides ((true, refused 15 line) ∷ []) f (refl, tt) e)

item_whole : (front : Front) (item : Item) (f : Formula) → IsAllowed front → verdict front item ≡ Some (parsed f)
    → IsWhole f
item_whole front (word t) f a e = absurd (none_decides (word_rules front t.word t.line) f
    (word_none front t.word t.line) e)
item_whole front (bad_byte line) f a e = cc
item_whole front (number_range line) f a e = cc
item_whole front (too_long line) f a e = cc
item_whole front (the_end line) f a e = end_whole front line f a e

-- merged scopes take turns, and each has a variable

other_quantifier : (q r : Quant) → same_quant q r ≡ false → q ≢ r
other_quantifier Exists Exists e = λ f. false≢true (sym e)
other_quantifier Exists Forall e = λ f. let g : Exists ≡ Forall = f in cc
other_quantifier Forall Exists e = λ f. let g : Forall ≡ Exists = f in cc
other_quantifier Forall Forall e = λ f. false≢true (sym e)

same_turns : (q r : Quant) (vs us : List ℕ) (rest : List QuantSet) → q ≡ r → TakeTurns (map in_order ((r, us) ∷ rest))
    → TakeTurns (map in_order ((q, vs) ∷ rest))
same_turns q r vs us [] e h = tt
same_turns q r vs us (s ∷ rest) e h = ((λ f. h.0 (sym e ∙ f)), h.1)

join_turns : (q : Quant) (vs : List ℕ) (xs : List QuantSet) → TakeTurns (map in_order xs)
    → TakeTurns (map in_order (join q vs xs))
join_turns q [] xs h = h
join_turns q (v ∷ vs) [] h = tt
join_turns q (v ∷ vs) (s ∷ rest) h = by (same_quant q s.0) refl
  where
    by : (b : Bool) → same_quant q s.0 ≡ b → TakeTurns (map in_order (join_if b q (v ∷ vs) s.0 s.1 rest))
    by true e = same_turns q s.0 ((v ∷ vs) ++ s.1) s.1 rest (same_is q s.0 e) h
    by false e = (other_quantifier q s.0 e, h)

merged_turns : (xs : List QuantSet) → TakeTurns (map in_order (merged xs))
merged_turns [] = tt
merged_turns (x ∷ xs) = join_turns x.0 x.1 (merged xs) (merged_turns xs)

put_some : (n : ℕ) (ms : List ℕ) → put n ms ≢ []
put_some n [] = λ e. cc
put_some n (m ∷ ms) = by (nat_lt n m) (n == m)
  where
    by : (a b : Bool) → (if a then n ∷ m ∷ ms else if b then m ∷ ms else m ∷ put n ms) ≢ []
    by true b = λ e. cc
    by false true = λ e. cc
    by false false = λ e. cc

join_filled : (q : Quant) (vs : List ℕ) (xs : List QuantSet) → AllByRecursion (λ s. s.variables ≢ []) (map in_order xs)
    → AllByRecursion (λ s. s.variables ≢ []) (map in_order (join q vs xs))
join_filled q [] xs h = h
join_filled q (v ∷ vs) [] h = (put_some v (ascending vs), tt)
join_filled q (v ∷ vs) (s ∷ rest) h = by (same_quant q s.0)
  where
    by : (b : Bool) → AllByRecursion (λ s. s.variables ≢ []) (map in_order (join_if b q (v ∷ vs) s.0 s.1 rest))
    by true = (put_some v (ascending (vs ++ s.1)), h.1)
    by false = (put_some v (ascending vs), h)

merged_filled : (xs : List QuantSet) → AllByRecursion (λ s. s.variables ≢ []) (map in_order (merged xs))
merged_filled [] = tt
merged_filled (x ∷ xs) = join_filled x.0 x.1 (merged xs) (merged_filled xs)

all_ascend : (xs : List QuantSet) → AllByRecursion (λ s. IsAscending s.variables) (map in_order xs)
all_ascend [] = tt
all_ascend (x ∷ xs) = (ascending_is x.1, all_ascend xs)

-- merged scopes have no variable in common

abbrev AreApart : List QuantSet → Type 0
AreApart [] = Unit {0}
AreApart (x ∷ xs) = ((v : ℕ) → is_among v x.1 ≡ true → is_among v (declared xs) ≡ false) × AreApart xs

never_both : (a b : Bool) → (b ≡ true → a ≡ false) → a ≡ true → b ≡ false
never_both a true f e = absurd (false≢true (sym (f refl) ∙ e))
never_both a false f e = refl

distinct_sets : (xs : List QuantSet) → AreDistinct (declared xs) → AreApart xs
distinct_sets [] d = tt
distinct_sets (x ∷ xs) d = (
  (λ v there. never_both (is_among v x.1) (is_among v (declared xs)) (distinct_apart x.1 (declared xs) v d) there),
  distinct_sets xs (distinct_parts x.1 (declared xs) d).1,
)

join_sets : (q : Quant) (vs : List ℕ) (xs : List QuantSet) → AreApart xs
    → ((v : ℕ) → is_among v vs ≡ true → is_among v (declared xs) ≡ false)
    → AreApart (join q vs xs)
join_sets q [] xs h f = h
join_sets q (v ∷ vs) [] h f = ((λ u there. refl), tt)
join_sets q (v ∷ vs) (s ∷ rest) h f = by (same_quant q s.0)
  where
    later : (u : ℕ) → is_among u ((v ∷ vs) ++ s.1) ≡ true → is_among u (declared rest) ≡ false
    later u there = ⊎_elim
        (λ (e : is_among u (v ∷ vs) ≡ true). (or_parts (is_among u s.1) (is_among u (declared rest))
        (sym (is_among-append u s.1 (declared rest)) ∙ f u e)).1)
        (λ (e : is_among u s.1 ≡ true). h.0 u e)
        (or_cases (is_among u (v ∷ vs)) (is_among u s.1) (sym (is_among-append u (v ∷ vs) s.1) ∙ there))

    by : (b : Bool) → AreApart (join_if b q (v ∷ vs) s.0 s.1 rest)
    by true = (later, h.1)
    by false = (f, h)

merged_sets : (xs : List QuantSet) → AreApart xs → AreApart (merged xs)
merged_sets [] h = tt
merged_sets (x ∷ xs) h = join_sets x.0 x.1 (merged xs) (merged_sets xs h.1)
    (λ v there. ap (is_among v) (merged_declared xs) ∙ h.0 v there)

apart_distinct : (xs : List QuantSet) → AreApart xs → AreDistinct (all_variables (map in_order xs))
apart_distinct [] h = tt
apart_distinct (x ∷ xs) h =
    distinct_append (ascending x.1) (all_variables (map in_order xs))
    (ascending_distinct (ascending x.1) (ascending_is x.1))
    (apart_distinct xs h.1) (λ v there. ordered_among v xs ∙ h.0 v (sym (ascending_among v x.1) ∙ there))

module _ (vars count : ℕ) (sets : List QuantSet) (clauses : List (List ℤ)) (line : ℕ)
    (a : AreAllowed (record { vars = vars; count = count; line = line }) sets clauses)
    (few : length (scopes_of sets clauses) ≤ max_scopes) where
  abbrev bound : List QuantSet
  bound = (Exists, free sets clauses) ∷ sets

  occur_within : AllByRecursion (λ v. (0 < v) × (v ≤ vars)) (occurring clauses)
  occur_within = all_mapped (λ v. (0 < v) × (v ≤ vars)) nat_abs (literals_of clauses) a.literals

  is_free : (v : ℕ) → is_among v (free sets clauses) ≡
      (is_among v (occurring clauses) && not (is_among v (declared sets)))
  is_free v = filter_among v (λ u. not (is_among u (declared sets))) (occurring clauses)

  free_apart : (v : ℕ) → is_among v (free sets clauses) ≡ true → is_among v (declared sets) ≡ false
  free_apart v there = by (is_among v (occurring clauses)) (is_among v (declared sets)) (sym (is_free v) ∙ there)
    where
      by : (o d : Bool) → (o && not d) ≡ true → d ≡ false
      by true true e = absurd (false≢true e)
      by false true e = absurd (false≢true e)
      by o false e = refl

  free_occurs : (v : ℕ) → is_among v (free sets clauses) ≡ true → is_among v (occurring clauses) ≡ true
  free_occurs v there = by (is_among v (occurring clauses)) (is_among v (declared sets)) (sym (is_free v) ∙ there)
    where
      by : (o d : Bool) → (o && not d) ≡ true → o ≡ true
      by true d e = refl
      by false d e = absurd (false≢true e)

  within : (v : ℕ) → is_among v (all_variables (map in_order (scopes_of sets clauses))) ≡ true → (1 ≤ v) × (v ≤ vars)
  within v there =
      let split : (is_among v (free sets clauses) || is_among v (declared sets)) ≡ true =
      sym (is_among-append v (free sets clauses) (declared sets)) ∙ sym (ap (is_among v) (merged_declared bound))
      ∙ sym (ordered_among v (scopes_of sets clauses)) ∙ there in
      ⊎_elim
      (λ (e : is_among v (free sets clauses) ≡ true).
      let range = at_among (λ u. (0 < u) × (u ≤ vars)) v (occurring clauses) occur_within (free_occurs v e) in
      (omega (arith, range.0), range.1))
      (λ (e : is_among v (declared sets) ≡ true).
      let range = at_among (λ u. (0 < u) × (u ≤ vars)) v (declared sets) a.variables e in
      (omega (arith, range.0), range.1))
      (or_cases (is_among v (free sets clauses)) (is_among v (declared sets)) split)

  whole_writable : IsWritable (formula_of vars count sets clauses)
  whole_writable =
      let limits = a.limits in
      let enough : length clauses ≤ count = a.count in
      let short : count ≤ max_clauses = limits.1 in
      let formed = formed_of vars count sets clauses (formula_of vars count sets clauses) refl
      (omega (arith, enough, short)) a.amount in
      record {
        turns = merged_turns bound;
        filled = merged_filled bound;
        ascending = all_ascend (scopes_of sets clauses);
        distinct = apart_distinct (scopes_of sets clauses)
            (merged_sets bound (free_apart, distinct_sets sets a.distinct));
        declared = from_among (λ v. (1 ≤ v) × (v ≤ vars))
            (all_variables (map in_order (scopes_of sets clauses))) within;
        rows = formed.rows;
        fewer = omega (arith, rows_few clauses, enough);
        vars_few = limits.0;
        scopes_few = rw (length-map (scopes_of sets clauses) in_order) few;
        clauses_few = limits.1;
        literals_few = formed.amount;
      }

-- what is read has the form in which it is written
pub read_writable : (text : List ℕ) (f : Formula) → Reads text (parsed f) → IsWritable f
read_writable text f r =
    let whole = item_whole r.front r.next f r.allowed r.decides in
    subst IsWritable whole.is
    (whole_writable whole.header.vars whole.header.count whole.sets whole.clauses whole.header.line whole.allowed
    whole.few)
