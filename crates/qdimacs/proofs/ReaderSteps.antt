-- What the reader's steps answer, by the rules.
use Rattle.std.proofs.Common.{◌≡◌, ℕ, ◌<◌, ◌≤◌, ℤ, pos, negsuc, nat_abs, Bool, true, false, ◌&&◌, List, [], ◌∷◌, ◌++◌, length, Option, Some, None, Result, refl, sym, ap, subst, ◌∙◌, arith}
use Rattle.std.specs.Prelude.{nat_lt, nat_le, codes, slice_index_or}
use Rattle.std.proofs.lemmas.Bool.{ne_eqb, eq-eqb, ltb-false, leb-false, leb-true}
use Rattle.lexer.specs.declared.token.Word.{Word}
use Rattle.lexer.specs.declared.token.Word.TheVariants.{Num, Text}
use Rattle.prefix.specs.declared.quant.Quant.{Quant}
use Rattle.reading.specs.declared.refusal.Quantity.TheVariants.{Scopes, Literals}
use Rattle.qdimacs.specs.Formula.{QuantSet}
use Rattle.qdimacs.specs.Rules.{Outcome, Header, Front, in_header, between, in_set, in_clause, first_of, word_rules, refused, limit, unless_zero, literal_rules, variable_rules}
use Rattle.truth.specs.Limits.{max_scopes, max_literals}
use Rattle.reading.specs.Words.{is_text, is_zero, is_natural, quant_of}
use Rattle.qdimacs.specs.Run.{extended, clause_after}
use Rattle.qdimacs.specs.Kept.{put_last, last_differs, variable_rules_kept, literal_rules_kept}
use Rattle.reading.specs.declared.refusal.ReadRefusal.{ReadRefusal}
use Rattle.qdimacs.specs.declared.reader.Reader.{Reader}
use Rattle.qdimacs.specs.Represents.{Goes, Represents}
use Rattle.qdimacs.proofs.WordTests.{none_refuses, passes}
use Rattle.qdimacs.proofs.Keeping.{put_length, scopes_limit}

-- behind `p`
pub format_taken : (front : Front) (start line : ℕ) (w : Word) → front ≡ in_header start [] → line ≡ start
    → is_text (codes "cnf") w ≡ true
    → (first_of (word_rules front w line) ≡ None) × (extended front w line ≡ in_header start (w ∷ []))
format_taken front start line w is same cnf = rw (is, same, eq-eqb start start refl, cnf) (refl, refl)

-- the 0 of a clause
pub literal_zero : (n : ℤ) (h : Header) (sets : List QuantSet) (clauses : List (List ℤ)) (ls : List ℤ) (line : ℕ)
    → nat_abs n ≡ 0
    → (first_of (unless_zero n (literal_rules h clauses ls n line)) ≡ None)
    × (clause_after (is_zero n) h sets clauses ls n ≡ between h sets (clauses ++ ls ∷ []))
literal_zero n h sets clauses ls line e = let zero_test : is_zero n ≡ true = eq-eqb (nat_abs n) 0 e in rw zero_test
    (refl, refl)

pub nonzero_is : (n : ℤ) → (nat_abs n ≡ 0 → ⊥) → is_zero n ≡ false
nonzero_is n f = ne_eqb (nat_abs n) 0 f

-- a literal
pub literal_taken : (n : ℤ) (h : Header) (sets : List QuantSet) (clauses : List (List ℤ)) (ls : List ℤ) (line : ℕ)
    → (nat_abs n ≡ 0 → ⊥) → first_of (literal_rules h clauses ls n line) ≡ None
    → (first_of (unless_zero n (literal_rules h clauses ls n line)) ≡ None)
    × (clause_after (is_zero n) h sets clauses ls n ≡ in_clause h sets clauses (ls ++ n ∷ []))
literal_taken n h sets clauses ls line some none = rw (nonzero_is n some) (none, refl)

pub literal_unless : (n : ℤ) (rules : List (Bool × Outcome)) → (nat_abs n ≡ 0 → ⊥)
    → first_of (unless_zero n rules) ≡ first_of rules
literal_unless n rules some = rw (nonzero_is n some) refl

-- what the rules that don't refuse tell
pub literal_low : (vars amount : ℕ) (n : ℤ) (line : ℕ) → first_of (literal_rules_kept vars amount n line) ≡ None
    → (nat_abs n ≤ vars) × (amount < max_literals)
literal_low vars amount n line none =
    let one : (nat_lt vars (nat_abs n) ≡ false)
    × (first_of ((nat_le max_literals amount, limit Literals line) ∷ []) ≡ None) = none_refuses
    (nat_lt vars (nat_abs n)) (refused 12 line) ((nat_le max_literals amount, limit Literals line) ∷ []) none in (
      ltb-false vars (nat_abs n) one.0,
      leb-false max_literals amount
          (none_refuses (nat_le max_literals amount) (limit Literals line) [] one.1).0,
    )

natural_low : (n : ℤ) (vars : ℕ) → (is_natural (Num n) && nat_le (nat_abs n) vars) ≡ true → (n ≡ pos (nat_abs n))
    × (nat_abs n ≤ vars)
natural_low (pos n) vars e = (refl, leb-true n vars e)
natural_low (negsuc n) vars e = cc

pub variable_low : (vars : ℕ) (marks : List Bool) (scopes : List QuantSet) (q : Quant) (n : ℤ) (line : ℕ)
    → first_of (variable_rules_kept vars marks scopes q n line) ≡ None
    → (n ≡ pos (nat_abs n)) × (nat_abs n ≤ vars) × (slice_index_or marks (nat_abs n) false ≡ false)
    × ((last_differs q scopes && nat_le max_scopes (length scopes)) ≡ false)
variable_low vars marks scopes q n line none =
    let room : List (Bool × Outcome) = (last_differs q scopes && nat_le max_scopes (length scopes), limit Scopes line) ∷
    [] in
    let one = passes (is_natural (Num n) && nat_le (nat_abs n) vars) (refused 12 line)
    ((slice_index_or marks (nat_abs n) false, refused 13 line) ∷ room) none in
    let two = none_refuses (slice_index_or marks (nat_abs n) false) (refused 13 line) room one.1 in
    let low = natural_low n vars one.0 in (
      low.0,
      low.1,
      two.0,
      (none_refuses (last_differs q scopes && nat_le max_scopes (length scopes)) (limit Scopes line)
          [] two.1).0,
    )

pub scopes_low : (q : Quant) (v : ℕ) (scopes : List QuantSet) → length scopes ≤ max_scopes
    → (last_differs q scopes && nat_le max_scopes (length scopes)) ≡ false → length (put_last q v scopes) ≤ max_scopes
scopes_low q v scopes few e = ltb-false max_scopes (length (put_last q v scopes))
    (ap (nat_lt max_scopes) (put_length q v scopes) ∙ scopes_limit (last_differs q scopes) (length scopes) few ∙ e)

-- what a step goes on to, under other names
pub goes_along : {A : Type 0} (r : Result A ReadRefusal) (f g : Option Outcome) (a b : Front) (new : Reader) → f ≡ g
    → a ≡ b → Goes r g (Represents new b) → Goes r f (Represents new a)
goes_along r f g a b new e s h = subst (λ x. Goes r x (Represents new a)) (sym e)
    (subst (λ x. Goes r g (Represents new x)) (sym s) h)

-- a number between sets and clauses
pub number_between : (front : Front) (h : Header) (sets : List QuantSet) (clauses : List (List ℤ)) (w : Word) (n : ℤ)
    (line : ℕ) → front ≡ between h sets clauses → w ≡ Num n → (length clauses ≡ h.count → ⊥)
    → (first_of (word_rules front w line) ≡ first_of (unless_zero n (literal_rules h clauses [] n line)))
    × (extended front w line ≡ clause_after (is_zero n) h sets clauses [] n)
number_between front h sets clauses w n line is num some = rw (is, num, ne_eqb (length clauses) h.count some)
    (refl, refl)

none_is : (clauses : List (List ℤ)) → length clauses ≡ 0 → clauses ≡ []
none_is [] e = refl
none_is (c ∷ cs) e = absurd (omega (arith, e))

-- a set begins
pub set_starts : (front : Front) (h : Header) (sets : List QuantSet) (clauses : List (List ℤ)) (w : Word) (t : List ℕ)
    (q : Quant) (line : ℕ) → front ≡ between h sets clauses → w ≡ Text t → quant_of (Text t) ≡ Some q
    → length clauses ≡ 0
    → (first_of (word_rules front w line) ≡ None) × (extended front w line ≡ in_set h sets q []) × (clauses ≡ [])
set_starts front h sets clauses w t q line is text found none = rw (is, text, found, none_is clauses none)
    (refl, refl, refl)

-- a number in a clause
pub number_in_clause : (front : Front) (h : Header) (sets : List QuantSet) (clauses : List (List ℤ)) (ls : List ℤ)
    (w : Word) (n : ℤ) (line : ℕ) → front ≡ in_clause h sets clauses ls → w ≡ Num n
    → (first_of (word_rules front w line) ≡ first_of (unless_zero n (literal_rules h clauses ls n line)))
    × (extended front w line ≡ clause_after (is_zero n) h sets clauses ls n)
number_in_clause front h sets clauses ls w n line is num = rw (is, num) (refl, refl)

-- a number in a set
pub zero_in_set : (front : Front) (h : Header) (sets : List QuantSet) (q : Quant) (vs : List ℕ) (w : Word) (n : ℤ)
    (line : ℕ) → front ≡ in_set h sets q vs → w ≡ Num n → nat_abs n ≡ 0
    → (first_of (word_rules front w line) ≡ None) × (extended front w line ≡ between h (sets ++ (q, vs) ∷ []) [])
zero_in_set front h sets q vs w n line is num e = let zero_test : is_zero n ≡ true = eq-eqb (nat_abs n) 0 e in
    rw (is, num, zero_test) (refl, refl)

pub number_in_set : (front : Front) (h : Header) (sets : List QuantSet) (q : Quant) (vs : List ℕ) (w : Word) (n : ℤ)
    (line : ℕ) → front ≡ in_set h sets q vs → w ≡ Num n → (nat_abs n ≡ 0 → ⊥)
    → (first_of (word_rules front w line) ≡ first_of (variable_rules h sets q vs n line))
    × (extended front w line ≡ in_set h sets q (vs ++ nat_abs n ∷ []))
number_in_set front h sets q vs w n line is num some = rw (is, num, nonzero_is n some) (refl, refl)
