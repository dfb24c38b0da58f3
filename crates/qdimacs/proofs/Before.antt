-- What has been read came from what had been read before its last word.
use Rattle.std.proofs.Common.{◌≡◌, ◌≢◌, ◌⊎◌, ℕ, zero, suc, ◌<◌, ◌≤◌, ℤ, pos, Bool, true, false, List, [], ◌∷◌, ◌++◌, length, map, take, drop, None, Some, refl, sym, ap, subst, ◌∙◌, arith, length-append, inl, inr}
use Rattle.std.specs.Prelude.{codes, not, ◌==◌, nat_lt, nat_le, nat_abs, if◌then◌else◌}
use Rattle.std.specs.List.{AllByRecursion}
use Rattle.std.proofs.lemmas.List.{map-append, length-map, append_assoc, append-nil}
use Rattle.std.proofs.lemmas.Bool.{eq-eqb, ne_eqb, le-ltb, lt-leb, le-leb}
use Rattle.lexer.specs.declared.token.Word.{Word}
use Rattle.lexer.specs.declared.token.Word.TheVariants.{Num, Text}
use Rattle.lexer.specs.declared.token.Token.{Token}
use Rattle.lexer.specs.Words.{Item, word}
use Rattle.prefix.specs.Scopes.{is_among}
use Rattle.reading.specs.declared.refusal.Quantity.TheVariants.{Variables, Clauses, Literals, Scopes}
use Rattle.prefix.specs.declared.quant.Quant.{Quant}
use Rattle.prefix.specs.declared.quant.Quant.TheVariants.{Exists, Forall}
use Rattle.qdimacs.specs.Formula.{QuantSet, literals_of, merged, declared}
use Rattle.qdimacs.specs.Rules.{Outcome, Header, Front, nothing, in_header, headed, between, in_set, in_clause, first_of, refused, limit, fits_header, word_rules, header_rules, header_limits, literal_rules, variable_rules, unless_zero, between_rules}
use Rattle.truth.specs.Limits.{max_vars, max_clauses, max_scopes, max_literals}
use Rattle.reading.specs.Words.{is_zero, quant_word}
use Rattle.qdimacs.specs.Reads.{Reads, Spells, IsAllowed, AreAllowed, words_of, line_of, whole_words}
use Rattle.qdimacs.specs.Run.{extended, set_after, clause_after, outcome_from, outcome_of, decided, after_item}
use Rattle.qdimacs.proofs.Grown.{words_set_more, words_set_end, words_clause_more, words_clause_end, nonempty}
use Rattle.qdimacs.proofs.Shorter.{on_less, fifth_less, last_of, set_shrinks, set_unbegun, clause_unbegun, clause_shrinks}

pub record Previous (front : Front) (read : List Token) : Type 0 where
  pub before : Front
  pub init : List Token
  pub last : Token
  pub whole : read ≡ init ++ last ∷ []
  pub spelled : Spells before init
  pub allowed : IsAllowed before
  pub silent : first_of (word_rules before last.word last.line) ≡ None
  pub next : extended before last.word last.line ≡ front

-- two lists with one more element are equal only where the lists are, and the elements
same_last : {X : Type 0} (xs ys : List X) (x y : X) → xs ++ x ∷ [] ≡ ys ++ y ∷ [] → (xs ≡ ys) × (x ≡ y)
same_last [] [] x y e = (refl, cc)
same_last [] (z ∷ ys) x y e = absurd (let rest : [] ≡ ys ++ y ∷ [] = cc in nonempty ys y (sym rest))
same_last (z ∷ xs) [] x y e = absurd (let rest : xs ++ x ∷ [] ≡ [] = cc in nonempty xs x rest)
same_last (z ∷ xs) (u ∷ ys) x y e =
    let rest : (xs ≡ ys) × (x ≡ y) = same_last xs ys x y (let r : xs ++ x ∷ [] ≡ ys ++ y ∷ [] = cc in r) in
    let head : z ≡ u = cc in
    (ap (λ r. z ∷ r) rest.0 ∙ ap (λ a. a ∷ ys) head, rest.1)

none_with : (t : Bool) (o : Outcome) (rules : List (Bool × Outcome)) → t ≡ false → first_of rules ≡ None
    → first_of ((t, o) ∷ rules) ≡ None
none_with true o rules e h = cc
none_with false o rules e h = h

none_both : (xs ys : List (Bool × Outcome)) → first_of xs ≡ None → first_of ys ≡ None → first_of (xs ++ ys) ≡ None
none_both [] ys h k = k
none_both ((true, o) ∷ xs) ys h k = cc
none_both ((false, o) ∷ xs) ys h k = none_both xs ys h k

previous_at : (front before : Front) (init : List Token) (last : Token) (w : Word) → Spells front (init ++ last ∷ [])
    → words_of front ≡ words_of before ++ w ∷ [] → line_of before ≡ line_of front → IsAllowed before
    → ((line : ℕ) → (length (words_of before) < 4 → line ≡ line_of front)
    → (length (words_of before) ≡ 4 → line ≢ line_of front) → first_of (word_rules before w line) ≡ None)
    → ((line : ℕ) → extended before w line ≡ front) → Previous front (init ++ last ∷ [])
previous_at front before init last w s words line a silent next =
    let both : (map (λ (t : Token). t.word) init ≡ words_of before) × (last.word ≡ w) =
    same_last (map (λ (t : Token). t.word) init) (words_of before) last.word w
    (sym (map-append (λ (t : Token). t.word) init (last ∷ [])) ∙ s.words ∙ words) in
    let many : length init ≡ length (words_of before) = sym (length-map init (λ (t : Token). t.word))
    ∙ ap length both.0 in
    let on : AllByRecursion (λ (t : Token). t.line ≡ line_of front) (take 4 init)
    × (length init < 4 → last.line ≡ line_of front) = on_less (λ (t : Token). t.line ≡ line_of front) 4 init last
    s.on_line in
    let off : AllByRecursion (λ (t : Token). t.line ≢ line_of front) (take 1 (drop 4 init))
    × (length init ≡ 4 → last.line ≢ line_of front) = fifth_less (λ (t : Token). t.line ≢ line_of front) 4 init last
    s.off_line in
    record {
      before = before;
      init = init;
      last = last;
      whole = refl;
      spelled = record { words = both.0; on_line = rw line on.0; off_line = rw line off.0 };
      allowed = a;
      silent = rw both.1 (silent last.line (λ lt. on.1 (omega (arith, many))) (λ e. off.1 (many ∙ e)));
      next = rw both.1 (next last.line);
    }

previous : (front before : Front) (read : List Token) (w : Word) → Spells front read
    → words_of front ≡ words_of before ++ w ∷ [] → line_of before ≡ line_of front → IsAllowed before
    → ((line : ℕ) → (length (words_of before) < 4 → line ≡ line_of front)
    → (length (words_of before) ≡ 4 → line ≢ line_of front) → first_of (word_rules before w line) ≡ None)
    → ((line : ℕ) → extended before w line ≡ front) → Previous front read
previous front before [] w s words line a silent next = absurd (nonempty (words_of before) w (sym (s.words ∙ words)))
previous front before (t ∷ read) w s words line a silent next =
    let view = last_of t read in
    subst (Previous front) (sym view.2) (previous_at front before view.0 view.1 w (subst (Spells front) view.2 s) words
    line a silent next)

-- the rules say nothing of what is allowed

header_silent : (h : Header) (line : ℕ) → (h.vars ≤ max_vars) × (h.count ≤ max_clauses) → line ≢ h.line
    → first_of (header_rules h line) ≡ None
header_silent h line le off =
    none_with (line == h.line) (refused 11 h.line) (header_limits h) (ne_eqb line h.line off)
    (none_with (nat_lt max_vars h.vars) (limit Variables h.line)
    ((nat_lt max_clauses h.count, limit Clauses h.line) ∷ []) (le-ltb max_vars h.vars le.0)
    (none_with (nat_lt max_clauses h.count) (limit Clauses h.line) [] (le-ltb max_clauses h.count le.1) refl))

nonzero : (n : ℤ) → 0 < nat_abs n → is_zero n ≡ false
nonzero n lt = ne_eqb (nat_abs n) 0 (λ e. omega (arith, e))

literal_silent : (h : Header) (clauses : List (List ℤ)) (ls : List ℤ) (n : ℤ) (line : ℕ) → 0 < nat_abs n
    → nat_abs n ≤ h.vars → length (literals_of clauses ++ ls) < max_literals
    → first_of (unless_zero n (literal_rules h clauses ls n line)) ≡ None
literal_silent h clauses ls n line low high room =
    ap (λ t. first_of (if t then [] else literal_rules h clauses ls n line)) (nonzero n low)
    ∙ none_with (nat_lt h.vars (nat_abs n)) (refused 12 line)
    ((nat_le max_literals (length (literals_of clauses ++ ls)), limit Literals line) ∷ [])
    (le-ltb h.vars (nat_abs n) high)
    (none_with (nat_le max_literals (length (literals_of clauses ++ ls))) (limit Literals line) []
    (lt-leb max_literals (length (literals_of clauses ++ ls)) room) refl)

variable_silent : (h : Header) (sets : List QuantSet) (q : Quant) (vs : List ℕ) (v line : ℕ) → 0 < v → v ≤ h.vars
    → is_among v (declared sets ++ vs) ≡ false → length (merged (sets ++ (q, vs ++ v ∷ []) ∷ [])) ≤ max_scopes
    → first_of (unless_zero (pos v) (variable_rules h sets q vs (pos v) line)) ≡ None
variable_silent h sets q vs v line low high new room =
    ap (λ t. first_of (if t then [] else variable_rules h sets q vs (pos v) line)) (nonzero (pos v) low)
    ∙ none_with (not (nat_le v h.vars)) (refused 12 line)
    ((is_among v (declared sets ++ vs), refused 13 line) ∷
    (nat_lt max_scopes (length (merged (sets ++ (q, vs ++ v ∷ []) ∷ []))), limit Scopes line) ∷ [])
    (ap not (le-leb v h.vars high))
    (none_with (is_among v (declared sets ++ vs)) (refused 13 line)
    ((nat_lt max_scopes (length (merged (sets ++ (q, vs ++ v ∷ []) ∷ []))), limit Scopes line) ∷ []) new
    (none_with (nat_lt max_scopes (length (merged (sets ++ (q, vs ++ v ∷ []) ∷ [])))) (limit Scopes line) []
    (le-ltb max_scopes (length (merged (sets ++ (q, vs ++ v ∷ []) ∷ []))) room) refl))

-- where each comes from

from_p : (start : ℕ) (read : List Token) → Spells (in_header start []) read → Previous (in_header start []) read
from_p start [] s = absurd (let e : [] ≡ Text (codes "p") ∷ [] = s.words in cc)
from_p start (t ∷ u ∷ ts) s = absurd (let e : map (λ (t : Token). t.word) (t ∷ u ∷ ts) ≡ Text (codes "p") ∷ [] =
    s.words in cc)
from_p start (t ∷ []) s =
    let is_p : t.word ≡ Text (codes "p") = (let e : t.word ∷ [] ≡ Text (codes "p") ∷ [] = s.words in cc) in
    record {
      before = nothing;
      init = [];
      last = t;
      whole = refl;
      spelled = record { words = refl; on_line = tt; off_line = tt };
      allowed = tt;
      silent = ap (λ w. first_of (word_rules nothing w t.line)) is_p;
      next = ap (λ n. in_header n []) s.on_line.0;
    }

header_silent_at : (start : ℕ) (ws : List Word) (w : Word) (line : ℕ) → line ≡ start → fits_header (length ws) w ≡ true
    → first_of (word_rules (in_header start ws) w line) ≡ None
header_silent_at start ws w line e f =
    none_with (not (line == start)) (refused 11 start) ((not (fits_header (length ws) w), refused 11 start) ∷ [])
    (ap not (eq-eqb line start e))
    (none_with (not (fits_header (length ws) w)) (refused 11 start) [] (ap not f) refl)

from_in_header : (n vars count start : ℕ) (ws : List Word) (read : List Token) → n < 3
    → ws ≡ take n (Text (codes "cnf") ∷ Num (pos vars) ∷ Num (pos count) ∷ []) → Spells (in_header start ws) read
    → Previous (in_header start ws) read
from_in_header zero vars count start [] read lt e s = from_p start read s
from_in_header zero vars count start (v ∷ ws) read lt e s = cc
from_in_header (suc zero) vars count start [] read lt e s = cc
from_in_header (suc zero) vars count start (v ∷ []) read lt e s =
    let first : v ≡ Text (codes "cnf") = cc in
    previous (in_header start (v ∷ [])) (in_header start []) read v s refl refl (0, 0, 0, omega arith, refl)
    (λ line on off. header_silent_at start [] v line (on (omega arith)) (ap (fits_header 0) first)) (λ line. refl)
from_in_header (suc zero) vars count start (v ∷ u ∷ ws) read lt e s = cc
from_in_header (suc (suc zero)) vars count start [] read lt e s = cc
from_in_header (suc (suc zero)) vars count start (v ∷ []) read lt e s = cc
from_in_header (suc (suc zero)) vars count start (v ∷ u ∷ []) read lt e s =
    let first : v ≡ Text (codes "cnf") = cc in
    let second : u ≡ Num (pos vars) = cc in
    previous (in_header start (v ∷ u ∷ [])) (in_header start (v ∷ [])) read u s refl refl
    (0, 0, 1, omega arith, ap (λ x. x ∷ []) first)
    (λ line on off. header_silent_at start (v ∷ []) u line (on (omega arith)) (ap (fits_header 1) second))
    (λ line. refl)
from_in_header (suc (suc zero)) vars count start (v ∷ u ∷ x ∷ ws) read lt e s = cc
from_in_header (suc (suc (suc n))) vars count start ws read lt e s = absurd (omega arith)

from_header_end : (h : Header) (read : List Token) → Spells (headed h) read → Previous (headed h) read
from_header_end h read s =
    previous (headed h) (in_header h.line (Text (codes "cnf") ∷ Num (pos h.vars) ∷ [])) read (Num (pos h.count)) s refl
    refl (h.vars, 0, 2, omega arith, refl)
    (λ line on off. header_silent_at h.line (Text (codes "cnf") ∷ Num (pos h.vars) ∷ []) (Num (pos h.count)) line
    (on (omega arith)) refl) (λ line. refl)

-- whole sets and clauses, if there are any
abbrev whole_front : Header → List QuantSet → List (List ℤ) → Front
whole_front h [] [] = headed h
whole_front h [] (c ∷ cs) = between h [] (c ∷ cs)
whole_front h (s ∷ ss) clauses = between h (s ∷ ss) clauses

front_words : (h : Header) (sets : List QuantSet) (clauses : List (List ℤ))
    → words_of (whole_front h sets clauses) ≡ whole_words h sets clauses
front_words h [] [] = refl
front_words h [] (c ∷ cs) = refl
front_words h (s ∷ ss) clauses = refl

front_line : (h : Header) (sets : List QuantSet) (clauses : List (List ℤ))
    → line_of (whole_front h sets clauses) ≡ h.line
front_line h [] [] = refl
front_line h [] (c ∷ cs) = refl
front_line h (s ∷ ss) clauses = refl

front_allowed : (h : Header) (sets : List QuantSet) (clauses : List (List ℤ)) → AreAllowed h sets clauses
    → IsAllowed (whole_front h sets clauses)
front_allowed h [] [] a = tt
front_allowed h [] (c ∷ cs) a = (inr (λ e. let no_list : c ∷ cs ≡ [] = e in cc), a)
front_allowed h (s ∷ ss) clauses a = (inl (λ e. let no_list : s ∷ ss ≡ [] = e in cc), a)

front_silent : (h : Header) (sets : List QuantSet) (clauses : List (List ℤ)) (w : Word) (line : ℕ)
    → AreAllowed h sets clauses → (length (words_of (whole_front h sets clauses)) ≡ 4 → line ≢ h.line)
    → first_of (between_rules h clauses w line) ≡ None → first_of (word_rules (whole_front h sets clauses) w line) ≡
    None
front_silent h [] [] w line a off e = none_both (header_rules h line) (between_rules h [] w line)
    (header_silent h line a.limits (off refl)) e
front_silent h [] (c ∷ cs) w line a off e = e
front_silent h (s ∷ ss) clauses w line a off e = e

front_number : (h : Header) (sets : List QuantSet) (clauses : List (List ℤ)) (n : ℤ) (line : ℕ)
    → extended (whole_front h sets clauses) (Num n) line ≡ clause_after (is_zero n) h sets clauses [] n
front_number h [] [] n line = refl
front_number h [] (c ∷ cs) n line = refl
front_number h (s ∷ ss) clauses n line = refl

front_quant : (q : Quant) (h : Header) (sets : List QuantSet) (line : ℕ) → extended (whole_front h sets [])
    (quant_word q) line ≡ in_set h sets q []
front_quant Exists h [] line = refl
front_quant Forall h [] line = refl
front_quant Exists h (s ∷ ss) line = refl
front_quant Forall h (s ∷ ss) line = refl

quant_silent : (q : Quant) (h : Header) (line : ℕ) → first_of (between_rules h [] (quant_word q) line) ≡ None
quant_silent Exists h line = refl
quant_silent Forall h line = refl

from_set_end : (h : Header) (sets : List QuantSet) (q : Quant) (vs : List ℕ) (read : List Token)
    → AreAllowed h (sets ++ (q, vs) ∷ []) [] → Spells (between h (sets ++ (q, vs) ∷ []) []) read
    → Previous (between h (sets ++ (q, vs) ∷ []) []) read
from_set_end h sets q vs read a s = previous (between h (sets ++ (q, vs) ∷ []) []) (in_set h sets q vs) read
    (Num (pos 0)) s (words_set_end h sets q vs) refl a (λ line on off. refl) (λ line. refl)

from_clause_end : (h : Header) (sets : List QuantSet) (clauses : List (List ℤ)) (ls : List ℤ) (read : List Token)
    → AreAllowed h sets (clauses ++ ls ∷ []) → Spells (between h sets (clauses ++ ls ∷ [])) read
    → Previous (between h sets (clauses ++ ls ∷ [])) read
from_clause_end h sets clauses [] read a s =
    let less : AreAllowed h sets clauses × (length clauses ≢ h.count) = clause_unbegun h sets clauses a in
    previous (between h sets (clauses ++ [] ∷ [])) (whole_front h sets clauses) read (Num (pos 0)) s
    (words_clause_end h sets clauses [] ∙ ap (λ r. r ++ Num (pos 0) ∷ [])
    (append-nil (whole_words h sets clauses) ∙ sym (front_words h sets clauses))) (front_line h sets clauses)
    (front_allowed h sets clauses less.0)
    (λ line on off. front_silent h sets clauses (Num (pos 0)) line less.0 off
    (none_with (length clauses == h.count) (refused 17 line) [] (ne_eqb (length clauses) h.count less.1) refl))
    (λ line. front_number h sets clauses (pos 0) line)
from_clause_end h sets clauses (l ∷ ls) read a s =
    previous (between h sets (clauses ++ (l ∷ ls) ∷ [])) (in_clause h sets clauses (l ∷ ls)) read (Num (pos 0)) s
    (words_clause_end h sets clauses (l ∷ ls)) refl
    ((λ e. let no_list : l ∷ ls ≡ [] = e in cc), a) (λ line on off. refl) (λ line. refl)

from_set_begun : (q : Quant) (h : Header) (sets : List QuantSet) (read : List Token)
    → AreAllowed h (sets ++ (q, []) ∷ []) [] → Spells (in_set h sets q []) read → Previous (in_set h sets q []) read
from_set_begun q h sets read a s =
    let less : AreAllowed h sets [] = set_unbegun h sets q a in
    previous (in_set h sets q []) (whole_front h sets []) read (quant_word q) s
    (ap (λ r. r ++ quant_word q ∷ []) (sym (front_words h sets []))) (front_line h sets [])
    (front_allowed h sets [] less)
    (λ line on off. front_silent h sets [] (quant_word q) line less off (quant_silent q h line))
    (λ line. front_quant q h sets line)

from_variable : (h : Header) (sets : List QuantSet) (q : Quant) (vs : List ℕ) (v : ℕ) (read : List Token)
    → AreAllowed h (sets ++ (q, vs ++ v ∷ []) ∷ []) [] → Spells (in_set h sets q (vs ++ v ∷ [])) read
    → Previous (in_set h sets q (vs ++ v ∷ [])) read
from_variable h sets q vs v read a s =
    let less = set_shrinks h sets q vs v a in
    previous (in_set h sets q (vs ++ v ∷ [])) (in_set h sets q vs) read (Num (pos v)) s (words_set_more h sets q vs v)
    refl less.0
    (λ line on off. variable_silent h sets q vs v line less.1 less.2 less.3 a.scopes)
    (λ line. ap (λ t. set_after t h sets q vs (pos v)) (nonzero (pos v) less.1))

from_literal : (h : Header) (sets : List QuantSet) (clauses : List (List ℤ)) (ls : List ℤ) (n : ℤ) (read : List Token)
    → AreAllowed h sets (clauses ++ (ls ++ n ∷ []) ∷ []) → Spells (in_clause h sets clauses (ls ++ n ∷ [])) read
    → Previous (in_clause h sets clauses (ls ++ n ∷ [])) read
from_literal h sets clauses [] n read a s =
    let less = clause_shrinks h sets clauses [] n a in
    let bare = clause_unbegun h sets clauses less.0 in
    previous (in_clause h sets clauses (n ∷ [])) (whole_front h sets clauses) read (Num n) s
    (ap (λ r. r ++ Num n ∷ []) (sym (front_words h sets clauses))) (front_line h sets clauses)
    (front_allowed h sets clauses bare.0)
    (λ line on off. front_silent h sets clauses (Num n) line bare.0 off
    (none_with (length clauses == h.count) (refused 17 line) (unless_zero n (literal_rules h clauses [] n line))
    (ne_eqb (length clauses) h.count bare.1)
    (literal_silent h clauses [] n line less.1 less.2 less.3)))
    (λ line. front_number h sets clauses n line ∙ ap (λ t. clause_after t h sets clauses [] n) (nonzero n less.1))
from_literal h sets clauses (l ∷ ls) n read a s =
    let less = clause_shrinks h sets clauses (l ∷ ls) n a in
    previous (in_clause h sets clauses ((l ∷ ls) ++ n ∷ [])) (in_clause h sets clauses (l ∷ ls)) read (Num n) s
    (words_clause_more h sets clauses (l ∷ ls) n) refl
    ((λ e. let no_list : l ∷ ls ≡ [] = e in cc), less.0)
    (λ line on off. literal_silent h clauses (l ∷ ls) n line less.1 less.2 less.3)
    (λ line. ap (λ t. clause_after t h sets clauses (l ∷ ls) n) (nonzero n less.1))

from_clauses : (h : Header) (sets : List QuantSet) (clauses : List (List ℤ)) (c : List ℤ) (cs : List (List ℤ))
    (read : List Token) → clauses ≡ cs ++ c ∷ [] → AreAllowed h sets clauses → Spells (between h sets clauses) read
    → Previous (between h sets clauses) read
from_clauses h sets clauses c cs read e a s =
    subst (λ x. Previous (between h sets x) read) (sym e)
    (from_clause_end h sets cs c read (subst (λ x. AreAllowed h sets x) e a)
    (subst (λ x. Spells (between h sets x) read) e s))

from_sets : (h : Header) (sets : List QuantSet) (c : QuantSet) (cs : List QuantSet) (read : List Token)
    → sets ≡ cs ++ c ∷ [] → AreAllowed h sets [] → Spells (between h sets []) read → Previous (between h sets []) read
from_sets h sets c cs read e a s =
    subst (λ x. Previous (between h x []) read) (sym e)
    (from_set_end h cs c.0 c.1 read (subst (λ x. AreAllowed h x []) e a)
    (subst (λ x. Spells (between h x []) read) e s))

from_variables : (h : Header) (sets : List QuantSet) (q : Quant) (vs us : List ℕ) (v : ℕ) (read : List Token)
    → vs ≡ us ++ v ∷ [] → AreAllowed h (sets ++ (q, vs) ∷ []) [] → Spells (in_set h sets q vs) read
    → Previous (in_set h sets q vs) read
from_variables h sets q vs us v read e a s =
    subst (λ x. Previous (in_set h sets q x) read) (sym e)
    (from_variable h sets q us v read (subst (λ x. AreAllowed h (sets ++ (q, x) ∷ []) []) e a)
    (subst (λ x. Spells (in_set h sets q x) read) e s))

from_literals : (h : Header) (sets : List QuantSet) (clauses : List (List ℤ)) (ls ms : List ℤ) (n : ℤ)
    (read : List Token) → ls ≡ ms ++ n ∷ [] → AreAllowed h sets (clauses ++ ls ∷ [])
    → Spells (in_clause h sets clauses ls) read → Previous (in_clause h sets clauses ls) read
from_literals h sets clauses ls ms n read e a s =
    subst (λ x. Previous (in_clause h sets clauses x) read) (sym e)
    (from_literal h sets clauses ms n read (subst (λ x. AreAllowed h sets (clauses ++ x ∷ [])) e a)
    (subst (λ x. Spells (in_clause h sets clauses x) read) e s))

-- nothing has been read, or a last word has
pub previous_of : (front : Front) (read : List Token) → Spells front read → IsAllowed front
    → ((front ≡ nothing) × (read ≡ [])) ⊎ Previous front read
previous_of nothing [] s a = inl (refl, refl)
previous_of nothing (t ∷ read) s a = absurd (let e : map (λ (t : Token). t.word) (t ∷ read) ≡ [] = s.words in cc)
previous_of (in_header start ws) read s a = inr (from_in_header a.2 a.0 a.1 start ws read a.3 a.4 s)
previous_of (headed h) read s a = inr (from_header_end h read s)
previous_of (between h [] []) read s a = absurd (elim a.0 [ inl some ↦ some refl | inr some ↦ some refl ])
previous_of (between h sets (c ∷ cs)) read s a = let view = last_of c cs in
    inr (from_clauses h sets (c ∷ cs) view.1 view.0 read view.2 a.1 s)
previous_of (between h (x ∷ xs) []) read s a = let view = last_of x xs in
    inr (from_sets h (x ∷ xs) view.1 view.0 read view.2 a.1 s)
previous_of (in_set h sets q []) read s a = inr (from_set_begun q h sets read a s)
previous_of (in_set h sets q (v ∷ vs)) read s a = let view = last_of v vs in
    inr (from_variables h sets q (v ∷ vs) view.0 view.1 read view.2 a s)
previous_of (in_clause h sets clauses []) read s a = absurd (a.0 refl)
previous_of (in_clause h sets clauses (l ∷ ls)) read s a = let view = last_of l ls in
    inr (from_literals h sets clauses (l ∷ ls) view.0 view.1 read view.2 a.1 s)

-- the computation goes through what has been read
pub runs_to : (n : ℕ) (front : Front) (read : List Token) (items : List Item) → length read ≡ n → Spells front read
    → IsAllowed front → outcome_from nothing (map word read ++ items) ≡ outcome_from front items
runs_to zero front read items e s a =
    elim (previous_of front read s a) [
      | inl both ↦ ap (λ r. outcome_from nothing (map word r ++ items)) both.1
          ∙ ap (λ f. outcome_from f items) (sym both.0)
      | inr p ↦
          absurd (omega (arith, e, ap length p.whole, length-append p.init (p.last ∷ [])))
    ]
runs_to (suc n) front read items e s a = elim (previous_of front read s a) [
  | inl both ↦ absurd (omega (arith, e, ap length both.1))
  | inr p ↦
      ap (λ r. outcome_from nothing (map word r ++ items)) p.whole
      ∙ ap (λ r. outcome_from nothing (r ++ items)) (map-append word p.init (p.last ∷ []))
      ∙ ap (outcome_from nothing) (append_assoc (map word p.init) (word p.last ∷ []) items)
      ∙ runs_to n p.before p.init (word p.last ∷ items)
      (omega (arith, e, ap length p.whole, length-append p.init (p.last ∷ []))) p.spelled p.allowed
      ∙ ap (λ v. decided v (outcome_from (extended p.before p.last.word p.last.line) items)) p.silent
      ∙ ap (λ f. outcome_from f items) p.next
]

-- A text that is something by the grammar is what is computed.
pub reads_computed : (text : List ℕ) (o : Outcome) → Reads text o → outcome_of text ≡ Some o
reads_computed text o r =
    ap (outcome_from nothing) r.whole
    ∙ runs_to (length r.read) r.front r.read (r.next ∷ r.rest) refl r.spelled r.allowed
    ∙ ap (λ v. decided v (outcome_from (after_item r.front r.next) r.rest)) r.decides

pub one_outcome : (text : List ℕ) (o p : Outcome) → Reads text o → Reads text p → o ≡ p
one_outcome text o p r s = let same : Some o ≡ Some p = sym (reads_computed text o r) ∙ reads_computed text p s in cc
