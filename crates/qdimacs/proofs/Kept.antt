-- A word that no rule refuses goes on from what is allowed to what is allowed.
use Rattle.std.proofs.Common.{◌≡◌, ◌≢◌, ◌⊎◌, ℕ, zero, suc, ◌<◌, ◌≤◌, ℤ, pos, negsuc, Bool, true, false, List, [], ◌∷◌, ◌++◌, length, map, take, Option, None, Some, refl, sym, ap, ◌∙◌, arith, length-append, inl, inr}
use Rattle.std.specs.Str.{bytes_eq}
use Rattle.std.proofs.lemmas.Slice.Eq.{bytes_eq-Decides}
use Rattle.std.specs.Prelude.{codes, flat_map, not, ◌==◌, nat_lt, nat_le, nat_abs, if◌then◌else◌}
use Rattle.std.proofs.lemmas.List.{map-append, length-map, append-nil}
use Rattle.std.proofs.lemmas.Bool.{eqb-true, eqb-false, ltb-false, leb-true, leb-false}
use Rattle.lexer.specs.declared.token.Word.{Word}
use Rattle.lexer.specs.declared.token.Word.TheVariants.{Num, Text, Other}
use Rattle.lexer.specs.declared.token.Token.{Token}
use Rattle.prefix.specs.Scopes.{is_among}
use Rattle.reading.specs.declared.refusal.Quantity.TheVariants.{Variables, Clauses, Literals, Scopes}
use Rattle.prefix.specs.declared.quant.Quant.{Quant}
use Rattle.prefix.specs.declared.quant.Quant.TheVariants.{Exists, Forall}
use Rattle.qdimacs.specs.Formula.{QuantSet, literals_of, merged, declared}
use Rattle.qdimacs.specs.Rules.{Outcome, Header, Front, nothing, in_header, headed, between, in_set, in_clause, first_of, refused, fits_header, word_rules, header_rules, header_limits, literal_rules, variable_rules, unless_zero, inside_rules, outside_rules, between_rules, limit}
use Rattle.truth.specs.Limits.{max_vars, max_clauses, max_scopes, max_literals}
use Rattle.reading.specs.Words.{is_text, is_zero, quant_of, quant_word, natural_of}
use Rattle.qdimacs.specs.Reads.{Spells, IsAllowed, AreAllowed, words_of, line_of, whole_words, set_words, clause_words, variable_words}
use Rattle.qdimacs.specs.Run.{extended, clause_after, set_after, set_begun}
use Rattle.qdimacs.proofs.Lists.{on_more, fifth_more}
use Rattle.qdimacs.proofs.Grown.{zero_is, nonempty, words_set_more, words_set_end, words_clause_more, words_clause_end, set_begins, set_grows, clause_begins, clause_grows}
use Rattle.qdimacs.proofs.WordTests.{text_is, natural_is, none_refuses, passes, none_of_both}

-- as many words as tokens
pub as_many : (front : Front) (read : List Token) → Spells front read → length read ≡ length (words_of front)
as_many front read s = sym (length-map read (λ (t : Token). t.word)) ∙ ap length s.words

-- one more word
pub spells_more : (front next : Front) (read : List Token) (w : Word) (line : ℕ) → Spells front read
    → words_of next ≡ words_of front ++ w ∷ [] → line_of next ≡ line_of front
    → (length (words_of front) < 4 → line ≡ line_of front) → (length (words_of front) ≡ 4 → line ≢ line_of front)
    → Spells next (read ++ record { word = w; line = line } ∷ [])
spells_more front next read w line s words same on off =
    let many : length read ≡ length (words_of front) = as_many front read s in
    let t : Token = record { word = w; line = line } in
    record {
      words = map-append (λ (t : Token). t.word) read (t ∷ []) ∙ ap (λ ws. ws ++ w ∷ []) s.words ∙ sym words;
      on_line = rw same (on_more (λ (t : Token). t.line ≡ line_of front) 4 read t s.on_line
          (λ lt. on (rw (← many) lt)));
      off_line = rw same (fifth_more (λ (t : Token). t.line ≢ line_of front) 4 read t s.off_line
          (λ e. off (rw (← many) e)));
    }

-- the word goes on to what is spelled and allowed
abbrev pub Goes : Front → List Token → Word → ℕ → Type 0
Goes next read w line = Spells next (read ++ record { word = w; line = line } ∷ []) × IsAllowed next

from_nothing : (read : List Token) (w : Word) (line : ℕ) → Spells nothing read
    → first_of (word_rules nothing w line) ≡ None → Goes (in_header line []) read w line
from_nothing [] w line s h =
    let is_p : w ≡ Text (codes "p") = text_is (codes "p") w (passes (is_text (codes "p") w) (refused 10 line) [] h).0 in
    (record { words = ap (λ v. v ∷ []) is_p; on_line = (refl, tt); off_line = tt }, (0, 0, 0, omega arith, refl))
from_nothing (t ∷ read) w line s h = absurd (let e : map (λ (t : Token). t.word) (t ∷ read) ≡ [] = s.words in cc)

header_tests : (start : ℕ) (ws : List Word) (w : Word) (line : ℕ) → first_of (word_rules (in_header start ws) w line) ≡
    None → (line ≡ start) × (fits_header (length ws) w ≡ true)
header_tests start ws w line h =
    let one : ((line == start) ≡ true) × (first_of ((not (fits_header (length ws) w), refused 11 start) ∷ []) ≡ None) =
    passes (line == start) (refused 11 start) ((not (fits_header (length ws) w), refused 11 start) ∷ []) h in
    (eqb-true line start one.0, (passes (fits_header (length ws) w) (refused 11 start) [] one.1).0)

from_header : (n vars count start : ℕ) (ws : List Word) (read : List Token) (w : Word) (line : ℕ) → n < 3
    → ws ≡ take n (Text (codes "cnf") ∷ Num (pos vars) ∷ Num (pos count) ∷ [])
    → Spells (in_header start ws) read → (line ≡ start) × (fits_header (length ws) w ≡ true)
    → Goes (extended (in_header start ws) w line) read w line
from_header zero vars count start [] read w line lt e s h = (
  spells_more (in_header start []) (in_header start (w ∷ [])) read w line s refl refl (λ _. h.0)
      (λ four. absurd (omega (arith, four))),
  (0, 0, 1, omega arith, ap (λ v. v ∷ []) (text_is (codes "cnf") w h.1)),
)
from_header zero vars count start (v ∷ ws) read w line lt e s h = cc
from_header (suc zero) vars count start [] read w line lt e s h = cc
from_header (suc zero) vars count start (v ∷ []) read w line lt e s h =
    let number : w ≡ Num (pos (natural_of w)) = natural_is w h.1 in (
      spells_more (in_header start (v ∷ [])) (in_header start (v ∷ w ∷ [])) read w line s refl refl (λ _. h.0)
          (λ four. absurd (omega (arith, four))),
      (natural_of w, 0, 2, omega arith, cc),
    )
from_header (suc zero) vars count start (v ∷ u ∷ ws) read w line lt e s h = cc
from_header (suc (suc zero)) vars count start [] read w line lt e s h = cc
from_header (suc (suc zero)) vars count start (v ∷ []) read w line lt e s h = cc
from_header (suc (suc zero)) vars count start (v ∷ u ∷ []) read w line lt e s h =
    let number : w ≡ Num (pos (natural_of w)) = natural_is w h.1 in
    let second : u ≡ Num (pos vars) = cc in
    let value : natural_of u ≡ vars = ap natural_of second in
    let header : Header = record { vars = natural_of u; count = natural_of w; line = start } in
    let words : words_of (headed header) ≡ words_of (in_header start (v ∷ u ∷ [])) ++ w ∷ [] = cc in (
      spells_more (in_header start (v ∷ u ∷ [])) (headed header) read w line s words refl (λ _. h.0)
          (λ four. absurd (omega (arith, four))),
      tt,
    )
from_header (suc (suc zero)) vars count start (v ∷ u ∷ x ∷ ws) read w line lt e s h = cc
from_header (suc (suc (suc n))) vars count start ws read w line lt e s h = absurd (omega arith)

-- behind the header alone
within : (h : Header) (line : ℕ) → first_of (header_rules h line) ≡ None → (line ≢ h.line) × (h.vars ≤ max_vars)
    × (h.count ≤ max_clauses)
within h line e =
    let one : ((line == h.line) ≡ false) × (first_of (header_limits h) ≡ None) = none_refuses (line == h.line)
    (refused 11 h.line) (header_limits h) e in
    let two : (nat_lt max_vars h.vars ≡ false)
    × (first_of ((nat_lt max_clauses h.count, limit Clauses h.line) ∷ []) ≡ None) = none_refuses
    (nat_lt max_vars h.vars) (limit Variables h.line) ((nat_lt max_clauses h.count, limit Clauses h.line) ∷ [])
    one.1 in (
      eqb-false line h.line one.0,
      ltb-false max_vars h.vars two.0,
      ltb-false max_clauses h.count
          (none_refuses (nat_lt max_clauses h.count) (limit Clauses h.line) [] two.1).0,
    )

-- nothing behind the header is allowed
allowed_none : (h : Header) → (h.vars ≤ max_vars) × (h.count ≤ max_clauses) → AreAllowed h [] []
allowed_none h le = record {
  limits = le;
  variables = tt;
  distinct = tt;
  scopes = omega arith;
  count = omega arith;
  literals = tt;
  amount = omega arith;
}

-- what stands behind the header has words
longer : (h : Header) (sets : List QuantSet) (clauses : List (List ℤ)) → (sets ≢ []) ⊎ (clauses ≢ [])
    → length (words_of (between h sets clauses)) ≡ 4 → ⊥
longer h [] [] some four = elim some [ inl no_sets ↦ no_sets refl | inr no_clauses ↦ no_clauses refl ]
longer h [] (c ∷ cs) some four = omega (
  arith,
  four,
  length-append (map Num c) (Num (pos 0) ∷ []),
  length-append
      (clause_words c) (flat_map clause_words cs),
)
longer h (s ∷ ss) clauses some four =
    omega (
      arith,
      four,
      length-append (quant_word s.0 ∷ variable_words s.1 ++ Num (pos 0) ∷ []) (flat_map set_words ss),
      length-append (flat_map set_words (s ∷ ss)) (flat_map clause_words clauses),
    )

-- a number that is no 0 has a magnitude
magnitude : (n : ℤ) → is_zero n ≡ false → 0 < nat_abs n
magnitude n e = let no : nat_abs n ≡ 0 → ⊥ = eqb-false (nat_abs n) 0 e in omega (arith, no)

-- a number in a clause, begun or not
clause_goes : (zero_test : Bool) (h : Header) (sets : List QuantSet) (clauses : List (List ℤ)) (ls : List ℤ) (n : ℤ)
    (read : List Token) (line : ℕ) (front : Front)
    → is_zero n ≡ zero_test → first_of (if zero_test then [] else literal_rules h clauses ls n line) ≡ None
    → AreAllowed h sets (clauses ++ ls ∷ []) → Spells front read
    → words_of front ≡ whole_words h sets clauses ++ map Num ls → line_of front ≡ h.line
    → (length (words_of front) ≡ 4 → line ≢ h.line)
    → Goes (clause_after zero_test h sets clauses ls n) read (Num n) line
clause_goes true h sets clauses ls n read line front z e a s words same off = (
  spells_more front (between h sets (clauses ++ ls ∷ [])) read (Num n) line s
      (words_clause_end h sets clauses ls ∙ ap (λ r. r ++ Num (pos 0) ∷ []) (sym words)
      ∙ ap (λ m. words_of front ++ Num m ∷ []) (sym (zero_is n z)))
      (sym same)
      (λ few. absurd (omega (arith, ap length words, length-append (whole_words h sets clauses) (map Num ls), few)))
      (rw same off),
  (inr (nonempty clauses ls), a),
)
clause_goes false h sets clauses ls n read line front z e a s words same off =
    let one : (nat_lt h.vars (nat_abs n) ≡ false)
    × (first_of ((nat_le max_literals (length (literals_of clauses ++ ls)), limit Literals line) ∷ []) ≡ None) =
    none_refuses (nat_lt h.vars (nat_abs n)) (refused 12 line)
    ((nat_le max_literals (length (literals_of clauses ++ ls)), limit Literals line) ∷ []) e in
    let two : nat_le max_literals (length (literals_of clauses ++ ls)) ≡ false =
    (none_refuses (nat_le max_literals (length (literals_of clauses ++ ls))) (limit Literals line) [] one.1).0 in (
      spells_more front (in_clause h sets clauses (ls ++ n ∷ [])) read (Num n) line s
          (words_clause_more h sets clauses ls n ∙ ap (λ r. r ++ Num n ∷ []) (sym words))
          (sym same)
          (λ few. absurd
          (omega (arith, ap length words, length-append (whole_words h sets clauses) (map Num ls), few)))
          (rw same off),
      (
        nonempty ls n,
        clause_grows h sets clauses ls n a (magnitude n z) (ltb-false h.vars (nat_abs n) one.0)
            (leb-false max_literals (length (literals_of clauses ++ ls)) two),
      ),
    )

-- a set has its words behind the header's
five : (h : Header) (sets : List QuantSet) (q : Quant) (vs : List ℕ) → length (words_of (in_set h sets q vs)) < 5 → ⊥
five h sets q vs few = omega (arith, few, length-append (whole_words h sets []) (quant_word q ∷ variable_words vs))

-- a number in a set
set_goes : (zero_test : Bool) (h : Header) (sets : List QuantSet) (q : Quant) (vs : List ℕ) (n : ℤ) (read : List Token)
    (line : ℕ)
    → is_zero n ≡ zero_test → first_of (if zero_test then [] else variable_rules h sets q vs n line) ≡ None
    → AreAllowed h (sets ++ (q, vs) ∷ []) [] → Spells (in_set h sets q vs) read
    → Goes (set_after zero_test h sets q vs n) read (Num n) line
set_goes true h sets q vs n read line z e a s = (
  spells_more (in_set h sets q vs) (between h (sets ++ (q, vs) ∷ []) []) read (Num n) line s
      (words_set_end h sets q vs ∙ ap (λ m. words_of (in_set h sets q vs) ++ Num m ∷ []) (sym (zero_is n z)))
      refl (λ few. absurd (five h sets q vs (omega (arith, few))))
      (λ four. absurd (five h sets q vs (omega (arith, four)))),
  (inl (nonempty sets (q, vs)), a),
)
set_goes false h sets q vs (pos n) read line z e a s =
    let room_rule : List (Bool × Outcome) = (
      nat_lt max_scopes (length (merged (sets ++ (q, vs ++ n ∷ []) ∷ []))),
      limit Scopes line,
    ) ∷ [] in
    let one : (nat_le n h.vars ≡ true)
    × (first_of ((is_among n (declared sets ++ vs), refused 13 line) ∷ room_rule) ≡ None) = passes (nat_le n h.vars)
    (refused 12 line) ((is_among n (declared sets ++ vs), refused 13 line) ∷ room_rule) e in
    let two : (is_among n (declared sets ++ vs) ≡ false) × (first_of room_rule ≡ None) = none_refuses
    (is_among n (declared sets ++ vs)) (refused 13 line) room_rule one.1 in
    let three : nat_lt max_scopes (length (merged (sets ++ (q, vs ++ n ∷ []) ∷ []))) ≡ false =
    (none_refuses (nat_lt max_scopes (length (merged (sets ++ (q, vs ++ n ∷ []) ∷ [])))) (limit Scopes line) []
    two.1).0 in (
      spells_more (in_set h sets q vs) (in_set h sets q (vs ++ n ∷ [])) read (Num (pos n)) line s
          (words_set_more h sets q vs n) refl (λ few. absurd (five h sets q vs (omega (arith, few))))
          (λ four. absurd (five h sets q vs (omega (arith, four)))),
      set_grows h sets q vs n a (magnitude (pos n) z) (leb-true n h.vars one.0) two.0
          (ltb-false max_scopes (length (merged (sets ++ (q, vs ++ n ∷ []) ∷ []))) three),
    )
set_goes false h sets q vs (negsuc n) read line z e a s = cc

-- a word that begins a set
begin_goes : (h : Header) (sets : List QuantSet) (q : Quant) (w : Word) (read : List Token) (line : ℕ) (front : Front)
    → w ≡ quant_word q → AreAllowed h sets [] → Spells front read → words_of front ≡ whole_words h sets []
    → line_of front ≡ h.line
    → (length (words_of front) ≡ 4 → line ≢ h.line)
    → Goes (in_set h sets q []) read w line
begin_goes h sets q w read line front is a s words same off = (
  spells_more front (in_set h sets q []) read w line s (ap (λ v. whole_words h sets [] ++ v ∷ []) (sym is)
      ∙ ap (λ r. r ++ w ∷ []) (sym words)) (sym same)
      (λ few. absurd (omega (arith, few, ap length words))) (rw same off),
  set_begins h sets q a.limits a,
)

-- what a word that begins a set is
quant_text : (t : List ℕ) (q : Quant) (b c : Bool) → bytes_eq t (codes "e") ≡ b → bytes_eq t (codes "a") ≡ c
    → (if b then Some Exists else if c then Some Forall else None) ≡ Some q → Text t ≡ quant_word q
quant_text t q true c is_e is_a h = let same : Exists ≡ q = cc in ap Text ((bytes_eq-Decides t (codes "e")).0 is_e)
    ∙ ap quant_word same
quant_text t q false true is_e is_a h = let same : Forall ≡ q = cc in ap Text ((bytes_eq-Decides t (codes "a")).0 is_a)
    ∙ ap quant_word same
quant_text t q false false is_e is_a h = cc

quant_is : (t : List ℕ) (q : Quant) → quant_of (Text t) ≡ Some q → Text t ≡ quant_word q
quant_is t q e = quant_text t q (bytes_eq t (codes "e")) (bytes_eq t (codes "a")) refl refl e

-- a word that is no number, between sets and clauses
outside_goes : (found : Option Quant) (h : Header) (sets : List QuantSet) (clauses : List (List ℤ)) (t : List ℕ)
    (read : List Token) (line : ℕ) (front : Front)
    → quant_of (Text t) ≡ found → first_of (outside_rules clauses found line) ≡ None
    → AreAllowed h sets clauses → Spells front read → words_of front ≡ whole_words h sets clauses
    → line_of front ≡ h.line
    → (length (words_of front) ≡ 4 → line ≢ h.line)
    → Goes (set_begun h sets found) read (Text t) line
outside_goes None h sets clauses t read line front is e a s words same off = cc
outside_goes (Some q) h sets [] t read line front is e a s words same off = begin_goes h sets q (Text t) read line front
    (quant_is t q is) a s words same off
outside_goes (Some q) h sets (c ∷ cs) t read line front is e a s words same off = cc

inside_none : (found : Option Quant) (line : ℕ) → first_of (inside_rules found line) ≡ None → ⊥
inside_none None line e = cc
inside_none (Some q) line e = cc

-- a word behind whole sets and clauses
abbrev whole_after : Header → List QuantSet → List (List ℤ) → Word → Front
whole_after h sets clauses (Num n) = clause_after (is_zero n) h sets clauses [] n
whole_after h sets clauses (Text t) = set_begun h sets (quant_of (Text t))
whole_after h sets clauses Other = between h sets clauses

between_goes : (h : Header) (sets : List QuantSet) (clauses : List (List ℤ)) (read : List Token) (w : Word) (line : ℕ)
    (front : Front)
    → AreAllowed h sets clauses → Spells front read → words_of front ≡ whole_words h sets clauses
    → line_of front ≡ h.line
    → (length (words_of front) ≡ 4 → line ≢ h.line)
    → first_of (between_rules h clauses w line) ≡ None
    → Goes (whole_after h sets clauses w) read w line
between_goes h sets clauses read (Num n) line front a s words same off e =
    let rest : List (Bool × Outcome) = unless_zero n (literal_rules h clauses [] n line) in
    let one : ((length clauses == h.count) ≡ false) × (first_of rest ≡ None) = none_refuses (length clauses == h.count)
    (refused 17 line) rest e in
    clause_goes (is_zero n) h sets clauses [] n read line front refl one.1
    (clause_begins h sets clauses a.limits a (eqb-false (length clauses) h.count one.0)) s
    (words ∙ sym (append-nil (whole_words h sets clauses))) same off
between_goes h sets clauses read (Text t) line front a s words same off e = outside_goes (quant_of (Text t)) h sets
    clauses t read line front refl e a s words same off
between_goes h sets clauses read Other line front a s words same off e = cc

headed_goes : (h : Header) (read : List Token) (w : Word) (line : ℕ) → Spells (headed h) read → (line ≢ h.line)
    × (h.vars ≤ max_vars) × (h.count ≤ max_clauses) → first_of (between_rules h [] w line) ≡ None
    → Goes (extended (headed h) w line) read w line
headed_goes h read (Num n) line s le e = between_goes h [] [] read (Num n) line (headed h) (allowed_none h (le.1, le.2))
    s refl refl (λ four. le.0) e
headed_goes h read (Text t) line s le e = between_goes h [] [] read (Text t) line (headed h)
    (allowed_none h (le.1, le.2)) s refl refl (λ four. le.0) e
headed_goes h read Other line s le e = cc

whole_goes : (h : Header) (sets : List QuantSet) (clauses : List (List ℤ)) (read : List Token) (w : Word) (line : ℕ)
    → Spells (between h sets clauses) read → (sets ≢ []) ⊎ (clauses ≢ []) → AreAllowed h sets clauses
    → first_of (between_rules h clauses w line) ≡ None → Goes (extended (between h sets clauses) w line) read w line
whole_goes h sets clauses read (Num n) line s some a e = between_goes h sets clauses read (Num n) line
    (between h sets clauses) a s refl refl (λ four. absurd (longer h sets clauses some four)) e
whole_goes h sets clauses read (Text t) line s some a e = between_goes h sets clauses read (Text t) line
    (between h sets clauses) a s refl refl (λ four. absurd (longer h sets clauses some four)) e
whole_goes h sets clauses read Other line s some a e = cc

begun : (ls : List ℤ) → ls ≢ [] → length (map Num ls) ≡ 0 → ⊥
begun [] some e = absurd (some refl)
begun (l ∷ ls) some e = omega (arith, e)

-- a word that no rule refuses
pub goes_on : (front : Front) (read : List Token) (w : Word) (line : ℕ) → Spells front read → IsAllowed front
    → first_of (word_rules front w line) ≡ None → Goes (extended front w line) read w line
goes_on nothing read w line s a e = from_nothing read w line s e
goes_on (in_header start ws) read w line s a e = from_header a.2 a.0 a.1 start ws read w line a.3 a.4 s
    (header_tests start ws w line e)
goes_on (headed h) read w line s a e =
    let both : (first_of (header_rules h line) ≡ None) × (first_of (between_rules h [] w line) ≡ None) = none_of_both
    (header_rules h line) (between_rules h [] w line) e in
    headed_goes h read w line s (within h line both.0) both.1
goes_on (between h sets clauses) read w line s a e = whole_goes h sets clauses read w line s a.0 a.1 e
goes_on (in_set h sets q vs) read (Num n) line s a e = set_goes (is_zero n) h sets q vs n read line refl e a s
goes_on (in_set h sets q vs) read (Text t) line s a e = absurd (inside_none (quant_of (Text t)) line e)
goes_on (in_set h sets q vs) read Other line s a e = absurd (inside_none None line e)
goes_on (in_clause h sets clauses ls) read (Num n) line s a e = clause_goes (is_zero n) h sets clauses ls n read line
    (in_clause h sets clauses ls) refl e a.1 s refl refl
    (λ four. absurd (begun ls a.0 (omega (arith, four, length-append (whole_words h sets clauses) (map Num ls)))))
goes_on (in_clause h sets clauses ls) read (Text t) line s a e = absurd (inside_none (quant_of (Text t)) line e)
goes_on (in_clause h sets clauses ls) read Other line s a e = absurd (inside_none None line e)
