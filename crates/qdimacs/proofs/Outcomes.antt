-- The computed outcome is one by the grammar, and there is always one.
use Rattle.std.proofs.Common.{◌≡◌, ℕ, ℤ, Bool, true, false, List, [], ◌∷◌, ◌++◌, length, map, take, Option, None, Some, refl, sym, ap, ◌∙◌}
use Rattle.std.proofs.lemmas.List.{map-append, append_assoc}
use Rattle.lexer.specs.declared.token.Token.{Token}
use Rattle.lexer.specs.declared.token.Comments.TheVariants.{Dimacs}
use Rattle.lexer.specs.Words.{Item, word, bad_byte, number_range, too_long, the_end, items, items_of_lines, lines_of, seen, ending, max_bytes, last_line}
use Rattle.std.specs.Prelude.{nat_le, nat_lt, if◌then◌else◌}
use Rattle.qdimacs.specs.Rules.{Outcome, parsed, refused, limit, header_limits, whole_rules, Header, Front, nothing, in_header, headed, between, in_set, in_clause, verdict, first_of}
use Rattle.truth.specs.Limits.{max_scopes}
use Rattle.reading.specs.declared.refusal.Quantity.TheVariants.{Scopes}
use Rattle.qdimacs.specs.Formula.{QuantSet, scopes_of, formula_of}
use Rattle.qdimacs.proofs.WordTests.{none_of_both}
use Rattle.qdimacs.specs.Reads.{Spells, IsAllowed, Decides, Reads}
use Rattle.qdimacs.specs.Run.{after_item, decided, outcome_from, outcome_of, extended}
use Rattle.qdimacs.proofs.Kept.{goes_on, Goes}

-- the item behind what has been read decides
decided_here : (all rest : List Item) (item : Item) (front : Front) (read : List Token) (o p : Outcome)
    → all ≡ map word read ++ item ∷ rest → Spells front read → IsAllowed front → verdict front item ≡ Some p
    → Some p ≡ Some o → Decides all o
decided_here all rest item front read o p e s a v same = record {
  front = front;
  read = read;
  next = item;
  rest = rest;
  whole = e;
  spelled = s;
  allowed = a;
  decides = v ∙ same;
}

-- one more word has been read
pub moved : (all : List Item) (read : List Token) (t : Token) (rest : List Item) → all ≡ map word read ++ word t ∷ rest
    → all ≡ map word (read ++ t ∷ []) ++ rest
moved all read t rest e = e ∙ sym (append_assoc (map word read) (word t ∷ []) rest) ∙ ap (λ r. r ++ rest)
    (sym (map-append word read (t ∷ [])))

by_item : (all rest : List Item) (item : Item) (front : Front) (read : List Token) (o : Outcome)
    (found : Option Outcome) → verdict front item ≡ found → all ≡ map word read ++ item ∷ rest → Spells front read
    → IsAllowed front
    → (verdict front item ≡ None → outcome_from (after_item front item) rest ≡ Some o → Decides all o)
    → decided found (outcome_from (after_item front item) rest) ≡ Some o → Decides all o
by_item all rest item front read o (Some p) v e s a on h = decided_here all rest item front read o p e s a v h
by_item all rest item front read o None v e s a on h = on v h

-- the end always decides
some_rule : (xs : List (Bool × Outcome)) (o : Outcome) → first_of (xs ++ (true, o) ∷ []) ≡ None → ⊥
some_rule [] o e = cc
some_rule ((true, p) ∷ xs) o e = cc
some_rule ((false, p) ∷ xs) o e = some_rule xs o e

whole_ends : (h : Header) (sets : List QuantSet) (clauses : List (List ℤ)) (line : ℕ)
    → first_of (whole_rules h sets clauses line) ≡ None → ⊥
whole_ends h sets clauses line e =
    some_rule
    ((nat_lt (length clauses) h.count, refused 16 line) ∷ (
      nat_lt max_scopes (length (scopes_of sets clauses)),
      limit Scopes line,
    ) ∷ []) (parsed (formula_of h.vars h.count sets clauses)) e

ends : (front : Front) (line : ℕ) → verdict front (the_end line) ≡ None → ⊥
ends nothing line e = cc
ends (in_header start ws) line e = cc
ends (headed h) line e = whole_ends h [] [] line (none_of_both (header_limits h) (whole_rules h [] [] line) e).1
ends (between h sets clauses) line e = whole_ends h sets clauses line e
ends (in_set h sets q vs) line e = cc
ends (in_clause h sets clauses ls) line e = cc

pub reads_from : (items : List Item) (all : List Item) (front : Front) (read : List Token) (o : Outcome)
    → all ≡ map word read ++ items → Spells front read → IsAllowed front → outcome_from front items ≡ Some o
    → Decides all o
reads_from [] all front read o e s a h = cc
reads_from (word t ∷ rest) all front read o e s a h =
    by_item all rest (word t) front read o (verdict front (word t)) refl e s a
    (λ v g. let next : Goes (extended front t.word t.line) read t.word t.line = goes_on front read t.word t.line s a
    v in
    reads_from rest all (extended front t.word t.line) (read ++ t ∷ []) o (moved all read t rest e) next.0 next.1 g) h
reads_from (bad_byte line ∷ rest) all front read o e s a h = decided_here all rest (bad_byte line) front read o _ e s a
    refl h
reads_from (number_range line ∷ rest) all front read o e s a h = decided_here all rest (number_range line) front read o
    _ e s a refl h
reads_from (too_long line ∷ rest) all front read o e s a h = decided_here all rest (too_long line) front read o _ e s a
    refl h
reads_from (the_end line ∷ rest) all front read o e s a h =
    by_item all rest (the_end line) front read o (verdict front (the_end line)) refl e s a
    (λ v g. absurd (ends front line v)) h

-- The outcome that is computed is one by the grammar.
pub computed_reads : (text : List ℕ) (o : Outcome) → outcome_of text ≡ Some o → Reads text o
computed_reads text o h = reads_from (items Dimacs text) (items Dimacs text) nothing [] o refl
    (record { words = refl; on_line = tt; off_line = tt }) tt h

found_or : (found rest : Option Outcome) → (found ≡ None → (o : Outcome) × (rest ≡ Some o)) → (o : Outcome)
    × (decided found rest ≡ Some o)
found_or (Some p) rest on = (p, refl)
found_or None rest on = on refl

-- items whose last always decides have an outcome
last_decides : (before : List Item) (last : Item) (front : Front) → ((front : Front) → verdict front last ≡ None → ⊥)
    → (o : Outcome) × (outcome_from front (before ++ last ∷ []) ≡ Some o)
last_decides [] last front always = found_or (verdict front last) None (λ e. absurd (always front e))
last_decides (item ∷ before) last front always = found_or (verdict front item)
    (outcome_from (after_item front item) (before ++ last ∷ []))
    (λ _. last_decides before last (after_item front item) always)

ending_decides : (fits : Bool) (line cut : ℕ) (front : Front)
    → verdict front (if fits then the_end line else too_long cut) ≡ None → ⊥
ending_decides true line cut front e = ends front line e
ending_decides false line cut front e = cc

-- Each text has an outcome.
pub has_outcome : (text : List ℕ) → (o : Outcome) × (outcome_of text ≡ Some o)
has_outcome text = last_decides (items_of_lines Dimacs true 1 (lines_of (seen Dimacs max_bytes text)))
    (ending 1 max_bytes text) nothing (ending_decides (nat_le (length text) max_bytes) (last_line 1 text)
    (last_line 1 (take max_bytes text)))
