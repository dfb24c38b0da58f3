-- The computed outcome is one by the grammar, and there is always one.
use Rattle.std.proofs.Common.{◌≡◌, ℕ, Bool, true, false, List, [], ◌∷◌, ◌++◌, length, map, take, Option, None, Some, refl, sym, ap, ◌∙◌, arith}
use Rattle.std.specs.Prelude.{nat_le, if◌then◌else◌, is_none, unwrap_or, not}
use Rattle.std.proofs.lemmas.List.{map-append}
use Rattle.lexer.specs.declared.token.Token.{Token}
use Rattle.lexer.specs.declared.token.Comments.TheVariants.{Hash}
use Rattle.lexer.specs.Words.{Item, word, bad_byte, number_range, too_long, the_end, items, items_of_lines, lines_of, seen, ending, max_bytes, last_line}
use Rattle.qcir_reader.specs.declared.sign.Stage.{Stage}
use Rattle.qcir_reader.specs.declared.sign.Stage.TheVariants.{Between, InSet, InOutput, Body, InName, InKind, InGate}
use Rattle.qcir_reader.specs.declared.sign.Sign.{Sign}
use Rattle.qcir_reader.specs.Grammar.{allows, sign_of}
use Rattle.qcir_reader.specs.Rules.{Outcome, refused, Front, first_of, is_unsupported, number_rules, word_rules, verdict, is_known}
use Rattle.qcir_reader.specs.Run.{nothing, noted, moved, noted_item, moved_item, decided, outcome_from, outcome_of}
use Rattle.qcir_reader.specs.Reads.{Spells, IsAllowed, Decides, Reads, signs_of, HasOutputLine}
use Rattle.qcir_reader.proofs.Tests.{none_refuses}
use Rattle.qcir_reader.proofs.Allowed.{GoesTo, goes}
use Rattle.qcir_reader.proofs.Spelled.{WritesTo, writes, LinesTo, lines}
use Rattle.qdimacs.proofs.Outcomes.{moved as read_more}

pub nothing_allowed : IsAllowed Between nothing
nothing_allowed = record {
  names = tt;
  distinct = tt;
  scopes = omega arith;
  gates = tt;
  gate_names = tt;
  gate_scopes = omega arith;
  few = omega arith;
  stands = (refl, refl);
}

-- what a word that no rule refuses goes on to
there : (found : Option Stage) → is_none found ≡ false → (next : Stage) × (found ≡ Some next)
there None h = cc
there (Some next) h = (next, refl)

pub word_passes : (stage : Stage) (f : Front) (s : Sign) (line : ℕ) → first_of (word_rules stage f s line) ≡ None
    → (first_of (number_rules stage f s line) ≡ None) × ((next : Stage) × (allows stage s ≡ Some next))
word_passes stage f s line h =
    let one = none_refuses (is_unsupported stage s) (refused 72 line)
    ((is_none (allows stage s), refused 70 line) ∷ number_rules stage f s line) h in
    let two = none_refuses (is_none (allows stage s)) (refused 70 line) (number_rules stage f s line) one.1 in
    (two.1, there (allows stage s) two.0)

gone : (found : Option Stage) (stage next : Stage) (f : Front) → found ≡ Some next → GoesTo found f
    → IsAllowed (unwrap_or found stage) f
gone None stage next f e h = cc
gone (Some n) stage next f e h = h

written : (found : Option Stage) (stage next : Stage) (f : Front) (signs : List Sign) → found ≡ Some next
    → WritesTo found f signs → signs_of (unwrap_or found stage) f ≡ signs
written None stage next f signs e h = cc
written (Some n) stage next f signs e h = h

lined : (found : Option Stage) (stage next : Stage) (f : Front) (read : List Token) → found ≡ Some next
    → LinesTo found f read → HasOutputLine (unwrap_or found stage) f read
lined None stage next f read e h = cc
lined (Some n) stage next f read e h = h

pub still_allowed : (stage : Stage) (f : Front) (s : Sign) (line : ℕ) → first_of (word_rules stage f s line) ≡ None
    → IsAllowed stage f → IsAllowed (moved stage s) (noted stage f s line)
still_allowed stage f s line h a =
    let on = word_passes stage f s line h in
    gone (allows stage s) stage on.1.0 (noted stage f s line) on.1.1 (goes stage s f line on.0 a)

pub still_spelled : (stage : Stage) (f : Front) (read : List Token) (t : Token)
    → first_of (word_rules stage f (sign_of t.word) t.line) ≡ None → IsAllowed stage f → Spells stage f read
    → Spells (moved stage (sign_of t.word)) (noted stage f (sign_of t.word) t.line) (read ++ t ∷ [])
still_spelled stage f read t h a sp =
    let s : Sign = sign_of t.word in
    let on = word_passes stage f s t.line h in
    record {
      signs = map-append (λ (t : Token). sign_of t.word) read (t ∷ []) ∙ ap (λ r. r ++ s ∷ []) sp.signs
          ∙ sym (written (allows stage s) stage on.1.0 (noted stage f s t.line) (signs_of stage f ++ s ∷ []) on.1.1
          (writes stage s f t.line on.0 a));
      line = lined (allows stage s) stage on.1.0 (noted stage f s t.line) (read ++ t ∷ []) on.1.1
          (lines stage s f read t sp);
    }

-- the item behind what has been read decides
decided_here : (all rest : List Item) (item : Item) (stage : Stage) (f : Front) (read : List Token) (o p : Outcome)
    → all ≡ map word read ++ item ∷ rest → Spells stage f read → IsAllowed stage f → verdict stage f item ≡ Some p
    → Some p ≡ Some o → Decides all o
decided_here all rest item stage f read o p e s a v same = record {
  stage = stage;
  front = f;
  read = read;
  next = item;
  rest = rest;
  whole = e;
  spelled = s;
  allowed = a;
  decides = v ∙ same;
}

by_item : (all rest : List Item) (item : Item) (stage : Stage) (f : Front) (read : List Token) (o : Outcome)
    (found : Option Outcome) → verdict stage f item ≡ found → all ≡ map word read ++ item ∷ rest → Spells stage f read
    → IsAllowed stage f
    → (verdict stage f item ≡ None → outcome_from (moved_item stage item) (noted_item stage f item) rest ≡ Some o
    → Decides all o)
    → decided found (outcome_from (moved_item stage item) (noted_item stage f item) rest) ≡ Some o → Decides all o
by_item all rest item stage f read o (Some p) v e s a on h = decided_here all rest item stage f read o p e s a v h
by_item all rest item stage f read o None v e s a on h = on v h

-- the end always decides
body_ends : (b : Bool) (o p : Outcome) → first_of ((b, o) ∷ (true, p) ∷ []) ≡ None → ⊥
body_ends true o p e = cc
body_ends false o p e = cc

pub ends : (stage : Stage) (f : Front) (line : ℕ) → verdict stage f (the_end line) ≡ None → ⊥
ends Body f line e = body_ends (not (is_known f _)) _ _ e
ends Between f line e = cc
ends (InSet place) f line e = cc
ends (InOutput place) f line e = cc
ends InName f line e = cc
ends InKind f line e = cc
ends (InGate place) f line e = cc

pub reads_from : (is all : List Item) (stage : Stage) (f : Front) (read : List Token) (o : Outcome)
    → all ≡ map word read ++ is → Spells stage f read → IsAllowed stage f → outcome_from stage f is ≡ Some o
    → Decides all o
reads_from [] all stage f read o e s a h = cc
reads_from (word t ∷ rest) all stage f read o e s a h =
    by_item all rest (word t) stage f read o (verdict stage f (word t)) refl e s a
    (λ v g. reads_from rest all (moved stage (sign_of t.word)) (noted stage f (sign_of t.word) t.line) (read ++ t ∷ [])
    o (read_more all read t rest e) (still_spelled stage f read t v a s)
    (still_allowed stage f (sign_of t.word) t.line v a) g) h
reads_from (bad_byte line ∷ rest) all stage f read o e s a h = decided_here all rest (bad_byte line) stage f read o _ e
    s a refl h
reads_from (number_range line ∷ rest) all stage f read o e s a h = decided_here all rest (number_range line) stage f
    read o _ e s a refl h
reads_from (too_long line ∷ rest) all stage f read o e s a h = decided_here all rest (too_long line) stage f read o _ e
    s a refl h
reads_from (the_end line ∷ rest) all stage f read o e s a h =
    by_item all rest (the_end line) stage f read o (verdict stage f (the_end line)) refl e s a
    (λ v g. absurd (ends stage f line v)) h

-- The outcome that is computed is one by the grammar.
pub computed_reads : (text : List ℕ) (o : Outcome) → outcome_of text ≡ Some o → Reads text o
computed_reads text o h = reads_from (items Hash text) (items Hash text) Between nothing [] o refl
    (record { signs = refl; line = tt }) nothing_allowed h

found_or : (found rest : Option Outcome) → (found ≡ None → (o : Outcome) × (rest ≡ Some o)) → (o : Outcome)
    × (decided found rest ≡ Some o)
found_or (Some p) rest on = (p, refl)
found_or None rest on = on refl

-- items whose last always decides have an outcome
last_decides : (before : List Item) (last : Item) (stage : Stage) (f : Front)
    → ((stage : Stage) (f : Front) → verdict stage f last ≡ None → ⊥) → (o : Outcome)
    × (outcome_from stage f (before ++ last ∷ []) ≡ Some o)
last_decides [] last stage f always = found_or (verdict stage f last) None (λ e. absurd (always stage f e))
last_decides (item ∷ before) last stage f always = found_or (verdict stage f item)
    (outcome_from (moved_item stage item) (noted_item stage f item) (before ++ last ∷ []))
    (λ _. last_decides before last (moved_item stage item) (noted_item stage f item) always)

ending_decides : (fits : Bool) (line cut : ℕ) (stage : Stage) (f : Front)
    → verdict stage f (if fits then the_end line else too_long cut) ≡ None → ⊥
ending_decides true line cut stage f e = ends stage f line e
ending_decides false line cut stage f e = cc

-- Each text has an outcome.
pub has_outcome : (text : List ℕ) → (o : Outcome) × (outcome_of text ≡ Some o)
has_outcome text = last_decides (items_of_lines Hash true 1 (lines_of (seen Hash max_bytes text)))
    (ending 1 max_bytes text) Between nothing (ending_decides (nat_le (length text) max_bytes) (last_line 1 text)
    (last_line 1 (take max_bytes text)))
