-- From step to step, what is left gives the outcome that the whole gives.
use Rattle.std.proofs.Common.{◌≡◌, ℕ, Option, None, Some, Result, Ok, Err, List, [], ◌∷◌, refl, sym, ap, subst, ◌∙◌}
use Rattle.std.specs.Prelude.{option_map, IfSome, OnOk}
use Rattle.lexer.specs.declared.token.Comments.TheVariants.{Dimacs}
use Rattle.lexer.specs.declared.token.Token.{Token}
use Rattle.lexer.specs.declared.token.LexRefusal.{LexRefusal}
use Rattle.lexer.specs.declared.token.LexRefusal.TheVariants.{ReadFault as LexFault, TooLong, BadByte, NumberRange}
use Rattle.lexer.specs.Words.{Item, word, bad_byte, number_range, too_long, the_end, items}
use Rattle.lexer.specs.Answers.{Begins, Gives, Ends, Refuses}
use Rattle.truth.specs.declared.formula.Formula.{Formula}
use Rattle.reading.specs.declared.refusal.ReadRefusal.{ReadRefusal}
use Rattle.reading.specs.declared.refusal.ReadRefusal.TheVariants.{Refused, Limit, ReadFault, NoMemory}
use Rattle.qdimacs.specs.Rules.{Outcome, parsed, refused, limit, Front, nothing, verdict, first_of, word_rules, end_rules}
use Rattle.qdimacs.specs.Run.{outcome_from, outcome_of, decided, extended, after_item}
use Rattle.qdimacs.specs.Reads.{Reads}
use Rattle.qdimacs.specs.Answers.{IsAnswer}
use Rattle.qdimacs.proofs.Outcomes.{computed_reads}
use Rattle.std.specs.Io.KnownBytes.{prepend_known, IsAtEnd}
use Rattle.lexer.specs.State.{State, upcoming}
use Rattle.qdimacs.specs.Step.{Is, refusal_for, Closes, Remains}

pub at_start : (all : Option (List Item)) (front : Front) → front ≡ nothing → Remains all front all
at_start None front e = tt
at_start (Some all) front e = ap (λ f. outcome_from f all) e

-- a word was taken
pub taken : (all now after : Option (List Item)) (front : Front) (t : Token) → Remains all front now → Gives t now after
    → first_of (word_rules front t.word t.line) ≡ None → Remains all (extended front t.word t.line) after
taken None now after front t r g n = tt
taken (Some all) None after front t r g n = absurd r
taken (Some all) (Some is) after front t r g n =
    subst (λ x. Remains (Some all) (extended front t.word t.line) x) (sym g.2)
    (ap (λ v. decided v (outcome_from (extended front t.word t.line) g.0)) (sym n)
    ∙ ap (outcome_from front) (sym g.1)
    ∙ r)

-- the first item decides
decides_first : (text : List ℕ) (front : Front) (is : List Item) (item : Item) (rest : List Item) (o : Outcome)
    → outcome_from front is ≡ outcome_of text → is ≡ item ∷ rest → verdict front item ≡ Some o → Reads text o
decides_first text front is item rest o r e v =
    computed_reads text o
    (sym r ∙ ap (outcome_from front) e ∙ ap (λ x. decided x (outcome_from (after_item front item) rest)) v)

pub decides : (left : Option (List ℕ)) (now : Option (List Item)) (front : Front) (item : Item) (o : Outcome)
    → Remains (option_map (items Dimacs) left) front now → Begins now item → verdict front item ≡ Some o
    → IfSome left (λ text. Reads text o)
decides None now front item o r b v = tt
decides (Some text) None front item o r b v = absurd r
decides (Some text) (Some is) front item o r b v = decides_first text front is item b.0 o r b.1 v

pub no_answer : (left : Option (List ℕ)) → IfSome left (λ text. Unit {0})
no_answer None = tt
no_answer (Some text) = tt

-- a rule refused the first item
pub refused_by : (left : Option (List ℕ)) (now : Option (List Item)) (front : Front) (item : Item) (e : ReadRefusal)
    → Remains (option_map (items Dimacs) left) front now → Begins now item → Is e (verdict front item)
    → IfSome left (λ text. IsAnswer (Err e) text)
refused_by left now front item (Refused number line) r b v = decides left now front item (refused number line) r b v
refused_by left now front item (Limit quantity line) r b v = decides left now front item (limit quantity line) r b v
refused_by left now front item ReadFault r b v = absurd v
refused_by left now front item NoMemory r b v = no_answer left

pub given_begins : (now after : Option (List Item)) (t : Token) → Gives t now after → Begins now (word t)
given_begins None after t g = tt
given_begins (Some is) after t g = (g.0, g.1)

pub word_refused : (left : Option (List ℕ)) (now after : Option (List Item)) (front : Front) (t : Token)
    (e : ReadRefusal) → Remains (option_map (items Dimacs) left) front now → Gives t now after
    → Is e (first_of (word_rules front t.word t.line)) → IfSome left (λ text. IsAnswer (Err e) text)
word_refused left now after front t e r g v = refused_by left now front (word t) e r (given_begins now after t g) v

-- the lexer refused
pub lexer_refused : (left : Option (List ℕ)) (now : Option (List Item)) (front : Front) (e : LexRefusal)
    → Remains (option_map (items Dimacs) left) front now → Refuses e now
    → IfSome left (λ text. IsAnswer (Err (refusal_for e)) text)
lexer_refused left now front LexFault r b = no_answer left
lexer_refused left now front (TooLong line) r b = decides left now front (too_long line) _ r b refl
lexer_refused left now front (BadByte line) r b = decides left now front (bad_byte line) _ r b refl
lexer_refused left now front (NumberRange line) r b = decides left now front (number_range line) _ r b refl

pub ends_begins : (now after : Option (List Item)) (line : ℕ) → Ends line now after → Begins now (the_end line)
ends_begins None after line e = tt
ends_begins (Some is) after line e = ([], e.0)

-- the end came
pub closed : (left : Option (List ℕ)) (now after : Option (List Item)) (front : Front) (line : ℕ)
    (result : Result Formula ReadRefusal) → Remains (option_map (items Dimacs) left) front now → Ends line now after
    → Closes result (first_of (end_rules front line)) → IfSome left (λ text. IsAnswer result text)
closed left now after front line (Ok f) r e v = decides left now front (the_end line) (parsed f) r
    (ends_begins now after line e) v
closed left now after front line (Err x) r e v = refused_by left now front (the_end line) x r
    (ends_begins now after line e) v

-- a new lexer is in front of the whole text
pub in_front : (left : Option (List ℕ)) → option_map (items Dimacs) (prepend_known [] left) ≡ option_map (items Dimacs)
    left
in_front None = refl
in_front (Some text) = refl

-- nothing is left, where the desk told
pub nothing_left : (old l : Option (List ℕ)) (now : Option (List Item)) (front : Front) (s : State) (line : ℕ)
    → Remains (option_map (items Dimacs) old) front now → Ends line now (upcoming s l) → IsAtEnd l
    → IfSome old (λ _. l ≡ Some [])
nothing_left None l now front s line r e a = tt
nothing_left (Some text) l None front s line r e a = absurd r
nothing_left (Some text) None (Some is) front s line r e a = cc
nothing_left (Some text) (Some rest) (Some is) front s line r e a = ap Some a

pub on_ok : {A E : Type 0} (result : Result A E) (P : Type 0) → P → OnOk result P
on_ok (Ok x) P h = h
on_ok (Err e) P h = tt
