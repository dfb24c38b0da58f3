-- From step to step, what is left gives the outcome that the whole gives.
use Rattle.std.proofs.Common.{◌≡◌, ℕ, Option, None, Some, Result, Ok, Err, List, [], ◌∷◌, refl, sym, ap, subst, ◌∙◌}
use Rattle.std.specs.Prelude.{option_map, IfSome}
use Rattle.lexer.specs.declared.token.Comments.TheVariants.{Hash}
use Rattle.lexer.specs.declared.token.Token.{Token}
use Rattle.lexer.specs.declared.token.LexRefusal.{LexRefusal}
use Rattle.lexer.specs.declared.token.LexRefusal.TheVariants.{ReadFault as LexFault, TooLong, BadByte, NumberRange}
use Rattle.lexer.specs.Words.{Item, word, bad_byte, number_range, too_long, the_end, items}
use Rattle.lexer.specs.Answers.{Begins, Gives, Ends, Refuses}
use Rattle.qcir.specs.declared.circuit.Circuit.{Circuit}
use Rattle.qcir_reader.specs.declared.refusal.QcirRefusal.{QcirRefusal}
use Rattle.qcir_reader.specs.declared.refusal.QcirRefusal.TheVariants.{Refused, Limit, ReadFault, NoMemory}
use Rattle.qcir_reader.specs.declared.sign.Stage.{Stage}
use Rattle.qcir_reader.specs.declared.sign.Stage.TheVariants.{Between}
use Rattle.qcir_reader.specs.Grammar.{sign_of}
use Rattle.qcir_reader.specs.Rules.{Outcome, parsed, refused, limit, Front, verdict, first_of, word_rules, end_rules}
use Rattle.qcir_reader.specs.Run.{nothing, outcome_from, outcome_of, decided, noted, moved, noted_item, moved_item}
use Rattle.qcir_reader.specs.Reads.{Reads}
use Rattle.qcir_reader.specs.Answers.{IsAnswer, Is, refusal_for, Closes, Remains}
use Rattle.qcir_reader.proofs.Outcomes.{computed_reads}
use Rattle.std.specs.Io.KnownBytes.{prepend_known, IsAtEnd}
use Rattle.lexer.specs.State.{State, upcoming}
use Rattle.qdimacs.proofs.Steps.{ends_begins, given_begins, no_answer}

pub at_start : (all : Option (List Item)) → Remains all Between nothing all
at_start None = tt
at_start (Some all) = refl

-- a word was taken
pub taken : (all now after : Option (List Item)) (stage : Stage) (front : Front) (t : Token)
    → Remains all stage front now → Gives t now after → first_of (word_rules stage front (sign_of t.word) t.line) ≡ None
    → Remains all (moved stage (sign_of t.word)) (noted stage front (sign_of t.word) t.line) after
taken None now after stage front t r g n = tt
taken (Some all) None after stage front t r g n = absurd r
taken (Some all) (Some is) after stage front t r g n =
    subst (λ x. Remains (Some all) (moved stage (sign_of t.word)) (noted stage front (sign_of t.word) t.line) x)
    (sym g.2)
    (ap (λ v. decided v (outcome_from (moved stage (sign_of t.word)) (noted stage front (sign_of t.word) t.line) g.0))
    (sym n)
    ∙ ap (outcome_from stage front) (sym g.1)
    ∙ r)

-- the first item decides
decides_first : (text : List ℕ) (stage : Stage) (front : Front) (is : List Item) (item : Item) (rest : List Item)
    (o : Outcome) → outcome_from stage front is ≡ outcome_of text → is ≡ item ∷ rest → verdict stage front item ≡ Some o
    → Reads text o
decides_first text stage front is item rest o r e v =
    computed_reads text o
    (sym r ∙ ap (outcome_from stage front) e
    ∙ ap (λ x. decided x (outcome_from (moved_item stage item) (noted_item stage front item) rest)) v)

pub decides : (left : Option (List ℕ)) (now : Option (List Item)) (stage : Stage) (front : Front) (item : Item)
    (o : Outcome) → Remains (option_map (items Hash) left) stage front now → Begins now item
    → verdict stage front item ≡ Some o → IfSome left (λ text. Reads text o)
decides None now stage front item o r b v = tt
decides (Some text) None stage front item o r b v = absurd r
decides (Some text) (Some is) stage front item o r b v = decides_first text stage front is item b.0 o r b.1 v

-- a rule refused the first item
pub refused_by : (left : Option (List ℕ)) (now : Option (List Item)) (stage : Stage) (front : Front) (item : Item)
    (e : QcirRefusal) → Remains (option_map (items Hash) left) stage front now → Begins now item
    → Is e (verdict stage front item) → IfSome left (λ text. IsAnswer (Err e) text)
refused_by left now stage front item (Refused number line) r b v = decides left now stage front item
    (refused number line) r b v
refused_by left now stage front item (Limit quantity line) r b v = decides left now stage front item
    (limit quantity line) r b v
refused_by left now stage front item ReadFault r b v = absurd v
refused_by left now stage front item NoMemory r b v = no_answer left

pub word_refused : (left : Option (List ℕ)) (now after : Option (List Item)) (stage : Stage) (front : Front) (t : Token)
    (e : QcirRefusal) → Remains (option_map (items Hash) left) stage front now → Gives t now after
    → Is e (first_of (word_rules stage front (sign_of t.word) t.line)) → IfSome left (λ text. IsAnswer (Err e) text)
word_refused left now after stage front t e r g v = refused_by left now stage front (word t) e r
    (given_begins now after t g) v

-- the lexer refused
pub lexer_refused : (left : Option (List ℕ)) (now : Option (List Item)) (stage : Stage) (front : Front) (e : LexRefusal)
    → Remains (option_map (items Hash) left) stage front now → Refuses e now
    → IfSome left (λ text. IsAnswer (Err (refusal_for e)) text)
lexer_refused left now stage front LexFault r b = no_answer left
lexer_refused left now stage front (TooLong line) r b = decides left now stage front (too_long line) _ r b refl
lexer_refused left now stage front (BadByte line) r b = decides left now stage front (bad_byte line) _ r b refl
lexer_refused left now stage front (NumberRange line) r b = decides left now stage front (number_range line) _ r b refl

-- the end came
pub closed : (left : Option (List ℕ)) (now after : Option (List Item)) (stage : Stage) (front : Front) (line : ℕ)
    (result : Result Circuit QcirRefusal) → Remains (option_map (items Hash) left) stage front now → Ends line now after
    → Closes result (first_of (end_rules stage front line)) → IfSome left (λ text. IsAnswer result text)
closed left now after stage front line (Ok f) r e v = decides left now stage front (the_end line) (parsed f) r
    (ends_begins now after line e) v
closed left now after stage front line (Err x) r e v = refused_by left now stage front (the_end line) x r
    (ends_begins now after line e) v

-- a new lexer is in front of the whole text
pub in_front : (left : Option (List ℕ)) → option_map (items Hash) (prepend_known [] left) ≡ option_map (items Hash) left
in_front None = refl
in_front (Some text) = refl

-- nothing is left, where the desk told
pub nothing_left : (old l : Option (List ℕ)) (now : Option (List Item)) (stage : Stage) (front : Front) (s : State)
    (line : ℕ) → Remains (option_map (items Hash) old) stage front now → Ends line now (upcoming s l) → IsAtEnd l
    → IfSome old (λ _. l ≡ Some [])
nothing_left None l now stage front s line r e a = tt
nothing_left (Some text) l None stage front s line r e a = absurd r
nothing_left (Some text) None (Some is) stage front s line r e a = cc
nothing_left (Some text) (Some rest) (Some is) stage front s line r e a = ap Some a

-- want of memory says nothing of the text
pub memory_says_nothing : (left : Option (List ℕ)) → IfSome left (λ text. IsAnswer (Err NoMemory) text)
memory_says_nothing left = no_answer left
