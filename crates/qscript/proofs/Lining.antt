-- The reading of the items to come, from word to word.
use Rattle.std.proofs.Common.{◌≡◌, ℕ, true, false, Option, None, Some, List, [], ◌∷◌, Ok, Err, refl, sym, ap, subst, ◌∙◌, arith}
use Rattle.std.specs.Prelude.{IfSome, IsErrOf, is_some, is_none, ◌==◌}
use Rattle.std.proofs.lemmas.Bool.{ne_eqb}
use Rattle.lexer.specs.declared.token.Token.{Token}
use Rattle.lexer.specs.declared.token.LexRefusal.{LexRefusal}
use Rattle.lexer.specs.declared.token.LexRefusal.TheVariants.{ReadFault as Unreadable, TooLong, BadByte, NumberRange}
use Rattle.lexer.specs.Words.{Item, word, bad_byte, number_range, too_long, the_end}
use Rattle.lexer.specs.State.{State as LexerState, Stays, upcoming}
use Rattle.lexer.specs.Answers.{Answers, AnswersOnLine, AreBehind, IsReadFault, Ends, Gives, IsBehind, IsOfLine, Refuses}
use Rattle.std.proofs.lemmas.Bool.Decides.{nat_tests}
use Rattle.reading.specs.declared.refusal.Quantity.TheVariants.{Bytes}
use Rattle.reading.specs.declared.refusal.ReadRefusal.{ReadRefusal}
use Rattle.reading.specs.declared.refusal.ReadRefusal.TheVariants.{Refused, Limit, ReadFault, NoMemory}
use Rattle.versions.specs.declared.version.Version.{Version}
use Rattle.qscript.specs.declared.draft.Draft.{Draft}
use Rattle.qscript.specs.declared.draft.Line.{Line}
use Rattle.qscript.specs.Reads.{is_on, refused}
use Rattle.qscript.specs.Run.{Reading, after, begun, between, closed, ends, go_on, go_on_if, line_after, line_begun, misfit_first, misfit_of, named_behind, reading_from, whole, with_line, within}
use Rattle.qscript.specs.State.{EndsReading, IsOver, Leaves, reading_at, refusal_for}

-- what is known of a reading that stays
pub ends_on : (x y : Option Reading) (e : ReadRefusal) → Stays x y → EndsReading e y → EndsReading e x
ends_on None y (Refused number line) stays is = tt
ends_on None y (Limit quantity line) stays is = (is.0, tt)
ends_on None y ReadFault stays is = tt
ends_on None y NoMemory stays is = tt
ends_on (Some r) y e stays is = subst (EndsReading e) stays is

pub leaves_on : (l : Line) (x y z : Option Reading) → Stays x y → Leaves l y z → Leaves l x z
leaves_on l None y z stays is = tt
leaves_on l (Some r) y z stays is = subst (λ y. Leaves l y z) stays is

pub stays_on : {A : Type 0} (x y z : Option A) → Stays x y → Stays y z → Stays x z
stays_on None y z first then = tt
stays_on (Some a) y z first then = subst (λ y. Stays y z) first then

-- the line has ended
off : (n : ℕ) (item : Item) → IsBehind n item → is_on n item ≡ false
off n (word t) behind = ne_eqb t.line n (λ e. omega (arith, e, behind))
off n (bad_byte line) behind = ne_eqb line n (λ e. omega (arith, e, behind))
off n (number_range line) behind = ne_eqb line n (λ e. omega (arith, e, behind))
off n (too_long line) behind = ne_eqb line n (λ e. omega (arith, e, behind))
off n (the_end line) behind = refl

abbrev pub closing : Option Version → ℕ → Draft → List Item → Option Line → Reading
closing named n d items (Some l) = with_line l (reading_from items (between (named_behind named l)))
closing named n d items None = ends (refused (misfit_of d) n)

left_off : (named : Option Version) (n : ℕ) (d : Draft) (items : List Item) (o : Option Line) → whole d ≡ o
    → AreBehind n (Some items) → reading_from items (within named n d) ≡ closing named n d items o
left_off named n d [] o is behind = absurd behind
left_off named n d (item ∷ items) (Some l) is behind =
    ap (λ t. go_on_if t named n d item (reading_from items)) (off n item behind)
    ∙ ap (λ o. closed named n d o item (reading_from items)) is
left_off named n d (item ∷ items) None is behind =
    ap (λ t. go_on_if t named n d item (reading_from items)) (off n item behind)
    ∙ ap (λ o. closed named n d o item (reading_from items)) is

pub line_left : (named : Option Version) (n : ℕ) (d : Draft) (l : Line) (before after : Option (List Item))
    → whole d ≡ Some l → Stays before after → AreBehind n after
    → Leaves l (reading_at (within named n d) before) (reading_at (between (named_behind named l)) after)
line_left named n d l None after is stays behind = tt
line_left named n d l (Some items) after is stays behind =
    let rest : Reading = reading_from items (between (named_behind named l)) in (
      rest,
      left_off named n d items (Some l) is (subst (AreBehind n) stays behind),
      ap (reading_at (between (named_behind named l))) stays,
    )

pub line_short : (named : Option Version) (n : ℕ) (d : Draft) (before after : Option (List Item))
    → whole d ≡ None → Stays before after → AreBehind n after
    → EndsReading (Refused (misfit_of d) n) (reading_at (within named n d) before)
line_short named n d None after is stays behind = tt
line_short named n d (Some items) after is stays behind =
    left_off named n d items None is (subst (AreBehind n) stays behind)

-- a word on the line
on_its_line : (t : Token) (n : ℕ) → t.line ≡ n → (t.line == n) ≡ true
on_its_line t n is = grind (arith, nat_tests, is)

word_on : (named : Option Version) (n : ℕ) (d : Draft) (t : Token) (rest : List Item) (o : Option Draft)
    → t.line ≡ n → after d t.word ≡ o
    → reading_from (word t ∷ rest) (within named n d) ≡ line_after named n d o (reading_from rest)
word_on named n d t rest o is next =
    ap (λ b. go_on_if b named n d (word t) (reading_from rest)) (on_its_line t n is)
    ∙ ap (λ o. line_after named n d o (reading_from rest)) next

pub word_taken : (named : Option Version) (n : ℕ) (d more : Draft) (t : Token) (x y : Option (List Item))
    → after d t.word ≡ Some more → t.line ≡ n → Gives t x y
    → Stays (reading_at (within named n d) x) (reading_at (within named n more) y)
word_taken named n d more t None y next is gives = tt
word_taken named n d more t (Some items) y next is gives =
    ap (reading_at (within named n more)) gives.2
    ∙ ap Some (sym (word_on named n d t gives.0 (Some more) is next))
    ∙ ap (λ is. Some (reading_from is (within named n d))) (sym gives.1)

pub word_refused : (named : Option Version) (n : ℕ) (d : Draft) (t : Token) (x y : Option (List Item))
    → after d t.word ≡ None → t.line ≡ n → Gives t x y
    → EndsReading (Refused (misfit_of d) n) (reading_at (within named n d) x)
word_refused named n d t None y next is gives = tt
word_refused named n d t (Some items) y next is gives =
    ap (λ is. reading_from is (within named n d)) gives.1 ∙ word_on named n d t gives.0 None is next

-- the first word of a line
pub line_opened : (named : Option Version) (d : Draft) (t : Token) (x y : Option (List Item))
    → begun named t.word ≡ Some d → Gives t x y
    → Stays (reading_at (between named) x) (reading_at (within named t.line d) y)
line_opened named d t None y is gives = tt
line_opened named d t (Some items) y is gives =
    ap (reading_at (within named t.line d)) gives.2
    ∙ ap (λ o. Some (line_begun named t.line o (reading_from gives.0))) (sym is)
    ∙ ap (λ is. Some (reading_from is (between named))) (sym gives.1)

pub first_refused : (named : Option Version) (t : Token) (x y : Option (List Item))
    → begun named t.word ≡ None → Gives t x y
    → EndsReading (Refused (misfit_first named) t.line) (reading_at (between named) x)
first_refused named t None y is gives = tt
first_refused named t (Some items) y is gives =
    ap (λ is. reading_from is (between named)) gives.1
    ∙ ap (λ o. line_begun named t.line o (reading_from gives.0)) is

-- the end of the text
pub text_over : (named : Option Version) (line : ℕ) (x y : Option (List Item)) → is_some named ≡ true → Ends line x y
    → IsOver (reading_at (between named) x) (reading_at (between named) y)
text_over named line None y is ended = tt
text_over None line (Some items) y is ended = cc
text_over (Some version) line (Some items) y is ended = (
  ap (λ is. reading_from is (between (Some version))) ended.0,
  ap (reading_at (between (Some version))) ended.1,
)

pub headless : (named : Option Version) (line : ℕ) (x y : Option (List Item)) → is_none named ≡ true → Ends line x y
    → EndsReading (Refused 30 line) (reading_at (between named) x)
headless named line None y is ended = tt
headless None line (Some items) y is ended = ap (λ is. reading_from is (between None)) ended.0
headless (Some version) line (Some items) y is ended = cc

-- what isn't read as a word
pub first_fault : (e : LexRefusal) (named : Option Version) (x : Option (List Item)) → Refuses e x
    → EndsReading (refusal_for e) (reading_at (between named) x)
first_fault Unreadable named x is = tt
first_fault (TooLong line) named None is = (refl, tt)
first_fault (TooLong line) named (Some items) is = (refl, ap (λ is. reading_from is (between named)) is.1)
first_fault (BadByte line) named None is = tt
first_fault (BadByte line) named (Some items) is = ap (λ is. reading_from is (between named)) is.1
first_fault (NumberRange line) named None is = tt
first_fault (NumberRange line) named (Some items) is = ap (λ is. reading_from is (between named)) is.1

fault_on : (named : Option Version) (n : ℕ) (d : Draft) (item : Item) (items rest : List Item) → items ≡ item ∷ rest
    → is_on n item ≡ true → reading_from items (within named n d) ≡ go_on named n d item (reading_from rest)
fault_on named n d item items rest first is =
    ap (λ is. reading_from is (within named n d)) first
    ∙ ap (λ t. go_on_if t named n d item (reading_from rest)) is

same_line : (line n : ℕ) → line ≡ n → (line == n) ≡ true
same_line line n is = grind (arith, nat_tests, is)

pub line_fault : (e : LexRefusal) (named : Option Version) (n : ℕ) (d : Draft) (x : Option (List Item)) → Refuses e x
    → IsOfLine n e → EndsReading (refusal_for e) (reading_at (within named n d) x)
line_fault Unreadable named n d x is of = tt
line_fault (TooLong line) named n d None is of = (refl, tt)
line_fault (TooLong line) named n d (Some items) is of =
    (refl, fault_on named n d (too_long line) items is.0 is.1 (same_line line n of))
line_fault (BadByte line) named n d None is of = tt
line_fault (BadByte line) named n d (Some items) is of =
    fault_on named n d (bad_byte line) items is.0 is.1 (same_line line n of)
line_fault (NumberRange line) named n d None is of = tt
line_fault (NumberRange line) named n d (Some items) is of =
    fault_on named n d (number_range line) items is.0 is.1 (same_line line n of)

-- a desk that told what it has left goes on telling
module _ (s t : LexerState) (l m : Option (List ℕ)) where
  told : (items : List Item) → upcoming t m ≡ Some items → is_some m ≡ true
  told items is = by m is
    where
      by : (m : Option (List ℕ)) → upcoming t m ≡ Some items → is_some m ≡ true
      by None is = cc
      by (Some bytes) is = refl

  pub gives_telling : (tok : Token) → Gives tok (upcoming s l) (upcoming t m) → IfSome l (λ _. is_some m ≡ true)
  gives_telling tok gives = by l gives
    where
      by : (l : Option (List ℕ)) → Gives tok (upcoming s l) (upcoming t m) → IfSome l (λ _. is_some m ≡ true)
      by None gives = tt
      by (Some bytes) gives = told gives.0 gives.2

  pub ends_telling : (line : ℕ) → Ends line (upcoming s l) (upcoming t m) → IfSome l (λ _. is_some m ≡ true)
  ends_telling line ended = by l ended
    where
      by : (l : Option (List ℕ)) → Ends line (upcoming s l) (upcoming t m) → IfSome l (λ _. is_some m ≡ true)
      by None ended = tt
      by (Some bytes) ended = told _ ended.1

  pub stays_telling : Stays (upcoming s l) (upcoming t m) → IfSome l (λ _. is_some m ≡ true)
  stays_telling stays = by l stays
    where
      by : (l : Option (List ℕ)) → Stays (upcoming s l) (upcoming t m) → IfSome l (λ _. is_some m ≡ true)
      by None stays = tt
      by (Some bytes) stays = told _ stays

  pub answer_telling : (tok : Option Token) (line : ℕ) → Answers (Ok tok) (upcoming s l) (upcoming t m) line
      → IfSome l (λ _. is_some m ≡ true)
  answer_telling (Some tok) line answers = gives_telling tok answers
  answer_telling None line answers = ends_telling line answers

  pub line_telling : (tok : Option Token) (line : ℕ) → AnswersOnLine (Ok tok) (upcoming s l) (upcoming t m) line
      → IfSome l (λ _. is_some m ≡ true)
  line_telling (Some tok) line answers = gives_telling tok answers.0
  line_telling None line answers = stays_telling answers.0

-- of the refusals of a lexer only a fault of the desk is one here, and none is want of memory
pub unread : (e : LexRefusal) (r : ReadRefusal) → r ≡ refusal_for e → r ≡ ReadFault → IsReadFault e
unread Unreadable r for is = tt
unread (TooLong line) r for is = absurd (let same : Limit Bytes line ≡ ReadFault = sym for ∙ is in cc)
unread (BadByte line) r for is = absurd (let same : Refused 7 line ≡ ReadFault = sym for ∙ is in cc)
unread (NumberRange line) r for is = absurd (let same : Refused 8 line ≡ ReadFault = sym for ∙ is in cc)

pub no_want : (e : LexRefusal) (r : ReadRefusal) → r ≡ refusal_for e → r ≡ NoMemory → ⊥
no_want Unreadable r for is = let same : ReadFault ≡ NoMemory = sym for ∙ is in cc
no_want (TooLong line) r for is = let same : Limit Bytes line ≡ NoMemory = sym for ∙ is in cc
no_want (BadByte line) r for is = let same : Refused 7 line ≡ NoMemory = sym for ∙ is in cc
no_want (NumberRange line) r for is = let same : Refused 8 line ≡ NoMemory = sym for ∙ is in cc

pub err_is : {T : Type 0} (r e : ReadRefusal) → IsErrOf {T = T} (Err r) e → r ≡ e
err_is r e is = cc

pub on_line : (o : Option Token) (t : Token) (x y : Option (List Item)) (n : ℕ) → o ≡ Some t
    → AnswersOnLine (Ok o) x y n → Gives t x y × (t.line ≡ n)
on_line None t x y n is answers = cc
on_line (Some u) t x y n is answers = let same : u ≡ t = cc in
    subst (λ t. Gives t x y × (t.line ≡ n)) same answers
