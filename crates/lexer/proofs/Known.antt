-- The items to come, where the desk tells, from call to call.
use Rattle.std.proofs.Common.{◌≡◌, ℕ, zero, suc, ◌+◌, ◌-◌, ◌<◌, Bool, true, false, Option, None, Some, List, [], ◌∷◌, ◌++◌, drop, slice_get, refl, sym, ap, subst, ◌∙◌, arith}
use Rattle.std.specs.Prelude.{option_map, map, ◌&&◌, if◌then◌else◌, ◌==◌, IfNone, IfSome, Err}
use Rattle.std.proofs.Math.Numerals.{sub-one}
use Rattle.std.proofs.lemmas.Bool.{ne_eqb, eqb-true}
use Rattle.std.specs.Io.KnownBytes.{Keeps, IsAtEnd}
use Rattle.lexer.specs.declared.token.Comments.{Comments}
use Rattle.lexer.specs.declared.token.Comments.TheVariants.{Dimacs, Script, Hash}
use Rattle.lexer.specs.declared.token.Token.{Token}
use Rattle.lexer.specs.declared.scan.Scan.{Scan}
use Rattle.lexer.specs.Words.{Item, word, byte, beyond, begins_comment, bad_byte, number_range, too_long, the_end, is_blank, is_line_end, ends_word, is_lone, opens_comment, items_from}
use Rattle.lexer.specs.State.{State, bytes_ahead, upcoming, past, Stays}
use Rattle.lexer.specs.Machine.{comment_items, word_items, word_end, cut_items, if_room, upcoming_in_word, upcoming_in_comment, upcoming_behind_word}
use Rattle.lexer.specs.Answers.{Begins, Gives, Ends, Refuses, IsScanned}
use Rattle.lexer.specs.Scan.{scan_after, no_scan, scanned}
use Rattle.lexer.specs.declared.token.LexRefusal.{LexRefusal}
use Rattle.lexer.specs.declared.token.LexRefusal.TheVariants.{ReadFault, TooLong, BadByte, NumberRange}
use Rattle.lexer.proofs.WordEnds.{no_blank, goes_on, mark_no_line_end, mark_ends}
use Rattle.lexer.proofs.InWord.{word_begins, mark_word, hash_begins}
use Rattle.lexer.proofs.Bytewise.{blank_step, blank_at_limit, end_at_limit, at_end, comment_step, comment_line_end, comment_at_limit, comment_at_end}

pub stays_on : {A : Type 0} (x y z : Option A) → Stays x y → Stays y z → Stays x z
stays_on None y z h k = tt
stays_on (Some x) None z h k = cc
stays_on (Some x) (Some y) z h k = k ∙ h

pub begins_on : (x y : Option (List Item)) (i : Item) → Stays x y → Begins y i → Begins x i
begins_on None y i h k = tt
begins_on (Some x) None i h k = cc
begins_on (Some x) (Some y) i h k = let same : y ≡ x = cc in (k.0, sym same ∙ k.1)

pub stays_same : {A : Type 0} (x : Option A) → Stays x x
stays_same None = tt
stays_same (Some x) = refl

-- bytes that stay give the same items
pub bytes_stay : (f g : List ℕ → List Item) (x y : Option (List ℕ)) → g ≡ f → Keeps x y → Stays (option_map f x)
    (option_map g y)
bytes_stay f g None y e h = tt
bytes_stay f g (Some x) None e h = absurd h
bytes_stay f g (Some x) (Some y) e h = ap Some (ap g h ∙ ap (λ f. f x) e)

pub peeked : (s t : State) (l m : Option (List ℕ)) → t ≡ record {
  comments = s.comments;
  fresh = s.fresh;
  line = s.line;
  room = s.room;
  ahead = t.ahead;
  failed = s.failed;
} → Keeps (bytes_ahead s l) (bytes_ahead t m)
    → Stays (upcoming s l) (upcoming t m)
peeked s t l m e h = bytes_stay (items_from s.comments s.fresh s.line s.room)
    (items_from t.comments t.fresh t.line t.room) (bytes_ahead s l) (bytes_ahead t m)
    (ap (λ (t : State). items_from t.comments t.fresh t.line t.room) e) h

-- a byte of white space
blank_taken : (c : Comments) (fresh : Bool) (n r : ℕ) (ahead rest : List ℕ) (b : ℕ) → slice_get ahead 0 ≡ Some b → 0 < r
    → is_blank b ≡ true
    → items_from c (if b == 10 then true else fresh) (if b == 10 then n + 1 else n) (r - 1) (drop 1 ahead ++ rest) ≡
    items_from c fresh n r (ahead ++ rest)
blank_taken c fresh n r [] rest b e lt h = cc
blank_taken c fresh n zero (a ∷ ahead) rest b e lt h = absurd (omega arith)
blank_taken c fresh n (suc r) (a ∷ ahead) rest b e lt h =
    let same : a ≡ b = cc in
    ap (λ x. items_from c (if b == 10 then true else fresh) (if b == 10 then n + 1 else n) x (ahead ++ rest))
    (sub-one (suc r))
    ∙ sym (blank_step (b == 10) c fresh n r b (ahead ++ rest) refl h)
    ∙ ap (λ x. items_from c fresh n (suc r) (x ∷ ahead ++ rest)) (sym same)

pub past_blank : (s : State) (b : ℕ) (l : Option (List ℕ)) → slice_get s.ahead 0 ≡ Some b → 0 < s.room
    → is_blank b ≡ true → Stays (upcoming s l) (upcoming (past b s) l)
past_blank s b None e lt h = tt
past_blank s b (Some rest) e lt h = ap Some (blank_taken s.comments s.fresh s.line s.room s.ahead rest b e lt h)

at_limit : (c : Comments) (fresh : Bool) (n : ℕ) (ahead rest : List ℕ) (b : ℕ) → slice_get ahead 0 ≡ Some b
    → is_blank b ≡ true → items_from c fresh n 0 (ahead ++ rest) ≡ too_long n ∷ []
at_limit c fresh n [] rest b e h = cc
at_limit c fresh n (a ∷ ahead) rest b e h = let same : a ≡ b = cc in
    ap (λ x. items_from c fresh n 0 (x ∷ ahead ++ rest)) same ∙ blank_at_limit c fresh n b (ahead ++ rest) h

pub blank_beyond : (s : State) (b : ℕ) (l : Option (List ℕ)) → slice_get s.ahead 0 ≡ Some b → s.room ≡ 0
    → is_blank b ≡ true → Begins (upcoming s l) (too_long s.line)
blank_beyond s b None e z h = tt
blank_beyond s b (Some rest) e z h = (
  [],
  ap (λ r. items_from s.comments s.fresh s.line r (s.ahead ++ rest)) z
      ∙ at_limit s.comments s.fresh s.line s.ahead rest b e h,
)

-- in a comment

taken_in_comment : (t : Bool) (c : Comments) (n r : ℕ) (ahead rest : List ℕ) (b : ℕ) → slice_get ahead 0 ≡ Some b
    → 0 < r → is_line_end b ≡ false
    → comment_items c n (r - 1) (drop 1 ahead ++ rest) ≡ comment_items c n r (ahead ++ rest)
taken_in_comment t c n r [] rest b e lt h = cc
taken_in_comment t c n zero (a ∷ ahead) rest b e lt h = absurd (omega arith)
taken_in_comment t c n (suc r) (a ∷ ahead) rest b e lt h =
    let same : a ≡ b = cc in
    ap (λ x. comment_items c n x (ahead ++ rest)) (sub-one (suc r))
    ∙ sym (comment_step c n r b (ahead ++ rest) h)
    ∙ ap (λ x. comment_items c n (suc r) (x ∷ ahead ++ rest)) (sym same)

comment_past : (s : State) (b : ℕ) (l : Option (List ℕ)) → slice_get s.ahead 0 ≡ Some b → 0 < s.room
    → is_line_end b ≡ false → Stays (upcoming_in_comment s l) (upcoming_in_comment (past b s) l)
comment_past s b None e lt h = tt
comment_past s b (Some rest) e lt h =
    ap Some (ap (λ t. comment_items s.comments (if t then s.line + 1 else s.line) (s.room - 1) (drop 1 s.ahead ++ rest))
    h
    ∙ taken_in_comment false s.comments s.line s.room s.ahead rest b e lt h)

pub past_in_comment : (s : State) (b : ℕ) (l : Option (List ℕ)) → slice_get s.ahead 0 ≡ Some b → 0 < s.room
    → (b ≡ 10 → ⊥) → Stays (upcoming_in_comment s l) (upcoming_in_comment (past b s) l)
past_in_comment s b l e lt h = comment_past s b l e lt (ne_eqb b 10 h)

line_taken : (c : Comments) (n r : ℕ) (ahead rest : List ℕ) (b : ℕ) → slice_get ahead 0 ≡ Some b → 0 < r → b ≡ 10
    → items_from c true (n + 1) (r - 1) (drop 1 ahead ++ rest) ≡ comment_items c n r (ahead ++ rest)
line_taken c n r [] rest b e lt h = cc
line_taken c n zero (a ∷ ahead) rest b e lt h = absurd (omega arith)
line_taken c n (suc r) (a ∷ ahead) rest b e lt h =
    let same : a ≡ 10 = cc in
    ap (λ x. items_from c true (n + 1) x (ahead ++ rest)) (sub-one (suc r))
    ∙ sym (comment_line_end c n r 10 (ahead ++ rest) refl)
    ∙ ap (λ x. comment_items c n (suc r) (x ∷ ahead ++ rest)) (sym same)

pub past_line : (s : State) (b : ℕ) (l : Option (List ℕ)) → slice_get s.ahead 0 ≡ Some b → 0 < s.room → b ≡ 10
    → Stays (upcoming_in_comment s l) (upcoming (past b s) l)
past_line s b None e lt h = tt
past_line s b (Some rest) e lt h =
    ap Some (ap (λ x. items_from s.comments (if x == 10 then true else s.fresh) (if x == 10 then s.line + 1 else s.line)
    (s.room - 1) (drop 1 s.ahead ++ rest)) h
    ∙ line_taken s.comments s.line s.room s.ahead rest b e lt h)

cut_in_comment : (c : Comments) (n : ℕ) (ahead rest : List ℕ) (b : ℕ) → slice_get ahead 0 ≡ Some b → comment_items c n 0
    (ahead ++ rest) ≡ too_long n ∷ []
cut_in_comment c n [] rest b e = cc
cut_in_comment c n (a ∷ ahead) rest b e = comment_at_limit c n a (ahead ++ rest)

pub comment_beyond : (s : State) (b : ℕ) (l : Option (List ℕ)) → slice_get s.ahead 0 ≡ Some b → s.room ≡ 0
    → Begins (upcoming_in_comment s l) (too_long s.line)
comment_beyond s b None e z = tt
comment_beyond s b (Some rest) e z = (
  [],
  ap (λ r. comment_items s.comments s.line r (s.ahead ++ rest)) z
      ∙ cut_in_comment s.comments s.line s.ahead rest b e,
)

ended_in_comment : (c : Comments) (fresh : Bool) (n r : ℕ) (ahead rest : List ℕ) → slice_get ahead 0 ≡ None → rest ≡ []
    → items_from c fresh n r (ahead ++ rest) ≡ comment_items c n r (ahead ++ rest)
ended_in_comment c fresh n r (a ∷ ahead) rest e h = cc
ended_in_comment c fresh n r [] rest e h = ap (items_from c fresh n r) h ∙ at_end c fresh n r
    ∙ sym (comment_at_end c n r) ∙ ap (comment_items c n r) (sym h)

pub comment_ended : (s : State) (l : Option (List ℕ)) → slice_get s.ahead 0 ≡ None → IsAtEnd l
    → Stays (upcoming_in_comment s l) (upcoming s l)
comment_ended s None e h = tt
comment_ended s (Some rest) e h = ap Some (ended_in_comment s.comments s.fresh s.line s.room s.ahead rest e h)

pub peeked_in_comment : (s t : State) (l m : Option (List ℕ))
    → t ≡ record {
      comments = s.comments;
      fresh = s.fresh;
      line = s.line;
      room = s.room;
      ahead = t.ahead;
      failed =
          s.failed;
    } → Keeps (bytes_ahead s l) (bytes_ahead t m) → Stays (upcoming_in_comment s l) (upcoming_in_comment t m)
peeked_in_comment s t l m e h = bytes_stay (comment_items s.comments s.line s.room)
    (comment_items t.comments t.line t.room) (bytes_ahead s l) (bytes_ahead t m)
    (ap (λ (t : State). comment_items t.comments t.line t.room) e) h

-- a word that goes on beyond the limit
pub cut_is : (c : Comments) (fresh : Bool) (n : ℕ) (s : Scan) (t u : Bool)
    → (fresh && begins_comment c (map byte s.text ++ beyond ∷ [])) ≡ t → s.is_bad ≡ u
    → cut_items c fresh n s ≡ (if t then too_long n ∷ [] else (if u then bad_byte n else too_long n) ∷ too_long n ∷ [])
cut_is c fresh n s t u e h =
    ap (λ t. if t then too_long n ∷ [] else (if s.is_bad then bad_byte n else too_long n) ∷ too_long n ∷ []) e
    ∙ ap (λ u. if t then too_long n ∷ [] else (if u then bad_byte n else too_long n) ∷ too_long n ∷ []) h

pub when_none : {A : Type 0} (o : Option A) (P : Type 0) → o ≡ None → IfNone o P → P
when_none None P e h = h
when_none (Some x) P e h = cc

-- in a word

word_taken : (c : Comments) (fresh : Bool) (n r : ℕ) (s : Scan) (ahead rest : List ℕ) (b : ℕ)
    → slice_get ahead 0 ≡ Some b → 0 < r → ends_word c b ≡ false
    → word_items c fresh n (r - 1) (scan_after s b) (drop 1 ahead ++ rest) ≡ word_items c fresh n r s (ahead ++ rest)
word_taken c fresh n r s [] rest b e lt h = cc
word_taken c fresh n zero s (a ∷ ahead) rest b e lt h = absurd (omega arith)
word_taken c fresh n (suc r) s (a ∷ ahead) rest b e lt h =
    let same : a ≡ b = cc in
    ap (λ t. if t then word_end c fresh n (suc r) s (b ∷ ahead ++ rest) else word_items c fresh n (suc r - 1)
    (scan_after s b) (ahead ++ rest)) (sym h)
    ∙ ap (λ x. word_items c fresh n (suc r) s (x ∷ ahead ++ rest)) (sym same)

not_line_end : (c : Comments) (b : ℕ) → ends_word c b ≡ false → (b == 10) ≡ false
not_line_end c b h = ne_eqb b 10 (λ e. let blank : is_blank b ≡ true = no_blank b e in let other : is_blank b ≡ false =
    goes_on c b h in cc)

pub past_in_word : (s : State) (scan : Scan) (b : ℕ) (l : Option (List ℕ)) → slice_get s.ahead 0 ≡ Some b → 0 < s.room
    → ends_word s.comments b ≡ false → Stays (upcoming_in_word s scan l)
    (upcoming_in_word (past b s) (scan_after scan b) l)
past_in_word s scan b None e lt h = tt
past_in_word s scan b (Some rest) e lt h =
    ap Some (ap (λ t. word_items s.comments (if t then true else s.fresh) (if t then s.line + 1 else s.line)
    (s.room - 1) (scan_after scan b) (drop 1 s.ahead ++ rest)) (not_line_end s.comments b h)
    ∙ word_taken s.comments s.fresh s.line s.room scan s.ahead rest b e lt h)

pub past_whole : (s : State) (b : ℕ) → ends_word s.comments b ≡ false → (past b s).fresh ≡ s.fresh
past_whole s b h = ap (λ t. if t then true else s.fresh) (not_line_end s.comments b h)

pub past_line_number : (s : State) (b : ℕ) → ends_word s.comments b ≡ false → (past b s).line ≡ s.line
past_line_number s b h = ap (λ t. if t then s.line + 1 else s.line) (not_line_end s.comments b h)

cut_word : (c : Comments) (fresh : Bool) (n : ℕ) (s : Scan) (ahead rest : List ℕ) (b : ℕ) → slice_get ahead 0 ≡ Some b
    → ends_word c b ≡ false → word_items c fresh n 0 s (ahead ++ rest) ≡ cut_items c fresh n s
cut_word c fresh n s [] rest b e h = cc
cut_word c fresh n s (a ∷ ahead) rest b e h =
    let same : a ≡ b = cc in
    ap (λ x. word_items c fresh n 0 s (x ∷ ahead ++ rest)) same
    ∙ ap (λ t. if t then word_end c fresh n 0 s (b ∷ ahead ++ rest) else cut_items c fresh n s) h

refuses_at : (e : LexRefusal) (x y : List Item) → x ≡ y → Refuses e (Some y) → Refuses e (Some x)
refuses_at e x y h r = subst (λ z. Refuses e (Some z)) (sym h) r

pub word_beyond : (s : State) (scan : Scan) (b : ℕ) (l : Option (List ℕ)) (e : LexRefusal)
    → slice_get s.ahead 0 ≡ Some b → s.room ≡ 0 → ends_word s.comments b ≡ false
    → Refuses e (Some (cut_items s.comments s.fresh s.line scan)) → Refuses e (upcoming_in_word s scan l)
word_beyond s scan b None ReadFault f z h r = tt
word_beyond s scan b None (TooLong line) f z h r = tt
word_beyond s scan b None (BadByte line) f z h r = tt
word_beyond s scan b None (NumberRange line) f z h r = tt
word_beyond s scan b (Some rest) e f z h r = refuses_at e
    (word_items s.comments s.fresh s.line s.room scan (s.ahead ++ rest)) (cut_items s.comments s.fresh s.line scan)
    (ap (λ r. word_items s.comments s.fresh s.line r scan (s.ahead ++ rest)) z ∙ cut_word s.comments s.fresh s.line scan
    s.ahead rest b f h) r

pub refuses_on : (x y : Option (List Item)) (e : LexRefusal) → Stays x y → Refuses e y → Refuses e x
refuses_on x y ReadFault h r = tt
refuses_on x y (TooLong line) h r = begins_on x y (too_long line) h r
refuses_on x y (BadByte line) h r = begins_on x y (bad_byte line) h r
refuses_on x y (NumberRange line) h r = begins_on x y (number_range line) h r

word_ended : (c : Comments) (fresh : Bool) (n r : ℕ) (s : Scan) (ahead rest : List ℕ) → slice_get ahead 0 ≡ None
    → rest ≡ [] → word_end c fresh n r s (ahead ++ rest) ≡ word_items c fresh n r s (ahead ++ rest)
word_ended c fresh n r s (a ∷ ahead) rest e h = cc
word_ended c fresh n r s [] rest e h = ap (word_end c fresh n r s) h ∙ ap (word_items c fresh n r s) (sym h)

pub word_at_end : (s : State) (scan : Scan) (l : Option (List ℕ)) → slice_get s.ahead 0 ≡ None → IsAtEnd l
    → Stays (upcoming_in_word s scan l) (upcoming_behind_word s scan l)
word_at_end s scan None e h = tt
word_at_end s scan (Some rest) e h = ap Some (word_ended s.comments s.fresh s.line s.room scan s.ahead rest e h)

word_parted : (c : Comments) (fresh : Bool) (n r : ℕ) (s : Scan) (ahead rest : List ℕ) (b : ℕ)
    → slice_get ahead 0 ≡ Some b → ends_word c b ≡ true → word_end c fresh n r s (ahead ++ rest) ≡ word_items c fresh n
    r s (ahead ++ rest)
word_parted c fresh n r s [] rest b e h = cc
word_parted c fresh n r s (a ∷ ahead) rest b e h =
    let blank : ends_word c a ≡ true = (let same : b ≡ a = cc in subst (λ x. ends_word c x ≡ true) same h) in
    ap (λ t. if t then word_end c fresh n r s (a ∷ ahead ++ rest) else if_room r (cut_items c fresh n s)
    (word_items c fresh n (r - 1) (scan_after s a) (ahead ++ rest))) (sym blank)

pub word_at_blank : (s : State) (scan : Scan) (b : ℕ) (l : Option (List ℕ)) → slice_get s.ahead 0 ≡ Some b
    → ends_word s.comments b ≡ true → Stays (upcoming_in_word s scan l) (upcoming_behind_word s scan l)
word_at_blank s scan b None e h = tt
word_at_blank s scan b (Some rest) e h = ap Some (word_parted s.comments s.fresh s.line s.room scan s.ahead rest b e h)

pub peeked_in_word : (s t : State) (scan : Scan) (l m : Option (List ℕ))
    → t ≡ record {
      comments = s.comments;
      fresh = s.fresh;
      line = s.line;
      room = s.room;
      ahead = t.ahead;
      failed =
          s.failed;
    } → Keeps (bytes_ahead s l) (bytes_ahead t m) → Stays (upcoming_in_word s scan l)
    (upcoming_in_word t scan m)
peeked_in_word s t scan l m e h = bytes_stay (word_items s.comments s.fresh s.line s.room scan)
    (word_items t.comments t.fresh t.line t.room scan) (bytes_ahead s l) (bytes_ahead t m)
    (ap (λ (t : State). word_items t.comments t.fresh t.line t.room scan) e) h

-- in front of a word, and behind it

word_in_front : (c : Comments) (fresh : Bool) (n r : ℕ) (ahead rest : List ℕ) (b : ℕ) → slice_get ahead 0 ≡ Some b
    → ends_word c b ≡ false → word_items c fresh n r no_scan (ahead ++ rest) ≡ items_from c fresh n r (ahead ++ rest)
word_in_front c fresh n r [] rest b e h = cc
word_in_front c fresh n r (a ∷ ahead) rest b e h =
    let other : ends_word c a ≡ false = (let same : b ≡ a = cc in subst (λ x. ends_word c x ≡ false) same h) in
    sym (word_begins c fresh n r a (ahead ++ rest) other)

pub before_word : (s : State) (b : ℕ) (l : Option (List ℕ)) → slice_get s.ahead 0 ≡ Some b
    → ends_word s.comments b ≡ false → Stays (upcoming s l) (upcoming_in_word s no_scan l)
before_word s b None e h = tt
before_word s b (Some rest) e h = ap Some (word_in_front s.comments s.fresh s.line s.room s.ahead rest b e h)

pub comment_behind : (s : State) (scan : Scan) (l : Option (List ℕ))
    → (s.fresh && begins_comment s.comments (map byte scan.text)) ≡ true → Stays (upcoming_behind_word s scan l)
    (upcoming_in_comment s l)
comment_behind s scan None e = tt
comment_behind s scan (Some rest) e =
    ap Some (ap (λ t. if t then comment_items s.comments s.line s.room (s.ahead ++ rest) else scanned s.line
    scan ∷ items_from s.comments false s.line s.room (s.ahead ++ rest)) (sym e))

-- the items behind a word that is no comment
abbrev pub worded : State → State
worded s = record {
  comments = s.comments;
  fresh = false;
  line = s.line;
  room = s.room;
  ahead = s.ahead;
  failed =
      s.failed;
}

pub item_behind : (x : Option (List Item)) (s : State) (scan : Scan) (l : Option (List ℕ)) (t : Token)
    → (s.fresh && begins_comment s.comments (map byte scan.text)) ≡ false → scanned s.line scan ≡ word t
    → Stays x (upcoming_behind_word s scan l) → Gives t x (upcoming (worded s) l)
item_behind None s scan l t e i h = tt
item_behind (Some items) s scan None t e i h = cc
item_behind (Some items) s scan (Some rest) t e i h =
    let behind : word_end s.comments s.fresh s.line s.room scan (s.ahead ++ rest) ≡ items = cc in (
      items_from s.comments false s.line s.room (s.ahead ++ rest),
      sym behind ∙ ap (λ t. if t then comment_items s.comments s.line s.room (s.ahead ++ rest) else scanned s.line
          scan ∷ items_from s.comments false s.line s.room (s.ahead ++ rest)) e
          ∙ ap (λ i. i ∷ items_from s.comments false s.line s.room (s.ahead ++ rest)) i,
      refl,
    )

refused_first : (items : List Item) (i : Item) (rest : List Item) → items ≡ i ∷ rest → (e : LexRefusal)
    → IsScanned (Err e) i → Refuses e (Some items)
refused_first items i rest h ReadFault s = absurd s
refused_first items i rest h (TooLong line) s = (rest, h ∙ ap (λ i. i ∷ rest) s)
refused_first items i rest h (BadByte line) s = (rest, h ∙ ap (λ i. i ∷ rest) s)
refused_first items i rest h (NumberRange line) s = (rest, h ∙ ap (λ i. i ∷ rest) s)

refuses_none : (e : LexRefusal) → Refuses e None
refuses_none ReadFault = tt
refuses_none (TooLong line) = tt
refuses_none (BadByte line) = tt
refuses_none (NumberRange line) = tt

pub refused_behind : (x : Option (List Item)) (s : State) (scan : Scan) (l : Option (List ℕ)) (e : LexRefusal)
    → (s.fresh && begins_comment s.comments (map byte scan.text)) ≡ false → IsScanned (Err e) (scanned s.line scan)
    → Stays x (upcoming_behind_word s scan l) → Refuses e x
refused_behind None s scan l e f i h = refuses_none e
refused_behind (Some items) s scan None e f i h = cc
refused_behind (Some items) s scan (Some rest) e f i h =
    let behind : word_end s.comments s.fresh s.line s.room scan (s.ahead ++ rest) ≡ items = cc in
    refused_first items (scanned s.line scan) (items_from s.comments false s.line s.room (s.ahead ++ rest))
    (sym behind ∙ ap (λ t. if t then comment_items s.comments s.line s.room (s.ahead ++ rest) else scanned s.line
    scan ∷ items_from s.comments false s.line s.room (s.ahead ++ rest)) f) e i

pub end_left : (c : Comments) (fresh : Bool) (n r : ℕ) (ahead rest : List ℕ) → slice_get ahead 0 ≡ None → rest ≡ []
    → items_from c fresh n r (ahead ++ rest) ≡ the_end n ∷ []
end_left c fresh n r (a ∷ ahead) rest e h = cc
end_left c fresh n r [] rest e h = ap (items_from c fresh n r) h ∙ at_end c fresh n r

pub ends_here : (x : Option (List Item)) (s : State) (l : Option (List ℕ)) → slice_get s.ahead 0 ≡ None → IsAtEnd l
    → Stays x (upcoming s l) → Ends s.line x (upcoming s l)
ends_here None s l e f h = tt
ends_here (Some items) s None e f h = cc
ends_here (Some items) s (Some rest) e f h =
    let last : items_from s.comments s.fresh s.line s.room (s.ahead ++ rest) ≡ the_end s.line ∷ [] =
    end_left s.comments s.fresh s.line s.room s.ahead rest e f in
    let same : items_from s.comments s.fresh s.line s.room (s.ahead ++ rest) ≡ items = cc in
    (sym same ∙ last, ap Some same)

pub when_some : (o : Option ℕ) (P : ℕ → Type 0) (x : ℕ) → o ≡ Some x → IfSome o P → P x
when_some None P x e h = cc
when_some (Some y) P x e h = let same : y ≡ x = cc in subst P same h

-- a word of one byte

mark_taken : (c : Comments) (fresh : Bool) (n r : ℕ) (ahead rest : List ℕ) (b : ℕ) → slice_get ahead 0 ≡ Some b → 0 < r
    → is_lone c b ≡ true
    → word_end c (if b == 10 then true else fresh) (if b == 10 then n + 1 else n) (r - 1) (scan_after no_scan b)
    (drop 1 ahead ++ rest) ≡ items_from c fresh n r (ahead ++ rest)
mark_taken Dimacs fresh n r ahead rest b e lt h = cc
mark_taken Script fresh n r ahead rest b e lt h = cc
mark_taken Hash fresh n r [] rest b e lt h = cc
mark_taken Hash fresh n zero (a ∷ ahead) rest b e lt h = absurd (omega arith)
mark_taken Hash fresh n (suc r) (a ∷ ahead) rest b e lt h =
    let same : a ≡ b = cc in
    ap (λ t. word_end Hash (if t then true else fresh) (if t then n + 1 else n) (suc r - 1) (scan_after no_scan b)
    (ahead ++ rest)) (mark_no_line_end b h)
    ∙ ap (λ x. word_end Hash fresh n x (scan_after no_scan b) (ahead ++ rest)) (sub-one (suc r))
    ∙ sym (mark_word fresh n r b (ahead ++ rest) h)
    ∙ ap (λ x. items_from Hash fresh n (suc r) (x ∷ ahead ++ rest)) (sym same)

pub past_lone : (s : State) (b : ℕ) (l : Option (List ℕ)) → slice_get s.ahead 0 ≡ Some b → 0 < s.room
    → is_lone s.comments b ≡ true → Stays (upcoming s l) (upcoming_behind_word (past b s) (scan_after no_scan b) l)
past_lone s b None e lt h = tt
past_lone s b (Some rest) e lt h = ap Some (mark_taken s.comments s.fresh s.line s.room s.ahead rest b e lt h)

lone_ends : (c : Comments) (b : ℕ) → is_lone c b ≡ true → ends_word c b ≡ true
lone_ends Dimacs b h = cc
lone_ends Script b h = cc
lone_ends Hash b h = mark_ends b h

end_beyond : (c : Comments) (fresh : Bool) (n : ℕ) (ahead rest : List ℕ) (b : ℕ) → slice_get ahead 0 ≡ Some b
    → ends_word c b ≡ true → items_from c fresh n 0 (ahead ++ rest) ≡ too_long n ∷ []
end_beyond c fresh n [] rest b e h = cc
end_beyond c fresh n (a ∷ ahead) rest b e h = let same : a ≡ b = cc in
    ap (λ x. items_from c fresh n 0 (x ∷ ahead ++ rest)) same ∙ end_at_limit c fresh n b (ahead ++ rest) h

pub lone_beyond : (s : State) (b : ℕ) (l : Option (List ℕ)) → slice_get s.ahead 0 ≡ Some b → s.room ≡ 0
    → is_lone s.comments b ≡ true → Begins (upcoming s l) (too_long s.line)
lone_beyond s b None e z h = tt
lone_beyond s b (Some rest) e z h = (
  [],
  ap (λ r. items_from s.comments s.fresh s.line r (s.ahead ++ rest)) z
      ∙ end_beyond s.comments s.fresh s.line s.ahead rest b e (lone_ends s.comments b h),
)

pub lone_line : (s : State) (b : ℕ) → is_lone s.comments b ≡ true → (past b s).line ≡ s.line
lone_line s b h = ap (λ t. if t then s.line + 1 else s.line) (no_end s.comments h)
  where
    no_end : (c : Comments) → is_lone c b ≡ true → (b == 10) ≡ false
    no_end Dimacs h = cc
    no_end Script h = cc
    no_end Hash h = mark_no_line_end b h

-- a comment behind #

hash_in_front : (c : Comments) (fresh : Bool) (n r : ℕ) (ahead rest : List ℕ) (b : ℕ) → slice_get ahead 0 ≡ Some b
    → opens_comment c b ≡ true → comment_items c n r (ahead ++ rest) ≡ items_from c fresh n r (ahead ++ rest)
hash_in_front Dimacs fresh n r ahead rest b e h = cc
hash_in_front Script fresh n r ahead rest b e h = cc
hash_in_front Hash fresh n r [] rest b e h = cc
hash_in_front Hash fresh n r (a ∷ ahead) rest b e h =
    let is : a ≡ 35 = (let same : a ≡ b = cc in same ∙ eqb-true b 35 h) in
    ap (λ x. comment_items Hash n r (x ∷ ahead ++ rest)) is ∙ sym (hash_begins fresh n r (ahead ++ rest))
    ∙ ap (λ x. items_from Hash fresh n r (x ∷ ahead ++ rest)) (sym is)

pub before_comment : (s : State) (b : ℕ) (l : Option (List ℕ)) → slice_get s.ahead 0 ≡ Some b
    → opens_comment s.comments b ≡ true → Stays (upcoming s l) (upcoming_in_comment s l)
before_comment s b None e h = tt
before_comment s b (Some rest) e h = ap Some (hash_in_front s.comments s.fresh s.line s.room s.ahead rest b e h)

opens_ends : (c : Comments) (b : ℕ) → opens_comment c b ≡ true → ends_word c b ≡ true
opens_ends Dimacs b h = cc
opens_ends Script b h = cc
opens_ends Hash b h = ap (λ x. ends_word Hash x) (eqb-true b 35 h)

pub hash_beyond : (s : State) (b : ℕ) (l : Option (List ℕ)) → slice_get s.ahead 0 ≡ Some b → s.room ≡ 0
    → opens_comment s.comments b ≡ true → Begins (upcoming s l) (too_long s.line)
hash_beyond s b None e z h = tt
hash_beyond s b (Some rest) e z h = (
  [],
  ap (λ r. items_from s.comments s.fresh s.line r (s.ahead ++ rest)) z
      ∙ end_beyond s.comments s.fresh s.line s.ahead rest b e (opens_ends s.comments b h),
)

opens_no_end : (c : Comments) (b : ℕ) → opens_comment c b ≡ true → b ≡ 10 → ⊥
opens_no_end Dimacs b h e = cc
opens_no_end Script b h e = cc
opens_no_end Hash b h e = let is : b ≡ 35 = eqb-true b 35 h in omega (arith, is, e)

-- behind #
pub past_hash : (s : State) (b : ℕ) (l : Option (List ℕ)) → slice_get s.ahead 0 ≡ Some b → 0 < s.room
    → opens_comment s.comments b ≡ true → Stays (upcoming s l) (upcoming_in_comment (past b s) l)
past_hash s b l e lt h = stays_on (upcoming s l) (upcoming_in_comment s l) (upcoming_in_comment (past b s) l)
    (before_comment s b l e h) (past_in_comment s b l e lt (opens_no_end s.comments b h))

-- what is white space, a lone byte or the beginning of a comment ends a word, and nothing else does
pub in_word_else : (c : Comments) (b : ℕ) → is_blank b ≡ false → opens_comment c b ≡ false → is_lone c b ≡ false
    → ends_word c b ≡ false
in_word_else Dimacs b h o l = h
in_word_else Script b h o l = h
in_word_else Hash b h o l = rw (h, l, o) refl
