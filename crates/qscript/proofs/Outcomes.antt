-- What is computed word by word is the one reading of a text.
use Rattle.std.proofs.Common.{◌≡◌, ℕ, Bool, true, false, List, [], ◌∷◌, ◌++◌, length, take, Option, None, Some, refl, sym, ap, subst, ◌∙◌}
use Rattle.std.specs.Prelude.{nat_le, if◌then◌else◌, ◌==◌}
use Rattle.std.proofs.lemmas.List.{map-append, append_assoc}
use Rattle.std.proofs.lemmas.Bool.{eqb-true, eq-eqb}
use Rattle.lexer.specs.declared.token.Token.{Token}
use Rattle.lexer.specs.declared.token.Word.{Word}
use Rattle.lexer.specs.declared.token.Comments.TheVariants.{Script as ScriptComments}
use Rattle.lexer.specs.Words.{Item, word, bad_byte, number_range, too_long, the_end, items, items_of_lines, lines_of, seen, ending, max_bytes, last_line}
use Rattle.versions.specs.declared.version.Version.{Version}
use Rattle.qscript.specs.declared.command.Command.{Command}
use Rattle.qscript.specs.declared.draft.Line.{Line}
use Rattle.qscript.specs.declared.draft.Line.TheVariants.{Header, Command as Orders}
use Rattle.qscript.specs.declared.draft.Draft.{Draft}
use Rattle.qscript.specs.Lines.{spelling, IsExpected}
use Rattle.qscript.specs.Reads.{Ending, refused, limit, on_line, is_on, BeginsWith, IsFront, misfit, at_end, DecidesOn, DecidesOff, Decides, StopsAt, ReadsCommands, ReadsItems, ReadsScript}
use Rattle.qscript.specs.Run.{Reading, between, within, reading_from, reading_of, begun, after, whole, misfit_of, misfit_first, with_line, ends, closed, go_on, go_on_if, line_after, line_begun, begin, named_behind}
use Rattle.qscript.specs.Worked.{IsOnly}
use Rattle.qscript.proofs.Forms.{Spells, words_of, follows, runs, follows_more, runs_spells, runs_front, front_runs, whole_runs, whole_words, spelled_runs, misfit_is, no_word}

same_number : (n : ℕ) → (n == n) ≡ true
same_number n = eq-eqb n n refl

-- From the relation to the computed script.

line_goes : (h : Option Version) (rest : List Item) (n : ℕ) (ws : List Word) (d e : Draft) (o : Option Draft)
    → ((m : Draft) → follows (Some m) ws ≡ Some e → reading_from (on_line n ws ++ rest) (within h n m) ≡ reading_from
    rest (within h n e)) → follows o ws ≡ Some e
    → line_after h n d o (reading_from (on_line n ws ++ rest)) ≡ reading_from rest (within h n e)
line_goes h rest n ws d e None later f = cc
line_goes h rest n ws d e (Some m) later f = later m f

line_read : (h : Option Version) (rest : List Item) (n : ℕ) (ws : List Word) (d e : Draft)
    → follows (Some d) ws ≡ Some e → reading_from (on_line n ws ++ rest) (within h n d) ≡ reading_from rest
    (within h n e)
line_read h rest n [] d e f = let same : d ≡ e = cc in ap (λ d. reading_from rest (within h n d)) same
line_read h rest n (w ∷ ws) d e f =
    ap (λ b. go_on_if b h n d (word (record { word = w; line = n })) (reading_from (on_line n ws ++ rest)))
    (same_number n) ∙ line_goes h rest n ws d e (after d w) (λ m g. line_read h rest n ws m e g) f

line_entered : (h : Option Version) (rest : List Item) (n : ℕ) (ws : List Word) (d : Draft) → runs h ws ≡ Some d
    → reading_from (on_line n ws ++ rest) (between h) ≡ reading_from rest (within h n d)
line_entered h rest n [] d f = cc
line_entered h rest n (w ∷ ws) d f = by (begun h w) f
  where
    by : (o : Option Draft) → follows o ws ≡ Some d → line_begun h n o (reading_from (on_line n ws ++ rest)) ≡
        reading_from rest (within h n d)
    by None f = cc
    by (Some m) f = line_read h rest n ws m d f

-- a whole line
line_computed : (h : Option Version) (all : List Item) (l : Line) (rest : List Item) → BeginsWith h all l rest
    → reading_from all (between h) ≡ with_line l (reading_from rest (between (named_behind h l)))
line_computed h all l [] b = absurd b.alone
line_computed h all l (item ∷ rest) b =
    let r : (d : Draft) × (runs h (spelling l) ≡ Some d) × (whole d ≡ Some l) = spelled_runs h l b.expected in
    ap (λ is. reading_from is (between h)) b.whole ∙ line_entered h (item ∷ rest) b.number (spelling l) r.0 r.1
    ∙ ap (λ x. go_on_if x h b.number r.0 item (reading_from rest)) b.alone
    ∙ ap (λ o. closed h b.number r.0 o item (reading_from rest)) r.2

-- what ends the script where no line has begun
first_misfit : (h : Option Version) → misfit_first h ≡ misfit h []
first_misfit (Some version) = refl
first_misfit None = refl

first_on : (h : Option Version) (n : ℕ) (item : Item) (rest : List Item) (e : Ending) → is_on n item ≡ true
    → DecidesOn h n [] item e → begin h item (reading_from rest) ≡ ends e
first_on h n (word t) rest e on d = by (begun h t.word) refl
  where
    by : (o : Option Draft) → begun h t.word ≡ o → line_begun h t.line o (reading_from rest) ≡ ends e
    by None b = ap (λ k. ends (refused k t.line)) (first_misfit h) ∙ ap (λ m. ends (refused (misfit h []) m))
        (eqb-true t.line n on) ∙ ap ends (sym d.1)
    by (Some m) b = absurd (d.0 (runs_front h (t.word ∷ []) m (ap (λ o. follows o []) b)))
first_on h n (bad_byte line) rest e on d = ap (λ m. ends (refused 7 m)) (eqb-true line n on) ∙ ap ends (sym d)
first_on h n (number_range line) rest e on d = ap (λ m. ends (refused 8 m)) (eqb-true line n on) ∙ ap ends (sym d)
first_on h n (too_long line) rest e on d = ap (λ m. ends (limit m)) (eqb-true line n on) ∙ ap ends (sym d)
first_on h n (the_end line) rest e on d = absurd d

first_off : (h : Option Version) (n : ℕ) (item : Item) (rest : List Item) (e : Ending) → DecidesOff h n [] item e
    → begin h item (reading_from rest) ≡ ends e
first_off h n (word t) rest e d = absurd d
first_off h n (bad_byte line) rest e d = absurd d
first_off h n (number_range line) rest e d = absurd d
first_off h n (too_long line) rest e d = absurd d
first_off h n (the_end line) rest e d = ap ends (sym d)

-- what ends it in a line
later_on : (h : Option Version) (n : ℕ) (w : Word) (ws : List Word) (d : Draft) (item : Item) (rest : List Item)
    (e : Ending) → runs h (w ∷ ws) ≡ Some d → is_on n item ≡ true → DecidesOn h n (w ∷ ws) item e → go_on h n d item
    (reading_from rest) ≡ ends e
later_on h n w ws d (word t) rest e r on dec = by (after d t.word) refl
  where
    by : (o : Option Draft) → after d t.word ≡ o → line_after h n d o (reading_from rest) ≡ ends e
    by None a = ap (λ k. ends (refused k n)) (misfit_is h w ws d (runs_spells h (w ∷ ws) d r).1) ∙ ap ends (sym dec.1)
    by (Some m) a =
        absurd (dec.0 (runs_front h (w ∷ (ws ++ t.word ∷ [])) m (follows_more (begun h w) ws t.word d r ∙ a)))
later_on h n w ws d (bad_byte line) rest e r on dec = ap (λ m. ends (refused 7 m)) (eqb-true line n on)
    ∙ ap ends (sym dec)
later_on h n w ws d (number_range line) rest e r on dec = ap (λ m. ends (refused 8 m)) (eqb-true line n on)
    ∙ ap ends (sym dec)
later_on h n w ws d (too_long line) rest e r on dec = ap (λ m. ends (limit m)) (eqb-true line n on) ∙ ap ends (sym dec)
later_on h n w ws d (the_end line) rest e r on dec = absurd dec

later_off : (h : Option Version) (n : ℕ) (w : Word) (ws : List Word) (d : Draft) (item : Item) (rest : List Item)
    (e : Ending) → runs h (w ∷ ws) ≡ Some d → DecidesOff h n (w ∷ ws) item e → closed h n d (whole d) item
    (reading_from rest) ≡ ends e
later_off h n w ws d item rest e r dec = by (whole d) refl
  where
    by : (o : Option Line) → whole d ≡ o → closed h n d o item (reading_from rest) ≡ ends e
    by None a = ap (λ k. ends (refused k n)) (misfit_is h w ws d (runs_spells h (w ∷ ws) d r).1) ∙ ap ends (sym dec.1)
    by (Some l) a =
        let s : Spells h d (w ∷ ws) = runs_spells h (w ∷ ws) d r in
        let x : (spelling l ≡ words_of d) × IsExpected h l = whole_words h d l s.1 a in
        absurd (dec.0 (l, x.1, x.0 ∙ s.0))

stop_computed : (h : Option Version) (n : ℕ) (read : List Word) (next : Item) (rest : List Item) (e : Ending) (b : Bool)
    → IsFront h read → is_on n next ≡ b → Decides b h n read next e → reading_from (on_line n read ++ next ∷ rest)
    (between h) ≡ ends e
stop_computed h n [] next rest e true f on d = first_on h n next rest e on d
stop_computed h n [] next rest e false f on d = first_off h n next rest e d
stop_computed h n (w ∷ ws) next rest e true f on d =
    let r : (d : Draft) × (runs h (w ∷ ws) ≡ Some d) = front_runs h w ws f in
    line_entered h (next ∷ rest) n (w ∷ ws) r.0 r.1 ∙ ap (λ b. go_on_if b h n r.0 next (reading_from rest)) on
    ∙ later_on h n w ws r.0 next rest e r.1 on d
stop_computed h n (w ∷ ws) next rest e false f on d =
    let r : (d : Draft) × (runs h (w ∷ ws) ≡ Some d) = front_runs h w ws f in
    line_entered h (next ∷ rest) n (w ∷ ws) r.0 r.1 ∙ ap (λ b. go_on_if b h n r.0 next (reading_from rest)) on
    ∙ later_off h n w ws r.0 next rest e r.1 d

stops_computed : (h : Option Version) (all : List Item) (e : Ending) → StopsAt h all e → reading_from all
    (between h) ≡ ends e
stops_computed h all e s = ap (λ is. reading_from is (between h)) s.whole ∙ stop_computed h s.number s.read s.next
    s.rest e (is_on s.number s.next) s.front refl s.decides

-- a reading of these parts
abbrev reads : Option Version → List Command → Ending → Reading
reads version cs e = record { version = version; script = (cs, e) }

commands_computed : (v : Version) (all : List Item) (cs : List Command) (e : Ending) → ReadsCommands v all cs e
    → reading_from all (between (Some v)) ≡ reads None cs e
commands_computed v all [] e r = stops_computed (Some v) all e r
commands_computed v all (c ∷ cs) e r = line_computed (Some v) all (Orders c) r.0 r.1 ∙ ap (with_line (Orders c))
    (commands_computed v r.0 cs e r.2)

items_computed : (all : List Item) (version : Option Version) (cs : List Command) (e : Ending)
    → ReadsItems all version cs e → reading_from all (between None) ≡ reads version cs e
items_computed all None cs e r = stops_computed None all e r.1 ∙ ap (λ cs. reads None cs e) (sym r.0)
items_computed all (Some v) cs e r = line_computed None all (Header v) r.0 r.1 ∙ ap (with_line (Header v))
    (commands_computed v r.0 cs e r.2)

pub reading_computed : (text : List ℕ) (version : Option Version) (cs : List Command) (e : Ending)
    → ReadsScript text version cs e → reading_of text ≡ reads version cs e
reading_computed text version cs e r = items_computed (items ScriptComments text) version cs e r

-- From the computed script to the relation.

-- the reading of these items by the relation
abbrev Is : Option Version → List Item → Reading → Type 0
Is (Some v) all r = ReadsCommands v all r.script.0 r.script.1
Is None all r = ReadsItems all r.version r.script.0 r.script.1

-- Something that is no word comes.
abbrev HasStop : List Item → Type 0
HasStop [] = ⊥
HasStop (word t ∷ rest) = HasStop rest
HasStop (bad_byte line ∷ rest) = Unit {0}
HasStop (number_range line ∷ rest) = Unit {0}
HasStop (too_long line ∷ rest) = Unit {0}
HasStop (the_end line ∷ rest) = Unit {0}

stop_is : (h : Option Version) (all : List Item) (e : Ending) → StopsAt h all e → Is h all (ends e)
stop_is (Some v) all e s = s
stop_is None all e s = (refl, s)

line_is : (h : Option Version) (all : List Item) (l : Line) (rest : List Item) (s : Reading) → BeginsWith h all l rest
    → Is (named_behind h l) rest s → Is h all (with_line l s)
line_is (Some v) all (Header w) rest s b r = absurd b.expected
line_is (Some v) all (Orders c) rest s b r = (rest, b, r)
line_is None all (Header w) rest s b r = (rest, b, r)
line_is None all (Orders c) rest s b r = absurd b.expected

abbrev Entered : List Item → Type 0
Entered rest = (h : Option Version) (n : ℕ) (w : Word) (ws : List Word) (d : Draft) → runs h (w ∷ ws) ≡ Some d
    → Is h (on_line n (w ∷ ws) ++ rest) (reading_from rest (within h n d))

decides_on : (h : Option Version) (n : ℕ) (read : List Word) (item : Item) (e : Ending) → is_on n item ≡ true
    → DecidesOn h n read item e → Decides (is_on n item) h n read item e
decides_on h n read item e on d = subst (λ b. Decides b h n read item e) (sym on) d

decides_off : (h : Option Version) (n : ℕ) (read : List Word) (item : Item) (e : Ending) → is_on n item ≡ false
    → DecidesOff h n read item e → Decides (is_on n item) h n read item e
decides_off h n read item e off d = subst (λ b. Decides b h n read item e) (sym off) d

-- an item where a line may begin
begin_is : (h : Option Version) (item : Item) (rest : List Item) → HasStop (item ∷ rest) → (HasStop rest → Entered rest)
    → Is h (item ∷ rest) (begin h item (reading_from rest))
begin_is h (word t) rest stop later = by (begun h t.word) refl
  where
    by : (o : Option Draft) → begun h t.word ≡ o → Is h (word t ∷ rest) (line_begun h t.line o (reading_from rest))
    by (Some d) b = later stop h t.line t.word [] d (ap (λ o. follows o []) b)
    by None b = stop_is h (word t ∷ rest) (refused (misfit_first h) t.line) (record {
      number = t.line;
      read = [];
      next = word t;
      rest = rest;
      whole = refl;
      front = no_word h;
      decides = decides_on h t.line [] (word t) (refused (misfit_first h) t.line) (same_number t.line) (
        (λ f. let r : (d : Draft) × (runs h (t.word ∷ []) ≡ Some d) = front_runs h t.word [] f in
            absurd (let g : None ≡ Some r.0 = sym (ap (λ o. follows o []) b) ∙ r.1 in cc)),
        ap (λ k. refused k t.line) (first_misfit h),
      );
    })
begin_is h (bad_byte line) rest stop later = stop_is h (bad_byte line ∷ rest) (refused 7 line)
    (record {
      number = line;
      read = [];
      next = bad_byte line;
      rest = rest;
      whole = refl;
      front = no_word h;
      decides =
          decides_on h line [] (bad_byte line) (refused 7 line) (same_number line) refl;
    })
begin_is h (number_range line) rest stop later = stop_is h (number_range line ∷ rest) (refused 8 line)
    (record {
      number = line;
      read = [];
      next = number_range line;
      rest = rest;
      whole = refl;
      front = no_word h;
      decides = decides_on h line [] (number_range line) (refused 8 line) (same_number line) refl;
    })
begin_is h (too_long line) rest stop later = stop_is h (too_long line ∷ rest) (limit line)
    (record {
      number = line;
      read = [];
      next = too_long line;
      rest = rest;
      whole = refl;
      front = no_word h;
      decides =
          decides_on h line [] (too_long line) (limit line) (same_number line) refl;
    })
begin_is h (the_end line) rest stop later = stop_is h (the_end line ∷ rest) (at_end h line)
    (record {
      number = 0;
      read = [];
      next = the_end line;
      rest = rest;
      whole = refl;
      front = no_word h;
      decides =
          refl;
    })

-- one more word of the line
one_more : (n : ℕ) (ws : List Word) (t : Token) (rest : List Item) → is_on n (word t) ≡ true
    → on_line n (ws ++ t.word ∷ []) ++ rest ≡ on_line n ws ++ word t ∷ rest
one_more n ws t rest on =
    let same : t.line ≡ n = eqb-true t.line n on in
    ap (λ is. is ++ rest) (map-append (λ w. word (record { word = w; line = n })) ws (t.word ∷ []))
    ∙ append_assoc (on_line n ws) (word (record { word = t.word; line = n }) ∷ []) rest
    ∙ ap (λ m. on_line n ws ++ word (record { word = t.word; line = m }) ∷ rest) (sym same)

-- what ends the script in a line
stop_in : (h : Option Version) (n : ℕ) (w : Word) (ws : List Word) (d : Draft) (item : Item) (rest : List Item)
    (e : Ending) → runs h (w ∷ ws) ≡ Some d → Decides (is_on n item) h n (w ∷ ws) item e
    → Is h (on_line n (w ∷ ws) ++ item ∷ rest) (ends e)
stop_in h n w ws d item rest e r dec = stop_is h (on_line n (w ∷ ws) ++ item ∷ rest) e
    (record {
      number = n;
      read = w ∷ ws;
      next = item;
      rest = rest;
      whole = refl;
      front = runs_front h (w ∷ ws) d r;
      decides = dec;
    })

go_is : (h : Option Version) (n : ℕ) (w : Word) (ws : List Word) (d : Draft) (item : Item) (rest : List Item)
    → runs h (w ∷ ws) ≡ Some d → is_on n item ≡ true → HasStop (item ∷ rest) → (HasStop rest → Entered rest)
    → Is h (on_line n (w ∷ ws) ++ item ∷ rest) (go_on h n d item (reading_from rest))
go_is h n w ws d (word t) rest r on stop later = by (after d t.word) refl
  where
    more : follows (begun h w) (ws ++ t.word ∷ []) ≡ after d t.word
    more = follows_more (begun h w) ws t.word d r

    by : (o : Option Draft) → after d t.word ≡ o → Is h (on_line n (w ∷ ws) ++ word t ∷ rest)
        (line_after h n d o (reading_from rest))
    by (Some m) a = subst (λ is. Is h is (reading_from rest (within h n m))) (one_more n (w ∷ ws) t rest on)
        (later stop h n w (ws ++ t.word ∷ []) m (more ∙ a))
    by None a = stop_in h n w ws d (word t) rest (refused (misfit_of d) n) r
        (decides_on h n (w ∷ ws) (word t) (refused (misfit_of d) n) on (
          (λ f. let x : (d : Draft) × (runs h (w ∷ (ws ++ t.word ∷ [])) ≡ Some d) = front_runs h w
              (ws ++ t.word ∷ []) f in
              absurd (let g : None ≡ Some x.0 = sym a ∙ sym more ∙ x.1 in cc)),
          ap (λ k. refused k n) (misfit_is h w ws d (runs_spells h (w ∷ ws) d r).1),
        ))
go_is h n w ws d (bad_byte line) rest r on stop later = stop_in h n w ws d (bad_byte line) rest (refused 7 line) r
    (decides_on h n (w ∷ ws) (bad_byte line) (refused 7 line) on (ap (refused 7) (eqb-true line n on)))
go_is h n w ws d (number_range line) rest r on stop later = stop_in h n w ws d (number_range line) rest (refused 8 line)
    r (decides_on h n (w ∷ ws) (number_range line) (refused 8 line) on (ap (refused 8) (eqb-true line n on)))
go_is h n w ws d (too_long line) rest r on stop later = stop_in h n w ws d (too_long line) rest (limit line) r
    (decides_on h n (w ∷ ws) (too_long line) (limit line) on (ap limit (eqb-true line n on)))
go_is h n w ws d (the_end line) rest r on stop later = cc

closed_is : (h : Option Version) (n : ℕ) (w : Word) (ws : List Word) (d : Draft) (item : Item) (rest : List Item)
    → runs h (w ∷ ws) ≡ Some d → is_on n item ≡ false
    → ((g : Option Version) → Is g (item ∷ rest) (begin g item (reading_from rest)))
    → Is h (on_line n (w ∷ ws) ++ item ∷ rest) (closed h n d (whole d) item (reading_from rest))
closed_is h n w ws d item rest r off behind = by (whole d) refl
  where
    by : (o : Option Line) → whole d ≡ o → Is h (on_line n (w ∷ ws) ++ item ∷ rest)
        (closed h n d o item (reading_from rest))
    by (Some l) a =
        let s : Spells h d (w ∷ ws) = runs_spells h (w ∷ ws) d r in
        let x : (spelling l ≡ words_of d) × IsExpected h l = whole_words h d l s.1 a in
        line_is h (on_line n (w ∷ ws) ++ item ∷ rest) l (item ∷ rest)
        (begin (named_behind h l) item (reading_from rest)) (record {
          number = n;
          expected = x.1;
          whole = ap (λ ws. on_line n ws ++ item ∷ rest) (sym (x.0 ∙ s.0));
          alone = off;
        }) (behind (named_behind h l))
    by None a = stop_in h n w ws d item rest (refused (misfit_of d) n) r
        (decides_off h n (w ∷ ws) item (refused (misfit_of d) n) off (
          (λ f. let x : (l : Line) × (whole d ≡ Some l) = whole_runs h (w ∷ ws) d r f in
              absurd (let g : None ≡ Some x.0 = sym a ∙ x.1 in cc)),
          ap (λ k. refused k n) (misfit_is h w ws d (runs_spells h (w ∷ ws) d r).1),
        ))

within_is : (item : Item) (rest : List Item) → HasStop (item ∷ rest) → (HasStop rest → Entered rest)
    → Entered (item ∷ rest)
within_is item rest stop later h n w ws d r = by (is_on n item) refl
  where
    by : (b : Bool) → is_on n item ≡ b → Is h (on_line n (w ∷ ws) ++ item ∷ rest)
        (go_on_if b h n d item (reading_from rest))
    by true on = go_is h n w ws d item rest r on stop later
    by false off = closed_is h n w ws d item rest r off (λ g. begin_is g item rest stop later)

entered : (all : List Item) → HasStop all → Entered all
entered [] stop = absurd stop
entered (item ∷ rest) stop = within_is item rest stop (entered rest)

between_is : (h : Option Version) (all : List Item) → HasStop all → Is h all (reading_from all (between h))
between_is h [] stop = absurd stop
between_is h (item ∷ rest) stop = begin_is h item rest stop (entered rest)

has_stop : (before : List Item) (last : Item) → HasStop (last ∷ []) → HasStop (before ++ last ∷ [])
has_stop [] last s = s
has_stop (word t ∷ before) last s = has_stop before last s
has_stop (bad_byte line ∷ before) last s = tt
has_stop (number_range line ∷ before) last s = tt
has_stop (too_long line ∷ before) last s = tt
has_stop (the_end line ∷ before) last s = tt

ending_stops : (fits : Bool) (line cut : ℕ) → HasStop ((if fits then the_end line else too_long cut) ∷ [])
ending_stops true line cut = tt
ending_stops false line cut = tt

pub computed_reading : (text : List ℕ) → ReadsScript text (reading_of text).version (reading_of text).script.0
    (reading_of text).script.1
computed_reading text = between_is None (items ScriptComments text)
    (has_stop (items_of_lines ScriptComments true 1 (lines_of (seen ScriptComments max_bytes text)))
    (ending 1 max_bytes text) (ending_stops (nat_le (length text) max_bytes) (last_line 1 text)
    (last_line 1 (take max_bytes text))))

pub one_reading : (text : List ℕ) (v w : Option Version) (cs ds : List Command) (e f : Ending) → ReadsScript text v cs e
    → ReadsScript text w ds f → (v ≡ w) × (cs ≡ ds) × (e ≡ f)
one_reading text v w cs ds e f r s =
    let same : reads v cs e ≡ reads w ds f = sym (reading_computed text v cs e r) ∙ reading_computed text w ds f s in
    (ap (λ (p : Reading). p.version) same, ap (λ (p : Reading). p.script.0) same, ap (λ (p : Reading). p.script.1) same)

pub only_reading : (text : List ℕ) → IsOnly text (reading_of text).version (reading_of text).script.0
    (reading_of text).script.1
only_reading text = (
  computed_reading text,
  λ v ds f r. one_reading text v (reading_of text).version ds
      (reading_of text).script.0 f (reading_of text).script.1 r (computed_reading text),
)
