-- What the work on a script comes to, where its commands were replied to.
use Rattle.std.proofs.Common.{◌≡◌, ◌≢◌, ℕ, List, [], ◌++◌, Option, Some, None, Result, Ok, Err, refl, sym, ap, subst, arith, length, take, append-nil, true}
use Rattle.std.specs.Prelude.{IfErr, ⊤, ◌-◌, is_err, IfSome, IsErrOf, IsOk}
use Rattle.std.specs.Io.KnownBytes.{Appends, Keeps}
use Rattle.std.proofs.KnownBytes.{Appends-nil, Appends-kept}
use Rattle.ports.specs.Bytes.{AllFlushed, AppendsFront}
use Rattle.ports.specs.Causes.{Rose, HasCause, IsCounted}
use Rattle.trail.specs.State.{Account}
use Rattle.ports.specs.Writing.{Wrote}
use Rattle.versions.specs.declared.version.Version.{Version}
use Rattle.qscript.specs.declared.command.Command.{Command}
use Rattle.qscript.specs.Reads.{Ending as ScriptEnding, ReadsScript, done, limit, refused}
use Rattle.reading.specs.declared.refusal.ReadRefusal.{ReadRefusal}
use Rattle.reading.specs.declared.refusal.ReadRefusal.TheVariants.{Refused as Malformed, Limit as Beyond, ReadFault as Unreadable, NoMemory as NoRoom}
use Rattle.qscript.specs.Run.{Reading, Script, ends, reading_of, stopped}
use Rattle.qscript.proofs.Outcomes.{computed_reading}
use Rattle.qscript.specs.State.{EndsReading, Heads}
use Rattle.solve.specs.declared.ending.Ending.{Ending}
use Rattle.solve.specs.declared.ending.Ending.TheVariants.{Done, Limit, CheckLimit, NoMemory, ReadFault, Refused, WriteFault}
use Rattle.solve.specs.Outputs.{Text, says}
use Rattle.session.specs.Scripts.{Answers, AreAnswered, AreFirst, EndsScript, IsLeftAt, IsOfText, IsReadOut, IsScriptEnding, IsSentAt, RoomForReplies, ending_of, start_in}
use Rattle.solve.specs.Endings.{ending_for, IsDone}
use Rattle.solve.specs.Terms.{Terms}
use Rattle.solve.proofs.Written.{some_map, front_all, flushed_kept}

-- each text is read in some way
abbrev pub AllRead : Type 0
AllRead = (text : List ℕ) → (version : Option Version) × (cs : List Command) × (e : ScriptEnding)
    × ReadsScript text version cs e

pub each_script : AllRead
each_script text = let r = reading_of text in (r.version, r.script.0, r.script.1, computed_reading text)

-- what a reader in front of a text is to read
abbrev pub IsReader : (Option (List ℕ) → Option Reading) → Type 0
IsReader reading = (text : List ℕ) (version : Option Version) (cs : List Command) (e : ScriptEnding)
    → ReadsScript text version cs e → reading (Some text) ≡ Some (record { version = version; script = (cs, e) })

-- behind a header what is to come is the rest of the text, by the version that the header names
pub headed_text : (known : Option (List ℕ)) (reading : Option (List ℕ) → Option Reading) (after : Option Script)
    (version : Version) → AllRead → IsReader reading → Heads (Ok version) (reading known) (λ _. after)
    → IsOfText known (Some version) after
headed_text None reading after version all law heads = tt
headed_text (Some text) reading after version all law heads =
    let r = all text in
    let is = subst (λ o. Heads (Ok version) o (λ _. after)) (law text r.0 r.1 r.2 r.3) heads in
    (r.1, r.2, subst (λ v. ReadsScript text v r.1 r.2) is.0 r.3, is.1)

pub any_text : (known : Option (List ℕ)) → IfSome known (λ text. ⊤)
any_text None = tt
any_text (Some text) = tt

-- before any command
front_none : (a : Option (List ℕ)) → AppendsFront a a []
front_none a = record { count = 0; within = omega arith; appended = Appends-nil a }

-- the version that a text's header names
abbrev pub named : Option (List ℕ) → AllRead → Option Version
named None all = None
named (Some text) all = (all text).0

first_none : (known : Option (List ℕ)) (all : AllRead) → IfSome known (λ text. AreFirst text (named known all) [])
first_none None all = tt
first_none (Some text) all = let r = all text in (r.1, r.2, r.3)

none_of : (terms : Terms) (known a : Option (List ℕ)) (stops : List Account) (ending : Ending) (all : AllRead)
    → (IsReadOut ending → IfSome known (λ text. (e : ScriptEnding) × ReadsScript text (named known all) [] e))
    → EndsScript ending → AreAnswered terms known (a, a) (stops, stops) ending
none_of terms known a stops ending all read ends = record {
  version = named known all;
  commands = [];
  out = says [];
  after = start_in (named known all);
  allowed = (refl, refl);
  first = first_none known all;
  all = read;
  front = front_none a;
  whole = λ apart. Appends-nil a;
  told = sym (append-nil stops);
  ends = ends;
}

pub none_answered : (terms : Terms) (known a : Option (List ℕ)) (stops : List Account) → AllRead
    → AreAnswered terms known (a, a) (stops, stops) NoMemory
none_answered terms known a stops all = none_of terms known a stops NoMemory all (λ read. absurd read) tt

-- where the header ends the script

ended_at : (known : Option (List ℕ)) (reading : Option (List ℕ) → Option Reading) (all : AllRead) (e : ScriptEnding)
    → IsReader reading → IfSome (reading known) (λ r. r ≡ ends e)
    → IfSome known (λ text. ReadsScript text (named known all) [] e)
ended_at None reading all e law is = tt
ended_at (Some text) reading all e law is =
    let r = all text in
    let same = subst (λ o. IfSome o (λ q. q ≡ ends e)) (law text r.0 r.1 r.2 r.3) is in
    subst (λ (s : Script). ReadsScript text r.0 s.0 s.1) (ap (λ (q : Reading). q.script) same) r.3

module _ (terms : Terms) (known a : Option (List ℕ)) (stops : List Account)
    (reading : Option (List ℕ) → Option Reading) (all : AllRead) (law : IsReader reading) where
  pub headless_answered : (r : ReadRefusal) → EndsReading r (reading known)
      → AreAnswered terms known (a, a) (stops, stops) (ending_for r)
  headless_answered (Malformed number line) is = none_of terms known a stops (Refused number line) all
      (λ read. some_map known _ _ (λ text reads. (refused number line, reads))
      (ended_at known reading all (refused number line) law is)) tt
  headless_answered (Beyond quantity line) is = none_of terms known a stops (Limit quantity line) all
      (λ read. some_map known _ _ (λ text reads. (limit line, reads))
      (ended_at known reading all (limit line) law is.1)) tt
  headless_answered Unreadable is = none_of terms known a stops ReadFault all (λ read. absurd read) tt
  headless_answered NoRoom is = none_of terms known a stops NoMemory all (λ read. absurd read) tt

  pub headless_ending : (r : ReadRefusal) → EndsReading r (reading known)
      → IfSome known (λ text. IsScriptEnding text (ending_for r))
  headless_ending (Malformed number line) is = some_map known _ _
      (λ text reads. ([], (named known all, reads))) (ended_at known reading all (refused number line) law is)
  headless_ending (Beyond quantity line) is = some_map known _ _
      (λ text reads. (is.0, [], (named known all, reads))) (ended_at known reading all (limit line) law is.1)
  headless_ending Unreadable is = any_text known
  headless_ending NoRoom is = any_text known

  pub headless_unwritten : (r : ReadRefusal) → ending_for r ≢ WriteFault
  headless_unwritten (Malformed number line) e = absurd (let f : Refused number line ≡ WriteFault = e in cc)
  headless_unwritten (Beyond quantity line) e = absurd (let f : Limit quantity line ≡ WriteFault = e in cc)
  headless_unwritten Unreadable e = absurd (let f : ReadFault ≡ WriteFault = e in cc)
  headless_unwritten NoRoom e = absurd (let f : NoMemory ≡ WriteFault = e in cc)

  pub headless_read : (r : ReadRefusal) → ending_for r ≡ ReadFault → r ≡ Unreadable
  headless_read (Malformed number line) e = absurd (let f : Refused number line ≡ ReadFault = e in cc)
  headless_read (Beyond quantity line) e = absurd (let f : Limit quantity line ≡ ReadFault = e in cc)
  headless_read Unreadable e = refl
  headless_read NoRoom e = absurd (let f : NoMemory ≡ ReadFault = e in cc)

  pub headless_open : (r : ReadRefusal) → IsDone (ending_for r) → ⊥
  headless_open (Malformed number line) is = is
  headless_open (Beyond quantity line) is = is
  headless_open Unreadable is = is
  headless_open NoRoom is = is

front_kept : (a b c : Option (List ℕ)) (text : Text) → AppendsFront a b text → Keeps b c → AppendsFront a c text
front_kept a b c text front kept = record {
  count = front.count;
  within = front.within;
  appended = Appends-kept a b c (take front.count text) front.appended kept;
}

-- the commands are the first of the text's script, and all where nothing is left
first_of : (known : Option (List ℕ)) (version : Option Version) (script : Option Script) (commands : List Command)
    (P : Script → Type 0) → IsOfText known version script
    → IfSome script (λ all. (rest : Script) × (all ≡ (commands ++ rest.0, rest.1)) × P rest)
    → IfSome known (λ text. (rest : Script) × ReadsScript text version (commands ++ rest.0) rest.1 × P rest)
first_of None version script commands P is first = tt
first_of (Some text) version script commands P is first =
    let at = subst (λ o. IfSome o (λ all. (rest : Script) × (all ≡ (commands ++ rest.0, rest.1)) × P rest)) is.3 first
    in (
      at.0,
      subst (λ (r : Script). ReadsScript text version r.0 r.1) at.1 is.2,
      at.2,
    )

first_only : (known : Option (List ℕ)) (version : Option Version) (commands : List Command) (P : Script → Type 0)
    → IfSome known (λ text. (rest : Script) × ReadsScript text version (commands ++ rest.0) rest.1 × P rest)
    → IfSome known (λ text. AreFirst text version commands)
first_only None version commands P is = tt
first_only (Some text) version commands P is = (is.0.0, is.0.1, is.1)

all_read : (known : Option (List ℕ)) (version : Option Version) (commands : List Command) (P : Script → Type 0)
    (e : ScriptEnding)
    → ((r : Script) → P r → r ≡ stopped e)
    → IfSome known (λ text. (rest : Script) × ReadsScript text version (commands ++ rest.0) rest.1 × P rest)
    → IfSome known (λ text. ReadsScript text version commands e)
all_read None version commands P e stops is = tt
all_read (Some text) version commands P e stops is =
    let read = subst (λ (r : Script). ReadsScript text version (commands ++ r.0) r.1) (stops is.0 is.2) is.1 in
    subst (λ cs. ReadsScript text version cs e) (append-nil commands) read

all_with : (known : Option (List ℕ)) (version : Option Version) (commands : List Command) (e : ScriptEnding)
    → IfSome known (λ text. ReadsScript text version commands e)
    → IfSome known (λ text. (f : ScriptEnding) × ReadsScript text version commands f)
all_with None version commands e is = tt
all_with (Some text) version commands e is = (e, is)

module _ {S : Type 0} (written flushed : S → Option (List ℕ)) (faults : S → ℕ) (has_room : S → ℕ → Type 0)
    (terms : Terms) (known : Option (List ℕ)) (version : Option Version) (script : Option Script)
    (of : IsOfText known version script)
    (result : Result (Unit {0}) Ending) (old new : S) (before after : List Account)
    (replied : Answers terms (start_in version) script (IsLeftAt result)
    (λ text. IsSentAt written flushed faults has_room old new text result) (before, after)) where
  abbrev left : IfSome known (λ text. (rest : Script) × ReadsScript text version (replied.commands ++ rest.0) rest.1
      × IsLeftAt result rest)
  left = first_of known version script replied.commands (IsLeftAt result) of replied.first

  pub ending_is : IfSome known (λ text. IsScriptEnding text (ending_of result))
  ending_is = by result left
    where
      by : (r : Result (Unit {0}) Ending)
          → IfSome known (λ text. (rest : Script) × ReadsScript text version (replied.commands ++ rest.0) rest.1
          × IsLeftAt r rest) → IfSome known (λ text. IsScriptEnding text (ending_of r))
      by (Ok u) h = some_map known _ _ (λ text read. (refl, replied.commands, (version, read)))
          (all_read known version replied.commands _ done (λ r same. same) h)
      by (Err (Done status)) h = some_map known _ _ (λ text r. absurd r.2) h
      by (Err (Refused number line)) h = some_map known _ _ (λ text read. (replied.commands, (version, read)))
          (all_read known version replied.commands _ (refused number line) (λ r same. same) h)
      by (Err (Limit quantity line)) h = some_map known _ _ (λ text r. (
        r.2.0,
        replied.commands,
        (
          version,
          subst (λ cs. ReadsScript text version cs (limit line)) (append-nil replied.commands)
              (subst (λ (s : Script). ReadsScript text version (replied.commands ++ s.0) s.1) r.2.1 r.1),
        ),
      )) h
      by (Err (CheckLimit quantity)) h = some_map known _ _ (λ text r. absurd r.2) h
      by (Err ReadFault) h = some_map known _ _ (λ text r. tt) h
      by (Err WriteFault) h = some_map known _ _ (λ text r. tt) h
      by (Err NoMemory) h = some_map known _ _ (λ text r. tt) h

  -- what was written, where no flush follows
  front_is : AppendsFront (written old) (written new) replied.out.text
  front_is = by result replied.sent
    where
      by : (r : Result (Unit {0}) Ending)
          → IsSentAt written flushed faults has_room old new replied.out.text r
          → AppendsFront (written old) (written new) replied.out.text
      by (Ok u) h = front_all _ _ _ h.appended
      by (Err (Done status)) h = absurd h
      by (Err (Refused number line)) h = front_all _ _ _ h.appended
      by (Err (Limit quantity line)) h = front_all _ _ _ h.appended
      by (Err (CheckLimit quantity)) h = absurd h
      by (Err ReadFault) h = front_all _ _ _ h.appended
      by (Err WriteFault) h = h.front
      by (Err NoMemory) h = front_all _ _ _ h.appended

  whole_is : ending_of result ≢ WriteFault → Appends (written old) (written new) replied.out.text
  whole_is = by result replied.sent
    where
      by : (r : Result (Unit {0}) Ending)
          → IsSentAt written flushed faults has_room old new replied.out.text r → ending_of r ≢ WriteFault
          → Appends (written old) (written new) replied.out.text
      by (Ok u) h apart = h.appended
      by (Err (Done status)) h apart = absurd h
      by (Err (Refused number line)) h apart = h.appended
      by (Err (Limit quantity line)) h apart = h.appended
      by (Err (CheckLimit quantity)) h apart = absurd h
      by (Err ReadFault) h apart = h.appended
      by (Err WriteFault) h apart = absurd (apart refl)
      by (Err NoMemory) h apart = h.appended

  ends_is : EndsScript (ending_of result)
  ends_is = by result replied.sent
    where
      by : (r : Result (Unit {0}) Ending)
          → IsSentAt written flushed faults has_room old new replied.out.text r → EndsScript (ending_of r)
      by (Ok u) h = tt
      by (Err (Done status)) h = tt
      by (Err (Refused number line)) h = tt
      by (Err (Limit quantity line)) h = tt
      by (Err (CheckLimit quantity)) h = h
      by (Err ReadFault) h = tt
      by (Err WriteFault) h = tt
      by (Err NoMemory) h = tt

  pub answered_is : AreAnswered terms known (written old, written new) (before, after) (ending_of result)
  answered_is = record {
    version = version;
    commands = replied.commands;
    out = replied.out;
    after = replied.after;
    allowed = replied.leads;
    first = first_only known version replied.commands _ left;
    all = by result left;
    front = front_is;
    whole = whole_is;
    told = replied.told;
    ends = ends_is;
  }
    where
      by : (r : Result (Unit {0}) Ending)
          → IfSome known (λ text. (rest : Script) × ReadsScript text version (replied.commands ++ rest.0) rest.1
          × IsLeftAt r rest) → IsReadOut (ending_of r)
          → IfSome known (λ text. (e : ScriptEnding) × ReadsScript text version replied.commands e)
      by (Ok u) h read = all_with known version replied.commands done
          (all_read known version replied.commands _ done (λ r same. same) h)
      by (Err (Done status)) h read = some_map known _ _ (λ text r. absurd r.2) h
      by (Err (Refused number line)) h read = all_with known version replied.commands (refused number line)
          (all_read known version replied.commands _ (refused number line) (λ r same. same) h)
      by (Err (Limit quantity line)) h read = all_with known version replied.commands (limit line)
          (all_read known version replied.commands _ (limit line) (λ r both. both.1) h)
      by (Err (CheckLimit quantity)) h read = absurd read
      by (Err ReadFault) h read = absurd read
      by (Err WriteFault) h read = absurd read
      by (Err NoMemory) h read = absurd read

  pub counted_is : IsCounted (IsErrOf result WriteFault) (IsOk result) (faults old) (faults new)
  counted_is = by result replied.sent
    where
      whole : (r : Result (Unit {0}) Ending) → Wrote written flushed faults has_room old new replied.out.text
          → (IsErrOf r WriteFault → ⊥) → IsCounted (IsErrOf r WriteFault) (IsOk r) (faults old) (faults new)
      whole r h apart = record {
        later = let e = h.no_fault in omega arith;
        rose = λ is. absurd (apart is);
        kept = λ ok. h.no_fault;
      }

      by : (r : Result (Unit {0}) Ending)
          → IsSentAt written flushed faults has_room old new replied.out.text r
          → IsCounted (IsErrOf r WriteFault) (IsOk r) (faults old) (faults new)
      by (Ok u) h = whole (Ok u) h (λ is. absurd (cc))
      by (Err (Done status)) h = absurd h
      by (Err (Refused number line)) h = whole (Err (Refused number line)) h (λ is. absurd (cc))
      by (Err (Limit quantity line)) h = whole (Err (Limit quantity line)) h (λ is. absurd (cc))
      by (Err (CheckLimit quantity)) h = absurd h
      by (Err ReadFault) h = whole (Err ReadFault) h (λ is. absurd (cc))
      by (Err WriteFault) h = record { later = h.later; rose = λ is. h.rose; kept = λ ok. absurd (cc) }
      by (Err NoMemory) h = whole (Err NoMemory) h (λ is. absurd (cc))

  pub not_done : IfErr result (λ e. IsDone e → ⊥)
  not_done = by result replied.sent
    where
      by : (r : Result (Unit {0}) Ending)
          → IsSentAt written flushed faults has_room old new replied.out.text r → IfErr r (λ e. IsDone e → ⊥)
      by (Ok u) h = tt
      by (Err (Done status)) h = λ is. h
      by (Err (Refused number line)) h = λ is. is
      by (Err (Limit quantity line)) h = λ is. is
      by (Err (CheckLimit quantity)) h = λ is. is
      by (Err ReadFault) h = λ is. is
      by (Err WriteFault) h = λ is. is
      by (Err NoMemory) h = λ is. is

  -- where there is room for what may be replied
  has : RoomForReplies terms known (has_room old) → has_room old (length replied.out.text)
  has room = room version replied.commands replied.out replied.after replied.leads
      (first_only known version replied.commands _ left)

  pub room_is : RoomForReplies terms known (has_room old) → IsErrOf result WriteFault → ⊥
  room_is room = by result replied.sent
    where
      by : (r : Result (Unit {0}) Ending)
          → IsSentAt written flushed faults has_room old new replied.out.text r → IsErrOf r WriteFault → ⊥
      by (Ok u) h is = absurd (cc)
      by (Err (Done status)) h is = absurd h
      by (Err (Refused number line)) h is = absurd (cc)
      by (Err (Limit quantity line)) h is = absurd (cc)
      by (Err (CheckLimit quantity)) h is = absurd h
      by (Err ReadFault) h is = absurd (cc)
      by (Err WriteFault) h is = h.no_room (length replied.out.text) (omega arith) (has room)
      by (Err NoMemory) h is = absurd (cc)

-- a flush after all replies

answered_kept : (terms : Terms) (known a m n : Option (List ℕ)) (stops : List Account × List Account) (ending : Ending)
    → AreAnswered terms known (a, m) stops ending → Keeps m n → AreAnswered terms known (a, n) stops ending
answered_kept terms known a m n stops ending are kept = record {
  version = are.version;
  commands = are.commands;
  out = are.out;
  after = are.after;
  allowed = are.allowed;
  first = are.first;
  all = are.all;
  front = front_kept a m n are.out.text are.front kept;
  whole = λ apart. Appends-kept a m n are.out.text (are.whole apart) kept;
  told = are.told;
  ends = are.ends;
}

answered_fault : (terms : Terms) (known a m n : Option (List ℕ)) (stops : List Account × List Account) (ending : Ending)
    → AreAnswered terms known (a, m) stops ending → Keeps m n → AreAnswered terms known (a, n) stops WriteFault
answered_fault terms known a m n stops ending are kept = record {
  version = are.version;
  commands = are.commands;
  out = are.out;
  after = are.after;
  allowed = are.allowed;
  first = are.first;
  all = λ read. absurd read;
  front = front_kept a m n are.out.text are.front kept;
  whole = λ apart. absurd (apart refl);
  told = are.told;
  ends = tt;
}

module _ {S : Type 0} (written flushed : S → Option (List ℕ)) (faults : S → ℕ) (has_room : S → ℕ → Type 0)
    (terms : Terms) (known : Option (List ℕ)) (version : Option Version) (script : Option Script)
    (of : IsOfText known version script)
    (old middle new : S) (before after : List Account)
    (replied : Answers terms (start_in version) script (IsLeftAt (Ok tt))
    (λ text. IsSentAt written flushed faults has_room old middle text (Ok tt)) (before, after))
    (kept : Keeps (written middle) (written new)) where
  pub flushed_answered : AreAnswered terms known (written old, written new) (before, after) (Done 0)
  flushed_answered = answered_kept terms known (written old) (written middle) (written new) (before, after) (Done 0)
      (answered_is written flushed faults has_room terms known version script of (Ok tt) old middle before after
      replied) kept

  pub fault_answered : AreAnswered terms known (written old, written new) (before, after) WriteFault
  fault_answered = answered_fault terms known (written old) (written middle) (written new) (before, after) (Done 0)
      (answered_is written flushed faults has_room terms known version script of (Ok tt) old middle before after
      replied) kept

  pub all_flushed : AllFlushed (written new) (flushed middle) (flushed new)
      → AllFlushed (written new) (flushed old) (flushed new)
  all_flushed all = flushed_kept (flushed old) (flushed middle) (flushed new) (written new) replied.sent.kept all

  -- a flush fails by a fault of its own
  pub fault_counted : {T E : Type 0} (r : Result T E) → HasCause (faults middle) (faults new) r → is_err r ≡ true
      → (result : Result (Unit {0}) Ending) → result ≡ Err WriteFault
      → IsCounted (IsErrOf result WriteFault) (IsOk result) (faults old) (faults new)
  fault_counted (Ok u) cause err result is = absurd (cc)
  fault_counted (Err e) cause err result is = record {
    later = let first = replied.sent.no_fault in let second = cause.later in omega arith;
    rose = λ same. subst (λ n. Rose n (faults new)) replied.sent.no_fault cause.failed;
    kept = λ ok. absurd (cc);
  }

  -- and never where there is room for the replies
  pub room_left : RoomForReplies terms known (has_room old) → (n : ℕ) × has_room middle n
  room_left room = (
    length replied.out.text - length replied.out.text,
    replied.sent.room (length replied.out.text) (omega arith)
        (has written flushed faults has_room terms known version script of (Ok tt) old middle before after replied
        room),
  )
