-- What is known of the work on a script, by its status.
use Rattle.std.proofs.Common.{◌≡◌, ◌≢◌, inl, inr, ℕ, List, [], ◌∷◌, ◌++◌, Option, None, Some, Contains, refl, sym, ap, subst, append-nil, arith, ◌∙◌}
use Rattle.std.specs.Prelude.{IfSome}
use Rattle.std.specs.Io.KnownBytes.{Appends}
use Rattle.trail.specs.State.{Account}
use Rattle.command.specs.Forms.{HasNoForm, Text}
use Rattle.reading.specs.declared.refusal.Quantity.TheVariants.{Bytes}
use Rattle.qscript.specs.declared.command.Command.{Command as ScriptCommand}
use Rattle.versions.specs.declared.version.Version.{Version}
use Rattle.qscript.specs.Reads.{Ending as ScriptEnding, ReadsScript, done, limit as script_limit, refused as script_refused}
use Rattle.solve.specs.Outputs.{says}
use Rattle.session.specs.Scripts.{AreAnswered, AreFirst, EndsScript, IsReadOut, IsScriptEnding, start_in}
use Rattle.files.specs.Solve.{HasAnswer}
use Rattle.solve.specs.declared.ending.Ending.{Ending}
use Rattle.solve.specs.declared.ending.Ending.TheVariants.{Done, Refused, Limit, CheckLimit, ReadFault, WriteFault, NoMemory}
use Rattle.program.specs.declared.ending.RunEnding.TheVariants.{Worked}
use Rattle.program.specs.Asked.{AskedScript}
use Rattle.program.specs.Asked.Task.{script_task}
use Rattle.program.specs.Run.{EndsIn, IsErrorLine, IsLimitedScript, IsRefusedScript, IsVerdict, line_of, status_of}
use Rattle.program.specs.Told.{IsScriptOutput}
use Rattle.program.specs.Work.{IsReplied}
use Rattle.program.proofs.Asking.{AsksFor, asked_script, has_form}
use Rattle.program.proofs.Solving.{Content, other_verdict, plain_line, plain_verdict, some_map}
use Rattle.program.proofs.Statuses.{absent, no_answer}
use Rattle.solve.specs.Terms.{Terms}

nothing_more : (w : Option Text) → Appends w w []
nothing_more None = tt
nothing_more (Some x) = sym (append-nil x)

-- each text is a script
abbrev pub HaveReadings : Type 0
HaveReadings = (text : Text) → (version : Option Version) × (commands : List ScriptCommand) × (e : ScriptEnding)
    × ReadsScript text version commands e

-- the version that a text's header names
abbrev named : HaveReadings → Option Text → Option Version
named reads None = None
named reads (Some text) = (reads text).0

first_none : (reads : HaveReadings) (known : Option Text) → IfSome known (λ text. AreFirst text (named reads known) [])
first_none reads None = tt
first_none reads (Some text) = let r = reads text in (r.1, r.2, r.3)

-- without any command nothing is written or told
pub untouched : (terms : Terms) (known w : Option Text) (told : List Account) (e : Ending) → HaveReadings
    → (IsReadOut e → ⊥) → EndsScript e → AreAnswered terms known (w, w) (told, told) e
untouched terms known w told e reads early ends = record {
  version = named reads known;
  commands = [];
  out = says [];
  after = start_in (named reads known);
  allowed = (refl, refl);
  first = first_none reads known;
  all = λ h. absurd (early h);
  front = record { count = 0; within = omega arith; appended = nothing_more w };
  whole = λ _. nothing_more w;
  told = sym (append-nil told);
  ends = ends;
}

-- the input can't be chosen
pub unchosen : (terms : Terms) (known left w : Option Text) (told : List Account) → HaveReadings
    → IsReplied terms known left (w, w) (told, told) ReadFault
unchosen terms known left w told reads = record {
  ending = by known;
  status = λ s is. absurd (let same : ReadFault ≡ Done s = is in cc);
  read = λ h. absurd h;
  answered = untouched terms known w told ReadFault reads (λ h. h) tt;
}
  where
    by : (known : Option Text) → IfSome known (λ text. IsScriptEnding text ReadFault)
    by None = tt
    by (Some text) = tt

-- what a script leaves on the output
module _ (terms : Terms) (known : Option Text) (output : Option Text × Option Text) (told : List Account × List Account)
    (empty : told.0 ≡ []) where
  with_status : (f : Ending) (n : ℕ) → AreAnswered terms known output told f
      → (Contains (0 ∷ 2 ∷ 6 ∷ []) n → IsReadOut f) → (n ≢ 4 → f ≢ WriteFault)
      → IsScriptOutput terms known output told.1 n
  with_status f n so all whole = record {
    version = so.version;
    commands = so.commands;
    out = so.out;
    after = so.after;
    allowed = so.allowed;
    first = so.first;
    all = λ h. so.all (all h);
    front = so.front;
    whole = λ h. so.whole (whole h);
    told = so.told ∙ ap (λ before. before ++ so.out.stops) empty;
  }

  pub script_output : (f : Ending) → AreAnswered terms known output told f
      → IsScriptOutput terms known output told.1 (status_of (Worked f))
  script_output (Done s) so =
      with_status (Done s) s so (λ _. tt) (λ _ is. absurd (let same : Done s ≡ WriteFault = is in cc))
  script_output (Refused number at) so =
      with_status (Refused number at) 2 so (λ _. tt)
      (λ _ is. absurd (let same : Refused number at ≡ WriteFault = is in cc))
  script_output (Limit quantity at) so =
      with_status (Limit quantity at) 6 so (λ _. tt)
      (λ _ is. absurd (let same : Limit quantity at ≡ WriteFault = is in cc))
  script_output (CheckLimit quantity) so = absurd so.ends
  script_output ReadFault so =
      with_status ReadFault 3 so (λ h. absent (0 ∷ 2 ∷ 6 ∷ []) 3 refl h)
      (λ _ is. absurd (let same : ReadFault ≡ WriteFault = is in cc))
  script_output WriteFault so =
      with_status WriteFault 4 so (λ h. absent (0 ∷ 2 ∷ 6 ∷ []) 4 refl h) (λ four. absurd (four refl))
  script_output NoMemory so =
      with_status NoMemory 5 so (λ h. absent (0 ∷ 2 ∷ 6 ∷ []) 5 refl h)
      (λ _ is. absurd (let same : NoMemory ≡ WriteFault = is in cc))

module _ (words : List Text) (content : Content) (left : Option Text) (output : Option Text × Option Text)
    (told : List Account × List Account) (terms : Terms) (input : Text)
    (asks : AsksFor words (script_task terms input)) where
  -- what is so of the text is so of the input that was asked for
  asked : (P : Terms → Text → Type 0) → IfSome (content input) (P terms) → AskedScript words content P
  asked P h = asked_script words (script_task terms input) asks content P h

  some_form : HasNoForm words → ⊥
  some_form none = has_form words (script_task terms input) asks none

  -- a script that ends well
  well : (s : ℕ) → s ≡ 0 → IfSome (content input) (λ text. IsScriptEnding text (Done s))
      → IsVerdict words content s
  well s zero_is ending = record {
    sat = λ h. absurd (omega (arith, h, zero_is));
    unsat = λ h. absurd (omega (arith, h, zero_is));
    unknown = λ _. inl (inl (inr good));
    slow = λ _. inl (inl (inr good));
    solved = λ _. inl (inl (inr (asked (λ n text. (s ≡ 0) × EndsIn text done)
        (some_map _ (λ text. IsScriptEnding text (Done s)) (λ text. (s ≡ 0) × EndsIn text done)
        (λ text e. (e.0, (e.1, e.2))) ending))));
    refused = λ h. absurd (omega (arith, h, zero_is));
    limit = λ h. absurd (omega (arith, h, zero_is));
    usage = λ h. absurd (omega (arith, h, zero_is));
    unasked = λ none. absurd (some_form none);
  }
    where
      good : AskedScript words content (λ n text. EndsIn text done)
      good = asked (λ n text. EndsIn text done)
          (some_map _ (λ text. IsScriptEnding text (Done s)) (λ text. EndsIn text done) (λ text e. (e.1, e.2)) ending)

  pub script_verdict : (f : Ending) → IsReplied terms (content input) left output told f
      → IsVerdict words content (status_of (Worked f))
  script_verdict (Done s) so = well s (so.status s refl) so.ending
  script_verdict (Refused number at) so =
      other_verdict words content 2 refl
      (λ _. inr (asked (λ n text. IsRefusedScript text)
      (some_map _ (λ text. EndsIn text (script_refused number at)) IsRefusedScript (λ text h. (number, at, h))
      so.ending)))
      (λ e. absurd (omega (arith, e))) (λ e. absurd (omega (arith, e))) (λ none. absurd (some_form none))
  script_verdict (Limit quantity at) so =
      other_verdict words content 6 refl (λ e. absurd (omega (arith, e)))
      (λ _. inl (inr (asked (λ n text. IsLimitedScript text)
      (some_map _ (λ text. IsScriptEnding text (Limit quantity at)) IsLimitedScript (λ text h. (at, (h.1, h.2)))
      so.ending))))
      (λ e. absurd (omega (arith, e))) (λ none. absurd (some_form none))
  script_verdict (CheckLimit quantity) so = absurd so.answered.ends
  script_verdict ReadFault so =
      plain_verdict words content 3 refl (λ e. omega (arith, e)) (λ e. omega (arith, e)) (λ e. omega (arith, e))
      some_form
  script_verdict WriteFault so =
      plain_verdict words content 4 refl (λ e. omega (arith, e)) (λ e. omega (arith, e)) (λ e. omega (arith, e))
      some_form
  script_verdict NoMemory so =
      plain_verdict words content 5 refl (λ e. omega (arith, e)) (λ e. omega (arith, e)) (λ e. omega (arith, e))
      some_form

  pub script_line : (f : Ending) → IsReplied terms (content input) left output told f
      → IsErrorLine words content (status_of (Worked f)) (line_of (Worked f))
  script_line (Done s) so =
      let zero_is : s ≡ 0 = so.status s refl in
      subst (λ n. IsErrorLine words content n []) (sym zero_is)
      (plain_line words content 0 [] (λ e. omega (arith, e)) (λ e. omega (arith, e)) refl)
  script_line (Refused number at) so = record {
    refused = λ _.
        (number, at, refl, inr (asked (λ n text. EndsIn text (script_refused number at)) so.ending));
    limit = λ h. absurd (omega (arith, h));
    other = λ n _ _. absurd (n refl);
  }
  script_line (Limit quantity at) so = record {
    refused = λ h. absurd (omega (arith, h));
    limit = λ _. inl (
      quantity,
      at,
      refl,
      inr (asked (λ n text. (quantity ≡ Bytes) × EndsIn text (script_limit at))
          (some_map _ (λ text. IsScriptEnding text (Limit quantity at))
          (λ text. (quantity ≡ Bytes) × EndsIn text (script_limit at)) (λ text h. (h.0, (h.1, h.2))) so.ending)),
    );
    other = λ _ n _. absurd (n refl);
  }
  script_line (CheckLimit quantity) so = absurd so.answered.ends
  script_line ReadFault so = plain_line words content 3 _ (λ e. omega (arith, e)) (λ e. omega (arith, e)) refl
  script_line WriteFault so = plain_line words content 4 _ (λ e. omega (arith, e)) (λ e. omega (arith, e)) refl
  script_line NoMemory so = plain_line words content 5 _ (λ e. omega (arith, e)) (λ e. omega (arith, e)) refl

  pub script_read : (f : Ending) → IsReplied terms (content input) left output told f
      → HasAnswer (status_of (Worked f)) → AskedScript words content (λ n text. left ≡ Some [])
  script_read (Done s) so h = asked (λ n text. left ≡ Some []) (so.read tt)
  script_read (Refused number at) so h = no_answer 2 refl h
  script_read (Limit quantity at) so h = no_answer 6 refl h
  script_read (CheckLimit quantity) so h = no_answer 6 refl h
  script_read ReadFault so h = no_answer 3 refl h
  script_read WriteFault so h = no_answer 4 refl h
  script_read NoMemory so h = no_answer 5 refl h
