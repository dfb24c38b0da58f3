-- Replies to the commands of a script, one after the other.
use Rattle.std.proofs.Common.{◌≡◌, ℕ, true, false, List, [], ◌∷◌, ◌++◌, Option, Some, None, Result, Ok, Err, refl, sym, ap, ap₂, subst, ◌∙◌, append_assoc, append-nil}
use Rattle.std.specs.Io.KnownBytes.{IsAtEnd}
use Rattle.std.specs.Prelude.{IfSome, is_some}
use Rattle.trail.specs.State.{Account}
use Rattle.reading.specs.declared.refusal.ReadRefusal.{ReadRefusal}
use Rattle.reading.specs.declared.refusal.ReadRefusal.TheVariants.{Refused as Malformed, Limit as Beyond, ReadFault as Unreadable, NoMemory as NoRoom}
use Rattle.ports.specs.Writing.{Wrote}
use Rattle.ports.proofs.Pieces.{nothing, part_then, whole_then}
use Rattle.engine.specs.State.{EngineState}
use Rattle.qscript.specs.declared.command.Command.{Command}
use Rattle.qscript.specs.Run.{Script}
use Rattle.qscript.specs.State.{IsDone, IsFirst, IsRefusal}
use Rattle.solve.specs.declared.ending.Ending.{Ending}
use Rattle.solve.specs.declared.ending.Ending.TheVariants.{Done, Limit, CheckLimit, NoMemory, ReadFault, Refused, WriteFault}
use Rattle.solve.specs.Endings.{ending_for}
use Rattle.session.specs.Replies.{IsReply, Leads, joined}
use Rattle.solve.specs.Outputs.{Output, Text, says}
use Rattle.session.specs.Scripts.{Answers, IsLeftAt, IsSentAt, IsUnderWay}
use Rattle.solve.specs.Standing.{Standing}
use Rattle.solve.specs.Holding.{Holds}
use Rattle.session.specs.Steps.{Goes}
use Rattle.solve.specs.Terms.{Terms}

output_is : (t u : Text) (l m : List Account) → t ≡ u → l ≡ m
    → ◌≡◌ {A = Output} (record { text = t; stops = l }) (record { text = u; stops = m })
output_is t u l m first second = ap₂ (λ (t : Text) (l : List Account). record { text = t; stops = l }) first second

-- one reply more
leads_on : (terms : Terms) (s : Standing) (commands : List Command) (out : Output) (middle : Standing) (c : Command)
    (reply : Output) (after : Standing) → Leads terms s commands out middle → IsReply terms middle c reply after
    → Leads terms s (commands ++ c ∷ []) (joined out reply) after
leads_on terms s [] out middle c reply after leads is = (
  reply,
  says [],
  after,
  ap (λ o. joined o reply) leads.0
      ∙ output_is _ _ _ _ (sym (append-nil reply.text)) (sym (append-nil reply.stops)),
  subst (λ t. IsReply terms t c reply after) leads.1 is,
  (refl, refl),
)
leads_on terms s (d ∷ ds) out middle c reply after leads is = (
  leads.0,
  joined leads.1 reply,
  leads.2,
  ap (λ o. joined o reply) leads.3
      ∙ output_is _ _ _ _ (append_assoc leads.0.text leads.1.text reply.text)
      (append_assoc leads.0.stops leads.1.stops reply.stops),
  leads.4,
  leads_on terms leads.2 ds leads.1 middle c reply after leads.5 is,
)

-- the first command of what is left
first_on : (script before after : Option Script) (commands : List Command) (c : Command)
    → IfSome script (λ all. (rest : Script) × (all ≡ (commands ++ rest.0, rest.1)) × (before ≡ Some rest))
    → IsFirst c before after
    → IfSome script (λ all. (rest : Script) × (all ≡ ((commands ++ c ∷ []) ++ rest.0, rest.1)) × (after ≡ Some rest))
first_on None before after commands c so_far is = tt
first_on (Some all) before after commands c so_far is =
    let rest = so_far.0 in
    let next = subst (λ b. IsFirst c b after) so_far.2 is in (
      next.0,
      so_far.1 ∙ ap (λ (r : Script). (commands ++ r.0, r.1)) next.1
          ∙ ap (λ (cs : List Command). (cs, next.0.1)) (sym (append_assoc commands (c ∷ []) next.0.0)),
      next.2,
    )

-- what is left, by what the reader said of it
left_as : (script before : Option Script) (commands : List Command) (P Q : Script → Type 0)
    → IfSome script (λ all. (rest : Script) × (all ≡ (commands ++ rest.0, rest.1)) × (before ≡ Some rest))
    → IfSome before P → ((r : Script) → P r → Q r)
    → IfSome script (λ all. (rest : Script) × (all ≡ (commands ++ rest.0, rest.1)) × Q rest)
left_as None before commands P Q so_far is then = tt
left_as (Some all) before commands P Q so_far is then =
    (so_far.0, so_far.1, then so_far.0 (subst (λ b. IfSome b P) so_far.2 is))

left_any : (script before : Option Script) (commands : List Command) (Q : Script → Type 0)
    → IfSome script (λ all. (rest : Script) × (all ≡ (commands ++ rest.0, rest.1)) × (before ≡ Some rest))
    → ((r : Script) → Q r) → IfSome script (λ all. (rest : Script) × (all ≡ (commands ++ rest.0, rest.1)) × Q rest)
left_any None before commands Q so_far is = tt
left_any (Some all) before commands Q so_far is = (so_far.0, so_far.1, is so_far.0)

-- a desk that told what it has left goes on telling
abbrev pub Telling : Option (List ℕ) → Option (List ℕ) → Type 0
Telling before after = IfSome before (λ _. is_some after ≡ true)

pub tells_itself : (a : Option (List ℕ)) → Telling a a
tells_itself None = tt
tells_itself (Some x) = refl

pub tells_on : (a b c : Option (List ℕ)) → Telling a b → Telling b c → Telling a c
tells_on None b c first second = tt
tells_on (Some x) None c first second = absurd (let f : false ≡ true = first in cc)
tells_on (Some x) (Some y) c first second = second

-- at the end nothing is left
pub nothing_left : (a b : Option (List ℕ)) → Telling a b → IsAtEnd b → IfSome a (λ x. b ≡ Some [])
nothing_left None b telling end = tt
nothing_left (Some x) None telling end = absurd (let f : false ≡ true = telling in cc)
nothing_left (Some x) (Some y) telling end = ap Some end

-- no command is to come
pub no_command : (o : Option Command) → ((c : Command) → o ≡ Some c → ⊥) → o ≡ None
no_command None none = refl
no_command (Some c) none = absurd (none c refl)

module _ {S : Type 0} (written flushed : S → Option (List ℕ)) (faults : S → ℕ) (has_room : S → ℕ → Type 0)
    (terms : Terms) (s : Standing) (script : Option Script) where
  abbrev pub UnderWay : Option Script → EngineState → S → S → List Account → List Account → Type 0
  UnderWay to_come e old new first last = IsUnderWay terms s script to_come e
      (λ text. Wrote written flushed faults has_room old new text) (first, last)

  abbrev pub Replied : Result (Unit {0}) Ending → S → S → List Account → List Account → Type 0
  Replied result old new first last = Answers terms s script (IsLeftAt result)
      (λ text. IsSentAt written flushed faults has_room old new text result) (first, last)

  pub begun : (e : EngineState) (sink : S) (stops : List Account) → Holds terms e s → UnderWay script e sink sink
      stops stops
  begun e sink stops holds = record {
    so_far = record {
      commands = [];
      out = says [];
      after = s;
      leads = (refl, refl);
      first = by script;
      sent = nothing written flushed faults has_room sink;
      told = sym (append-nil stops);
    };
    holds = holds;
  }
    where
      by : (o : Option Script) → IfSome o (λ all. (rest : Script) × (all ≡ ([] ++ rest.0, rest.1)) × (o ≡ Some rest))
      by None = tt
      by (Some all) = (all, refl, refl)

  pub gone_on : (before after : Option Script) (c : Command) (e f : EngineState) (old middle new : S)
      (first between last : List Account) → (way : UnderWay before e old middle first between)
      → IsFirst c before after
      → ((t : Standing) → Holds terms e t → Goes written flushed faults has_room terms c t middle new f (between, last)
      (Ok tt)) → UnderWay after f old new first last
  gone_on before after c e f old middle new first between last way is goes =
      let far = way.so_far in
      let go = goes far.after way.holds in
      record {
        so_far = record {
          commands = far.commands ++ c ∷ [];
          out = joined far.out go.0;
          after = go.1;
          leads = leads_on terms s far.commands far.out far.after c go.0 go.1 far.leads go.2;
          first = first_on script before after far.commands c far.first is;
          sent = whole_then written flushed faults has_room old middle new far.out.text go.0.text far.sent go.3;
          told = go.4 ∙ ap (λ l. l ++ go.0.stops) far.told ∙ append_assoc first far.out.stops go.0.stops;
        };
        holds = go.5;
      }

  -- the reader refuses
  pub refused_at : (before : Option Script) (e : EngineState) (old new : S) (first last : List Account)
      → UnderWay before e old new first last → (r : ReadRefusal) → IsRefusal r before
      → Replied (Err (ending_for r)) old new first last
  refused_at before e old new first last way (Malformed number line) is = let far = way.so_far in record {
    commands = far.commands;
    out = far.out;
    after = far.after;
    leads = far.leads;
    first = left_as script before far.commands _ _ far.first is (λ r same. same);
    sent = far.sent;
    told = far.told;
  }
  refused_at before e old new first last way (Beyond quantity line) is = let far = way.so_far in record {
    commands = far.commands;
    out = far.out;
    after = far.after;
    leads = far.leads;
    first = left_as script before far.commands _ _ far.first is.1 (λ r same. (is.0, same));
    sent = far.sent;
    told = far.told;
  }
  refused_at before e old new first last way Unreadable is = let far = way.so_far in record {
    commands = far.commands;
    out = far.out;
    after = far.after;
    leads = far.leads;
    first = left_any script before far.commands _ far.first (λ r. tt);
    sent = far.sent;
    told = far.told;
  }
  refused_at before e old new first last way NoRoom is = let far = way.so_far in record {
    commands = far.commands;
    out = far.out;
    after = far.after;
    leads = far.leads;
    first = left_any script before far.commands _ far.first (λ r. tt);
    sent = far.sent;
    told = far.told;
  }

  -- the script ends
  pub ended : (before after : Option Script) (e : EngineState) (old new : S) (first last : List Account)
      → UnderWay before e old new first last → IsDone before after → Replied (Ok tt) old new first last
  ended before after e old new first last way is = let far = way.so_far in record {
    commands = far.commands;
    out = far.out;
    after = far.after;
    leads = far.leads;
    first = left_as script before far.commands _ _ far.first is (λ r both. both.0);
    sent = far.sent;
    told = far.told;
  }

  -- a reply fails
  pub failed_at : (before after : Option Script) (c : Command) (e f : EngineState) (old middle new : S)
      (first between last : List Account) → (way : UnderWay before e old middle first between)
      → IsFirst c before after → (ending : Ending)
      → ((t : Standing) → Holds terms e t → Goes written flushed faults has_room terms c t middle new f (between, last)
      (Err ending)) → Replied (Err ending) old new first last
  failed_at before after c e f old middle new first between last way is WriteFault goes =
      let far = way.so_far in
      let go = goes far.after way.holds in
      record {
        commands = far.commands ++ c ∷ [];
        out = joined far.out go.0;
        after = go.1;
        leads = leads_on terms s far.commands far.out far.after c go.0 go.1 far.leads go.2;
        first = left_any script after (far.commands ++ c ∷ []) _
            (first_on script before after far.commands c far.first is) (λ r. tt);
        sent = part_then written flushed faults has_room old middle new far.out.text go.0.text far.sent go.3;
        told = go.4 ∙ ap (λ l. l ++ go.0.stops) far.told ∙ append_assoc first far.out.stops go.0.stops;
      }
  failed_at before after c e f old middle new first between last way is NoMemory goes =
      let far = way.so_far in
      let go = goes far.after way.holds in
      record {
        commands = far.commands;
        out = far.out;
        after = far.after;
        leads = far.leads;
        first = left_any script before far.commands _ far.first (λ r. tt);
        sent = subst (Wrote written flushed faults has_room old new) (append-nil far.out.text)
            (whole_then written flushed faults has_room old middle new far.out.text [] far.sent go.0);
        told = go.1 ∙ far.told;
      }
  failed_at before after c e f old middle new first between last way is (Done status) goes =
      absurd (goes way.so_far.after way.holds)
  failed_at before after c e f old middle new first between last way is (Refused number line) goes =
      absurd (goes way.so_far.after way.holds)
  failed_at before after c e f old middle new first between last way is (Limit quantity line) goes =
      absurd (goes way.so_far.after way.holds)
  failed_at before after c e f old middle new first between last way is (CheckLimit quantity) goes =
      absurd (goes way.so_far.after way.holds)
  failed_at before after c e f old middle new first between last way is ReadFault goes =
      absurd (goes way.so_far.after way.holds)
