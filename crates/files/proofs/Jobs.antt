-- Replies to jobs on one formula.
use Rattle.std.proofs.Common.{◌≡◌, ℕ, ◌-◌, Bool, true, false, List, [], ◌++◌, length, Option, Some, None, Result, Ok, Err, refl, sym, ap, subst, ◌∙◌, arith, append-nil}
use Rattle.std.specs.Prelude.{◌≤◌, IfErr, IfOk, IfSome, IsErrOf, IsOk, MatchResult, OnOk}
use Rattle.std.specs.Io.KnownBytes.{Appends, Keeps}
use Rattle.std.proofs.KnownBytes.{Appends-kept}
use Rattle.ports.specs.Bytes.{AllFlushed}
use Rattle.ports.specs.Causes.{IsCounted, Rose}
use Rattle.qdimacs.specs.Rules.{parsed}
use Rattle.truth.specs.declared.formula.Formula.{Formula}
use Rattle.trail.specs.State.{Account}
use Rattle.calculus.specs.Limits.{weight_bound}
use Rattle.frames.specs.State.{OpenFormula}
use Rattle.search.specs.Counting.{size_of}
use Rattle.aig.specs.declared.strategy.Strategy.{Strategy}
use Rattle.ports.specs.Writing.{Wrote, Writes}
use Rattle.ports.specs.declared.failed.Failed.{Failed}
use Rattle.solve.specs.declared.answer.Answer.{Answer}
use Rattle.solve.specs.declared.answer.Answer.TheVariants.{Sat, Unsat, Unknown}
use Rattle.solve.specs.declared.ending.Ending.{Ending}
use Rattle.solve.specs.declared.ending.Ending.TheVariants.{Done, Refused, Limit, CheckLimit, ReadFault, WriteFault, NoMemory}
use Rattle.files.specs.declared.job.Job.{Job}
use Rattle.files.specs.declared.job.Job.TheVariants.{Solve, Qdo, Trace, Cert}
use Rattle.files.specs.Endings.{IsUnread, ending_with}
use Rattle.solve.specs.Feeding.{opened}
use Rattle.files.specs.Inputs.{Says, format_of}
use Rattle.solve.specs.Decisions.{IsAnsweredBy, answer_with, unassumed}
use Rattle.files.specs.Jobs.{HasVerdictText, IsJobText, IsReplyTo, IsUntouched, HasVerdict, LeavesOutput, RepliesTo, RoomForJob, WritesJob, gates_for, solution_line, value_lines}
use Rattle.solve.specs.Outputs.{Text}
use Rattle.solve.specs.Traces.{IsTraceText}
use Rattle.solve.specs.Certificates.{AllReached, Certifies, Denotes, gates_after}
use Rattle.solve.specs.Answers.{answer_line}
use Rattle.solve.specs.Endings.{IsDone}
use Rattle.files.specs.Solve.{IsEnding, Solves}
use Rattle.solve.specs.Standing.{IsWitness, Standing}
use Rattle.solve.specs.Entries.{AddsEntry, IsStopAt}
use Rattle.solve.proofs.Written.{flushed_kept, front_all, some_map}
use Rattle.solve.specs.Outside.{SendsReply}
use Rattle.solve.specs.Terms.{Terms}
use Rattle.solve.proofs.Answering.{Decided}

-- a trace of the verdict of a formula
module _ (terms : Terms) (f : Formula) (s : Standing) (text : Text)
    (told : IfSome s.script.verdict
    (λ given. IsTraceText s.script.formula.scopes given.truth s.witness.proof text)) where
  trace_of : (t : Bool) → s.script.formula ≡ opened f → s.script.verdict ≡ Some (unassumed t)
      → IsWitness (opened f) (unassumed t) s.witness → HasVerdictText Trace terms f t text
  trace_of t formula verdict witness =
      let is = subst (λ o. IfSome o (λ given. IsTraceText s.script.formula.scopes given.truth s.witness.proof text))
      verdict told in
      record {
        witness = s.witness;
        is_witness = witness;
        says = subst (λ (g : OpenFormula). IsTraceText g.scopes t s.witness.proof text) formula is;
      }

  pub traced : (t : Bool) → IsAnsweredBy f (answer_with t) s → IsJobText Trace terms f (answer_with t) text
  traced true is = trace_of true is.formula is.verdict.0 is.verdict.1
  traced false is = trace_of false is.formula is.verdict.0 is.verdict.1

-- a text of a circuit that certifies the verdict of a formula
module _ (terms : Terms) (f : Formula) (s : Standing) (binary trim : Bool) (strategy : Strategy) (text : Text)
    (denotes : Denotes binary text strategy) (reached : trim ≡ true → AllReached strategy)
    (certifies : IfSome s.script.verdict
    (λ given. Certifies s.script.formula given s.witness.values (gates_after terms s.script) strategy)) where
  certificate_of : (t : Bool) → gates_after terms s.script ≡ gates_for terms f → s.script.formula ≡ opened f
      → s.script.verdict ≡ Some (unassumed t) → IsWitness (opened f) (unassumed t) s.witness
      → HasVerdictText (Cert binary trim) terms f t text
  certificate_of t gates formula verdict witness =
      let told = subst (λ o. IfSome o (λ given. Certifies s.script.formula given s.witness.values
      (gates_after terms s.script) strategy)) verdict certifies in
      record {
        witness = s.witness;
        is_witness = witness;
        says = record {
          strategy = strategy;
          denotes = denotes;
          certifies = subst (λ n. Certifies (opened f) (unassumed t) s.witness.values n strategy) gates
              (subst (λ g. Certifies g (unassumed t) s.witness.values (gates_after terms s.script) strategy) formula
              told);
          reached = reached;
        };
      }

  gates_are : (a : Answer) → IsAnsweredBy f a s → gates_after terms s.script ≡ gates_for terms f
  gates_are a is =
      ap (λ c. weight_bound c s.script.solves terms.budget terms.greatest s.script.greatest) is.clauses
      ∙ ap (λ k. weight_bound (length f.clauses) k terms.budget terms.greatest s.script.greatest) is.solves
      ∙ ap (weight_bound (length f.clauses) 1 terms.budget terms.greatest) is.greatest

  pub certified : (t : Bool) → IsAnsweredBy f (answer_with t) s
      → IsJobText (Cert binary trim) terms f (answer_with t) text
  certified true is = certificate_of true (gates_are Sat is) is.formula is.verdict.0 is.verdict.1
  certified false is = certificate_of false (gates_are Unsat is) is.formula is.verdict.0 is.verdict.1

-- the line of a verdict is the text of a solve
pub solved : (terms : Terms) (f : Formula) (a : Answer) (s : Standing) → IsAnsweredBy f a s
    → IsJobText Solve terms f a (answer_line a)
solved terms f Sat s is = record { witness = s.witness; is_witness = is.verdict.1; says = refl }
solved terms f Unsat s is = record { witness = s.witness; is_witness = is.verdict.1; says = refl }
solved terms f Unknown s is = refl

-- an answer that isn't unknown is a verdict
pub is_verdict : (a : Answer) → (a ≡ Unknown → ⊥) → HasVerdict a
is_verdict Sat apart = tt
is_verdict Unsat apart = tt
is_verdict Unknown apart = absurd (apart refl)

-- a verdict is the answer with a truth
pub with_truth : (P : Answer → Type 0) → ((t : Bool) → P (answer_with t)) → (a : Answer) → HasVerdict a → P a
with_truth P each Sat there = each true
with_truth P each Unsat there = each false
with_truth P each Unknown there = absurd there

pub is_told : (t : Bool) → HasVerdict (answer_with t)
is_told true = tt
is_told false = tt

module _ {S : Type 0} (written flushed : S → Option (List ℕ)) (faults : S → ℕ) (has_room : S → ℕ → Type 0) where
  -- the lines of a result are written, or a front of them before a fault
  pub result_sent : (terms : Terms) (f : Formula) (a : Answer) (s : Standing) (old new : S)
      (r : Result (Unit {0}) Failed)
      → HasVerdict a → IsAnsweredBy f a s → ((truth : Bool) → s.script.formula ≡ opened f
      → s.script.verdict ≡ Some (unassumed truth) → a ≡ answer_with truth
      → Writes written flushed faults has_room old new
      (solution_line a f ++ value_lines f.prefix truth s.witness.values) r)
      → MatchResult r (λ _. WritesJob written flushed faults has_room Qdo terms f a old new (Ok tt))
      (λ _. WritesJob written flushed faults has_room Qdo terms f a old new (Err WriteFault))
  result_sent terms f Sat s old new r there is writes = by r (writes true is.formula is.verdict.0 refl)
    where
      text : Text
      text = solution_line Sat f ++ value_lines f.prefix true s.witness.values

      says : HasVerdictText Qdo terms f true text
      says = record { witness = s.witness; is_witness = is.verdict.1; says = refl }

      by : (r : Result (Unit {0}) Failed) → Writes written flushed faults has_room old new text r
          → MatchResult r (λ _. WritesJob written flushed faults has_room Qdo terms f Sat old new (Ok tt))
          (λ _. WritesJob written flushed faults has_room Qdo terms f Sat old new (Err WriteFault))
      by (Ok u) w = (text, says, w)
      by (Err e) w = (text, says, w)
  result_sent terms f Unsat s old new r there is writes = by r (writes false is.formula is.verdict.0 refl)
    where
      text : Text
      text = solution_line Unsat f ++ value_lines f.prefix false s.witness.values

      says : HasVerdictText Qdo terms f false text
      says = record { witness = s.witness; is_witness = is.verdict.1; says = refl }

      by : (r : Result (Unit {0}) Failed) → Writes written flushed faults has_room old new text r
          → MatchResult r (λ _. WritesJob written flushed faults has_room Qdo terms f Unsat old new (Ok tt))
          (λ _. WritesJob written flushed faults has_room Qdo terms f Unsat old new (Err WriteFault))
      by (Ok u) w = (text, says, w)
      by (Err e) w = (text, says, w)
  result_sent terms f Unknown s old new r there is writes = absurd there

  -- a line is written
  pub line_sent : (job : Job) (terms : Terms) (f : Formula) (a : Answer) (text : Text) (old new : S)
      → IsJobText job terms f a text → Wrote written flushed faults has_room old new text
      → WritesJob written flushed faults has_room job terms f a old new (Ok tt)
  line_sent job terms f a text old new is wrote = (text, is, wrote)

  -- What a job leaves where its text was not written.
  pub untouched : (old new : S) → Wrote written flushed faults has_room old new [] → IsUntouched written faults old new
  untouched old new wrote = record { kept = by (written old) (written new) wrote.appended; no_fault = wrote.no_fault }
    where
      by : (a b : Option (List ℕ)) → Appends a b [] → Keeps a b
      by None b h = tt
      by (Some x) None h = absurd h
      by (Some x) (Some y) h = h ∙ append-nil x

  no_entry : (terms : Terms) (n : ℕ) (a : Answer) (old new : List Account) → HasVerdict a
      → AddsEntry (IsStopAt terms n) old new a → new ≡ old
  no_entry terms n Sat old new there e = e
  no_entry terms n Unsat old new there e = e
  no_entry terms n Unknown old new there e = absurd there

  module _ (job : Job) (terms : Terms) (f : Formula) (a : Answer) (told : List Account) (s : Standing)
      (d : Decided terms f a told s) (old : S) (before after : List Account) (entries : after ≡ before ++ told) where
    reply_is : (text : Text) → IsJobText job terms f a text → IsReplyTo job terms f (before, after) a text
    reply_is text says = record {
      right = d.right;
      says = says;
      told = subst (λ l. AddsEntry (IsStopAt terms (size_of f.prefix)) before l a) (sym entries) (d.entry before);
    }

    pub reply_failed : (new : S) (e : Ending) → WritesJob written flushed faults has_room job terms f a old new (Err e)
        → RepliesTo written flushed faults has_room job terms f old new (before, after) (Err e)
    reply_failed new WriteFault w = (
      a,
      w.0,
      reply_is w.0 w.1,
      record {
        front = w.2.front;
        later = w.2.later;
        rose = w.2.rose;
        no_room = λ room. w.2.no_room (length w.0) (omega arith) room;
      },
    )
    reply_failed new NoMemory w = (
      untouched old new w.1,
      no_entry terms (size_of f.prefix) a before after w.0
          (subst (λ l. AddsEntry (IsStopAt terms (size_of f.prefix)) before l a) (sym entries) (d.entry before)),
    )
    reply_failed new (Done status) w = absurd w
    reply_failed new (Refused number line) w = absurd w
    reply_failed new (Limit quantity line) w = absurd w
    reply_failed new (CheckLimit quantity) w = absurd w
    reply_failed new ReadFault w = absurd w

    module _ (middle new : S) (w : WritesJob written flushed faults has_room job terms f a old middle (Ok tt))
        (kept : Keeps (written middle) (written new)) where
      pub reply_flushed : AllFlushed (written new) (flushed middle) (flushed new) → faults new ≡ faults middle
          → RepliesTo written flushed faults has_room job terms f old new (before, after) (Ok a)
      reply_flushed all same = (
        w.0,
        reply_is w.0 w.1,
        record {
          appended = Appends-kept (written old) (written middle) (written new) w.0 w.2.appended kept;
          all_flushed = flushed_kept (flushed old) (flushed middle) (flushed new) (written new) w.2.kept all;
          no_fault = same ∙ w.2.no_fault;
        },
      )

      pub flush_failed : faults middle ≤ faults new → Rose (faults middle) (faults new)
          → ((n : ℕ) → has_room middle n → ⊥)
          → RepliesTo written flushed faults has_room job terms f old new (before, after) (Err WriteFault)
      flush_failed later rose no_room = (
        a,
        w.0,
        reply_is w.0 w.1,
        record {
          front = front_all (written old) (written new) w.0
              (Appends-kept (written old) (written middle) (written new) w.0 w.2.appended kept);
          later = let same = w.2.no_fault in omega arith;
          rose = subst (λ n. Rose n (faults new)) w.2.no_fault rose;
          no_room = λ room. no_room (length w.0 - length w.0) (w.2.room (length w.0) (omega arith) room);
        },
      )

-- What the work on an input comes to, of which this formula was read.
module _ {S : Type 0} (written flushed : S → Option (List ℕ)) (faults : S → ℕ) (has_room : S → ℕ → Type 0) (job : Job)
    (terms : Terms) (known : Option Text) (f : Formula)
    (reads : IfSome known (λ bytes. Says (format_of job) bytes (parsed f))) (old new : S) (before after : List
    Account) where
  abbrev pub Came : Result Answer Ending → Type 0
  Came r = RepliesTo written flushed faults has_room job terms f old new (before, after) r

  known_as : (P Q : Text → Type 0) → ((text : Text) → P text → Q text) → IfSome known P → IfSome known Q
  known_as P Q by h = some_map known P Q by h

  pub answers_known : (r : Result Answer Ending) → Came r
      → IfOk r (λ a. IfSome known (λ text. Solves (format_of job) terms text a))
  answers_known (Ok a) came = known_as _ _ (λ text read. (f, read, came.1.right)) reads
  answers_known (Err e) came = tt

  pub ending_known : (r : Result Answer Ending) → Came r
      → IfErr r (λ e. ¬ IsDone e × IfSome known (λ text. IsEnding (format_of job) terms text e))
  ending_known (Ok a) came = tt
  ending_known (Err WriteFault) came = (λ h. h, known_as _ _ (λ text read. tt) reads)
  ending_known (Err NoMemory) came = (λ h. h, known_as _ _ (λ text read. tt) reads)
  ending_known (Err (Done status)) came = absurd came
  ending_known (Err (Refused number line)) came = absurd came
  ending_known (Err (Limit quantity line)) came = absurd came
  ending_known (Err (CheckLimit quantity)) came = absurd came
  ending_known (Err ReadFault) came = absurd came

  pub no_read_fault : (r : Result Answer Ending) → Came r → IsErrOf r ReadFault → ⊥
  no_read_fault (Ok a) came is = absurd (cc)
  no_read_fault (Err WriteFault) came is = absurd (cc)
  no_read_fault (Err NoMemory) came is = absurd (cc)
  no_read_fault (Err (Done status)) came is = came
  no_read_fault (Err (Refused number line)) came is = came
  no_read_fault (Err (Limit quantity line)) came is = came
  no_read_fault (Err (CheckLimit quantity)) came is = came
  no_read_fault (Err ReadFault) came is = came

  counted_known : (r : Result Answer Ending) → Came r
      → IsCounted (IsErrOf r WriteFault) (IsOk r) (faults old) (faults new)
  counted_known (Ok a) came =
      record {
        later = let same = came.2.no_fault in omega arith;
        rose = λ is. absurd (cc);
        kept =
            λ ok. came.2.no_fault;
      }
  counted_known (Err WriteFault) came = record {
    later = came.3.later;
    rose = λ is. came.3.rose;
    kept = λ ok. absurd
        (cc);
  }
  counted_known (Err NoMemory) came = record {
    later = let same = came.0.no_fault in omega arith;
    rose = λ is. absurd (cc);
    kept = λ ok. absurd (cc);
  }
  counted_known (Err (Done status)) came = absurd came
  counted_known (Err (Refused number line)) came = absurd came
  counted_known (Err (Limit quantity line)) came = absurd came
  counted_known (Err (CheckLimit quantity)) came = absurd came
  counted_known (Err ReadFault) came = absurd came

  room_known : (r : Result Answer Ending) → Came r → RoomForJob job terms known (has_room old)
      → IsErrOf r WriteFault → ⊥
  room_known (Ok a) came room is = absurd (cc)
  room_known (Err WriteFault) came room is =
      came.3.no_room (room f came.0 came.1 reads came.2.right came.2.says)
  room_known (Err NoMemory) came room is = absurd (cc)
  room_known (Err (Done status)) came room is = came
  room_known (Err (Refused number line)) came room is = came
  room_known (Err (Limit quantity line)) came room is = came
  room_known (Err (CheckLimit quantity)) came room is = came
  room_known (Err ReadFault) came room is = came

  pub output_known : (r : Result Answer Ending) → Came r
      → LeavesOutput job terms known (written old, written new) (before, after) (ending_with r)
  output_known (Ok a) came =
      (a, refl, (came.0, record { formula = f; read = reads; reply = came.1 }, came.2.appended))
  output_known (Err WriteFault) came =
      (came.0, came.1, record { formula = f; read = reads; reply = came.2 }, came.3.front)
  output_known (Err NoMemory) came = (came.0.kept, came.1)
  output_known (Err (Done status)) came = absurd came
  output_known (Err (Refused number line)) came = absurd came
  output_known (Err (Limit quantity line)) came = absurd came
  output_known (Err (CheckLimit quantity)) came = absurd came
  output_known (Err ReadFault) came = absurd came

  flushed_known : (r : Result Answer Ending) → Came r
      → OnOk r (AllFlushed (written new) (flushed old) (flushed new))
  flushed_known (Ok a) came = came.2.all_flushed
  flushed_known (Err e) came = tt

  pub sends_known : (r : Result Answer Ending) → Came r
      → SendsReply written flushed faults (RoomForJob job terms known (has_room old)) old new r
  sends_known r came =
      record { counted = counted_known r came; fits = room_known r came; all_flushed = flushed_known r came }

-- nothing is answered where no formula was read
pub unread_undone : (e : Ending) → IsUnread e → ¬ IsDone e
unread_undone (Done status) unread done = unread
unread_undone (Refused number line) unread done = done
unread_undone (Limit quantity line) unread done = done
unread_undone (CheckLimit quantity) unread done = unread
unread_undone ReadFault unread done = done
unread_undone WriteFault unread done = done
unread_undone NoMemory unread done = done
