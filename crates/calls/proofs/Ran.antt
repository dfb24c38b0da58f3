-- What a run over lent texts and buffers comes to.
use Rattle.std.proofs.Common.{◌≡◌, ◌≢◌, ℕ, zero, suc, ◌≤◌, ◌<◌, ◌+◌, List, [], ◌∷◌, Option, Some, Contains, length, take, refl, sym, ◌∙◌, ap, subst, arith}
use Rattle.std.proofs.lemmas.List.{length-take-le, take_all}
use Rattle.std.specs.Io.KnownBytes.{Appends}
use Rattle.ports.specs.Bytes.{AppendsFront}
use Rattle.ports.specs.Causes.{Rose}
use Rattle.command.specs.Forms.{Text}
use Rattle.trail.specs.State.{Account}
use Rattle.program.specs.Asked.{RoomForOutput, SteadyFor, SteadyForInput, Task, task_of}
use Rattle.program.specs.Asked.Task.{job_task, check_task, script_task, text_task}
use Rattle.program.specs.Complete.{IsComplete, IsValid}
use Rattle.program.specs.Run.{IsErrorLine, IsErrorOutput, IsVerdict}
use Rattle.program.specs.Told.{IsOutput}
use Rattle.calls.specs.Calls.{IsRun, each_name}
use Rattle.calls.specs.Lent.{HasRoom, Lent, behind, empty, seen, used_of}
use Rattle.calls.specs.Words.{AreWordsOf}
use Rattle.calls.specs.declared.entry.Done.{Done}
use Rattle.calls.specs.declared.lent_sink.LentSink.{LentSink}
use Rattle.calls.proofs.Marked.{Same, bare, bare_front, bare_output}

-- a desk that never fails is steady for each input
steady_for : (t : Task) → SteadyFor t (λ _. Unit {0})
steady_for (job_task job terms input) = tt
steady_for (check_task decide terms input) = tt
steady_for (script_task terms input) = tt
steady_for (text_task text) = tt

pub steady : (words : List Text) → SteadyForInput words (λ _. Unit {0})
steady words command asks = steady_for (task_of command)

-- what stands in a buffer that is given back, with these bytes of a sink
pub record IsBack (room : ℕ) (bytes new : List ℕ) (count : ℕ) : Type 0 where
  pub front : take count new ≡ bytes
  pub long : length new ≡ room
  pub within : count ≤ length new

-- as many bytes of a list as a front of it has are that front
take_front : (k : ℕ) (xs : List ℕ) → take (length (take k xs)) xs ≡ take k xs
take_front zero xs = refl
take_front (suc k) [] = refl
take_front (suc k) (x ∷ xs) = ap (λ ys. x ∷ ys) (take_front k xs)

-- `new` is what a buffer that was lent under this name ends as, if the sink has it still
pub back : (name room : ℕ) (s : LentSink) (count : ℕ) (new : List ℕ)
    → Same (name, room) ((seen s).name, (seen s).room) → count ≡ length (seen s).bytes → count ≤ (seen s).room
    → (name ≡ s.buffer.ghost_name → new ≡ s.buffer.now) → IsBack room (seen s).bytes new count
back name room s count new same counted within ends =
    let new_is : new ≡ s.buffer.now = ends (sym same.0) in
    record {
      front = ap (λ k. take k new) counted ∙ (ap (take (length (seen s).bytes)) new_is
          ∙ take_front (used_of (length s.buffer.now) s.room) s.buffer.now);
      long = ap length new_is ∙ same.1;
      within = subst (λ n. count ≤ n) (sym (ap length new_is)) within;
    }

-- a count of faults that is 0 didn't rise from it
unrisen : Rose 0 0 → ⊥
unrisen h = omega (arith, h)

-- a front that is as long as the whole is the whole
all_taken : (bytes line : List ℕ) → AppendsFront (Some []) (Some bytes) line → length line ≤ length bytes → bytes ≡ line
all_taken bytes line h long =
    let long_is : length bytes ≡ h.count = ap length h.appended ∙ length-take-le h.count line h.within in
    h.appended ∙ take_all h.count line (omega (arith, long, long_is))

-- an error line that fits is whole
whole_line : (room faults : ℕ) (bytes line : List ℕ) → AppendsFront (Some []) (Some bytes) line
    → (¬ Rose 0 faults → Appends (Some []) (Some bytes) line) → (0 < faults → room ≤ length bytes)
    → length line ≤ room → bytes ≡ line
whole_line room zero bytes line front whole full fits = whole unrisen
whole_line room (suc n) bytes line front whole full fits =
    let filled : room ≤ length bytes = full (omega arith) in
    all_taken bytes line front (omega (arith, filled, fits))

-- what stands over a buffer of some name stands over that of its own
pub over_its_own : (to : Lent) (name room : ℕ) → to ≡ empty name room → to ≡ empty to.name room
over_its_own to name room is = is ∙ ap (λ n. empty n room) (sym (ap (λ (t : Lent). t.name) is))

none_and : (n : ℕ) → 0 + n ≡ n
none_and n = omega arith

-- an empty sink has room for what the buffer is long enough for
has_room_is : (name room : ℕ) → HasRoom (empty name room) ≡ (λ (n : ℕ). n ≤ room)
has_room_is name room = λ i n. none_and n i ≤ room

-- what a sink tells
abbrev pub written_to : Lent → Option (List ℕ)
written_to sink = behind sink.name sink.room sink.bytes

module _ (line text given out error : Text) (words : List Text) (stops : List Account) (status : ℕ) (done : Done)
    (to told errors tells : Lent) where
  pub ran : given ≡ text → AreWordsOf line words → done.status ≡ status → (name room name' room' : ℕ)
      → to ≡ empty name room → errors ≡ empty name' room'
      → IsBack room told.bytes out done.written → IsBack room' tells.bytes error done.said
      → Contains (10 ∷ 20 ∷ 0 ∷ 2 ∷ 3 ∷ 4 ∷ 5 ∷ 6 ∷ 7 ∷ []) status → IsVerdict words (each_name given) status
      → status ≢ 3 → (RoomForOutput words (each_name given) (HasRoom to) → status ≢ 4)
      → (IsValid words (each_name given) → status ≢ 3 → status ≢ 4 → IsComplete words (each_name given) status)
      → IsOutput words (each_name given) (written_to to, written_to told) stops status
      → IsErrorOutput words (each_name given) (errors.faults, tells.faults) (written_to errors) (written_to tells) status
      → (0 < tells.faults → tells.room ≤ length tells.bytes) → tells.room ≡ room'
      → IsRun line text out error done
  ran given_is are status_is name room name' room' to_is errors_is out_back error_back statuses verdict read roomy
      complete output says full same_room =
      let content = each_name given in
      let bare_out : IsOutput words content (Some [], Some told.bytes) stops status =
      bare_output (name, room) (told.name, told.room) told.bytes stops status words content
      (subst (λ (t : Lent). IsOutput words content (written_to t, written_to told) stops status) to_is output) in
      let roomy_here : RoomForOutput words content (λ n. n ≤ room) → status ≢ 4 =
      subst (λ (P : ℕ → Type 0). RoomForOutput words content P → status ≢ 4) (has_room_is name room)
      (subst (λ (t : Lent). RoomForOutput words content (HasRoom t) → status ≢ 4) to_is roomy) in
      let says_here : IsErrorOutput words content (0, tells.faults) (written_to (empty name' room')) (written_to tells)
      status = subst (λ (t : Lent). IsErrorOutput words content (t.faults, tells.faults) (written_to t)
      (written_to tells) status) errors_is says in
      let front : AppendsFront (Some []) (Some tells.bytes) says_here.line =
      bare_front (name', room') (tells.name, tells.room) tells.bytes _ says_here.front in
      let whole : length says_here.line ≤ tells.room → tells.bytes ≡ says_here.line =
      whole_line tells.room tells.faults tells.bytes says_here.line front
      (λ h. bare (name', room') (tells.name, tells.room) tells.bytes _ (says_here.whole h)) full in
      let back = sym status_is in
      subst (λ (t : Text). IsRun line t out error done) given_is (record {
        words = words;
        are = are;
        statuses = subst (Contains (10 ∷ 20 ∷ 0 ∷ 2 ∷ 3 ∷ 4 ∷ 5 ∷ 6 ∷ 7 ∷ [])) back statuses;
        read = subst (λ (s : ℕ). s ≢ 3) back read;
        verdict = subst (IsVerdict words content) back verdict;
        written = out_back.within;
        stops = stops;
        output = subst (IsOutput words content (Some [], Some (take done.written out)) stops) back
            (subst (λ (bs : Text). IsOutput words content (Some [], Some bs) stops status) (sym out_back.front) bare_out);
        room = subst (λ (s : ℕ). RoomForOutput words content (λ n. n ≤ length out) → s ≢ 4) back
            (subst (λ (m : ℕ). RoomForOutput words content (λ n. n ≤ m) → status ≢ 4) (sym out_back.long) roomy_here);
        complete = subst (λ (s : ℕ). IsValid words content → s ≢ 4 → IsComplete words content s) back
            (λ valid h. complete valid read h);
        said = error_back.within;
        line = says_here.line;
        is = subst (λ (s : ℕ). IsErrorLine words content s says_here.line) back says_here.is;
        front = subst (λ (bs : Text). AppendsFront (Some []) (Some bs) says_here.line) (sym error_back.front) front;
        whole = λ fits. error_back.front ∙ whole (subst (λ (n : ℕ). length says_here.line ≤ n)
            (error_back.long ∙ sym same_room) fits);
      })
