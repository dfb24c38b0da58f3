-- What refused changes, and changes for which there is no memory, leave of a session.
use Rattle.std.proofs.Common.{◌≡◌, ◌≢◌, ◌∙◌, ℕ, List, Option, Some, None, Result, Ok, Err, sym, ap, subst}
use Rattle.std.specs.Prelude.{IfErr, MatchOption, MatchResult, OnErr}
use Rattle.std.specs.Option.{option_and_then}
use Rattle.frames.specs.declared.refusal.FrameRefusal.{FrameRefusal}
use Rattle.frames.specs.declared.refusal.FrameRefusal.TheVariants.{NoMemory as NoSpace}
use Rattle.frames.specs.Commands.{Command as FrameCommand, refusal_of}
use Rattle.frames.specs.Refusal.{number_of}
use Rattle.engine.specs.State.{EngineState}
use Rattle.session.specs.declared.reply.Reply.{Reply}
use Rattle.session.specs.declared.reply.Reply.TheVariants.{Silent}
use Rattle.session.specs.declared.reply.SessionStop.{SessionStop}
use Rattle.session.specs.declared.reply.SessionStop.TheVariants.{NoMemory}
use Rattle.session.specs.Replies.{no_change}
use Rattle.solve.specs.Standing.{Standing}
use Rattle.session.specs.State.{SessionState}
use Rattle.solve.specs.Holding.{Holds}
use Rattle.session.specs.Steps.{Refuses}
use Rattle.solve.specs.Terms.{Terms}

-- a session on these terms
abbrev session_of : Terms → EngineState → SessionState
session_of terms e = record { terms = terms; engine = e }

-- a session is that of its terms and its engine
pub session_same : (terms : Terms) (before e : EngineState) → e ≡ before → session_of terms e ≡ session_of terms before
session_same terms before e same = ap (session_of terms) same

-- what each error leaves, each refusal leaves
pub any_error : (Q : Type 0) (r : Result (Unit {0}) FrameRefusal) → OnErr r Q → IfErr r (λ x. x ≢ NoSpace → Q)
any_error Q (Ok u) kept = tt
any_error Q (Err x) kept = λ other. kept

-- where there is no memory, the change came to an error
pub at_want : {S Q : Type 0} (written flushed : S → Option (List ℕ)) (faults : S → ℕ) (has_room : S → ℕ → Type 0)
    (r : Result (Unit {0}) FrameRefusal) (old new : S) (result : Result Reply SessionStop)
    → MatchResult r (λ u. (result ≡ Ok Silent) × (new ≡ old))
    (λ x. Refuses written flushed faults has_room (number_of x) old new result)
    → OnErr r Q → result ≡ Err NoMemory → Q
at_want written flushed faults has_room (Ok u) old new result answer kept none =
    absurd (let no : ◌≡◌ {A = Result Reply SessionStop} (Ok Silent) (Err NoMemory) = sym answer.0 ∙ none in cc)
at_want written flushed faults has_room (Err x) old new result answer kept none = kept

numberless : (x : FrameRefusal) (n : ℕ) → number_of x ≡ Some n → x ≡ NoSpace → ⊥
numberless x n number none =
    absurd (let no : None ≡ Some n = subst (λ y. number_of y ≡ Some n) none number in cc)

-- a change that is refused with a number came to that error
refusal_left : (P Q : Type 0) (o : Option FrameRefusal) (r : Result (Unit {0}) FrameRefusal) (n : ℕ)
    → option_and_then number_of o ≡ Some n → MatchOption o P (λ x. r ≡ Err x) → IfErr r (λ x. x ≢ NoSpace → Q) → Q
refusal_left P Q None r n number refused kept = absurd (let no : None ≡ Some n = number in cc)
refusal_left P Q (Some x) r n number refused kept = by r refused kept
  where
    by : (r : Result (Unit {0}) FrameRefusal) → r ≡ Err x → IfErr r (λ y. y ≢ NoSpace → Q) → Q
    by (Ok u) same kept = absurd (cc)
    by (Err y) same kept =
        let is : y ≡ x = cc in kept (λ none. numberless x n number (sym is ∙ none))

pub stays_refused : (terms : Terms) (s : Standing) (before e : EngineState) (change : FrameCommand) (n : ℕ)
    → Holds terms before s → no_change s.script.formula change ≡ Some n → (P : Type 0)
    (r : Result (Unit {0}) FrameRefusal) → MatchOption (refusal_of before.formula change) P (λ x. r ≡ Err x)
    → IfErr r (λ x. x ≢ NoSpace → e ≡ before) → session_of terms e ≡ session_of terms before
stays_refused terms s before e change n holds number P r refused kept =
    session_same terms before e
    (refusal_left P (e ≡ before) (refusal_of before.formula change) r n
    (subst (λ f. no_change f change ≡ Some n) holds.formula number) refused kept)
