-- Replies that are sent.
use Rattle.std.proofs.Common.{◌≡◌, ◌≤◌, length, ℕ, Bool, true, false, not, List, [], ◌∷◌, ◌++◌, Option, Some, None, Result, Ok, Err, refl, sym, ap, subst, ◌∙◌}
use Rattle.std.specs.Prelude.{IfSome, MatchOption, if◌then◌else◌, option_map, unwrap_or}
use Rattle.std.proofs.lemmas.Bool.{false≢true}
use Rattle.ports.specs.declared.failed.Failed.{Failed}
use Rattle.prefix.specs.declared.quant.Quant.{Quant}
use Rattle.prefix.specs.Literal.{Literal}
use Rattle.prefix.specs.Scopes.{Scope, level_of, quantifier_at, variables_at}
use Rattle.prefix.specs.Sides.{is_of}
use Rattle.calculus.specs.Derivations.{Inference}
use Rattle.calculus.specs.Limits.{weight_bound}
use Rattle.calculus.specs.Plays.{literals_of}
use Rattle.calculus.specs.Rows.{Assignment, Row}
use Rattle.calculus.specs.Verdicts.{IsProof, relevant_of}
use Rattle.frames.specs.Fold.{Given}
use Rattle.frames.specs.State.{OpenFormula}
use Rattle.aig.specs.declared.strategy.Strategy.{Strategy}
use Rattle.aiger_out.specs.Aag.{IsAagText}
use Rattle.derive.specs.State.{State}
use Rattle.step_core.specs.Cores.{IsNumbered, Trace, inferences_of, proof_at}
use Rattle.qrp_trace.specs.Texts.{qrp_text}
use Rattle.ports.specs.Writing.{Writes}
use Rattle.engine.specs.declared.refusal.AskRefusal.{AskRefusal}
use Rattle.engine.specs.declared.refusal.AskRefusal.TheVariants.{NoVerdict, NotOutermost, NotWinner}
use Rattle.engine.specs.Asks.{IsCertificateOf, IsVerdictOf, values_of}
use Rattle.engine.specs.Refusals.{ask_refusal, is_outermost, value_refusal, winner_of}
use Rattle.engine.specs.State.{EngineState, VerdictState}
use Rattle.qscript.specs.declared.command.Command.{Command}
use Rattle.qscript.specs.declared.command.Command.TheVariants.{Cert, Relevant, Trace as TraceCommand, Value}
use Rattle.session.specs.declared.reply.Reply.{Reply}
use Rattle.session.specs.declared.reply.Reply.TheVariants.{Written}
use Rattle.session.specs.declared.reply.SessionStop.{SessionStop}
use Rattle.session.specs.declared.reply.SessionStop.TheVariants.{NoMemory, WriteFault}
use Rattle.solve.proofs.Written.{some_map}
use Rattle.session.specs.Replies.{IsAccepted, IsReply, IsReplyWith, Tells, last_row, no_first, no_value, no_verdict, refusal_number, relevant_text, value_in, value_text}
use Rattle.solve.specs.Outputs.{Text, says}
use Rattle.solve.specs.Certificates.{Certifies, gates_after, IsCertText}
use Rattle.engine.proofs.FirstScope.{first_among, level_is, value_among}
use Rattle.solve.specs.Standing.{Standing}
use Rattle.solve.specs.Holding.{Holds, given_of}
use Rattle.session.specs.Steps.{IsAcceptedReply, IsReplyFor, IsSent, Sends, StepsOf, told_by}
use Rattle.solve.specs.Terms.{Terms}
use Rattle.solve.proofs.Certified.{certifies_after}
use Rattle.solve.proofs.Traced.{trace_after}

-- a text answers a question, of whose refusal this is the number
abbrev pub IsAnswer : Terms → Command → Standing → Text → Option ℕ → Type 0
IsAnswer terms command s text number =
    IsReplyWith number terms s command (says text) s × IsReplyFor number s command Written

module _ {S : Type 0} (written flushed : S → Option (List ℕ)) (faults : S → ℕ) (has_room : S → ℕ → Type 0) where
  pub sent : (reply : Reply) (text : Text) (old new : S) (r : Result (Unit {0}) Failed)
      (result : Result Reply SessionStop)
      → Writes written flushed faults has_room old new text r → IsSent reply r result
      → Sends written flushed faults has_room reply text old new result
  sent reply text old new (Ok u) result wrote is =
      subst (Sends written flushed faults has_room reply text old new) (sym is) (refl, wrote)
  sent reply text old new (Err e) result stops is =
      subst (Sends written flushed faults has_room reply text old new) (sym is.1) (is.2, stops)

  pub stepped : (terms : Terms) (command : Command) (s after : Standing) (old new : S) (e : EngineState) (reply : Reply)
      (text : Text) (result : Result Reply SessionStop)
      → IsReply terms s command (record { text = text; stops = told_by reply }) after
      → IsReplyFor (refusal_number s command) s command reply → Holds terms e after
      → Sends written flushed faults has_room reply text old new result
      → StepsOf written flushed faults has_room terms command s old new e result
  stepped terms command s after old new e reply text (Ok given) is has holds sends = (
    text,
    after,
    subst (λ r. IsReply terms s command (record { text = text; stops = told_by r }) after) (sym sends.0) is,
    subst (IsReplyFor (refusal_number s command) s command) (sym sends.0) has,
    sends.1,
    holds,
  )
  stepped terms command s after old new e reply text (Err (WriteFault told)) is has holds sends = (
    text,
    after,
    subst (λ l. IsReply terms s command (record { text = text; stops = l }) after) (sym sends.0) is,
    sends.1,
    holds,
  )
  stepped terms command s after old new e reply text (Err NoMemory) is has holds sends = absurd sends

  -- the answer to a question
  pub tells : (terms : Terms) (command : Command) (s : Standing) (old new : S) (e : EngineState) (text : Text)
      (r : Result (Unit {0}) Failed) (result : Result Reply SessionStop)
      → IsAnswer terms command s text (refusal_number s command) → Holds terms e s
      → Writes written flushed faults has_room old new text r → IsSent Written r result
      → StepsOf written flushed faults has_room terms command s old new e result
  tells terms command s old new e text r result is holds writes is_sent =
      stepped terms command s s old new e Written text result is.0 is.1 holds
      (sent Written text old new r result writes is_sent)

-- an answered question wasn't refused
pub unrefused : {T : Type 0} (P : Type 0) (o : Option AskRefusal) (r : Result T AskRefusal) (t : T) → r ≡ Ok t
    → MatchOption o P (λ y. r ≡ Err y) → o ≡ None
unrefused P None r t is m = refl
unrefused P (Some y) r t is m = absurd (let f : Ok t ≡ Err y = sym is ∙ m in cc)

outer_of_none : (a b : Bool) → (if not a then Some NotOutermost else (if b then Some NotWinner else None)) ≡ None
    → a ≡ true
outer_of_none true b e = refl
outer_of_none false b e = absurd (cc)

none_of_two : (a b : Bool) → (if a then Some NotOutermost else (if b then Some NotWinner else None)) ≡ None
    → (if◌then◌else◌ {A = Option ℕ} a (Some 51) (if◌then◌else◌ {A = Option ℕ} b (Some 52) None)) ≡ None
none_of_two true b e = absurd (cc)
none_of_two false true e = absurd (cc)
none_of_two false false e = refl

-- the row of the last step
last_row_of : (front : List Inference) (last : Inference) → last_row (front ++ last ∷ []) ≡ last.row
last_row_of [] last = refl
last_row_of (s ∷ []) last = refl
last_row_of (s ∷ t ∷ front) last = last_row_of (t ∷ front) last

proof_row : (pivot : Quant) (scopes : List Scope) (clauses : List Row) (assumptions : List Literal)
    (steps : List Inference) (proof : IsProof pivot scopes clauses assumptions steps)
    → last_row steps ≡ proof.last.row
proof_row pivot scopes clauses assumptions steps proof =
    ap last_row proof.parts ∙ last_row_of proof.front proof.last

-- a variable of the first scope has its value in the list of them
value_of : (values : Assignment) (scopes : List Scope) (x : ℕ) → is_outermost scopes x ≡ true
    → value_in (literals_of values (variables_at scopes 1)) x ≡ record { variable = x; positive = values x }
value_of values scopes x outer = ap (λ (o : Option Bool). record { variable = x; positive = unwrap_or o false })
    (value_among values (variables_at scopes 1) x (first_among scopes x (level_is (level_of scopes x) outer)))

module _ (terms : Terms) (e : EngineState) (s : Standing) (holds : Holds terms e s) where
  -- where there is a verdict, the standing has it
  verdict_is : (v : VerdictState) → e.verdict ≡ Some v → s.script.verdict ≡ Some (given_of v)
  verdict_is v some = holds.verdict ∙ ap (option_map given_of) some

  unless_none : {P : Type 0} (o : Option VerdictState) → e.verdict ≡ o → ask_refusal e ≡ None
      → ((v : VerdictState) → e.verdict ≡ Some v → P) → P
  unless_none None none told otherwise = absurd (let f : Some NoVerdict ≡ None =
      subst (λ o. ask_refusal (record e { verdict = o }) ≡ None) none told in cc)
  unless_none (Some v) some told otherwise = otherwise v some

  -- what is told where there is this verdict
  told_at : (IsTold : Given → Text → Type 0) (text : Text) (v : VerdictState) → e.verdict ≡ Some v
      → IsTold (given_of v) text → Tells s IsTold (says text) s
  told_at IsTold text v some is = record {
    text = text;
    told = subst (λ o. IfSome o (λ given. IsTold given text)) (sym (verdict_is v some)) is;
    says_text = refl;
    same = refl;
  }

  -- a question that any verdict answers isn't refused
  answered : (command : Command) (text : Text) (v : VerdictState) → e.verdict ≡ Some v
      → IsAccepted terms s command (says text) s → IsAcceptedReply s command Written
      → IsAnswer terms command s text (no_verdict s.script.verdict)
  answered command text v some accepted is_written =
      subst (λ o. IsAnswer terms command s text (no_verdict o)) (sym (verdict_is v some)) (accepted, is_written)

  pub tells_relevant : (list : List Literal) → ask_refusal e ≡ None
      → IfSome e.verdict (λ v. list ≡ relevant_of v.assumptions v.row) → IfSome e.verdict (IsVerdictOf e.formula)
      → IsAnswer terms Relevant s (relevant_text list) (refusal_number s Relevant)
  tells_relevant list asked value facts = unless_none e.verdict refl asked (λ v some.
      let is = subst (λ o. IfSome o (λ v. list ≡ relevant_of v.assumptions v.row)) some value in
      let fact = subst (λ o. IfSome o (IsVerdictOf e.formula)) some facts in
      let row : last_row s.witness.proof ≡ v.row = ap last_row (holds.proof v some)
      ∙ proof_row _ _ _ _ v.proof fact.proof ∙ fact.last_row in
      answered Relevant (relevant_text list) v some
      (told_at (λ given text. text ≡ relevant_text (relevant_of given.assumptions (last_row s.witness.proof)))
      (relevant_text list) v some
      (ap relevant_text (is ∙ ap (relevant_of v.assumptions) (sym row)))) refl)

  pub tells_trace : (core : Trace) (scopes : List Scope) (d : State) → scopes ≡ e.formula.scopes
      → ask_refusal e ≡ None → IfSome e.verdict (λ v. core.winner ≡ winner_of v.truth)
      → IfSome e.verdict (λ v. inferences_of core.lines ≡ v.proof) → IsNumbered core.lines
      → IfSome e.verdict (λ v. v.proof ≡ proof_at d v.assumptions v.end)
      → IsAnswer terms TraceCommand s (qrp_text scopes core) (refusal_number s TraceCommand)
  tells_trace core scopes d same asked winner list numbered derived = unless_none e.verdict refl asked (λ v some.
      answered TraceCommand (qrp_text scopes core) v some (record {
        text = qrp_text scopes core;
        told = trace_after terms e s holds core scopes d same winner list numbered derived;
        says_text = refl;
        same = refl;
      }) refl)

  abbrev bound : ℕ
  bound = gates_after terms s.script

  pub tells_circuit : (strategy : Strategy) (text : Text) → IsAagText text strategy
      → ask_refusal e ≡ None → IfSome e.verdict (λ v. IsCertificateOf e.formula v strategy)
      → length strategy.aig.gates ≤ weight_bound e.counts.clauses e.counts.solves e.counts.budget
      e.counts.restarts e.counts.vars
      → IsAnswer terms Cert s text (refusal_number s Cert)
  tells_circuit strategy text denotes asked certifies few = unless_none e.verdict refl asked (λ v some.
      answered Cert text v some (record {
        text = text;
        told = some_map s.script.verdict
            (λ given. Certifies s.script.formula given s.witness.values bound strategy)
            (λ given. IsCertText s.script.formula given s.witness.values bound text)
            (λ given is. record {
              strategy = strategy;
              denotes = denotes;
              certifies = is;
              reached = λ trim. absurd (false≢true trim);
            }) (certifies_after terms e s holds strategy certifies few);
        says_text = refl;
        same = refl;
      }) refl)

  pub tells_value : (x : ℕ) (lit : Literal) → value_refusal e x ≡ None
      → IfSome e.verdict (λ v. lit ≡ record { variable = x; positive = values_of e.formula v x })
      → IsAnswer terms (Value x) s (value_text lit) (refusal_number s (Value x))
  tells_value x lit asked value = by e.verdict refl
    where
      by : (o : Option VerdictState) → e.verdict ≡ o
          → IsAnswer terms (Value x) s (value_text lit) (refusal_number s (Value x))
      by None none = absurd (let f : Some NoVerdict ≡ None =
          subst (λ o. value_refusal (record e { verdict = o }) x ≡ None) none asked in cc)
      by (Some v) some =
          let tests : (if not (is_outermost e.formula.scopes x) then Some NotOutermost
          else (if not (is_of (quantifier_at e.formula.scopes 1) (winner_of v.truth)) then Some NotWinner
          else None)) ≡ None = subst (λ o. value_refusal (record e { verdict = o }) x ≡ None) some asked in
          let is = subst (λ o. IfSome o (λ v. lit ≡ record { variable = x; positive = values_of e.formula v x })) some
          value in
          let outer : is_outermost e.formula.scopes x ≡ true =
          outer_of_none (is_outermost e.formula.scopes x) _ tests in
          let values : value_in s.witness.values x ≡ lit = ap (λ l. value_in l x) (holds.values v some)
          ∙ value_of (values_of e.formula v) e.formula.scopes x outer ∙ sym is in
          let numbers : no_first s.script.formula.scopes v.truth x ≡ None =
          subst (λ (f : OpenFormula). no_first f.scopes v.truth x ≡ None) (sym holds.formula)
          (none_of_two (not (is_outermost e.formula.scopes x))
          (not (is_of (quantifier_at e.formula.scopes 1) (winner_of v.truth))) tests) in
          let number : no_value s.script.formula.scopes s.script.verdict x ≡ None =
          ap (λ o. no_value s.script.formula.scopes o x) (verdict_is v some) ∙ numbers in
          subst (IsAnswer terms (Value x) s (value_text lit)) (sym number) (
            told_at (λ given text. text ≡ value_text (value_in s.witness.values x)) (value_text lit) v some
                (ap value_text (sym values)),
            refl,
          )
