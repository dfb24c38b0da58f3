-- Certificates that are checked.
use Rattle.std.proofs.Common.{◌≡◌, ◌≤◌, ℕ, ◌-◌, Bool, true, false, List, [], ◌∷◌, length, Contains, Option, Some, None, Result, Ok, Err, refl, sym, ap, subst, ◌∙◌, arith, ⊎_elim}
use Rattle.std.specs.Prelude.{◌≢◌, ◌↔◌, IfErr, IfOk, IfSome, IsErrOf, IsOk, OnOk}
use Rattle.std.specs.List.{AllByRecursion}
use Rattle.std.specs.Io.KnownBytes.{Appends, Keeps}
use Rattle.std.proofs.KnownBytes.{Appends-kept}
use Rattle.ports.specs.Bytes.{AllFlushed}
use Rattle.ports.specs.Causes.{IsCounted, Rose}
use Rattle.ports.specs.Writing.{Stops, Wrote}
use Rattle.prefix.specs.Literal.{Literal}
use Rattle.prefix.specs.Scopes.{Scope, all_variables, is_among}
use Rattle.prefix.specs.Sides.{opposite}
use Rattle.truth.specs.declared.formula.Formula.{Formula}
use Rattle.truth.specs.Truth.{truth, truth_under}
use Rattle.trail.specs.State.{Account}
use Rattle.calculus.specs.Limits.{weight_bound}
use Rattle.calculus.specs.Plays.{Wins}
use Rattle.calculus.specs.Rows.{AreOverPrefix, Row}
use Rattle.calculus.proofs.Lists.{among_at, contains_cons, contains_nil}
use Rattle.search.specs.Counting.{size_of}
use Rattle.engine.specs.Refusals.{winner_of}
use Rattle.engine.specs.State.{EngineState}
use Rattle.engine.specs.Verdicts.{loser_of}
use Rattle.reading.specs.declared.refusal.Quantity.{Quantity}
use Rattle.truth.specs.Formed.{IsClauseOver, IsFormed}
use Rattle.qdimacs.specs.Reads.{Reads}
use Rattle.qdimacs.specs.Rules.{parsed}
use Rattle.aig.specs.declared.strategy.Strategy.{Strategy}
use Rattle.aig.specs.Strategies.{IsStrategy, values_of}
use Rattle.aiger_out.specs.Aag.{IsAagText}
use Rattle.certcheck.specs.Building.{limit_of}
use Rattle.certcheck.specs.Theorems.{IsFor}
use Rattle.solve.specs.declared.answer.Answer.{Answer}
use Rattle.solve.specs.declared.answer.Answer.TheVariants.{Sat, Unsat, Unknown as Unanswered}
use Rattle.files.specs.declared.check.Outcome.{Outcome}
use Rattle.files.specs.declared.check.Outcome.TheVariants.{Unknown, Checked, Undecided, Beyond}
use Rattle.solve.specs.declared.ending.Ending.{Ending}
use Rattle.solve.specs.declared.ending.Ending.TheVariants.{Done, Refused, Limit, CheckLimit, ReadFault, WriteFault, NoMemory}
use Rattle.solve.specs.declared.decision.Decision.{Decision}
use Rattle.files.specs.Checks.{HasCircuit, HasDecided, IsCheck, IsCheckOn, IsCheckReply, IsCheckText, IsFinished, IsFound, IsUndecided, LeavesCheck, OfCheck, RoomForCheck, SendsOutcome, WritesOutcome, check_ending, check_line, check_of, check_text, ending_after, judged}
use Rattle.files.specs.Endings.{IsUnread}
use Rattle.solve.specs.Feeding.{built, opened}
use Rattle.solve.specs.Decisions.{IsAnsweredBy, answer_with, unassumed, IsDecided}
use Rattle.files.specs.Jobs.{gates_for}
use Rattle.solve.specs.Outputs.{Text}
use Rattle.solve.specs.Certificates.{Certifies, gates_after, variables_with}
use Rattle.files.specs.Inputs.Format.{as_formula}
use Rattle.solve.specs.Answers.{IsAnswerTo}
use Rattle.files.specs.Solve.{IsEnding}
use Rattle.solve.specs.Standing.{IsWitness, Standing}
use Rattle.solve.specs.Holding.{Holds}
use Rattle.solve.specs.Entries.{AddsEntry, IsStopAt}
use Rattle.solve.specs.Outside.{SendsReply}
use Rattle.solve.specs.Terms.{Terms}
use Rattle.solve.proofs.Answering.{decided, rows_open}
use Rattle.solve.proofs.Written.{flushed_kept, front_all, some_map}

-- the certificate of a verdict

module _ (terms : Terms) (f : Formula) (s : Standing) (circuit : Strategy) (strategy : IsStrategy circuit)
    (certifies : IfSome s.script.verdict
    (λ given. Certifies s.script.formula given s.witness.values (gates_after terms s.script) circuit)) where
  certified_of : (t : Bool) → truth f.prefix f.clauses ≡ t → gates_after terms s.script ≡ gates_for terms f
      → s.script.formula ≡ opened f → s.script.verdict ≡ Some (unassumed t)
      → IsWitness (opened f) (unassumed t) s.witness → HasCircuit terms f t circuit
  certified_of t right gates formula verdict witness =
      let told = subst (λ o. IfSome o (λ given. Certifies s.script.formula given s.witness.values
      (gates_after terms s.script) circuit)) verdict certifies in
      record {
        right = right;
        strategy = strategy;
        witness = s.witness;
        is_witness = witness;
        certifies = subst (λ n. Certifies (opened f) (unassumed t) s.witness.values n circuit) gates
            (subst (λ g. Certifies g (unassumed t) s.witness.values (gates_after terms s.script) circuit) formula told);
      }

  gates_same : (a : Answer) → IsAnsweredBy f a s → gates_after terms s.script ≡ gates_for terms f
  gates_same a is =
      ap (λ c. weight_bound c s.script.solves terms.budget terms.greatest s.script.greatest) is.clauses
      ∙ ap (λ k. weight_bound (length f.clauses) k terms.budget terms.greatest s.script.greatest) is.solves
      ∙ ap (weight_bound (length f.clauses) 1 terms.budget terms.greatest) is.greatest

  circuit_at : (t : Bool) → IsAnsweredBy f (answer_with t) s → IsAnswerTo terms f (answer_with t)
      → HasCircuit terms f t circuit
  circuit_at true is right =
      certified_of true right (gates_same Sat is) is.formula is.verdict.0 is.verdict.1
  circuit_at false is right =
      certified_of false right (gates_same Unsat is) is.formula is.verdict.0 is.verdict.1

pub has_circuit : (terms : Terms) (f : Formula) (value : Bool) (e : EngineState) (circuit : Strategy)
    → HasDecided terms f (answer_with value) e → IsStrategy circuit
    → ((n : Terms) (s : Standing) → Holds n e s → IfSome s.script.verdict
    (λ given. Certifies s.script.formula given s.witness.values (gates_after n s.script) circuit))
    → HasCircuit terms f value circuit
has_circuit terms f value e circuit decided strategy certifies =
    circuit_at terms f decided.standing circuit strategy (certifies terms decided.standing decided.holds) value
    decided.is
    decided.right

-- it is a circuit for the formula

all_in : {X : Type 0} (P : X → Type 0) (xs : List X) (x : X) → AllByRecursion P xs → Contains xs x → P x
all_in P [] x all there = absurd (contains_nil x there)
all_in P (y ∷ ys) x all there =
    ⊎_elim (λ same. subst P same all.0) (λ later. all_in P ys x all.1 later) (contains_cons y ys x there)

over_prefix : (f : Formula) → IsFormed f → AreOverPrefix f.prefix f.clauses
over_prefix f formed clause l there within =
    let row = all_in (IsClauseOver f.prefix) f.clauses clause formed.rows there in
    among_at (all_variables f.prefix) l.variable
    (all_in (λ (k : Literal). is_among k.variable (all_variables f.prefix) ≡ true) clause l row.1 within)

loser_is : (value : Bool) → loser_of value ≡ opposite (winner_of value)
loser_is true = refl
loser_is false = refl

module _ (terms : Terms) (f : Formula) (value : Bool) (circuit : Strategy) (has : HasCircuit terms f value circuit)
  where
    loser : loser_of value ≡ opposite circuit.winner
    loser = loser_is value ∙ ap opposite (sym has.certifies.winner)

    pub is_for : IsFormed f → IsFor f.prefix f.clauses [] circuit
    is_for formed = record {
      over = over_prefix f formed;
      outer = λ l there. absurd (contains_nil l there);
      strategy = has.strategy;
      inputs = has.certifies.inputs ∙ ap (λ q. variables_with q f.prefix) loser;
      outputs = has.certifies.outputs ∙ ap (λ q. variables_with q f.prefix) (sym has.certifies.winner);
    }

    -- so its check formula is false
    abbrev IsFalse : Formula → Type 0
    IsFalse g = truth g.prefix g.clauses ≡ false

    wins : Wins (opposite circuit.winner) f.prefix f.clauses [] (values_of circuit)
    wins = subst (λ q. Wins q f.prefix f.clauses [] (values_of circuit)) loser
        (subst (λ rows. Wins (loser_of value) f.prefix rows [] (values_of circuit)) (rows_open f)
        has.certifies.wins)

    pub is_false : (g : Formula)
        → IsFalse g ↔ Wins (opposite circuit.winner) f.prefix f.clauses [] (values_of circuit) → IsFalse g
    is_false g decides = decides.1 wins

    -- where that goes beyond a limit, the circuit is what a check writes
    pub beyond : (decide : Bool) (stops : List Account) (quantity : Quantity)
        → limit_of (check_of f circuit) ≡ Some quantity → (outcome : Outcome) (text : Text)
        → (outcome ≡ Beyond quantity) × IsAagText text circuit → IsCheck decide terms f (stops, stops) outcome text
    beyond decide stops quantity limit outcome text is =
        subst (λ o. IsCheck decide terms f (stops, stops) o text) (sym is.0) (record {
          value = value;
          circuit = circuit;
          certified = has;
          limit = limit;
          denotes = is.1;
          told = refl;
        })

    -- and what comes of that formula comes of the check
    module _ (g : Formula) (same : g ≡ check_of f circuit) (within : limit_of (check_of f circuit) ≡ None)
        (false_is : IsFalse g) (decide : Bool) (stops : List Account × List Account) where
      of_check : (P : Formula → Type 0) → P g → OfCheck terms f value P
      of_check P is = record {
        circuit = circuit;
        certified = has;
        within = within;
        unsatisfiable = subst IsFalse same false_is;
        is = subst P same is;
      }

      pub of_reply : (outcome : Outcome) (text : Text) → IsCheckReply decide terms g value stops outcome text
          → IsCheck decide terms f stops outcome text
      of_reply Unknown text is = absurd is
      of_reply (Checked t) text is =
          subst (λ v. OfCheck terms f v (IsCheckText decide stops text)) (sym is.0)
          (of_check (IsCheckText decide stops text) is.1)
      of_reply Undecided text is = (value, of_check (IsUndecided decide terms stops text) is)
      of_reply (Beyond quantity) text is = absurd is

-- the answer to a check formula

pub found_by : (plain : (scopes : List Scope) (clauses : List Row) → truth_under [] scopes clauses ≡ truth scopes
    clauses)
    (terms : Terms) (f : Formula) (e : EngineState) {E : Type 0} (r : Result Decision E)
    → IfOk r (λ decision. IsDecided terms (built f) decision e) → IfOk r (IsFound terms f)
found_by plain terms f e (Ok decision) is =
    let d = decided plain terms f decision e is in record { right = d.right; told = d.entry }
found_by plain terms f e (Err stop) is = tt

pub never_true : (terms : Terms) (g : Formula) → truth g.prefix g.clauses ≡ false → (a : Answer)
    → IsAnswerTo terms g a → a ≢ Sat
never_true terms g false_is Sat right is = absurd (let both : false ≡ true = sym false_is ∙ right in cc)
never_true terms g false_is Unsat right is = absurd (cc)
never_true terms g false_is Unanswered right is = absurd (cc)

pub judged_reply : (terms : Terms) (g : Formula) (decide value : Bool) (stops : List Account × List Account)
    → decide ≡ true → (a : Answer) → a ≢ Sat → IsAnswerTo terms g a
    → AddsEntry (IsStopAt terms (size_of g.prefix)) stops.0 stops.1 a
    → IsCheckReply decide terms g value stops (judged a value) (check_line a)
judged_reply terms g decide value stops asked Sat apart right told = absurd (apart refl)
judged_reply terms g decide value stops asked Unsat apart right told =
    (refl, record { says = ap (λ d. check_text d g) (sym asked); told = told })
judged_reply terms g decide value stops asked Unanswered apart right told =
    record { asked = asked; short = right; says = refl; told = told }

-- a verdict tells of no search
pub none_told : (terms : Terms) (n : ℕ) (value : Bool) (before after : List Account)
    → AddsEntry (IsStopAt terms n) before after (answer_with value) → after ≡ before
none_told terms n true before after e = e
none_told terms n false before after e = e

-- what is written of an outcome

module _ {S : Type 0} (written flushed : S → Option (List ℕ)) (faults : S → ℕ) (has_room : S → ℕ → Type 0) where
  abbrev pub Writing : (Outcome → Text → Type 0) → S → S → List Account × List Account → Result Outcome Ending → Type 0
  Writing P old new stops r = WritesOutcome written flushed faults has_room P old new stops r

  abbrev pub Sending : (Outcome → Text → Type 0) → S → S → List Account × List Account → Result Outcome Ending → Type 0
  Sending P old new stops r = SendsOutcome written flushed faults has_room P old new stops r

  pub outcome_map : (P Q : Outcome → Text → Type 0)
      → ((outcome : Outcome) (text : Text) → P outcome text → Q outcome text)
      → (old new : S) (stops : List Account × List Account) (r : Result Outcome Ending) → Writing P old new stops r
      → Writing Q old new stops r
  outcome_map P Q by old new stops (Ok outcome) w = (w.0, by outcome w.0 w.1, w.2)
  outcome_map P Q by old new stops (Err WriteFault) w = (w.0, w.1, by w.0 w.1 w.2, w.3)
  outcome_map P Q by old new stops (Err NoMemory) w = w
  outcome_map P Q by old new stops (Err (Done status)) w = absurd w
  outcome_map P Q by old new stops (Err (Refused number line)) w = absurd w
  outcome_map P Q by old new stops (Err (Limit quantity line)) w = absurd w
  outcome_map P Q by old new stops (Err (CheckLimit quantity)) w = absurd w
  outcome_map P Q by old new stops (Err ReadFault) w = absurd w

  -- a text that is written, or not
  pub text_sent : (P : Outcome → Text → Type 0) (old new : S) (stops : List Account × List Account)
      (outcome made : Outcome) (text bytes : Text) → made ≡ outcome → bytes ≡ text → P outcome text
      → Wrote written flushed faults has_room old new bytes → Writing P old new stops (Ok made)
  text_sent P old new stops outcome made text bytes same is says wrote =
      subst (λ o. Writing P old new stops (Ok o)) (sym same)
      (text, says, subst (Wrote written flushed faults has_room old new) is wrote)

  pub text_failed : (P : Outcome → Text → Type 0) (old new : S) (stops : List Account × List Account)
      (outcome : Outcome) (text bytes : Text) → bytes ≡ text → P outcome text
      → Stops written flushed faults has_room old new bytes → (r : Result Outcome Ending) → r ≡ Err WriteFault
      → Writing P old new stops r
  text_failed P old new stops outcome text bytes is says wrote r fails =
      subst (Writing P old new stops) (sym fails)
      (outcome, text, says, subst (Stops written flushed faults has_room old new) is wrote)

  module _ (P : Outcome → Text → Type 0) (old middle : S) (stops : List Account × List Account) where
    pub outcome_failed : (e : Ending) → Writing P old middle stops (Err e) → Sending P old middle stops (Err e)
    outcome_failed WriteFault w = (
      w.0,
      w.1,
      w.2,
      record {
        front = w.3.front;
        later = w.3.later;
        rose = w.3.rose;
        no_room = λ room. w.3.no_room (length w.1) (omega arith) room;
      },
    )
    outcome_failed NoMemory w = w
    outcome_failed (Done status) w = absurd w
    outcome_failed (Refused number line) w = absurd w
    outcome_failed (Limit quantity line) w = absurd w
    outcome_failed (CheckLimit quantity) w = absurd w
    outcome_failed ReadFault w = absurd w

    module _ (new : S) (outcome : Outcome) (w : Writing P old middle stops (Ok outcome))
        (kept : Keeps (written middle) (written new)) where
      pub outcome_flushed : AllFlushed (written new) (flushed middle) (flushed new) → faults new ≡ faults middle
          → Sending P old new stops (Ok outcome)
      outcome_flushed all same = (
        w.0,
        w.1,
        record {
          appended = Appends-kept (written old) (written middle) (written new) w.0 w.2.appended kept;
          all_flushed = flushed_kept (flushed old) (flushed middle) (flushed new) (written new) w.2.kept all;
          no_fault = same ∙ w.2.no_fault;
        },
      )

      pub outcome_unflushed : faults middle ≤ faults new → Rose (faults middle) (faults new)
          → ((n : ℕ) → has_room middle n → ⊥) → Sending P old new stops (Err WriteFault)
      outcome_unflushed later rose no_room = (
        outcome,
        w.0,
        w.1,
        record {
          front = front_all (written old) (written new) w.0
              (Appends-kept (written old) (written middle) (written new) w.0 w.2.appended kept);
          later = let same = w.2.no_fault in omega arith;
          rose = subst (λ n. Rose n (faults new)) w.2.no_fault rose;
          no_room = λ room. no_room (length w.0 - length w.0) (w.2.room (length w.0) (omega arith) room);
        },
      )

  -- of an input, of which this formula was read
  module _ (decide : Bool) (terms : Terms) (known : Option Text) (f : Formula)
      (reads : IfSome known (λ bytes. Reads bytes (parsed f))) (old new : S) (before after : List Account) where
    abbrev Came : Result Outcome Ending → Type 0
    Came r = Sending (IsCheck decide terms f (before, after)) old new (before, after) r

    on : (outcome : Outcome) (text : Text) → IsCheck decide terms f (before, after) outcome text
        → IsCheckOn decide terms known (before, after) outcome text
    on outcome text is = record { formula = f; read = reads; is = is }

    pub check_ended : (r : Result Outcome Ending) → Came r
        → IfErr r (λ e. ¬ IsFinished e × (IsUnread e → IfSome known (λ text. IsEnding as_formula terms text e)))
    check_ended (Ok outcome) came = tt
    check_ended (Err WriteFault) came = (λ h. h, λ unread. absurd unread)
    check_ended (Err NoMemory) came = (λ h. h, λ unread. some_map known _ _ (λ text read. tt) reads)
    check_ended (Err (Done status)) came = absurd came
    check_ended (Err (Refused number line)) came = absurd came
    check_ended (Err (Limit quantity line)) came = absurd came
    check_ended (Err (CheckLimit quantity)) came = absurd came
    check_ended (Err ReadFault) came = absurd came

    pub check_read : (r : Result Outcome Ending) → Came r → IsErrOf r ReadFault → ⊥
    check_read (Ok outcome) came is = absurd (cc)
    check_read (Err WriteFault) came is = absurd (cc)
    check_read (Err NoMemory) came is = absurd (cc)
    check_read (Err (Done status)) came is = came
    check_read (Err (Refused number line)) came is = came
    check_read (Err (Limit quantity line)) came is = came
    check_read (Err (CheckLimit quantity)) came is = came
    check_read (Err ReadFault) came is = came

    check_counted : (r : Result Outcome Ending) → Came r
        → IsCounted (IsErrOf r WriteFault) (IsOk r) (faults old) (faults new)
    check_counted (Ok outcome) came = record {
      later = let same = came.2.no_fault in omega arith;
      rose = λ is. absurd (cc);
      kept = λ ok. came.2.no_fault;
    }
    check_counted (Err WriteFault) came =
        record { later = came.3.later; rose = λ is. came.3.rose; kept = λ ok. absurd (cc) }
    check_counted (Err NoMemory) came = record {
      later = let same = came.0.no_fault in omega arith;
      rose = λ is. absurd (cc);
      kept = λ ok. absurd (cc);
    }
    check_counted (Err (Done status)) came = absurd came
    check_counted (Err (Refused number line)) came = absurd came
    check_counted (Err (Limit quantity line)) came = absurd came
    check_counted (Err (CheckLimit quantity)) came = absurd came
    check_counted (Err ReadFault) came = absurd came

    check_room : (r : Result Outcome Ending) → Came r → RoomForCheck decide terms known (has_room old)
        → IsErrOf r WriteFault → ⊥
    check_room (Ok outcome) came room is = absurd (cc)
    check_room (Err WriteFault) came room is =
        came.3.no_room (room (before, after) came.0 came.1 (on came.0 came.1 came.2))
    check_room (Err NoMemory) came room is = absurd (cc)
    check_room (Err (Done status)) came room is = came
    check_room (Err (Refused number line)) came room is = came
    check_room (Err (Limit quantity line)) came room is = came
    check_room (Err (CheckLimit quantity)) came room is = came
    check_room (Err ReadFault) came room is = came

    leaves : (outcome : Outcome) (text : Text) → IsCheck decide terms f (before, after) outcome text
        → Appends (written old) (written new) text
        → LeavesCheck decide terms known (written old, written new) (before, after) (check_ending outcome)
    leaves Unknown text is appended = (Unknown, text, refl, on Unknown text is, appended)
    leaves (Checked value) text is appended = (Checked value, text, refl, on (Checked value) text is, appended)
    leaves Undecided text is appended = (Undecided, text, refl, on Undecided text is, appended)
    leaves (Beyond quantity) text is appended = (text, on (Beyond quantity) text is, appended)

    pub check_output : (r : Result Outcome Ending) → Came r
        → LeavesCheck decide terms known (written old, written new) (before, after) (ending_after r)
    check_output (Ok outcome) came = leaves outcome came.0 came.1 came.2.appended
    check_output (Err WriteFault) came = (came.0, came.1, on came.0 came.1 came.2, came.3.front)
    check_output (Err NoMemory) came = (came.0.kept, came.1)
    check_output (Err (Done status)) came = absurd came
    check_output (Err (Refused number line)) came = absurd came
    check_output (Err (Limit quantity line)) came = absurd came
    check_output (Err (CheckLimit quantity)) came = absurd came
    check_output (Err ReadFault) came = absurd came

    check_flushed : (r : Result Outcome Ending) → Came r
        → OnOk r (AllFlushed (written new) (flushed old) (flushed new))
    check_flushed (Ok outcome) came = came.2.all_flushed
    check_flushed (Err e) came = tt

    pub check_sends : (r : Result Outcome Ending) → Came r
        → SendsReply written flushed faults (RoomForCheck decide terms known (has_room old)) old new r
    check_sends r came =
        record { counted = check_counted r came; fits = check_room r came; all_flushed = check_flushed r came }
