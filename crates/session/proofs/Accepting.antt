-- Replies to changes of the formula.
use Rattle.std.proofs.Common.{◌≡◌, ◌≤◌, ℕ, ℤ, Bool, true, false, not, ◌||◌, List, [], ◌∷◌, Option, Some, None, Result, Ok, Err, refl, sym, ap, arith, subst, ◌∙◌}
use Rattle.std.specs.Prelude.{◌+◌, ◌==◌, nat_lt, length, ◌-◌, ◌^◌, min, IfSome, IsOk, IsOkUnless, MatchOption, MatchResult, OnErr, OnOk, is_some, if◌then◌else◌}
use Rattle.std.specs.Option.{option_and_then, option_map}
use Rattle.prefix.specs.declared.quant.Quant.{Quant}
use Rattle.prefix.specs.declared.refusal.PrefixRefusal.{PrefixRefusal}
use Rattle.prefix.specs.declared.refusal.PrefixRefusal.TheVariants.{VarTwice, VarRange, ScopeRange, ScopeLimit}
use Rattle.prefix.specs.Refusals.{scope_refusal, variable_refusal}
use Rattle.prefix.specs.Scopes.{Scope, level_of}
use Rattle.frames.specs.declared.refusal.FrameRefusal.{FrameRefusal}
use Rattle.frames.specs.declared.refusal.FrameRefusal.TheVariants.{AssumptionsHeld, NoMemory as NoSpace}
use Rattle.frames.specs.Commands.{Activate, AddClause, AddScope, AddVariable, Assume, CloseGroup, Command as FrameCommand, Deactivate, OpenGroup, Pop, Push, Solve as Decide, first_of, formula_after, is_empty, prefix_refusals, refusal_of}
use Rattle.frames.specs.Fold.{ScriptState, accepted, counted, returning, state_after, unless_refused, verdict_after}
use Rattle.frames.specs.Refusal.{number_of}
use Rattle.frames.specs.State.{OpenFormula}
use Rattle.ports.proofs.Pieces.{nothing}
use Rattle.engine.specs.Counting.{with_clause, with_clauses}
use Rattle.engine.specs.State.{EngineState, VerdictState, changed}
use Rattle.qscript.specs.declared.command.Command.{Command}
use Rattle.session.specs.declared.reply.Reply.{Reply}
use Rattle.session.specs.declared.reply.Reply.TheVariants.{Refused, Silent}
use Rattle.session.specs.declared.reply.SessionStop.{SessionStop}
use Rattle.session.specs.declared.reply.SessionStop.TheVariants.{NoMemory}
use Rattle.session.specs.Replies.{Changes, IsAccepted, IsReplyWith, no_change, refusal_number, refused_text}
use Rattle.solve.specs.Outputs.{Output, says}
use Rattle.solve.specs.Standing.{Standing}
use Rattle.solve.specs.Holding.{Holds, given_of}
use Rattle.session.specs.Steps.{IsAcceptedReply, IsReplyFor, Refuses, StepsOf, left_by}
use Rattle.session.proofs.Telling.{stepped}
use Rattle.solve.specs.Terms.{Terms}

-- each refusal of a command has a number

abbrev pub HasNumber : Option FrameRefusal → Type 0
HasNumber o = IfSome o (λ x. is_some (number_of x) ≡ true)

choice : (b : Bool) (x : FrameRefusal) (o : Option FrameRefusal) → is_some (number_of x) ≡ true → HasNumber o
    → HasNumber (if b then Some x else o)
choice true x o number rest = number
choice false x o number rest = rest

abbrev IsNumbered : Option PrefixRefusal → Type 0
IsNumbered o = HasNumber (first_of (prefix_refusals o))

abbrev else_prefix : Bool → PrefixRefusal → Option PrefixRefusal → Option PrefixRefusal
else_prefix b x o = if b then Some x else o

one_prefix : (b : Bool) → IsNumbered (else_prefix b ScopeLimit None)
one_prefix true = refl
one_prefix false = tt

two_prefix : (b c : Bool) → IsNumbered (else_prefix b ScopeLimit (else_prefix c ScopeRange None))
two_prefix true c = refl
two_prefix false true = refl
two_prefix false false = tt

three_prefix : (b c d : Bool)
    → IsNumbered (else_prefix b VarRange (else_prefix c VarTwice (else_prefix d ScopeRange None)))
three_prefix true c d = refl
three_prefix false true d = refl
three_prefix false false true = refl
three_prefix false false false = tt

scope_prefix : (scopes : List Scope) (at : Option ℕ) → IsNumbered (scope_refusal scopes at)
scope_prefix scopes None = one_prefix (length scopes == 65536)
scope_prefix scopes (Some n) = two_prefix (length scopes == 65536) (n == 0 || nat_lt (length scopes + 1) n)

pub scope_numbered : (f : OpenFormula) (quant : Quant) (at : Option ℕ) → HasNumber (refusal_of f (AddScope quant at))
scope_numbered f quant at =
    choice (not (is_empty f.assumptions)) AssumptionsHeld (first_of (prefix_refusals (scope_refusal f.scopes at))) refl
    (scope_prefix f.scopes at)

pub variable_numbered : (f : OpenFormula) (var scope : ℕ) → HasNumber (refusal_of f (AddVariable var scope))
variable_numbered f var scope =
    choice (not (is_empty f.assumptions)) AssumptionsHeld
    (first_of (prefix_refusals (variable_refusal f.scopes var scope))) refl
    (three_prefix (var == 0 || nat_lt 1048576 var) (is_some (level_of f.scopes var))
    (scope == 0 || nat_lt (length f.scopes) scope))

pub one_numbered : (b : Bool) (x : FrameRefusal) → is_some (number_of x) ≡ true → HasNumber (first_of ((b, x) ∷ []))
one_numbered true x number = number
one_numbered false x number = tt

pub two_numbered : (b c : Bool) (x y : FrameRefusal) → is_some (number_of x) ≡ true → is_some (number_of y) ≡ true
    → HasNumber (first_of ((b, x) ∷ (c, y) ∷ []))
two_numbered true c x y first second = first
two_numbered false true x y first second = second
two_numbered false false x y first second = tt

pub three_numbered : (b c d : Bool) (x y z : FrameRefusal) → is_some (number_of x) ≡ true
    → is_some (number_of y) ≡ true → is_some (number_of z) ≡ true
    → HasNumber (first_of ((b, x) ∷ (c, y) ∷ (d, z) ∷ []))
three_numbered true c d x y z first second third = first
three_numbered false true d x y z first second third = second
three_numbered false false true x y z first second third = third
three_numbered false false false x y z first second third = tt

-- what a refusal may be where the table has none

pub unless_memory : (r : Result (Unit {0}) FrameRefusal) → IsOkUnless r NoSpace → (x : FrameRefusal) → r ≡ Err x
    → x ≡ NoSpace
unless_memory (Ok u) h x e = absurd (cc)
unless_memory (Err y) h x e = let same : y ≡ x = cc in sym same ∙ h

pub always : (r : Result (Unit {0}) FrameRefusal) → IsOk r → (x : FrameRefusal) → r ≡ Err x → x ≡ NoSpace
always (Ok u) h x e = absurd (cc)
always (Err y) h x e = absurd (cc)

-- how many clauses were accepted, or came back with their group, after a change of a formula
abbrev pub clauses_after : OpenFormula → ℕ → FrameCommand → ℕ
clauses_after f n (AddScope quant at) = n
clauses_after f n (AddVariable var scope) = n
clauses_after f n (AddClause clause) = n + 1
clauses_after f n Push = n
clauses_after f n Pop = n
clauses_after f n (Assume lit) = n
clauses_after f n (Decide answer) = n
clauses_after f n (OpenGroup group) = n
clauses_after f n CloseGroup = n
clauses_after f n (Activate group) = n + returning f group
clauses_after f n (Deactivate group) = n

no_fewer : (f : OpenFormula) (m n : ℕ) (change : FrameCommand) → m ≤ n
    → clauses_after f m change ≤ clauses_after f n change
no_fewer f m n (AddScope quant at) le = le
no_fewer f m n (AddVariable var scope) le = le
no_fewer f m n (AddClause clause) le = omega (arith, le)
no_fewer f m n Push le = le
no_fewer f m n Pop le = le
no_fewer f m n (Assume lit) le = le
no_fewer f m n (Decide answer) le = le
no_fewer f m n (OpenGroup group) le = le
no_fewer f m n CloseGroup le = le
no_fewer f m n (Activate group) le = omega (arith, le)
no_fewer f m n (Deactivate group) le = le

-- what an accepted change leaves of the engine
pub record HasChanged (change : FrameCommand) (before e : EngineState) : Type 0 where
  pub formula : e.formula ≡ formula_after before.formula change
  pub verdict : e.verdict ≡ None
  pub clauses : e.counts.clauses ≤ clauses_after before.formula before.counts.clauses change
  pub solves : e.counts.solves ≡ before.counts.solves
  pub budget : e.counts.budget ≡ before.counts.budget
  pub vars : e.counts.vars ≡ before.counts.vars
  pub restarts : e.restarts ≡ before.restarts
  pub most_restarts : e.counts.restarts ≡ before.counts.restarts
  pub kept : e.kept_rows ≡ before.kept_rows

pub has_changed : (change : FrameCommand) (before e : EngineState) (long : ℕ)
    → e ≡ record (changed before change) { kept_long = long }
    → clauses_after before.formula before.counts.clauses change ≡ before.counts.clauses → HasChanged change before e
has_changed change before e long same none_more = record {
  formula = ap (λ (f : EngineState). f.formula) same;
  verdict = ap (λ (f : EngineState). f.verdict) same;
  clauses = let count = ap (λ (f : EngineState). f.counts.clauses) same in omega (arith, count, none_more);
  solves = ap (λ (f : EngineState). f.counts.solves) same;
  budget = ap (λ (f : EngineState). f.counts.budget) same;
  vars = ap (λ (f : EngineState). f.counts.vars) same;
  restarts = ap (λ (f : EngineState). f.restarts) same;
  most_restarts = ap (λ (f : EngineState). f.counts.restarts) same;
  kept = ap (λ (f : EngineState). f.kept_rows) same;
}

pub has_clause : (clause : List ℤ) (before e : EngineState)
    → e ≡ record (changed before (AddClause clause)) {
      counts = with_clause before.counts;
      kept_long = e.kept_long;
    }
    → HasChanged (AddClause clause) before e
has_clause clause before e same = record {
  formula = ap (λ (f : EngineState). f.formula) same;
  verdict = ap (λ (f : EngineState). f.verdict) same;
  clauses =
      let count : e.counts.clauses ≡ min (before.counts.clauses + 1) (2 ^ 64 - 1) =
      ap (λ (f : EngineState). f.counts.clauses) same in omega (arith, count);
  solves = ap (λ (f : EngineState). f.counts.solves) same;
  budget = ap (λ (f : EngineState). f.counts.budget) same;
  vars = ap (λ (f : EngineState). f.counts.vars) same;
  restarts = ap (λ (f : EngineState). f.restarts) same;
  most_restarts = ap (λ (f : EngineState). f.counts.restarts) same;
  kept = ap (λ (f : EngineState). f.kept_rows) same;
}

pub has_group : (group : ℕ) (before e : EngineState)
    → e ≡ record (changed before (Activate group)) {
      counts = with_clauses (returning before.formula group) before.counts;
      kept_long = e.kept_long;
    }
    → HasChanged (Activate group) before e
has_group group before e same = record {
  formula = ap (λ (f : EngineState). f.formula) same;
  verdict = ap (λ (f : EngineState). f.verdict) same;
  clauses =
      let count : e.counts.clauses ≡ min (before.counts.clauses + returning before.formula group) (2 ^ 64 - 1) =
      ap (λ (f : EngineState). f.counts.clauses) same in omega (arith, count);
  solves = ap (λ (f : EngineState). f.counts.solves) same;
  budget = ap (λ (f : EngineState). f.counts.budget) same;
  vars = ap (λ (f : EngineState). f.counts.vars) same;
  restarts = ap (λ (f : EngineState). f.restarts) same;
  most_restarts = ap (λ (f : EngineState). f.counts.restarts) same;
  kept = ap (λ (f : EngineState). f.kept_rows) same;
}

-- what is held of an engine is held of one with another number of long learned rows
pub held_again : (terms : Terms) (s : Standing) (before e : EngineState) (long : ℕ) → Holds terms before s
    → e ≡ record before { kept_long = long } → Holds terms e s
held_again terms s before e long holds same = subst (λ f. Holds terms f s) (sym same) (record {
  formula = holds.formula;
  verdict = holds.verdict;
  proof = holds.proof;
  values = holds.values;
  clauses = holds.clauses;
  solves = holds.solves;
  budgets = holds.budgets;
  restarts = holds.restarts;
  most_restarts = holds.most_restarts;
  kept = holds.kept;
  variables = holds.variables;
})

module _ {S : Type 0} (written flushed : S → Option (List ℕ)) (faults : S → ℕ) (has_room : S → ℕ → Type 0)
    (terms : Terms) (command : Command) (change : FrameCommand) (s : Standing) (before e : EngineState)
    (holds : Holds terms before s) (number : refusal_number s command ≡ no_change s.script.formula change)
    (changes : (out : Output) (after : Standing) → Changes s change out after
    → IsAccepted terms s command out after) (quiet : IsAcceptedReply s command Silent)
    (left : left_by command s ≡ s)
    (drops : verdict_after s.script.formula change ≡ None)
    (same_solves : (counted s.script change).solves ≡ s.script.solves)
    (same_clauses : (counted s.script change).clauses ≡ clauses_after s.script.formula s.script.clauses change)
    (same_greatest : (counted s.script change).greatest ≡ s.script.greatest)
    (numbered : (f : OpenFormula) → HasNumber (refusal_of f change)) where
  abbrev next : Standing
  next = record s { script = state_after s.script change }

  state_is : refusal_of before.formula change ≡ None → state_after s.script change ≡ accepted s.script change
  state_is none = ap (λ o. unless_refused o s.script (accepted s.script change))
      (ap (λ f. refusal_of f change) holds.formula ∙ none)

  number_is : (o : Option FrameRefusal) → refusal_of before.formula change ≡ o
      → refusal_number s command ≡ option_and_then number_of o
  number_is o same = number ∙ ap (λ f. option_and_then number_of (refusal_of f change)) holds.formula
      ∙ ap (option_and_then number_of) same

  no_state : (w : VerdictState) {P : Type 0} → e.verdict ≡ None → e.verdict ≡ Some w → P
  no_state w none some = absurd (let both : None ≡ Some w = sym none ∙ some in cc)

  holds_next : refusal_of before.formula change ≡ None → HasChanged change before e → Holds terms e next
  holds_next none leaves = record {
    formula = ap (λ (t : ScriptState). t.formula) (state_is none) ∙ ap (λ f. formula_after f change) holds.formula
        ∙ sym leaves.formula;
    verdict = ap (λ (t : ScriptState). t.verdict) (state_is none) ∙ drops
        ∙ sym (ap (option_map given_of) leaves.verdict);
    proof = λ w some. no_state w leaves.verdict some;
    values = λ w some. no_state w leaves.verdict some;
    solves = leaves.solves ∙ holds.solves ∙ sym (ap (λ m. min m (2 ^ 64 - 1))
        (ap (λ (t : ScriptState). t.solves) (state_is none) ∙ same_solves));
    clauses =
        let few = leaves.clauses in
        let more = no_fewer before.formula before.counts.clauses s.script.clauses change holds.clauses in
        let all = ap (λ (t : ScriptState). t.clauses) (state_is none) ∙ same_clauses
        ∙ ap (λ f. clauses_after f s.script.clauses change) holds.formula in
        omega (arith, few, more, all);
    budgets = let same = leaves.budget in let low = holds.budgets in omega (arith, same, low);
    restarts = leaves.restarts ∙ holds.restarts;
    most_restarts =
        let same = leaves.most_restarts in
        let now = leaves.restarts in
        let low = holds.most_restarts in
        omega (arith, same, now, low);
    kept = leaves.kept ∙ holds.kept;
    variables =
        let same = leaves.vars in
        let low = holds.variables in
        let all = ap (λ (t : ScriptState). t.greatest) (state_is none) ∙ same_greatest in
        omega (arith, same, low, all);
  }

  abbrev Goal : S → S → Result Reply SessionStop → Type 0
  Goal old new result = StepsOf written flushed faults has_room terms command s old new e result

  silent : (old new : S) (result : Result Reply SessionStop) → refusal_of before.formula change ≡ None
      → HasChanged change before e → result ≡ Ok Silent → new ≡ old → Goal old new result
  silent old new result none leaves is same =
      subst (Goal old new) (sym is) (subst (λ n. Goal old n (Ok Silent)) (sym same) (
        [],
        next,
        subst (λ n. IsReplyWith n terms s command (says []) next) (sym (number_is None none))
            (changes (says []) next (record { silent = refl; state = refl })),
        subst (λ n. IsReplyFor n s command Silent) (sym (number_is None none)) quiet,
        nothing written flushed faults has_room old,
        holds_next none leaves,
      ))

  wants : (old new : S) (result : Result Reply SessionStop) → Holds terms e s → refusal_number s command ≡ None
      → result ≡ Err NoMemory → new ≡ old → Goal old new result
  wants old new result kept unrefused is same =
      subst (Goal old new) (sym is) (subst (λ n. Goal old n (Err NoMemory)) (sym same) (
        nothing written flushed faults has_room old,
        subst (λ t. Holds terms e t) (sym left) kept,
        unrefused,
      ))

  refused : (old new : S) (result : Result Reply SessionStop) (x : FrameRefusal) (n : ℕ)
      → refusal_of before.formula change ≡ Some x → number_of x ≡ Some n → Holds terms e s
      → Refuses written flushed faults has_room (number_of x) old new result → Goal old new result
  refused old new result x n some numbers kept refuses =
      stepped written flushed faults has_room terms command s s old new e (Refused n) (refused_text n) result
      (subst (λ m. IsReplyWith m terms s command (says (refused_text n)) s)
      (sym (number_is (Some x) some ∙ numbers)) (refl, refl))
      (subst (λ m. IsReplyFor m s command (Refused n)) (sym (number_is (Some x) some ∙ numbers)) refl) kept
      (subst (λ m. Refuses written flushed faults has_room m old new result) numbers refuses)

  pub accepts : (P : Type 0) (r : Result (Unit {0}) FrameRefusal) (old new : S) (result : Result Reply SessionStop)
      → OnOk r (HasChanged change before e)
      → MatchOption (refusal_of before.formula change) P (λ x. r ≡ Err x)
      → (P → (x : FrameRefusal) → r ≡ Err x → x ≡ NoSpace) → OnErr r (Holds terms e s)
      → MatchResult r (λ u. (result ≡ Ok Silent) × (new ≡ old))
      (λ x. Refuses written flushed faults has_room (number_of x) old new result) → Goal old new result
  accepts P (Ok u) old new result ok refusal only err answer = by (refusal_of before.formula change) refl refusal
    where
      by : (o : Option FrameRefusal) → refusal_of before.formula change ≡ o
          → MatchOption o P (λ (x : FrameRefusal). ◌≡◌ {A = Result (Unit {0}) FrameRefusal} (Ok u) (Err x))
          → Goal old new result
      by None none m = silent old new result none ok answer.0 answer.1
      by (Some x) some m = absurd (let both : ◌≡◌ {A = Result (Unit {0}) FrameRefusal} (Ok u) (Err x) = m in cc)
  accepts P (Err x) old new result ok refusal only err answer = by (refusal_of before.formula change) refl refusal
    where
      memory : refusal_of before.formula change ≡ None → x ≡ NoSpace → Goal old new result
      memory none is = let want = subst (λ y. Refuses written flushed faults has_room (number_of y) old new result) is
          answer in wants old new result err (number_is None none) want.0 want.1

      at : (o : Option ℕ) → number_of x ≡ o → is_some o ≡ true → refusal_of before.formula change ≡ Some x
          → Goal old new result
      at None numbers there some = absurd (cc)
      at (Some n) numbers there some = refused old new result x n some numbers err answer

      by : (o : Option FrameRefusal) → refusal_of before.formula change ≡ o
          → MatchOption o P (λ (y : FrameRefusal). ◌≡◌ {A = Result (Unit {0}) FrameRefusal} (Err x) (Err y))
          → Goal old new result
      by None none m = memory none (only m x refl)
      by (Some y) some m =
          let same : x ≡ y = let both : ◌≡◌ {A = Result (Unit {0}) FrameRefusal} (Err x) (Err y) = m in cc in
          let there : refusal_of before.formula change ≡ Some x = some ∙ ap Some (sym same) in
          at (number_of x) refl (subst HasNumber there (numbered before.formula)) there
