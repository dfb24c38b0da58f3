-- A circuit that is told, and its check formula.
use Rattle.std.proofs.Common.{◌≡◌, ℕ, Bool, true, false, List, [], ◌∷◌, length, filter, Option, Some, None, Result, Ok, Err, sym, ap, subst, ◌∙◌, inl, arith}
use Rattle.std.specs.Prelude.{◌↔◌, ◌⊎◌, IfSome, IsOk, MatchOption, if◌then◌else◌, is_none, nat_le}
use Rattle.std.specs.List.{AllByRecursion}
use Rattle.prefix.specs.Literal.{Literal}
use Rattle.prefix.specs.Scopes.{Scope, all_variables, quantifier_of}
use Rattle.prefix.specs.Sides.{is_of, opposite}
use Rattle.prefix.specs.declared.quant.Quant.{Quant}
use Rattle.truth.specs.declared.formula.Formula.{Formula}
use Rattle.truth.specs.Formed.{IsFormed}
use Rattle.truth.specs.Truth.{truth}
use Rattle.calculus.specs.Plays.{Wins}
use Rattle.calculus.specs.Rows.{IsRow, Row}
use Rattle.calculus.proofs.Lists.{all_of}
use Rattle.aig.specs.declared.strategy.Strategy.{Strategy}
use Rattle.aig.specs.Strategies.{output_vars, values_of}
use Rattle.certcheck.specs.Building.{limit_of}
use Rattle.certcheck.specs.Check.{checked}
use Rattle.certcheck.specs.Theorems.{IsFor}
use Rattle.qdimacs_out.specs.Texts.{formula_text}
use Rattle.frames.specs.State.{open_clauses}
use Rattle.engine.specs.Asks.{IsVerdictOf}
use Rattle.engine.specs.declared.refusal.AskRefusal.{AskRefusal}
use Rattle.engine.specs.declared.refusal.AskRefusal.TheVariants.{NoVerdict}
use Rattle.engine.specs.Refusals.{first_refusal}
use Rattle.engine.specs.State.{EngineState, VerdictState}
use Rattle.engine.specs.Verdicts.{loser_of}
use Rattle.engine.proofs.Certifying.{opposed}
use Rattle.qbf_c.specs.Buffers.{AreLeft, IsPut}
use Rattle.qbf_c.specs.Codes.{accepted, ask_refusal_code, no_memory, short}
use Rattle.qbf_c.specs.Formulas.{CheckSays, IsChecked, IsUnchecked}
use Rattle.qbf_c.specs.Told.{IsShownAs, IsToldCircuit}

-- what the check formula wants of a circuit, and what is told of one that is shown as another
record IsLike (whole s : Strategy) : Type 0 where
  winner : s.winner ≡ whole.winner
  inputs : s.inputs ≡ whole.inputs
  outputs : output_vars s.outputs ≡ output_vars whole.outputs

like_shown : (trimmed : Bool) (whole s : Strategy) → IsShownAs trimmed whole s → IsLike whole s
like_shown false whole s is = record {
  winner = ap (λ (t : Strategy). t.winner) is;
  inputs = ap (λ (t : Strategy). t.inputs) is;
  outputs = ap (λ (t : Strategy). output_vars t.outputs) is;
}
like_shown true whole s is = record {
  winner = is.trimmed.winner;
  inputs = is.trimmed.inputs;
  outputs = is.trimmed.vars;
}

told_is_for : (trimmed : Bool) (e : EngineState) (v : VerdictState) (s : Strategy)
    → AllByRecursion (IsRow e.formula.scopes) (open_clauses e.formula) → IsVerdictOf e.formula v
    → IsToldCircuit trimmed e v s → IsFor e.formula.scopes (open_clauses e.formula) v.assumptions s
told_is_for trimmed e v s rows is told =
    let scopes = e.formula.scopes in
    let like = like_shown trimmed told.whole s told.shown in
    let winner = like.winner ∙ told.certifies.winner in
    let loser : loser_of v.truth ≡ opposite s.winner = sym (opposed v.truth) ∙ ap opposite (sym winner) in
    record {
      over = λ clause l there within.
          (all_of (IsRow scopes) (open_clauses e.formula) clause rows there).over_prefix l within;
      outer = is.outer;
      strategy = told.strategy;
      inputs = like.inputs ∙ told.certifies.inputs
          ∙ ap (λ (q : Quant). filter (λ x. is_of (quantifier_of scopes x) q) (all_variables scopes)) loser;
      outputs = like.outputs ∙ told.certifies.outputs
          ∙ ap (λ (q : Quant). filter (λ x. is_of (quantifier_of scopes x) q) (all_variables scopes)) (sym winner);
    }

-- the circuit of a verdict that was asked for is one for the formula
pub circuit_is_for : {A : Type 0} (trimmed : Bool) (e : EngineState) (o : Option VerdictState) (s : Strategy)
    (scopes : List Scope) (rows : List Row) (ls : List Literal) (a : A)
    → MatchOption (first_refusal ((is_none o, NoVerdict) ∷ [])) (IsOk {T = A} {E = AskRefusal} (Ok a))
    (λ r. ◌≡◌ {A = Result A AskRefusal} (Ok a) (Err r))
    → IfSome o (λ v. ls ≡ v.assumptions) → IfSome o (IsVerdictOf e.formula)
    → IfSome o (λ v. IsToldCircuit trimmed e v s)
    → AllByRecursion (IsRow e.formula.scopes) (open_clauses e.formula) → scopes ≡ e.formula.scopes
    → rows ≡ open_clauses e.formula → IsFor scopes rows ls s
circuit_is_for {A} trimmed e None s scopes rows ls a refused assumed is told over same_scopes same_rows =
    absurd (let f : ◌≡◌ {A = Result A AskRefusal} (Ok a) (Err NoVerdict) = refused in cc)
circuit_is_for {A} trimmed e (Some v) s scopes rows ls a refused assumed is told over same_scopes same_rows =
    subst (λ (ss : List Scope). IsFor ss rows ls s) (sym same_scopes)
    (subst (λ (rs : List Row). IsFor e.formula.scopes rs ls s) (sym same_rows)
    (subst (λ (ks : List Literal). IsFor e.formula.scopes (open_clauses e.formula) ks s) (sym assumed)
    (told_is_for trimmed e v s over is told)))

-- its check formula
pub is_checked : (trimmed : Bool) (e : EngineState) (o : Option VerdictState) (s : Strategy)
    (scopes : List Scope) (rows : List Row) (ls : List Literal) (f : Formula)
    → IfSome o (λ v. ls ≡ v.assumptions) → IfSome o (λ v. IsToldCircuit trimmed e v s)
    → scopes ≡ e.formula.scopes → rows ≡ open_clauses e.formula
    → (f ≡ checked rows ls s) × (limit_of (checked rows ls s) ≡ None) → IsFormed f
    → (truth f.prefix f.clauses ≡ false) ↔ Wins (opposite s.winner) scopes rows ls (values_of s)
    → IfSome o (λ v. IsChecked trimmed e v f)
is_checked trimmed e None s scopes rows ls f assumed told same_scopes same_rows answer formed decides = tt
is_checked trimmed e (Some v) s scopes rows ls f assumed told same_scopes same_rows answer formed decides =
    let IsLost : Type 0 = truth f.prefix f.clauses ≡ false in
    let clauses = open_clauses e.formula in
    record {
      circuit = s;
      told = told;
      are = answer.0 ∙ ap (λ (rs : List Row). checked rs ls s) same_rows
          ∙ ap (λ (ks : List Literal). checked clauses ks s) assumed;
      within = subst (λ (g : Formula). limit_of g ≡ None) (sym answer.0) answer.1;
      formed = formed;
      decides = subst (λ (ss : List Scope). IsLost
          ↔ Wins (opposite s.winner) ss clauses v.assumptions (values_of s)) same_scopes
          (subst (λ (rs : List Row). IsLost ↔ Wins (opposite s.winner) scopes rs v.assumptions (values_of s)) same_rows
          (subst (λ (ks : List Literal). IsLost ↔ Wins (opposite s.winner) scopes rows ks (values_of s)) assumed
          decides));
    }

-- its text in a buffer, which no want of memory puts there
pub put_code : (b : Bool) (n : ℕ) → n ≡ (if b then accepted else short) → n ≡ no_memory → ⊥
put_code true n e f = let g : n ≡ 0 = e in let h : n ≡ 60 = f in omega (arith, g, h)
put_code false n e f = let g : n ≡ 62 = e in let h : n ≡ 60 = f in omega (arith, g, h)

unrefused : {D : Type 0} (d : D) (o : Option ℕ) (P : ℕ → Type 0)
    → IfSome o (λ c. ◌≡◌ {A = Result D ℕ} (Ok d) (Err c)) → IfSome o P
unrefused d None P is = tt
unrefused {D} d (Some c) P is = absurd (let f : ◌≡◌ {A = Result D ℕ} (Ok d) (Err c) = is in cc)

put_told : (trimmed : Bool) (e : EngineState) (o : Option VerdictState) (text old new : List ℕ)
    (before now code : ℕ) → IsPut text old new now code
    → IfSome o (λ v. (f : Formula) × IsChecked trimmed e v f × (text ≡ formula_text f))
    → IfSome o (λ v. ((f : Formula) × IsChecked trimmed e v f × IsPut (formula_text f) old new now code)
    ⊎ (IsUnchecked trimmed e v code × AreLeft old new before now))
put_told trimmed e None text old new before now code put is = tt
put_told trimmed e (Some v) text old new before now code put is =
    inl (is.0, is.1, subst (λ (t : List ℕ). IsPut t old new now code) is.2 put)

pub check_put : {D : Type 0} (d : D) (trimmed : Bool) (e : EngineState) (text old new : List ℕ)
    (before now code : ℕ) → IfSome (ask_refusal_code e) (λ c. ◌≡◌ {A = Result D ℕ} (Ok d) (Err c))
    → IfSome e.verdict (λ v. (f : Formula) × IsChecked trimmed e v f × (text ≡ formula_text f))
    → IsPut text old new now code → CheckSays trimmed e old new before now code
check_put d trimmed e text old new before now code refused is put = record {
  refused = unrefused d (ask_refusal_code e) _ refused;
  memory = λ wanting. absurd (put_code (nat_le (length text) (length old)) code put.answer wanting);
  told = λ none some. put_told trimmed e e.verdict text old new before now code put is;
}
