-- Formulas that say, so many times, that the variable 1 has a value: their truth, a proof of it, and the circuit.
use Rattle.std.proofs.Common.{◌≡◌, ◌∙◌, ◌<◌, ◌≤◌, ◌*◌, ℕ, zero, suc, Bool, true, false, List, [], ◌∷◌, length, map, Contains, Some, None, inr, ⊎_elim, refl, sym, ap, subst, arith}
use Rattle.std.specs.Prelude.{codes, nat_lt, replicate}
use Rattle.std.specs.Fmt.{digits}
use Rattle.std.proofs.lemmas.Bool.{and_from, or_left, or_right, cond-true, false≢true, lt-ltb}
use Rattle.std.proofs.lemmas.List.{length-replicate}
use Rattle.std.proofs.lemmas.List.Elements.{All-cons}
use Rattle.prefix.specs.declared.quant.Quant.{Quant}
use Rattle.prefix.specs.declared.quant.Quant.TheVariants.{Exists, Forall}
use Rattle.prefix.specs.Literal.{Literal}
use Rattle.prefix.specs.Scopes.{Scope}
use Rattle.prefix.specs.Sides.{is_pivot}
use Rattle.truth.specs.Limits.{max_vars}
use Rattle.truth.specs.Matrix.{Values, clause_true, matrix_true, no_values, with_value}
use Rattle.truth.specs.Truth.{truth, truth_under}
use Rattle.aig.specs.Circuits.{IsEdge, value_of}
use Rattle.aig.specs.Strategies.{IsStrategy, output_vars, values_of}
use Rattle.aig.specs.declared.edge.And.{And}
use Rattle.aig.specs.declared.edge.Node.TheVariants.{Constant}
use Rattle.aig.specs.declared.strategy.Output.{Output}
use Rattle.aig.specs.declared.strategy.Strategy.{Strategy}
use Rattle.certcheck.specs.Building.{limit_of}
use Rattle.certcheck.specs.Check.{checked, lost_count, variable_count}
use Rattle.reading.specs.declared.refusal.Quantity.TheVariants.{Variables}
use Rattle.calculus.specs.Derivations.{Inference, IsInference, IsLegalAfter, Reason, rows_of}
use Rattle.calculus.specs.Derivations.Reason.{Input, One, Two}
use Rattle.calculus.specs.Plays.{total}
use Rattle.calculus.specs.Rows.{Assignment, IsRow, Row}
use Rattle.calculus.specs.Verdicts.{IsProof, IsProofStep}
use Rattle.calculus.specs.Worked.{minus}
use Rattle.aiger_out.specs.Aag.{IsAagText, literal_line, symbol_line}
use Rattle.solve.specs.Decisions.{unassumed}
use Rattle.solve.specs.Feeding.{opened}
use Rattle.solve.specs.Standing.{IsWitness, Witness}
use Rattle.solve.specs.Terms.{Terms}
use Rattle.solve.proofs.Answering.{rows_open}
use Rattle.solve.specs.Certificates.{variables_with}
use Rattle.engine.specs.Refusals.{winner_of}
use Rattle.engine.specs.Verdicts.{loser_of}
use Rattle.calculus.specs.Limits.{removal_bound}
use Rattle.files.specs.Checks.{HasCircuit, check_of}
use Rattle.files.specs.Worked.{anything_fits}
use Rattle.files.specs.WorkedVerdicts.{always, one, repeated}
use Rattle.files.proofs.NoGates.{none}
use Rattle.calculus.proofs.Lists.{contains_cons, contains_head, contains_nil}

each_clause : {X : Type 0} (n : ℕ) (x y : X) → Contains (replicate n x) y → x ≡ y
each_clause zero x y i = absurd (contains_nil y i)
each_clause (suc n) x y i = ⊎_elim (λ e. e) (λ j. each_clause n x y j) (contains_cons x (replicate n x) y i)

clause_holds : (b : Bool) (values : Values) → values 1 ≡ Some b → clause_true values (one b ∷ []) ≡ true
clause_holds true values is = rw is refl
clause_holds false values is = rw is refl

pub matrix_holds : (b : Bool) (values : Values) → values 1 ≡ Some b → (n : ℕ)
    → matrix_true values (replicate n (one b ∷ [])) ≡ true
matrix_holds b values is zero = refl
matrix_holds b values is (suc n) =
    and_from (clause_true values (one b ∷ [])) (matrix_true values (replicate n (one b ∷ [])))
    (clause_holds b values is) (matrix_holds b values is n)

abbrev pub one_scope : List Scope
one_scope = record { quantifier = Exists; variables = 1 ∷ [] } ∷ []

pub is_true : (b : Bool) (n : ℕ) → truth one_scope (replicate n (one b ∷ [])) ≡ true
is_true true n = or_right (matrix_true (with_value 1 false no_values) (replicate n (one true ∷ [])))
    (matrix_true (with_value 1 true no_values) (replicate n (one true ∷ [])))
    (matrix_holds true (with_value 1 true no_values) refl n)
is_true false n = or_left (matrix_true (with_value 1 false no_values) (replicate n (one false ∷ [])))
    (matrix_true (with_value 1 true no_values) (replicate n (one false ∷ [])))
    (matrix_holds false (with_value 1 false no_values) refl n)

pub decided : (b : Bool) (n : ℕ) → truth_under (one b ∷ []) one_scope (replicate n (one b ∷ [])) ≡ true
decided b n = matrix_holds b (with_value 1 b no_values) refl n

-- the cube of the value, and its finish
abbrev pub steps : Bool → List Inference
steps b = record { row = one b ∷ []; reason = Input } ∷ record { row = []; reason = One (one b ∷ []) } ∷ []

pub only_literal : (b : Bool) (l : Literal) → Contains (one b ∷ []) l → one b ≡ l
only_literal b l i = ⊎_elim (λ e. e) (λ j. absurd (contains_nil l j)) (contains_cons (one b) [] l i)

is_row : (b : Bool) → IsRow one_scope (one b ∷ [])
is_row b = record {
  ascending = (tt, tt);
  over_prefix = λ l i. subst (λ (m : Literal). Contains (1 ∷ []) m.variable) (only_literal b l i) (contains_head 1 []);
}

pub proves : (b : Bool) (n : ℕ) → IsProof Forall one_scope (replicate n (one b ∷ [])) [] (steps b)
proves b n = record {
  front = record { row = one b ∷ []; reason = Input } ∷ [];
  last = record { row = []; reason = One (one b ∷ []) };
  parts = refl;
  legal = (
    is_row b,
    λ clause i. (
      one b,
      subst (λ (c : Row). Contains c (one b)) (each_clause n (one b ∷ []) clause i) (contains_head (one b) []),
      contains_head (one b) [],
    ),
    tt,
  );
  last_row = record { ascending = tt; over_prefix = λ l i. absurd (contains_nil l i) };
  last_step = (
    contains_head (one b ∷ []) [],
    (λ e. absurd (let no : [] ≡ one b ∷ [] = e in cc)),
    inr (
      record {
        pivots = λ l i pivot. absurd (false≢true
            (subst (λ m. is_pivot Forall one_scope m ≡ true) (sym (only_literal b l i)) pivot));
        bad = λ l v i e. absurd (let no : None ≡ Some v = e in cc);
      },
      refl,
    ),
  );
  decided = λ l i. absurd (contains_nil l i);
  used = ((record { row = []; reason = One (one b ∷ []) }, contains_head _ [], refl), tt);
}

-- without clauses nothing follows
no_step : (row : Row) (reason : Reason) → IsProofStep Exists [] [] [] [] row reason → ⊥
no_step row Input h = contains_nil row h
no_step row (One before) h = contains_nil before h.0
no_step row (Two a b x) h = contains_nil a h.earlier_positive

no_inference : (row : Row) (reason : Reason) → IsInference Exists [] [] [] row reason → ⊥
no_inference row Input h = contains_nil row h
no_inference row (One before) h = contains_nil before h.0
no_inference row (Two a b x) h = contains_nil a h.earlier_positive

pub nothing_proved : (steps : List Inference) → IsProof Exists [] [] [] steps → ⊥
nothing_proved steps p = by p.front p.legal p.last_step
  where
    by : (front : List Inference) → IsLegalAfter Exists [] [] [] front
        → IsProofStep Exists [] [] [] (rows_of front) p.last.row p.last.reason → ⊥
    by [] legal last = no_step p.last.row p.last.reason last
    by (s ∷ front) legal last = no_inference s.row s.reason legal.1

-- the value by which the formula is decided
by_sign : (v : ℕ) (positive : Bool) → v ≡ 1
    → truth_under (record { variable = v; positive = positive } ∷ []) one_scope (replicate 1 (one false ∷ [])) ≡ true
    → record { variable = v; positive = positive } ∷ [] ≡ minus 1 ∷ []
by_sign v false is decides = ap (λ w. record { variable = w; positive = false } ∷ []) is
by_sign v true is decides = absurd (false≢true (subst (λ w.
    truth_under (record { variable = w; positive = true } ∷ []) one_scope (replicate 1 (one false ∷ [])) ≡ true)
    is decides))

pub only_value : (values : List Literal) → map (λ (l : Literal). l.variable) values ≡ 1 ∷ []
    → truth_under values one_scope (replicate 1 (one false ∷ [])) ≡ true → values ≡ minus 1 ∷ []
only_value [] is decides = absurd (let no : [] ≡ 1 ∷ [] = is in cc)
only_value (l ∷ []) is decides = by_sign l.variable l.positive (let same : l.variable ≡ 1 = cc in same) decides
only_value (l ∷ m ∷ rest) is decides = absurd (let no : l.variable ∷ (m.variable ∷ map (λ (k : Literal). k.variable) rest) ≡ 1 ∷ [] = is in cc)

-- the circuit

pub its_value : (b : Bool) (v : Assignment) → values_of (always b) v 1 ≡ b
unfolding value_of
its_value true v = refl
its_value false v = refl

constant : (b : Bool) → IsEdge (record { inputs = 0; gates = [] }) (record { node = Constant; negated = b })
unfolding IsEdge
constant b = tt

pub is_strategy : (b : Bool) → IsStrategy (always b)
is_strategy b = record {
  inputs = refl;
  outputs = All-cons (λ (o : Output). IsEdge (record { inputs = 0; gates = [] }) o.edge)
      (record { var = 1; edge = record { node = Constant; negated = b } }) [] (constant b)
      (λ i o below. absurd (let no : i < 0 = below in omega (arith, no)));
}

pub wins : (b : Bool) (n : ℕ) (inputs : Assignment)
    → matrix_true (total (values_of (always b) inputs)) (replicate n (one b ∷ [])) ≡ true
wins b n inputs = matrix_holds b (total (values_of (always b) inputs)) (ap Some (its_value b inputs)) n

-- with a selector for each of too many clauses there are too many variables
pub too_many : (n : ℕ) → max_vars < n → (s : Strategy) → s.winner ≡ Exists
    → limit_of (checked (replicate n (one true ∷ [])) [] s) ≡ Some Variables
too_many n over s exists =
    let clauses : List Row = replicate n (one true ∷ []) in
    let count : lost_count s.winner clauses ≡ n =
    ap (λ q. lost_count q clauses) exists ∙ length-replicate n (one true ∷ []) in
    let many : max_vars < variable_count clauses [] s = omega (arith, over, count) in
    cond-true (nat_lt max_vars (variable_count clauses [] s)) (Some Variables) _
    (lt-ltb max_vars (variable_count clauses [] s) many)

-- a circuit of the formula without variables and clauses

abbrev pub bare : Quant → Strategy
bare winner = record { aig = record { inputs = 0; gates = [] }; winner = winner; inputs = []; outputs = [] }

no_output : (outputs : List Output) → output_vars outputs ≡ [] → outputs ≡ []
no_output [] e = refl
no_output (o ∷ outputs) e = absurd (let no : o.var ∷ output_vars outputs ≡ [] = e in cc)

no_gate : (gates : List And) → length gates ≤ 0 → gates ≡ []
no_gate [] few = refl
no_gate (g ∷ gates) few = absurd (omega (arith, few))

pub is_bare : (s : Strategy) → s.aig.inputs ≡ length s.inputs → s.inputs ≡ [] → output_vars s.outputs ≡ []
    → length s.aig.gates ≤ 0 → bare s.winner ≡ s
is_bare s count inputs outputs few =
    let none : s.outputs ≡ [] = no_output s.outputs outputs in
    let gates : s.aig.gates ≡ [] = no_gate s.aig.gates few in
    let number : s.aig.inputs ≡ 0 = count ∙ ap length inputs in
    sym (ap (λ n. record {
      aig = record { inputs = n; gates = s.aig.gates };
      winner = s.winner;
      inputs = s.inputs;
      outputs = s.outputs;
    }) number ∙ ap (λ gs. record {
      aig = record { inputs = 0; gates = gs };
      winner = s.winner;
      inputs = s.inputs;
      outputs = s.outputs;
    }) gates ∙ ap (λ xs. record {
      aig = record { inputs = 0; gates = [] };
      winner = s.winner;
      inputs = xs;
      outputs = s.outputs;
    }) inputs ∙ ap (λ os. record {
      aig = record { inputs = 0; gates = [] };
      winner = s.winner;
      inputs = [];
      outputs = os;
    }) none)

pub bare_fits : (w : Quant) → limit_of (checked [] [] (bare w)) ≡ None
bare_fits Exists = refl
bare_fits Forall = refl

none_of : (value : Bool) → variables_with (loser_of value) [] ≡ []
none_of true = refl
none_of false = refl

none_won : (value : Bool) → variables_with (winner_of value) [] ≡ []
none_won true = refl
none_won false = refl

pub only_circuit : (terms : Terms) (value : Bool) (s : Strategy) → HasCircuit terms anything_fits value s
    → bare s.winner ≡ s
only_circuit terms value s h =
    let n : ℕ = removal_bound 0 1 terms.budget terms.greatest 0 in
    let few : length s.aig.gates ≤ n * 0 = h.certifies.few in
    is_bare s h.strategy.inputs (h.certifies.inputs ∙ none_of value) (h.certifies.outputs ∙ none_won value)
    (omega (arith, few))

pub fits : (terms : Terms) (value : Bool) (s : Strategy) → HasCircuit terms anything_fits value s
    → limit_of (check_of anything_fits s) ≡ None
fits terms value s h =
    subst (λ t. limit_of (check_of anything_fits t) ≡ None) (only_circuit terms value s h) (bare_fits s.winner)

-- the text of the true circuit
pub always_denotes : IsAagText (codes "aag 0 0 0 1 0\n1\no0 1\nc\nskolem\n") (always true)
unfolding digits
always_denotes = record {
  input_lines = [];
  output_lines = literal_line 1 ∷ [];
  gate_lines = [];
  input_symbols = [];
  output_symbols = symbol_line (codes "o") 0 1 ∷ [];
  lines = refl;
  named = refl;
  inputs = tt;
  outputs = (record { stands = constant true; literal = refl }, tt);
  gates = tt;
  distinct = none;
  input_names = tt;
  output_names = (refl, tt);
}

-- the verdict's proof and values, and its circuit
pub has_witness : (b : Bool) (n : ℕ)
    → IsWitness (opened (repeated b n)) (unassumed true) (record { proof = steps b; values = one b ∷ [] })
has_witness b n = record {
  proof = subst (λ clauses. IsProof Forall one_scope clauses [] (steps b)) (sym (rows_open (repeated b n)))
      (proves b n);
  values = λ _. record {
    variables = refl;
    assumed = λ x v e. absurd (let no : None ≡ Some v = e in cc);
    decide = subst (λ clauses. truth_under (one b ∷ []) one_scope clauses ≡ true) (sym (rows_open (repeated b n)))
        (decided b n);
  };
}

pub only_values : (w : Witness) → IsWitness (opened (repeated false 1)) (unassumed true) w → w.values ≡ minus 1 ∷ []
only_values w is =
    let values = is.values refl in only_value w.values values.variables values.decide

pub certified : (terms : Terms) (b : Bool) (n : ℕ) → HasCircuit terms (repeated b n) true (always b)
certified terms b n = record {
  right = is_true b n;
  strategy = is_strategy b;
  witness = record { proof = steps b; values = one b ∷ [] };
  is_witness = has_witness b n;
  certifies = record {
    winner = refl;
    inputs = refl;
    outputs = refl;
    wins = λ inputs allowed. (
      subst (λ clauses. matrix_true (total (values_of (always b) inputs)) clauses ≡ true)
          (sym (rows_open (repeated b n))) (wins b n inputs),
      λ x v e. absurd (let no : None ≡ Some v = e in cc),
    );
    earlier = λ x i apart v w agree. ⊎_elim
        (λ is. subst (λ y. values_of (always b) v y ≡ values_of (always b) w y) is
        (its_value b v ∙ sym (its_value b w)))
        (λ j. absurd (contains_nil x j)) (contains_cons 1 [] x i);
    assumed = λ x v e. absurd (let no : None ≡ Some v = e in cc);
    first_values = λ e l i inputs. subst (λ (m : Literal). values_of (always b) inputs m.variable ≡ m.positive)
        (only_literal b l i) (its_value b inputs);
    few = omega arith;
  };
}
