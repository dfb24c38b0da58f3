-- Worked values of certificates: circuits without gates, and their texts.
use Rattle.std.proofs.Common.{◌≡◌, ◌∙◌, ◌<◌, ℕ, true, false, not, List, [], ◌∷◌, map, codes, Option, Some, None, ⊎_elim, refl, sym, subst, arith}
use Rattle.std.proofs.lemmas.Bool.{false≢true}
use Rattle.prefix.specs.declared.quant.Quant.{Quant}
use Rattle.prefix.specs.declared.quant.Quant.TheVariants.{Exists, Forall}
use Rattle.prefix.specs.Scopes.{depth_of}
use Rattle.truth.specs.Matrix.{matrix_true}
use Rattle.calculus.specs.Plays.{AgreeBefore, DependsOnEarlier, total}
use Rattle.calculus.specs.Rows.{Assignment}
use Rattle.calculus.proofs.Lists.{contains_cons, contains_head, contains_nil}
use Rattle.frames.specs.State.{open_clauses}
use Rattle.aig.specs.Circuits.{AreDistinct, IsEdge, edge_number, one, value_of, zero}
use Rattle.aig.specs.Strategies.{output_of, value_or, values_of}
use Rattle.aig.specs.declared.edge.Edge.{Edge}
use Rattle.aig.specs.declared.edge.Node.TheVariants.{Input}
use Rattle.aig.specs.declared.strategy.Strategy.{Strategy}
use Rattle.aiger_out.specs.Aag.{IsAagText, comment_lines, header_line, literal_line, symbol_line}
use Rattle.blocks.specs.Lines.{text_of}
use Rattle.aiger_out.specs.Theorems.{HaveOneCircuit}
use Rattle.solve.specs.Worked.{either, true_text}

-- circuits of one text give all variables the same values
pub same_value : (s t : Strategy) → HaveOneCircuit s t → (v : Assignment) (x : ℕ) → values_of s v x ≡ values_of t v x
same_value s t same v x =
    subst (λ inputs. values_of s v x ≡ value_or t.aig (map v inputs) (output_of t.outputs x) (v x)) same.inputs
    (subst (λ outputs. values_of s v x ≡ value_or t.aig (map v s.inputs) (output_of outputs x) (v x)) same.outputs
    (by (output_of s.outputs x)))
  where
    by : (o : Option Edge) → value_or s.aig (map v s.inputs) o (v x) ≡ value_or t.aig (map v s.inputs) o (v x)
    by None = refl
    by (Some e) = same.values (map v s.inputs) e

no_two : AreDistinct []
no_two i j d before within same = absurd (let no : j < 0 = within in omega (arith, no))

-- 3 by an edge of a circuit over 4
abbrev pub three_by : Edge → Strategy
three_by e = record {
  aig = record { inputs = 1; gates = [] };
  winner = Exists;
  inputs = 4 ∷ [];
  outputs = record { var = 3; edge = e } ∷ [];
}

abbrev three_text : Edge → List ℕ
three_text e = text_of (header_line (codes "aag") 1 1 0 ∷ literal_line 2 ∷ literal_line (edge_number 1 e)
    ∷ symbol_line (codes "i") 0 4 ∷ symbol_line (codes "o") 0 3 ∷ comment_lines Exists)

pub three_denotes : (e : Edge) → IsEdge (record { inputs = 1; gates = [] }) e → IsAagText (three_text e) (three_by e)
three_denotes e stands = record {
  input_lines = literal_line 2 ∷ [];
  output_lines = literal_line (edge_number 1 e) ∷ [];
  gate_lines = [];
  input_symbols = symbol_line (codes "i") 0 4 ∷ [];
  output_symbols = symbol_line (codes "o") 0 3 ∷ [];
  lines = refl;
  named = refl;
  inputs = (refl, tt);
  outputs = (record { stands = stands; literal = refl }, tt);
  gates = tt;
  distinct = no_two;
  input_names = (refl, tt);
  output_names = (refl, tt);
}

-- always true
abbrev pub always : Strategy
always = three_by one

one_stands : IsEdge (record { inputs = 1; gates = [] }) one
unfolding IsEdge
one_stands = tt

pub always_denotes : IsAagText true_text always
always_denotes = three_denotes one one_stands

pub always_value : (v : Assignment) → values_of always v 3 ≡ true
unfolding value_of
always_value v = refl

-- never true
pub zero_stands : IsEdge (record { inputs = 1; gates = [] }) zero
unfolding IsEdge
zero_stands = tt

pub never_value : (v : Assignment) → values_of (three_by zero) v 3 ≡ false
unfolding value_of
never_value v = refl

-- without 3 and 4 the formula is lost
pub three_or_four : (values : Assignment) → values 3 ≡ false → values 4 ≡ false
    → matrix_true (total values) (open_clauses either) ≡ true → ⊥
three_or_four values three four won =
    let lost : matrix_true (total values) (open_clauses either) ≡ false = rw (three, four) refl in
    false≢true (sym lost ∙ won)

-- true where 4 is false
abbrev pub ahead : Edge
ahead = record { node = Input 0; negated = true }

pub ahead_stands : IsEdge (record { inputs = 1; gates = [] }) ahead
unfolding IsEdge
ahead_stands = let z : 0 < 1 = omega arith in z

ahead_value : (v : Assignment) → values_of (three_by ahead) v 3 ≡ not (v 4)
unfolding value_of
ahead_value v = refl

-- nothing comes before 3
none_before : (v w : Assignment) → AgreeBefore Forall either.scopes 3 v w
none_before v w y listed quantifier before = ⊎_elim
    (λ is. absurd (let low : 1 < 1 = subst (λ z. depth_of either.scopes z < depth_of either.scopes 3) (sym is) before in
    omega (arith, low)))
    (λ i. ⊎_elim
    (λ is. absurd (let low : 2 < 1 = subst (λ z. depth_of either.scopes z < depth_of either.scopes 3) (sym is) before in
    omega (arith, low)))
    (λ j. absurd (contains_nil y j)) (contains_cons 4 [] y i)) (contains_cons 3 (4 ∷ []) y listed)

pub looks_at_four : (t : Strategy) → HaveOneCircuit (three_by ahead) t
    → DependsOnEarlier Forall either.scopes (values_of t) → ⊥
looks_at_four t same earlier =
    let v : Assignment = λ x. true in
    let w : Assignment = λ x. false in
    let alike : values_of t v 3 ≡ values_of t w 3 = earlier 3 (contains_head 3 (4 ∷ []))
    (λ e. absurd (let f : Some Exists ≡ Some Forall = e in cc)) v w (none_before v w) in
    false≢true (sym (ahead_value v) ∙ same_value (three_by ahead) t same v 3 ∙ alike
    ∙ sym (same_value (three_by ahead) t same w 3) ∙ ahead_value w)

-- a circuit without inputs and outputs
abbrev pub bare : Quant → Strategy
bare winner = record { aig = record { inputs = 0; gates = [] }; winner = winner; inputs = []; outputs = [] }

pub bare_denotes : (winner : Quant)
    → IsAagText (text_of (header_line (codes "aag") 0 0 0 ∷ comment_lines winner)) (bare winner)
bare_denotes winner = record {
  input_lines = [];
  output_lines = [];
  gate_lines = [];
  input_symbols = [];
  output_symbols = [];
  lines = refl;
  named = refl;
  inputs = tt;
  outputs = tt;
  gates = tt;
  distinct = no_two;
  input_names = tt;
  output_names = tt;
}

-- 3 is always true, without an input
abbrev pub inputless : Strategy
inputless = record {
  aig = record { inputs = 0; gates = [] };
  winner = Exists;
  inputs = [];
  outputs = record { var = 3; edge = one } ∷ [];
}

pub inputless_denotes : IsAagText (codes "aag 0 0 0 1 0\n1\no0 3\nc\nskolem\n") inputless
unfolding IsEdge
inputless_denotes = record {
  input_lines = [];
  output_lines = literal_line 1 ∷ [];
  gate_lines = [];
  input_symbols = [];
  output_symbols = symbol_line (codes "o") 0 3 ∷ [];
  lines = refl;
  named = refl;
  inputs = tt;
  outputs = (record { stands = tt; literal = refl }, tt);
  gates = tt;
  distinct = no_two;
  input_names = tt;
  output_names = (refl, tt);
}

-- and 9 too
abbrev pub two_outputs : Strategy
two_outputs = record {
  aig = record { inputs = 0; gates = [] };
  winner = Exists;
  inputs = [];
  outputs = record { var = 3; edge = one } ∷ record { var = 9; edge = one } ∷ [];
}

pub two_outputs_denote : IsAagText (codes "aag 0 0 0 2 0\n1\n1\no0 3\no1 9\nc\nskolem\n") two_outputs
unfolding IsEdge
two_outputs_denote = record {
  input_lines = [];
  output_lines = literal_line 1 ∷ literal_line 1 ∷ [];
  gate_lines = [];
  input_symbols = [];
  output_symbols = symbol_line (codes "o") 0 3 ∷ symbol_line (codes "o") 1 9 ∷ [];
  lines = refl;
  named = refl;
  inputs = tt;
  outputs = (record { stands = tt; literal = refl }, (record { stands = tt; literal = refl }, tt));
  gates = tt;
  distinct = no_two;
  input_names = tt;
  output_names = (refl, (refl, tt));
}
