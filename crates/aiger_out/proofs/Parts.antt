-- What the text and the bytes of a circuit have alike: gates, the header, lines of outputs, symbols and the comment.
use Rattle.std.proofs.Common.{◌≡◌, ℕ, ◌+◌, ◌<◌, ◌≤◌, ◌⊎◌, inl, inr, Bool, true, false, ◌&&◌, List, [], ◌∷◌, ◌++◌, length, refl, sym, ap, ap₂, subst, ◌∙◌, arith}
use Rattle.std.specs.Prelude.{codes}
use Rattle.std.specs.List.{AllZip}
use Rattle.std.proofs.lemmas.List.Elements.{same_from_all_zip}
use Rattle.prefix.specs.declared.quant.Quant.{Quant}
use Rattle.prefix.specs.declared.quant.Quant.TheVariants.{Exists, Forall}
use Rattle.aig.specs.Circuits.{Circuit, IsEdge, IsGate, edge_number, edge_value, gate_value, gate_values, value_of}
use Rattle.aig.specs.declared.edge.Edge.{Edge}
use Rattle.aig.specs.declared.edge.And.{And}
use Rattle.aig.specs.declared.strategy.Output.{Output}
use Rattle.aig.specs.declared.strategy.Strategy.{Strategy}
use Rattle.aig.proofs.Numbers.{edge_same}
use Rattle.aiger_out.specs.Text.{numeral}
use Rattle.blocks.specs.Lines.{Line, text_of}
use Rattle.aiger_out.specs.Aag.{AreLiteralsOf, EachAt, IsInputSymbol, IsOutputLine, IsOutputSymbol, comment_lines, header_line, literal_line, symbol_line}
use Rattle.aiger_out.specs.Theorems.{AreOneGate, HaveOneCircuit}
use Rattle.aiger_out.proofs.Numerals.{IsPlain, plain_numeral, same_numeral}
use Rattle.aiger_out.proofs.Reading.{ArePlain, IsPlainLine, each_form, each_length, each_plain, each_zip, plain_append, same_front, zip_both}

-- two gates over edges with the same two literals
module _ (inputs k : ℕ) (g h : And) (p : IsGate inputs k g) (q : IsGate inputs k h) where
  left_left : edge_number inputs g.left ≡ edge_number inputs h.left → g.left ≡ h.left
  left_left = edge_same inputs k k g.left h.left p.left_stands q.left_stands

  left_right : edge_number inputs g.left ≡ edge_number inputs h.right → g.left ≡ h.right
  left_right = edge_same inputs k k g.left h.right p.left_stands q.right_stands

  right_left : edge_number inputs g.right ≡ edge_number inputs h.left → g.right ≡ h.left
  right_left = edge_same inputs k k g.right h.left p.right_stands q.left_stands

  right_right : edge_number inputs g.right ≡ edge_number inputs h.right → g.right ≡ h.right
  right_right = edge_same inputs k k g.right h.right p.right_stands q.right_stands

  abbrev make : Edge → Edge → And
  make left right = record { left = left; right = right }

  pub one_gate : (m n : ℕ) → AreLiteralsOf inputs g m n → AreLiteralsOf inputs h m n → AreOneGate g h
  one_gate m n (inl a) (inl b) = inl (ap₂ make (left_left (sym a.0 ∙ b.0)) (right_right (sym a.1 ∙ b.1)))
  one_gate m n (inl a) (inr b) = inr (ap₂ make (left_right (sym a.0 ∙ b.0)) (right_left (sym a.1 ∙ b.1)))
  one_gate m n (inr a) (inl b) = inr (ap₂ make (left_right (sym a.1 ∙ b.1)) (right_left (sym a.0 ∙ b.0)))
  one_gate m n (inr a) (inr b) = inl (ap₂ make (left_left (sym a.1 ∙ b.1)) (right_right (sym a.0 ∙ b.0)))

-- the literals of a gate's edges are the same two, the greater one first
pub same_literals : (inputs : ℕ) (g : And) (a b c d : ℕ) → AreLiteralsOf inputs g a b → AreLiteralsOf inputs g c d
    → b ≤ a → d ≤ c → (a ≡ c) × (b ≡ d)
same_literals inputs g a b c d = by (edge_number inputs g.left) (edge_number inputs g.right)
  where
    by : (m n : ℕ) → ((a ≡ m) × (b ≡ n)) ⊎ ((a ≡ n) × (b ≡ m)) → ((c ≡ m) × (d ≡ n)) ⊎ ((c ≡ n) × (d ≡ m))
        → b ≤ a → d ≤ c → (a ≡ c) × (b ≡ d)
    by m n (inl e) (inl f) le ge = (e.0 ∙ sym f.0, e.1 ∙ sym f.1)
    by m n (inl e) (inr f) le ge = (omega (arith, e.0, e.1, f.0, f.1), omega (arith, e.0, e.1, f.0, f.1))
    by m n (inr e) (inl f) le ge = (omega (arith, e.0, e.1, f.0, f.1), omega (arith, e.0, e.1, f.0, f.1))
    by m n (inr e) (inr f) le ge = (e.0 ∙ sym f.0, e.1 ∙ sym f.1)

-- values do not depend on the order of a gate's edges

and_comm : (a b : Bool) → (a && b) ≡ (b && a)
and_comm true true = refl
and_comm true false = refl
and_comm false true = refl
and_comm false false = refl

gate_value_one : (inputs before : List Bool) (g h : And) → AreOneGate g h
    → gate_value inputs before g ≡ gate_value inputs before h
gate_value_one inputs before g h (inl e) = ap (gate_value inputs before) e
gate_value_one inputs before g h (inr e) = ap (gate_value inputs before) e
    ∙ and_comm (edge_value inputs before h.right) (edge_value inputs before h.left)

values_one : (inputs before : List Bool) (gs hs : List And) → AllZip AreOneGate gs hs
    → gate_values inputs before gs ≡ gate_values inputs before hs
values_one inputs before [] [] z = refl
values_one inputs before [] (h ∷ hs) z = absurd z
values_one inputs before (g ∷ gs) [] z = absurd z
values_one inputs before (g ∷ gs) (h ∷ hs) z =
    ap (λ b. gate_values inputs (before ++ b ∷ []) gs) (gate_value_one inputs before g h z.0)
    ∙ values_one inputs (before ++ gate_value inputs before h ∷ []) gs hs z.1

pub circuit_values : (c d : Circuit) → AllZip AreOneGate c.gates d.gates → (inputs : List Bool) (e : Edge)
    → value_of c inputs e ≡ value_of d inputs e
unfolding value_of
circuit_values c d z inputs e = ap (λ values. edge_value inputs values e) (values_one inputs [] c.gates d.gates z)

-- the header

pub header_plain : (word : List ℕ) (i o a : ℕ) → IsPlain word → IsPlainLine (header_line word i o a)
header_plain word i o a plain =
    (plain, (plain_numeral (i + a), (plain_numeral i, (plain_numeral 0, (plain_numeral o, plain_numeral a)))))

pub header_counts : (word : List ℕ) (i o a j p b : ℕ) → header_line word i o a ≡ header_line word j p b
    → (i ≡ j) × (o ≡ p) × (a ≡ b)
header_counts word i o a j p b e =
    let inputs : numeral i ≡ numeral j = cc in
    let outputs : numeral o ≡ numeral p = cc in
    let gates : numeral a ≡ numeral b = cc in
    (same_numeral i j inputs, same_numeral o p outputs, same_numeral a b gates)

-- the lines of outputs

-- a line with one literal is that of one number
pub same_word : (m n : ℕ) → literal_line m ≡ literal_line n → m ≡ n
same_word m n e = let words : numeral m ≡ numeral n = cc in same_numeral m n words

output_edge : (c d : Circuit) (k : ℕ) (l : Line) (x y : Output) → c.inputs ≡ d.inputs → IsOutputLine c k l x
    → IsOutputLine d k l y → x.edge ≡ y.edge
unfolding IsEdge
output_edge c d k l x y same p q =
    edge_same c.inputs (length c.gates) (length d.gates) x.edge y.edge p.stands (rw same q.stands)
    (same_word (edge_number c.inputs x.edge) (edge_number c.inputs y.edge)
    (sym p.literal ∙ q.literal ∙ ap (λ n. literal_line (edge_number n y.edge)) (sym same)))

output_plain : (c : Circuit) (k : ℕ) (l : Line) (x : Output) → IsOutputLine c k l x → IsPlainLine l
output_plain c k l x p = subst IsPlainLine (sym p.literal) (plain_numeral (edge_number c.inputs x.edge))

-- symbols and the comment

symbol_name : (letter : List ℕ) (k m n : ℕ) → symbol_line letter k m ≡ symbol_line letter k n → m ≡ n
symbol_name letter k m n e = let words : numeral m ≡ numeral n = cc in same_numeral m n words

input_symbol_plain : (k : ℕ) (l : Line) (x : ℕ) → IsInputSymbol k l x → IsPlainLine l
input_symbol_plain k l x p = subst IsPlainLine (sym p) ((omega arith, plain_numeral k), plain_numeral x)

output_symbol_plain : (k : ℕ) (l : Line) (x : Output) → IsOutputSymbol k l x → IsPlainLine l
output_symbol_plain k l x p = subst IsPlainLine (sym p) ((omega arith, plain_numeral k), plain_numeral x.var)

lengths_differ : (m n : ℕ) → m < n → m ≡ n → ⊥
lengths_differ m n h e = omega arith

comment_same : (p q : Quant) → comment_lines p ≡ comment_lines q → p ≡ q
comment_same Exists Exists e = refl
comment_same Exists Forall e =
    absurd (lengths_differ 9 11 (omega arith) (ap (λ (ls : List Line). length (text_of ls)) e))
comment_same Forall Exists e =
    absurd (lengths_differ 9 11 (omega arith) (ap (λ (ls : List Line). length (text_of ls)) (sym e)))
comment_same Forall Forall e = refl

comment_plain : (q : Quant) → ArePlain (comment_lines q)
comment_plain Exists = (
  (omega arith, tt),
  (
    (omega arith, (omega arith, (omega arith, (omega arith, (omega arith, (omega arith, tt)))))),
    tt,
  ),
)
comment_plain Forall = (
  (omega arith, tt),
  (
    (
      omega arith,
      (
        omega arith,
        (omega arith, (omega arith, (omega arith, (omega arith, (omega arith, (omega arith, tt)))))),
      ),
    ),
    tt,
  ),
)

-- the parts of a strategy's text or bytes that are alike
pub record HasParts (s : Strategy) (outputs input_symbols output_symbols : List Line) : Type 0 where
  pub named : s.aig.inputs ≡ length s.inputs
  pub edges : EachAt (IsOutputLine s.aig) 0 outputs s.outputs
  pub input_names : EachAt IsInputSymbol 0 input_symbols s.inputs
  pub output_names : EachAt IsOutputSymbol 0 output_symbols s.outputs

-- the lines at the end
abbrev pub end_of : Strategy → List Line → List Line → List Line
end_of s ins outs = ins ++ (outs ++ comment_lines s.winner)

module _ (s : Strategy) (lines ins outs : List Line) (h : HasParts s lines ins outs) where
  pub outputs_plain : ArePlain lines
  outputs_plain = each_plain (IsOutputLine s.aig) (output_plain s.aig) 0 lines s.outputs h.edges

  pub end_plain : ArePlain (end_of s ins outs)
  end_plain = plain_append ins (outs ++ comment_lines s.winner)
      (each_plain IsInputSymbol input_symbol_plain 0 ins s.inputs h.input_names)
      (plain_append outs (comment_lines s.winner)
      (each_plain IsOutputSymbol output_symbol_plain 0 outs s.outputs h.output_names) (comment_plain s.winner))

  -- the parts of one strategy are the same in all its texts
  pub one_part : (others more most : List Line) → HasParts s others more most
      → (lines ≡ others) × (end_of s ins outs ≡ end_of s more most)
  one_part others more most k = (
    each_form (IsOutputLine s.aig) (λ i l m x p q. p.literal ∙ sym q.literal) 0 lines others s.outputs h.edges k.edges,
    ap₂ (λ (ls ms : List Line). ls ++ (ms ++ comment_lines s.winner))
        (each_form IsInputSymbol (λ i l m x p q. p ∙ sym q) 0 ins more s.inputs h.input_names k.input_names)
        (each_form IsOutputSymbol (λ i l m x p q. p ∙ sym q) 0 outs most s.outputs h.output_names k.output_names),
  )

-- two strategies with the same output lines and the same end, and with the same gates, have one circuit
module _ (s t : Strategy) (lines ins outs others more most : List Line) (h : HasParts s lines ins outs)
    (k : HasParts t others more most) (same : lines ≡ others) (ends : end_of s ins outs ≡ end_of t more most)
    (inputs : length s.inputs ≡ length t.inputs) (outputs : length s.outputs ≡ length t.outputs) where
  after_inputs : (ins ≡ more) × (outs ++ comment_lines s.winner ≡ most ++ comment_lines t.winner)
  after_inputs = same_front ins more (outs ++ comment_lines s.winner) (most ++ comment_lines t.winner)
      (each_length IsInputSymbol 0 ins s.inputs h.input_names ∙ inputs
      ∙ sym (each_length IsInputSymbol 0 more t.inputs k.input_names)) ends

  after_outputs : (outs ≡ most) × (comment_lines s.winner ≡ comment_lines t.winner)
  after_outputs = same_front outs most (comment_lines s.winner) (comment_lines t.winner)
      (each_length IsOutputSymbol 0 outs s.outputs h.output_names ∙ outputs
      ∙ sym (each_length IsOutputSymbol 0 most t.outputs k.output_names)) after_inputs.1

  same_inputs : s.inputs ≡ t.inputs
  same_inputs = sym (same_from_all_zip (λ m n. m ≡ n) s.inputs t.inputs
      (each_zip IsInputSymbol IsInputSymbol (λ m n. m ≡ n)
      (λ i l m n p q. symbol_name (codes "i") i m n (sym p ∙ q)) 0 ins s.inputs t.inputs h.input_names
      (subst (λ ls. EachAt IsInputSymbol 0 ls t.inputs) (sym after_inputs.0) k.input_names))
      (λ m n e. sym e))

  same_counts : s.aig.inputs ≡ t.aig.inputs
  same_counts = h.named ∙ inputs ∙ sym k.named

  same_outputs : s.outputs ≡ t.outputs
  same_outputs = zip_both (λ (x y : Output). x.edge ≡ y.edge) (λ (x y : Output). x.var ≡ y.var) one s.outputs t.outputs
      (each_zip (IsOutputLine s.aig) (IsOutputLine t.aig) (λ (x y : Output). x.edge ≡ y.edge)
      (λ i l x y p q. output_edge s.aig t.aig i l x y same_counts p q) 0 lines s.outputs t.outputs h.edges
      (subst (λ ls. EachAt (IsOutputLine t.aig) 0 ls t.outputs) (sym same) k.edges))
      (each_zip IsOutputSymbol IsOutputSymbol (λ (x y : Output). x.var ≡ y.var)
      (λ i l x y p q. symbol_name (codes "o") i x.var y.var (sym p ∙ q)) 0 outs s.outputs t.outputs h.output_names
      (subst (λ ls. EachAt IsOutputSymbol 0 ls t.outputs) (sym after_outputs.0) k.output_names))
    where
      one : (x y : Output) → x.edge ≡ y.edge → x.var ≡ y.var → x ≡ y
      one x y e v = let Make : ℕ → Edge → Output = λ var edge. record { var = var; edge = edge } in ap₂ Make v e

  pub one_circuit : AllZip AreOneGate s.aig.gates t.aig.gates → HaveOneCircuit s t
  one_circuit gates = record {
    winner = comment_same s.winner t.winner after_outputs.1;
    inputs = same_inputs;
    outputs = same_outputs;
    counts = same_counts;
    gates = gates;
    values = circuit_values s.aig t.aig gates;
  }

-- having one circuit goes from one strategy to the others

-- a gate with its edges exchanged
abbrev exchanged : And → And
exchanged g = record { left = g.right; right = g.left }

turned : (g h : And) → AreOneGate g h → AreOneGate h g
turned g h (inl e) = inl (sym e)
turned g h (inr e) = inr (ap exchanged (sym e))

followed : (g h i : And) → AreOneGate g h → AreOneGate h i → AreOneGate g i
followed g h i (inl e) z = subst (λ (x : And). AreOneGate x i) (sym e) z
followed g h i (inr e) (inl f) = inr (e ∙ ap exchanged f)
followed g h i (inr e) (inr f) = inl (e ∙ ap exchanged f)

gates_between : (fs gs hs : List And) → AllZip AreOneGate fs gs → AllZip AreOneGate fs hs → AllZip AreOneGate gs hs
gates_between [] [] [] y z = tt
gates_between [] [] (h ∷ hs) y z = absurd z
gates_between [] (g ∷ gs) hs y z = absurd y
gates_between (f ∷ fs) [] hs y z = absurd y
gates_between (f ∷ fs) (g ∷ gs) [] y z = absurd z
gates_between (f ∷ fs) (g ∷ gs) (h ∷ hs) y z =
    (followed g f h (turned f g y.0) z.0, gates_between fs gs hs y.1 z.1)

pub circuit_between : (s t u : Strategy) → HaveOneCircuit s t → HaveOneCircuit s u → HaveOneCircuit t u
circuit_between s t u y z = record {
  winner = sym y.winner ∙ z.winner;
  inputs = sym y.inputs ∙ z.inputs;
  outputs = sym y.outputs ∙ z.outputs;
  counts = sym y.counts ∙ z.counts;
  gates = gates_between s.aig.gates t.aig.gates u.aig.gates y.gates z.gates;
  values = λ inputs e. sym (y.values inputs e) ∙ z.values inputs e;
}
