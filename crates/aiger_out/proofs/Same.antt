-- A text denotes one circuit, and a circuit has one text.
use Rattle.std.proofs.Common.{◌≡◌, ℕ, ◌+◌, ◌*◌, List, [], ◌∷◌, ◌++◌, length, sym, ap, ap₂, subst, ◌∙◌, arith}
use Rattle.std.specs.Prelude.{codes}
use Rattle.std.specs.List.{AllZip}
use Rattle.aig.specs.declared.edge.And.{And}
use Rattle.aig.specs.declared.strategy.Strategy.{Strategy}
use Rattle.aiger_out.specs.Text.{numeral}
use Rattle.blocks.specs.Lines.{Line, text_of}
use Rattle.aiger_out.specs.Aag.{AreLiteralsOf, EachAt, IsAagText, IsGateLine, IsInputLine, IsOutputLine, header_line}
use Rattle.aiger_out.specs.Theorems.{AreOneGate, HaveOneCircuit}
use Rattle.aiger_out.proofs.Numerals.{plain_numeral, same_numeral}
use Rattle.aiger_out.proofs.Reading.{ArePlain, IsPlainLine, each_form, each_length, each_plain, each_zip, plain_append, same_front, same_lines}
use Rattle.aiger_out.proofs.Parts.{HasParts, end_of, end_plain, header_counts, header_plain, one_circuit, one_gate, one_part, outputs_plain, same_literals}

-- gates and inputs

-- a line has one list of three numbers
pub gate_words : (l : Line) (a b c d e f : ℕ) → l ≡ numeral a ∷ numeral b ∷ numeral c ∷ [] → l ≡ numeral d ∷ numeral e
    ∷ numeral f ∷ [] → (a ≡ d) × (b ≡ e) × (c ≡ f)
gate_words l a b c d e f p q =
    let words : numeral a ∷ numeral b ∷ numeral c ∷ [] ≡ numeral d ∷ numeral e ∷ numeral f ∷ [] = sym p ∙ q in
    let first : numeral a ≡ numeral d = cc in
    let second : numeral b ≡ numeral e = cc in
    let third : numeral c ≡ numeral f = cc in
    (same_numeral a d first, same_numeral b e second, same_numeral c f third)

gate_one : (inputs other k : ℕ) (l : Line) (g h : And) → inputs ≡ other → IsGateLine inputs k l g
    → IsGateLine other k l h → AreOneGate g h
gate_one inputs other k l g h same p q' =
    let q = subst (λ n. IsGateLine n k l h) (sym same) q' in
    let words = gate_words l p.lhs p.rhs0 p.rhs1 q.lhs q.rhs0 q.rhs1 p.words q.words in
    one_gate inputs k g h p.proper q.proper p.rhs0 p.rhs1 p.edges
    (subst (λ n. AreLiteralsOf inputs h p.rhs0 n) (sym words.2)
    (subst (λ n. AreLiteralsOf inputs h n q.rhs1) (sym words.1) q.edges))

gate_text : (inputs k : ℕ) (l m : Line) (g : And) → IsGateLine inputs k l g → IsGateLine inputs k m g → l ≡ m
gate_text inputs k l m g p q =
    let both = same_literals inputs g p.rhs0 p.rhs1 q.rhs0 q.rhs1 p.edges q.edges p.ordered q.ordered in
    p.words ∙ ap (λ n. numeral n ∷ numeral p.rhs0 ∷ numeral p.rhs1 ∷ []) (p.literal ∙ sym q.literal)
    ∙ ap₂ (λ a b. numeral q.lhs ∷ numeral a ∷ numeral b ∷ []) both.0 both.1 ∙ sym q.words

gate_plain : (inputs k : ℕ) (l : Line) (g : And) → IsGateLine inputs k l g → IsPlainLine l
gate_plain inputs k l g p =
    subst IsPlainLine (sym p.words) (plain_numeral p.lhs, (plain_numeral p.rhs0, plain_numeral p.rhs1))

input_plain : (k : ℕ) (l : Line) (x : ℕ) → IsInputLine k l x → IsPlainLine l
input_plain k l x p = subst IsPlainLine (sym p) (plain_numeral (2 * (k + 1)))

-- whole texts

module _ (text : List ℕ) (s : Strategy) (h : IsAagText text s) where
  abbrev symbols : List Line
  symbols = end_of s h.input_symbols h.output_symbols

  abbrev body : List Line
  body = h.input_lines ++ (h.output_lines ++ (h.gate_lines ++ symbols))

  abbrev header : Line
  header = header_line (codes "aag") (length s.inputs) (length s.outputs) (length s.aig.gates)

  parts : HasParts s h.output_lines h.input_symbols h.output_symbols
  parts = record {
    named = h.named;
    edges = h.outputs;
    input_names = h.input_names;
    output_names = h.output_names;
  }

  plain_text : ArePlain (header ∷ body)
  plain_text = (
    header_plain (codes "aag") (length s.inputs) (length s.outputs) (length s.aig.gates)
        (omega arith, (omega arith, (omega arith, tt))),
    plain_append h.input_lines (h.output_lines ++ (h.gate_lines ++ symbols))
        (each_plain IsInputLine input_plain 0 h.input_lines s.inputs h.inputs)
        (plain_append h.output_lines (h.gate_lines ++ symbols)
        (outputs_plain s h.output_lines h.input_symbols h.output_symbols parts)
        (plain_append h.gate_lines symbols
        (each_plain (IsGateLine s.aig.inputs) (gate_plain s.aig.inputs) 0 h.gate_lines s.aig.gates h.gates)
        (end_plain s h.output_lines h.input_symbols h.output_symbols parts))),
  )

module _ (text : List ℕ) (s t : Strategy) (h : IsAagText text s) (g : IsAagText text t) where
  same_text : header text s h ∷ body text s h ≡ header text t g ∷ body text t g
  same_text = same_lines (header text s h ∷ body text s h) (header text t g ∷ body text t g) (plain_text text s h)
      (plain_text text t g) (sym h.lines ∙ g.lines)

  same_counts : (length s.inputs ≡ length t.inputs) × (length s.outputs ≡ length t.outputs) ×
      (length s.aig.gates ≡ length t.aig.gates)
  same_counts =
      let e = same_text in
      let headers : header text s h ≡ header text t g = cc in
      header_counts (codes "aag") (length s.inputs) (length s.outputs) (length s.aig.gates) (length t.inputs)
      (length t.outputs) (length t.aig.gates) headers

  same_bodies : body text s h ≡ body text t g
  same_bodies = let e = same_text in cc

  after_inputs : (h.input_lines ≡ g.input_lines) ×
      (h.output_lines ++ (h.gate_lines ++ symbols text s h) ≡ g.output_lines ++ (g.gate_lines ++ symbols text t g))
  after_inputs = same_front h.input_lines g.input_lines (h.output_lines ++ (h.gate_lines ++ symbols text s h))
      (g.output_lines ++ (g.gate_lines ++ symbols text t g))
      (each_length IsInputLine 0 h.input_lines s.inputs h.inputs ∙ same_counts.0
      ∙ sym (each_length IsInputLine 0 g.input_lines t.inputs g.inputs)) same_bodies

  after_outputs : (h.output_lines ≡ g.output_lines) ×
      (h.gate_lines ++ symbols text s h ≡ g.gate_lines ++ symbols text t g)
  after_outputs = same_front h.output_lines g.output_lines (h.gate_lines ++ symbols text s h)
      (g.gate_lines ++ symbols text t g)
      (each_length (IsOutputLine s.aig) 0 h.output_lines s.outputs h.outputs ∙ same_counts.1
      ∙ sym (each_length (IsOutputLine t.aig) 0 g.output_lines t.outputs g.outputs)) after_inputs.1

  after_gates : (h.gate_lines ≡ g.gate_lines) × (symbols text s h ≡ symbols text t g)
  after_gates = same_front h.gate_lines g.gate_lines (symbols text s h) (symbols text t g)
      (each_length (IsGateLine s.aig.inputs) 0 h.gate_lines s.aig.gates h.gates ∙ same_counts.2
      ∙ sym (each_length (IsGateLine t.aig.inputs) 0 g.gate_lines t.aig.gates g.gates)) after_outputs.1

  same_gates : AllZip AreOneGate s.aig.gates t.aig.gates
  same_gates =
      let inputs : s.aig.inputs ≡ t.aig.inputs = h.named ∙ same_counts.0 ∙ sym g.named in
      each_zip (IsGateLine s.aig.inputs) (IsGateLine t.aig.inputs) AreOneGate
      (λ k l x y p q. gate_one s.aig.inputs t.aig.inputs k l x y inputs p q) 0 h.gate_lines s.aig.gates
      t.aig.gates h.gates
      (subst (λ ls. EachAt (IsGateLine t.aig.inputs) 0 ls t.aig.gates) (sym after_gates.0) g.gates)

  pub have_one_circuit : HaveOneCircuit s t
  have_one_circuit = one_circuit s t h.output_lines h.input_symbols h.output_symbols g.output_lines g.input_symbols
      g.output_symbols (parts text s h) (parts text t g) after_outputs.0 after_gates.1 same_counts.0 same_counts.1
      same_gates

pub have_one_text : (s : Strategy) (text other : List ℕ) → IsAagText text s → IsAagText other s → text ≡ other
have_one_text s text other h g =
    let inputs = each_form IsInputLine (λ k l m x p q. p ∙ sym q) 0 h.input_lines g.input_lines s.inputs h.inputs
    g.inputs in
    let gates = each_form (IsGateLine s.aig.inputs)
    (gate_text s.aig.inputs) 0 h.gate_lines g.gate_lines s.aig.gates h.gates g.gates in
    let others = one_part s h.output_lines h.input_symbols h.output_symbols (parts text s h) g.output_lines
    g.input_symbols g.output_symbols (parts other s g) in
    let lines : body text s h ≡ body other s g =
    ap₂ (λ ls ms. ls ++ ms) inputs (ap₂ (λ ls ms. ls ++ ms) others.0 (ap₂ (λ ls ms. ls ++ ms) gates others.1)) in
    h.lines ∙ ap (λ ls. text_of (header text s h ∷ ls)) lines ∙ sym g.lines
