-- Bytes denote one circuit, and a circuit has one form of bytes.
use Rattle.std.proofs.Common.{◌≡◌, ℕ, ◌+◌, ◌-◌, List, [], ◌∷◌, ◌++◌, length, sym, ap, ap₂, subst, ◌∙◌, arith, append_assoc}
use Rattle.std.specs.Prelude.{codes}
use Rattle.std.specs.List.{AllZip}
use Rattle.aig.specs.declared.edge.And.{And}
use Rattle.aig.specs.declared.strategy.Strategy.{Strategy}
use Rattle.blocks.specs.Lines.{Line, line_text, text_of}
use Rattle.aiger_out.specs.Aag.{AreLiteralsOf, EachAt, IsOutputLine, header_line}
use Rattle.aiger_out.specs.Binary.{IsAigBytes, IsDelta, IsGateBytes, joined}
use Rattle.aiger_out.specs.Theorems.{AreOneGate, HaveOneCircuit}
use Rattle.aiger_out.proofs.Numerals.{IsPlain}
use Rattle.aiger_out.proofs.Reading.{each_form, each_length, line_cut, lines_cut, same_lines}
use Rattle.aiger_out.proofs.Parts.{HasParts, end_of, end_plain, header_counts, header_plain, one_circuit, one_gate, one_part, outputs_plain, same_literals}
use Rattle.aiger_out.proofs.Deltas.{one_form, one_number}

-- the bytes of gates

-- those of a gate that stand in front
gate_cut : (inputs place : ℕ) (bs cs : List ℕ) (g h : And) (r s : List ℕ) → IsGateBytes inputs place bs g
    → IsGateBytes inputs place cs h → bs ++ r ≡ cs ++ s → AreOneGate g h × (r ≡ s)
gate_cut inputs place bs cs g h r s p q e =
    let regrouped : p.first ++ (p.second ++ r) ≡ q.first ++ (q.second ++ s) =
    sym (append_assoc p.first p.second r) ∙ ap (λ x. x ++ r) (sym p.parts) ∙ e ∙ ap (λ x. x ++ s) q.parts
    ∙ append_assoc q.first q.second s in
    let one = one_number (p.lhs - p.rhs0) (q.lhs - q.rhs0) p.first q.first (p.second ++ r) (q.second ++ s) p.first_delta
    q.first_delta regrouped in
    let two = one_number (p.rhs0 - p.rhs1) (q.rhs0 - q.rhs1) p.second q.second r s p.second_delta q.second_delta
    one.2 in
    let lhs : p.lhs ≡ q.lhs = p.literal ∙ sym q.literal in
    let same0 : p.rhs0 ≡ q.rhs0 = omega (arith, one.0, lhs, p.later, q.later) in
    let same1 : p.rhs1 ≡ q.rhs1 = omega (arith, two.0, same0, p.ordered, q.ordered) in (
      one_gate inputs place g h p.proper q.proper p.rhs0 p.rhs1 p.edges
          (subst (λ n. AreLiteralsOf inputs h p.rhs0 n) (sym same1)
          (subst (λ n. AreLiteralsOf inputs h n q.rhs1) (sym same0) q.edges)),
      two.2,
    )

gates_cut : (inputs place : ℕ) (bs cs : List (List ℕ)) (gs hs : List And) (r s : List ℕ)
    → EachAt (IsGateBytes inputs) place bs gs → EachAt (IsGateBytes inputs) place cs hs → length gs ≡ length hs
    → joined bs ++ r ≡ joined cs ++ s → AllZip AreOneGate gs hs × (r ≡ s)
gates_cut inputs place [] [] [] [] r s p q h e = (tt, e)
gates_cut inputs place [] (c ∷ cs) [] [] r s p q h e = absurd q
gates_cut inputs place (b ∷ bs) cs [] hs r s p q h e = absurd p
gates_cut inputs place [] cs (g ∷ gs) hs r s p q h e = absurd p
gates_cut inputs place [] cs [] (x ∷ hs) r s p q h e = absurd (omega arith)
gates_cut inputs place (b ∷ bs) cs (g ∷ gs) [] r s p q h e = absurd (omega arith)
gates_cut inputs place (b ∷ bs) [] (g ∷ gs) (x ∷ hs) r s p q h e = absurd q
gates_cut inputs place (b ∷ bs) (c ∷ cs) (g ∷ gs) (x ∷ hs) r s p q h e =
    let one = gate_cut inputs place b c g x (joined bs ++ r) (joined cs ++ s) p.0 q.0
    (sym (append_assoc b (joined bs) r) ∙ e ∙ append_assoc c (joined cs) s) in
    let rest = gates_cut inputs (place + 1) bs cs gs hs r s p.1 q.1 (omega (arith, h)) one.1 in
    ((one.0, rest.0), rest.1)

pub gate_form : (inputs place : ℕ) (bs cs : List ℕ) (g : And) → IsGateBytes inputs place bs g
    → IsGateBytes inputs place cs g → bs ≡ cs
gate_form inputs place bs cs g p q =
    let lhs : p.lhs ≡ q.lhs = p.literal ∙ sym q.literal in
    let both = same_literals inputs g p.rhs0 p.rhs1 q.rhs0 q.rhs1 p.edges q.edges p.ordered q.ordered in
    let first : p.first ≡ q.first = one_form (p.lhs - p.rhs0) p.first q.first p.first_delta
    (subst (λ n. IsDelta (p.lhs - n) q.first) (sym both.0)
    (subst (λ n. IsDelta (n - q.rhs0) q.first) (sym lhs) q.first_delta)) in
    let second : p.second ≡ q.second = one_form (p.rhs0 - p.rhs1) p.second q.second p.second_delta
    (subst (λ n. IsDelta (p.rhs0 - n) q.second) (sym both.1)
    (subst (λ n. IsDelta (n - q.rhs1) q.second) (sym both.0) q.second_delta)) in
    p.parts ∙ ap₂ (λ (x y : List ℕ). x ++ y) first second ∙ sym q.parts

-- whole forms

module _ (bytes : List ℕ) (s : Strategy) (h : IsAigBytes bytes s) where
  abbrev symbols : List Line
  symbols = end_of s h.input_symbols h.output_symbols

  abbrev header : Line
  header = header_line (codes "aig") (length s.inputs) (length s.outputs) (length s.aig.gates)

  abbrev after_outputs : List ℕ
  after_outputs = joined h.gate_bytes ++ text_of symbols

  parts : HasParts s h.output_lines h.input_symbols h.output_symbols
  parts = record {
    named = h.named;
    edges = h.outputs;
    input_names = h.input_names;
    output_names = h.output_names;
  }

module _ (bytes : List ℕ) (s t : Strategy) (h : IsAigBytes bytes s) (g : IsAigBytes bytes t) where
  at_header : (header bytes s h ≡ header bytes t g)
      × (text_of h.output_lines ++ after_outputs bytes s h ≡ text_of g.output_lines ++ after_outputs bytes t g)
  at_header = line_cut (header bytes s h) (header bytes t g) (text_of h.output_lines ++ after_outputs bytes s h)
      (text_of g.output_lines ++ after_outputs bytes t g)
      (header_plain (codes "aig") (length s.inputs) (length s.outputs) (length s.aig.gates) word)
      (header_plain (codes "aig") (length t.inputs) (length t.outputs) (length t.aig.gates) word)
      (sym h.whole ∙ g.whole)
    where
      word : IsPlain (codes "aig")
      word = (omega arith, (omega arith, (omega arith, tt)))

  same_counts : (length s.inputs ≡ length t.inputs) × (length s.outputs ≡ length t.outputs) ×
      (length s.aig.gates ≡ length t.aig.gates)
  same_counts = header_counts (codes "aig") (length s.inputs) (length s.outputs) (length s.aig.gates) (length t.inputs)
      (length t.outputs) (length t.aig.gates) at_header.0

  at_outputs : (h.output_lines ≡ g.output_lines) × (after_outputs bytes s h ≡ after_outputs bytes t g)
  at_outputs = lines_cut h.output_lines g.output_lines (after_outputs bytes s h) (after_outputs bytes t g)
      (outputs_plain s h.output_lines h.input_symbols h.output_symbols (parts bytes s h))
      (outputs_plain t g.output_lines g.input_symbols g.output_symbols (parts bytes t g))
      (each_length (IsOutputLine s.aig) 0 h.output_lines s.outputs h.outputs ∙ same_counts.1
      ∙ sym (each_length (IsOutputLine t.aig) 0 g.output_lines t.outputs g.outputs)) at_header.1

  at_gates : AllZip AreOneGate s.aig.gates t.aig.gates × (text_of (symbols bytes s h) ≡ text_of (symbols bytes t g))
  at_gates =
      let inputs : s.aig.inputs ≡ t.aig.inputs = h.named ∙ same_counts.0 ∙ sym g.named in
      gates_cut s.aig.inputs 0 h.gate_bytes g.gate_bytes s.aig.gates t.aig.gates (text_of (symbols bytes s h))
      (text_of (symbols bytes t g)) h.gates
      (subst (λ n. EachAt (IsGateBytes n) 0 g.gate_bytes t.aig.gates) (sym inputs) g.gates) same_counts.2 at_outputs.1

  same_symbols : symbols bytes s h ≡ symbols bytes t g
  same_symbols = same_lines (symbols bytes s h) (symbols bytes t g)
      (end_plain s h.output_lines h.input_symbols h.output_symbols (parts bytes s h))
      (end_plain t g.output_lines g.input_symbols g.output_symbols (parts bytes t g)) at_gates.1

  pub bytes_have_one_circuit : HaveOneCircuit s t
  bytes_have_one_circuit = one_circuit s t h.output_lines h.input_symbols h.output_symbols g.output_lines
      g.input_symbols g.output_symbols (parts bytes s h) (parts bytes t g) at_outputs.0 same_symbols same_counts.0
      same_counts.1 at_gates.0

pub have_one_form : (s : Strategy) (bytes other : List ℕ) → IsAigBytes bytes s → IsAigBytes other s → bytes ≡ other
have_one_form s bytes other h g =
    let gates = each_form (IsGateBytes s.aig.inputs) (gate_form s.aig.inputs) 0 h.gate_bytes g.gate_bytes s.aig.gates
    h.gates g.gates in
    let others = one_part s h.output_lines h.input_symbols h.output_symbols (parts bytes s h) g.output_lines
    g.input_symbols g.output_symbols (parts other s g) in
    let gates_on : after_outputs bytes s h ≡ after_outputs other s g =
    ap₂ (λ (a b : List ℕ). a ++ b) (ap joined gates) (ap text_of others.1) in
    h.whole
    ∙ ap (λ (r : List ℕ). line_text (header bytes s h) ++ r)
    (ap₂ (λ (a b : List ℕ). a ++ b) (ap text_of others.0) gates_on)
    ∙ sym g.whole
