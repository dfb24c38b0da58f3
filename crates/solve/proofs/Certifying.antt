-- Worked values of certificates: two circuits for one formula, with a gate that no output is reached from and without.
use Rattle.std.specs.Prelude.{codes, ◌-◌}
use Rattle.std.proofs.Common.{◌≡◌, ◌∙◌, ◌<◌, ◌≤◌, ℕ, zero, suc, Bool, true, false, not, ◌&&◌, List, [], ◌∷◌, length, get_or, Contains, Some, None, inl, inr, ⊎_elim, refl, sym, ap, ap₂, subst, arith}
use Rattle.std.proofs.lemmas.List.Elements.{AllZip-get_or, length_all_zip}
use Rattle.prefix.specs.declared.quant.Quant.TheVariants.{Exists, Forall}
use Rattle.truth.specs.Matrix.{matrix_true}
use Rattle.prefix.specs.Scopes.{quantifier_of}
use Rattle.calculus.specs.Plays.{AgreeBefore, Circuit, DependsOnEarlier, Wins, total}
use Rattle.calculus.specs.Rows.{Assignment}
use Rattle.calculus.proofs.Lists.{contains_cons, contains_head, contains_nil, contains_tail}
use Rattle.frames.specs.State.{open_clauses}
use Rattle.aig.specs.Circuits.{AreDistinct, IsEdge, IsGate, edge_number, value_of}
use Rattle.aig.specs.Strategies.{values_of}
use Rattle.aig.specs.Worked.{both_gate, gate, none_gate}
use Rattle.aig.specs.declared.edge.And.{And}
use Rattle.aig.specs.declared.edge.Node.{Node}
use Rattle.aig.specs.declared.edge.Node.TheVariants.{Constant, Input, Gate}
use Rattle.aig.specs.declared.strategy.Output.{Output}
use Rattle.aig.specs.declared.strategy.Strategy.{Strategy}
use Rattle.aiger_out.specs.Aag.{IsAagText, IsGateLine}
use Rattle.aiger_out.specs.Binary.{IsAigBytes, IsDelta, IsGateBytes}
use Rattle.aiger_out.specs.Text.{numeral}
use Rattle.aiger_out.specs.Theorems.{AreOneGate, HaveOneCircuit}
use Rattle.trim.specs.Trimmed.{IsAt, IsOver, IsReached}
use Rattle.trim.specs.Trimmed.IsReached.{of_output, of_gate}
use Rattle.solve.specs.Decisions.{unassumed}
use Rattle.solve.specs.Certificates.{AllReached, Certifies}
use Rattle.solve.specs.Worked.{neither, trimmed_bytes, trimmed_text, whole_bytes, whole_text}

-- 7 by an edge of a circuit over 2 and 5
abbrev seven : List And → ℕ → Strategy
seven gates place = record {
  aig = record { inputs = 2; gates = gates };
  winner = Exists;
  inputs = 2 ∷ 5 ∷ [];
  outputs = record { var = 7; edge = gate place } ∷ [];
}

abbrev pub two_gates : Strategy
two_gates = seven (both_gate ∷ none_gate ∷ []) 1

abbrev pub one_gate : Strategy
one_gate = seven (none_gate ∷ []) 0

-- gates over both inputs

abbrev node_place : Node → ℕ
node_place Constant = 0
node_place (Input i) = i
node_place (Gate j) = j

apart : (m n : ℕ) → n < m → m ≡ n → ⊥
apart m n below e = omega arith

of_inputs : (k : ℕ) (s t : Bool) → IsGate 2 k (record {
  left = record { node = Input 1; negated = s };
  right = record { node = Input 0; negated = t };
})
of_inputs k s t = record {
  left_stands = let z : 1 < 2 = omega arith in z;
  right_stands = let z : 0 < 2 = omega arith in z;
  left_proper = λ h. h;
  right_proper = λ h. h;
  differ = λ e. apart 1 0 (omega arith) (ap node_place e);
}

-- the gate that is true where neither input is, at a place, where its edge has this literal
none_line : (lhs place : ℕ) → lhs ≡ edge_number 2 (gate place) → 5 < lhs
    → IsGateLine 2 place (numeral lhs ∷ codes "5" ∷ codes "3" ∷ []) none_gate
none_line lhs place is above = record {
  lhs = lhs;
  rhs0 = 5;
  rhs1 = 3;
  words = refl;
  literal = is;
  edges = inl (refl, refl);
  later = above;
  ordered = omega arith;
  proper = of_inputs place true true;
}

none_bytes : (lhs place first : ℕ) → lhs ≡ edge_number 2 (gate place) → 5 < lhs → IsDelta (lhs - 5) (first ∷ [])
    → IsGateBytes 2 place (first ∷ 2 ∷ []) none_gate
none_bytes lhs place first is above delta = record {
  lhs = lhs;
  rhs0 = 5;
  rhs1 = 3;
  first = first ∷ [];
  second = 2 ∷ [];
  parts = refl;
  literal = is;
  first_delta = delta;
  second_delta = record { groups = omega arith; value = refl };
  edges = inl (refl, refl);
  later = above;
  ordered = omega arith;
  proper = of_inputs place true true;
}

two_differ : AreDistinct (both_gate ∷ none_gate ∷ [])
two_differ zero zero d before within e = absurd (omega arith)
two_differ zero (suc zero) d before within (inl e) = apart 5 4 (omega arith) (sym (ap (edge_number 2) e.0))
two_differ zero (suc zero) d before within (inr e) = apart 4 3 (omega arith) (ap (edge_number 2) e.0)
two_differ zero (suc (suc j)) d before within e =
    let w : suc (suc j) < 2 = within in absurd (let no : ⊥ = omega arith in no)
two_differ (suc i) j d before within e = let w : j < 2 = within in absurd (let no : ⊥ = omega arith in no)

one_differs : AreDistinct (none_gate ∷ [])
one_differs i j d before within e = let w : j < 1 = within in absurd (let no : ⊥ = omega arith in no)

-- their texts and bytes

pub whole_denotes : IsAagText whole_text two_gates
unfolding IsEdge
whole_denotes = record {
  input_lines = (codes "2" ∷ []) ∷ (codes "4" ∷ []) ∷ [];
  output_lines = (codes "8" ∷ []) ∷ [];
  gate_lines = (codes "6" ∷ codes "4" ∷ codes "2" ∷ []) ∷ (codes "8" ∷ codes "5" ∷ codes "3" ∷ []) ∷ [];
  input_symbols = (codes "i0" ∷ codes "2" ∷ []) ∷ (codes "i1" ∷ codes "5" ∷ []) ∷ [];
  output_symbols = (codes "o0" ∷ codes "7" ∷ []) ∷ [];
  lines = refl;
  named = refl;
  inputs = (refl, (refl, tt));
  outputs = (record { stands = omega arith; literal = refl }, tt);
  gates = (
    record {
      lhs = 6;
      rhs0 = 4;
      rhs1 = 2;
      words = refl;
      literal = refl;
      edges = inl (refl, refl);
      later = omega arith;
      ordered = omega arith;
      proper = of_inputs 0 false false;
    },
    (none_line 8 1 refl (omega arith), tt),
  );
  distinct = two_differ;
  input_names = (refl, (refl, tt));
  output_names = (refl, tt);
}

pub bytes_denote : IsAigBytes whole_bytes two_gates
unfolding IsEdge
bytes_denote = record {
  output_lines = (codes "8" ∷ []) ∷ [];
  gate_bytes = (2 ∷ 2 ∷ []) ∷ (3 ∷ 2 ∷ []) ∷ [];
  input_symbols = (codes "i0" ∷ codes "2" ∷ []) ∷ (codes "i1" ∷ codes "5" ∷ []) ∷ [];
  output_symbols = (codes "o0" ∷ codes "7" ∷ []) ∷ [];
  whole = refl;
  named = refl;
  outputs = (record { stands = omega arith; literal = refl }, tt);
  gates = (
    record {
      lhs = 6;
      rhs0 = 4;
      rhs1 = 2;
      first = 2 ∷ [];
      second = 2 ∷ [];
      parts = refl;
      literal = refl;
      first_delta = record { groups = omega arith; value = refl };
      second_delta = record { groups = omega arith; value = refl };
      edges = inl (refl, refl);
      later = omega arith;
      ordered = omega arith;
      proper = of_inputs 0 false false;
    },
    (none_bytes 8 1 3 refl (omega arith) (record { groups = omega arith; value = refl }), tt),
  );
  distinct = two_differ;
  input_names = (refl, (refl, tt));
  output_names = (refl, tt);
}

pub trimmed_denotes : IsAagText trimmed_text one_gate
unfolding IsEdge
trimmed_denotes = record {
  input_lines = (codes "2" ∷ []) ∷ (codes "4" ∷ []) ∷ [];
  output_lines = (codes "6" ∷ []) ∷ [];
  gate_lines = (codes "6" ∷ codes "5" ∷ codes "3" ∷ []) ∷ [];
  input_symbols = (codes "i0" ∷ codes "2" ∷ []) ∷ (codes "i1" ∷ codes "5" ∷ []) ∷ [];
  output_symbols = (codes "o0" ∷ codes "7" ∷ []) ∷ [];
  lines = refl;
  named = refl;
  inputs = (refl, (refl, tt));
  outputs = (record { stands = omega arith; literal = refl }, tt);
  gates = (none_line 6 0 refl (omega arith), tt);
  distinct = one_differs;
  input_names = (refl, (refl, tt));
  output_names = (refl, tt);
}

pub trimmed_bytes_denote : IsAigBytes trimmed_bytes one_gate
unfolding IsEdge
trimmed_bytes_denote = record {
  output_lines = (codes "6" ∷ []) ∷ [];
  gate_bytes = (1 ∷ 2 ∷ []) ∷ [];
  input_symbols = (codes "i0" ∷ codes "2" ∷ []) ∷ (codes "i1" ∷ codes "5" ∷ []) ∷ [];
  output_symbols = (codes "o0" ∷ codes "7" ∷ []) ∷ [];
  whole = refl;
  named = refl;
  outputs = (record { stands = omega arith; literal = refl }, tt);
  gates = (none_bytes 6 0 1 refl (omega arith) (record { groups = omega arith; value = refl }), tt);
  distinct = one_differs;
  input_names = (refl, (refl, tt));
  output_names = (refl, tt);
}

-- both circuits give 7 where neither 2 nor 5 is true

matrix_holds : (values : Assignment) (a b : Bool) → values 2 ≡ a → values 5 ≡ b → values 7 ≡ (not b && not a)
    → matrix_true (total values) (open_clauses neither) ≡ true
matrix_holds values true true two five both = rw (two, five, both) refl
matrix_holds values true false two five both = rw (two, five, both) refl
matrix_holds values false true two five both = rw (two, five, both) refl
matrix_holds values false false two five both = rw (two, five, both) refl

module _ (play : Circuit) (two : (v : Assignment) → play v 2 ≡ v 2) (five : (v : Assignment) → play v 5 ≡ v 5)
    (neither_is : (v : Assignment) → play v 7 ≡ (not (v 5) && not (v 2))) where
  plays_win : Wins Forall neither.scopes (open_clauses neither) [] play
  plays_win v allowed = (
    matrix_holds (play v) (v 2) (v 5) (two v) (five v) (neither_is v),
    λ x b e. absurd (let f : None ≡ Some b = e in cc),
  )

  plays_earlier : DependsOnEarlier Forall neither.scopes play
  plays_earlier x i apart v w agree = ⊎_elim
      (λ e. absurd (apart (subst (λ y. quantifier_of neither.scopes y ≡ Some Forall) e refl)))
      (λ j. ⊎_elim
      (λ e. absurd (apart (subst (λ y. quantifier_of neither.scopes y ≡ Some Forall) e refl)))
      (λ k. ⊎_elim (λ e. subst (λ y. AgreeBefore Forall neither.scopes y v w → play v y ≡ play w y) e later agree)
      (λ l. absurd (contains_nil x l)) (contains_cons 7 [] x k))
      (contains_cons 5 (7 ∷ []) x j))
      (contains_cons 2 (5 ∷ 7 ∷ []) x i)
    where
      later : AgreeBefore Forall neither.scopes 7 v w → play v 7 ≡ play w 7
      later same = neither_is v
          ∙ ap₂ (λ a b. not a && not b)
          (same 5 (contains_tail 2 (5 ∷ 7 ∷ []) 5 (contains_head 5 (7 ∷ []))) refl (omega arith))
          (same 2 (contains_head 2 (5 ∷ 7 ∷ [])) refl (omega arith))
          ∙ sym (neither_is w)

pub whole_certifies : (n : ℕ) → 2 ≤ n → Certifies neither (unassumed true) [] n two_gates
unfolding value_of
whole_certifies n enough = record {
  winner = refl;
  inputs = refl;
  outputs = refl;
  wins = plays_win (values_of two_gates) (λ v. refl) (λ v. refl) (λ v. refl);
  earlier = plays_earlier (values_of two_gates) (λ v. refl) (λ v. refl) (λ v. refl);
  assumed = λ x b e. absurd (let f : None ≡ Some b = e in cc);
  first_values = λ e. absurd (let f : Some Forall ≡ Some Exists = e in cc);
  few = enough;
}

pub trimmed_certifies : Certifies neither (unassumed true) [] 1 one_gate
unfolding value_of
trimmed_certifies = record {
  winner = refl;
  inputs = refl;
  outputs = refl;
  wins = plays_win (values_of one_gate) (λ v. refl) (λ v. refl) (λ v. refl);
  earlier = plays_earlier (values_of one_gate) (λ v. refl) (λ v. refl) (λ v. refl);
  assumed = λ x b e. absurd (let f : None ≡ Some b = e in cc);
  first_values = λ e. absurd (let f : Some Forall ≡ Some Exists = e in cc);
  few = omega arith;
}

-- what is reached

pub one_reached : AllReached one_gate
one_reached zero within = of_output (record { var = 7; edge = gate 0 }) 0 (contains_head _ []) refl
one_reached (suc j) within = let w : suc j < 1 = within in absurd (let no : ⊥ = omega arith in no)

not_reached : (s : Strategy) (j : ℕ) → ((o : Output) → Contains s.outputs o → o.edge.node ≡ Gate j → ⊥)
    → ((g : And) (k : ℕ) → IsAt s.aig.gates k g → IsOver g j → ⊥) → IsReached s j → ⊥
not_reached s j outputs gates (of_output o i c e) = outputs o c e
not_reached s j outputs gates (of_gate g k i r at over) = gates g k at over

not_gate : (m : ℕ) (a b : Node) → a ≡ Input m → a ≡ b → b ≡ Gate 0 → ⊥
not_gate m a b input same gate = absurd (let no : Input m ≡ Gate 0 = sym input ∙ same ∙ gate in cc)

not_over : (h g : And) (m n : ℕ) → h.left.node ≡ Input m → h.right.node ≡ Input n → AreOneGate h g → IsOver g 0 → ⊥
not_over h g m n left right (inl e) (inl f) =
    not_gate m h.left.node g.left.node left (ap (λ (a : And). a.left.node) e) f
not_over h g m n left right (inl e) (inr f) =
    not_gate n h.right.node g.right.node right (ap (λ (a : And). a.right.node) e) f
not_over h g m n left right (inr e) (inl f) =
    not_gate n h.right.node g.left.node right (ap (λ (a : And). a.right.node) e) f
not_over h g m n left right (inr e) (inr f) =
    not_gate m h.left.node g.right.node left (ap (λ (a : And). a.left.node) e) f

module _ (t : Strategy) (same : HaveOneCircuit two_gates t) where
  pub two_there : length t.aig.gates ≡ 2
  two_there = sym (length_all_zip AreOneGate two_gates.aig.gates t.aig.gates same.gates)

  alike : (k : ℕ) (g : And) → k < 2 → IsAt t.aig.gates k g → AreOneGate (get_or two_gates.aig.gates k g) g
  alike k g below at = subst (AreOneGate (get_or two_gates.aig.gates k g)) at.1
      (AllZip-get_or AreOneGate two_gates.aig.gates t.aig.gates k g g same.gates below)

  over_none : (g : And) (k : ℕ) → IsAt t.aig.gates k g → IsOver g 0 → ⊥
  over_none g zero at over = not_over both_gate g 1 0 refl refl (alike 0 g (omega arith) at) over
  over_none g (suc zero) at over = not_over none_gate g 1 0 refl refl (alike 1 g (omega arith) at) over
  over_none g (suc (suc k)) at over =
      let within : suc (suc k) < length t.aig.gates = at.0 in
      let two = two_there in absurd (let no : ⊥ = omega (arith, within, two) in no)

  of_none : (o : Output) → Contains two_gates.outputs o → o.edge.node ≡ Gate 0 → ⊥
  of_none o c e = ⊎_elim
      (λ is. apart 1 0 (omega arith) (ap node_place (ap (λ (p : Output). p.edge.node) is ∙ e)))
      (λ rest. contains_nil o rest) (contains_cons (record { var = 7; edge = gate 1 }) [] o c)

  -- no output is reached from the first gate
  pub first_not_reached : IsReached t 0 → ⊥
  first_not_reached reached = not_reached t 0
      (λ o c. of_none o (subst (λ outputs. Contains outputs o) (sym same.outputs) c)) over_none reached
