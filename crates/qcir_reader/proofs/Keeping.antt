-- What the reader keeps after one more word.
use Rattle.std.proofs.Common.{◌≡◌, ℕ, suc, ◌+◌, ◌<◌, ◌≤◌, ℤ, nat_abs, Bool, true, false, ◌||◌, not, List, [], ◌∷◌, ◌++◌, length, map, set, None, refl, sym, ap, subst, ◌∙◌, ⊎_elim, arith}
use Rattle.std.specs.Prelude.{◌==◌, nat_lt, nat_le, if◌then◌else◌, slice_index_or}
use Rattle.std.proofs.lemmas.Bool.{ne_eqb, cases_eq, eq-eqb}
use Rattle.std.proofs.lemmas.List.{get_or-set_same, get_or-set_other, length-set, map-append, append_assoc, append-nil, length-map}
use Rattle.prefix.specs.declared.quant.Quant.{Quant}
use Rattle.prefix.specs.declared.quant.Quant.TheVariants.{Exists, Forall}
use Rattle.prefix.specs.Scopes.{is_among}
use Rattle.qdimacs.specs.declared.sets.Sets.{Sets}
use Rattle.reading.specs.declared.refusal.Quantity.TheVariants.{Scopes, Clauses}
use Rattle.qdimacs.specs.Formula.{QuantSet, merged, declared, in_order, same_quant}
use Rattle.qdimacs.specs.Kept.{sets_of, put_last, last_differs}
use Rattle.qdimacs.proofs.Grown.{declared_more, merged_empty}
use Rattle.qdimacs.proofs.Merged.{merged_put}
use Rattle.qdimacs.proofs.Keeping.{among_more, put_length, scopes_limit}
use Rattle.qdimacs.proofs.ReaderSteps.{scopes_low}
use Rattle.qcir.specs.declared.circuit.GateKind.{GateKind}
use Rattle.qcir.specs.Translation.{joined_last, scopes_with}
use Rattle.qcir_reader.specs.declared.sign.Place.{Place}
use Rattle.qcir_reader.specs.declared.sign.Stage.TheVariants.{Between, InSet, InOutput, Body, InName, InKind, InGate}
use Rattle.qcir_reader.specs.declared.sign.Sign.{Sign}
use Rattle.qcir_reader.specs.declared.sign.Sign.TheVariants.{Quantifier, Kind, Closing, Number}
use Rattle.qcir_reader.specs.declared.reader.Reader.{Reader}
use Rattle.qcir_reader.specs.Rules.{GateText, Front, first_of, refused, limit, is_no_name, is_no_variable, is_known, quantified, gate_of, gate_names_of, amount, literal_of, scopes_of, number_rules, variable_rules, name_rules, input_rules}
use Rattle.truth.specs.Limits.{max_scopes, max_clauses}
use Rattle.qcir_reader.specs.Run.{noted, with_variable, with_set, with_output, with_name, with_kind, with_input, with_gate}
use Rattle.qcir_reader.specs.Kept.{is_beyond, variable_rules_kept, name_rules_kept, input_rules_kept}
use Rattle.qcir_reader.specs.Represents.{Keeps}
use Rattle.qcir_reader.proofs.Gates.{amount_more}

-- one more mark
pub mark_more : (marks : List Bool) (known : ℕ → Bool) (v : ℕ) → v < length marks
    → ((u : ℕ) → slice_index_or marks u false ≡ known u) → (u : ℕ) → slice_index_or (set marks v true) u false ≡
    (v == u || known u)
mark_more marks known v low m u = ⊎_elim same other (cases_eq u v)
  where
    same : u ≡ v → slice_index_or (set marks v true) u false ≡ (v == u || known u)
    same e = rw e (get_or-set_same marks v true false low ∙ sym (ap (λ b. b || known v) (eq-eqb v v refl)))

    other : (u ≡ v → ⊥) → slice_index_or (set marks v true) u false ≡ (v == u || known u)
    other n = get_or-set_other marks v u true false n ∙ m u ∙ sym (ap (λ b. b || known u) (ne_eqb v u (λ e. n (sym e))))

-- the rules over what is kept
scopes_same : (r : Reader) (f : Front) (v : ℕ) → Keeps r f → nat_lt max_scopes
    (length (merged (f.sets ++ (f.quant, f.vars ++ v ∷ []) ∷ []))) ≡ is_beyond f.quant (sets_of r.sets.rows.items)
scopes_same r f v k =
    let all : List QuantSet = sets_of r.sets.rows.items in
    ap (λ n. nat_lt max_scopes n) (ap length (merged_put f.sets f.quant f.vars v)
    ∙ ap (λ x. length (put_last f.quant v x)) (sym k.scopes) ∙ put_length f.quant v all)
    ∙ scopes_limit (last_differs f.quant all) (length all) k.few_scopes

pub variable_same : (r : Reader) (f : Front) (n : ℤ) (line : ℕ) → Keeps r f
    → variable_rules f n line ≡ variable_rules_kept r.sets.marks.items (sets_of r.sets.rows.items) r.quant n line
variable_same r f n line k =
    ap (λ b. (is_no_variable n, refused 71 line) ∷ (b, refused 73 line) ∷
    (nat_lt max_scopes (length (merged (f.sets ++ (f.quant, f.vars ++ nat_abs n ∷ []) ∷ []))), limit Scopes line) ∷
    []) (sym (k.marks (nat_abs n)))
    ∙ ap (λ b. (is_no_variable n, refused 71 line) ∷ (
      slice_index_or r.sets.marks.items (nat_abs n) false,
      refused 73 line,
    ) ∷ (b, limit Scopes line) ∷ [])
    (scopes_same r f (nat_abs n) k ∙ ap (λ q. is_beyond q (sets_of r.sets.rows.items)) (sym k.quant))

last_length : (q : Quant) (vs : List ℕ) (v : ℕ) → length (joined_last q vs (v ∷ [])) ≡
    (if not (same_quant q Exists) then 2 else 1)
last_length Exists vs v = refl
last_length Forall vs v = refl

with_length : (xs : List QuantSet) (v : ℕ) → length (scopes_with (map in_order xs) (v ∷ [])) ≡
    (if last_differs Exists xs then suc (length xs) else length xs)
with_length [] v = refl
with_length (x ∷ []) v = last_length x.0 (in_order x).variables v
with_length (x ∷ y ∷ rest) v = ap suc (with_length (y ∷ rest) v) ∙ by (last_differs Exists (y ∷ rest))
  where
    by : (s : Bool) → suc (if s then suc (length (y ∷ rest)) else length (y ∷ rest)) ≡
        (if s then suc (length (x ∷ y ∷ rest)) else length (x ∷ y ∷ rest))
    by true = refl
    by false = refl

gates_scope_same : (r : Reader) (f : Front) (v : ℕ) → Keeps r f → f.vars ≡ [] → nat_lt max_scopes
    (length (scopes_with (scopes_of f.sets) (v ∷ []))) ≡ is_beyond Exists (sets_of r.sets.rows.items)
gates_scope_same r f v k none =
    let all : List QuantSet = sets_of r.sets.rows.items in
    let same : merged f.sets ≡ all = sym (merged_empty f.sets f.quant)
    ∙ ap (λ vs. merged (f.sets ++ (f.quant, vs) ∷ [])) (sym none) ∙ sym k.scopes in
    ap (λ x. nat_lt max_scopes (length (scopes_with (map in_order x) (v ∷ [])))) same
    ∙ ap (nat_lt max_scopes) (with_length all v)
    ∙ scopes_limit (last_differs Exists all) (length all) k.few_scopes

pub name_same : (r : Reader) (f : Front) (n : ℤ) (line : ℕ) → Keeps r f → f.vars ≡ []
    → name_rules f n line ≡ name_rules_kept r.sets.marks.items (sets_of r.sets.rows.items) r.amount n line
name_same r f n line k none =
    ap (λ b. (is_no_variable n, refused 71 line) ∷ (b, refused 73 line) ∷
    (nat_lt max_scopes (length (scopes_with (scopes_of f.sets) (nat_abs n ∷ []))), limit Scopes line) ∷
    (nat_le max_clauses (amount f.gates), limit Clauses line) ∷ []) (sym (k.marks (nat_abs n)))
    ∙ ap (λ b. (is_no_variable n, refused 71 line) ∷ (
      slice_index_or r.sets.marks.items (nat_abs n) false,
      refused 73 line,
    ) ∷ (b, limit Scopes line) ∷ (nat_le max_clauses (amount f.gates), limit Clauses line) ∷ [])
    (gates_scope_same r f (nat_abs n) k none)
    ∙ ap (λ m. (is_no_variable n, refused 71 line) ∷ (
      slice_index_or r.sets.marks.items (nat_abs n) false,
      refused 73 line,
    ) ∷ (is_beyond Exists (sets_of r.sets.rows.items), limit Scopes line) ∷
    (nat_le max_clauses m, limit Clauses line) ∷ []) (sym k.amount_is)

pub input_same : (r : Reader) (f : Front) (n : ℤ) (line : ℕ) → Keeps r f → input_rules f n line ≡ input_rules_kept
    r.sets.marks.items r.amount (length r.inputs.items) n line
input_same r f n line k =
    let many : length r.inputs.items ≡ length f.gate.inputs = ap length k.inputs
    ∙ length-map f.gate.inputs literal_of in
    ap (λ b. (is_no_name n, refused 71 line) ∷ (not b, refused 74 line) ∷
    (nat_le max_clauses (amount f.gates + length f.gate.inputs + 1), limit Clauses line) ∷ [])
    (sym (k.marks (nat_abs n)))
    ∙ ap (λ m. (is_no_name n, refused 71 line) ∷ (
      not (slice_index_or r.sets.marks.items (nat_abs n) false),
      refused 74 line,
    ) ∷ (nat_le max_clauses (m + length f.gate.inputs + 1), limit Clauses line) ∷ [])
    (sym k.amount_is)
    ∙ ap (λ m. (is_no_name n, refused 71 line) ∷ (
      not (slice_index_or r.sets.marks.items (nat_abs n) false),
      refused 74 line,
    ) ∷ (nat_le max_clauses (r.amount + m + 1), limit Clauses line) ∷ []) (sym many)

-- a quantifier
pub quantifier_kept : (r : Reader) (f : Front) (q : Quant) → f.vars ≡ [] → Keeps r f → Keeps (record r { quant = q })
    (record f { quant = q })
quantifier_kept r f q none k = record {
  quant = refl;
  scopes = k.scopes ∙ ap (λ vs. merged (f.sets ++ (f.quant, vs) ∷ [])) none ∙ merged_empty f.sets f.quant
      ∙ sym (merged_empty f.sets q) ∙ ap (λ vs. merged (f.sets ++ (q, vs) ∷ [])) (sym none);
  few_scopes = k.few_scopes;
  marks = k.marks;
  marked = k.marked;
  output = k.output;
  line = k.line;
  gates = k.gates;
  name = k.name;
  kind = k.kind;
  inputs = k.inputs;
  amount_is = k.amount_is;
}

-- one more variable
pub variable_kept : (r : Reader) (sets : Sets) (f : Front) (n : ℤ) → Keeps r f → nat_abs n ≤ 1048576 → is_beyond r.quant
    (sets_of r.sets.rows.items) ≡ false
    → sets_of sets.rows.items ≡ put_last r.quant (nat_abs n) (sets_of r.sets.rows.items)
    → sets.marks.items ≡ set r.sets.marks.items (nat_abs n) true
    → Keeps (record r { sets = sets }) (with_variable f n)
variable_kept r sets f n k low room rows marks =
    let v : ℕ = nat_abs n in record {
      quant = k.quant;
      scopes = rows ∙ ap (λ q. put_last q v (sets_of r.sets.rows.items)) k.quant ∙ ap (put_last f.quant v) k.scopes
          ∙ sym (merged_put f.sets f.quant f.vars v);
      few_scopes = subst (λ x. length x ≤ 65536) (sym rows)
          (scopes_low r.quant v (sets_of r.sets.rows.items) k.few_scopes room);
      marks = λ u. ap (λ ms. slice_index_or ms u false) marks ∙ mark_more r.sets.marks.items (is_known f) v
          (omega (arith, k.marked, low)) k.marks u ∙ sym (known_more u);
      marked = ap length marks ∙ length-set r.sets.marks.items v true ∙ k.marked;
      output = k.output;
      line = k.line;
      gates = k.gates;
      name = k.name;
      kind = k.kind;
      inputs = k.inputs;
      amount_is = k.amount_is;
    }
  where
    or_assoc : (a b c : Bool) → ((a || b) || c) ≡ (a || (b || c))
    or_assoc true b c = refl
    or_assoc false b c = refl

    known_more : (u : ℕ) → is_known (with_variable f n) u ≡ (nat_abs n == u || is_known f u)
    known_more u =
        ap (λ x. is_among u x || is_among u (gate_names_of f.gates))
        (sym (append_assoc (declared f.sets) f.vars (nat_abs n ∷ [])))
        ∙ ap (λ b. b || is_among u (gate_names_of f.gates)) (among_more (nat_abs n) (quantified f) u)
        ∙ or_assoc (nat_abs n == u) (is_among u (quantified f)) (is_among u (gate_names_of f.gates))

-- a quantifier list ends
pub set_kept : (r : Reader) (f : Front) → Keeps r f → Keeps r (with_set f)
set_kept r f k =
    let same : declared (f.sets ++ (f.quant, f.vars) ∷ []) ++ [] ≡ quantified f =
    append-nil (declared (f.sets ++ (f.quant, f.vars) ∷ [])) ∙ declared_more f.sets f.quant f.vars in record {
      quant = k.quant;
      scopes = k.scopes ∙ sym (merged_empty (f.sets ++ (f.quant, f.vars) ∷ []) f.quant);
      few_scopes = k.few_scopes;
      marks = λ u. k.marks u ∙ ap (λ x. is_among u x || is_among u (gate_names_of f.gates)) (sym same);
      marked = k.marked;
      output = k.output;
      line = k.line;
      gates = k.gates;
      name = k.name;
      kind = k.kind;
      inputs = k.inputs;
      amount_is = k.amount_is;
    }

-- the output
pub output_kept : (r : Reader) (f : Front) (n : ℤ) (line : ℕ) → Keeps r f
    → Keeps (record r { output = n; output_line = line }) (with_output f n line)
output_kept r f n line k = record {
  quant = k.quant;
  scopes = k.scopes;
  few_scopes = k.few_scopes;
  marks = k.marks;
  marked = k.marked;
  output = refl;
  line = refl;
  gates = k.gates;
  name = k.name;
  kind = k.kind;
  inputs = k.inputs;
  amount_is = k.amount_is;
}

-- one more input
pub input_kept : (r new : Reader) (f : Front) (n : ℤ) → Keeps r f → new.inputs.items ≡ r.inputs.items ++ literal_of
    n ∷ [] → new ≡ record r { inputs = new.inputs } → Keeps new (with_input f n)
input_kept r new f n k is same = subst (λ (x : Reader). Keeps x (with_input f n)) (sym same) (record {
  quant = k.quant;
  scopes = k.scopes;
  few_scopes = k.few_scopes;
  marks = k.marks;
  marked = k.marked;
  output = k.output;
  line = k.line;
  gates = k.gates;
  name = k.name;
  kind = k.kind;
  inputs = is ∙ ap (λ x. x ++ literal_of n ∷ []) k.inputs ∙ sym (map-append literal_of f.gate.inputs (n ∷ []));
  amount_is = k.amount_is;
})

-- a gate begins
pub name_kept : (r new : Reader) (f : Front) (n : ℤ) → Keeps r f → new.name ≡ nat_abs n → new.inputs.items ≡ []
    → new ≡ record r { name = new.name; inputs = new.inputs } → Keeps new (with_name f n)
name_kept r new f n k name none same = subst (λ (x : Reader). Keeps x (with_name f n)) (sym same) (record {
  quant = k.quant;
  scopes = k.scopes;
  few_scopes = k.few_scopes;
  marks = k.marks;
  marked = k.marked;
  output = k.output;
  line = k.line;
  gates = k.gates;
  name = name;
  kind = k.kind;
  inputs = none;
  amount_is = k.amount_is;
})

-- what it makes of its inputs
pub kind_kept : (r : Reader) (f : Front) (kind : GateKind) → Keeps r f → Keeps (record r { kind = kind })
    (with_kind f kind)
kind_kept r f kind k = record {
  quant = k.quant;
  scopes = k.scopes;
  few_scopes = k.few_scopes;
  marks = k.marks;
  marked = k.marked;
  output = k.output;
  line = k.line;
  gates = k.gates;
  name = k.name;
  kind = refl;
  inputs = k.inputs;
  amount_is = k.amount_is;
}

-- a gate ends
pub gate_kept : (r new : Reader) (f : Front) → Keeps r f → r.name ≤ 1048576
    → new.gates.items ≡ r.gates.items ++ record { var = r.name; kind = r.kind; inputs = r.inputs.items } ∷ []
    → new.amount ≡ r.amount + (length r.inputs.items + 1) → new.sets.marks.items ≡ set r.sets.marks.items r.name true
    → new.inputs.items ≡ []
    → new.sets.rows.items ≡ r.sets.rows.items → new.quant ≡ r.quant → new.output ≡ r.output
    → new.output_line ≡ r.output_line → new.name ≡ r.name → new.kind ≡ r.kind
    → Keeps new (with_gate f)
gate_kept r new f k low gates amount_is marks none rows quant output line name kind =
    let many : length r.inputs.items ≡ length f.gate.inputs = ap length k.inputs
    ∙ length-map f.gate.inputs literal_of in record {
      quant = quant ∙ k.quant;
      scopes = ap sets_of rows ∙ k.scopes;
      few_scopes = subst (λ x. length (sets_of x) ≤ 65536) (sym rows) k.few_scopes;
      marks = λ u. ap (λ ms. slice_index_or ms u false) marks ∙ mark_more r.sets.marks.items (is_known f) r.name
          (omega (arith, k.marked, low)) k.marks u
          ∙ ap (λ v. v == u || is_known f u) k.name ∙ sym (known_more u);
      marked = ap length marks ∙ length-set r.sets.marks.items r.name true ∙ k.marked;
      output = output ∙ k.output;
      line = line ∙ k.line;
      gates = gates ∙ gates_are;
      name = name ∙ k.name;
      kind = kind ∙ k.kind;
      inputs = none;
      amount_is = amount_is ∙ (let more : amount (f.gates ++ f.gate ∷ []) ≡ amount f.gates + length f.gate.inputs + 1 =
          amount_more f.gates f.gate in omega (arith, k.amount_is, many, more));
    }
  where
    turned : (a b c : Bool) → (a || (b || c)) ≡ (b || (a || c))
    turned true true c = refl
    turned true false c = refl
    turned false true c = refl
    turned false false c = refl

    known_more : (u : ℕ) → is_known (with_gate f) u ≡ (f.gate.name == u || is_known f u)
    known_more u =
        ap (λ x. is_among u (quantified f) || is_among u x)
        (map-append (λ (g : GateText). g.name) f.gates (f.gate ∷ []))
        ∙ ap (λ b. is_among u (quantified f) || b) (among_more f.gate.name (gate_names_of f.gates) u)
        ∙ turned (is_among u (quantified f)) (f.gate.name == u) (is_among u (gate_names_of f.gates))

    gates_are : r.gates.items ++ record { var = r.name; kind = r.kind; inputs = r.inputs.items } ∷ [] ≡ map gate_of
        (f.gates ++ f.gate ∷ [])
    gates_are = rw (k.gates, k.name, k.kind, k.inputs) (sym (map-append gate_of f.gates (f.gate ∷ [])))

-- words that are noted nowhere
pub in_set_else : (r : Reader) (place : Place) (f : Front) (s : Sign) (line : ℕ) → ((n : ℤ) → s ≡ Number n → ⊥)
    → Keeps r f
    → (first_of (number_rules (InSet place) f s line) ≡ None) × Keeps r (noted (InSet place) f s line)
in_set_else r place f (Number n) line other k = absurd (other n refl)
in_set_else r place f Closing line other k = (refl, set_kept r f k)
in_set_else r place f s line other k = (refl, k)

pub between_else : (r : Reader) (f : Front) (s : Sign) (line : ℕ) → ((q : Quant) → s ≡ Quantifier q → ⊥) → Keeps r f
    → (first_of (number_rules Between f s line) ≡ None) × Keeps r (noted Between f s line)
between_else r f (Quantifier q) line other k = absurd (other q refl)
between_else r f s line other k = (refl, k)

pub in_output_else : (r : Reader) (place : Place) (f : Front) (s : Sign) (line : ℕ) → ((n : ℤ) → s ≡ Number n → ⊥)
    → Keeps r f
    → (first_of (number_rules (InOutput place) f s line) ≡ None) × Keeps r (noted (InOutput place) f s line)
in_output_else r place f (Number n) line other k = absurd (other n refl)
in_output_else r place f s line other k = (refl, k)

pub in_body_else : (r : Reader) (f : Front) (s : Sign) (line : ℕ) → ((n : ℤ) → s ≡ Number n → ⊥) → Keeps r f
    → (first_of (number_rules Body f s line) ≡ None) × Keeps r (noted Body f s line)
in_body_else r f (Number n) line other k = absurd (other n refl)
in_body_else r f s line other k = (refl, k)

pub in_kind_else : (r : Reader) (f : Front) (s : Sign) (line : ℕ) → ((kind : GateKind) → s ≡ Kind kind → ⊥) → Keeps r f
    → (first_of (number_rules InKind f s line) ≡ None) × Keeps r (noted InKind f s line)
in_kind_else r f (Kind kind) line other k = absurd (other kind refl)
in_kind_else r f s line other k = (refl, k)

pub in_gate_else : (r : Reader) (place : Place) (f : Front) (s : Sign) (line : ℕ) → ((n : ℤ) → s ≡ Number n → ⊥)
    → (s ≡ Closing → ⊥) → Keeps r f
    → (first_of (number_rules (InGate place) f s line) ≡ None) × Keeps r (noted (InGate place) f s line)
in_gate_else r place f (Number n) line other out k = absurd (other n refl)
in_gate_else r place f Closing line other out k = absurd (out refl)
in_gate_else r place f s line other out k = (refl, k)

pub in_name_else : (r : Reader) (f : Front) (s : Sign) (line : ℕ) → Keeps r f
    → (first_of (number_rules InName f s line) ≡ None) × Keeps r (noted InName f s line)
in_name_else r f s line k = (refl, k)
