-- A word that the grammar allows and no rule refuses goes on from what is allowed to what is allowed.
use Rattle.std.proofs.Common.{◌≡◌, ℕ, ◌+◌, ◌<◌, ◌≤◌, ℤ, nat_abs, Bool, true, not, List, [], ◌∷◌, ◌++◌, length, map, Option, None, Some, refl, sym, ap, subst, ◌∙◌, arith, length-append}
use Rattle.std.specs.Prelude.{nat_lt, nat_le}
use Rattle.std.specs.List.{AllByRecursion}
use Rattle.std.proofs.lemmas.List.{map-append, append_assoc, append-nil}
use Rattle.std.proofs.lemmas.Bool.{ltb-false, leb-false, not-false, or_parts}
use Rattle.prefix.specs.declared.quant.Quant.{Quant}
use Rattle.prefix.specs.Scopes.{is_among, AreDistinct}
use Rattle.reading.specs.declared.refusal.Quantity.TheVariants.{Scopes, Clauses}
use Rattle.qdimacs.specs.Formula.{merged, declared}
use Rattle.qdimacs.proofs.Lists.{all_more, distinct_more}
use Rattle.qdimacs.proofs.Grown.{declared_more, merged_empty, nonempty}
use Rattle.qcir.specs.declared.circuit.GateKind.{GateKind}
use Rattle.qcir.specs.Translation.{AreEarlier, scopes_with}
use Rattle.qcir_reader.specs.declared.sign.Place.{Place}
use Rattle.qcir_reader.specs.declared.sign.Place.TheVariants.{Before, Opened, Behind, Continued}
use Rattle.qcir_reader.specs.declared.sign.Stage.{Stage}
use Rattle.qcir_reader.specs.declared.sign.Stage.TheVariants.{Between, InSet, InOutput, Body, InName, InKind, InGate}
use Rattle.qcir_reader.specs.declared.sign.Sign.{Sign}
use Rattle.qcir_reader.specs.declared.sign.Sign.TheVariants.{Quantifier, Output, Kind, Equals, Opening, Closing, Comma, Number}
use Rattle.qcir_reader.specs.Grammar.{allows}
use Rattle.qcir_reader.specs.Rules.{Outcome, GateText, Front, first_of, refused, limit, is_no_name, is_no_variable, is_known, quantified, gate_of, gate_names_of, amount, scopes_of, number_rules, variable_rules, name_rules, input_rules, output_rules}
use Rattle.truth.specs.Limits.{max_scopes, max_clauses}
use Rattle.qcir_reader.specs.Run.{noted, with_variable, with_set, with_output, with_name, with_kind, with_input, with_gate}
use Rattle.qcir_reader.specs.Reads.{IsAllowed, IsAt, IsName}
use Rattle.qcir_reader.proofs.Tests.{none_refuses, is_name, is_variable}
use Rattle.qcir_reader.proofs.Gates.{amount_more, scopes_as_many, earlier_more, no_scope_more, earlier_none}

-- the same elsewhere
elsewhere : (s t : Stage) (f : Front) → IsAllowed s f → IsAt t f → IsAllowed t f
elsewhere s t f a is_at = record {
  names = a.names;
  distinct = a.distinct;
  scopes = a.scopes;
  gates = a.gates;
  gate_names = a.gate_names;
  gate_scopes = a.gate_scopes;
  few = a.few;
  stands = is_at;
}

-- a quantifier: no variable has come
quantifier_goes : (f : Front) (q : Quant) → IsAllowed Between f → IsAllowed (InSet Before) (record f { quant = q })
quantifier_goes f q a =
    let none : merged (f.sets ++ (q, f.vars) ∷ []) ≡ merged (f.sets ++ (f.quant, f.vars) ∷ []) =
    ap (λ vs. merged (f.sets ++ (q, vs) ∷ [])) a.stands.0 ∙ merged_empty f.sets q ∙ sym (merged_empty f.sets f.quant)
    ∙ ap (λ vs. merged (f.sets ++ (f.quant, vs) ∷ [])) (sym a.stands.0) in
    record {
      names = a.names;
      distinct = a.distinct;
      scopes = subst (λ x. length x ≤ max_scopes) (sym none) a.scopes;
      gates = a.gates;
      gate_names = a.gate_names;
      gate_scopes = a.gate_scopes;
      few = a.few;
      stands = a.stands;
    }

-- one more variable
variable_goes : (place : Place) (f : Front) (n : ℤ) (line : ℕ) → first_of (variable_rules f n line) ≡ None
    → IsAllowed (InSet place) f → IsAllowed (InSet Behind) (with_variable f n)
variable_goes place f n line h a =
    let v : ℕ = nat_abs n in
    let one = none_refuses (is_no_variable n) (refused 71 line)
    ((is_known f v, refused 73 line) ∷
    (nat_lt max_scopes (length (merged (f.sets ++ (f.quant, f.vars ++ v ∷ []) ∷ []))), limit Scopes line) ∷ []) h in
    let two = none_refuses (is_known f v) (refused 73 line)
    ((nat_lt max_scopes (length (merged (f.sets ++ (f.quant, f.vars ++ v ∷ []) ∷ []))), limit Scopes line) ∷ [])
    one.1 in
    let three = none_refuses (nat_lt max_scopes (length (merged (f.sets ++ (f.quant, f.vars ++ v ∷ []) ∷ []))))
    (limit Scopes line) [] two.1 in
    let longer : declared f.sets ++ (f.vars ++ v ∷ []) ≡ quantified f ++ v ∷ [] =
    sym (append_assoc (declared f.sets) f.vars (v ∷ [])) in
    record {
      names = subst (λ x. AllByRecursion IsName x) (sym longer)
          (all_more IsName (quantified f) v a.names (is_variable n one.0).0);
      distinct = subst AreDistinct (sym longer)
          (distinct_more (quantified f) v a.distinct
          (or_parts (is_among v (quantified f)) (is_among v (gate_names_of f.gates)) two.0).0);
      scopes = ltb-false max_scopes (length (merged (f.sets ++ (f.quant, f.vars ++ v ∷ []) ∷ []))) three.0;
      gates = earlier_none (declared f.sets ++ (f.vars ++ v ∷ [])) f.gates a.stands.1;
      gate_names = a.gate_names;
      gate_scopes = a.gate_scopes;
      few = a.few;
      stands = (nonempty f.vars v, a.stands.1);
    }

-- a quantifier list ends
set_goes : (place : Place) (f : Front) → IsAllowed (InSet place) f → IsAllowed Between (with_set f)
set_goes place f a =
    let same : declared (f.sets ++ (f.quant, f.vars) ∷ []) ++ [] ≡ quantified f =
    append-nil (declared (f.sets ++ (f.quant, f.vars) ∷ [])) ∙ declared_more f.sets f.quant f.vars in
    record {
      names = subst (λ x. AllByRecursion IsName x) (sym same) a.names;
      distinct = subst AreDistinct (sym same) a.distinct;
      scopes = subst (λ x. length x ≤ max_scopes) (sym (merged_empty (f.sets ++ (f.quant, f.vars) ∷ []) f.quant))
          a.scopes;
      gates = subst (λ x. AreEarlier x (map gate_of f.gates)) (sym same) a.gates;
      gate_names = a.gate_names;
      gate_scopes = no_scope_more (f.sets ++ (f.quant, f.vars) ∷ []) f.gates a.stands.1 a.scopes;
      few = a.few;
      stands = (refl, a.stands.1);
    }

-- the output
output_goes : (place : Place) (f : Front) (n : ℤ) (line : ℕ) → first_of (output_rules n line) ≡ None
    → IsAllowed (InOutput place) f → (f.vars ≡ []) × (f.gates ≡ []) → IsAllowed (InOutput Behind) (with_output f n line)
output_goes place f n line h a is_at = record {
  names = a.names;
  distinct = a.distinct;
  scopes = a.scopes;
  gates = a.gates;
  gate_names = a.gate_names;
  gate_scopes = a.gate_scopes;
  few = a.few;
  stands = (is_at.0, is_at.1, is_name n (none_refuses (is_no_name n) (refused 71 line) [] h).0);
}

-- a gate begins
name_goes : (f : Front) (n : ℤ) (line : ℕ) → first_of (name_rules f n line) ≡ None → IsAllowed Body f → IsAllowed InName
    (with_name f n)
name_goes f n line h a =
    let v : ℕ = nat_abs n in
    let last : List (Bool × Outcome) = (nat_le max_clauses (amount f.gates), limit Clauses line) ∷ [] in
    let third : List (Bool × Outcome) = (
      nat_lt max_scopes (length (scopes_with (scopes_of f.sets) (v ∷ []))),
      limit Scopes line,
    ) ∷ last in
    let one = none_refuses (is_no_variable n) (refused 71 line) ((is_known f v, refused 73 line) ∷ third) h in
    let two = none_refuses (is_known f v) (refused 73 line) third one.1 in
    let three = none_refuses (nat_lt max_scopes (length (scopes_with (scopes_of f.sets) (v ∷ [])))) (limit Scopes line)
    last two.1 in
    let four = none_refuses (nat_le max_clauses (amount f.gates)) (limit Clauses line) [] three.1 in
    let low : amount f.gates < max_clauses = leb-false max_clauses (amount f.gates) four.0 in
    record {
      names = a.names;
      distinct = a.distinct;
      scopes = a.scopes;
      gates = a.gates;
      gate_names = a.gate_names;
      gate_scopes = a.gate_scopes;
      few = a.few;
      stands = (
        record { vars = a.stands.vars; output = a.stands.output },
        refl,
        record {
          name = (is_variable n one.0).0;
          fresh = two.0;
          inputs = tt;
          few = omega (arith, low);
          scopes = ltb-false max_scopes (length (scopes_with (scopes_of f.sets) (v ∷ []))) three.0;
        },
      );
    }

-- what it makes of its inputs
kind_goes : (f : Front) (kind : GateKind) → IsAllowed InKind f → IsAllowed (InGate Before) (with_kind f kind)
kind_goes f kind a = record {
  names = a.names;
  distinct = a.distinct;
  scopes = a.scopes;
  gates = a.gates;
  gate_names = a.gate_names;
  gate_scopes = a.gate_scopes;
  few = a.few;
  stands = (
    record { vars = a.stands.0.vars; output = a.stands.0.output },
    a.stands.1,
    record {
      name = a.stands.2.name;
      fresh = a.stands.2.fresh;
      inputs = a.stands.2.inputs;
      few = a.stands.2.few;
      scopes = a.stands.2.scopes;
    },
  );
}

-- one more input
input_goes : (place : Place) (f : Front) (n : ℤ) (line : ℕ) → first_of (input_rules f n line) ≡ None
    → IsAllowed (InGate place) f → IsAllowed (InGate Behind) (with_input f n)
input_goes place f n line h a =
    let v : ℕ = nat_abs n in
    let last : List (Bool × Outcome) = (
      nat_le max_clauses (amount f.gates + length f.gate.inputs + 1),
      limit Clauses line,
    ) ∷ [] in
    let one = none_refuses (is_no_name n) (refused 71 line) ((not (is_known f v), refused 74 line) ∷ last) h in
    let two = none_refuses (not (is_known f v)) (refused 74 line) last one.1 in
    let three = none_refuses (nat_le max_clauses (amount f.gates + length f.gate.inputs + 1)) (limit Clauses line) []
    two.1 in
    let low : amount f.gates + length f.gate.inputs + 1 < max_clauses = leb-false max_clauses
    (amount f.gates + length f.gate.inputs + 1) three.0 in
    record {
      names = a.names;
      distinct = a.distinct;
      scopes = a.scopes;
      gates = a.gates;
      gate_names = a.gate_names;
      gate_scopes = a.gate_scopes;
      few = a.few;
      stands = (
        record { vars = a.stands.0.vars; output = a.stands.0.output },
        nonempty f.gate.inputs n,
        record {
          name = a.stands.2.name;
          fresh = a.stands.2.fresh;
          inputs = all_more (λ m. (0 < nat_abs m) × (is_known f (nat_abs m) ≡ true)) f.gate.inputs n a.stands.2.inputs
              ((is_name n one.0).0, not-false (is_known f v) two.0);
          few = omega (arith, low, length-append f.gate.inputs (n ∷ []));
          scopes = a.stands.2.scopes;
        },
      );
    }

-- a gate ends
gate_goes : (place : Place) (f : Front) → IsAllowed (InGate place) f → IsAllowed Body (with_gate f)
gate_goes place f a =
    let next = a.stands.2 in
    record {
      names = a.names;
      distinct = a.distinct;
      scopes = a.scopes;
      gates = subst (λ gs. AreEarlier (quantified f) gs) (sym (map-append gate_of f.gates (f.gate ∷ [])))
          (earlier_more f f.gate a.gates next.fresh next.inputs);
      gate_names = subst (λ ns. AllByRecursion IsName ns)
          (sym (map-append (λ (g : GateText). g.name) f.gates (f.gate ∷ [])))
          (all_more IsName (gate_names_of f.gates) f.gate.name a.gate_names next.name);
      gate_scopes = subst (λ ns. length (scopes_with (scopes_of f.sets) ns) ≤ max_scopes)
          (sym (map-append (λ (g : GateText). g.name) f.gates (f.gate ∷ [])))
          (subst (λ n. n ≤ max_scopes) (sym (scopes_as_many (scopes_of f.sets) (gate_names_of f.gates) f.gate.name))
          next.scopes);
      few = subst (λ n. n ≤ max_clauses) (sym (amount_more f.gates f.gate)) next.few;
      stands = record { vars = a.stands.0.vars; output = a.stands.0.output };
    }

-- what is allowed at the stage that was gone to
abbrev pub GoesTo : Option Stage → Front → Type 0
GoesTo None f = Unit {0}
GoesTo (Some next) f = IsAllowed next f

pub goes : (stage : Stage) (s : Sign) (f : Front) (line : ℕ) → first_of (number_rules stage f s line) ≡ None
    → IsAllowed stage f → GoesTo (allows stage s) (noted stage f s line)
goes Between (Quantifier q) f line h a = quantifier_goes f q a
goes Between Output f line h a = elsewhere Between (InOutput Before) f a a.stands
goes (InSet Before) Opening f line h a = elsewhere (InSet Before) (InSet Opened) f a a.stands
goes (InSet Opened) (Number n) f line h a = variable_goes Opened f n line h a
goes (InSet Opened) Closing f line h a = set_goes Opened f a
goes (InSet Behind) Comma f line h a = elsewhere (InSet Behind) (InSet Continued) f a a.stands
goes (InSet Behind) Closing f line h a = set_goes Behind f a
goes (InSet Continued) (Number n) f line h a = variable_goes Continued f n line h a
goes (InOutput Before) Opening f line h a = elsewhere (InOutput Before) (InOutput Opened) f a a.stands
goes (InOutput Opened) (Number n) f line h a = output_goes Opened f n line h a a.stands
goes (InOutput Behind) Closing f line h a = elsewhere (InOutput Behind) Body f a
    (record { vars = a.stands.0; output = a.stands.2 })
goes Body (Number n) f line h a = name_goes f n line h a
goes InName Equals f line h a = elsewhere InName InKind f a a.stands
goes InKind (Kind kind) f line h a = kind_goes f kind a
goes (InGate Before) Opening f line h a = elsewhere (InGate Before) (InGate Opened) f a a.stands
goes (InGate Opened) (Number n) f line h a = input_goes Opened f n line h a
goes (InGate Opened) Closing f line h a = gate_goes Opened f a
goes (InGate Behind) Comma f line h a = elsewhere (InGate Behind) (InGate Continued) f a a.stands
goes (InGate Behind) Closing f line h a = gate_goes Behind f a
goes (InGate Continued) (Number n) f line h a = input_goes Continued f n line h a
goes stage s f line h a = tt
