-- What a word means to the reader.
use Rattle.std.proofs.Common.{◌≡◌, ℕ, ◌≤◌, ℤ, nat_abs, Bool, true, false, not, List, [], ◌∷◌, ◌++◌, map, Option, Some, None, refl, sym, ap, subst, ◌∙◌}
use Rattle.std.specs.Prelude.{is_none, unwrap_or, slice_index_or}
use Rattle.prefix.specs.declared.quant.Quant.{Quant}
use Rattle.reading.specs.declared.refusal.Quantity.TheVariants.{Scopes}
use Rattle.prefix.specs.Literal.{Literal}
use Rattle.prefix.specs.Scopes.{Scope}
use Rattle.qdimacs.specs.Formula.{QuantSet, in_order, merged}
use Rattle.qdimacs.specs.Kept.{sets_of}
use Rattle.qdimacs.proofs.Grown.{merged_empty}
use Rattle.qcir.specs.declared.circuit.Circuit.{Circuit}
use Rattle.qcir.specs.declared.circuit.Gate.{Gate}
use Rattle.qcir_reader.proofs.Keeping.{quantifier_kept, in_set_else}
use Rattle.qcir_reader.specs.declared.refusal.QcirRefusal.{QcirRefusal}
use Rattle.qcir_reader.specs.declared.sign.Stage.{Stage}
use Rattle.qcir_reader.specs.declared.sign.Place.{Place}
use Rattle.qcir_reader.specs.declared.sign.Stage.TheVariants.{Between, InSet, Body}
use Rattle.qcir_reader.specs.declared.sign.Sign.TheVariants.{Quantifier, Number}
use Rattle.qcir_reader.specs.declared.sign.Sign.{Sign}
use Rattle.qcir_reader.specs.declared.reader.Reader.{Reader}
use Rattle.qcir_reader.specs.Grammar.{allows}
use Rattle.qcir_reader.specs.Rules.{Outcome, Front, first_of, refused, limit, parsed, is_unsupported, number_rules, word_rules, end_rules, is_known, is_no_name, is_no_variable, circuit_of, gate_of, literal_of}
use Rattle.qcir_reader.specs.Run.{noted, moved}
use Rattle.qcir_reader.specs.Reads.{IsAllowed, IsName}
use Rattle.qcir_reader.specs.Kept.{is_beyond, variable_rules_kept, output_rules_kept}
use Rattle.qcir_reader.specs.Represents.{Keeps, Represents}
use Rattle.qcir_reader.specs.Answers.{Is}
use Rattle.qcir_reader.proofs.Tests.{none_refuses, next_rule, is_variable}
use Rattle.qcir_reader.proofs.Runs.{name_is}
use Rattle.qcir_reader.specs.declared.refusal.QcirRefusal.TheVariants.{Refused, Limit, ReadFault, NoMemory}
use Rattle.qcir_reader.proofs.Outcomes.{still_allowed}
use Rattle.std.proofs.lemmas.Bool.{not-false}

pub unsupported_word : (stage : Stage) (f : Front) (s : Sign) (line : ℕ) → is_unsupported stage s ≡ true
    → first_of (word_rules stage f s line) ≡ Some (refused 72 line)
unsupported_word stage f s line e =
    ap (λ t. first_of ((t, refused 72 line) ∷ (is_none (allows stage s), refused 70 line) ∷ number_rules stage f s
    line)) e

supported : (stage : Stage) (f : Front) (s : Sign) (line : ℕ) → is_unsupported stage s ≡ false
    → first_of (word_rules stage f s line) ≡ first_of
    ((is_none (allows stage s), refused 70 line) ∷ number_rules stage f s line)
supported stage f s line e =
    ap (λ t. first_of ((t, refused 72 line) ∷ (is_none (allows stage s), refused 70 line) ∷ number_rules stage f s
    line)) e

pub stray_word : (stage : Stage) (f : Front) (s : Sign) (line : ℕ) → is_unsupported stage s ≡ false
    → allows stage s ≡ None → first_of (word_rules stage f s line) ≡ Some (refused 70 line)
stray_word stage f s line e n = supported stage f s line e
    ∙ ap (λ o. first_of ((is_none o, refused 70 line) ∷ number_rules stage f s line)) n

pub noted_word : (stage next : Stage) (f : Front) (s : Sign) (line : ℕ) → is_unsupported stage s ≡ false
    → allows stage s ≡ Some next → first_of (word_rules stage f s line) ≡ first_of (number_rules stage f s line)
noted_word stage next f s line e n = supported stage f s line e
    ∙ ap (λ o. first_of ((is_none o, refused 70 line) ∷ number_rules stage f s line)) n

-- the stage is not among what is kept
stage_kept : (r : Reader) (stage : Stage) (f : Front) → Keeps r f → Keeps (record r { stage = stage }) f
stage_kept r stage f k = record {
  quant = k.quant;
  scopes = k.scopes;
  few_scopes = k.few_scopes;
  marks = k.marks;
  marked = k.marked;
  output = k.output;
  line = k.line;
  gates = k.gates;
  name = k.name;
  kind = k.kind;
  inputs = k.inputs;
  amount_is = k.amount_is;
}

-- a word was taken
pub taken_word : (old new : Reader) (next : Stage) (f : Front) (s : Sign) (line : ℕ)
    → is_unsupported old.stage s ≡ false → allows old.stage s ≡ Some next → Represents old f
    → (first_of (number_rules old.stage f s line) ≡ None) × Keeps new (noted old.stage f s line)
    → (first_of (word_rules old.stage f s line) ≡ None)
    × ((next ≡ moved old.stage s) × Represents (record new { stage = next }) (noted old.stage f s line))
taken_word old new next f s line e n rep done =
    let none : first_of (word_rules old.stage f s line) ≡ None = noted_word old.stage next f s line e n ∙ done.0 in
    let to : moved old.stage s ≡ next = ap (λ o. unwrap_or o old.stage) n in (
      none,
      (
        sym to,
        record {
          keeps = stage_kept new next (noted old.stage f s line) done.1;
          allowed = subst (λ st. IsAllowed st (noted old.stage f s line)) to
              (still_allowed old.stage f s line none rep.allowed);
        },
      ),
    )

pub refused_word : (old : Reader) (next : Stage) (f : Front) (s : Sign) (line : ℕ) (e : QcirRefusal)
    → is_unsupported old.stage s ≡ false → allows old.stage s ≡ Some next
    → Is e (first_of (number_rules old.stage f s line)) → Is e (first_of (word_rules old.stage f s line))
refused_word old next f s line e u n h = subst (Is e) (sym (noted_word old.stage next f s line u n)) h

-- what rules that don't refuse tell
pub variable_told : (marks : List Bool) (scopes : List QuantSet) (q : Quant) (n : ℤ) (line : ℕ)
    → first_of (variable_rules_kept marks scopes q n line) ≡ None → (nat_abs n ≤ 1048576) × (is_beyond q scopes ≡ false)
variable_told marks scopes q n line h =
    let one = none_refuses (is_no_variable n) (refused 71 line)
    ((slice_index_or marks (nat_abs n) false, refused 73 line) ∷ (is_beyond q scopes, limit Scopes line) ∷ []) h in
    let two = none_refuses (slice_index_or marks (nat_abs n) false) (refused 73 line)
    ((is_beyond q scopes, limit Scopes line) ∷ []) one.1 in
    ((is_variable n one.0).0.1, (none_refuses (is_beyond q scopes) (limit Scopes line) [] two.1).0)

-- the end
pub unknown_output : (f : Front) (line : ℕ) → is_known f (nat_abs f.output.literal) ≡ false
    → first_of (end_rules Body f line) ≡ Some (refused 74 f.output.line)
unknown_output f line e =
    ap (λ t. first_of ((not t, refused 74 f.output.line) ∷ (true, parsed (circuit_of f.sets f.output f.gates)) ∷ [])) e

pub known_output : (f : Front) (line : ℕ) → is_known f (nat_abs f.output.literal) ≡ true
    → first_of (end_rules Body f line) ≡ Some (parsed (circuit_of f.sets f.output f.gates))
known_output f line e =
    ap (λ t. first_of ((not t, refused 74 f.output.line) ∷ (true, parsed (circuit_of f.sets f.output f.gates)) ∷ [])) e

never_is : (e : QcirRefusal) (found : Option Outcome) → Is e None → Is e found
never_is (Refused number line) found i = cc
never_is (Limit quantity line) found i = cc
never_is ReadFault found i = i
never_is NoMemory found i = tt

-- an output that is a name, and whose mark says whether it is known
pub output_ends : (r : Reader) (f : Front) (line : ℕ) → Keeps r f → IsName (nat_abs f.output.literal)
    → (e : QcirRefusal)
    → Is e (first_of (output_rules_kept r.sets.marks.items r.output r.output_line))
    → Is e (first_of (end_rules Body f line))
output_ends r f line k name e h = by (is_known f (nat_abs f.output.literal)) refl
  where
    there : output_rules_kept r.sets.marks.items r.output r.output_line ≡ output_rules_kept r.sets.marks.items
        f.output.literal f.output.line
    there = ap (λ n. output_rules_kept r.sets.marks.items n r.output_line) k.output
        ∙ ap (λ n. output_rules_kept r.sets.marks.items f.output.literal n) k.line

    told : first_of (output_rules_kept r.sets.marks.items r.output r.output_line) ≡ first_of
        ((not (is_known f (nat_abs f.output.literal)), refused 74 f.output.line) ∷ [])
    told = ap first_of there ∙ next_rule (is_no_name f.output.literal) (refused 74 f.output.line)
        ((not (slice_index_or r.sets.marks.items (nat_abs f.output.literal) false), refused 74 f.output.line) ∷ [])
        (name_is f.output.literal name)
        ∙ ap (λ b. first_of ((not b, refused 74 f.output.line) ∷ [])) (k.marks (nat_abs f.output.literal))

    by : (b : Bool) → is_known f (nat_abs f.output.literal) ≡ b → Is e (first_of (end_rules Body f line))
    by true known = never_is e (first_of (end_rules Body f line))
        (subst (Is e) (told ∙ ap (λ b. first_of ((not b, refused 74 f.output.line) ∷ [])) known) h)
    by false known = subst (Is e) (told ∙ ap (λ b. first_of ((not b, refused 74 f.output.line) ∷ [])) known
        ∙ sym (unknown_output f line known)) h

pub output_known : (r : Reader) (f : Front) → Keeps r f
    → first_of (output_rules_kept r.sets.marks.items r.output r.output_line) ≡ None
    → is_known f (nat_abs f.output.literal) ≡ true
output_known r f k h =
    let one = none_refuses (is_no_name r.output) (refused 74 r.output_line)
    ((not (slice_index_or r.sets.marks.items (nat_abs r.output) false), refused 74 r.output_line) ∷ []) h in
    let two = none_refuses (not (slice_index_or r.sets.marks.items (nat_abs r.output) false)) (refused 74 r.output_line)
    [] one.1 in
    sym (k.marks (nat_abs f.output.literal)) ∙ ap (λ n. slice_index_or r.sets.marks.items (nat_abs n) false)
    (sym k.output) ∙ not-false (slice_index_or r.sets.marks.items (nat_abs r.output) false) two.0

-- a quantifier
pub quantifier_noted : (r : Reader) (f : Front) (s : Sign) (q : Quant) (line : ℕ) → r.stage ≡ Between → s ≡ Quantifier q
    → Represents r f
    → (first_of (number_rules r.stage f s line) ≡ None) × Keeps (record r { quant = q }) (noted r.stage f s line)
quantifier_noted r f s q line e is rep =
    let a : IsAllowed Between f = subst (λ st. IsAllowed st f) e rep.allowed in
    subst (λ st. (first_of (number_rules st f s line) ≡ None) × Keeps (record r { quant = q }) (noted st f s line))
    (sym e)
    (subst (λ x. (first_of (number_rules Between f x line) ≡ None) × Keeps (record r { quant = q })
    (noted Between f x line)) (sym is) (refl, quantifier_kept r f q a.stands.0 rep.keeps))

pub in_set_noted : (r : Reader) (place : Place) (f : Front) (s : Sign) (line : ℕ) → r.stage ≡ InSet place
    → ((n : ℤ) → s ≡ Number n → ⊥) → Represents r f
    → (first_of (number_rules r.stage f s line) ≡ None) × Keeps r (noted r.stage f s line)
in_set_noted r place f s line e other rep =
    subst (λ st. (first_of (number_rules st f s line) ≡ None) × Keeps r (noted st f s line)) (sym e)
    (in_set_else r place f s line other rep.keeps)

-- what the end keeps to
pub allowed_body : (r : Reader) (f : Front) → r.stage ≡ Body → Represents r f → IsAllowed Body f
allowed_body r f e rep = subst (λ st. IsAllowed st f) e rep.allowed

pub rows_are : (r : Reader) (f : Front) → f.vars ≡ [] → Keeps r f → sets_of r.sets.rows.items ≡ merged f.sets
rows_are r f none k = k.scopes ∙ ap (λ vs. merged (f.sets ++ (f.quant, vs) ∷ [])) none ∙ merged_empty f.sets f.quant

pub circuit_is : (r : Reader) (f : Front) (p : List Scope) (gates : List Gate) (output : Literal) → Keeps r f
    → f.vars ≡ [] → p ≡ map in_order (sets_of r.sets.rows.items) → gates ≡ r.gates.items → output ≡ literal_of r.output
    → circuit_of f.sets f.output f.gates ≡ record { prefix = p; gates = gates; output = output }
circuit_is r f p gates output k none p_is gates_are output_is =
    ap (λ x. record { prefix = x; gates = map gate_of f.gates; output = literal_of f.output.literal })
    (ap (map in_order) (sym (rows_are r f none k)) ∙ sym p_is)
    ∙ ap (λ x. record { prefix = p; gates = x; output = literal_of f.output.literal }) (sym k.gates ∙ sym gates_are)
    ∙ ap (λ x. record { prefix = p; gates = gates; output = x }) (ap literal_of (sym k.output) ∙ sym output_is)

pub circuit_parsed : (r : Reader) (f : Front) (line : ℕ) (c : Circuit) → r.stage ≡ Body
    → is_known f (nat_abs f.output.literal) ≡ true → circuit_of f.sets f.output f.gates ≡ c
    → first_of (end_rules r.stage f line) ≡ Some (parsed c)
circuit_parsed r f line c e known is =
    ap (λ st. first_of (end_rules st f line)) e ∙ known_output f line known ∙ ap (λ x. Some (parsed x)) is

pub output_refused : (r : Reader) (f : Front) (line : ℕ) (e : QcirRefusal) → r.stage ≡ Body → Represents r f
    → Is e (first_of (output_rules_kept r.sets.marks.items r.output r.output_line))
    → Is e (first_of (end_rules r.stage f line))
output_refused r f line e at_end rep h =
    subst (λ st. Is e (first_of (end_rules st f line))) (sym at_end)
    (output_ends r f line rep.keeps (allowed_body r f at_end rep).stands.output e h)
