-- The circuit of whole statements.
use Rattle.std.proofs.Common.{◌≡◌, ℕ, ◌+◌, ◌<◌, ◌≤◌, nat_abs, Bool, true, false, ◌&&◌, ◌||◌, List, [], ◌∷◌, ◌++◌, length, map, refl, sym, ap, subst, ◌∙◌, arith, length-append}
use Rattle.std.specs.Prelude.{◌==◌}
use Rattle.std.specs.List.{AllByRecursion, flat_map, list_all}
use Rattle.std.proofs.lemmas.Bool.{eqb-true}
use Rattle.std.proofs.lemmas.List.{append-nil, length-map}
use Rattle.prefix.specs.Literal.{Literal}
use Rattle.prefix.specs.Scopes.{AreDistinct, all_variables, is_among, IsPrefix}
use Rattle.qdimacs.specs.Formula.{QuantSet, merged, declared}
use Rattle.qdimacs.specs.Kept.{AreScopes}
use Rattle.qdimacs.proofs.Formed.{ordered_among}
use Rattle.qdimacs.proofs.Merged.{merged_declared}
use Rattle.qcir.specs.declared.circuit.Gate.{Gate}
use Rattle.qcir.specs.Truth.{gate_names}
use Rattle.qcir.specs.Translation.{AreEarlier, clause_count, known_after, scopes_with}
use Rattle.qcir_reader.specs.declared.sign.Stage.TheVariants.{Body}
use Rattle.qcir_reader.specs.Rules.{GateText, Front, amount, circuit_of, gate_of, is_known, literal_of, quantified, scopes_of}
use Rattle.truth.specs.Limits.{max_scopes, max_clauses}
use Rattle.qcir_reader.specs.Reads.{IsAllowed, IsName}
use Rattle.qcir_reader.specs.Answers.{IsSmall}
use Rattle.qcir_reader.proofs.Gates.{known_behind, names_same, literal_variable}

list_same : (known other : List ℕ) (ls : List Literal) → ((v : ℕ) → is_among v known ≡ is_among v other)
    → list_all (λ (l : Literal). is_among l.variable known) ls ≡ list_all (λ (l : Literal). is_among l.variable other)
    ls
list_same known other [] same = refl
list_same known other (l ∷ ls) same =
    ap (λ b. b && list_all (λ (l : Literal). is_among l.variable known) ls) (same l.variable)
    ∙ ap (λ b. is_among l.variable other && b) (list_same known other ls same)

earlier_same : (known other : List ℕ) (gates : List Gate) → ((v : ℕ) → is_among v known ≡ is_among v other)
    → AreEarlier known gates → AreEarlier other gates
earlier_same known other [] same a = tt
earlier_same known other (g ∷ gates) same a = (
  sym (list_same known other g.inputs same) ∙ a.0,
  sym (same g.var) ∙ a.1,
  earlier_same (g.var ∷ known) (g.var ∷ other) gates (λ v. ap (λ b. (g.var == v) || b) (same v)) a.2,
)

in_range : (ns : List ℕ) → AllByRecursion IsName ns → AllByRecursion (λ v. (1 ≤ v) × (v ≤ 1048576)) ns
in_range [] all = tt
in_range (n ∷ ns) all = let low : 0 < n = all.0.0 in let high : n ≤ 1048576 = all.0.1 in
    ((omega (arith, low), high), in_range ns all.1)

inputs_same : (gates : List GateText) → length (flat_map (λ (g : Gate). g.inputs) (map gate_of gates)) ≡ length
    (flat_map (λ (g : GateText). g.inputs) gates)
inputs_same [] = refl
inputs_same (g ∷ gates) =
    length-append (map literal_of g.inputs) (flat_map (λ (g : Gate). g.inputs) (map gate_of gates))
    ∙ ap (λ n. n + length (flat_map (λ (g : Gate). g.inputs) (map gate_of gates))) (length-map g.inputs literal_of)
    ∙ ap (λ n. length g.inputs + n) (inputs_same gates)
    ∙ sym (length-append g.inputs (flat_map (λ (g : GateText). g.inputs) gates))

count_same : (gates : List GateText) → clause_count (map gate_of gates) ≡ amount gates
count_same gates = ap (λ n. n + length (map gate_of gates) + 1) (inputs_same gates)
    ∙ ap (λ n. length (flat_map (λ (g : GateText). g.inputs) gates) + n + 1) (length-map gates gate_of)

-- what is quantified stands in the scopes
quantified_same : (f : Front) (v : ℕ) → f.vars ≡ [] → is_among v (quantified f) ≡ is_among v
    (all_variables (scopes_of f.sets))
quantified_same f v none =
    ap (λ vs. is_among v (declared f.sets ++ vs)) none
    ∙ ap (is_among v) (append-nil (declared f.sets) ∙ sym (merged_declared f.sets))
    ∙ sym (ordered_among v (merged f.sets))

pub circuit_small : (f : Front) → IsAllowed Body f → IsPrefix (scopes_of f.sets)
    → is_known f (nat_abs f.output.literal) ≡ true → IsSmall (circuit_of f.sets f.output f.gates)
circuit_small f a valid known =
    let vars : (v : ℕ) → is_among v (quantified f) ≡ is_among v (all_variables (scopes_of f.sets)) =
    λ v. quantified_same f v a.stands.vars in
    record {
      circuit = record {
        valid = valid;
        gates = earlier_same (quantified f) (all_variables (scopes_of f.sets)) (map gate_of f.gates) vars a.gates;
        in_range = in_range (gate_names (map gate_of f.gates))
            (subst (λ ns. AllByRecursion IsName ns) (sym (names_same f.gates)) a.gate_names);
        output = ap (λ v. is_among v (known_after (all_variables (scopes_of f.sets)) (map gate_of f.gates)))
            (literal_variable f.output.literal)
            ∙ known_behind (nat_abs f.output.literal) (all_variables (scopes_of f.sets)) (map gate_of f.gates)
            ∙ ap (λ b. b || is_among (nat_abs f.output.literal) (gate_names (map gate_of f.gates)))
            (sym (vars (nat_abs f.output.literal)))
            ∙ ap (λ ns. is_among (nat_abs f.output.literal) (quantified f) || is_among (nat_abs f.output.literal) ns)
            (names_same f.gates)
            ∙ known;
      };
      scopes = subst (λ ns. length (scopes_with (scopes_of f.sets) ns) ≤ max_scopes) (sym (names_same f.gates))
          a.gate_scopes;
      clauses = subst (λ n. n ≤ max_clauses) (sym (count_same f.gates)) a.few;
    }

all_by : (t : Bool) (n : ℕ) (ns : List ℕ) (v : ℕ) → (n == v) ≡ t → IsName n
    → (is_among v ns ≡ true → (1 ≤ v) × (v ≤ 1048576)) → (t || is_among v ns) ≡ true → (1 ≤ v) × (v ≤ 1048576)
all_by true n ns v e name rest h = let same : n ≡ v = eqb-true n v e in let low : 0 < n = name.0 in let high :
    n ≤ 1048576 = name.1 in (omega (arith, same, low), omega (arith, same, high))
all_by false n ns v e name rest h = rest h

all_at : (ns : List ℕ) → AllByRecursion IsName ns → (v : ℕ) → is_among v ns ≡ true → (1 ≤ v) × (v ≤ 1048576)
all_at [] all v h = cc
all_at (n ∷ ns) all v h = all_by (n == v) n ns v refl all.0 (all_at ns all.1 v) h

-- the scopes that were read are those of a prefix
pub scopes_fit : (f : Front) (rows : List QuantSet) → f.vars ≡ [] → IsAllowed Body f → rows ≡ merged f.sets
    → length rows ≤ 65536 → AreScopes rows
scopes_fit f rows none a is few =
    let same : declared rows ≡ quantified f = ap declared is ∙ merged_declared f.sets
    ∙ sym (append-nil (declared f.sets)) ∙ ap (λ vs. declared f.sets ++ vs) (sym none) in
    record {
      few = few;
      distinct = subst AreDistinct (sym same) a.distinct;
      each = λ v h. all_at (quantified f) a.names v (ap (is_among v) (sym same) ∙ h);
    }
