-- One more gate.
use Rattle.std.proofs.Common.{◌≡◌, ℕ, suc, ◌+◌, ◌<◌, ◌≤◌, ℤ, pos, negsuc, nat_abs, Bool, true, false, ◌&&◌, ◌||◌, List, [], ◌∷◌, ◌++◌, length, map, refl, sym, ap, subst, ◌∙◌, arith, length-append}
use Rattle.std.specs.Prelude.{◌==◌}
use Rattle.std.specs.List.{AllByRecursion, flat_map, list_all}
use Rattle.std.proofs.lemmas.List.{length-map}
use Rattle.prefix.specs.declared.quant.Quant.{Quant}
use Rattle.prefix.specs.declared.quant.Quant.TheVariants.{Exists, Forall}
use Rattle.prefix.specs.Literal.{Literal}
use Rattle.prefix.specs.Scopes.{Scope, is_among}
use Rattle.qdimacs.specs.Formula.{QuantSet, merged, in_order}
use Rattle.qdimacs.proofs.Grown.{flat_more}
use Rattle.qcir.specs.declared.circuit.Gate.{Gate}
use Rattle.qcir.specs.Truth.{gate_names}
use Rattle.qcir.specs.Translation.{AreEarlier, known_after, joined_last, scopes_with}
use Rattle.qcir_reader.specs.Rules.{GateText, Front, is_known, quantified, gate_of, gate_names_of, literal_of, amount, scopes_of}
use Rattle.truth.specs.Limits.{max_scopes}

-- counts
pub amount_more : (gates : List GateText) (g : GateText) → amount (gates ++ g ∷ []) ≡ amount gates + length g.inputs + 1
amount_more gates g =
    let inputs : length (flat_map (λ (g : GateText). g.inputs) (gates ++ g ∷ [])) ≡ length
    (flat_map (λ (g : GateText). g.inputs) gates) + length g.inputs =
    ap length (flat_more (λ (g : GateText). g.inputs) gates g)
    ∙ length-append (flat_map (λ (g : GateText). g.inputs) gates) g.inputs in
    omega (arith, inputs, length-append gates (g ∷ []))

-- how many scopes there are with gates doesn't depend on how many gates there are
last_as_many : (q : Quant) (vs ns : List ℕ) (n : ℕ) → length (joined_last q vs (ns ++ n ∷ [])) ≡ length
    (joined_last q vs (n ∷ []))
last_as_many Exists vs ns n = refl
last_as_many Forall vs [] n = refl
last_as_many Forall vs (m ∷ ms) n = refl

pub scopes_as_many : (p : List Scope) (ns : List ℕ) (n : ℕ) → length (scopes_with p (ns ++ n ∷ [])) ≡ length
    (scopes_with p (n ∷ []))
scopes_as_many [] [] n = refl
scopes_as_many [] (m ∷ ms) n = refl
scopes_as_many (s ∷ []) ns n = last_as_many s.quantifier s.variables ns n
scopes_as_many (s ∷ t ∷ rest) ns n = ap suc (scopes_as_many (t ∷ rest) ns n)

last_no_more : (q : Quant) (vs : List ℕ) → length (joined_last q vs []) ≡ 1
last_no_more Exists vs = refl
last_no_more Forall vs = refl

pub no_more_scopes : (p : List Scope) → length (scopes_with p []) ≡ length p
no_more_scopes [] = refl
no_more_scopes (s ∷ []) = last_no_more s.quantifier s.variables
no_more_scopes (s ∷ t ∷ rest) = ap suc (no_more_scopes (t ∷ rest))

pub no_scope_more : (sets : List QuantSet) (gates : List GateText) → gates ≡ [] → length (merged sets) ≤ max_scopes
    → length (scopes_with (scopes_of sets) (gate_names_of gates)) ≤ max_scopes
no_scope_more sets gates none few = subst (λ gs. length (scopes_with (scopes_of sets) (gate_names_of gs)) ≤ max_scopes)
    (sym none) (subst (λ n. n ≤ max_scopes) (sym (no_more_scopes (scopes_of sets) ∙ length-map (merged sets) in_order))
    few)

-- what is known behind gates
or_turned : (a b c : Bool) → ((a || b) || c) ≡ (b || (a || c))
or_turned true true c = refl
or_turned true false c = refl
or_turned false true c = refl
or_turned false false c = refl

pub known_behind : (v : ℕ) (known : List ℕ) (gates : List Gate) → is_among v (known_after known gates) ≡
    (is_among v known || is_among v (gate_names gates))
known_behind v known [] = sym (or_none (is_among v known))
  where
    or_none : (b : Bool) → (b || false) ≡ b
    or_none true = refl
    or_none false = refl
known_behind v known (g ∷ gates) = known_behind v (g.var ∷ known) gates ∙ or_moved (g.var == v) (is_among v known)
    (is_among v (gate_names gates))
  where
    or_moved : (a b c : Bool) → ((a || b) || c) ≡ (b || (a || c))
    or_moved true true c = refl
    or_moved true false c = refl
    or_moved false true c = refl
    or_moved false false c = refl

pub names_same : (gates : List GateText) → gate_names (map gate_of gates) ≡ gate_names_of gates
names_same [] = refl
names_same (g ∷ gates) = ap (λ r. g.name ∷ r) (names_same gates)

-- no gate is earlier than any
pub earlier_none : (known : List ℕ) (gates : List GateText) → gates ≡ [] → AreEarlier known (map gate_of gates)
earlier_none known gates none = subst (λ gs. AreEarlier known (map gate_of gs)) (sym none) tt

-- one more gate behind others
earlier_last : (known : List ℕ) (gates : List Gate) (g : Gate) → AreEarlier known gates
    → list_all (λ (l : Literal). is_among l.variable (known_after known gates)) g.inputs ≡ true
    → is_among g.var (known_after known gates) ≡ false → AreEarlier known (gates ++ g ∷ [])
earlier_last known [] g a over fresh = (over, fresh, tt)
earlier_last known (h ∷ gates) g a over fresh = (a.0, a.1, earlier_last (h.var ∷ known) gates g a.2 over fresh)

pub literal_variable : (n : ℤ) → (literal_of n).variable ≡ nat_abs n
literal_variable (pos n) = refl
literal_variable (negsuc n) = omega arith

both_true : (a b : Bool) → a ≡ true → b ≡ true → (a && b) ≡ true
both_true true true h k = refl
both_true true false h k = cc
both_true false b h k = cc

inputs_over : (known : List ℕ) (f : Front) (ns : List ℤ) → ((v : ℕ) → is_among v known ≡ is_known f v)
    → AllByRecursion (λ n. (0 < nat_abs n) × (is_known f (nat_abs n) ≡ true)) ns
    → list_all (λ (l : Literal). is_among l.variable known) (map literal_of ns) ≡ true
inputs_over known f [] same all = refl
inputs_over known f (n ∷ ns) same all =
    both_true (is_among (literal_of n).variable known)
    (list_all (λ (l : Literal). is_among l.variable known) (map literal_of ns))
    (ap (λ v. is_among v known) (literal_variable n) ∙ same (nat_abs n) ∙ all.0.1)
    (inputs_over known f ns same all.1)

pub known_same : (f : Front) (v : ℕ) → is_among v (known_after (quantified f) (map gate_of f.gates)) ≡ is_known f v
known_same f v = known_behind v (quantified f) (map gate_of f.gates)
    ∙ ap (λ ns. is_among v (quantified f) || is_among v ns) (names_same f.gates)

pub earlier_more : (f : Front) (g : GateText) → AreEarlier (quantified f) (map gate_of f.gates)
    → is_known f g.name ≡ false
    → AllByRecursion (λ n. (0 < nat_abs n) × (is_known f (nat_abs n) ≡ true)) g.inputs → AreEarlier (quantified f)
    (map gate_of f.gates ++ gate_of g ∷ [])
earlier_more f g a fresh all =
    earlier_last (quantified f) (map gate_of f.gates) (gate_of g) a
    (inputs_over (known_after (quantified f) (map gate_of f.gates)) f g.inputs (known_same f) all)
    (known_same f g.name ∙ fresh)
