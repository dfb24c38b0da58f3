-- A text that is something by the grammar is what is computed.
use Rattle.std.proofs.Common.{◌≡◌, ℕ, zero, suc, ◌+◌, ◌<◌, ◌≤◌, ℤ, pos, nat_abs, Bool, true, false, ◌||◌, List, [], ◌∷◌, ◌++◌, length, map, None, Some, refl, sym, ap, subst, ◌∙◌, arith, length-append}
use Rattle.std.specs.Prelude.{◌==◌}
use Rattle.std.specs.List.{AllByRecursion, flat_map, list_all}
use Rattle.std.proofs.lemmas.List.{append_assoc, append-nil, map-append, length-map}
use Rattle.std.proofs.lemmas.Bool.{eqb-true, eq-eqb, or_left, or_right, and_parts}
use Rattle.lexer.specs.declared.token.Token.{Token}
use Rattle.lexer.specs.Words.{Item, word}
use Rattle.prefix.specs.declared.quant.Quant.{Quant}
use Rattle.prefix.specs.declared.quant.Quant.TheVariants.{Exists, Forall}
use Rattle.prefix.specs.Literal.{Literal}
use Rattle.prefix.specs.Scopes.{Scope, is_among, AreDistinct}
use Rattle.qdimacs.specs.Formula.{QuantSet, declared}
use Rattle.qdimacs.proofs.Grown.{declared_more}
use Rattle.qdimacs.proofs.Keeping.{among_more}
use Rattle.qcir.specs.Translation.{AreEarlier, joined_last, scopes_with}
use Rattle.qcir_reader.specs.declared.sign.Place.{Place}
use Rattle.qcir_reader.specs.declared.sign.Place.TheVariants.{Before, Opened, Behind, Continued}
use Rattle.qcir_reader.specs.declared.sign.Stage.{Stage}
use Rattle.qcir_reader.specs.declared.sign.Stage.TheVariants.{Between, InSet, InOutput, Body, InName, InKind, InGate}
use Rattle.qcir_reader.specs.declared.sign.Sign.{Sign}
use Rattle.qcir_reader.specs.declared.sign.Sign.TheVariants.{Quantifier, Output, Kind, Equals, Opening, Closing, Number}
use Rattle.qcir_reader.specs.Grammar.{sign_of}
use Rattle.qcir_reader.specs.Rules.{Outcome, GateText, OutputText, Front, first_of, refused, is_known, is_no_name, output_rules, quantified, gate_of, gate_names_of, literal_of, amount, scopes_of}
use Rattle.truth.specs.Limits.{max_scopes, max_clauses}
use Rattle.qcir_reader.specs.Run.{nothing, no_gate, decided, outcome_from, outcome_of, moved_item, noted_item}
use Rattle.qcir_reader.specs.Reads.{IsAllowed, IsBody, IsName, IsNextGate, HasLine, IsLined, Spells, Reads, signs_of, sets_signs, body_signs, output_signs, gate_signs, begun}
use Rattle.qcir_reader.proofs.Gates.{amount_more, literal_variable}
use Rattle.qcir_reader.proofs.Runs.{Runs, Parts, parted, signs, step, join_items, none_with, name_is, runs_on}
use Rattle.qcir_reader.proofs.RunSets.{AreSets, at_sets, in_sets, fewer_sets, sets_run, last_quant}
use Rattle.qcir_reader.proofs.RunSets.{begun_runs as sets_begun}
use Rattle.qcir_reader.proofs.RunGates.{AreInputs, AreNext, IsNext, gates_at, gate_text, gates_run, last_gate, name_runs, equals_runs}
use Rattle.qcir_reader.proofs.RunGates.{begun_runs as gate_begun}
use Rattle.qcir_reader.proofs.Alike.{SameAt, verdict_same}
use Rattle.std.proofs.Math.Bool.{or-false}

-- the quantifier statements
all_sets : (stage : Stage) (f : Front) → IsAllowed stage f → AreSets (f.sets ++ (f.quant, f.vars) ∷ [])
all_sets stage f a = record {
  names = subst (λ x. AllByRecursion IsName x) (sym (declared_more f.sets f.quant f.vars)) a.names;
  distinct = subst AreDistinct (sym (declared_more f.sets f.quant f.vars)) a.distinct;
  scopes = a.scopes;
}

-- lines
line_front : (k : ℕ) (xs ys : List Token) (line : ℕ) → k < length xs → HasLine k (xs ++ ys) line → HasLine k xs line
line_front k [] ys line low h = absurd (omega (arith, low))
line_front zero (x ∷ xs) ys line low h = h
line_front (suc k) (x ∷ xs) ys line low h = line_front k xs ys line (omega (arith, low)) h

line_back : (xs ys : List Token) (n k line : ℕ) → length xs ≡ n → HasLine (n + k) (xs ++ ys) line → HasLine k ys line
line_back [] ys n k line e h = subst (λ m. HasLine m ys line) (let z : n + k ≡ k = omega (arith, e) in z) h
line_back (x ∷ xs) ys zero k line e h = absurd (omega (arith, e))
line_back (x ∷ xs) ys (suc n) k line e h = line_back xs ys n k line (omega (arith, e))
    (subst (λ m. HasLine m (x ∷ xs ++ ys) line) (let s : suc n + k ≡ suc (n + k) = omega arith in s) h)

-- the output statement
output_silent : (n : ℤ) → IsName (nat_abs n) → (line : ℕ) → first_of (output_rules n line) ≡ None
output_silent n h line = none_with (is_no_name n) (refused 71 line) [] (name_is n h) refl

output_run : (sets : List QuantSet) (q : Quant) (out : OutputText) (ts : List Token) → IsName (nat_abs out.literal)
    → signs ts ≡ output_signs out → HasLine 2 ts out.line → (is : List Item)
    → outcome_from Between (at_sets sets q) (map word ts ++ is) ≡ outcome_from Body
    (record nothing { sets = sets; quant = q; output = out }) is
output_run sets q out (a ∷ b ∷ c ∷ d ∷ []) name e line is =
    let one : sign_of a.word ≡ Output = cc in
    let two : sign_of b.word ≡ Opening = cc in
    let three : sign_of c.word ≡ Number out.literal = cc in
    let four : sign_of d.word ≡ Closing = cc in
    step Between (at_sets sets q) a Output (word b ∷ word c ∷ word d ∷ is) one refl
    ∙ step (InOutput Before) (at_sets sets q) b Opening (word c ∷ word d ∷ is) two refl
    ∙ step (InOutput Opened) (at_sets sets q) c (Number out.literal) (word d ∷ is) three
    (output_silent out.literal name c.line)
    ∙ ap (λ n. outcome_from (InOutput Behind)
    (record nothing { sets = sets; quant = q; output = record { literal = out.literal; line = n } }) (word d ∷ is))
    line
    ∙ step (InOutput Behind) (record nothing { sets = sets; quant = q; output = out }) d Closing is four refl
output_run sets q out [] name e line is = cc
output_run sets q out (a ∷ []) name e line is = cc
output_run sets q out (a ∷ b ∷ []) name e line is = cc
output_run sets q out (a ∷ b ∷ c ∷ []) name e line is = cc
output_run sets q out (a ∷ b ∷ c ∷ d ∷ x ∷ ts) name e line is = cc

-- What the computation reaches is like what has been read.
pub record Reached (stage : Stage) (f : Front) (read : List Token) : Type 0 where
  pub front : Front
  pub same : SameAt stage f front
  pub runs : (is : List Item) → outcome_from Between nothing (map word read ++ is) ≡ outcome_from stage front is

sets_reached : (stage : Stage) (f : Front) → IsAllowed stage f → Runs Between nothing (sets_signs f) Between
    (at_sets f.sets (last_quant Exists f.sets))
sets_reached stage f a = sets_run f.sets [] Exists (fewer_sets f.sets ((f.quant, f.vars) ∷ []) (all_sets stage f a))

between_reached : (f : Front) (read : List Token) → IsAllowed Between f → signs read ≡ sets_signs f
    → Reached Between f read
between_reached f read a e = record {
  front = at_sets f.sets (last_quant Exists f.sets);
  same = tt;
  runs =
      λ is. sets_reached Between f a read e is;
}

in_set_reached : (place : Place) (f : Front) (read : List Token) → IsAllowed (InSet place) f → signs read ≡ signs_of
    (InSet place) f → Reached (InSet place) f read
in_set_reached place f read a e = record {
  front = in_sets f.sets f.quant f.vars;
  same = λ output inputs. record {
    sets = refl;
    quant = refl;
    vars = refl;
    output = refl;
    gates = a.stands.1;
    inputs =
        refl;
  };
  runs = λ is. runs_on Between Between (InSet place) nothing (at_sets f.sets (last_quant Exists f.sets))
      (in_sets f.sets f.quant f.vars) (sets_signs f) (Quantifier f.quant ∷ begun place (map pos f.vars))
      (sets_reached (InSet place) f a)
      (sets_begun place f.sets (last_quant Exists f.sets) f.quant f.vars a.stands.0 (all_sets (InSet place) f a)) read e
      is;
}

-- an output statement that has not ended
begun_output : (place : Place) (sets : List QuantSet) (q : Quant) (n : ℤ) (ts : List Token)
    → (place ≡ Behind → IsName (nat_abs n)) → (place ≡ Continued → ⊥) → signs ts ≡ Output ∷ begun place (n ∷ [])
    → (g : Front) × ((is : List Item) → outcome_from Between (at_sets sets q) (map word ts ++ is) ≡ outcome_from
    (InOutput place) g is)
begun_output Before sets q n (a ∷ []) name other e = (
  at_sets sets q,
  λ is. step Between (at_sets sets q) a Output is (let one : sign_of a.word ≡ Output = cc in one)
      refl,
)
begun_output Before sets q n [] name other e = cc
begun_output Before sets q n (a ∷ b ∷ ts) name other e = cc
begun_output Opened sets q n (a ∷ b ∷ []) name other e = (
  at_sets sets q,
  λ is. step Between (at_sets sets q) a Output (word b ∷ is) (let one : sign_of a.word ≡ Output = cc in one) refl
      ∙ step (InOutput Before) (at_sets sets q) b Opening is (let two : sign_of b.word ≡ Opening = cc in two) refl,
)
begun_output Opened sets q n [] name other e = cc
begun_output Opened sets q n (a ∷ []) name other e = cc
begun_output Opened sets q n (a ∷ b ∷ c ∷ ts) name other e = cc
begun_output Behind sets q n (a ∷ b ∷ c ∷ []) name other e = (
  record nothing { sets = sets; quant = q; output = record { literal = n; line = c.line } },
  λ is. step Between (at_sets sets q) a Output (word b ∷ word c ∷ is) (let one : sign_of a.word ≡ Output = cc in one)
      refl
      ∙ step (InOutput Before) (at_sets sets q) b Opening (word c ∷ is) (let two : sign_of b.word ≡ Opening = cc in two)
      refl
      ∙ step (InOutput Opened) (at_sets sets q) c (Number n) is (let three : sign_of c.word ≡ Number n = cc in three)
      (output_silent n (name refl) c.line),
)
begun_output Behind sets q n [] name other e = cc
begun_output Behind sets q n (a ∷ []) name other e = cc
begun_output Behind sets q n (a ∷ b ∷ []) name other e = cc
begun_output Behind sets q n (a ∷ b ∷ c ∷ d ∷ ts) name other e = cc
begun_output Continued sets q n ts name other e = absurd (other refl)

in_output_reached : (place : Place) (f : Front) (read : List Token)
    → (place ≡ Behind → IsName (nat_abs f.output.literal)) → (place ≡ Continued → ⊥) → IsAllowed (InOutput place) f
    → signs read ≡ signs_of (InOutput place) f → Reached (InOutput place) f read
in_output_reached place f read name other a e =
    let p : Parts read (sets_signs f) (Output ∷ begun place (f.output.literal ∷ [])) = parted (sets_signs f)
    (Output ∷ begun place (f.output.literal ∷ [])) read e in
    let found = begun_output place f.sets (last_quant Exists f.sets) f.output.literal p.second name other p.back in
    record {
      front = found.0;
      same = tt;
      runs = λ is. ap (λ r. outcome_from Between nothing (map word r ++ is)) p.whole ∙ ap (outcome_from Between nothing)
          (join_items p.first p.second is)
          ∙ sets_reached (InOutput place) f a p.first p.front (map word p.second ++ is) ∙ found.1 is;
    }

-- behind the output
abbrev base_of : Front → Front
base_of f = record nothing { sets = f.sets; quant = last_quant Exists f.sets; output = f.output }

-- gates that are allowed, one by one
amount_front : (xs ys : List GateText) → amount xs ≤ amount (xs ++ ys)
amount_front xs [] = subst (λ x. amount xs ≤ amount x) (sym (append-nil xs)) (omega arith)
amount_front xs (y ∷ ys) =
    let one : amount (xs ++ y ∷ []) ≡ amount xs + length y.inputs + 1 = amount_more xs y in
    let more : amount (xs ++ y ∷ []) ≤ amount (xs ++ y ∷ ys) = subst (λ x. amount (xs ++ y ∷ []) ≤ amount x)
    (append_assoc xs (y ∷ []) ys) (amount_front (xs ++ y ∷ []) ys) in
    omega (arith, one, more)

inputs_are : (b : Front) (done : List GateText) (known : List ℕ) (ns : List ℤ)
    → ((v : ℕ) → is_among v known ≡ is_known (gates_at b done b.gate) v)
    → ((v : ℕ) → is_known (gates_at b done b.gate) v ≡ true → IsName v)
    → list_all (λ (l : Literal). is_among l.variable known) (map literal_of ns) ≡ true
    → AreInputs (gates_at b done b.gate) ns
inputs_are b done known [] same range h = tt
inputs_are b done known (n ∷ ns) same range h =
    let parts = and_parts (is_among (literal_of n).variable known)
    (list_all (λ (l : Literal). is_among l.variable known) (map literal_of ns)) h in
    let there : is_known (gates_at b done b.gate) (nat_abs n) ≡ true = sym (same (nat_abs n))
    ∙ ap (λ v. is_among v known) (sym (literal_variable n)) ∙ parts.0 in
    ((range (nat_abs n) there, there), inputs_are b done known ns same range parts.1)

or_turned : (a b c : Bool) → (b || (a || c)) ≡ (a || (b || c))
or_turned true true c = refl
or_turned true false c = refl
or_turned false true c = refl
or_turned false false c = refl

gates_allowed : (rest : List GateText) (b : Front) (done : List GateText) (known : List ℕ)
    → ((v : ℕ) → is_among v known ≡ is_known (gates_at b done b.gate) v)
    → ((v : ℕ) → is_known (gates_at b done b.gate) v ≡ true → IsName v)
    → AreEarlier known (map gate_of rest) → AllByRecursion IsName (gate_names_of rest)
    → ((n : ℕ) → is_among n (gate_names_of rest) ≡ true → length (scopes_with (scopes_of b.sets) (n ∷ [])) ≤
    max_scopes) → amount (done ++ rest) ≤ max_clauses
    → AreNext b done rest
gates_allowed [] b done known same range e names scopes few = tt
gates_allowed (g ∷ rest) b done known same range e names scopes few =
    let longer : (done ++ g ∷ []) ++ rest ≡ done ++ g ∷ rest = append_assoc done (g ∷ []) rest in
    let all : amount ((done ++ g ∷ []) ++ rest) ≤ max_clauses = subst (λ x. amount x ≤ max_clauses) (sym longer) few in
    let here : amount (done ++ g ∷ []) ≤ amount ((done ++ g ∷ []) ++ rest) = amount_front (done ++ g ∷ []) rest in
    let more : (v : ℕ) → is_known (gates_at b (done ++ g ∷ []) b.gate) v ≡
    (g.name == v || is_known (gates_at b done b.gate) v) = λ v.
    ap (λ x. is_among v (quantified b) || is_among v x) (map-append (λ (g : GateText). g.name) done (g ∷ []))
    ∙ ap (λ t. is_among v (quantified b) || t) (among_more g.name (gate_names_of done) v)
    ∙ or_turned (g.name == v) (is_among v (quantified b)) (is_among v (gate_names_of done)) in (
      record {
        name = names.0;
        fresh = sym (same g.name) ∙ e.1;
        inputs = inputs_are b done known g.inputs same range e.0;
        scopes = scopes g.name (or_left (g.name == g.name) (is_among g.name (gate_names_of rest))
            (eq-eqb g.name g.name refl));
        few = (let one : amount (done ++ g ∷ []) ≡ amount done + length g.inputs + 1 = amount_more done g in
            omega (arith, one, here, all));
      },
      gates_allowed rest b (done ++ g ∷ []) (g.name ∷ known) (λ v. ap (λ t. g.name == v || t) (same v) ∙ sym (more v))
          (λ v h. known_name v (g.name == v) refl (sym (more v) ∙ h)) e.2 names.1
          (λ n h. scopes n (or_right (g.name == n) (is_among n (gate_names_of rest)) h)) all,
    )
  where
    known_name : (v : ℕ) (t : Bool) → (g.name == v) ≡ t → (g.name == v || is_known (gates_at b done b.gate) v) ≡ true
        → IsName v
    known_name v true i h = subst IsName (eqb-true g.name v i) names.0
    known_name v false i h = range v (sym (ap (λ t. t || is_known (gates_at b done b.gate) v) i) ∙ h)

-- one gate more needs no other scope than another
first_last : (q : Quant) (vs ns : List ℕ) (n m : ℕ) → length (joined_last q vs (n ∷ ns)) ≡ length
    (joined_last q vs (m ∷ []))
first_last Exists vs ns n m = refl
first_last Forall vs ns n m = refl

first_scopes : (p : List Scope) (ns : List ℕ) (n m : ℕ) → length (scopes_with p (n ∷ ns)) ≡ length
    (scopes_with p (m ∷ []))
first_scopes [] ns n m = refl
first_scopes (s ∷ []) ns n m = first_last s.quantifier s.variables ns n m
first_scopes (s ∷ t ∷ rest) ns n m = ap suc (first_scopes (t ∷ rest) ns n m)

each_scope : (p : List Scope) (ns : List ℕ) → length (scopes_with p ns) ≤ max_scopes → (n : ℕ) → is_among n ns ≡ true
    → length (scopes_with p (n ∷ [])) ≤ max_scopes
each_scope p [] few n h = cc
each_scope p (m ∷ ns) few n h = subst (λ x. x ≤ max_scopes) (first_scopes p ns m n) few

name_by : (t : Bool) (n : ℕ) (ns : List ℕ) (v : ℕ) → (n == v) ≡ t → IsName n → (is_among v ns ≡ true → IsName v)
    → (t || is_among v ns) ≡ true → IsName v
name_by true n ns v e name rest h = subst IsName (eqb-true n v e) name
name_by false n ns v e name rest h = rest h

name_of : (ns : List ℕ) (v : ℕ) → AllByRecursion IsName ns → is_among v ns ≡ true → IsName v
name_of [] v all h = cc
name_of (n ∷ ns) v all h = name_by (n == v) n ns v refl all.0 (name_of ns v all.1) h

or_cases_of : (a b : Bool) (P : Type 0) → (a || b) ≡ true → (a ≡ true → P) → (b ≡ true → P) → P
or_cases_of true b P h f g = f refl
or_cases_of false b P h f g = g h

body_allowed : (stage : Stage) (f : Front) → IsAllowed stage f → f.vars ≡ [] → AreNext (base_of f) [] f.gates
body_allowed stage f a none =
    let same : (v : ℕ) → is_among v (quantified f) ≡ is_known (gates_at (base_of f) [] no_gate) v =
    λ v. ap (λ vs. is_among v (declared f.sets ++ vs)) none
    ∙ sym (or-false (is_among v (declared f.sets ++ []))) in
    gates_allowed f.gates (base_of f) [] (quantified f) same (λ v h. name_of (quantified f) v a.names (same v ∙ h))
    a.gates a.gate_names (each_scope (scopes_of f.sets) (gate_names_of f.gates) a.gate_scopes) a.few

-- whole statements
body_reached : (stage : Stage) (f : Front) (ts : List Token) → IsAllowed stage f → IsBody f → signs ts ≡ body_signs f
    → IsLined f ts → (is : List Item)
    → outcome_from Between nothing (map word ts ++ is) ≡ outcome_from Body
    (gates_at (base_of f) f.gates (last_gate no_gate f.gates)) is
body_reached stage f ts a b e line is =
    let p : Parts ts (sets_signs f) (output_signs f.output ++ flat_map gate_signs f.gates) = parted (sets_signs f)
    (output_signs f.output ++ flat_map gate_signs f.gates) ts e in
    let q : Parts p.second (output_signs f.output) (flat_map gate_signs f.gates) = parted (output_signs f.output)
    (flat_map gate_signs f.gates) p.second p.back in
    let many : length p.first ≡ length (sets_signs f) = sym (length-map p.first (λ (t : Token). sign_of t.word))
    ∙ ap length p.front in
    let four : length q.first ≡ 4 = sym (length-map q.first (λ (t : Token). sign_of t.word)) ∙ ap length q.front in
    let behind : HasLine 2 p.second f.output.line = line_back p.first p.second (length (sets_signs f)) 2 f.output.line
    many (subst (λ r. HasLine (length (sets_signs f) + 2) r f.output.line) p.whole line) in
    let here : HasLine 2 q.first f.output.line = line_front 2 q.first q.second f.output.line (omega (arith, four))
    (subst (λ r. HasLine 2 r f.output.line) q.whole behind) in
    ap (λ r. outcome_from Between nothing (map word r ++ is)) p.whole ∙ ap (outcome_from Between nothing)
    (join_items p.first p.second is)
    ∙ sets_reached stage f a p.first p.front (map word p.second ++ is)
    ∙ ap (λ r. outcome_from Between (at_sets f.sets (last_quant Exists f.sets)) (map word r ++ is)) q.whole
    ∙ ap (outcome_from Between (at_sets f.sets (last_quant Exists f.sets))) (join_items q.first q.second is)
    ∙ output_run f.sets (last_quant Exists f.sets) f.output q.first b.output q.front here (map word q.second ++ is)
    ∙ gates_run f.gates (base_of f) [] no_gate (body_allowed stage f a b.vars) q.second q.back is

at_body : (f : Front) (read : List Token) → IsAllowed Body f → Spells Body f read → Reached Body f read
at_body f read a s = record {
  front = gates_at (base_of f) f.gates (last_gate no_gate f.gates);
  same = λ quant inputs. record {
    sets = refl;
    quant = refl;
    vars = a.stands.vars;
    output = refl;
    gates = refl;
    inputs =
        refl;
  };
  runs = λ is. body_reached Body f read a a.stands s.signs s.line is;
}

-- a gate that has not ended
next_allowed : (stage : Stage) (f : Front) → IsAllowed stage f → f.vars ≡ [] → IsNextGate f
    → IsNext (base_of f) f.gates f.gate
next_allowed stage f a none g =
    let same : (v : ℕ) → is_known f v ≡ is_known (gates_at (base_of f) f.gates no_gate) v =
    λ v. ap (λ vs. is_among v (declared f.sets ++ vs) || is_among v (gate_names_of f.gates)) none in
    record {
      name = g.name;
      fresh = sym (same f.gate.name) ∙ g.fresh;
      inputs = each f.gate.inputs g.inputs same;
      scopes = g.scopes;
      few = g.few;
    }
  where
    range : (v : ℕ) → is_known f v ≡ true → IsName v
    range v h = or_cases_of (is_among v (quantified f)) (is_among v (gate_names_of f.gates)) (IsName v) h
        (name_of (quantified f) v a.names) (name_of (gate_names_of f.gates) v a.gate_names)

    each : (ns : List ℤ) → AllByRecursion (λ n. (0 < nat_abs n) × (is_known f (nat_abs n) ≡ true)) ns
        → ((v : ℕ) → is_known f v ≡ is_known (gates_at (base_of f) f.gates no_gate) v)
        → AreInputs (gates_at (base_of f) f.gates no_gate) ns
    each [] all same = tt
    each (n ∷ ns) all same = ((range (nat_abs n) all.0.1, sym (same (nat_abs n)) ∙ all.0.1), each ns all.1 same)

-- the words of what has begun behind whole statements
behind_body : (stage : Stage) (f : Front) (read : List Token) (xs : List Sign) (next : Stage) (g : Front)
    → IsAllowed stage f → IsBody f → IsLined f read → signs read ≡ body_signs f ++ xs
    → Runs Body (gates_at (base_of f) f.gates (last_gate no_gate f.gates)) xs next g → (is : List Item)
    → outcome_from Between nothing (map word read ++ is) ≡ outcome_from next g is
behind_body stage f read xs next g a b line e r is =
    let some : length (output_signs f.output) ≡ 4 = refl in
    let p : Parts read (body_signs f) xs = parted (body_signs f) xs read e in
    let many : length p.first ≡ length (body_signs f) = sym (length-map p.first (λ (t : Token). sign_of t.word))
    ∙ ap length p.front in
    let long : length (body_signs f) ≡ length (sets_signs f) + length
    (output_signs f.output ++ flat_map gate_signs f.gates) = length-append (sets_signs f)
    (output_signs f.output ++ flat_map gate_signs f.gates) in
    let out : length (output_signs f.output ++ flat_map gate_signs f.gates) ≡ length (output_signs f.output) + length
    (flat_map gate_signs f.gates) = length-append (output_signs f.output) (flat_map gate_signs f.gates) in
    let here : IsLined f p.first = line_front (length (sets_signs f) + 2) p.first p.second f.output.line
    (omega (arith, many, long, out, some)) (subst (λ r. HasLine (length (sets_signs f) + 2) r f.output.line) p.whole
    line) in
    ap (λ r. outcome_from Between nothing (map word r ++ is)) p.whole ∙ ap (outcome_from Between nothing)
    (join_items p.first p.second is)
    ∙ body_reached stage f p.first a b p.front here (map word p.second ++ is)
    ∙ r p.second p.back is

in_name_reached : (f : Front) (read : List Token) → IsAllowed InName f → Spells InName f read → Reached InName f read
in_name_reached f read a s =
    let n : IsNext (base_of f) f.gates f.gate = next_allowed InName f a a.stands.0.vars a.stands.2 in
    let old : GateText = last_gate no_gate f.gates in
    record {
      front = gates_at (base_of f) f.gates (gate_text f.gate.name old.kind []);
      same = tt;
      runs = λ is. behind_body InName f read (Number (pos f.gate.name) ∷ []) InName
          (gates_at (base_of f) f.gates (gate_text f.gate.name old.kind [])) a a.stands.0 s.line s.signs
          (name_runs (base_of f) f.gates old f.gate.name n.name n.fresh n.scopes (omega (arith, n.few))) is;
    }

in_kind_reached : (f : Front) (read : List Token) → IsAllowed InKind f → Spells InKind f read → Reached InKind f read
in_kind_reached f read a s =
    let n : IsNext (base_of f) f.gates f.gate = next_allowed InKind f a a.stands.0.vars a.stands.2 in
    let old : GateText = last_gate no_gate f.gates in
    let g : Front = gates_at (base_of f) f.gates (gate_text f.gate.name old.kind []) in
    record {
      front = g;
      same = tt;
      runs = λ is. behind_body InKind f read (Number (pos f.gate.name) ∷ Equals ∷ []) InKind g a a.stands.0 s.line
          s.signs
          (runs_on Body InName InKind (gates_at (base_of f) f.gates old) g g (Number (pos f.gate.name) ∷ [])
          (Equals ∷ [])
          (name_runs (base_of f) f.gates old f.gate.name n.name n.fresh n.scopes (omega (arith, n.few)))
          (equals_runs g)) is;
    }

in_gate_reached : (place : Place) (f : Front) (read : List Token) → IsAllowed (InGate place) f
    → Spells (InGate place) f read → Reached (InGate place) f read
in_gate_reached place f read a s =
    let n : IsNext (base_of f) f.gates f.gate = next_allowed (InGate place) f a a.stands.0.vars a.stands.2 in
    let old : GateText = last_gate no_gate f.gates in
    let g : Front = gates_at (base_of f) f.gates (gate_text f.gate.name f.gate.kind f.gate.inputs) in
    record {
      front = g;
      same = λ quant output. record {
        sets = refl;
        quant = refl;
        vars = a.stands.0.vars;
        output = refl;
        gates = refl;
        inputs = refl;
      };
      runs = λ is. behind_body (InGate place) f read
          (Number (pos f.gate.name) ∷ Equals ∷ Kind f.gate.kind ∷ begun place f.gate.inputs) (InGate place) g a
          a.stands.0 s.line s.signs
          (gate_begun place (base_of f) f.gates old f.gate a.stands.1 n) is;
    }

pub reached : (stage : Stage) (f : Front) (read : List Token) → IsAllowed stage f → Spells stage f read
    → Reached stage f read
reached Between f read a s = between_reached f read a s.signs
reached (InSet place) f read a s = in_set_reached place f read a s.signs
reached (InOutput Before) f read a s = in_output_reached Before f read (λ e. cc) (λ e. cc) a s.signs
reached (InOutput Opened) f read a s = in_output_reached Opened f read (λ e. cc) (λ e. cc) a s.signs
reached (InOutput Behind) f read a s = in_output_reached Behind f read (λ e. a.stands.2) (λ e. cc) a s.signs
reached (InOutput Continued) f read a s = absurd a.stands
reached Body f read a s = at_body f read a s
reached InName f read a s = in_name_reached f read a s
reached InKind f read a s = in_kind_reached f read a s
reached (InGate place) f read a s = in_gate_reached place f read a s

-- A text that is something by the grammar is what is computed.
pub reads_computed : (text : List ℕ) (o : Outcome) → Reads text o → outcome_of text ≡ Some o
reads_computed text o r =
    let found : Reached r.stage r.front r.read = reached r.stage r.front r.read r.allowed r.spelled in
    ap (outcome_from Between nothing) r.whole
    ∙ found.runs (r.next ∷ r.rest)
    ∙ ap (λ v. decided v (outcome_from (moved_item r.stage r.next) (noted_item r.stage found.front r.next) r.rest))
    (sym (verdict_same r.stage r.front found.front found.same r.next) ∙ r.decides)

pub one_outcome : (text : List ℕ) (o p : Outcome) → Reads text o → Reads text p → o ≡ p
one_outcome text o p r s = let same : Some o ≡ Some p = sym (reads_computed text o r) ∙ reads_computed text p s in cc
