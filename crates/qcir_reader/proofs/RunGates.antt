-- The computation goes through gates.
use Rattle.std.proofs.Common.{◌≡◌, ◌≢◌, ℕ, ◌+◌, ◌<◌, ◌≤◌, ℤ, pos, nat_abs, Bool, true, false, not, List, [], ◌∷◌, ◌++◌, length, None, refl, sym, ap, subst, arith, length-append}
use Rattle.std.specs.Prelude.{nat_lt, nat_le}
use Rattle.std.specs.List.{AllByRecursion, flat_map}
use Rattle.std.proofs.lemmas.Bool.{le-ltb, lt-leb}
use Rattle.std.proofs.lemmas.List.{append_assoc, append-nil}
use Rattle.reading.specs.declared.refusal.Quantity.TheVariants.{Scopes, Clauses}
use Rattle.qcir.specs.declared.circuit.GateKind.{GateKind}
use Rattle.qcir.specs.Translation.{scopes_with}
use Rattle.qcir_reader.specs.declared.sign.Place.{Place}
use Rattle.qcir_reader.specs.declared.sign.Place.TheVariants.{Before, Opened, Behind, Continued}
use Rattle.qcir_reader.specs.declared.sign.Stage.TheVariants.{Body, InName, InKind, InGate}
use Rattle.qcir_reader.specs.declared.sign.Sign.TheVariants.{Kind, Equals, Opening, Closing, Comma, Number}
use Rattle.qcir_reader.specs.Rules.{Outcome, GateText, Front, first_of, refused, limit, is_known, is_no_name, is_no_variable, amount, scopes_of, name_rules, input_rules}
use Rattle.truth.specs.Limits.{max_scopes, max_clauses}
use Rattle.qcir_reader.specs.Reads.{IsName, IsPlaced, listed_more, gate_signs, begun}
use Rattle.qcir_reader.proofs.Runs.{Runs, runs_none, runs_one, runs_on, runs_to, none_with, name_is}

-- whole gates and one that has not ended, over quantifier statements and an output
abbrev pub gates_at : Front → List GateText → GateText → Front
gates_at b gates g = record b { gates = gates; gate = g }

abbrev pub gate_text : ℕ → GateKind → List ℤ → GateText
gate_text name kind inputs = record { name = name; kind = kind; inputs = inputs }

-- no rule refuses an input
input_silent : (f : Front) (n : ℤ) → IsName (nat_abs n) → is_known f (nat_abs n) ≡ true
    → amount f.gates + length f.gate.inputs + 1 < max_clauses → (line : ℕ) → first_of (input_rules f n line) ≡ None
input_silent f n name known few line =
    none_with (is_no_name n) (refused 71 line)
    ((not (is_known f (nat_abs n)), refused 74 line) ∷
    (nat_le max_clauses (amount f.gates + length f.gate.inputs + 1), limit Clauses line) ∷ []) (name_is n name)
    (none_with (not (is_known f (nat_abs n))) (refused 74 line)
    ((nat_le max_clauses (amount f.gates + length f.gate.inputs + 1), limit Clauses line) ∷ []) (ap not known)
    (none_with (nat_le max_clauses (amount f.gates + length f.gate.inputs + 1)) (limit Clauses line) []
    (lt-leb max_clauses (amount f.gates + length f.gate.inputs + 1) few) refl))

-- no rule refuses a name
name_silent : (f : Front) (v : ℕ) → IsName v → is_known f v ≡ false → length (scopes_with (scopes_of f.sets) (v ∷ [])) ≤
    max_scopes → amount f.gates < max_clauses → (line : ℕ) → first_of (name_rules f (pos v) line) ≡ None
name_silent f v name fresh scopes few line =
    let last : List (Bool × Outcome) = (nat_le max_clauses (amount f.gates), limit Clauses line) ∷ [] in
    let third : List (Bool × Outcome) = (
      nat_lt max_scopes (length (scopes_with (scopes_of f.sets) (v ∷ []))),
      limit Scopes line,
    ) ∷ last in
    none_with (is_no_variable (pos v)) (refused 71 line) ((is_known f v, refused 73 line) ∷ third)
    (name_is (pos v) name)
    (none_with (is_known f v) (refused 73 line) third fresh
    (none_with (nat_lt max_scopes (length (scopes_with (scopes_of f.sets) (v ∷ [])))) (limit Scopes line) last
    (le-ltb max_scopes (length (scopes_with (scopes_of f.sets) (v ∷ []))) scopes)
    (none_with (nat_le max_clauses (amount f.gates)) (limit Clauses line) [] (lt-leb max_clauses (amount f.gates) few)
    refl)))

-- what the inputs of a gate keep to
abbrev pub AreInputs : Front → List ℤ → Type 0
AreInputs f ns = AllByRecursion (λ n. IsName (nat_abs n) × (is_known f (nat_abs n) ≡ true)) ns

input_runs : (place : Place) (b : Front) (gates : List GateText) (name : ℕ) (kind : GateKind) (us : List ℤ) (n : ℤ)
    → IsName (nat_abs n) → is_known (gates_at b gates b.gate) (nat_abs n) ≡ true → amount gates + length us + 1 <
    max_clauses
    → Runs (InGate Opened) (gates_at b gates (gate_text name kind us)) (Number n ∷ []) (InGate Behind)
    (gates_at b gates (gate_text name kind (us ++ n ∷ [])))
    × Runs (InGate Continued) (gates_at b gates (gate_text name kind us)) (Number n ∷ []) (InGate Behind)
    (gates_at b gates (gate_text name kind (us ++ n ∷ [])))
input_runs place b gates name kind us n is known few = (
  runs_one (InGate Opened) (gates_at b gates (gate_text name kind us)) (Number n) (InGate Behind)
      (gates_at b gates (gate_text name kind (us ++ n ∷ [])))
      (λ line. input_silent (gates_at b gates (gate_text name kind us)) n is known few line) refl (λ line. refl),
  runs_one (InGate Continued) (gates_at b gates (gate_text name kind us)) (Number n) (InGate Behind)
      (gates_at b gates (gate_text name kind (us ++ n ∷ [])))
      (λ line. input_silent (gates_at b gates (gate_text name kind us)) n is known few line) refl (λ line. refl),
)

comma_runs : (f : Front) → Runs (InGate Behind) f (Comma ∷ []) (InGate Continued) f
comma_runs f = runs_one (InGate Behind) f Comma (InGate Continued) f (λ line. refl) refl (λ line. refl)

more_runs : (ns : List ℤ) (b : Front) (gates : List GateText) (name : ℕ) (kind : GateKind) (us : List ℤ)
    → AreInputs (gates_at b gates b.gate) ns → amount gates + length (us ++ ns) + 1 ≤ max_clauses
    → Runs (InGate Behind) (gates_at b gates (gate_text name kind us)) (listed_more ns) (InGate Behind)
    (gates_at b gates (gate_text name kind (us ++ ns)))
more_runs [] b gates name kind us all few =
    runs_to (InGate Behind) (InGate Behind) (gates_at b gates (gate_text name kind us))
    (gates_at b gates (gate_text name kind us)) (gates_at b gates (gate_text name kind (us ++ []))) []
    (ap (λ x. gates_at b gates (gate_text name kind x)) (sym (append-nil us)))
    (runs_none (InGate Behind) (gates_at b gates (gate_text name kind us)))
more_runs (n ∷ ns) b gates name kind us all few =
    let longer : (us ++ n ∷ []) ++ ns ≡ us ++ n ∷ ns = append_assoc us (n ∷ []) ns in
    let low : amount gates + length us + 1 < max_clauses = omega (arith, few, length-append us (n ∷ ns)) in
    let same : amount gates + length ((us ++ n ∷ []) ++ ns) + 1 ≤ max_clauses =
    subst (λ x. amount gates + length x + 1 ≤ max_clauses) (sym longer) few in
    let start : Front = gates_at b gates (gate_text name kind us) in
    let mid : Front = gates_at b gates (gate_text name kind (us ++ n ∷ [])) in
    let end : Front = gates_at b gates (gate_text name kind ((us ++ n ∷ []) ++ ns)) in
    runs_to (InGate Behind) (InGate Behind) start end (gates_at b gates (gate_text name kind (us ++ n ∷ ns)))
    (Comma ∷ Number n ∷ listed_more ns) (ap (λ x. gates_at b gates (gate_text name kind x)) longer)
    (runs_on (InGate Behind) (InGate Continued) (InGate Behind) start start end (Comma ∷ []) (Number n ∷ listed_more ns)
    (comma_runs start)
    (runs_on (InGate Continued) (InGate Behind) (InGate Behind) start mid end (Number n ∷ []) (listed_more ns)
    (input_runs Continued b gates name kind us n all.0.0 all.0.1 low).1
    (more_runs ns b gates name kind (us ++ n ∷ []) all.1 same)))

-- the beginning of a gate
pub name_runs : (b : Front) (gates : List GateText) (g : GateText) (name : ℕ) → IsName name
    → is_known (gates_at b gates g) name ≡ false → length (scopes_with (scopes_of b.sets) (name ∷ [])) ≤ max_scopes
    → amount gates < max_clauses
    → Runs Body (gates_at b gates g) (Number (pos name) ∷ []) InName (gates_at b gates (gate_text name g.kind []))
name_runs b gates g name is fresh scopes few = runs_one Body (gates_at b gates g) (Number (pos name)) InName
    (gates_at b gates (gate_text name g.kind []))
    (λ line. name_silent (gates_at b gates g) name is fresh scopes few line) refl (λ line. refl)

pub equals_runs : (f : Front) → Runs InName f (Equals ∷ []) InKind f
equals_runs f = runs_one InName f Equals InKind f (λ line. refl) refl (λ line. refl)

pub kind_runs : (b : Front) (gates : List GateText) (name : ℕ) (old kind : GateKind) (inputs : List ℤ)
    → Runs InKind (gates_at b gates (gate_text name old inputs)) (Kind kind ∷ []) (InGate Before)
    (gates_at b gates (gate_text name kind inputs))
kind_runs b gates name old kind inputs = runs_one InKind (gates_at b gates (gate_text name old inputs)) (Kind kind)
    (InGate Before) (gates_at b gates (gate_text name kind inputs)) (λ line. refl) refl (λ line. refl)

open_runs : (f : Front) → Runs (InGate Before) f (Opening ∷ []) (InGate Opened) f
open_runs f = runs_one (InGate Before) f Opening (InGate Opened) f (λ line. refl) refl (λ line. refl)

-- what the next gate keeps to
pub record IsNext (b : Front) (gates : List GateText) (g : GateText) : Type 0 where
  pub name : IsName g.name
  pub fresh : is_known (gates_at b gates b.gate) g.name ≡ false
  pub inputs : AreInputs (gates_at b gates b.gate) g.inputs
  pub scopes : length (scopes_with (scopes_of b.sets) (g.name ∷ [])) ≤ max_scopes
  pub few : amount gates + length g.inputs + 1 ≤ max_clauses

-- its name, `=` and kind
pub head_runs : (b : Front) (gates : List GateText) (old g : GateText) → IsNext b gates g
    → Runs Body (gates_at b gates old) (Number (pos g.name) ∷ Equals ∷ Kind g.kind ∷ []) (InGate Before)
    (gates_at b gates (gate_text g.name g.kind []))
head_runs b gates old g a =
    let low : amount gates < max_clauses = omega (arith, a.few) in
    runs_on Body InName (InGate Before) (gates_at b gates old) (gates_at b gates (gate_text g.name old.kind []))
    (gates_at b gates (gate_text g.name g.kind [])) (Number (pos g.name) ∷ []) (Equals ∷ Kind g.kind ∷ [])
    (name_runs b gates old g.name a.name a.fresh a.scopes low)
    (runs_on InName InKind (InGate Before) (gates_at b gates (gate_text g.name old.kind []))
    (gates_at b gates (gate_text g.name old.kind [])) (gates_at b gates (gate_text g.name g.kind [])) (Equals ∷ [])
    (Kind g.kind ∷ []) (equals_runs (gates_at b gates (gate_text g.name old.kind [])))
    (kind_runs b gates g.name old.kind g.kind []))

-- a list behind a number
some_runs : (b : Front) (gates : List GateText) (g : GateText) (ns : List ℤ) → ns ≢ []
    → AreInputs (gates_at b gates b.gate) ns → amount gates + length ns + 1 ≤ max_clauses → Runs (InGate Before)
    (gates_at b gates (gate_text g.name g.kind [])) (begun Behind ns) (InGate Behind)
    (gates_at b gates (gate_text g.name g.kind ns))
some_runs b gates g [] some all few = absurd (some refl)
some_runs b gates g (n ∷ ns) some all few =
    let low : amount gates + 0 + 1 < max_clauses = omega (arith, few) in
    runs_on (InGate Before) (InGate Opened) (InGate Behind) (gates_at b gates (gate_text g.name g.kind []))
    (gates_at b gates (gate_text g.name g.kind [])) (gates_at b gates (gate_text g.name g.kind (n ∷ ns)))
    (Opening ∷ []) (Number n ∷ listed_more ns) (open_runs (gates_at b gates (gate_text g.name g.kind [])))
    (runs_on (InGate Opened) (InGate Behind) (InGate Behind) (gates_at b gates (gate_text g.name g.kind []))
    (gates_at b gates (gate_text g.name g.kind (n ∷ []))) (gates_at b gates (gate_text g.name g.kind (n ∷ ns)))
    (Number n ∷ []) (listed_more ns) (input_runs Opened b gates g.name g.kind [] n all.0.0 all.0.1 low).0
    (more_runs ns b gates g.name g.kind (n ∷ []) all.1 few))

behind_runs : (b : Front) (gates : List GateText) (g : GateText) → g.inputs ≢ [] → IsNext b gates g
    → Runs (InGate Before) (gates_at b gates (gate_text g.name g.kind [])) (begun Behind g.inputs) (InGate Behind)
    (gates_at b gates (gate_text g.name g.kind g.inputs))
behind_runs b gates g e a = some_runs b gates g g.inputs e a.inputs a.few

-- its list, which has not ended
list_runs : (place : Place) (b : Front) (gates : List GateText) (g : GateText) → IsPlaced place g.inputs
    → IsNext b gates g
    → Runs (InGate Before) (gates_at b gates (gate_text g.name g.kind [])) (begun place g.inputs) (InGate place)
    (gates_at b gates (gate_text g.name g.kind g.inputs))
list_runs Before b gates g e a = subst (λ x. Runs (InGate Before) (gates_at b gates (gate_text g.name g.kind [])) []
    (InGate Before) (gates_at b gates (gate_text g.name g.kind x))) (sym e)
    (runs_none (InGate Before) (gates_at b gates (gate_text g.name g.kind [])))
list_runs Opened b gates g e a = subst (λ x. Runs (InGate Before) (gates_at b gates (gate_text g.name g.kind []))
    (Opening ∷ []) (InGate Opened) (gates_at b gates (gate_text g.name g.kind x))) (sym e)
    (open_runs (gates_at b gates (gate_text g.name g.kind [])))
list_runs Behind b gates g e a = behind_runs b gates g e a
list_runs Continued b gates g e a =
    runs_on (InGate Before) (InGate Behind) (InGate Continued) (gates_at b gates (gate_text g.name g.kind []))
    (gates_at b gates (gate_text g.name g.kind g.inputs)) (gates_at b gates (gate_text g.name g.kind g.inputs))
    (begun Behind g.inputs) (Comma ∷ []) (behind_runs b gates g e a)
    (comma_runs (gates_at b gates (gate_text g.name g.kind g.inputs)))

pub begun_runs : (place : Place) (b : Front) (gates : List GateText) (old g : GateText) → IsPlaced place g.inputs
    → IsNext b gates g
    → Runs Body (gates_at b gates old) (Number (pos g.name) ∷ Equals ∷ Kind g.kind ∷ begun place g.inputs)
    (InGate place) (gates_at b gates (gate_text g.name g.kind g.inputs))
begun_runs place b gates old g e a =
    runs_on Body (InGate Before) (InGate place) (gates_at b gates old) (gates_at b gates (gate_text g.name g.kind []))
    (gates_at b gates (gate_text g.name g.kind g.inputs)) (Number (pos g.name) ∷ Equals ∷ Kind g.kind ∷ [])
    (begun place g.inputs) (head_runs b gates old g a) (list_runs place b gates g e a)

-- a whole gate
close_runs : (b : Front) (gates : List GateText) (name : ℕ) (kind : GateKind) (inputs : List ℤ) → Runs (InGate Opened)
    (gates_at b gates (gate_text name kind inputs)) (Closing ∷ []) Body
    (gates_at b (gates ++ gate_text name kind inputs ∷ []) (gate_text name kind []))
    × Runs (InGate Behind) (gates_at b gates (gate_text name kind inputs)) (Closing ∷ []) Body
    (gates_at b (gates ++ gate_text name kind inputs ∷ []) (gate_text name kind []))
close_runs b gates name kind inputs = (
  runs_one (InGate Opened) (gates_at b gates (gate_text name kind inputs)) Closing Body
      (gates_at b (gates ++ gate_text name kind inputs ∷ []) (gate_text name kind [])) (λ line. refl) refl
      (λ line. refl),
  runs_one (InGate Behind) (gates_at b gates (gate_text name kind inputs)) Closing Body
      (gates_at b (gates ++ gate_text name kind inputs ∷ []) (gate_text name kind [])) (λ line. refl) refl
      (λ line. refl),
)

gate_runs : (b : Front) (gates : List GateText) (old : GateText) (name : ℕ) (kind : GateKind) (inputs : List ℤ)
    → IsNext b gates (gate_text name kind inputs)
    → Runs Body (gates_at b gates old) (gate_signs (gate_text name kind inputs)) Body
    (gates_at b (gates ++ gate_text name kind inputs ∷ []) (gate_text name kind []))
gate_runs b gates old name kind [] a =
    runs_on Body (InGate Opened) Body (gates_at b gates old) (gates_at b gates (gate_text name kind []))
    (gates_at b (gates ++ gate_text name kind [] ∷ []) (gate_text name kind []))
    (Number (pos name) ∷ Equals ∷ Kind kind ∷ Opening ∷ []) (Closing ∷ [])
    (begun_runs Opened b gates old (gate_text name kind []) refl a) (close_runs b gates name kind []).0
gate_runs b gates old name kind (n ∷ ns) a =
    runs_on Body (InGate Behind) Body (gates_at b gates old) (gates_at b gates (gate_text name kind (n ∷ ns)))
    (gates_at b (gates ++ gate_text name kind (n ∷ ns) ∷ []) (gate_text name kind []))
    (Number (pos name) ∷ Equals ∷ Kind kind ∷ begun Behind (n ∷ ns)) (Closing ∷ [])
    (begun_runs Behind b gates old (gate_text name kind (n ∷ ns)) (λ e. let no_list : n ∷ ns ≡ [] = e in cc) a)
    (close_runs b gates name kind (n ∷ ns)).1

-- what gates behind others keep to
abbrev pub AreNext : Front → List GateText → List GateText → Type 0
AreNext b done [] = Unit {0}
AreNext b done (g ∷ gates) = IsNext b done g × AreNext b (done ++ g ∷ []) gates

-- the gate that is read last
abbrev pub last_gate : GateText → List GateText → GateText
last_gate old [] = old
last_gate old (g ∷ gates) = last_gate (gate_text g.name g.kind []) gates

pub gates_run : (rest : List GateText) (b : Front) (done : List GateText) (old : GateText) → AreNext b done rest
    → Runs Body (gates_at b done old) (flat_map gate_signs rest) Body (gates_at b (done ++ rest) (last_gate old rest))
gates_run [] b done old a = runs_to Body Body (gates_at b done old) (gates_at b done old) (gates_at b (done ++ []) old)
    [] (ap (λ x. gates_at b x old) (sym (append-nil done))) (runs_none Body (gates_at b done old))
gates_run (g ∷ rest) b done old a =
    let longer : (done ++ g ∷ []) ++ rest ≡ done ++ g ∷ rest = append_assoc done (g ∷ []) rest in
    runs_to Body Body (gates_at b done old)
    (gates_at b ((done ++ g ∷ []) ++ rest) (last_gate (gate_text g.name g.kind []) rest))
    (gates_at b (done ++ g ∷ rest) (last_gate (gate_text g.name g.kind []) rest)) (flat_map gate_signs (g ∷ rest))
    (ap (λ x. gates_at b x (last_gate (gate_text g.name g.kind []) rest)) longer)
    (runs_on Body Body Body (gates_at b done old) (gates_at b (done ++ g ∷ []) (gate_text g.name g.kind []))
    (gates_at b ((done ++ g ∷ []) ++ rest) (last_gate (gate_text g.name g.kind []) rest)) (gate_signs g)
    (flat_map gate_signs rest)
    (gate_runs b done old g.name g.kind g.inputs a.0)
    (gates_run rest b (done ++ g ∷ []) (gate_text g.name g.kind []) a.1))
