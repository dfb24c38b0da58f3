-- Worked values: what small texts are.
use Rattle.std.specs.Prelude.{◌≡◌, ℕ, true, false, ◌==◌, if◌then◌else◌, List, [], ◌∷◌, map, codes, Option, Some}
use Rattle.prefix.specs.declared.quant.Quant.{Quant}
use Rattle.prefix.specs.declared.quant.Quant.TheVariants.{Exists, Forall}
use Rattle.prefix.specs.Literal.{Literal}
use Rattle.prefix.specs.Scopes.{Scope}
use Rattle.qcir.specs.declared.circuit.Gate.{Gate}
use Rattle.qcir.specs.declared.circuit.GateKind.{GateKind}
use Rattle.qcir.specs.declared.circuit.GateKind.TheVariants.{And, Or}
use Rattle.qcir_reader.specs.Rules.{Outcome, parsed, refused}
use Rattle.qcir_reader.specs.Run.{outcome_of}

-- a text in which a stroke stands for each line end
abbrev pub text : List ℕ → List ℕ
text bytes = map (λ b. if b == 47 then 10 else b) bytes

abbrev pub yes_ : ℕ → Literal
yes_ v = record { variable = v; positive = true }

abbrev pub no_ : ℕ → Literal
no_ v = record { variable = v; positive = false }

abbrev pub scope : Quant → List ℕ → Scope
scope q vs = record { quantifier = q; variables = vs }

abbrev pub gate : ℕ → GateKind → List Literal → Gate
gate v kind inputs = record { var = v; kind = kind; inputs = inputs }

abbrev pub circuit : List Scope → List Gate → Literal → Option Outcome
circuit scopes gates output = Some (parsed (record { prefix = scopes; gates = gates; output = output }))

abbrev pub is : List ℕ → Option Outcome → Type 0
is bytes outcome = outcome_of (text bytes) ≡ outcome

abbrev pub refuses : List ℕ → ℕ → ℕ → Type 0
refuses bytes number line = is bytes (Some (refused number line))

pub record WorkedReadings : Type 0 where
  -- a circuit with a comment in front, gates behind the output, and negations
  pub whole : is (codes "#QCIR-14/forall(7)/exists(3)/output(-9)/12 = and(7, 3)/5=and(-7,-3)#x)/9 = or(12, 5)/")
      (circuit (scope Forall (7 ∷ []) ∷ scope Exists (3 ∷ []) ∷ [])
      (gate 12 And (yes_ 7 ∷ yes_ 3 ∷ []) ∷ gate 5 And (no_ 7 ∷ no_ 3 ∷ []) ∷ gate 9 Or (yes_ 12 ∷ yes_ 5 ∷ []) ∷ [])
      (no_ 9))
  -- neighbours of one quantifier are one scope, empty statements none, and variables ascend
  pub merged : is (codes "exists(4)exists()forall()exists(2/,3)forall(1)output(2)")
      (circuit (scope Exists (2 ∷ 3 ∷ 4 ∷ []) ∷ scope Forall (1 ∷ []) ∷ []) [] (yes_ 2))
  -- no gate, and gates without inputs
  pub alone : is (codes "exists(1)/output(1)") (circuit (scope Exists (1 ∷ []) ∷ []) [] (yes_ 1))
  pub constant : is (codes "output(2)/2 = or()/3 = and()") (circuit [] (gate 2 Or [] ∷ gate 3 And [] ∷ []) (yes_ 2))
  -- 70: what the grammar doesn't allow
  pub nothing : refuses [] 70 1
  pub cut : refuses (codes "exists(1)/output(1") 70 2
  pub no_output : refuses (codes "exists(1)/2 = and(1)/") 70 2
  pub two_outputs : refuses (codes "exists(1)/output(1)/output(1)/") 70 3
  pub late_set : refuses (codes "exists(1)/output(1)/forall(2)/") 70 3
  pub comma_first : refuses (codes "exists(,1)") 70 1
  pub comma_last : refuses (codes "exists(1,)") 70 1
  pub empty_output : refuses (codes "exists(1)/output()") 70 2
  pub a_word : refuses (codes "exists(x)") 70 1
  pub another_kind : refuses (codes "output(1)/2 = nand()") 70 2
  -- 71: what is no name
  pub zero_name : refuses (codes "exists(0)") 71 1
  pub negative : refuses (codes "forall(1)/exists(-2)") 71 2
  pub greatest : is (codes "exists(1048576)output(-1048576)")
      (circuit (scope Exists (1048576 ∷ []) ∷ []) [] (no_ 1048576))
  pub too_great : refuses (codes "exists(1048577)") 71 1
  pub zero_output : refuses (codes "output(0)") 71 1
  pub negative_gate : refuses (codes "output(1)/-2 = and()") 71 2
  pub zero_input : refuses (codes "output(2)/2 = and(0)") 71 2
  -- 72: what is left out
  pub xor : refuses (codes "exists(1)/output(3)/2 = xor(1, 1)") 72 3
  pub ite : refuses (codes "ite") 72 1
  pub free : refuses (codes "free(1)/output(1)") 72 1
  pub quantified_gate : refuses (codes "exists(1)/output(3)/3 = exists(2; 1)") 72 3
  -- 73: what is there already
  pub twice : refuses (codes "exists(1, 1)") 73 1
  pub twice_over : refuses (codes "exists(1)/forall(2)/exists(3,/1)") 73 4
  pub gate_twice : refuses (codes "output(2)/2 = and()/2 = or()") 73 3
  pub gate_of_quantified : refuses (codes "forall(2)/output(2)/2 = or()") 73 3
  -- 74: what isn't known yet
  pub unknown_output : refuses (codes "exists(1)/output(3)/2 = and(1)") 74 2
  pub unknown_input : refuses (codes "output(2)/2 = and(3)/3 = or()") 74 2
  pub of_itself : refuses (codes "output(2)/2 = and(2)") 74 2
  -- which of two rules comes first
  pub no_name_first : refuses (codes "output(2)/2 = and(1048577)") 71 2
  pub number_first : refuses (codes "exists(9223372036854775808)") 8 1
  pub output_last : refuses (codes "output(3)/2 = and(") 70 2
