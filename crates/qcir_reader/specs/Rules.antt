-- The rules of the text: what refuses each word behind what has been read, and what the end means. The numbers of the
-- refusals, their order and the limits are own.
use Rattle.std.specs.Prelude.{ℕ, ◌+◌, ℤ, pos, negsuc, nat_abs, Bool, true, false, not, ◌||◌, ◌==◌, nat_lt, nat_le, if◌then◌else◌, List, [], ◌∷◌, ◌++◌, length, map, Option, Some, None, is_none}
use Rattle.std.specs.List.{flat_map}
use Rattle.lexer.specs.Words.{Item, word, bad_byte, number_range, too_long, the_end}
use Rattle.prefix.specs.declared.quant.Quant.{Quant}
use Rattle.prefix.specs.Literal.{Literal}
use Rattle.prefix.specs.Scopes.{Scope, is_among}
use Rattle.reading.specs.declared.refusal.Quantity.{Quantity}
use Rattle.reading.specs.declared.refusal.Quantity.TheVariants.{Scopes, Clauses, Bytes}
use Rattle.qdimacs.specs.Formula.{QuantSet, merged, declared, in_order}
use Rattle.qcir.specs.declared.circuit.Circuit.{Circuit}
use Rattle.qcir.specs.declared.circuit.Gate.{Gate}
use Rattle.qcir.specs.declared.circuit.GateKind.{GateKind}
use Rattle.qcir.specs.Translation.{scopes_with}
use Rattle.qcir_reader.specs.declared.sign.Stage.{Stage}
use Rattle.qcir_reader.specs.declared.sign.Stage.TheVariants.{InSet, InOutput, Body, InKind, InGate}
use Rattle.qcir_reader.specs.declared.sign.Sign.{Sign}
use Rattle.qcir_reader.specs.declared.sign.Sign.TheVariants.{Quantifier, Number, LeftOut}
use Rattle.qcir_reader.specs.Grammar.{allows, sign_of}
use Rattle.truth.specs.Limits.{max_scopes, max_clauses}

-- what a text is
pub data Outcome : Type 0 where
  parsed : Circuit → Outcome
  refused : ℕ → ℕ → Outcome
  limit : Quantity → ℕ → Outcome

-- a gate as it was read
pub record GateText : Type 0 where
  pub name : ℕ
  pub kind : GateKind
  pub inputs : List ℤ

-- the output as it was read, with the line of its literal
pub record OutputText : Type 0 where
  pub literal : ℤ
  pub line : ℕ

-- What has been read: the whole quantifier statements, and the quantifier and the variables of one that has not ended;
-- the output; the whole gates, and one that has not ended.
pub record Front : Type 0 where
  pub sets : List QuantSet
  pub quant : Quant
  pub vars : List ℕ
  pub output : OutputText
  pub gates : List GateText
  pub gate : GateText

abbrev pub max_name : ℕ
max_name = 1048576

-- of several rules the first that refuses
abbrev pub first_of : List (Bool × Outcome) → Option Outcome
first_of [] = None
first_of (rule ∷ rules) = if rule.0 then Some rule.1 else first_of rules

-- a literal's number names no variable
abbrev pub is_no_name : ℤ → Bool
is_no_name n = (nat_abs n == 0) || nat_lt max_name (nat_abs n)

-- a number is no variable: 0, negative or too great
abbrev pub is_no_variable : ℤ → Bool
is_no_variable (pos n) = is_no_name (pos n)
is_no_variable (negsuc n) = true

abbrev pub gate_names_of : List GateText → List ℕ
gate_names_of gates = map (λ (g : GateText). g.name) gates

-- what is quantified
abbrev pub quantified : Front → List ℕ
quantified f = declared f.sets ++ f.vars

-- whether a variable is quantified or defined
abbrev pub is_known : Front → ℕ → Bool
is_known f v = is_among v (quantified f) || is_among v (gate_names_of f.gates)

-- how many clauses gates make at most: one for each input, one for each gate, and the output's
abbrev pub amount : List GateText → ℕ
amount gates = length (flat_map (λ (g : GateText). g.inputs) gates) + length gates + 1

-- the scopes of quantifier statements: empty ones are left out, neighbours of one quantifier are one, and variables
-- ascend
abbrev pub scopes_of : List QuantSet → List Scope
scopes_of sets = map in_order (merged sets)

-- a number in a quantifier list
abbrev pub variable_rules : Front → ℤ → ℕ → List (Bool × Outcome)
variable_rules f n line =
    (is_no_variable n, refused 71 line)
    ∷ (is_known f (nat_abs n), refused 73 line)
    ∷ (nat_lt max_scopes (length (merged (f.sets ++ (f.quant, f.vars ++ nat_abs n ∷ []) ∷ []))), limit Scopes line)
    ∷ []

-- the number of the output, whose name may come later
abbrev pub output_rules : ℤ → ℕ → List (Bool × Outcome)
output_rules n line = (is_no_name n, refused 71 line) ∷ []

-- a number before `=`; the gates' scope counts
abbrev pub name_rules : Front → ℤ → ℕ → List (Bool × Outcome)
name_rules f n line =
    (is_no_variable n, refused 71 line)
    ∷ (is_known f (nat_abs n), refused 73 line)
    ∷ (nat_lt max_scopes (length (scopes_with (scopes_of f.sets) (nat_abs n ∷ []))), limit Scopes line)
    ∷ (nat_le max_clauses (amount f.gates), limit Clauses line)
    ∷ []

-- a number among a gate's inputs
abbrev pub input_rules : Front → ℤ → ℕ → List (Bool × Outcome)
input_rules f n line =
    (is_no_name n, refused 71 line)
    ∷ (not (is_known f (nat_abs n)), refused 74 line)
    ∷ (nat_le max_clauses (amount f.gates + length f.gate.inputs + 1), limit Clauses line)
    ∷ []

-- what refuses a word that the grammar allows
abbrev pub number_rules : Stage → Front → Sign → ℕ → List (Bool × Outcome)
number_rules (InSet place) f (Number n) line = variable_rules f n line
number_rules (InOutput place) f (Number n) line = output_rules n line
number_rules Body f (Number n) line = name_rules f n line
number_rules (InGate place) f (Number n) line = input_rules f n line
number_rules stage f sign line = []

-- words of the format that are left out: xor, ite and free at any place, and quantifiers behind `=`
abbrev pub is_unsupported : Stage → Sign → Bool
is_unsupported stage LeftOut = true
is_unsupported InKind (Quantifier q) = true
is_unsupported stage sign = false

-- what refuses a word behind what has been read
abbrev pub word_rules : Stage → Front → Sign → ℕ → List (Bool × Outcome)
word_rules stage f s line =
    (is_unsupported stage s, refused 72 line)
    ∷ (is_none (allows stage s), refused 70 line)
    ∷ number_rules stage f s line

-- the literal of a number
abbrev pub literal_of : ℤ → Literal
literal_of (pos n) = record { variable = n; positive = true }
literal_of (negsuc n) = record { variable = n + 1; positive = false }

abbrev pub gate_of : GateText → Gate
gate_of g = record { var = g.name; kind = g.kind; inputs = map literal_of g.inputs }

-- the circuit of whole statements
abbrev pub circuit_of : List QuantSet → OutputText → List GateText → Circuit
circuit_of sets output gates = record {
  prefix = scopes_of sets;
  gates = map gate_of gates;
  output = literal_of output.literal;
}

-- what the end means behind what has been read
abbrev pub end_rules : Stage → Front → ℕ → List (Bool × Outcome)
end_rules Body f line =
    (not (is_known f (nat_abs f.output.literal)), refused 74 f.output.line)
    ∷ (true, parsed (circuit_of f.sets f.output f.gates))
    ∷ []
end_rules stage f line = (true, refused 70 line) ∷ []

-- what an item decides behind what has been read, if it does
abbrev pub verdict : Stage → Front → Item → Option Outcome
verdict stage f (word t) = first_of (word_rules stage f (sign_of t.word) t.line)
verdict stage f (bad_byte line) = Some (refused 7 line)
verdict stage f (number_range line) = Some (refused 8 line)
verdict stage f (too_long line) = Some (limit Bytes line)
verdict stage f (the_end line) = first_of (end_rules stage f line)
