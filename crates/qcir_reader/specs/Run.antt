-- What a text is, computed word by word.
use Rattle.std.specs.Prelude.{ℕ, ℤ, pos, nat_abs, List, [], ◌∷◌, ◌++◌, Option, Some, None, unwrap_or}
use Rattle.lexer.specs.declared.token.Comments.TheVariants.{Hash}
use Rattle.lexer.specs.Words.{Item, word, items}
use Rattle.prefix.specs.declared.quant.Quant.TheVariants.{Exists}
use Rattle.qcir.specs.declared.circuit.GateKind.TheVariants.{And}
use Rattle.qcir.specs.declared.circuit.GateKind.{GateKind}
use Rattle.qcir_reader.specs.declared.sign.Stage.{Stage}
use Rattle.qcir_reader.specs.declared.sign.Stage.TheVariants.{Between, InSet, InOutput, Body, InKind, InGate}
use Rattle.qcir_reader.specs.declared.sign.Sign.{Sign}
use Rattle.qcir_reader.specs.declared.sign.Sign.TheVariants.{Quantifier, Kind, Closing, Number}
use Rattle.qcir_reader.specs.Grammar.{allows, sign_of}
use Rattle.qcir_reader.specs.Rules.{Outcome, Front, GateText, verdict}

-- no gate has begun
abbrev pub no_gate : GateText
no_gate = record { name = 1; kind = And; inputs = [] }

-- nothing has been read
abbrev pub nothing : Front
nothing = record {
  sets = [];
  quant = Exists;
  vars = [];
  output = record { literal = pos 0; line = 0 };
  gates = [];
  gate = no_gate;
}

-- one more variable of a quantifier list, and one more input of a gate
abbrev pub with_variable : Front → ℤ → Front
with_variable f n = record f { vars = f.vars ++ nat_abs n ∷ [] }

abbrev pub with_input : Front → ℤ → Front
with_input f n =
    record f { gate = record { name = f.gate.name; kind = f.gate.kind; inputs = f.gate.inputs ++ n ∷ [] } }

-- a gate that begins, and what it makes of its inputs
abbrev pub with_name : Front → ℤ → Front
with_name f n = record f { gate = record { name = nat_abs n; kind = f.gate.kind; inputs = [] } }

abbrev pub with_kind : Front → GateKind → Front
with_kind f kind = record f { gate = record { name = f.gate.name; kind = kind; inputs = f.gate.inputs } }

-- a quantifier list that ends, and a gate
abbrev pub with_set : Front → Front
with_set f = record f { sets = f.sets ++ (f.quant, f.vars) ∷ []; vars = [] }

abbrev pub with_gate : Front → Front
with_gate f = record f {
  gates = f.gates ++ f.gate ∷ [];
  gate = record { name = f.gate.name; kind = f.gate.kind; inputs = [] };
}

abbrev pub with_output : Front → ℤ → ℕ → Front
with_output f n line = record f { output = record { literal = n; line = line } }

-- what has been read with one more word that no rule refuses
abbrev pub noted : Stage → Front → Sign → ℕ → Front
noted Between f (Quantifier q) line = record f { quant = q }
noted (InSet place) f (Number n) line = with_variable f n
noted (InSet place) f Closing line = with_set f
noted (InOutput place) f (Number n) line = with_output f n line
noted Body f (Number n) line = with_name f n
noted InKind f (Kind kind) line = with_kind f kind
noted (InGate place) f (Number n) line = with_input f n
noted (InGate place) f Closing line = with_gate f
noted stage f sign line = f

abbrev pub noted_item : Stage → Front → Item → Front
noted_item stage f (word t) = noted stage f (sign_of t.word) t.line
noted_item stage f item = f

-- and how far
abbrev pub moved : Stage → Sign → Stage
moved stage s = unwrap_or (allows stage s) stage

abbrev pub moved_item : Stage → Item → Stage
moved_item stage (word t) = moved stage (sign_of t.word)
moved_item stage item = stage

-- the outcome that is decided, or else that of the rest
abbrev pub decided : Option Outcome → Option Outcome → Option Outcome
decided (Some outcome) rest = Some outcome
decided None rest = rest

abbrev pub outcome_from : Stage → Front → List Item → Option Outcome
outcome_from stage f [] = None
outcome_from stage f (item ∷ rest) =
    decided (verdict stage f item) (outcome_from (moved_item stage item) (noted_item stage f item) rest)

-- What a text of these bytes is. The last of a text's items always decides.
abbrev pub outcome_of : List ℕ → Option Outcome
outcome_of text = outcome_from Between nothing (items Hash text)
