-- What decides depends on no more of what has been read than is written.
use Rattle.std.proofs.Common.{◌≡◌, ℕ, ℤ, List, ◌∷◌, refl, ap, ◌∙◌}
use Rattle.std.specs.Prelude.{is_none}
use Rattle.lexer.specs.Words.{Item, word, bad_byte, number_range, too_long, the_end}
use Rattle.prefix.specs.declared.quant.Quant.{Quant}
use Rattle.qdimacs.specs.Formula.{QuantSet}
use Rattle.qcir_reader.specs.declared.sign.Stage.{Stage}
use Rattle.qcir_reader.specs.declared.sign.Stage.TheVariants.{InSet, InOutput, Body, InGate}
use Rattle.qcir_reader.specs.declared.sign.Sign.{Sign}
use Rattle.qcir_reader.specs.declared.sign.Sign.TheVariants.{Number}
use Rattle.qcir_reader.specs.Grammar.{allows, sign_of}
use Rattle.qcir_reader.specs.Rules.{GateText, OutputText, Front, first_of, refused, is_unsupported, number_rules, variable_rules, name_rules, input_rules, end_rules, verdict}
use Rattle.qcir_reader.specs.Run.{nothing}

pub record Alike (f g : Front) : Type 0 where
  pub sets : f.sets ≡ g.sets
  pub quant : f.quant ≡ g.quant
  pub vars : f.vars ≡ g.vars
  pub output : f.output ≡ g.output
  pub gates : f.gates ≡ g.gates
  pub inputs : f.gate.inputs ≡ g.gate.inputs

-- the parts that the rules see
abbrev pub part : List QuantSet → Quant → List ℕ → OutputText → List GateText → List ℤ → Front
part sets quant vars output gates inputs = record {
  sets = sets;
  quant = quant;
  vars = vars;
  output = output;
  gates = gates;
  gate = record { name = 1; kind = nothing.gate.kind; inputs = inputs };
}

parts_same : {A : Type 0} (F : Front → A) (f g : Front) → Alike f g
    → F (part f.sets f.quant f.vars f.output f.gates f.gate.inputs) ≡ F
    (part g.sets g.quant g.vars g.output g.gates g.gate.inputs)
parts_same F f g a =
    ap (λ x. F (part x f.quant f.vars f.output f.gates f.gate.inputs)) a.sets
    ∙ ap (λ x. F (part g.sets x f.vars f.output f.gates f.gate.inputs)) a.quant
    ∙ ap (λ x. F (part g.sets g.quant x f.output f.gates f.gate.inputs)) a.vars
    ∙ ap (λ x. F (part g.sets g.quant g.vars x f.gates f.gate.inputs)) a.output
    ∙ ap (λ x. F (part g.sets g.quant g.vars g.output x f.gate.inputs)) a.gates
    ∙ ap (λ x. F (part g.sets g.quant g.vars g.output g.gates x)) a.inputs

-- what each stage's rules see
abbrev pub SameAt : Stage → Front → Front → Type 0
SameAt (InSet place) f g = (output : OutputText) (inputs : List ℤ)
    → Alike (part f.sets f.quant f.vars output f.gates inputs) (part g.sets g.quant g.vars output g.gates inputs)
SameAt Body f g = (quant : Quant) (inputs : List ℤ) → Alike (part f.sets quant f.vars f.output f.gates inputs)
    (part g.sets quant g.vars g.output g.gates inputs)
SameAt (InGate place) f g = (quant : Quant) (output : OutputText)
    → Alike (part f.sets quant f.vars output f.gates f.gate.inputs)
    (part g.sets quant g.vars output g.gates g.gate.inputs)
SameAt stage f g = Unit {0}

numbers_same : (stage : Stage) (s : Sign) (f g : Front) (line : ℕ) → SameAt stage f g
    → number_rules stage f s line ≡ number_rules stage g s line
numbers_same (InSet place) (Number n) f g line a =
    parts_same (λ x. variable_rules x n line) (part f.sets f.quant f.vars f.output f.gates f.gate.inputs)
    (part g.sets g.quant g.vars f.output g.gates f.gate.inputs) (a f.output f.gate.inputs)
numbers_same (InOutput place) (Number n) f g line a = refl
numbers_same Body (Number n) f g line a =
    parts_same (λ x. name_rules x n line) (part f.sets f.quant f.vars f.output f.gates f.gate.inputs)
    (part g.sets f.quant g.vars g.output g.gates f.gate.inputs) (a f.quant f.gate.inputs)
numbers_same (InGate place) (Number n) f g line a =
    parts_same (λ x. input_rules x n line) (part f.sets f.quant f.vars f.output f.gates f.gate.inputs)
    (part g.sets f.quant g.vars f.output g.gates g.gate.inputs) (a f.quant f.output)
numbers_same stage s f g line a = refl

end_same : (stage : Stage) (f g : Front) (line : ℕ) → SameAt stage f g → first_of (end_rules stage f line) ≡ first_of
    (end_rules stage g line)
end_same Body f g line a =
    parts_same (λ x. first_of (end_rules Body x line)) (part f.sets f.quant f.vars f.output f.gates f.gate.inputs)
    (part g.sets f.quant g.vars g.output g.gates f.gate.inputs) (a f.quant f.gate.inputs)
end_same stage f g line a = refl

pub verdict_same : (stage : Stage) (f g : Front) → SameAt stage f g → (item : Item) → verdict stage f item ≡ verdict
    stage g item
verdict_same stage f g a (word t) =
    ap (λ rules. first_of ((is_unsupported stage (sign_of t.word), refused 72 t.line) ∷
    (is_none (allows stage (sign_of t.word)), refused 70 t.line) ∷ rules))
    (numbers_same stage (sign_of t.word) f g t.line a)
verdict_same stage f g a (bad_byte line) = refl
verdict_same stage f g a (number_range line) = refl
verdict_same stage f g a (too_long line) = refl
verdict_same stage f g a (the_end line) = end_same stage f g line a
