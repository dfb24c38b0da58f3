-- The grammar: what the words are, and which may follow which (QCIR-14, qcir-file: the prenex part with and/or gates
-- and numbers as names).
use Rattle.std.specs.Prelude.{ℕ, Bool, true, false, ◌||◌, if◌then◌else◌, List, codes, Option, Some, None}
use Rattle.std.specs.Str.{bytes_eq}
use Rattle.lexer.specs.declared.token.Word.{Word}
use Rattle.lexer.specs.declared.token.Word.TheVariants.{Num, Text, Other}
use Rattle.prefix.specs.declared.quant.Quant.TheVariants.{Exists, Forall}
use Rattle.qcir.specs.declared.circuit.GateKind.TheVariants.{And, Or}
use Rattle.qcir_reader.specs.declared.sign.Place.TheVariants.{Before, Opened, Behind, Continued}
use Rattle.qcir_reader.specs.declared.sign.Stage.{Stage}
use Rattle.qcir_reader.specs.declared.sign.Stage.TheVariants.{Between, InSet, InOutput, Body, InName, InKind, InGate}
use Rattle.qcir_reader.specs.declared.sign.Sign.{Sign}
use Rattle.qcir_reader.specs.declared.sign.Sign.TheVariants.{Quantifier, Output, Kind, Equals, Opening, Closing, Comma, Number, LeftOut, Stray}

-- brackets, the comma and `=`
abbrev pub mark_sign : List ℕ → Option Sign
mark_sign t =
    if bytes_eq t (codes "(") then Some Opening
    else if bytes_eq t (codes ")") then Some Closing
    else if bytes_eq t (codes ",") then Some Comma
    else if bytes_eq t (codes "=") then Some Equals
    else None

-- what a statement begins with, and what a gate makes of its inputs
abbrev pub statement_sign : List ℕ → Option Sign
statement_sign t =
    if bytes_eq t (codes "exists") then Some (Quantifier Exists)
    else if bytes_eq t (codes "forall") then Some (Quantifier Forall)
    else if bytes_eq t (codes "output") then Some Output
    else if bytes_eq t (codes "and") then Some (Kind And)
    else if bytes_eq t (codes "or") then Some (Kind Or)
    else None

-- words of the format that are left out here
abbrev pub is_left_out : List ℕ → Bool
is_left_out t = bytes_eq t (codes "xor") || (bytes_eq t (codes "ite") || bytes_eq t (codes "free"))

-- the first of signs, or else one that belongs nowhere
abbrev pub first_sign : Option Sign → Option Sign → Bool → Sign
first_sign (Some mark) statement left_out = mark
first_sign None (Some statement) left_out = statement
first_sign None None true = LeftOut
first_sign None None false = Stray

-- what a text word is
abbrev pub text_sign : List ℕ → Sign
text_sign t = first_sign (mark_sign t) (statement_sign t) (is_left_out t)

abbrev pub sign_of : Word → Sign
sign_of (Num n) = Number n
sign_of (Text t) = text_sign t
sign_of Other = Stray

-- Which words may follow, and how far the text has been read then.
abbrev pub allows : Stage → Sign → Option Stage
allows Between (Quantifier q) = Some (InSet Before)
allows Between Output = Some (InOutput Before)
allows (InSet Before) Opening = Some (InSet Opened)
allows (InSet Opened) (Number n) = Some (InSet Behind)
allows (InSet Opened) Closing = Some Between
allows (InSet Behind) Comma = Some (InSet Continued)
allows (InSet Behind) Closing = Some Between
allows (InSet Continued) (Number n) = Some (InSet Behind)
allows (InOutput Before) Opening = Some (InOutput Opened)
allows (InOutput Opened) (Number n) = Some (InOutput Behind)
allows (InOutput Behind) Closing = Some Body
allows Body (Number n) = Some InName
allows InName Equals = Some InKind
allows InKind (Kind kind) = Some (InGate Before)
allows (InGate Before) Opening = Some (InGate Opened)
allows (InGate Opened) (Number n) = Some (InGate Behind)
allows (InGate Opened) Closing = Some Body
allows (InGate Behind) Comma = Some (InGate Continued)
allows (InGate Behind) Closing = Some Body
allows (InGate Continued) (Number n) = Some (InGate Behind)
allows stage sign = None
