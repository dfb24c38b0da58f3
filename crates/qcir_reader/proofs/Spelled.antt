-- One more word that the grammar allows is written behind what has been read.
use Rattle.std.proofs.Common.{◌≡◌, ◌≢◌, ℕ, zero, suc, ◌+◌, ℤ, pos, nat_abs, List, [], ◌∷◌, ◌++◌, length, map, Option, None, Some, refl, sym, ap, ◌∙◌, arith, length-append}
use Rattle.std.specs.Prelude.{nat_lt, nat_le}
use Rattle.std.specs.List.{flat_map}
use Rattle.std.proofs.lemmas.List.{map-append, append_assoc, length-map}
use Rattle.lexer.specs.declared.token.Token.{Token}
use Rattle.qdimacs.proofs.Grown.{flat_more}
use Rattle.qcir_reader.specs.declared.sign.Place.TheVariants.{Before, Opened, Behind, Continued}
use Rattle.qcir_reader.specs.declared.sign.Stage.{Stage}
use Rattle.qcir_reader.specs.declared.sign.Stage.TheVariants.{Between, InSet, InOutput, Body, InName, InKind, InGate}
use Rattle.qcir_reader.specs.declared.sign.Sign.{Sign}
use Rattle.qcir_reader.specs.declared.sign.Sign.TheVariants.{Quantifier, Output, Kind, Equals, Opening, Closing, Comma, Number}
use Rattle.qcir_reader.specs.Grammar.{allows, sign_of}
use Rattle.reading.specs.declared.refusal.Quantity.TheVariants.{Scopes, Clauses}
use Rattle.qdimacs.specs.Formula.{merged}
use Rattle.qcir.specs.Translation.{scopes_with}
use Rattle.qcir_reader.specs.Rules.{Front, first_of, refused, limit, number_rules, variable_rules, name_rules, is_known, is_no_variable, amount, scopes_of}
use Rattle.truth.specs.Limits.{max_scopes, max_clauses}
use Rattle.qcir_reader.specs.Run.{noted, with_set, with_gate}
use Rattle.qcir_reader.specs.Reads.{IsAllowed, Spells, HasOutputLine, HasLine, signs_of, sets_signs, body_signs, set_signs, gate_signs, begun, listed, listed_more}
use Rattle.qcir_reader.proofs.Tests.{is_variable, first_test}

-- one more number of a list
more_last : (ns : List ℤ) (n : ℤ) → listed_more (ns ++ n ∷ []) ≡ listed_more ns ++ Comma ∷ Number n ∷ []
more_last [] n = refl
more_last (m ∷ ns) n = ap (λ r. Comma ∷ Number m ∷ r) (more_last ns n)

pub begun_continued : (ns : List ℤ) (n : ℤ) → ns ≢ [] → begun Behind (ns ++ n ∷ []) ≡ begun Continued ns ++ Number
    n ∷ []
begun_continued [] n some = absurd (some refl)
begun_continued (m ∷ ns) n some = ap (λ r. Opening ∷ Number m ∷ r)
    (more_last ns n ∙ sym (append_assoc (listed_more ns) (Comma ∷ []) (Number n ∷ [])))

pub begun_opened : (ns : List ℤ) (n : ℤ) → ns ≡ [] → begun Behind (ns ++ n ∷ []) ≡ begun Opened ns ++ Number n ∷ []
begun_opened ns n none = ap (λ ms. begun Behind (ms ++ n ∷ [])) none

pub closed_opened : (ns : List ℤ) → ns ≡ [] → Opening ∷ listed ns ++ Closing ∷ [] ≡ begun Opened ns ++ Closing ∷ []
closed_opened ns none = ap (λ ms. Opening ∷ listed ms ++ Closing ∷ []) none

pub closed_behind : (ns : List ℤ) → Opening ∷ listed ns ++ Closing ∷ [] ≡ begun Behind ns ++ Closing ∷ []
closed_behind ns = refl

-- one more sign behind what stands behind others
behind : (xs : List Sign) (y : Sign) (ys zs : List Sign) (s : Sign) → zs ≡ ys ++ s ∷ []
    → xs ++ y ∷ zs ≡ (xs ++ y ∷ ys) ++ s ∷ []
behind xs y ys zs s e = ap (λ r. xs ++ y ∷ r) e ∙ sym (append_assoc xs (y ∷ ys) (s ∷ []))

sets_more : (f : Front) (s : Sign) (ys : List Sign) → Opening ∷ listed (map pos f.vars) ++ Closing ∷ [] ≡ ys ++ Closing
    ∷ [] → s ≡ Closing
    → sets_signs (with_set f) ≡ (sets_signs f ++ Quantifier f.quant ∷ ys) ++ s ∷ []
sets_more f s ys e is =
    flat_more set_signs f.sets (f.quant, f.vars)
    ∙ behind (sets_signs f) (Quantifier f.quant) ys (Opening ∷ listed (map pos f.vars) ++ Closing ∷ []) Closing e
    ∙ ap (λ c. (sets_signs f ++ Quantifier f.quant ∷ ys) ++ c ∷ []) (sym is)

body_more : (f : Front) (ys : List Sign) → Opening ∷ listed f.gate.inputs ++ Closing ∷ [] ≡ ys ++ Closing ∷ []
    → body_signs (with_gate f) ≡ (body_signs f ++ Number (pos f.gate.name) ∷ Equals ∷ Kind f.gate.kind ∷ ys) ++ Closing
    ∷ []
body_more f ys e =
    let out : List Sign = Output ∷ Opening ∷ Number f.output.literal ∷ Closing ∷ [] in
    ap (λ r. sets_signs f ++ (out ++ r)) (flat_more gate_signs f.gates f.gate)
    ∙ ap (λ r. sets_signs f ++ r) (sym (append_assoc out (flat_map gate_signs f.gates) (gate_signs f.gate)))
    ∙ sym (append_assoc (sets_signs f) (out ++ flat_map gate_signs f.gates) (gate_signs f.gate))
    ∙ ap (λ r. body_signs f ++ Number (pos f.gate.name) ∷ Equals ∷ Kind f.gate.kind ∷ r) e
    ∙ sym (append_assoc (body_signs f) (Number (pos f.gate.name) ∷ Equals ∷ Kind f.gate.kind ∷ ys) (Closing ∷ []))

vars_more : (f : Front) (n : ℤ) → n ≡ pos (nat_abs n) → map pos (f.vars ++ nat_abs n ∷ []) ≡ map pos f.vars ++ n ∷ []
vars_more f n e = map-append pos f.vars (nat_abs n ∷ []) ∙ ap (λ m. map pos f.vars ++ m ∷ []) (sym e)

none_mapped : (vs : List ℕ) → vs ≡ [] → map pos vs ≡ []
none_mapped vs e = ap (map pos) e

some_mapped : (vs : List ℕ) → vs ≢ [] → map pos vs ≢ []
some_mapped [] some e = some refl
some_mapped (v ∷ vs) some e = cc

-- numbers that the rules let pass
variable_number : (f : Front) (n : ℤ) (line : ℕ) → first_of (variable_rules f n line) ≡ None → n ≡ pos (nat_abs n)
variable_number f n line h =
    (is_variable n
    (first_test (is_no_variable n) (refused 71 line)
    ((is_known f (nat_abs n), refused 73 line) ∷
    (nat_lt max_scopes (length (merged (f.sets ++ (f.quant, f.vars ++ nat_abs n ∷ []) ∷ []))), limit Scopes line) ∷
    []) h)).1

name_number : (f : Front) (n : ℤ) (line : ℕ) → first_of (name_rules f n line) ≡ None → n ≡ pos (nat_abs n)
name_number f n line h =
    (is_variable n (first_test (is_no_variable n) (refused 71 line)
    ((is_known f (nat_abs n), refused 73 line) ∷
    (nat_lt max_scopes (length (scopes_with (scopes_of f.sets) (nat_abs n ∷ []))), limit Scopes line) ∷
    (nat_le max_clauses (amount f.gates), limit Clauses line) ∷ []) h)).1

-- what is written at the stage that was gone to
abbrev pub WritesTo : Option Stage → Front → List Sign → Type 0
WritesTo None f signs = Unit {0}
WritesTo (Some next) f signs = signs_of next f ≡ signs

pub writes : (stage : Stage) (s : Sign) (f : Front) (line : ℕ) → first_of (number_rules stage f s line) ≡ None
    → IsAllowed stage f → WritesTo (allows stage s) (noted stage f s line) (signs_of stage f ++ s ∷ [])
writes Between (Quantifier q) f line h a = refl
writes Between Output f line h a = refl
writes (InSet Before) Opening f line h a = behind (sets_signs f) (Quantifier f.quant) [] (Opening ∷ []) Opening refl
writes (InSet Opened) (Number n) f line h a =
    let is : n ≡ pos (nat_abs n) = variable_number f n line h in
    behind (sets_signs f) (Quantifier f.quant) (begun Opened (map pos f.vars))
    (begun Behind (map pos (f.vars ++ nat_abs n ∷ []))) (Number n)
    (ap (begun Behind) (vars_more f n is) ∙ begun_opened (map pos f.vars) n (none_mapped f.vars a.stands.0))
writes (InSet Opened) Closing f line h a = sets_more f Closing (begun Opened (map pos f.vars))
    (closed_opened (map pos f.vars) (none_mapped f.vars a.stands.0)) refl
writes (InSet Behind) Comma f line h a = behind (sets_signs f) (Quantifier f.quant) (begun Behind (map pos f.vars))
    (begun Continued (map pos f.vars)) Comma refl
writes (InSet Behind) Closing f line h a = sets_more f Closing (begun Behind (map pos f.vars)) refl refl
writes (InSet Continued) (Number n) f line h a =
    let is : n ≡ pos (nat_abs n) = variable_number f n line h in
    behind (sets_signs f) (Quantifier f.quant) (begun Continued (map pos f.vars))
    (begun Behind (map pos (f.vars ++ nat_abs n ∷ []))) (Number n)
    (ap (begun Behind) (vars_more f n is) ∙ begun_continued (map pos f.vars) n (some_mapped f.vars a.stands.0))
writes (InOutput Before) Opening f line h a = behind (sets_signs f) Output [] (Opening ∷ []) Opening refl
writes (InOutput Opened) (Number n) f line h a = behind (sets_signs f) Output (Opening ∷ []) (Opening ∷ Number n ∷ [])
    (Number n) refl
writes (InOutput Behind) Closing f line h a =
    ap (λ gs. sets_signs f ++ Output ∷ Opening ∷ Number f.output.literal ∷ Closing ∷ flat_map gate_signs gs) a.stands.1
    ∙ behind (sets_signs f) Output (Opening ∷ Number f.output.literal ∷ [])
    (Opening ∷ Number f.output.literal ∷ Closing ∷ []) Closing refl
writes Body (Number n) f line h a =
    let is : n ≡ pos (nat_abs n) = name_number f n line h in
    ap (λ m. body_signs f ++ Number m ∷ []) (sym is)
writes InName Equals f line h a = behind (body_signs f) (Number (pos f.gate.name)) [] (Equals ∷ []) Equals refl
writes InKind (Kind kind) f line h a = behind (body_signs f) (Number (pos f.gate.name)) (Equals ∷ [])
    (Equals ∷ Kind kind ∷ []) (Kind kind) refl
writes (InGate Before) Opening f line h a =
    behind (body_signs f) (Number (pos f.gate.name)) (Equals ∷ Kind f.gate.kind ∷ [])
    (Equals ∷ Kind f.gate.kind ∷ Opening ∷ []) Opening refl
writes (InGate Opened) (Number n) f line h a =
    behind (body_signs f) (Number (pos f.gate.name)) (Equals ∷ Kind f.gate.kind ∷ begun Opened f.gate.inputs)
    (Equals ∷ Kind f.gate.kind ∷ begun Behind (f.gate.inputs ++ n ∷ [])) (Number n)
    (ap (λ r. Equals ∷ Kind f.gate.kind ∷ r) (begun_opened f.gate.inputs n a.stands.1))
writes (InGate Opened) Closing f line h a = body_more f (begun Opened f.gate.inputs)
    (closed_opened f.gate.inputs a.stands.1)
writes (InGate Behind) Comma f line h a =
    behind (body_signs f) (Number (pos f.gate.name)) (Equals ∷ Kind f.gate.kind ∷ begun Behind f.gate.inputs)
    (Equals ∷ Kind f.gate.kind ∷ begun Continued f.gate.inputs) Comma refl
writes (InGate Behind) Closing f line h a = body_more f (begun Behind f.gate.inputs) refl
writes (InGate Continued) (Number n) f line h a =
    behind (body_signs f) (Number (pos f.gate.name)) (Equals ∷ Kind f.gate.kind ∷ begun Continued f.gate.inputs)
    (Equals ∷ Kind f.gate.kind ∷ begun Behind (f.gate.inputs ++ n ∷ [])) (Number n)
    (ap (λ r. Equals ∷ Kind f.gate.kind ∷ r) (begun_continued f.gate.inputs n a.stands.1))
writes stage s f line h a = tt

-- the line of the output
pub line_more : (k : ℕ) (ts us : List Token) (line : ℕ) → HasLine k ts line → HasLine k (ts ++ us) line
line_more k [] us line h = absurd h
line_more zero (t ∷ ts) us line h = h
line_more (suc k) (t ∷ ts) us line h = line_more k ts us line h

pub line_here : (k : ℕ) (ts : List Token) (t : Token) (us : List Token) → length ts ≡ k
    → HasLine k (ts ++ t ∷ us) t.line
line_here zero [] t us e = refl
line_here zero (u ∷ ts) t us e = absurd (omega (arith, e))
line_here (suc k) [] t us e = absurd (omega (arith, e))
line_here (suc k) (u ∷ ts) t us e = line_here k ts t us (omega (arith, e))

abbrev pub LinesTo : Option Stage → Front → List Token → Type 0
LinesTo None f read = Unit {0}
LinesTo (Some next) f read = HasOutputLine next f read

as_many : (f : Front) (read : List Token) → map (λ (t : Token). sign_of t.word) read ≡ sets_signs f ++ Output ∷ Opening
    ∷ [] → length read ≡ length (sets_signs f) + 2
as_many f read e = sym (length-map read (λ (t : Token). sign_of t.word)) ∙ ap length e ∙ length-append (sets_signs f)
    (Output ∷ Opening ∷ [])

pub lines : (stage : Stage) (s : Sign) (f : Front) (read : List Token) (t : Token) → Spells stage f read
    → LinesTo (allows stage s) (noted stage f s t.line) (read ++ t ∷ [])
lines Between (Quantifier q) f read t h = tt
lines Between Output f read t h = tt
lines (InSet Before) Opening f read t h = tt
lines (InSet Opened) (Number n) f read t h = tt
lines (InSet Opened) Closing f read t h = tt
lines (InSet Behind) Comma f read t h = tt
lines (InSet Behind) Closing f read t h = tt
lines (InSet Continued) (Number n) f read t h = tt
lines (InOutput Before) Opening f read t h = tt
lines (InOutput Opened) (Number n) f read t h = line_here (length (sets_signs f) + 2) read t [] (as_many f read h.signs)
lines (InOutput Behind) Closing f read t h = line_more (length (sets_signs f) + 2) read (t ∷ []) f.output.line h.line
lines Body (Number n) f read t h = line_more (length (sets_signs f) + 2) read (t ∷ []) f.output.line h.line
lines InName Equals f read t h = line_more (length (sets_signs f) + 2) read (t ∷ []) f.output.line h.line
lines InKind (Kind kind) f read t h = line_more (length (sets_signs f) + 2) read (t ∷ []) f.output.line h.line
lines (InGate Before) Opening f read t h = line_more (length (sets_signs f) + 2) read (t ∷ []) f.output.line h.line
lines (InGate Opened) (Number n) f read t h = line_more (length (sets_signs f) + 2) read (t ∷ []) f.output.line h.line
lines (InGate Opened) Closing f read t h = line_more (length (sets_signs f) + 2) read (t ∷ []) f.output.line h.line
lines (InGate Behind) Comma f read t h = line_more (length (sets_signs f) + 2) read (t ∷ []) f.output.line h.line
lines (InGate Behind) Closing f read t h = line_more (length (sets_signs f) + 2) read (t ∷ []) f.output.line h.line
lines (InGate Continued) (Number n) f read t h = line_more (length (sets_signs f) + 2) read (t ∷ []) f.output.line
    h.line
lines stage s f read t h = tt
