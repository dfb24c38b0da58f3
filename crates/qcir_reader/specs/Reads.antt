-- What a text is, by its grammar (QCIR-14, qcir-file).
use Rattle.std.specs.Prelude.{◌≡◌, ◌≢◌, ℕ, ◌+◌, ◌<◌, ◌≤◌, ℤ, pos, nat_abs, zero, suc, true, false, List, [], ◌∷◌, ◌++◌, length, map, Some}
use Rattle.std.specs.List.{AllByRecursion, flat_map}
use Rattle.lexer.specs.declared.token.Token.{Token}
use Rattle.lexer.specs.declared.token.Comments.TheVariants.{Hash}
use Rattle.lexer.specs.Words.{Item, word, items}
use Rattle.prefix.specs.Scopes.{AreDistinct}
use Rattle.qdimacs.specs.Formula.{QuantSet, merged}
use Rattle.qcir.specs.Translation.{AreEarlier, scopes_with}
use Rattle.qcir_reader.specs.declared.sign.Place.{Place}
use Rattle.qcir_reader.specs.declared.sign.Place.TheVariants.{Before, Opened, Behind, Continued}
use Rattle.qcir_reader.specs.declared.sign.Stage.{Stage}
use Rattle.qcir_reader.specs.declared.sign.Stage.TheVariants.{Between, InSet, InOutput, Body, InName, InKind, InGate}
use Rattle.qcir_reader.specs.declared.sign.Sign.{Sign}
use Rattle.qcir_reader.specs.declared.sign.Sign.TheVariants.{Quantifier, Output, Kind, Equals, Opening, Closing, Comma, Number}
use Rattle.qcir_reader.specs.Grammar.{sign_of}
use Rattle.qcir_reader.specs.Rules.{Outcome, GateText, OutputText, Front, quantified, gate_of, gate_names_of, is_known, amount, scopes_of, verdict, max_name}
use Rattle.truth.specs.Limits.{max_scopes, max_clauses}

-- numbers with a comma between two
abbrev pub listed_more : List ℤ → List Sign
listed_more [] = []
listed_more (n ∷ ns) = Comma ∷ Number n ∷ listed_more ns

abbrev pub listed : List ℤ → List Sign
listed [] = []
listed (n ∷ ns) = Number n ∷ listed_more ns

abbrev pub in_brackets : List ℤ → List Sign
in_brackets ns = Opening ∷ listed ns ++ Closing ∷ []

-- the statements as they are written
abbrev pub set_signs : QuantSet → List Sign
set_signs set = Quantifier set.0 ∷ in_brackets (map pos set.1)

abbrev pub output_signs : OutputText → List Sign
output_signs output = Output ∷ in_brackets (output.literal ∷ [])

abbrev pub gate_signs : GateText → List Sign
gate_signs g = Number (pos g.name) ∷ Equals ∷ Kind g.kind ∷ in_brackets g.inputs

-- a list of numbers that has not ended
abbrev pub begun : Place → List ℤ → List Sign
begun Before ns = []
begun Opened ns = Opening ∷ []
begun Behind ns = Opening ∷ listed ns
begun Continued ns = Opening ∷ listed ns ++ Comma ∷ []

-- quantifier statements; these, the output and gates
abbrev pub sets_signs : Front → List Sign
sets_signs f = flat_map set_signs f.sets

abbrev pub body_signs : Front → List Sign
body_signs f = sets_signs f ++ (output_signs f.output ++ flat_map gate_signs f.gates)

-- what has been read, as it is written: whole statements, and at most one that has not ended
abbrev pub signs_of : Stage → Front → List Sign
signs_of Between f = sets_signs f
signs_of (InSet place) f = sets_signs f ++ Quantifier f.quant ∷ begun place (map pos f.vars)
signs_of (InOutput place) f = sets_signs f ++ Output ∷ begun place (f.output.literal ∷ [])
signs_of Body f = body_signs f
signs_of InName f = body_signs f ++ Number (pos f.gate.name) ∷ []
signs_of InKind f = body_signs f ++ Number (pos f.gate.name) ∷ Equals ∷ []
signs_of (InGate place) f =
    body_signs f ++ Number (pos f.gate.name) ∷ Equals ∷ Kind f.gate.kind ∷ begun place f.gate.inputs

-- this line is that of the token with this place, counted from 0
abbrev pub HasLine : ℕ → List Token → ℕ → Type 0
HasLine place [] line = ⊥
HasLine zero (t ∷ ts) line = t.line ≡ line
HasLine (suc place) (t ∷ ts) line = HasLine place ts line

-- The output's line is that of its literal, which stands behind the quantifier statements, `output` and a bracket.
abbrev pub IsLined : Front → List Token → Type 0
IsLined f read = HasLine (length (sets_signs f) + 2) read f.output.line

abbrev pub HasOutputLine : Stage → Front → List Token → Type 0
HasOutputLine Between f read = Unit {0}
HasOutputLine (InSet place) f read = Unit {0}
HasOutputLine (InOutput Behind) f read = IsLined f read
HasOutputLine (InOutput place) f read = Unit {0}
HasOutputLine stage f read = IsLined f read

-- The words are those of what has been read.
pub record Spells (stage : Stage) (f : Front) (read : List Token) : Type 0 where
  pub signs : map (λ (t : Token). sign_of t.word) read ≡ signs_of stage f
  pub line : HasOutputLine stage f read

-- where a list of numbers is empty, and where it isn't
abbrev pub IsPlaced : {A : Type 0} → Place → List A → Type 0
IsPlaced Before xs = xs ≡ []
IsPlaced Opened xs = xs ≡ []
IsPlaced Behind xs = xs ≢ []
IsPlaced Continued xs = xs ≢ []

abbrev pub IsName : ℕ → Type 0
IsName v = (0 < v) × (v ≤ max_name)

-- what a gate that has begun keeps to
pub record IsNextGate (f : Front) : Type 0 where
  pub name : IsName f.gate.name
  pub fresh : is_known f f.gate.name ≡ false
  pub inputs : AllByRecursion (λ n. (0 < nat_abs n) × (is_known f (nat_abs n) ≡ true)) f.gate.inputs
  pub few : amount f.gates + length f.gate.inputs + 1 ≤ max_clauses
  pub scopes : length (scopes_with (scopes_of f.sets) (f.gate.name ∷ [])) ≤ max_scopes

-- what an output and whole gates keep to
pub record IsBody (f : Front) : Type 0 where
  pub vars : f.vars ≡ []
  pub output : IsName (nat_abs f.output.literal)

-- what belongs to where the text stands
abbrev pub IsAt : Stage → Front → Type 0
IsAt Between f = (f.vars ≡ []) × (f.gates ≡ [])
IsAt (InSet place) f = IsPlaced place f.vars × (f.gates ≡ [])
IsAt (InOutput Behind) f = (f.vars ≡ []) × (f.gates ≡ []) × IsName (nat_abs f.output.literal)
IsAt (InOutput Continued) f = ⊥
IsAt (InOutput place) f = (f.vars ≡ []) × (f.gates ≡ [])
IsAt Body f = IsBody f
IsAt InName f = IsBody f × (f.gate.inputs ≡ []) × IsNextGate f
IsAt InKind f = IsBody f × (f.gate.inputs ≡ []) × IsNextGate f
IsAt (InGate place) f = IsBody f × IsPlaced place f.gate.inputs × IsNextGate f

-- What statements, the last of which may be unfinished, keep to: names stand once, and each gate is new and over what
-- is known before it.
pub record IsAllowed (stage : Stage) (f : Front) : Type 0 where
  pub names : AllByRecursion IsName (quantified f)
  pub distinct : AreDistinct (quantified f)
  pub scopes : length (merged (f.sets ++ (f.quant, f.vars) ∷ [])) ≤ max_scopes
  pub gates : AreEarlier (quantified f) (map gate_of f.gates)
  pub gate_names : AllByRecursion IsName (gate_names_of f.gates)
  pub gate_scopes : length (scopes_with (scopes_of f.sets) (gate_names_of f.gates)) ≤ max_scopes
  pub few : amount f.gates ≤ max_clauses
  pub stands : IsAt stage f

-- A front of the words is whole statements and at most one unfinished one, all of it allowed, and the next word, or the
-- end, decides.
pub record Decides (all : List Item) (outcome : Outcome) : Type 0 where
  pub stage : Stage
  pub front : Front
  pub read : List Token
  pub next : Item
  pub rest : List Item
  pub whole : all ≡ map word read ++ next ∷ rest
  pub spelled : Spells stage front read
  pub allowed : IsAllowed stage front
  pub decides : verdict stage front next ≡ Some outcome

-- what a text of these bytes is
abbrev pub Reads : List ℕ → Outcome → Type 0
Reads text outcome = Decides (items Hash text) outcome
