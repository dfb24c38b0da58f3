-- What the reader keeps stands for what has been read.
use Rattle.std.specs.Prelude.{◌≡◌, ◌≤◌, false, ℕ, [], ◌∷◌, ◌++◌, length, map, slice_index_or, Result}
use Rattle.qdimacs.specs.Formula.{merged}
use Rattle.qdimacs.specs.Kept.{sets_of}
use Rattle.qcir.specs.declared.circuit.Circuit.{Circuit}
use Rattle.qcir_reader.specs.declared.refusal.QcirRefusal.{QcirRefusal}
use Rattle.qcir_reader.specs.declared.sign.Sign.{Sign}
use Rattle.qcir_reader.specs.declared.reader.Reader.{Reader}
use Rattle.qcir_reader.specs.Rules.{Front, first_of, word_rules, number_rules, end_rules, is_known, amount, gate_of, literal_of}
use Rattle.qcir_reader.specs.Run.{noted, moved}
use Rattle.qcir_reader.specs.Reads.{IsAllowed}
use Rattle.qcir_reader.specs.Answers.{Goes, Closes}

-- what is kept
pub record Keeps (r : Reader) (f : Front) : Type 0 where
  pub quant : r.quant ≡ f.quant
  pub scopes : sets_of r.sets.rows.items ≡ merged (f.sets ++ (f.quant, f.vars) ∷ [])
  pub few_scopes : length (sets_of r.sets.rows.items) ≤ 65536
  pub marks : (v : ℕ) → slice_index_or r.sets.marks.items v false ≡ is_known f v
  pub marked : length r.sets.marks.items ≡ 1048577
  pub output : r.output ≡ f.output.literal
  pub line : r.output_line ≡ f.output.line
  pub gates : r.gates.items ≡ map gate_of f.gates
  pub name : r.name ≡ f.gate.name
  pub kind : r.kind ≡ f.gate.kind
  pub inputs : r.inputs.items ≡ map literal_of f.gate.inputs
  pub amount_is : r.amount ≡ amount f.gates

-- The reader stands for what has been read, and that is allowed.
pub record Represents (r : Reader) (f : Front) : Type 0 where
  pub keeps : Keeps r f
  pub allowed : IsAllowed r.stage f

-- The reader stands for something that has been read.
pub record Stood (r : Reader) : Type 0 where
  pub front : Front
  pub represents : Represents r front

-- A word that the grammar allows is noted where no rule refuses it, and refused by the first rule that does.
abbrev pub Notes : {A : Type 0} → Result A QcirRefusal → Reader → Reader → Sign → ℕ → Type 0
Notes result old new s line = (f : Front) → Represents old f
    → Goes result (first_of (number_rules old.stage f s line)) (Keeps new (noted old.stage f s line))

-- A word is taken where no rule refuses it, and refused by the first rule that does.
abbrev pub Steps : {A : Type 0} → Result A QcirRefusal → Reader → Reader → Sign → ℕ → Type 0
Steps result old new s line = (f : Front) → Represents old f
    → Goes result (first_of (word_rules old.stage f s line))
    ((new.stage ≡ moved old.stage s) × Represents new (noted old.stage f s line))

-- The end gives the circuit, or the first rule that refuses.
abbrev pub Closing : Result Circuit QcirRefusal → Reader → ℕ → Type 0
Closing result old line = (f : Front) → Represents old f → Closes result (first_of (end_rules old.stage f line))
