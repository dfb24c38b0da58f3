use Rattle.std.proofs.Common.{◌≡◌, ◌<◌, ℕ, [], ◌∷◌, Bool, true, false, List, get_or, refl, sym, ap, arith}
use Rattle.std.proofs.lemmas.Bool.{false≢true}
use Rattle.aig.specs.Circuits.{Circuit, value_of, zero}
use Rattle.aig.specs.Worked.{gate, none_gate}
use Rattle.aig.specs.declared.edge.And.{And}
use Rattle.aig.specs.declared.edge.Edge.{Edge}
use Rattle.trim.specs.Trimmed.{moved_gate}
use Rattle.trim.specs.Marks.{Rebuilds, edge_of, rank}
use Rattle.trim.specs.Worked.{three, two}
use Rattle.trim.proofs.Small.{apart, by_first_mark, by_marks, by_no_mark}
use Rattle.trim.proofs.worked.worked_rebuilds.Goals as goal

abbrev places : ℕ → ℕ
places = rank (false ∷ true ∷ true ∷ [])

abbrev only : Circuit
only = record { inputs = 2; gates = none_gate ∷ [] }

abbrev EdgeAt : List Edge → Edge → ℕ → Type 0
EdgeAt table d j = get_or table j d ≡ edge_of (places j)

abbrev GateAt : Circuit → And → ℕ → Type 0
GateAt new d j = get_or new.gates (places j) d ≡ moved_gate places (get_or three.gates j d)

abbrev ValueAt : Circuit → List Bool → ℕ → Type 0
ValueAt new inputs j = value_of new inputs (edge_of (places j)) ≡ value_of three inputs (edge_of j)

none : Rebuilds three (false ∷ true ∷ true ∷ []) 1 (zero ∷ []) (record { inputs = 2; gates = [] })
none = record {
  inputs = refl;
  len = refl;
  size = refl;
  edges = λ j d. by_no_mark (EdgeAt (zero ∷ []) d) j;
  gates = λ j d. by_no_mark (GateAt (record { inputs = 2; gates = [] }) d) j;
  values = λ j inputs. by_no_mark (ValueAt (record { inputs = 2; gates = [] }) inputs) j;
}

one : Rebuilds three (false ∷ true ∷ true ∷ []) 2 (zero ∷ gate 0 ∷ []) only
unfolding value_of
one = record {
  inputs = refl;
  len = refl;
  size = refl;
  edges = λ j d. by_first_mark (EdgeAt (zero ∷ gate 0 ∷ []) d) refl j;
  gates = λ j d. by_first_mark (GateAt only d) refl j;
  values = λ j inputs. by_first_mark (ValueAt only inputs) refl j;
}

all : Rebuilds three (false ∷ true ∷ true ∷ []) 3 (zero ∷ gate 0 ∷ gate 1 ∷ []) two
unfolding value_of
all = record {
  inputs = refl;
  len = refl;
  size = refl;
  edges = λ j d low. by_marks (EdgeAt (zero ∷ gate 0 ∷ gate 1 ∷ []) d) refl refl j;
  gates = λ j d low. by_marks (GateAt two d) refl refl j;
  values = λ j inputs low. by_marks (ValueAt two inputs) refl refl j;
}

pub returns : goal.returns
returns c = record {
  none = none;
  one = one;
  all = all;
  too_many = λ h. apart 3 2 (omega arith) h.size;
  other_edge = λ h. false≢true (sym (ap (λ (e : Edge). e.negated)
      (h.edges 1 zero (let z : 1 < 2 = omega arith in z) refl)));
}
