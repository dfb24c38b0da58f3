use Rattle.std.proofs.Common.{◌≡◌, ◌<◌, ℕ, true, false, List, [], ◌∷◌, codes, Some, None, refl, ap, arith, lit<}
use Rattle.std.proofs.lemmas.Bool.{true≢false}
use Rattle.std.specs.Prelude.{slice_index_or}
use Rattle.std.specs.Fmt.{digits}
use Rattle.prefix.specs.declared.quant.Quant.TheVariants.{Exists}
use Rattle.calculus.specs.Derivations.Reason.{Input}
use Rattle.files.specs.Checks.{HasCircuit}
use Rattle.solve.specs.Terms.{terms_of}
use Rattle.files.specs.Worked.{anything_fits, at_nineteen}
use Rattle.solve.proofs.OneStep.{empty_cube}
use Rattle.files.proofs.NoGates.{no_gates, no_gates_certify}
use Rattle.files.proofs.worked.worked_checks.Goals as goal

certified : HasCircuit (terms_of 0 0 512) anything_fits true no_gates
certified = record {
  right = refl;
  strategy = record { inputs = refl; outputs = λ i o below. absurd (let no : i < 0 = below in omega (arith, no)) };
  witness = record { proof = record { row = []; reason = Input } ∷ []; values = [] };
  is_witness = record { proof = empty_cube; values = λ e. absurd (let f : None ≡ Some Exists = e in cc) };
  certifies = no_gates_certify;
}

first_byte : List ℕ → ℕ
first_byte text = slice_index_or text 0 0

pub returns : goal.returns
unfolding first_byte digits
returns c = record {
  written = record {
    circuit = no_gates;
    certified = certified;
    within = refl;
    unsatisfiable = refl;
    is = record { says = refl; told = refl };
  };
  not_decided = λ h. absurd (let f : 87 ≡ 112 = ap first_byte h.is.says in omega (arith, f));
  decided = record {
    circuit = no_gates;
    certified = certified;
    within = refl;
    unsatisfiable = refl;
    is = record { says = refl; told = refl };
  };
  not_written = λ h. absurd (let f : 112 ≡ 87 = ap first_byte h.is.says in omega (arith, f));
  not_false = λ h. absurd (true≢false h.certified.right);
  unknown = record {
    short = record { limit = lit< tt; propagation = λ _. lit< tt };
    says = refl;
    told = (at_nineteen, refl, record { budget = refl; vars = refl; few = lit< tt; restarts = omega arith });
  };
  untold = λ h. absurd (let f : [] ≡ h.told.0 ∷ [] = h.told.1 in cc);
  undecided = record {
    asked = refl;
    short = record { limit = lit< tt; propagation = λ _. lit< tt };
    says = refl;
    told = (at_nineteen, refl, record { budget = refl; vars = refl; few = lit< tt; restarts = omega arith });
  };
  not_won = λ h. absurd (let f : 87 ≡ 85 = ap first_byte h.says in omega (arith, f));
  not_asked = λ h. absurd (let f : false ≡ true = h.asked in cc);
  ends = refl;
  ends_undecided = refl;
  ends_beyond = refl;
  kept = (refl, refl);
  not_kept = λ h. absurd (let f : codes "WINS\n" ≡ [] = h.0 in cc);
}
