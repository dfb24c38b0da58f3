use Rattle.std.proofs.Common.{◌≡◌, ◌<◌, ◌≤◌, ℕ, List, [], ◌∷◌, codes, Some, None, refl, ap, arith, lit<}
use Rattle.std.proofs.lemmas.Bool.{false≢true}
use Rattle.std.specs.Prelude.{slice_index_or}
use Rattle.std.specs.Fmt.{digits}
use Rattle.prefix.specs.declared.quant.Quant.TheVariants.{Exists, Forall}
use Rattle.calculus.specs.Derivations.Reason.{Input as ByInput}
use Rattle.files.specs.Jobs.{IsJobText}
use Rattle.solve.specs.Worked.{nothing_fits, trace_text}
use Rattle.files.specs.Worked.{anything_fits, at_nineteen}
use Rattle.solve.specs.declared.answer.Answer.TheVariants.{Sat, Unsat}
use Rattle.files.specs.declared.job.Job.TheVariants.{Trace}
use Rattle.solve.specs.Terms.{terms_of}
use Rattle.files.specs.WorkedInputs.{negated, one_text}
use Rattle.files.proofs.InputValues.{is_formula, one_says}
use Rattle.files.proofs.JobValues.{bare_is, bare_reads, circuit_length, line_length, sat, true_length, unsat, unsat_circuit}
use Rattle.solve.proofs.TraceValues.{trace_is}
use Rattle.solve.proofs.OneStep.{empty_cube, empty_proof}
use Rattle.files.proofs.NoGates.{no_gates, no_gates_certify, none}
use Rattle.files.proofs.worked.worked_jobs.Goals as goal

trace : IsJobText Trace (terms_of 0 0 512) nothing_fits Unsat trace_text
trace = record {
  witness = record { proof = record { row = []; reason = ByInput } ∷ []; values = [] };
  is_witness = record { proof = empty_proof; values = λ e. absurd (let f : None ≡ Some Forall = e in cc) };
  says = trace_is;
}

first_byte : List ℕ → ℕ
first_byte text = slice_index_or text 0 0

second_byte : List ℕ → ℕ
second_byte text = slice_index_or text 1 0

pub returns : goal.returns
unfolding first_byte second_byte digits
returns c = record {
  solved = unsat (terms_of 0 0 512) (codes "UNSAT\n") refl;
  not_solved = λ h. absurd (let f : 83 ≡ 85 = ap first_byte h.says in omega (arith, f));
  circuit_solved = unsat_circuit (terms_of 0 0 512);
  circuit_not_solved = λ h. absurd (let f : 83 ≡ 85 = ap first_byte h.says in omega (arith, f));
  circuit_unknown = refl;
  circuit_not_silent = λ e. absurd (let f : [] ≡ codes "UNKNOWN\n" = e in cc);
  traced = trace;
  not_traced = λ h. absurd (let f : 85 ≡ 112 = ap first_byte h.says.text_of_core in omega (arith, f));
  certified = record {
    witness = record { proof = record { row = []; reason = ByInput } ∷ []; values = [] };
    is_witness = record { proof = empty_cube; values = λ e. absurd (let f : None ≡ Some Exists = e in cc) };
    says = record {
      strategy = no_gates;
      denotes = record {
        input_lines = [];
        output_lines = [];
        gate_lines = [];
        input_symbols = [];
        output_symbols = [];
        lines = refl;
        named = refl;
        inputs = tt;
        outputs = tt;
        gates = tt;
        input_names = tt;
        output_names = tt;
        distinct = none;
      };
      certifies = no_gates_certify;
      reached = λ trim j within. absurd (let no : j < 0 = within in omega (arith, no));
    };
  };
  not_certified = λ h. absurd (let f : 112 ≡ 97 = ap first_byte h.says.denotes.lines in omega (arith, f));
  in_binary = record {
    witness = record { proof = record { row = []; reason = ByInput } ∷ []; values = [] };
    is_witness = record { proof = empty_cube; values = λ e. absurd (let f : None ≡ Some Exists = e in cc) };
    says = record {
      strategy = no_gates;
      denotes = record {
        output_lines = [];
        gate_bytes = [];
        input_symbols = [];
        output_symbols = [];
        whole = refl;
        named = refl;
        outputs = tt;
        gates = tt;
        distinct = none;
        input_names = tt;
        output_names = tt;
      };
      certifies = no_gates_certify;
      reached = λ trim. absurd (false≢true trim);
    };
  };
  not_in_binary = λ h. absurd (let f : 97 ≡ 105 = ap second_byte h.says.denotes.whole in omega (arith, f));
  true_line = refl;
  false_line = refl;
  unknown_line = refl;
  not_false_line = λ e. absurd (let f : codes "s cnf 0 0 1\n" ≡ codes "s cnf -1 0 1\n" = e in cc);
  values_won = refl;
  values_lost = refl;
  unknown = refl;
  not_silent = λ e. absurd (let f : [] ≡ codes "UNKNOWN\n" = e in cc);
  told = record {
    right = record { limit = lit< tt; propagation = λ _. lit< tt };
    says = refl;
    told = (at_nineteen, refl, record { budget = refl; vars = refl; few = lit< tt; restarts = omega arith });
  };
  untold = λ h. absurd (let f : [] ≡ h.told.0 ∷ [] = h.told.1 in cc);
  room = λ f a text read right says. line_length (terms_of 0 0 512) f a text says;
  no_room = λ room. absurd (let few : 6 ≤ 5 = room nothing_fits Unsat (codes "UNSAT\n") tt refl
      (unsat (terms_of 0 0 512) (codes "UNSAT\n") refl) in omega (arith, few));
  room_for_one = λ f a text read right says. true_length f a text (bare_is f read) right says;
  no_room_for_one = λ room. absurd (let few : 4 ≤ 3 = room anything_fits Sat (codes "SAT\n") bare_reads refl
      (sat (terms_of 16 0 512)) in
      omega (arith, few));
  room_for_circuit = λ f a text read right says.
      circuit_length f a text (is_formula one_text f (negated Exists) read one_says) right says;
  no_room_for_circuit = λ room. absurd (let few : 6 ≤ 4 = room nothing_fits Unsat (codes "UNSAT\n") tt refl
      (unsat_circuit (terms_of 64 0 512)) in omega (arith, few));
  kept = (refl, refl);
  not_kept = λ h. absurd (let f : codes "SAT\n" ≡ [] = h.0 in cc);
}
