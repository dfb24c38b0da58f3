-- Worked values: what a status says of a circuit, valid circuits, and both flags together.
use Rattle.std.proofs.Common.{◌≡◌, ◌<◌, ◌-◌, ◌^◌, Bool, true, false, List, [], ◌∷◌, codes, None, ap, inl, refl, sym, subst, arith}
use Rattle.std.specs.Fmt.{digits}
use Rattle.std.proofs.lemmas.List.Sorted.{IsPermutation-refl}
use Rattle.prefix.specs.declared.quant.Quant.TheVariants.{Exists, Forall}
use Rattle.steps.specs.Counter.{step_limit}
use Rattle.truth.specs.declared.formula.Formula.{Formula}
use Rattle.search.specs.Counting.{size_of}
use Rattle.qcir.specs.declared.circuit.Circuit.{Circuit}
use Rattle.qcir.specs.Truth.{circuit_truth}
use Rattle.qcir_reader.specs.Rules.{parsed as circuit, refused as circuit_refused}
use Rattle.qcir_reader.specs.Reads.{Reads as ReadsCircuit}
use Rattle.qcir_reader.proofs.Complete.{one_outcome}
use Rattle.qscript.specs.Reads.{done}
use Rattle.command.specs.Forms.{AsksInput, Flag, HasNoForm, Text, is_qcir, is_qdo, name_in, verb_flags, verb_word}
use Rattle.command.specs.Forms.Flag.{the_binary, the_decide, the_qcir, the_qdo, the_trim}
use Rattle.command.specs.Forms.Part.{flag_part}
use Rattle.command.specs.declared.command.Command.TheVariants.{Demo, Gen, Read}
use Rattle.command.specs.declared.command.SolveForm.{SolveForm}
use Rattle.command.specs.declared.command.SolveForm.TheVariants.{Plain, Qcir, Qdo}
use Rattle.command.specs.declared.command.Verb.{Verb}
use Rattle.command.specs.declared.command.Verb.TheVariants.{Cert, Check, Script, Solve, Trace}
use Rattle.command.proofs.AccountLemmas.{one_input}
use Rattle.solve.specs.declared.answer.Answer.TheVariants.{Sat}
use Rattle.files.specs.Inputs.{Says}
use Rattle.files.specs.Inputs.Format.{as_circuit}
use Rattle.files.specs.Solve.{OfAnswer, Solves}
use Rattle.files.specs.WorkedInputs.{each_text, formula_text, negated, one_text}
use Rattle.files.proofs.InputValues.{alone, each_reads, formula_refused, is_circuit, is_formula, one_reads, one_says}
use Rattle.qdimacs.specs.Rules.{refused}
use Rattle.program.specs.Asked.{AskedSample, IsSample, task_of}
use Rattle.program.specs.Complete.{IsValid, IsValidFor}
use Rattle.program.specs.Run.{EndsIn, HasTruth, IsBeyond, IsErrorLine, IsRefused, IsRefusedScript, IsUndecidedCheck, IsVerdict}
use Rattle.program.proofs.Solving.{other_verdict}
use Rattle.program.proofs.WorkedVerdicts.{holds}
use Rattle.program.proofs.WorkedWords.{asks_circuit, circuit_words, decide_circuit, either_of_circuit, first_one, letter, no_check_of_circuit, of_circuit, only_circuit, to_circuit, whole}

-- a circuit's truth is that of the one circuit which the text is
true_is : (value : Bool) → HasTruth as_circuit one_text value → value ≡ true
true_is value (c, reads, is) =
    sym (subst (λ (d : Circuit). circuit_truth d ≡ value) (is_circuit one_text c (alone Exists) reads one_reads) is)

false_is : (value : Bool) → HasTruth as_circuit each_text value → value ≡ false
false_is value (c, reads, is) =
    sym (subst (λ (d : Circuit). circuit_truth d ≡ value) (is_circuit each_text c (alone Forall) reads each_reads) is)

-- a true circuit has status 10
pub answered_true : IsVerdict circuit_words (holds one_text) 10
answered_true = record {
  sat = λ _. to_circuit (holds one_text) (λ format terms text. HasTruth format text true)
      (alone Exists, one_reads, refl);
  unsat = λ e. absurd (omega (arith, e));
  unknown = λ e. absurd (omega (arith, e));
  slow = λ e. absurd (omega (arith, e));
  solved = λ _. inl (inl (inl (to_circuit (holds one_text)
      (λ format terms text. OfAnswer 10 (Solves format terms text)) (Sat, refl, (negated Exists, one_says, refl)))));
  refused = λ e. absurd (omega (arith, e));
  limit = λ e. absurd (omega (arith, e));
  usage = λ e. absurd (omega (arith, e));
  unasked = λ none. absurd (none decide_circuit asks_circuit);
}

-- a false one hasn't, nor a true one 20
pub false_as_true : IsVerdict circuit_words (holds each_text) 10 → ⊥
false_as_true h = absurd (let is : true ≡ false = false_is true (of_circuit (holds each_text)
    (λ format terms text. HasTruth format text true) (h.sat refl)) in cc)

pub true_as_false : IsVerdict circuit_words (holds one_text) 20 → ⊥
true_as_false h = absurd (let is : false ≡ true = true_is false (of_circuit (holds one_text)
    (λ format terms text. HasTruth format text false) (h.unsat refl)) in cc)

-- nor has one that is decided within the budget 0
no_sample : AskedSample circuit_words → ⊥
no_sample (c, asks, is) = subst (λ d. IsSample (task_of d)) (only_circuit c asks) is

pub true_as_unknown : IsVerdict circuit_words (holds one_text) 0 → ⊥
true_as_unknown h =
    let any = first_one (h.unknown refl) (no_check_of_circuit (holds one_text) IsUndecidedCheck) in
    let beyond = either_of_circuit (holds one_text) IsBeyond (λ terms text. EndsIn text done)
    (first_one any no_sample) in
    let low : 2 ^ 64 - 1 < 64 = subst (λ (g : Formula). whole < step_limit 0 (size_of g.prefix))
    (is_formula one_text beyond.0 (negated Exists) beyond.1 one_says) beyond.2 in omega (arith, low)

-- a formula is no circuit: it is refused by the number of circuits
pub answered_refused : IsVerdict circuit_words (holds formula_text) 2
answered_refused = other_verdict circuit_words (holds formula_text) 2 refl
    (λ _. inl (to_circuit (holds formula_text) (λ format terms text. IsRefused format text) (70, 1, formula_refused)))
    (λ e. absurd (omega (arith, e))) (λ e. absurd (omega (arith, e)))
    (λ none. absurd (none decide_circuit asks_circuit))

pub refused_says : IsErrorLine circuit_words (holds formula_text) 2 (codes "qbf: line 1: refused 70\n")
unfolding digits
refused_says = record {
  refused = λ _. (
    70,
    1,
    refl,
    inl (to_circuit (holds formula_text)
        (λ format terms text. Says format text (refused 70 1)) formula_refused),
  );
  limit = λ e. absurd (omega (arith, e));
  other = λ n _ _. absurd (n refl);
}

pub true_as_refused : IsVerdict circuit_words (holds one_text) 2 → ⊥
true_as_refused h =
    let is = either_of_circuit (holds one_text) (λ format terms text. IsRefused format text)
    (λ terms text. IsRefusedScript text) (h.refused refl) in
    absurd (let same : circuit (alone Exists) ≡ circuit_refused is.0 is.1 =
    one_outcome one_text (circuit (alone Exists)) (circuit_refused is.0 is.1) one_reads is.2 in cc)

-- circuits are valid inputs for `--qcir`, and formulas aren't
pub valid_circuit : IsValid circuit_words (holds one_text)
valid_circuit = record {
  command = decide_circuit;
  asks = asks_circuit;
  valid = λ c asks. subst (λ d. IsValidFor (task_of d) (holds one_text)) (sym (only_circuit c asks)) (
    alone Exists,
    one_reads,
  );
}

no_circuit : (c : Circuit) × ReadsCircuit formula_text (circuit c) → ⊥
no_circuit (c, reads) = absurd (let same : circuit_refused 70 1 ≡ circuit c =
    one_outcome formula_text (circuit_refused 70 1) (circuit c) formula_refused reads in cc)

pub formula_invalid : IsValid circuit_words (holds formula_text) → ⊥
formula_invalid h = no_circuit (h.valid decide_circuit asks_circuit)

-- `--qdo` and `--qcir` together ask for no command
abbrev pub both_words : List Text
both_words = codes "qbf" ∷ codes "solve" ∷ codes "--qdo" ∷ codes "--qcir" ∷ []

abbrev both : Flag → Bool
both the_qdo = true
both the_qcir = true
both the_binary = false
both the_trim = false
both the_decide = false

has_both : AsksInput (codes "solve") both_words whole 0 512 both None
has_both = (
  codes "qbf",
  codes "--qdo" ∷ codes "--qcir" ∷ [],
  refl,
  record {
    budget_parts = [];
    restarts_parts = [];
    kept_parts = [];
    name_parts = [];
    gives_budget = inl (refl, refl);
    gives_restarts = inl (refl, refl);
    gives_kept = inl (refl, refl);
    gives_name = refl;
    in_any_order = record {
      order = flag_part the_qdo ∷ flag_part the_qcir ∷ [];
      permutation = IsPermutation-refl (flag_part the_qdo ∷ flag_part the_qcir ∷ []);
      words_are = refl;
    };
  },
)

no_form : (form : SolveForm) → is_qdo form ≡ true → is_qcir form ≡ true → ⊥
no_form Plain qdo qcir = absurd (let no : false ≡ true = qdo in cc)
no_form Qdo qdo qcir = absurd (let no : false ≡ true = qcir in cc)
no_form Qcir qdo qcir = absurd (let no : false ≡ true = qdo in cc)

abbrev second : List Text → Text
second [] = []
second (w ∷ []) = []
second (w ∷ v ∷ rest) = v

no_verb : (v : Verb) → verb_word v ≡ codes "solve" → ((f : Flag) → verb_flags v f ≡ both f) → ⊥
no_verb (Solve form) word flags = no_form form (flags the_qdo) (flags the_qcir)
no_verb Trace word flags = let no : 114 ≡ 111 = ap (letter 1) word in omega (arith, no)
no_verb (Cert binary trim) word flags = let no : 101 ≡ 111 = ap (letter 1) word in omega (arith, no)
no_verb (Check decide) word flags = let no : 104 ≡ 111 = ap (letter 1) word in omega (arith, no)
no_verb Script word flags = let no : 99 ≡ 111 = ap (letter 1) word in omega (arith, no)

pub none_for_both : HasNoForm both_words
none_for_both (Read v i) asks =
    let same = one_input both_words _ _ i.budget whole i.restarts 0 i.kept 512 (verb_flags v) both (name_in i) None
    asks has_both in
    no_verb v same.0 same.4
none_for_both (Gen seed vars clauses) asks =
    absurd (let no : 111 ≡ 101 = ap (λ words. letter 1 (second words)) asks.0.1 in omega (arith, no))
none_for_both (Demo seed count) asks =
    absurd (let no : 111 ≡ 101 = ap (λ words. letter 1 (second words)) asks.0.1 in omega (arith, no))
