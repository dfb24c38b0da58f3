-- Worked values of traces: a proof of one step, which is an input.
use Rattle.std.proofs.Common.{◌≡◌, ◌∙◌, ℕ, true, false, List, [], ◌∷◌, length, refl, ap, ap₂, subst, arith}
use Rattle.std.specs.Fmt.{digits}
use Rattle.prefix.specs.declared.quant.Quant.{Quant}
use Rattle.prefix.specs.declared.quant.Quant.TheVariants.{Exists, Forall}
use Rattle.prefix.specs.Scopes.{Scope}
use Rattle.calculus.specs.Derivations.{Inference}
use Rattle.calculus.specs.Derivations.Reason.{Input as ByInput, One as ByOne, Two as ByTwo}
use Rattle.calculus.specs.Rows.{Row}
use Rattle.calculus.specs.Worked.{existential}
use Rattle.step_core.specs.declared.listing.Line.{Line}
use Rattle.step_core.specs.declared.listing.CoreStep.{CoreStep}
use Rattle.step_core.specs.declared.listing.CoreStep.TheVariants.{Input, One, Two}
use Rattle.step_core.specs.Cores.{IsNumbered, RestsOnNumber, Trace, core_rows, inference_from, inferences_of, reason_by, row_numbered, step_numbered}
use Rattle.qrp_trace.specs.Texts.{qrp_text}
use Rattle.solve.specs.Traces.{IsTraceText}
use Rattle.solve.specs.Worked.{by_itself, trace_text}

abbrev pub one_input : List Line
one_input = record { lits = []; step = Input } ∷ []

pub numbered : IsNumbered one_input
numbered = record {
  earlier = λ i k low high rests. absurd (subst (λ n. RestsOnNumber (step_numbered one_input n) k)
      (let one : i ≡ 1 = omega arith in one) rests);
  used = λ k low high. absurd (omega (arith, low, high));
}

pub trace_is : IsTraceText [] false by_itself trace_text
unfolding digits
trace_is = record {
  core = record { winner = Forall; lines = one_input };
  winner = refl;
  numbered = numbered;
  proof_steps = refl;
  inputs_first = refl;
  text_of_core = refl;
}

-- how long a list is, up to three
abbrev capped : {A : Type 0} → List A → ℕ
capped [] = 0
capped (x ∷ []) = 1
capped (x ∷ y ∷ []) = 2
capped (x ∷ y ∷ z ∷ xs) = 3

-- the step of an input
by_input : (rows : List Row) (step : CoreStep) → reason_by rows step ≡ ByInput → step ≡ Input
by_input rows Input e = refl
by_input rows (One k) e = absurd (let f : ByOne (row_numbered rows k) ≡ ByInput = e in cc)
by_input rows (Two p n x) e =
    absurd (let f : ByTwo (row_numbered rows p) (row_numbered rows n) x ≡ ByInput = e in cc)

line_is : (rows : List Row) (l : Line) → inference_from rows l ≡ record { row = []; reason = ByInput }
    → l ≡ record { lits = []; step = Input }
line_is rows l e = ap₂ (λ (lits : Row) (step : CoreStep). record { lits = lits; step = step })
    (ap (λ (s : Inference). s.row) e) (by_input rows l.step (ap (λ (s : Inference). s.reason) e))

one_line : (lines : List Line) → inferences_of lines ≡ by_itself → lines ≡ one_input
one_line [] e = absurd (let n : 0 ≡ 1 = ap capped e in omega (arith, n))
one_line (l ∷ []) e =
    let same : inference_from (core_rows (l ∷ [])) l ∷ [] ≡ record { row = []; reason = ByInput } ∷ [] = e in
    let first : inference_from (core_rows (l ∷ [])) l ≡ record { row = []; reason = ByInput } = cc in
    ap (λ m. m ∷ []) (line_is (core_rows (l ∷ [])) l first)
one_line (l ∷ m ∷ []) e = absurd (let n : 2 ≡ 1 = ap capped e in omega (arith, n))
one_line (l ∷ m ∷ k ∷ lines) e = absurd (let n : 3 ≡ 1 = ap capped e in omega (arith, n))

no_line : (lines : List Line) → inferences_of lines ≡ [] → lines ≡ []
no_line [] e = refl
no_line (l ∷ []) e = absurd (let n : 1 ≡ 0 = ap capped e in omega (arith, n))
no_line (l ∷ m ∷ []) e = absurd (let n : 2 ≡ 0 = ap capped e in omega (arith, n))
no_line (l ∷ m ∷ k ∷ lines) e = absurd (let n : 3 ≡ 0 = ap capped e in omega (arith, n))

two_lines : (lines : List Line)
    → inferences_of lines ≡ record { row = []; reason = ByInput } ∷ record { row = []; reason = ByInput } ∷ []
    → (length lines ≡ 2) × (step_numbered lines 2 ≡ Input)
two_lines [] e = absurd (let n : 0 ≡ 2 = ap capped e in omega (arith, n))
two_lines (l ∷ []) e = absurd (let n : 1 ≡ 2 = ap capped e in omega (arith, n))
two_lines (l ∷ m ∷ []) e =
    let rows = core_rows (l ∷ m ∷ []) in
    let same : inference_from rows l ∷ inference_from rows m ∷ []
    ≡ record { row = []; reason = ByInput } ∷ record { row = []; reason = ByInput } ∷ [] = e in
    let second : inference_from rows m ≡ record { row = []; reason = ByInput } = cc in
    (refl, ap (λ (k : Line). k.step) (line_is rows m second))
two_lines (l ∷ m ∷ k ∷ lines) e = absurd (let n : 3 ≡ 2 = ap capped e in omega (arith, n))

-- the text of a core is that of its winner and its steps
text_is : (scopes : List Scope) (core : Trace) (winner : Quant) (lines : List Line) → core.winner ≡ winner
    → core.lines ≡ lines → qrp_text scopes core ≡ qrp_text scopes (record { winner = winner; lines = lines })
text_is scopes core winner lines first second =
    ap₂ (λ (w : Quant) (l : List Line). qrp_text scopes (record { winner = w; lines = l })) first second

length_is : (text : List ℕ) (n : ℕ) → length text ≡ n → trace_text ≡ text → 24 ≡ n
length_is text n long same = ap (λ (t : List ℕ). length t) same ∙ long

sat_long : length (qrp_text [] (record { winner = Exists; lines = one_input })) ≡ 22
unfolding digits
sat_long = refl

bare_long : length (qrp_text [] (record { winner = Forall; lines = [] })) ≡ 18
unfolding digits
bare_long = refl

bound_long : length (qrp_text (existential (1 ∷ []) ∷ []) (record { winner = Forall; lines = one_input })) ≡ 30
unfolding digits
bound_long = refl

pub other_winner : IsTraceText [] true by_itself trace_text → ⊥
other_winner h =
    let n : 24 ≡ 22 = length_is _ 22 sat_long
    (h.text_of_core ∙ text_is [] h.core Exists one_input h.winner (one_line h.core.lines h.proof_steps)) in
    omega (arith, n)

pub other_proof : IsTraceText [] false [] trace_text → ⊥
other_proof h =
    let n : 24 ≡ 18 = length_is _ 18 bare_long
    (h.text_of_core ∙ text_is [] h.core Forall [] h.winner (no_line h.core.lines h.proof_steps)) in
    omega (arith, n)

pub other_prefix : IsTraceText (existential (1 ∷ []) ∷ []) false by_itself trace_text → ⊥
other_prefix h =
    let n : 24 ≡ 30 = length_is _ 30 bound_long
    (h.text_of_core ∙ text_is (existential (1 ∷ []) ∷ []) h.core Forall one_input h.winner
    (one_line h.core.lines h.proof_steps)) in
    omega (arith, n)

pub unused_step : (text : List ℕ)
    → IsTraceText [] false (record { row = []; reason = ByInput } ∷ record { row = []; reason = ByInput } ∷ []) text
    → ⊥
unused_step text h =
    let lines = h.core.lines in
    let two = two_lines lines h.proof_steps in
    let long = two.0 in
    let used = h.numbered.used 1 (omega arith) (omega (arith, long)) in
    let later = used.later in
    let within = used.within in
    let by : used.by ≡ 2 = omega (arith, long, later, within) in
    subst (λ (step : CoreStep). RestsOnNumber step 1) two.1
    (subst (λ n. RestsOnNumber (step_numbered lines n) 1) by used.rests)
