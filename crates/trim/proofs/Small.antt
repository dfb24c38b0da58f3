-- The small strategies of the worked values, by cases.
use Rattle.std.proofs.Common.{◌≡◌, ℕ, zero, suc, ◌<◌, ◌⊎◌, inl, inr, ⊎_elim, true, false, [], ◌∷◌, get_or, Contains, refl, sym, ap, subst, ◌∙◌, arith}
use Rattle.std.proofs.lemmas.Bool.{false≢true}
use Rattle.aig.specs.Circuits.{opposite}
use Rattle.aig.specs.Worked.{gate}
use Rattle.aig.specs.declared.edge.And.{And}
use Rattle.aig.specs.declared.edge.Node.{Node}
use Rattle.aig.specs.declared.edge.Node.TheVariants.{Constant, Input, Gate}
use Rattle.aig.specs.declared.strategy.Output.{Output}
use Rattle.trim.specs.Trimmed.{IsAt, IsOver, IsReached}
use Rattle.trim.specs.Trimmed.IsReached.{of_output, of_gate}
use Rattle.trim.specs.Marks.{is_marked}
use Rattle.trim.specs.Worked.{three, untrimmed}
use Rattle.trim.proofs.Lists.{contains_cons, contains_head, contains_nil, contains_tail}

pub apart : (m n : ℕ) → n < m → m ≡ n → ⊥
apart m n h e = omega arith

abbrev pub gate_number : Node → ℕ
gate_number Constant = 0
gate_number (Input i) = 0
gate_number (Gate j) = j

pub no_gate_of_input : (i j : ℕ) → Input i ≡ Gate j → ⊥
no_gate_of_input i j e = absurd (cc)

-- the outputs of the strategy with three gates
abbrev pub third_var : Output
third_var = record { var = 3; edge = opposite (gate 2) }

abbrev pub fourth_var : Output
fourth_var = record { var = 4; edge = gate 1 }

pub upper_reached : IsReached untrimmed 2
upper_reached = of_output third_var 2 (contains_head third_var (fourth_var ∷ [])) refl

pub middle_reached : IsReached untrimmed 1
middle_reached =
    of_output fourth_var 1 (contains_tail third_var (fourth_var ∷ []) fourth_var (contains_head fourth_var [])) refl

pub output_cases : (o : Output) → Contains (third_var ∷ fourth_var ∷ []) o → (third_var ≡ o) ⊎ (fourth_var ≡ o)
output_cases o c =
    ⊎_elim (λ (e : third_var ≡ o). inl e)
    (λ d. ⊎_elim (λ (e : fourth_var ≡ o). inr e) (λ n. absurd (contains_nil o n)) (contains_cons fourth_var [] o d))
    (contains_cons third_var (fourth_var ∷ []) o c)

pub output_gate : (o : Output) (j : ℕ) → Contains (third_var ∷ fourth_var ∷ []) o → o.edge.node ≡ Gate j
    → (2 ≡ j) ⊎ (1 ≡ j)
output_gate o j c e =
    ⊎_elim (λ (i : third_var ≡ o). inl (ap (λ (p : Output). gate_number p.edge.node) i ∙ ap gate_number e))
    (λ (i : fourth_var ≡ o). inr (ap (λ (p : Output). gate_number p.edge.node) i ∙ ap gate_number e))
    (output_cases o c)

over_at : (k j : ℕ) (d : And) → k < 3 → IsOver (get_or three.gates k d) j → 1 ≡ j
over_at zero j d h (inl e) = absurd (no_gate_of_input 1 j e)
over_at zero j d h (inr e) = absurd (no_gate_of_input 0 j e)
over_at (suc zero) j d h (inl e) = absurd (no_gate_of_input 1 j e)
over_at (suc zero) j d h (inr e) = absurd (no_gate_of_input 0 j e)
over_at (suc (suc zero)) j d h (inl e) = ap gate_number e
over_at (suc (suc zero)) j d h (inr e) = absurd (no_gate_of_input 0 j e)
over_at (suc (suc (suc k))) j d h over = absurd (omega arith)

-- of the three gates only the second has one over it
pub gate_over : (g : And) (k j : ℕ) → IsAt three.gates k g → IsOver g j → 1 ≡ j
gate_over g k j at over = over_at k j g at.0 (subst (λ (h : And). IsOver h j) (sym at.1) over)

pub reached_cases : (j : ℕ) → IsReached untrimmed j → (2 ≡ j) ⊎ (1 ≡ j)
reached_cases j (of_output o k c e) = output_gate o j c e
reached_cases j (of_gate g k i r at over) = inr (gate_over g k j at over)

pub lowest_not_reached : IsReached untrimmed 0 → ⊥
lowest_not_reached r =
    ⊎_elim (λ (e : 2 ≡ 0). apart 2 0 (omega arith) e) (λ (e : 1 ≡ 0). apart 1 0 (omega arith) e) (reached_cases 0 r)

-- what holds of the marked places
pub by_marks : (P : ℕ → Type 0) → P 1 → P 2 → (j : ℕ) → is_marked (false ∷ true ∷ true ∷ []) j ≡ true → P j
by_marks P p q zero m = absurd (false≢true m)
by_marks P p q (suc zero) m = p
by_marks P p q (suc (suc zero)) m = q
by_marks P p q (suc (suc (suc j))) m = absurd (false≢true m)

pub by_first_mark : (P : ℕ → Type 0) → P 1 → (j : ℕ) → j < 2 → is_marked (false ∷ true ∷ true ∷ []) j ≡ true → P j
by_first_mark P p zero h m = absurd (false≢true m)
by_first_mark P p (suc zero) h m = p
by_first_mark P p (suc (suc j)) h m = absurd (omega arith)

pub by_no_mark : (P : ℕ → Type 0) (j : ℕ) → j < 1 → is_marked (false ∷ true ∷ true ∷ []) j ≡ true → P j
by_no_mark P zero h m = absurd (false≢true m)
by_no_mark P (suc j) h m = absurd (omega arith)
