-- Under values that follow the first-falsified rule of a proof an input row is bad throughout.
use Rattle.std.proofs.Common.{◌≡◌, ◌≢◌, ℕ, ◌⊎◌, Bool, true, false, cond, List, [], ◌∷◌, Contains, Some, None, is_some, option_map, unwrap_or, sym, refl, ap, ◌∙◌, inl, inr, ⊎_elim}
use Rattle.std.specs.List.{list_any}
use Rattle.std.proofs.lemmas.Bool.{cond_both, cases_Bool, cond-true, cond-false, or_cases, false≢true, true≢false}
use Rattle.prefix.specs.Literal.{Literal}
use Rattle.prefix.specs.Scopes.{Scope, all_variables, quantifier_of}
use Rattle.prefix.specs.declared.quant.Quant.{Quant}
use Rattle.truth.specs.Truth.{assumed_value}
use Rattle.calculus.specs.Derivations.{Inference, IsInput, Reason}
use Rattle.calculus.specs.Derivations.Reason.{Input, One, Two}
use Rattle.calculus.specs.Plays.{first_forced, first_of_two, forced, forced_by}
use Rattle.calculus.specs.Rows.{Assignment, IsRow, Row, bad_choice, depth_of, is_bad, is_bad_throughout, literal_over}
use Rattle.calculus.proofs.Ascending.{IsAscendingRow, rises}
use Rattle.calculus.proofs.Sound.{AreSoundSteps, IsSoundStep}
use Rattle.calculus.proofs.Lists.{contains_cons, all_at, all_from}
use Rattle.calculus.proofs.RowLemmas.{one_literal, over_at, over_from, bad_at_choice, bad_parent, IsRemoval, step_removes, some_from}

-- whether a literal is in a row, where another row with it has one literal over each variable
in_or_out : (before after : Row) → IsAscendingRow before → ((l : Literal) → Contains after l → Contains before l)
    → (l : Literal) → Contains before l → Contains after l ⊎ (is_some (literal_over after l.variable) ≡ false)
in_or_out before after up from l i =
    ⊎_elim (λ t. let r = some_from (literal_over after l.variable) t in
    let m = over_at after l.variable r.0 r.1 in
    let same : r.0 ≡ l = one_literal before up r.0 l (from r.0 m.0) i m.1 in
    inl (rw same at m.0))
    inr (cases_Bool (is_some (literal_over after l.variable)))

forced_removed : (pivot : Quant) (values : Assignment) (before after : Row) → IsAscendingRow before → (l : Literal)
    → Contains before l → is_some (literal_over after l.variable) ≡ false → is_bad_throughout pivot values after ≡ true
    → forced_by pivot values l.variable before after ≡ Some (bad_choice pivot l)
forced_removed pivot values before after up l i gone bad =
    let r = over_from before l i in
    let m = over_at before l.variable r.0 r.1 in
    let same : r.0 ≡ l = one_literal before up r.0 l m.0 i m.1 in
    let found = option_map (bad_choice pivot) (literal_over before l.variable) in
    let chosen : found ≡ Some (bad_choice pivot l) = ap (option_map (bad_choice pivot)) r.1
    ∙ ap (λ k. Some (bad_choice pivot k)) same in
    cond-false (is_some (literal_over after l.variable)) None (cond (is_bad_throughout pivot values after) found None)
    gone
    ∙ (cond-true (is_bad_throughout pivot values after) found None bad ∙ chosen)

forced_by_sober : (pivot : Quant) (values : Assignment) (x : ℕ) (before after : Row) → is_bad_throughout pivot values
    after ≡ false → forced_by pivot values x before after ≡ None
forced_by_sober pivot values x before after sober =
    let found = option_map (bad_choice pivot) (literal_over before x) in
    cond_both (is_some (literal_over after x)) None (cond (is_bad_throughout pivot values after) found None)
    (λ o. o ≡ None) (λ t. refl) (λ f. cond-false (is_bad_throughout pivot values after) found None sober)

forced_sober : (pivot : Quant) (values : Assignment) (x : ℕ) (row : Row) (reason : Reason)
    → is_bad_throughout pivot values row ≡ false → forced pivot values x row reason ≡ None
forced_sober pivot values x row Input sober = refl
forced_sober pivot values x row (One before) sober = forced_by_sober pivot values x before row sober
forced_sober pivot values x row (Two a b y) sober = refl

-- the values of the winner's free variables are those that the steps force
abbrev pub IsRuled : Quant → List Scope → List Literal → Assignment → List Inference → Type 0
IsRuled pivot scopes assumptions values steps = (x : ℕ) → Contains (all_variables scopes) x
    → quantifier_of scopes x ≢ Some pivot → assumed_value assumptions x ≡ None → values x ≡ unwrap_or
    (first_forced pivot values x steps) false

module _ (pivot : Quant) (scopes : List Scope) (clauses : List Row) (assumptions : List Literal)
    (outer : (x : ℕ) (b : Bool) → assumed_value assumptions x ≡ Some b → depth_of scopes x ≡ 1) (values : Assignment)
  where
    -- a removal with a bad result has a bad row before it
    bad_before : (before after : Row) (steps : List Inference) → IsRow scopes before
        → IsRemoval pivot scopes assumptions
        before after → is_bad_throughout pivot values after ≡ true
        → ((x : ℕ) → Contains (all_variables scopes) x → quantifier_of scopes x ≢ Some pivot
        → assumed_value assumptions x ≡ None → values x ≡ unwrap_or
        (first_of_two (forced_by pivot values x before after) (first_forced pivot values x steps)) false)
        → is_bad_throughout pivot values before ≡ true
    bad_before before after steps is_row removal bad ruled =
        all_from (is_bad pivot values) before (λ l i.
        ⊎_elim (λ j. all_at (is_bad pivot values) after bad l j)
        (λ gone.
        let out : Contains after l → ⊥ = λ j. let r = over_from after l j in
        absurd (let e : is_some (Some r.0) ≡ false = ap is_some (sym r.1) ∙ gone in cc) in
        let e = forced_removed pivot values before after (rises is_row) l i gone bad in
        let now = ruled l.variable (is_row.over_prefix l i) (removal.other_side l i out) (removal.unassumed l i out) in
        bad_at_choice pivot (values l.variable) l
        (now ∙ ap (λ o. unwrap_or (first_of_two o (first_forced pivot values l.variable steps)) false) e))
        (in_or_out before after (rises is_row) removal.from_before l i))

    -- the first bad row: an input row, as each other step hands badness to an earlier row
    first_bad : (earlier : List Row) → ((r : Row) → Contains earlier r → (is_bad_throughout pivot values r ≡ false)
        × IsRow scopes r) → (row : Row) (reason : Reason) (steps : List Inference) → IsSoundStep pivot scopes clauses
        assumptions earlier row reason → is_bad_throughout pivot values row ≡ true → IsRuled pivot scopes assumptions
        values (record { row = row; reason = reason } ∷ steps) → IsInput pivot clauses row
    first_bad earlier sober row Input steps step bad ruled = step
    first_bad earlier sober row (One before) steps step bad ruled =
        let s = sober before step.0 in
        absurd (true≢false
        (sym (bad_before before row steps s.1 (step_removes pivot scopes assumptions before row outer step.1) bad
        ruled) ∙ s.0))
    first_bad earlier sober row (Two a b x) steps step bad ruled =
        let s = sober a step.earlier_positive in
        let t = sober b step.earlier_negative in
        absurd (⊎_elim (λ e. true≢false (sym e ∙ s.0)) (λ e. true≢false (sym e ∙ t.0))
        (bad_parent pivot values a b x (rises s.1) (rises t.1) step.has_positive step.has_negative
        (rw step.result at bad)))

    pub bad_input : (earlier : List Row) → ((r : Row) → Contains earlier r → (is_bad_throughout pivot values r ≡ false)
        × IsRow scopes r) → (steps : List Inference) → AreSoundSteps pivot scopes clauses assumptions earlier steps
        → IsRuled pivot scopes assumptions values steps → list_any (λ s. is_bad_throughout pivot values s.row)
        steps ≡ true → (r : Row) × IsInput pivot clauses r × (is_bad_throughout pivot values r ≡ true) × IsRow scopes r
    bad_input earlier sober [] are ruled some = absurd (false≢true some)
    bad_input earlier sober (s ∷ steps) are ruled some =
        ⊎_elim (λ bad. (s.row, first_bad earlier sober s.row s.reason steps are.1 bad ruled, bad, are.0))
        (λ fine. bad_input (s.row ∷ earlier)
        (λ r i. ⊎_elim (λ e. (rw (← e) fine, rw (← e) are.0)) (λ j. sober r j) (contains_cons s.row earlier r i))
        steps are.2
        (λ x i q n. ruled x i q n ∙ ap (λ o. unwrap_or (first_of_two o (first_forced pivot values x steps)) false)
        (forced_sober pivot values x s.row s.reason fine))
        (⊎_elim (λ t. absurd (true≢false (sym t ∙ fine))) (λ t. t)
        (or_cases (is_bad_throughout pivot values s.row) (list_any (λ s. is_bad_throughout pivot values s.row) steps)
        some)))
        (cases_Bool (is_bad_throughout pivot values s.row))
