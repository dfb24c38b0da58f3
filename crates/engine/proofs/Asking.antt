-- What the proof of a verdict says of assumptions and of the values of the first scope.
use Rattle.std.proofs.Common.{◌≡◌, ◌≢◌, ℕ, ◌+◌, Bool, true, false, not, List, [], ◌∷◌, Contains, Option, Some, None, option_map, is_some, unwrap_or, nat_eq, refl, sym, ap, ap₂, ◌∙◌, subst, ⊎_elim}
use Rattle.std.specs.Prelude.{◌==◌, if◌then◌else◌, IfSome, map}
use Rattle.std.specs.List.{list_all}
use Rattle.std.specs.Option.{option_and_then}
use Rattle.std.proofs.lemmas.Bool.{cases_Bool, cond_both, cond-false, cond-true, eq-eqb, eqb-true, true≢false}
use Rattle.prefix.specs.declared.quant.Quant.{Quant}
use Rattle.prefix.specs.declared.quant.Quant.TheVariants.{Exists, Forall}
use Rattle.prefix.specs.Literal.{Literal}
use Rattle.prefix.specs.Scopes.{AreDistinct, Scope, all_variables, depth_of, is_among, level_of, quantifier_at, quantifier_of, variables_at}
use Rattle.truth.specs.Truth.{assumed_value}
use Rattle.calculus.specs.Derivations.{Inference, IsDerivation, IsLegalStep, Reason, Step, Why, reason_of, row_at, side_core}
use Rattle.calculus.specs.Derivations.Reason.{One}
use Rattle.calculus.specs.Derivations.Why.{Given, ReducedFrom, ResolvedFrom, FinishedFrom}
use Rattle.calculus.specs.DerivationTheorems.{IsItsCore, StepsHaveCores}
use Rattle.calculus.specs.Plays.{Follows, literals_of, first_of_two, forced, forced_by}
use Rattle.calculus.specs.PlayTheorems.{LastStepsDecide, PlaysExist}
use Rattle.calculus.specs.Rows.{Assignment, Row, bad_choice, is_bad, is_bad_at, is_bad_throughout, literal_over, reduce}
use Rattle.calculus.specs.Verdicts.{AreOuter, EndsInFinish, IsDecided, finished, is_assumed, last_reason, relevant_of}
use Rattle.calculus.specs.VerdictTheorems.{EndRowsGiveProofs, FirstValuesDecide, ProofsDecide, RelevantOnesDecide}
use Rattle.calculus.proofs.Levels.{assumption_of, first_depth, level_in_prefix, one_quantifier, outer_level}
use Rattle.calculus.proofs.Lists.{all_at, all_from, among_from, contains_nil, filter_all, filter_at}
use Rattle.calculus.proofs.RowLemmas.{over_at, over_from, reduction_removes}
use Rattle.calculus.proofs.StepLemmas.{row_at_step}
use Rattle.calculus.proofs.Verdict.{option_cases}
use Rattle.derive.specs.State.{Note, State, is_finish, may_be_antecedent, note_at, row_of, steps_of, why_at, why_in}
use Rattle.derive.specs.Theorems.{StepsAreListed}
use Rattle.frames.specs.State.{OpenFormula, open_clauses}
use Rattle.step_core.specs.Cores.{step_under}
use Rattle.engine.specs.declared.verdict.Held.{Held}
use Rattle.engine.proofs.FirstScope.{first_among, value_among}
use Rattle.engine.specs.Asks.{PlaysFirst, Decides, IsVerdictOf, first_value, first_values, removed_value, values_of}
use Rattle.engine.specs.Kept.{IsFound, IsHeld}
use Rattle.engine.specs.Refusals.{winner_of}
use Rattle.engine.specs.State.{VerdictState}
use Rattle.engine.specs.Verdicts.{loser_of, told}
use Rattle.engine.proofs.Telling.{holds, side_is, told_ends, truth_again}

-- the first scope

pub level_first : (scopes : List Scope) (x : ℕ) → Contains (variables_at scopes 1) x → level_of scopes x ≡ Some 1
level_first [] x i = absurd (contains_nil x i)
level_first (s ∷ ss) x i = cond-true (is_among x s.variables) (Some 1) (option_map (λ (n : ℕ). n + 1) (level_of ss x))
    (among_from s.variables x i)

pub level_is : (o : Option ℕ) → (unwrap_or o 0 == 1) ≡ true → o ≡ Some 1
level_is None e = absurd (let f : false ≡ true = e in cc)
level_is (Some n) e = ap Some (eqb-true n 1 e)

winner_apart : (t : Bool) (q : Quant) → q ≡ winner_of t → q ≡ loser_of t → ⊥
winner_apart true q w l = absurd (let e : Exists ≡ Forall = sym w ∙ l in cc)
winner_apart false q w l = absurd (let e : Forall ≡ Exists = sym w ∙ l in cc)

some_apart : (t : Bool) → Some (winner_of t) ≡ Some (loser_of t) → ⊥
some_apart t e = winner_apart t (winner_of t) refl (let f : winner_of t ≡ loser_of t = cc in f)

-- a variable of the first scope isn't the loser's where that scope is the winner's
pub not_losers : (scopes : List Scope) (t : Bool) (x : ℕ) → level_of scopes x ≡ Some 1
    → quantifier_at scopes 1 ≡ Some (winner_of t) → quantifier_of scopes x ≢ Some (loser_of t)
not_losers scopes t x first won e =
    some_apart t (sym won ∙ sym (ap (option_and_then (quantifier_at scopes)) first) ∙ e)

-- what is known of a verdict

-- what is held says it of the verdict that contracts see
pub told_holds : (f : OpenFormula) (d : State) (held : Option Held) → AreDistinct (all_variables f.scopes)
    → IsDerivation f.scopes (open_clauses f) (steps_of d) → IfSome held (IsHeld f d)
    → EndRowsGiveProofs → ProofsDecide → StepsAreListed → IfSome (option_map (told d) held) (IsVerdictOf f)
told_holds f d None distinct legal is gives decide listed = tt
told_holds f d (Some held) distinct legal is gives decide listed =
    holds f d held distinct legal is.found gives decide listed

pub relevant_decide : (f : OpenFormula) (v : Option VerdictState) (list : List Literal)
    → AreDistinct (all_variables f.scopes) → RelevantOnesDecide → IfSome v (IsVerdictOf f)
    → IfSome v (λ (w : VerdictState). list ≡ relevant_of w.assumptions w.row)
    → IfSome v (λ (w : VerdictState). Decides f w list)
relevant_decide f None list distinct decide is same = tt
relevant_decide f (Some v) list distinct decide is same =
    subst (λ (ls : List Literal). Decides f v ls) (sym same)
    (subst (λ (row : Row). Decides f v (relevant_of v.assumptions row)) is.last_row
    (decide (loser_of v.truth) f.scopes (open_clauses f) v.assumptions v.proof distinct is.outer is.proof
    ∙ truth_again v.truth))

variables_are : (values : Assignment) (xs : List ℕ) → map (λ (l : Literal). l.variable) (literals_of values xs) ≡ xs
variables_are values [] = refl
variables_are values (x ∷ xs) = ap (λ ys. x ∷ ys) (variables_are values xs)

module _ (f : OpenFormula) (v : VerdictState) (distinct : AreDistinct (all_variables f.scopes)) (is : IsVerdictOf f v)
    (exist : PlaysExist) where
  pub plays : Follows (loser_of v.truth) f.scopes v.assumptions v.proof (values_of f v)
  plays = (exist (loser_of v.truth) f.scopes (open_clauses f) v.assumptions v.proof (λ _. false) distinct is.outer
      is.proof).0

  pub first_decide : FirstValuesDecide → quantifier_at f.scopes 1 ≡ Some (winner_of v.truth)
      → Decides f v (first_values f v)
  first_decide decide won = decide (loser_of v.truth) f.scopes (open_clauses f) v.assumptions v.proof
      (values_of f v) distinct is.outer is.proof
      (λ x i. not_losers f.scopes v.truth x (level_first f.scopes x i) won) plays
      ∙ truth_again v.truth

  pub plays_first : FirstValuesDecide → PlaysFirst f v
  plays_first decide won = record {
    variables = variables_are (values_of f v) (variables_at f.scopes 1);
    assumed = λ x b given.
        let r = assumption_of v.assumptions x b given in
        let one : level_of f.scopes x ≡ Some 1 = rw r.2 at (is.outer r.0 r.1) in
        value_among (values_of f v) (variables_at f.scopes 1) x (first_among f.scopes x one)
        ∙ ap Some (plays.given x b given (not_losers f.scopes v.truth x one won));
    decide = first_decide decide won;
  }

pub verdict_plays : (f : OpenFormula) (v : Option VerdictState) → AreDistinct (all_variables f.scopes) → PlaysExist
    → FirstValuesDecide → IfSome v (IsVerdictOf f) → IfSome v (PlaysFirst f)
verdict_plays f None distinct exist decide is = tt
verdict_plays f (Some v) distinct exist decide is = plays_first f v distinct is exist decide

-- what the last step of a proof forces on a variable of the first scope

module _ (pivot : Quant) (scopes : List Scope) (assumptions : List Literal) (values : Assignment) (x : ℕ)
    (first : depth_of scopes x ≡ 1) (free : assumed_value assumptions x ≡ None) where
  not_finished : (row : Row) → is_some (literal_over (finished assumptions row) x) ≡ false
  not_finished row = ⊎_elim (λ n. ap is_some n)
      (λ r.
      let at = over_at (finished assumptions row) x r.0 r.1 in
      let stays = (filter_at (is_assumed assumptions) row r.0 at.0).1 in
      absurd (true≢false (sym stays ∙ ap (λ y. is_some (assumed_value assumptions y)) at.1 ∙ ap is_some free)))
      (option_cases (literal_over (finished assumptions row) x))

  finish_forces : (before after : Row) → after ≡ finished assumptions before
      → is_bad_throughout pivot values after ≡ true
      → forced_by pivot values x before after ≡ option_map (bad_choice pivot) (literal_over before x)
  finish_forces before after is bad =
      let gone : is_some (literal_over after x) ≡ false = ap (λ (row : Row). is_some (literal_over row x)) is
      ∙ not_finished before in
      let found = option_map (bad_choice pivot) (literal_over before x) in
      cond-false (is_some (literal_over after x)) None
      (if is_bad_throughout pivot values after then found else None) gone
      ∙ cond-true (is_bad_throughout pivot values after) found None bad

  abbrev probe : List Literal
  probe = record { variable = x; positive = true } ∷ []

  probed : (y : ℕ) → y ≡ x → assumed_value probe y ≡ None → ⊥
  probed y e none =
      let some : assumed_value probe y ≡ Some true = cond-true (nat_eq x y) (Some true) None (eq-eqb x y (sym e)) in
      absurd (let g : Some true ≡ None = sym some ∙ none in cc)

  probed_depth : (y : ℕ) (b : Bool) → assumed_value probe y ≡ Some b → depth_of scopes y ≡ 1
  probed_depth y b e = ⊎_elim (λ t. ap (depth_of scopes) (sym (eqb-true x y t)) ∙ first)
      (λ n. absurd (let g : None ≡ Some b = sym (cond-false (nat_eq x y) (Some true) None n) ∙ e in cc))
      (cases_Bool (nat_eq x y))

  not_mentioned : (row : Row) (l : Literal) → Contains row l → l.variable ≡ x → is_some (literal_over row x) ≡ false → ⊥
  not_mentioned row l j e n =
      let s = over_from row l j in true≢false (ap is_some (sym s.1 ∙ ap (literal_over row) e) ∙ n)

  -- no reduction removes a literal over it
  reduction_forces_none : (before after : Row) → after ≡ reduce pivot scopes before
      → forced_by pivot values x before after ≡ None
  reduction_forces_none before after is =
      let removal = reduction_removes pivot scopes probe before probed_depth in
      let found = option_map (bad_choice pivot) (literal_over before x) in
      cond_both (is_some (literal_over after x)) None
      (if is_bad_throughout pivot values after then found else None) (λ o. o ≡ None) (λ t. refl)
      (λ n. ⊎_elim
      (λ m. let gone : found ≡ None = ap (option_map (bad_choice pivot)) m in
      cond_both (is_bad_throughout pivot values after) found None (λ o. o ≡ None) (λ t. gone) (λ g. refl))
      (λ r.
      let at = over_at before x r.0 r.1 in
      let out : Contains (reduce pivot scopes before) r.0 → ⊥ = λ j.
      not_mentioned after r.0 (subst (λ (row : Row). Contains row r.0) (sym is) j) at.1 n in
      absurd (probed r.0.variable at.1 (removal.unassumed r.0 at.0 out)))
      (option_cases (literal_over before x)))

  step_forces_none : (clauses : List Row) (core : List Step) (s : Step) → IsDerivation scopes clauses core
      → s.side ≡ pivot → (why : Why) → IsLegalStep scopes clauses core s why
      → forced pivot values x s.row (reason_of core why) ≡ None
  step_forces_none clauses core s d side Given step = refl
  step_forces_none clauses core s d side (ReducedFrom a) step =
      let same : row_at core a ≡ step.from.step.row = ap (row_at core) (sym step.from.is)
      ∙ row_at_step core d.ascending_ids step.from.step step.from.stands in
      reduction_forces_none (row_at core a) s.row
      (step.result ∙ ap₂ (λ (q : Quant) (row : Row). reduce q scopes row) side (sym same))
  step_forces_none clauses core s d side (ResolvedFrom a b y) step = refl
  step_forces_none clauses core s d side (FinishedFrom a) step = absurd step

  -- the literals of the last row are bad, since the winner's assumed variables have their values
  decided_is_bad : (steps : List Inference) (row : Row) → AreOuter scopes assumptions
      → quantifier_of scopes x ≢ Some pivot → Follows pivot scopes assumptions steps values
      → IsDecided pivot assumptions row → is_bad_throughout pivot values row ≡ true
  decided_is_bad steps row outer other plays decided = all_from (is_bad pivot values) row (λ l i.
      let r = decided l i in
      let depth = (outer_level scopes assumptions outer l.variable r.0 r.1).1 in
      let apart : quantifier_of scopes l.variable ≢ Some pivot = λ e.
      other (one_quantifier scopes x l.variable (first ∙ sym depth) ∙ e) in
      subst (λ b. is_bad_at pivot b l ≡ true) (sym (plays.given l.variable r.0 r.1 apart)) r.2)

-- the value of a variable of the first scope

no_finish_removes : (d : State) (t : Bool) (x : ℕ) (note : Option Note) → may_be_antecedent note ≡ true
    → removed_value d t (why_in note) x ≡ None
no_finish_removes d t x None e = refl
no_finish_removes d t x (Some note) e = by note.why refl e
  where
    by : (why : Why) → note.why ≡ why → not (is_finish note.why) ≡ true → removed_value d t note.why x ≡ None
    by Given same e = ap (λ w. removed_value d t w x) same
    by (ReducedFrom a) same e = ap (λ w. removed_value d t w x) same
    by (ResolvedFrom a b y) same e = ap (λ w. removed_value d t w x) same
    by (FinishedFrom a) same e = absurd
        (let f : not (is_finish (FinishedFrom a)) ≡ true = sym (ap (λ w. not (is_finish w)) same) ∙ e in cc)

module _ (f : OpenFormula) (d : State) (held : Held) (distinct : AreDistinct (all_variables f.scopes))
    (legal : IsDerivation f.scopes (open_clauses f) (steps_of d))
    (found : IsFound f d held.assumed held.verdict)
    (gives : EndRowsGiveProofs) (decide : ProofsDecide) (listed : StepsAreListed) (cores : StepsHaveCores)
    (values : Assignment) (x : ℕ) (first : level_of f.scopes x ≡ Some 1)
    (other : quantifier_of f.scopes x ≢ Some (loser_of held.verdict.truth))
    (plays : Follows (loser_of held.verdict.truth) f.scopes held.assumed (told d held).proof values) where
  abbrev side : Quant
  side = loser_of held.verdict.truth

  abbrev before : ℕ
  before = found.outcome.finish.before

  abbrev row : Row
  row = row_of d before

  abbrev core : List Step
  core = side_core (steps_of d) (step_under d before)

  abbrev ends : EndsInFinish side f.scopes (open_clauses f) held.assumed (told d held).proof row
      (last_reason core (step_under d before) held.assumed)
  ends = told_ends f d held.assumed held.verdict distinct legal found gives decide listed

  its_core : IsItsCore f.scopes (open_clauses f) (steps_of d) (step_under d before) core
  its_core = cores f.scopes (open_clauses f) (steps_of d) (step_under d before)
      legal
      (listed.listed d before found.outcome.finish.step)

  module _ (free : assumed_value held.assumed x ≡ None) where
    first_is : depth_of f.scopes x ≡ 1
    first_is = first_depth f.scopes x first

    -- a finish of its own forces what it removes
    by_finish : why_at d held.verdict.end ≡ FinishedFrom before → row_of d held.verdict.end ≢ row
        → forced side values x ends.proof.last.row ends.proof.last.reason
        ≡ removed_value d held.verdict.truth (why_at d held.verdict.end) x
    by_finish why apart =
        let all = list_all (is_assumed held.assumed) row in
        let some_go : all ≡ false = ⊎_elim
        (λ t. absurd (apart (found.outcome.finish.finish ∙ filter_all (is_assumed held.assumed) row
        (all_at (is_assumed held.assumed) row t)))) (λ n. n) (cases_Bool all) in
        let reason : ends.proof.last.reason ≡ One row =
        ends.last_reason ∙ cond-false all (reason_of core (why_at d before)) (One row) some_go in
        let bad = decided_is_bad side f.scopes held.assumed values x first_is free (told d held).proof
        ends.proof.last.row found.outer other plays ends.proof.decided in
        ap (forced side values x ends.proof.last.row) reason
        ∙ finish_forces side f.scopes held.assumed values x first_is free row ends.proof.last.row ends.last_row bad
        ∙ sym (ap (λ w. removed_value d held.verdict.truth w x) why)

    -- an end row that is left whole forces nothing
    by_row : held.verdict.end ≡ before → forced side values x ends.proof.last.row ends.proof.last.reason
        ≡ removed_value d held.verdict.truth (why_at d held.verdict.end) x
    by_row at =
        let all = list_all (is_assumed held.assumed) row in
        let whole : finished held.assumed row ≡ row = sym found.outcome.finish.finish ∙ ap (row_of d) at in
        let all_stay : all ≡ true = all_from (is_assumed held.assumed) row (λ l i.
        (filter_at (is_assumed held.assumed) row l (subst (λ (r : Row). Contains r l) (sym whole) i)).1) in
        let reason : ends.proof.last.reason ≡ reason_of core (why_at d before) =
        ends.last_reason ∙ cond-true all (reason_of core (why_at d before)) (One row) all_stay in
        ap₂ (λ (r : Row) (why : Reason). forced side values x r why) (ends.last_row ∙ whole) reason
        ∙ step_forces_none side f.scopes held.assumed values x first_is free (open_clauses f) core
        (step_under d before) its_core.legal
        (side_is f d held.assumed held.verdict distinct legal found gives decide listed) (why_at d before)
        (its_core.legal.legal (step_under d before) its_core.holds_end)
        ∙ sym (ap (λ id. removed_value d held.verdict.truth (why_at d id) x) at
        ∙ no_finish_removes d held.verdict.truth x (note_at d before) found.outcome.finish.step)

    forces : forced side values x ends.proof.last.row ends.proof.last.reason
        ≡ removed_value d held.verdict.truth (why_at d held.verdict.end) x
    forces = ⊎_elim by_row (λ r. by_finish r.0 r.1) found.outcome.finish.stands

  pub first_value_is : LastStepsDecide → first_value d held x ≡ values x
  first_value_is last =
      let removed = removed_value d held.verdict.truth (why_at d held.verdict.end) x in
      ⊎_elim
      (λ free. ap (λ o. unwrap_or (first_of_two o removed) false) free
      ∙ sym (plays.ruled x (level_in_prefix f.scopes x 1 first) other free
      ∙ ap (λ o. unwrap_or o false) (last side f.scopes (open_clauses f) held.assumed (told d held).proof
      ends.proof values x first ∙ forces free)))
      (λ r. ap (λ o. unwrap_or (first_of_two o removed) false) r.1 ∙ sym (plays.given x r.0 r.1 other))
      (option_cases (assumed_value held.assumed x))

-- so it is the value that the verdict's play has
pub value_told : (f : OpenFormula) (d : State) (held : Held) → AreDistinct (all_variables f.scopes)
    → IsDerivation f.scopes (open_clauses f) (steps_of d) → IsFound f d held.assumed held.verdict
    → EndRowsGiveProofs → ProofsDecide → StepsAreListed → StepsHaveCores → PlaysExist → LastStepsDecide → (x : ℕ)
    → level_of f.scopes x ≡ Some 1 → quantifier_at f.scopes 1 ≡ Some (winner_of held.verdict.truth)
    → first_value d held x ≡ values_of f (told d held) x
value_told f d held distinct legal found gives decide listed cores exist last x first won =
    first_value_is f d held distinct legal found gives decide listed cores (values_of f (told d held)) x first
    (not_losers f.scopes held.verdict.truth x first won)
    (plays f (told d held) distinct (holds f d held distinct legal found gives decide listed) exist) last
