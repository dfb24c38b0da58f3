-- The table of edges plays by the first-falsified rule.
use Rattle.std.proofs.Common.{◌≡◌, ◌≢◌, ℕ, suc, zero, ◌<◌, ◌≤◌, ◌==◌, ◌⊎◌, inl, inr, Bool, true, false, not, ◌&&◌, cond, List, [], ◌∷◌, ◌++◌, length, map, take, get_or, unwrap_or, Option, Some, None, is_some, Contains, refl, sym, ap, ap₂, ◌∙◌, ⊎_elim, arith, subst, option_map, filter}
use Rattle.std.proofs.lemmas.Bool.{cases_Bool, cond-true, cond-false, true≢false, false≢true, eqb-true, eq-eqb, and_parts, not-true, false_from_ne_true}
use Rattle.std.proofs.lemmas.List.Elements.{Contains-append_cases}
use Rattle.prefix.specs.declared.quant.Quant.{Quant}
use Rattle.prefix.specs.declared.quant.Quant.TheVariants.{Exists, Forall}
use Rattle.prefix.specs.Literal.{Literal}
use Rattle.prefix.specs.Sides.{opposite}
use Rattle.prefix.specs.Scopes.{Scope, AreDistinct, all_variables, quantifier_of, is_among}
use Rattle.truth.specs.Truth.{assumed_value}
use Rattle.calculus.specs.Rows.{Row, Assignment, IsRow, is_of, depth_of, is_bad_throughout, bad_choice, literal_over}
use Rattle.calculus.specs.Derivations.{Inference, Reason}
use Rattle.calculus.specs.Derivations.Reason.{Input, One, Two}
use Rattle.calculus.specs.Verdicts.{AreOuter, IsProof}
use Rattle.calculus.specs.Plays.{first_forced, first_of_two, forced, KeepsInputs, FollowsProof}
use Rattle.calculus.proofs.Sound.{AreSoundSteps, IsSoundStep, sound}
use Rattle.calculus.proofs.Lists.{contains_head, contains_tail, contains_cons, contains_nil, filter_at, filter_from, any_from, among_from, among_at, contains_map_of}
use Rattle.calculus.proofs.RowLemmas.{step_removes, same_from, same_true, some_from}
use Rattle.calculus.proofs.Levels.{outer_level, order_ordered, has_quantifier}
use Rattle.calculus.proofs.Strategy.{IsOrdered}
use Rattle.aig.specs.Circuits.{IsEdge, Circuit, value_of, Grows}
use Rattle.aig.specs.Strategies.{output_of, value_or}
use Rattle.aig.specs.declared.edge.Edge.{Edge}
use Rattle.aig.specs.declared.edge.Node.TheVariants.{Constant}
use Rattle.aig.specs.declared.strategy.Output.{Output}
use Rattle.extract.specs.Removals.{Removed, first_bad, removals, removed_by, removed_from, goes, stands_over}
use Rattle.extract.specs.Tables.{AreEdges, edge_of, Agrees, Covers, Keeps, IsInputEdge, IsAssumedEdge, IsRuledEdge, IsReady, IsPlayTable, removed_of, removals_at}
use Rattle.extract.specs.declared.index.Removal.{Removal}

-- the removals in order give the rule's value

first_bad_append : (pivot : Quant) (values : Assignment) (a b : List Removed)
    → first_bad pivot values (a ++ b) ≡ first_of_two (first_bad pivot values a) (first_bad pivot values b)
first_bad_append pivot values [] b = refl
first_bad_append pivot values (r ∷ a) b =
    ⊎_elim
    (λ t. cond-true (is_bad_throughout pivot values r.row) (Some r.value) (first_bad pivot values (a ++ b)) t
    ∙ sym (ap (λ o. first_of_two o (first_bad pivot values b))
    (cond-true (is_bad_throughout pivot values r.row) (Some r.value) (first_bad pivot values a) t)))
    (λ f. cond-false (is_bad_throughout pivot values r.row) (Some r.value) (first_bad pivot values (a ++ b)) f
    ∙ first_bad_append pivot values a b
    ∙ sym (ap (λ o. first_of_two o (first_bad pivot values b))
    (cond-false (is_bad_throughout pivot values r.row) (Some r.value) (first_bad pivot values a) f)))
    (cases_Bool (is_bad_throughout pivot values r.row))

over_stands : (row : Row) (x : ℕ) → stands_over row x ≡ is_some (literal_over row x)
over_stands [] x = refl
over_stands (l ∷ row) x =
    ⊎_elim
    (λ t. rw t refl)
    (λ f. rw f (over_stands row x))
    (cases_Bool (l.variable == x))

module _ (pivot : Quant) (values : Assignment) (x : ℕ) (row : Row) where
  abbrev bad : Bool
  bad = is_bad_throughout pivot values row

  -- the value by the tests
  abbrev by_tests : Bool → Bool → Option Literal → Option Bool
  by_tests s b o = cond s None (cond b (option_map (bad_choice pivot) o) None)

  none_by_tests : (s b : Bool) → by_tests s b None ≡ None
  none_by_tests true b = refl
  none_by_tests false true = refl
  none_by_tests false false = refl

  kept_first : (l : Literal) (rest : List Removed) (o : Option Literal) (b : Bool)
      → first_bad pivot values rest ≡ by_tests false b o
      → cond b (Some (bad_choice pivot l)) (first_bad pivot values rest) ≡ by_tests false b (Some l)
  kept_first l rest o true further = refl
  kept_first l rest o false further = further

  from_tests : (before : Row)
      → first_bad pivot values (removed_from pivot x row before) ≡ by_tests (stands_over row x) bad
      (literal_over before x)
  from_tests [] = sym (none_by_tests (stands_over row x) bad)
  from_tests (l ∷ before) =
      ⊎_elim
      (λ t. at_x (from_tests before) (eqb-true l.variable x t) t (stands_over row x) refl)
      (λ f. rw f (from_tests before))
      (cases_Bool (l.variable == x))
    where
      at_x : first_bad pivot values (removed_from pivot x row before) ≡ by_tests (stands_over row x) bad
          (literal_over before x) → l.variable ≡ x → (l.variable == x) ≡ true → (s : Bool) → stands_over row x ≡ s
          → first_bad pivot values (removed_from pivot x row (l ∷ before)) ≡ by_tests (stands_over row x) bad
          (literal_over (l ∷ before) x)
      at_x further e t true stands =
          let gone : goes x row l ≡ false = ap (λ b. b && not (stands_over row l.variable)) t
          ∙ ap (λ y. not (stands_over row y)) e ∙ ap not stands in
          ap (λ ls. first_bad pivot values (map (λ (m : Literal). record { row = row; value = bad_choice pivot m })
          ls)) (cond-false (goes x row l) (l ∷ filter (goes x row) before) (filter (goes x row) before) gone)
          ∙ further ∙ ap (λ s. by_tests s bad (literal_over before x)) stands
          ∙ sym (ap (λ s. by_tests s bad (literal_over (l ∷ before) x)) stands)
      at_x further e t false stands =
          let goes_out : goes x row l ≡ true = ap (λ b. b && not (stands_over row l.variable)) t
          ∙ ap (λ y. not (stands_over row y)) e ∙ ap not stands in
          ap (λ ls. first_bad pivot values (map (λ (m : Literal). record { row = row; value = bad_choice pivot m })
          ls)) (cond-true (goes x row l) (l ∷ filter (goes x row) before) (filter (goes x row) before) goes_out)
          ∙ kept_first l (removed_from pivot x row before) (literal_over before x) bad
          (further ∙ ap (λ s. by_tests s bad (literal_over before x)) stands)
          ∙ sym (ap₂ (λ s o. by_tests s bad o) stands (cond-true (l.variable == x) (Some l) (literal_over before x) t))

  from_step : (reason : Reason)
      → first_bad pivot values (removed_by pivot x row reason) ≡ forced pivot values x row reason
  from_step Input = refl
  from_step (One before) = from_tests before ∙ ap (λ s. by_tests s bad (literal_over before x)) (over_stands row x)
  from_step (Two a b y) = refl

pub first_bad_forces : (pivot : Quant) (values : Assignment) (x : ℕ) (steps : List Inference)
    → first_bad pivot values (removals pivot x steps) ≡ first_forced pivot values x steps
first_bad_forces pivot values x [] = refl
first_bad_forces pivot values x (s ∷ steps) =
    first_bad_append pivot values (removed_by pivot x s.row s.reason) (removals pivot x steps)
    ∙ ap₂ first_of_two (from_step pivot values x s.row s.reason) (first_bad_forces pivot values x steps)

-- what a removal leaves is earlier, or assumed

module _ (pivot : Quant) (scopes : List Scope) (clauses : List Row) (assumptions : List Literal)
    (outer : (x : ℕ) (b : Bool) → assumed_value assumptions x ≡ Some b → depth_of scopes x ≡ 1) (x : ℕ) (r : Removed)
    (k : Literal) (stands : Contains r.row k) where
  abbrev Earlier : Type 0
  Earlier = Contains (all_variables scopes) k.variable ×
      ((depth_of scopes k.variable < depth_of scopes x) ⊎
      ((b : Bool) × (assumed_value assumptions k.variable ≡ Some b)))

  removed_row : (row : Row) (ls : List Literal)
      → Contains (map (λ (l : Literal). record { row = row; value = bad_choice pivot l }) ls) r
      → (l : Literal) × Contains ls l × (row ≡ r.row)
  removed_row row [] h = absurd (contains_nil r h)
  removed_row row (l ∷ ls) h =
      ⊎_elim (λ e. (l, contains_head l ls, ap (λ (q : Removed). q.row) e))
      (λ j. let q = removed_row row ls j in (q.0, contains_tail l ls q.0 q.1, q.2))
      (contains_cons (record { row = row; value = bad_choice pivot l })
      (map (λ (m : Literal). record { row = row; value = bad_choice pivot m }) ls) r h)

  step_earlier : (earlier : List Row) (row : Row) (reason : Reason) → IsRow scopes row
      → IsSoundStep pivot scopes clauses assumptions earlier row reason → Contains (removed_by pivot x row reason) r
      → Earlier
  step_earlier earlier row Input is_row step h = absurd (contains_nil r h)
  step_earlier earlier row (Two a b y) is_row step h = absurd (contains_nil r h)
  step_earlier earlier row (One before) is_row step h =
      let q = removed_row row (filter (goes x row) before) h in
      let l = q.0 in
      let at = filter_at (goes x row) before l q.1 in
      let parts = and_parts (l.variable == x) (not (stands_over row l.variable)) at.1 in
      let is_x : l.variable ≡ x = eqb-true l.variable x parts.0 in
      let gone : Contains row l → ⊥ =
      λ j. true≢false (sym (any_from (λ (m : Literal). m.variable == l.variable) row l j
      (eq-eqb l.variable l.variable refl)) ∙ not-true (stands_over row l.variable) parts.1) in
      let removal = step_removes pivot scopes assumptions before row outer step.1 in
      let j : Contains row k = subst (λ (w : Row). Contains w k) (sym q.2) stands in (
        is_row.over_prefix k j,
        ⊎_elim (λ lower. inl
            (subst (λ y. depth_of scopes k.variable < depth_of scopes y) is_x lower)) (λ given. inr (given.0, given.1))
            (removal.earlier l at.0 gone k j),
      )

  pub steps_earlier : (earlier : List Row) (steps : List Inference)
      → AreSoundSteps pivot scopes clauses assumptions earlier steps → Contains (removals pivot x steps) r → Earlier
  steps_earlier earlier [] are h = absurd (contains_nil r h)
  steps_earlier earlier (s ∷ steps) are h =
      ⊎_elim (λ j. step_earlier earlier s.row s.reason are.0 are.1 j)
      (λ j. steps_earlier (s.row ∷ earlier) steps are.2 j)
      (Contains-append_cases (removed_by pivot x s.row s.reason) (removals pivot x steps) r h)

-- a variable of an earlier scope stands before
earlier_stands : (level : ℕ → ℕ) (xs : List ℕ) (i k : ℕ) → IsOrdered level xs → i < length xs → Contains xs k
    → level k < level (get_or xs i 0) → Contains (take i xs) k
earlier_stands level [] i k ordered below h lower = absurd (omega arith)
earlier_stands level (x ∷ xs) zero k ordered below h lower =
    ⊎_elim (λ e. let same : level x ≡ level k = ap level e in absurd (omega arith))
    (λ j. let above : level x ≤ level k = ordered.0 k j in absurd (omega arith)) (contains_cons x xs k h)
earlier_stands level (x ∷ xs) (suc i) k ordered below h lower =
    ⊎_elim (λ e. subst (λ y. Contains (y ∷ take i xs) k) (sym e) (contains_head k (take i xs)))
    (λ j. contains_tail x (take i xs) k (earlier_stands level xs i k ordered.2 (omega arith) j lower))
    (contains_cons x xs k h)

pub proof_is_ready : (pivot : Quant) (scopes : List Scope) (clauses : List Row) (assumptions : List Literal)
    (steps : List Inference) (rows : List Row) (index : List (List Removal)) (table : List (Option Edge))
    → AreDistinct (all_variables scopes) → AreOuter scopes assumptions
    → IsProof pivot scopes clauses assumptions steps
    → ((x : ℕ) → map (removed_of rows) (removals_at index x) ≡ removals pivot x steps)
    → ((x : ℕ) (b : Bool) → assumed_value assumptions x ≡ Some b → is_some (edge_of table x) ≡ true)
    → IsReady rows index (all_variables scopes) table
proof_is_ready pivot scopes clauses assumptions steps rows index table distinct outer proof indexed covered i below
    none r l h j =
    let x = get_or (all_variables scopes) i 0 in
    let there : Contains (removals pivot x steps) (removed_of rows r) =
    subst (λ (rs : List Removed). Contains rs (removed_of rows r)) (indexed x)
    (contains_map_of (removed_of rows) (removals_at index x) r h) in
    let earlier = steps_earlier pivot scopes clauses assumptions
    (λ y b e. (outer_level scopes assumptions outer y b e).1) x (removed_of rows r) l j [] steps
    (sound pivot scopes clauses assumptions steps proof).last_step there in
    ⊎_elim (λ lower. inr (earlier_stands (depth_of scopes) (all_variables scopes) i l.variable
    (order_ordered scopes distinct) below earlier.0 lower)) (λ g. inl (covered l.variable g.0 g.1)) earlier.1

-- the table after its three turns

module _ (pivot : Quant) (scopes : List Scope) (assumptions : List Literal) (steps : List Inference) (rows : List Row)
    (index : List (List Removal)) (inputs : List ℕ) (start circuit : Circuit) (first second table : List (Option Edge))
    (outer : AreOuter scopes assumptions) (indexed : (x : ℕ)
    → map (removed_of rows) (removals_at index x) ≡ removals pivot x steps)
    (listed : inputs ≡ filter (λ (v : ℕ). is_of (quantifier_of scopes v) pivot) (all_variables scopes))
    (first_edges : (x : ℕ) (e : Edge) → edge_of first x ≡ Some e → IsInputEdge start inputs x e)
    (first_covers : Covers first inputs)
    (second_edges : (x : ℕ) (e : Edge) → edge_of second x ≡ Some e
    → (edge_of first x ≡ Some e) ⊎ ((edge_of first x ≡ None) × IsAssumedEdge assumptions x e))
    (second_keeps : Keeps first second) (second_covers : (x : ℕ) (b : Bool) → assumed_value assumptions x ≡ Some b
    → is_some (edge_of second x) ≡ true)
    (third_edges : (x : ℕ) (e : Edge) → edge_of table x ≡ Some e
    → (edge_of second x ≡ Some e) ⊎ ((edge_of second x ≡ None) × Contains
    (all_variables scopes) x × IsRuledEdge pivot rows index circuit table x)) (third_keeps : Keeps second table)
    (third_covers : Covers table (all_variables scopes)) (grows : Grows start circuit)
    (third_stands : AreEdges circuit table) (counted : start.inputs ≡ length inputs) where
  -- where an edge of the table comes from
  data Origin (x : ℕ) (e : Edge) : Type 0 where
    FromInput : IsInputEdge start inputs x e → Origin x e
    FromAssumed : edge_of first x ≡ None → IsAssumedEdge assumptions x e → Origin x e
    FromRule : edge_of second x ≡ None → Contains (all_variables scopes) x
        → IsRuledEdge pivot rows index circuit table x → Origin x e

  origin : (x : ℕ) (e : Edge) → edge_of table x ≡ Some e → Origin x e
  origin x e is =
      ⊎_elim (λ s. ⊎_elim (λ f. FromInput (first_edges x e f)) (λ a. FromAssumed a.0 a.1) (second_edges x e s))
      (λ r. FromRule r.0 r.1 r.2) (third_edges x e is)

  not_none : (o : Option Edge) → is_some o ≡ true → o ≡ None → ⊥
  not_none o t n = false≢true (sym (ap is_some n) ∙ t)

  loser_covered : (x : ℕ) → Contains (all_variables scopes) x → quantifier_of scopes x ≡ Some pivot
      → is_some (edge_of first x) ≡ true
  loser_covered x i q =
      first_covers x (subst (λ (xs : List ℕ). Contains xs x) (sym listed)
      (filter_from (λ (v : ℕ). is_of (quantifier_of scopes v) pivot) (all_variables scopes) x i
      (same_from (quantifier_of scopes x) pivot q)))

  kept_of : (x : ℕ) (o : Option Edge) → edge_of first x ≡ o → is_some o ≡ true → is_some (edge_of second x) ≡ true
  kept_of x None is t = absurd (false≢true t)
  kept_of x (Some e) is t = ap is_some (second_keeps x e is)

  listed_input : (x : ℕ) → Contains inputs x → Contains (all_variables scopes) x × (quantifier_of scopes x ≡ Some pivot)
  listed_input x i = let p =
      filter_at (λ (v : ℕ). is_of (quantifier_of scopes v) pivot) (all_variables scopes) x
      (subst (λ (xs : List ℕ). Contains xs x) listed i) in (p.0, same_true (quantifier_of scopes x) pivot p.1)

  inside_of : (x : ℕ) (e : Edge) → Origin x e → Contains (all_variables scopes) x
  inside_of x e (FromInput i) = (listed_input x i.listed).0
  inside_of x e (FromAssumed n a) = (outer_level scopes assumptions outer x a.positive a.assumed).0
  inside_of x e (FromRule n i r) = i

  losers_of : (x : ℕ) (e : Edge) → quantifier_of scopes x ≡ Some pivot → Origin x e → (given : Assignment)
      → value_of circuit (map given inputs) e ≡ given x
  losers_of x e q (FromInput i) given = grows.values (map given inputs) e i.stands ∙ i.value given
  losers_of x e q (FromAssumed n a) given =
      absurd (not_none (edge_of first x) (loser_covered x
      (outer_level scopes assumptions outer x a.positive a.assumed).0 q) n)
  losers_of x e q (FromRule n i r) given =
      absurd (not_none (edge_of second x) (kept_of x (edge_of first x) refl (loser_covered x i q)) n)

  given_of : (x : ℕ) (b : Bool) (e : Edge) → assumed_value assumptions x ≡ Some b
      → quantifier_of scopes x ≢ Some pivot → Origin x e → (values : List Bool) → value_of circuit values e ≡ b
  given_of x b e is other (FromInput i) values = absurd (other (listed_input x i.listed).1)
  given_of x b e is other (FromAssumed n a) values = let same : Some a.positive ≡ Some b = sym a.assumed ∙ is in
      let p : a.positive ≡ b = cc in a.value circuit values ∙ p
  given_of x b e is other (FromRule n i r) values = absurd (not_none (edge_of second x) (second_covers x b is) n)

  constant_of : (x : ℕ) (b : Bool) (e : Edge) → assumed_value assumptions x ≡ Some b
      → quantifier_of scopes x ≢ Some pivot → Origin x e → e ≡ record { node = Constant; negated = b }
  constant_of x b e is other (FromInput i) = absurd (other (listed_input x i.listed).1)
  constant_of x b e is other (FromAssumed n a) = let same : Some a.positive ≡ Some b = sym a.assumed ∙ is in
      let p : a.positive ≡ b = cc in a.edge ∙ ap (λ (t : Bool). record { node = Constant; negated = t }) p
  constant_of x b e is other (FromRule n i r) = absurd (not_none (edge_of second x) (second_covers x b is) n)

  ruled_of : (x : ℕ) (e : Edge) → quantifier_of scopes x ≢ Some pivot → assumed_value assumptions x ≡ None
      → Origin x e → (values : List Bool) (w : Assignment) → Agrees circuit values table w
      → w x ≡ unwrap_or (first_forced pivot w x steps) false
  ruled_of x e other none (FromInput i) values w agrees = absurd (other (listed_input x i.listed).1)
  ruled_of x e other none (FromAssumed n a) values w agrees = let g : None ≡ Some a.positive = sym none ∙ a.assumed in
      absurd (cc)
  ruled_of x e other none (FromRule n i r) values w agrees =
      r.ruled values w agrees ∙ ap (λ (rs : List Removed). unwrap_or (first_bad pivot w rs) false) (indexed x)
      ∙ ap (λ (o : Option Bool). unwrap_or o false) (first_bad_forces pivot w x steps)

  pub play_table : IsPlayTable pivot scopes assumptions steps inputs circuit table
  play_table = record {
    count = grows.inputs ∙ counted;
    stands = third_stands;
    covers = third_covers;
    inside = λ x e is. inside_of x e (origin x e is);
    losers = λ x e q is. losers_of x e q (origin x e is);
    given = λ x b e a other is. given_of x b e a other (origin x e is);
    constants = λ x b e a other is. constant_of x b e a other (origin x e is);
    ruled = λ x i other none values w agrees. let p = some_from (edge_of table x) (third_covers x i) in
        ruled_of x p.0 other none (origin x p.0 p.1) values w agrees;
  }

-- the circuit with outputs from a table that plays

not_winner : (o : Option Quant) (winner : Quant) → is_some o ≡ true → is_of o winner ≡ false
    → o ≡ Some (opposite winner)
not_winner None winner t f = absurd (false≢true t)
not_winner (Some Exists) Exists t f = absurd (true≢false f)
not_winner (Some Forall) Forall t f = absurd (true≢false f)
not_winner (Some Exists) Forall t f = refl
not_winner (Some Forall) Exists t f = refl

not_loser : (winner : Quant) → is_of (Some (opposite winner)) winner ≡ false
not_loser Exists = refl
not_loser Forall = refl

module _ (winner : Quant) (scopes : List Scope) (assumptions : List Literal) (steps : List Inference)
    (inputs winners : List ℕ) (circuit : Circuit) (table : List (Option Edge)) (outputs : List Output)
    (outer : AreOuter scopes assumptions) (plays : IsPlayTable
    (opposite winner) scopes assumptions steps inputs circuit table)
    (listed : winners ≡ filter (λ (v : ℕ). is_of (quantifier_of scopes v) winner) (all_variables scopes))
    (edges : (x : ℕ) → output_of outputs x ≡ cond (is_among x winners) (edge_of table x) None) where
  abbrev play : Assignment → Assignment
  play given x = value_or circuit (map given inputs) (output_of outputs x) (given x)

  no_output : (given : Assignment) (x : ℕ) → is_among x winners ≡ false → play given x ≡ given x
  no_output given x f =
      ap (λ o. value_or circuit (map given inputs) o (given x))
      (edges x ∙ cond-false (is_among x winners) (edge_of table x) None f)

  pub play_agrees : (given : Assignment) → Agrees circuit (map given inputs) table (play given)
  play_agrees given x e is =
      ⊎_elim
      (λ t. ap (λ o. value_or circuit (map given inputs) o (given x))
      (edges x ∙ cond-true (is_among x winners) (edge_of table x) None t ∙ is))
      (λ f.
      let i = plays.inside x e is in
      let out : is_of (quantifier_of scopes x) winner ≡ false =
      false_from_ne_true (is_of (quantifier_of scopes x) winner)
      (λ t. true≢false (sym (among_from winners x
      (subst (λ (xs : List ℕ). Contains xs x) (sym listed)
      (filter_from (λ (v : ℕ). is_of (quantifier_of scopes v) winner) (all_variables scopes) x i t))) ∙ f)) in
      no_output given x f ∙ sym (plays.losers x e
      (not_winner (quantifier_of scopes x) winner (has_quantifier scopes x i) out) is given))
      (cases_Bool (is_among x winners))

  pub play_stands : (x : ℕ) (e : Edge) → output_of outputs x ≡ Some e → IsEdge circuit e
  play_stands x e is =
      ⊎_elim
      (λ t. plays.stands x e (sym (edges x ∙ cond-true (is_among x winners) (edge_of table x) None t) ∙ is))
      (λ f. let g : None ≡ Some e = sym (edges x ∙ cond-false (is_among x winners) (edge_of table x) None f) ∙ is in
      absurd (cc))
      (cases_Bool (is_among x winners))

  pub play_constants : (x : ℕ) (b : Bool) → assumed_value assumptions x ≡ Some b
      → quantifier_of scopes x ≢ Some (opposite winner)
      → output_of outputs x ≡ Some (record { node = Constant; negated = b })
  play_constants x b is other =
      let i = (outer_level scopes assumptions outer x b is).0 in
      let p = some_from (edge_of table x) (plays.covers x i) in
      let mine : is_of (quantifier_of scopes x) winner ≡ true =
      ⊎_elim (λ t. t) (λ f. absurd (other (not_winner (quantifier_of scopes x) winner (has_quantifier scopes x i) f)))
      (cases_Bool (is_of (quantifier_of scopes x) winner)) in
      let among : is_among x winners ≡ true =
      among_from winners x (subst (λ (xs : List ℕ). Contains xs x) (sym listed)
      (filter_from (λ (v : ℕ). is_of (quantifier_of scopes v) winner) (all_variables scopes) x i mine)) in
      edges x ∙ cond-true (is_among x winners) (edge_of table x) None among ∙ p.1
      ∙ ap Some (plays.constants x b p.0 is other p.1)

  pub play_keeps : KeepsInputs (opposite winner) scopes play
  play_keeps given x q =
      no_output given x (false_from_ne_true (is_among x winners) (λ t.
      let p = filter_at (λ (v : ℕ). is_of (quantifier_of scopes v) winner) (all_variables scopes) x
      (subst (λ (xs : List ℕ). Contains xs x) listed (among_at winners x t)) in
      true≢false (sym p.1 ∙ ap (λ o. is_of o winner) q ∙ not_loser winner)))

  pub play_follows : FollowsProof (opposite winner) scopes assumptions steps play
  play_follows given = record {
    given = λ x b is other.
        let i = (outer_level scopes assumptions outer x b is).0 in
        let p = some_from (edge_of table x) (plays.covers x i) in
        play_agrees given x p.0 p.1 ∙ plays.given x b p.0 is other p.1 (map given inputs);
    ruled = λ x i other none. plays.ruled x i other none (map given inputs) (play given) (play_agrees given);
  }
