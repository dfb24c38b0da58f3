-- Searches of clauses that propagation refutes: they make no decision.
use Rattle.std.proofs.Common.{◌≡◌, ◌≢◌, ℕ, ◌+◌, ◌-◌, ◌*◌, ◌<◌, ◌≤◌, ◌⊎◌, Bool, true, false, List, [], ◌∷◌, ◌++◌, map, length, Contains, Option, Some, None, IsTrue, IsFalse, is_some, nat_eq, refl, sym, ap, subst, ◌∙◌, inl, inr, ⊎_elim, arith}
use Rattle.std.proofs.Math.Nat.{mul-le-mul_left, mul-le-mul_right}
use Rattle.std.proofs.lemmas.Bool.{cases_Bool, false≢true, eqb-true}
use Rattle.std.proofs.lemmas.List.{length_push, length-map}
use Rattle.std.proofs.lemmas.List.Elements.{Contains-append_cases}
use Rattle.prefix.specs.declared.quant.Quant.{Quant}
use Rattle.prefix.specs.declared.quant.Quant.TheVariants.{Exists, Forall}
use Rattle.prefix.specs.Literal.{Literal}
use Rattle.prefix.specs.Scopes.{Scope, AreDistinct, all_variables, quantifier_of}
use Rattle.steps.specs.Counter.{Counter, after, left}
use Rattle.truth.specs.Truth.{assumed_value}
use Rattle.calculus.specs.Limits.{propagation_limit}
use Rattle.calculus.specs.Rows.{Row, variables_in}
use Rattle.calculus.specs.Search.{AreTheAssumptions, Cause, IsBadRow, IsUnitIn, Placed, Trail, assumed, cause_on, good_literal, is_decision, last_level, value_on}
use Rattle.calculus.specs.Search.Cause.{Assumed, Propagated}
use Rattle.calculus.specs.Verdicts.{AreOuter}
use Rattle.calculus.proofs.Assuming.{ordered_from}
use Rattle.calculus.proofs.Cutting.{level_none}
use Rattle.calculus.proofs.Fronts.{cause_front, short_of}
use Rattle.calculus.proofs.Lists.{contains_nil, contains_cons}
use Rattle.calculus.proofs.Propagation.{propagation_refutes}
use Rattle.calculus.proofs.RowLemmas.{same_true}
use Rattle.calculus.proofs.Sizes.{trail_length}
use Rattle.calculus.proofs.Trails.{cause_here, cause_of_assigned, cause_past, value_here, value_past}
use Rattle.trail.specs.Open.{placed_with}
use Rattle.trail.specs.State.{TrailState}
use Rattle.trail.proofs.Assuming.{all_assumed}
use Rattle.derive.specs.State.{State, arena_of, row_of}
use Rattle.watch.specs.Events.{AreQuiet}
use Rattle.watch.specs.Links.{is_at, is_attached, mark_of}
use Rattle.clean.specs.Marks.{marks_left}
use Rattle.search.specs.State.{IsPaused, IsSearching, SearchState, rows_of}
use Rattle.search.specs.Counting.{size_of}
use Rattle.search.specs.Forcing.{IsForced, IsRefuting, NoCubeAttached}
use Rattle.search.specs.Moves.{IsMatrix, Pushes}
use Rattle.search.specs.Watching.{Looks}
use Rattle.search.proofs.Covering.{attached_clause}
use Rattle.search.proofs.Turning.{none_open}

none_of : (o : Option Bool) → is_some o ≡ false → o ≡ None
none_of None h = refl
none_of (Some b) h = absurd (false≢true (sym h))

pub forced_level : (scopes : List Scope) (start : ℕ) (s : SearchState) (steps : Counter)
    → IsForced scopes start s steps → last_level s.trail.placed ≡ 0
forced_level scopes start s steps forced = level_none 0 s.trail.placed forced.undecided

-- where propagation refutes the matrix, the clauses aren't quiet
pub never_quiet : (scopes : List Scope) (matrix : List Row) (start : ℕ) (s : SearchState) (steps : Counter)
    → IsPaused scopes s → IsMatrix s.derivation matrix → IsRefuting scopes matrix start s steps
    → AreQuiet Exists scopes (value_on s.trail.placed) (rows_of s) → ⊥
never_quiet scopes matrix start s steps paused is_matrix refuting quiet =
    propagation_refutes scopes matrix (value_on s.trail.placed) refuting.assumptions
    (record {
      held = λ x b e. (refuting.assumed.stand x b e).0;
      others_open = λ x q n. open_at x q n (cases_Bool (is_some (value_on s.trail.placed x)));
    })
    (record {
      none_bad = λ clause i is_bad. let r =
          (attached_clause scopes s clause paused (is_matrix.none_else clause i)).1 in
          quiet.none_bad r.0 r.1 (subst (IsBadRow Exists scopes (value_on s.trail.placed)) (sym r.2) is_bad);
      none_unit = λ clause literal i is_unit. let r =
          (attached_clause scopes s clause paused (is_matrix.none_else clause i)).1 in
          quiet.none_unit r.0 literal r.1 (subst (λ row. IsUnitIn Exists scopes (value_on s.trail.placed) row literal)
          (sym r.2) is_unit);
    })
    refuting.refuted
  where
    open_at : (x : ℕ) → quantifier_of scopes x ≢ Some Exists → assumed_value refuting.assumptions x ≡ None
        → (is_some (value_on s.trail.placed x) ≡ true) ⊎ (is_some (value_on s.trail.placed x) ≡ false)
        → value_on s.trail.placed x ≡ None
    open_at x q n c =
        ⊎_elim
        (λ t. ⊎_elim
        (λ (a : cause_on s.trail.placed x ≡ Some Assumed). absurd
        (false≢true (sym (ap is_some n) ∙ refuting.assumed.entries x a)))
        (λ (e : quantifier_of scopes x ≡ Some Exists). absurd (q e))
        (refuting.forced.others x t))
        (λ f. none_of (value_on s.trail.placed x) f)
        c

-- the watches were asked
pub refuting_looked : (scopes : List Scope) (matrix : List Row) (start : ℕ) (s between : SearchState)
    (steps : Counter) → Looks scopes s between → IsRefuting scopes matrix start s steps
    → IsRefuting scopes matrix start between steps
refuting_looked scopes matrix start s between steps looks h =
    let same : (id : ℕ) → is_attached Forall (rows_of between) id ≡ is_attached Forall (rows_of s) id =
    λ id. ap (λ (o : Option ℕ). is_at o (mark_of Forall)) (looks.marks id) in
    record {
      assumptions = h.assumptions;
      assumed = subst (λ (t : TrailState). AreTheAssumptions t.placed h.assumptions) (sym looks.trail) h.assumed;
      refuted = h.refuted;
      forced = record {
        undecided = subst (λ (t : TrailState). (p : Placed) → Contains t.placed p → IsFalse (is_decision p.cause))
            (sym looks.trail) h.forced.undecided;
        others = subst (λ (t : TrailState). (x : ℕ) → IsTrue (is_some (value_on t.placed x))
            → (cause_on t.placed x ≡ Some Assumed) ⊎ (quantifier_of scopes x ≡ Some Exists))
            (sym looks.trail) h.forced.others;
        no_cubes = λ id. same id ∙ h.forced.no_cubes id;
        counted = h.forced.counted ∙ ap (λ (t : TrailState). start + length t.placed) (sym looks.trail);
      };
    }

-- no cube is found
no_cube_found : (side : Quant) (s : SearchState) (id : ℕ) → NoCubeAttached s → is_attached side (rows_of s) id ≡ true
    → side ≡ Exists
no_cube_found Exists s id none h = refl
no_cube_found Forall s id none h = absurd (false≢true (sym (none id) ∙ h))

-- a clause is propagated

cause_back : (front : Trail) (p : Placed) (x : ℕ) → is_some (value_on front x) ≡ false
    → cause_on (front ++ p ∷ []) x ≡ cause_on (p ∷ []) x
cause_back [] p x a = refl
cause_back (q ∷ front) p x a =
    ⊎_elim
    (λ t. absurd (false≢true (sym a ∙ ap is_some (value_here q front x t))))
    (λ f. cause_past q (front ++ p ∷ []) x f ∙ cause_back front p x (ap is_some (sym (value_past q front x f)) ∙ a))
    (cases_Bool (nat_eq q.literal.variable x))

one_variable : (p : Placed) (x : ℕ) (c : Cause) → cause_on (p ∷ []) x ≡ Some c → p.literal.variable ≡ x
one_variable p x c e =
    ⊎_elim
    (λ t. eqb-true p.literal.variable x t)
    (λ f. absurd (let g : None ≡ Some c = sym (cause_past p [] x f) ∙ e in cc))
    (cases_Bool (nat_eq p.literal.variable x))

new_exists : (scopes : List Scope) (front : Trail) (kept : Literal) (id : ℕ) (row : Row)
    → IsUnitIn Exists scopes (value_on front) row kept → (x : ℕ) → is_some (value_on front x) ≡ false
    → is_some (value_on (placed_with front kept (Propagated id)) x) ≡ true → quantifier_of scopes x ≡ Some Exists
new_exists scopes front kept id row unit x f t =
    let p : Placed = record { literal = kept; cause = Propagated id } in
    let c = cause_of_assigned (front ++ p ∷ []) x t in
    let same : kept.variable ≡ x = one_variable p x c.0 (sym (cause_back front p x f) ∙ c.1) in
    ap (quantifier_of scopes) (sym same) ∙ same_true (quantifier_of scopes kept.variable) Exists unit.pivot_type

pub refuting_push : (scopes : List Scope) (matrix : List Row) (start : ℕ) (old new : SearchState) (side : Quant)
    (id : ℕ) (kept : Literal) (before now : Counter) → IsRefuting scopes matrix start old before
    → is_attached side (rows_of old) id ≡ true
    → IsUnitIn side scopes (value_on old.trail.placed) (row_of old.derivation id) kept
    → ((assumptions : List Literal) → AreTheAssumptions old.trail.placed assumptions
    → AreTheAssumptions new.trail.placed assumptions)
    → Pushes old new (good_literal side kept) (Propagated id) before now → IsRefuting scopes matrix start new now
refuting_push scopes matrix start old new side id kept before now h attached unit keeps push =
    let exists = no_cube_found side old id h.forced.no_cubes attached in
    let clause = subst (λ q. IsUnitIn q scopes (value_on old.trail.placed) (row_of old.derivation id) kept) exists
    unit in
    let pushed : new.trail.placed ≡ placed_with old.trail.placed kept (Propagated id) = push.placed
    ∙ ap (λ q. placed_with old.trail.placed (good_literal q kept) (Propagated id)) exists in
    let front = old.trail.placed in
    let p : Placed = record { literal = kept; cause = Propagated id } in
    let long : length new.trail.placed ≡ length front + 1 = ap length pushed ∙ length_push front p in
    let spent : now.spent ≡ before.spent + 1 = ap (λ (c : Counter). c.spent) push.counted in
    let was = h.forced.counted in
    record {
      assumptions = h.assumptions;
      assumed = keeps h.assumptions h.assumed;
      refuted = h.refuted;
      forced = record {
        undecided = rw pushed (λ q i. ⊎_elim (h.forced.undecided q)
            (λ j. ⊎_elim (λ e. ap (λ (r : Placed). is_decision r.cause) (sym e)) (λ k. absurd (contains_nil q k))
            (contains_cons p [] q j)) (Contains-append_cases front (p ∷ []) q i));
        others = rw pushed (λ x t. ⊎_elim
            (λ a. ⊎_elim (λ c. inl (cause_front front (p ∷ []) x a ∙ c)) inr (h.forced.others x a))
            (λ f. inr (new_exists scopes front kept id (row_of old.derivation id) clause x f t))
            (cases_Bool (is_some (value_on front x))));
        no_cubes = λ i. ap (λ (d : State). is_attached Forall (arena_of d) i) push.derivation ∙ h.forced.no_cubes i;
        counted = omega arith;
      };
    }

-- where a step was due

few_square : (n : ℕ) → n ≤ propagation_limit n
few_square n = let r : n * 1 ≤ n * (n + 3) = mul-le-mul_left n (omega arith) in
    let twice : 2 * n * (n + 3) ≡ 2 * (n * (n + 3)) = omega arith in omega arith

-- of an assignment
pub few_assignment : (scopes : List Scope) (start : ℕ) (s : SearchState) (steps : Counter) (side : Quant) (row : Row)
    (kept : Literal) → IsSearching scopes s → Contains (all_variables scopes) kept.variable
    → IsUnitIn side scopes (value_on s.trail.placed) row kept → IsForced scopes start s steps
    → steps.spent ≡ steps.budget → steps.budget - start < propagation_limit (size_of scopes)
few_assignment scopes start s steps side row kept searching known unit forced spent =
    let short : length s.trail.placed < size_of scopes =
    short_of scopes s.trail.placed kept.variable searching.paused.intact.trail.ordered known
    (none_open (value_on s.trail.placed kept.variable) unit.open_yet) in
    let was = forced.counted in
    let n : size_of scopes ≤ propagation_limit (size_of scopes) = few_square (size_of scopes) in
    omega arith

-- of an analysis
few_analysed : (n len marks start spent budget : ℕ) → len ≤ n → marks ≤ len → spent ≡ start + len
    → budget - spent < 2 * (marks * len + 2 * len) → budget - start < propagation_limit n
few_analysed n len marks start spent budget short few was h =
    let one : marks * len ≤ n * len = mul-le-mul_right len (omega arith) in
    let two : n * len ≤ n * n = mul-le-mul_left n short in
    let three : 2 * n * (n + 3) ≡ 2 * (n * n) + 6 * n = omega arith in
    omega arith

wider : (x a b : ℕ) → x < 2 * (a + b) → x < 2 * (a + 2 * b)
wider x a b h = omega arith

pub few_analysis : (scopes : List Scope) (start : ℕ) (s : SearchState) (steps : Counter) → IsSearching scopes s
    → IsForced scopes start s steps
    → left steps < 2 * (marks_left s.trail * length s.trail.placed + length s.trail.placed)
    → steps.budget - start < propagation_limit (size_of scopes)
few_analysis scopes start s steps searching forced h =
    let short : length s.trail.placed ≤ size_of scopes =
    trail_length scopes s.trail.placed searching.paused.intact.trail.ordered in
    few_analysed (size_of scopes) (length s.trail.placed) (marks_left s.trail) start steps.spent steps.budget short
    (omega arith) forced.counted
    (wider (left steps) (marks_left s.trail * length s.trail.placed) (length s.trail.placed) h)

-- the start
pub forced_start : (scopes : List Scope) (s : SearchState) (assumptions : List Literal) (before : Counter)
    → NoCubeAttached s → s.trail.placed ≡ map assumed assumptions
    → IsForced scopes before.spent s (after before (length assumptions))
forced_start scopes s assumptions before none is = record {
  undecided = rw is (λ p i. ap is_decision (all_assumed assumptions p i));
  others = rw is (λ x t. let c = cause_of_assigned (map assumed assumptions) x t in
      inl (c.1 ∙ ap Some (assumed_cause assumptions x c.0 c.1)));
  no_cubes = none;
  counted = ap (λ n. before.spent + n) (sym (ap length is ∙ length-map assumptions assumed));
}
  where
    assumed_cause : (lits : List Literal) (x : ℕ) (c : Cause) → cause_on (map assumed lits) x ≡ Some c → c ≡ Assumed
    assumed_cause [] x c e = absurd (let g : None ≡ Some c = e in cc)
    assumed_cause (l ∷ ls) x c e =
        ⊎_elim
        (λ t. (let g : Some Assumed ≡ Some c = sym (cause_here (assumed l) (map assumed ls) x t) ∙ e in cc))
        (λ f. assumed_cause ls x c (sym (cause_past (assumed l) (map assumed ls) x f) ∙ e))
        (cases_Bool (nat_eq l.variable x))

-- of an assumption
pub assumptions_few : (scopes : List Scope) (lits : List Literal) → AreOuter scopes lits
    → AreDistinct (variables_in lits) → length lits ≤ propagation_limit (size_of scopes)
assumptions_few scopes lits outer different =
    let short : length (map assumed lits) ≤ size_of scopes =
    trail_length scopes (map assumed lits) (ordered_from scopes [] lits outer different (λ l i. refl)
    (λ p i. absurd (contains_nil p i))) in
    let same : length (map assumed lits) ≡ length lits = length-map lits assumed in
    let n : size_of scopes ≤ propagation_limit (size_of scopes) = few_square (size_of scopes) in
    omega arith
