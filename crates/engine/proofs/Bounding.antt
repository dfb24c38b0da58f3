-- How many removals the counts allow, and how many a derivation and its proofs have.
use Rattle.std.proofs.Common.{◌≡◌, ℕ, zero, suc, ◌+◌, ◌-◌, ◌*◌, ◌^◌, ◌<◌, ◌≤◌, ◌⊎◌, Bool, true, false, not, cond, List, [], ◌∷◌, ◌++◌, length, map, filter, Option, Some, None, Contains, refl, sym, ap, ap₂, ◌∙◌, ⊎_elim, arith}
use Rattle.std.specs.Prelude.{count_by, max, min}
use Rattle.std.specs.List.{cons_option, filter_map, list_all, range_with_len}
use Rattle.std.proofs.Math.Nat.{le-mul_of_pos_right, mul-le-mul, mul-le-mul_left, one-le-mul, pow-le-pow_right}
use Rattle.std.proofs.lemmas.Nat.{pow_pos}
use Rattle.std.proofs.lemmas.Bool.{cases_Bool, false≢true}
use Rattle.std.proofs.lemmas.List.Filters.{sum_by-filter_both}
use Rattle.std.proofs.lemmas.List.FromFn.{length-range_with_len}
use Rattle.std.proofs.lemmas.List.Sums.{count_by-le-length, sum_by-cons}
use Rattle.prefix.specs.declared.quant.Quant.TheVariants.{Exists, Forall}
use Rattle.prefix.specs.Literal.{Literal}
use Rattle.prefix.specs.Scopes.{Scope, all_variables}
use Rattle.steps.specs.Counter.{Counter, step_limit}
use Rattle.calculus.specs.Derivations.{Inference, Step, Why, core_order, inference_of, inferences_of, is_input, needed, of_side, reason_of, side_core}
use Rattle.calculus.specs.Derivations.Why.{Given, ReducedFrom, ResolvedFrom, FinishedFrom}
use Rattle.calculus.specs.Limits.{is_removal, removal_bound, removals_of}
use Rattle.calculus.specs.Rows.{Row, same_quantifier}
use Rattle.calculus.specs.Verdicts.{finish_of, finish_steps, is_assumed}
use Rattle.calculus.proofs.Lists.{contains_head, contains_tail, filter_at}
use Rattle.derive.specs.State.{State, ids_of, is_finish, next_id, step_at, steps_of, why_at}
use Rattle.derive.proofs.Legality.{stands_at}
use Rattle.clean.specs.Turns.{is_reduction, reductions_in}
use Rattle.step_core.specs.Cores.{end_row_in, proof_at, step_under}
use Rattle.frames.specs.State.{OpenFormula}
use Rattle.search.specs.Finishes.{HasNoFinish, finishes_in}
use Rattle.search.specs.Changing.{room_of}
use Rattle.search.specs.State.{IsIntact, SearchState}
use Rattle.search.proofs.Reducing.{count_left}
use Rattle.engine.specs.declared.counts.Counts.{Counts}
use Rattle.engine.specs.declared.verdict.Held.{Held}
use Rattle.engine.specs.Counting.{one_more, with_clause, with_clauses, with_solve}
use Rattle.engine.specs.Marks.{AreMarked}
use Rattle.engine.specs.Kept.{AreTied, HasFinishesOf, IsEngine}

-- each variable of the prefix has room
pub within_room : (scopes : List Scope) (s : SearchState) → IsIntact scopes s → (x : ℕ)
    → Contains (all_variables scopes) x → x ≤ room_of s
within_room scopes s intact x known =
    let t : x ≤ s.trail.room = intact.room.trail x known in
    let g : x ≤ length s.signs = intact.room.signs x known in
    let a : s.trail.room ≤ s.clauses.room = intact.watching.room Exists in
    let b : s.trail.room ≤ s.cubes.room = intact.watching.room Forall in
    omega (arith, t, g, a, b)

-- the counts

limit_grows : (few many m n : ℕ) → few ≤ many → m ≤ n → step_limit few m ≤ step_limit many n
limit_grows low high m n more few =
    let two : 0 < 2 = omega arith in
    mul-le-mul (let h : 8 * m + 8 ≤ 8 * n + 8 = omega arith in h)
    (mul-le-mul (let h : low + 1 ≤ high + 1 = omega arith in h)
    (pow-le-pow_right two (let h : m + 1 ≤ n + 1 = omega arith in h)))

-- more clauses, with a count that may stay at its last value
more_clauses : (last count clauses rest old new : ℕ) → new ≤ old + count → new ≤ last → old < clauses + rest + 1
    → new < min (clauses + count) last + rest + 1
more_clauses last count clauses rest old new more small h = omega arith

-- one more solve of at most that many reductions
more_solves : (last solves each each' old new : ℕ) → each ≤ each' → new ≤ old + each' → new ≤ last → 1 ≤ each'
    → (clauses : ℕ) → old < clauses + solves * each + 1 → new < clauses + min (solves + 1) last * each' + 1
more_solves last solves each each' old new grows more small some clauses h =
    ⊎_elim
    (λ (within : solves + 1 ≤ last).
    let all : solves * each ≤ solves * each' = mul-le-mul_left solves grows in
    let one : min (solves + 1) last ≡ solves + 1 = omega arith in
    let product : (solves + 1) * each' ≡ solves * each' + each' = omega arith in
    let few : new < clauses + (solves + 1) * each' + 1 = omega arith in
    rw one few)
    (λ (full : last < solves + 1).
    let stays : min (solves + 1) last ≡ last = omega arith in
    let enough : last ≤ last * each' = le-mul_of_pos_right last (let h : 0 < each' = omega arith in h) in
    let few : new < clauses + last * each' + 1 = omega arith in
    rw stays few)
    (either (solves + 1) last)
  where
    either : (a b : ℕ) → (a ≤ b) ⊎ (b < a)
    either a b = grind arith

-- a solve of some variables, within a budget
bounded_solve : (last clauses solves budget restarts vars now again n spent old new : ℕ) → spent ≤ now
    → spent < step_limit again n → new ≤ old + spent + 1 → new ≤ last
    → old < removal_bound clauses solves budget restarts vars
    → new < removal_bound clauses (min (solves + 1) last) (max budget now) (max restarts again) (max vars n)
bounded_solve last clauses solves budget restarts vars now again n spent old new paid few more small h =
    let most = max restarts again in
    let first : step_limit restarts vars ≤ step_limit most (max vars n) =
    limit_grows restarts most vars (max vars n) (omega arith) (omega arith) in
    let second : step_limit again n ≤ step_limit most (max vars n) =
    limit_grows again most n (max vars n) (omega arith) (omega arith) in
    by (step_limit restarts vars) (step_limit again n) (step_limit most (max vars n)) first second few h
  where
    by : (a b c : ℕ) → a ≤ c → b ≤ c → spent < b → old < clauses + solves * (min budget a + 1) + 1
        → new < clauses + min (solves + 1) last * (min (max budget now) c + 1) + 1
    by a b c first second few h =
        more_solves last solves (min budget a + 1) (min (max budget now) c + 1) old new (omega arith) (omega arith)
        small (omega arith) clauses h

-- the removals that counts allow
abbrev pub allowed : Counts → ℕ
allowed counts = removal_bound counts.clauses counts.solves counts.budget counts.restarts counts.vars

pub clauses_counted : (counts : Counts) (count old new : ℕ) → new ≤ old + count → new < 2 ^ 64 → old < allowed counts
    → new < allowed (with_clauses count counts)
clauses_counted counts count old new more fit h =
    more_clauses (2 ^ 64 - 1) count counts.clauses
    (counts.solves * (min counts.budget (step_limit counts.restarts counts.vars) + 1)) old new more (omega arith) h

pub clause_counted : (counts : Counts) (old new : ℕ) → new ≤ old + 1 → new < 2 ^ 64 → old < allowed counts
    → new < allowed (with_clause counts)
clause_counted counts old new more fit h = clauses_counted counts 1 old new more fit h

-- one more solve of so many variables, by a counter
pub solve_counted : (counts : Counts) (before now : Counter) (again n first old new : ℕ) → old ≡ first
    → new ≤ old + (now.spent - before.spent) + 1 → new < 2 ^ 64 → now.spent - before.spent < step_limit again n
    → now.spent ≤ now.budget → now.budget ≡ before.budget → first < allowed counts
    → new < allowed (with_solve before.budget again n counts)
solve_counted counts before now again n first old new same more fit few within budget h =
    bounded_solve (2 ^ 64 - 1) counts.clauses counts.solves counts.budget counts.restarts counts.vars
    before.budget again n
    (now.spent - before.spent) first new (omega arith) few (omega arith) (omega arith) h

-- a solve that didn't begin
limit_some : (restarts n : ℕ) → 0 < step_limit restarts n
limit_some restarts n =
    let power = pow_pos (n + 1) in
    let rounds : 1 ≤ (restarts + 1) * 2 ^ (n + 1) = one-le-mul (omega arith) (omega (arith, power)) in
    let most : 1 ≤ (8 * n + 8) * ((restarts + 1) * 2 ^ (n + 1)) = one-le-mul (omega arith) rounds in
    most

pub unsolved_counted : (counts : Counts) (now again n old new : ℕ) → new ≡ old → new < 2 ^ 64 → old < allowed counts
    → new < allowed (with_solve now again n counts)
unsolved_counted counts now again n old new same fit h =
    bounded_solve (2 ^ 64 - 1) counts.clauses counts.solves counts.budget counts.restarts counts.vars now again n 0
    old new (omega arith) (limit_some again n) (omega (arith, same)) (omega arith) h

pub some_solves : (counts : Counts) → one_more counts.solves ≡ 0 → ⊥
some_solves counts none = absurd (omega arith)

-- an engine after a solve without a verdict
pub undecided : (f : OpenFormula) (s : SearchState) (counts : Counts) (marks : List ℕ) (now again n : ℕ) → AreTied f s
    → HasNoFinish s.derivation → reductions_in s.derivation < allowed (with_solve now again n counts)
    → AreMarked f.frames marks f.scopes s.derivation → IsEngine f s None (with_solve now again n counts) marks
undecided f s counts marks now again n tied none few marked = record {
  tied = tied;
  held = tt;
  finishes = none;
  cubes = λ e. absurd (some_solves counts e);
  reductions = few;
  variables = tt;
  long = tt;
  marked = marked;
}

-- a derivation has no more reductions than ids

listed_few : {X : Type 0} (f : ℕ → Option X) (ids : List ℕ) → length (filter_map f ids) ≤ length ids
listed_few f [] = omega arith
listed_few f (id ∷ ids) = by (f id) (filter_map f ids) (length ids) (listed_few f ids)
  where
    by : {X : Type 0} (o : Option X) (xs : List X) (n : ℕ) → length xs ≤ n → length (cons_option o xs) ≤ suc n
    by None xs n h = omega arith
    by (Some x) xs n h = omega arith

reductions_few : (d : State) → reductions_in d ≤ next_id d
reductions_few d =
    let some = count_by-le-length (λ (s : Step). is_reduction s.why) (steps_of d) in
    let listed = listed_few (step_at d) (ids_of d) in
    let ids = length-range_with_len 0 (next_id d) in
    omega (arith, some, listed, ids)

pub reductions_fit : (d : State) (next : ℕ) → next ≡ next_id d → next < 2 ^ 64 → reductions_in d < 2 ^ 64
reductions_fit d next same small = let few = reductions_few d in omega (arith, few, same, small)

-- how many finishes are live

none_pass : (test : ℕ → Bool) (a n : ℕ) → ((id : ℕ) → a ≤ id → test id ≡ true → ⊥)
    → count_by test (range_with_len a n) ≡ 0
none_pass test a zero none = refl
none_pass test a (suc n) none =
    sum_by-cons (λ id. cond (test id) 1 0) a (range_with_len (a + 1) n)
    ∙ ap₂ ◌+◌ (by (test a) (λ e. none a (omega arith) e))
    (none_pass test (a + 1) n (λ id later. none id (omega arith)))
  where
    by : (b : Bool) → (b ≡ true → ⊥) → ◌≡◌ {A = ℕ} (cond b 1 0) 0
    by true e = absurd (e refl)
    by false e = refl

one_passes : (test : ℕ → Bool) (end a n : ℕ) → ((id : ℕ) → test id ≡ true → id ≡ end)
    → count_by test (range_with_len a n) ≤ 1
one_passes test end a zero one = omega arith
one_passes test end a (suc n) one =
    let whole = sum_by-cons (λ id. cond (test id) 1 0) a (range_with_len (a + 1) n) in
    let rest = one_passes test end (a + 1) n one in
    ⊎_elim
    (λ yes.
    let none : count_by test (range_with_len (a + 1) n) ≡ 0 =
    none_pass test (a + 1) n (λ id later pass. absurd (let here = one a yes in let there = one id pass in omega arith))
    in
    let first = ap {B = ℕ} (λ b. cond b 1 0) yes in
    omega (arith, whole, none, first))
    (λ no. let first = ap {B = ℕ} (λ b. cond b 1 0) no in omega (arith, whole, rest, first))
    (cases_Bool (test a))

pub no_finishes : (d : State) → HasNoFinish d → finishes_in d ≡ 0
no_finishes d none = none_pass (λ id. is_finish (why_at d id)) 0 (next_id d) (λ id from pass. none id pass)

-- no finish is live but that of a verdict
pub finishes_few : (verdict : Option Held) (d : State) → HasFinishesOf verdict d → finishes_in d ≤ 1
finishes_few None d none = let zero = no_finishes d none in omega (arith, zero)
finishes_few (Some held) d one = one_passes (λ id. is_finish (why_at d id)) held.verdict.end 0 (next_id d) one

-- a proof has no more removals than its derivation has reductions, and one more

removals_counted : (steps : List Inference) → removals_of steps ≡ count_by (λ (s : Inference). is_removal s.reason)
    steps
removals_counted [] = refl
removals_counted (s ∷ steps) =
    ap (λ n. cond (is_removal s.reason) 1 0 + n) (removals_counted steps)
    ∙ sym (sum_by-cons (λ (t : Inference). cond (is_removal t.reason) 1 0) s steps)

removals_append : (front back : List Inference) → removals_of (front ++ back) ≡ removals_of front + removals_of back
removals_append [] back = omega arith
removals_append (s ∷ front) back = let rest = removals_append front back in omega (arith, rest)

-- in another order
removals_ordered : (steps : List Inference) → removals_of (core_order steps) ≡ removals_of steps
removals_ordered steps =
    let first = filter (λ (s : Inference). is_input s.reason) steps in
    let second = filter (λ (s : Inference). not (is_input s.reason)) steps in
    let both = sum_by-filter_both (λ (s : Inference). is_input s.reason) (λ (s : Inference). not (is_input s.reason))
    (λ s. refl) (λ (s : Inference). cond (is_removal s.reason) 1 0) steps in
    let parts = removals_append first second in
    let a = removals_counted first in
    let b = removals_counted second in
    let c = removals_counted steps in
    omega (arith, both, parts, a, b, c)

-- with rows in place of ids
removal_is : (steps : List Step) (why : Why) → is_finish why ≡ false
    → is_removal (reason_of steps why) ≡ is_reduction why
removal_is steps Given e = refl
removal_is steps (ReducedFrom a) e = refl
removal_is steps (ResolvedFrom a b x) e = refl
removal_is steps (FinishedFrom a) e = absurd (false≢true (sym e))

removals_named : (all steps : List Step) → ((s : Step) → Contains steps s → is_finish s.why ≡ false)
    → removals_of (map (inference_of all) steps) ≡ count_by (λ (s : Step). is_reduction s.why) steps
removals_named all [] none = refl
removals_named all (s ∷ steps) none =
    ap₂ (λ b n. cond b 1 0 + n) (removal_is all s.why (none s (contains_head s steps)))
    (removals_named all steps (λ t i. none t (contains_tail s steps t i)))
    ∙ sym (sum_by-cons (λ (t : Step). cond (is_reduction t.why) 1 0) s steps)

finish_few : (assumptions : List Literal) (row : Row) → removals_of (finish_steps assumptions row) ≤ 1
finish_few assumptions row = by (list_all (is_assumed assumptions) row)
  where
    by : (b : Bool) → removals_of (cond b [] (finish_of assumptions row ∷ [])) ≤ 1
    by true = omega arith
    by false = omega arith

not_finish : (d : State) (s : Step) → Contains (steps_of d) s → is_finish s.why ≡ false
not_finish d s i = let stands = stands_at d s i in ap is_finish stands.why ∙ stands.no_finish

pub proof_few : (d : State) (assumptions : List Literal) (end : ℕ)
    → removals_of (proof_at d assumptions end) ≤ reductions_in d + 1
proof_few d assumptions end =
    let last = step_under d (end_row_in (why_at d end) end) in
    let test = λ (s : Step). is_reduction s.why in
    let ours = of_side last.side (steps_of d) in
    let core = side_core (steps_of d) last in
    let none : (s : Step) → Contains core s → is_finish s.why ≡ false =
    λ s i. not_finish d s (filter_at _ (steps_of d) s (filter_at _ ours s i).0).0 in
    let named = removals_named core core none in
    let ordered = removals_ordered (inferences_of core) in
    let parts = removals_append (core_order (inferences_of core)) (finish_steps assumptions last.row) in
    let finish = finish_few assumptions last.row in
    let one = count_left test (λ s. same_quantifier s.side last.side) (steps_of d) in
    let two = count_left test (λ s. needed ours last.id s.id) ours in
    omega (arith, named, ordered, parts, finish, one, two)
