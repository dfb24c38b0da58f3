-- Worked values: small formulas, rows and proofs whose answers are known.
use Rattle.std.specs.Prelude.{◌≡◌, ℕ, Bool, true, false, not, List, [], ◌∷◌, Some, None, ◌==◌}
use Rattle.prefix.specs.declared.quant.Quant.TheVariants.{Exists, Forall}
use Rattle.prefix.specs.Literal.{Literal}
use Rattle.prefix.specs.Scopes.{Scope}
use Rattle.truth.specs.Truth.{truth, truth_under, plain_steps}
use Rattle.calculus.specs.Rows.{Row, depth_of, reduce, resolve, clashes}
use Rattle.calculus.specs.Derivations.{Inference, IsLegal}
use Rattle.calculus.specs.Derivations.Reason.{Input, One, Two}
use Rattle.calculus.specs.Verdicts.{IsProof, relevant_of, finish_steps}
use Rattle.calculus.specs.Plays.{played, first_forced, total}
use Rattle.steps.specs.Counter.{step_limit}
use Rattle.calculus.specs.Limits.{assignment_limit, gate_weight, propagation_limit, removal_bound, steps_for, weight_bound}
use Rattle.calculus.specs.Weights.{trail_weight}
use Rattle.truth.specs.Matrix.{matrix_true}

-- a variable as a literal
abbrev pub plus : ℕ → Literal
plus x = record { variable = x; positive = true }

-- its negation
abbrev pub minus : ℕ → Literal
minus x = record { variable = x; positive = false }

-- a scope of existential variables
abbrev pub existential : List ℕ → Scope
existential xs = record { quantifier = Exists; variables = xs }

-- a scope of universal variables
abbrev pub universal : List ℕ → Scope
universal xs = record { quantifier = Forall; variables = xs }

-- a 1, e 2
abbrev pub universal_first : List Scope
universal_first = universal (1 ∷ []) ∷ existential (2 ∷ []) ∷ []

-- e 2, a 1
abbrev pub existential_first : List Scope
existential_first = existential (2 ∷ []) ∷ universal (1 ∷ []) ∷ []

-- 1 differs from 2
abbrev pub differ : List Row
differ = (plus 1 ∷ plus 2 ∷ []) ∷ (minus 1 ∷ minus 2 ∷ []) ∷ []

-- reduction, resolution and clash
pub record WorkedRows : Type 0 where
  -- under e 2, a 1 the clause 1 2 loses 1; under a 1, e 2 it is blocked
  pub last_universal_goes : reduce Exists existential_first (plus 1 ∷ plus 2 ∷ []) ≡ plus 2 ∷ []
  pub blocked_universal_stays : reduce Exists universal_first (plus 1 ∷ plus 2 ∷ []) ≡ plus 1 ∷ plus 2 ∷ []
  -- a clause without existential literals stays as it is
  pub lone_universal_stays : reduce Exists universal_first (plus 1 ∷ []) ≡ plus 1 ∷ []
  -- the same for cubes
  pub last_existential_goes : reduce Forall universal_first (plus 1 ∷ plus 2 ∷ []) ≡ plus 1 ∷ []
  pub blocked_existential_stays : reduce Forall existential_first (plus 1 ∷ plus 2 ∷ []) ≡ plus 1 ∷ plus 2 ∷ []
  pub lone_existential_stays : reduce Forall existential_first (plus 2 ∷ []) ≡ plus 2 ∷ []
  -- a variable that isn't in the prefix lies past the last scope
  pub absent_is_last : depth_of universal_first 9 ≡ 3
  pub absent_goes : reduce Exists universal_first (plus 2 ∷ plus 9 ∷ []) ≡ plus 2 ∷ []
  pub other_pair_clashes : clashes (plus 1 ∷ plus 2 ∷ []) (minus 1 ∷ minus 2 ∷ []) 2 ≡ true
  pub pivot_alone_does_not : clashes (plus 1 ∷ plus 2 ∷ []) (plus 1 ∷ minus 2 ∷ []) 2 ≡ false
  pub resolvent : resolve (plus 1 ∷ plus 2 ∷ plus 5 ∷ []) (minus 2 ∷ plus 3 ∷ plus 5 ∷ []) 2
      ≡ plus 1 ∷ plus 3 ∷ plus 5 ∷ []

-- weights over three variables: a decision and another assignment; another assignment; three of them
pub record WorkedWeights : Type 0 where
  pub decided_then_assigned : trail_weight 3 (true ∷ false ∷ []) ≡ 5
  pub assigned_once : trail_weight 3 (false ∷ []) ≡ 8
  pub assigned_thrice : trail_weight 3 (false ∷ false ∷ false ∷ []) ≡ 14

-- truth
pub record WorkedTruths : Type 0 where
  pub universal_then_existential_is_true : truth universal_first differ ≡ true
  -- this is also the formula that reading gives where 2 is free, since free variables are existential and outermost
  pub existential_then_universal_is_false : truth existential_first differ ≡ false
  pub empty_formula_is_true : truth [] [] ≡ true
  pub empty_clause_is_false : truth [] ([] ∷ []) ≡ false
  pub tautologies_are_no_matter
      : truth universal_first ((plus 1 ∷ minus 1 ∷ plus 2 ∷ []) ∷ (plus 2 ∷ plus 2 ∷ []) ∷ []) ≡ true
  pub assumed_universal
      : truth_under (plus 1 ∷ []) universal_first ((plus 1 ∷ plus 2 ∷ []) ∷ (plus 1 ∷ minus 2 ∷ []) ∷ []) ≡ true
  pub unassumed_universal
      : truth_under [] universal_first ((plus 1 ∷ plus 2 ∷ []) ∷ (plus 1 ∷ minus 2 ∷ []) ∷ []) ≡ false
  pub assumed_against
      : truth_under (minus 1 ∷ []) universal_first ((plus 1 ∷ plus 2 ∷ []) ∷ (plus 1 ∷ minus 2 ∷ []) ∷ []) ≡ false
  pub conjunction_gate : truth (universal (1 ∷ 2 ∷ []) ∷ existential (3 ∷ []) ∷ [])
      ((minus 3 ∷ plus 1 ∷ []) ∷ (minus 3 ∷ plus 2 ∷ []) ∷ (plus 3 ∷ minus 1 ∷ minus 2 ∷ []) ∷ []) ≡ true
  pub steps_tried : plain_steps universal_first differ ≡ 5

-- a refutation under e 2, a 1: 1 2 and -1 -2 reduce to 2 and -2, whose resolvent is empty
abbrev pub refutation : List Inference
refutation =
    record { row = plus 1 ∷ plus 2 ∷ []; reason = Input }
    ∷ record { row = minus 1 ∷ minus 2 ∷ []; reason = Input }
    ∷ record { row = plus 2 ∷ []; reason = One (plus 1 ∷ plus 2 ∷ []) }
    ∷ record { row = minus 2 ∷ []; reason = One (minus 1 ∷ minus 2 ∷ []) }
    ∷ record { row = []; reason = Two (plus 2 ∷ []) (minus 2 ∷ []) 2 }
    ∷ []

-- it is a proof, it decides the truth, and its play gives 1 the value of 2
pub record WorkedRefutation : Type 0 where
  pub proof : IsProof Exists existential_first differ [] refutation
  pub decides : truth_under [] existential_first differ ≡ false
  pub copies : (b : Bool) → played Exists existential_first [] refutation (λ x. b) 1 ≡ b
  pub gates : gate_weight refutation ≡ 4

-- the dual under a 1, e 2: the cubes 1 -2 and -1 2 hit both clauses, and reduce to 1 and -1, whose resolvent is empty
abbrev pub model : List Inference
model =
    record { row = plus 1 ∷ minus 2 ∷ []; reason = Input }
    ∷ record { row = minus 1 ∷ plus 2 ∷ []; reason = Input }
    ∷ record { row = plus 1 ∷ []; reason = One (plus 1 ∷ minus 2 ∷ []) }
    ∷ record { row = minus 1 ∷ []; reason = One (minus 1 ∷ plus 2 ∷ []) }
    ∷ record { row = []; reason = Two (plus 1 ∷ []) (minus 1 ∷ []) 1 }
    ∷ []

-- it is a proof, it decides the truth, and its play gives 2 the other value of 1
pub record WorkedModel : Type 0 where
  pub proof : IsProof Forall universal_first differ [] model
  pub decides : truth_under [] universal_first differ ≡ true
  pub opposes : (b : Bool) → played Forall universal_first [] model (λ x. b) 2 ≡ not b

-- under e 1 2 with -1 and 2 assumed the clause 1 is an end row, and its own proof: nothing is left to remove, and -1
-- alone is relevant
pub record WorkedAssumptions : Type 0 where
  pub proof : IsProof Exists (existential (1 ∷ 2 ∷ []) ∷ []) ((plus 1 ∷ []) ∷ []) (minus 1 ∷ plus 2 ∷ [])
      (record { row = plus 1 ∷ []; reason = Input } ∷ [])
  pub no_finish : finish_steps (minus 1 ∷ plus 2 ∷ []) (plus 1 ∷ []) ≡ []
  pub relevant : relevant_of (minus 1 ∷ plus 2 ∷ []) (plus 1 ∷ []) ≡ minus 1 ∷ []

-- under e 1 2, a 3: from 1 3, from 2 -1 -3, and from -2 follow 1, then 2 -3 and 2, then the empty clause
abbrev pub chained : List Inference
chained =
    record { row = plus 1 ∷ plus 3 ∷ []; reason = Input }
    ∷ record { row = minus 1 ∷ plus 2 ∷ minus 3 ∷ []; reason = Input }
    ∷ record { row = minus 2 ∷ []; reason = Input }
    ∷ record { row = plus 1 ∷ []; reason = One (plus 1 ∷ plus 3 ∷ []) }
    ∷ record { row = plus 2 ∷ minus 3 ∷ []; reason = Two (plus 1 ∷ []) (minus 1 ∷ plus 2 ∷ minus 3 ∷ []) 1 }
    ∷ record { row = plus 2 ∷ []; reason = One (plus 2 ∷ minus 3 ∷ []) }
    ∷ record { row = []; reason = Two (plus 2 ∷ []) (minus 2 ∷ []) 2 }
    ∷ []

-- its prefix
abbrev pub chained_scopes : List Scope
chained_scopes = existential (1 ∷ 2 ∷ []) ∷ universal (3 ∷ []) ∷ []

-- and its clauses
abbrev pub chained_clauses : List Row
chained_clauses = (plus 1 ∷ plus 3 ∷ []) ∷ (minus 1 ∷ plus 2 ∷ minus 3 ∷ []) ∷ (minus 2 ∷ []) ∷ []

-- where 1 and 2 are false both reductions have a false result: the first makes 3 false, which falsifies 1 3; the last
-- would make it true, which falsifies nothing; where 1 alone is true, the second one counts; where both are true
-- nothing is forced, and 3 is false
pub record WorkedFirst : Type 0 where
  pub proof : IsProof Exists chained_scopes chained_clauses [] chained
  pub first_counts : first_forced Exists (λ x. false) 3 chained ≡ Some false
  pub falsifies : matrix_true (total (played Exists chained_scopes [] chained (λ x. false))) chained_clauses ≡ false
  pub then_second : played Exists chained_scopes [] chained (λ x. x == 1) 3 ≡ true
  pub nothing_forced : first_forced Exists (λ x. true) 3 chained ≡ None
  pub then_false : played Exists chained_scopes [] chained (λ x. true) 3 ≡ false
  pub falsifies_too : matrix_true (total (played Exists chained_scopes [] chained (λ x. true))) chained_clauses ≡ false

-- under e 1 2 the clauses 1, -1 and 2: the empty clause follows from the first two
abbrev pub with_unused : List Inference
with_unused =
    record { row = plus 1 ∷ []; reason = Input }
    ∷ record { row = plus 2 ∷ []; reason = Input }
    ∷ record { row = minus 1 ∷ []; reason = Input }
    ∷ record { row = []; reason = Two (plus 1 ∷ []) (minus 1 ∷ []) 1 }
    ∷ []

-- the list is legal, but no proof, since nothing rests on 2
pub record WorkedUnused : Type 0 where
  pub legal : IsLegal Exists (existential (1 ∷ 2 ∷ []) ∷ [])
      ((plus 1 ∷ []) ∷ (minus 1 ∷ []) ∷ (plus 2 ∷ []) ∷ []) with_unused
  pub no_proof : IsProof Exists (existential (1 ∷ 2 ∷ []) ∷ [])
      ((plus 1 ∷ []) ∷ (minus 1 ∷ []) ∷ (plus 2 ∷ []) ∷ []) [] with_unused → ⊥

-- limits for up to four variables; the removals of 3 clauses and 2 solves over one variable, with a budget below its
-- step limit and one above; and the gates of the first
pub record WorkedLimits : Type 0 where
  pub one : step_limit 0 1 ≡ 64
  pub two : step_limit 0 2 ≡ 192
  pub three : step_limit 0 3 ≡ 512
  pub four : step_limit 0 4 ≡ 1280
  pub twice_anew : step_limit 2 4 ≡ 3840
  pub steps_at_first : steps_for 3 0 ≡ 32
  pub steps_after_fifteen : steps_for 3 15 ≡ 512
  pub propagation : propagation_limit 3 ≡ 36
  pub assigned : assignment_limit 0 3 ≡ 16
  pub assigned_twice_anew : assignment_limit 2 3 ≡ 48
  pub removals : removal_bound 3 2 5 0 1 ≡ 16
  pub capped : removal_bound 3 2 100 0 1 ≡ 134
  pub uncapped : removal_bound 3 2 100 1 1 ≡ 206
  pub weight : weight_bound 3 2 5 0 1 ≡ 32
