-- A derivation stays legal under new clauses that its inputs fit, and under a prefix with more scopes and variables.
use Rattle.std.proofs.Common.{◌≡◌, ℕ, suc, ◌+◌, ◌<◌, ◌≤◌, true, cond, List, [], ◌∷◌, length, Contains, sym, refl, ap, ap₂, ◌∙◌, arith, nat_lt, None, Option, is_some, unwrap_or, option_map, zero, ◌||◌, Some, false, nat_eq}
use Rattle.std.proofs.lemmas.Bool.{cond-false, true≢false, ne_eqb, or_right}
use Rattle.prefix.specs.Scopes.{Scope, all_variables, is_among, level_of, with_variable_at}
use Rattle.prefix.specs.Insertion.{lifted}
use Rattle.prefix.specs.declared.quant.Quant.{Quant}
use Rattle.calculus.specs.Derivations.{Extends, IsDerivation, IsInput, IsLegalStep, Step, Why}
use Rattle.calculus.specs.Derivations.Why.{FinishedFrom, Given, ReducedFrom, ResolvedFrom}
use Rattle.calculus.specs.Rows.{Row, reduce, depth_of}
use Rattle.calculus.proofs.Levels.{quant_from, quantifier_counted, has_level}
use Rattle.calculus.proofs.Lists.{among_at, among_from}
use Rattle.calculus.proofs.RowLaws.{reduce_reads}
use Rattle.std.specs.Prelude.{insert, IsTrue}
use Rattle.std.proofs.lemmas.Bool.Decides.{nat_tests}
use Rattle.prefix.proofs.ScopeLemmas.{all_variables-insert, level-insert, level-with_variable_at, is_among-insert_ascending, is_among-all_variables-with, length-with_variable_at}

module _ (old new : List Scope) (before after : List Row) (steps : List Step) (extends : Extends old new)
    (inputs : (s : Step) → Contains steps s → s.why ≡ Given → IsInput s.side after s.row)
    (d : IsDerivation old before steps) where
  reduce_same : (pivot : Quant) (s : Step) → Contains steps s → reduce pivot old s.row ≡ reduce pivot new s.row
  reduce_same pivot s i = reduce_reads pivot old new s.row
      (λ l j. extends.quantifiers l.variable ((d.rows s i).over_prefix l j))
      (λ l m j k. extends.depths l.variable m.variable ((d.rows s i).over_prefix l j) ((d.rows s i).over_prefix m k))

  changed_step : (s : Step) → Contains steps s → (why : Why) → s.why ≡ why → IsLegalStep old before steps s why
      → IsLegalStep new after steps s why
  changed_step s i Given e legal = inputs s i e
  changed_step s i (ReducedFrom a) e legal = record {
    from = legal.from;
    removes = legal.removes;
    result = legal.result
        ∙ reduce_same s.side legal.from.step legal.from.stands;
  }
  changed_step s i (ResolvedFrom a b x) e legal = record {
    from_positive = legal.from_positive;
    from_negative = legal.from_negative;
    has_positive = legal.has_positive;
    has_negative = legal.has_negative;
    is_pivot_variable =
        sym (extends.quantifiers x ((d.rows legal.from_positive.step legal.from_positive.stands).over_prefix
        (record { variable = x; positive = true }) legal.has_positive)) ∙ legal.is_pivot_variable;
    no_clash = legal.no_clash;
    result = legal.result;
  }
  changed_step s i (FinishedFrom a) e legal = absurd legal

  pub changed_derivation : IsDerivation new after steps
  changed_derivation = record {
    ascending_ids = d.ascending_ids;
    rows = λ s i. record {
      ascending = (d.rows s i).ascending;
      over_prefix = λ l j. extends.has l.variable
          ((d.rows s i).over_prefix l j);
    };
    legal = λ s i. changed_step s i s.why refl (d.legal s i);
  }

pub extends_itself : (scopes : List Scope) → Extends scopes scopes
extends_itself scopes = record { has = λ x i. i; quantifiers = λ x i. refl; depths = λ x y i j. refl }

-- a new scope with no variables
lifted_order : (a b k : ℕ) → nat_lt a b ≡ nat_lt (lifted k a) (lifted k b)
lifted_order a b k = grind (arith, nat_tests)

lifted_depths : (o p : Option ℕ) (k m n : ℕ) → IsTrue (is_some o) → IsTrue (is_some p) → nat_lt (unwrap_or o m)
    (unwrap_or p m) ≡ nat_lt (unwrap_or (option_map (lifted k) o) n) (unwrap_or (option_map (lifted k) p) n)
lifted_depths None p k m n s t = absurd (cc)
lifted_depths (Some a) None k m n s t = absurd (cc)
lifted_depths (Some a) (Some b) k m n s t = lifted_order a b k

empty_quantifier : (scopes : List Scope) (n : ℕ) (q : Quant) (x : ℕ)
    → quant_from (insert scopes n (record { quantifier = q; variables = [] })) x ≡ quant_from scopes x
empty_quantifier scopes zero q x = refl
empty_quantifier [] (suc n) q x = refl
empty_quantifier (s ∷ scopes) (suc n) q x = ap (cond (is_among x s.variables) (Some s.quantifier))
    (empty_quantifier scopes n q x)

pub extends_scope : (scopes : List Scope) (n : ℕ) (q : Quant) → n ≤ length scopes
    → Extends scopes (insert scopes n (record { quantifier = q; variables = [] }))
extends_scope scopes n q within =
    let more = insert scopes n (record { quantifier = q; variables = [] }) in
    record {
      has = λ x i. rw (all_variables-insert scopes n q within) i;
      quantifiers = λ x i. quantifier_counted scopes x
          ∙ (sym (empty_quantifier scopes n q x) ∙ sym (quantifier_counted more x));
      depths = λ x y i j. lifted_depths (level_of scopes x) (level_of scopes y) (n + 1) (length scopes + 1)
          (length more + 1) (has_level scopes x i) (has_level scopes y j)
          ∙ ap₂ (λ o p. nat_lt (unwrap_or o (length more + 1)) (unwrap_or p (length more + 1)))
          (sym (level-insert scopes n q x within)) (sym (level-insert scopes n q y within));
    }

-- a new variable of a scope
variable_quantifier : (scopes : List Scope) (n v x : ℕ) → (v ≡ x → ⊥) → quant_from (with_variable_at scopes n v)
    x ≡ quant_from scopes x
variable_quantifier [] n v x apart = refl
variable_quantifier (s ∷ scopes) zero v x apart =
    ap (λ b. cond b (Some s.quantifier) (quant_from scopes x)) (is_among-insert_ascending x v s.variables
    ∙ ap (λ b. b || is_among x s.variables) (ne_eqb v x apart))
variable_quantifier (s ∷ scopes) (suc n) v x apart = ap (cond (is_among x s.variables) (Some s.quantifier))
    (variable_quantifier scopes n v x apart)

pub extends_variable : (scopes : List Scope) (n v : ℕ) → n < length scopes → level_of scopes v ≡ None
    → Extends scopes (with_variable_at scopes n v)
extends_variable scopes n v within fresh =
    let more = with_variable_at scopes n v in
    let apart : (x : ℕ) → Contains (all_variables scopes) x → x ≡ v → ⊥ = λ x i e. let f :
    is_some (level_of scopes x) ≡ false = ap is_some (ap (level_of scopes) e ∙ fresh) in
    true≢false (sym (has_level scopes x i) ∙ f) in
    let same_level : (x : ℕ) → Contains (all_variables scopes) x → level_of scopes x ≡ level_of more x =
    λ x i. sym (level-with_variable_at scopes n v x within fresh ∙ cond-false (nat_eq x v) (Some (n + 1))
    (level_of scopes x) (ne_eqb x v (apart x i))) in
    let same_depth : (x : ℕ) → Contains (all_variables scopes) x → depth_of scopes x ≡ depth_of more x =
    λ x i. ap₂ (λ o m. unwrap_or o (m + 1)) (same_level x i) (sym (length-with_variable_at scopes n v)) in
    record {
      has = λ x i. among_at (all_variables more) x (is_among-all_variables-with scopes n v x within
          ∙ or_right (nat_eq v x) (is_among x (all_variables scopes)) (among_from (all_variables scopes) x i));
      quantifiers = λ x i. quantifier_counted scopes x
          ∙ (sym (variable_quantifier scopes n v x (λ e. apart x i (sym e))) ∙ sym (quantifier_counted more x));
      depths = λ x y i j. ap₂ nat_lt (same_depth x i) (same_depth y j);
    }
