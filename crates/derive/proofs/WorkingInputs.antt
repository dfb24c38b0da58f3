-- Clauses that come in at once, worked.
use Rattle.std.proofs.Common.{◌≡◌, ◌≢◌, ℕ, List, [], ◌∷◌, length, map, Contains, refl, sym, ap, subst, ◌∙◌, ⊎_elim, arith}
use Rattle.prefix.specs.declared.quant.Quant.TheVariants.{Exists}
use Rattle.calculus.specs.Derivations.Why.{Given, ReducedFrom}
use Rattle.calculus.specs.Rows.{Row, reduce}
use Rattle.calculus.specs.Worked.{minus, plus}
use Rattle.calculus.proofs.Lists.{contains_cons, contains_head, contains_nil}
use Rattle.derive.specs.State.{OpenClause, State, arena_of, with_step}
use Rattle.derive.specs.Adding.{AddsClause, IsReductionOf}
use Rattle.derive.specs.Inputs.{AddsClauses, GainsClauses}
use Rattle.derive.specs.Inputs.AddsClauses.{no_clause, one_more}
use Rattle.derive.specs.Worked.{WorkedInputs, group_note, group_rows, one_clause, two_scopes, with_group}
use Rattle.derive.proofs.Additions.{adds, removes_more, removes_none}
use Rattle.derive.proofs.Entering.{gained_all}

abbrev long : Row
long = plus 1 ∷ plus 2 ∷ []

abbrev with_long : State
with_long = with_step one_clause (group_note Given) long

abbrev with_both : State
with_both = with_step with_long (group_note (ReducedFrom 1)) (plus 1 ∷ [])

first : AddsClause two_scopes one_clause with_both 1 2 65537 long
first = record {
  with_input = with_long;
  input = adds one_clause.notes (arena_of one_clause) refl (group_note Given) long;
  reduction = removes_more with_long with_both 2 1 (ReducedFrom 1) (reduce Exists two_scopes long) shorter
      (adds with_long.notes (arena_of with_long) refl (group_note (ReducedFrom 1)) (plus 1 ∷ []));
}
  where
    shorter : reduce Exists two_scopes long ≢ long
    shorter e = absurd (let same : length (reduce Exists two_scopes long) ≡ length long = ap
        (λ (r : Row). length r) e in cc)

second : AddsClause two_scopes with_both with_group 3 3 65537 (minus 1 ∷ [])
second = record {
  with_input = with_group;
  input = adds with_both.notes (arena_of with_both) refl (group_note Given) (minus 1 ∷ []);
  reduction = removes_none with_group 3 (ReducedFrom 3) (reduce Exists two_scopes (minus 1 ∷ [])) refl refl refl;
}

both : AddsClauses two_scopes 65537 one_clause with_group group_rows (2 ∷ 3 ∷ [])
both = one_more with_both with_group (long ∷ []) (minus 1 ∷ []) (2 ∷ []) 3 3
    (one_more one_clause with_both [] long [] 1 2 no_clause first) second

-- the two clauses
abbrev long_clause : OpenClause
long_clause = record { id = 1; frame = 65537; row = long }

abbrev short_clause : OpenClause
short_clause = record { id = 3; frame = 65537; row = minus 1 ∷ [] }

tail_same : {X : Type 0} (x : X) (xs ys : List X) → x ∷ xs ≡ x ∷ ys → xs ≡ ys
tail_same x xs ys e = cc

-- so these are they, whatever is said of them
are_these : (frame : ℕ) (rows : List Row) (ids : List ℕ)
    (g : GainsClauses two_scopes frame one_clause with_group rows ids) → g.added ≡ long_clause ∷ short_clause ∷ []
are_these frame rows ids g = sym
    (tail_same (record { id = 0; frame = 0; row = plus 1 ∷ [] }) (long_clause ∷ short_clause ∷ []) g.added g.clauses)

other : GainsClauses two_scopes 2 one_clause with_group group_rows (2 ∷ 3 ∷ []) → ⊥
other g =
    let here : Contains g.added long_clause = subst (λ (cs : List OpenClause). Contains cs long_clause)
    (sym (are_these 2 group_rows (2 ∷ 3 ∷ []) g)) (contains_head long_clause (short_clause ∷ [])) in
    let e : ◌≡◌ {A = ℕ} 65537 2 = g.of_frame long_clause here in
    absurd (omega (arith, e))

rows_are : (frame : ℕ) (rows : List Row) (ids : List ℕ) → GainsClauses two_scopes frame one_clause with_group rows ids
    → rows ≡ group_rows
rows_are frame rows ids g = sym g.has_rows ∙ ap (map (λ (c : OpenClause). c.row)) (are_these frame rows ids g)

-- the step 1 is no reduction of either
no_reduction : (c : OpenClause) → Contains (long_clause ∷ short_clause ∷ []) c
    → IsReductionOf two_scopes with_group c 1 → ⊥
no_reduction c at r =
    ⊎_elim
    (λ e. let same : length long ≡ length (reduce Exists two_scopes long) = ap (λ (x : Row). length x)
    (r.literals ∙ ap (λ (x : OpenClause). reduce Exists two_scopes x.row) (sym e)) in absurd (cc))
    (λ rest.
    ⊎_elim
    (λ e. let same : length long ≡ length (reduce Exists two_scopes (minus 1 ∷ [])) = ap (λ (x : Row). length x)
    (r.literals ∙ ap (λ (x : OpenClause). reduce Exists two_scopes x.row) (sym e)) in absurd (cc))
    (λ none. absurd (contains_nil c none))
    (contains_cons short_clause [] c rest))
    (contains_cons long_clause (short_clause ∷ []) c at)

not_reduced : GainsClauses two_scopes 65537 one_clause with_group group_rows (1 ∷ 3 ∷ []) → ⊥
not_reduced g =
    let r = g.none_else 1 (contains_head 1 (3 ∷ [])) in
    no_reduction r.0 (subst (λ (cs : List OpenClause). Contains cs r.0)
    (are_these 65537 group_rows (1 ∷ 3 ∷ []) g) r.1) r.2

abbrev first_of : List Row → Row
first_of [] = []
first_of (r ∷ rs) = r

pub inputs : WorkedInputs
inputs = record {
  adds = both;
  gains = gained_all two_scopes 65537 one_clause with_group group_rows (2 ∷ 3 ∷ []) both;
  other_frame = other;
  unreduced = not_reduced;
  only_one = λ g. absurd (let e : ◌≡◌ {A = ℕ} 1 2 = g.count in omega (arith, e));
  turned = λ g. absurd (let e : minus 1 ∷ [] ≡ long = ap first_of (rows_are 65537 _ (2 ∷ 3 ∷ []) g) in
      let same : ◌≡◌ {A = ℕ} 1 2 = ap (λ (r : Row). length r) e in omega (arith, same));
  too_many = λ g. absurd
      (let same : ◌≡◌ {A = ℕ} 3 2 = ap (λ (rs : List Row). length rs) (rows_are 65537 _ (0 ∷ 2 ∷ 3 ∷ []) g) in omega
      (arith, same));
  none = no_clause;
  shorter = refl;
  longer = λ e. absurd (let same : ◌≡◌ {A = ℕ} 2 1 = ap (λ (d : State). length d.notes) e in omega (arith, same));
}
