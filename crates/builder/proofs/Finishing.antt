-- What the rows come to.
use Rattle.std.proofs.Common.{◌≡◌, ℕ, ◌^◌, ◌<◌, ◌≤◌, Bool, true, false, List, length, Some, None, refl, ap, ◌∙◌, arith}
use Rattle.std.specs.Prelude.{nat_lt, if◌then◌else◌}
use Rattle.std.proofs.lemmas.Bool.{le-ltb, lt-ltb, ltb-false}
use Rattle.prefix.specs.Literal.{Literal}
use Rattle.builder.specs.declared.beyond.Beyond.TheVariants.{Clauses, Literals}
use Rattle.builder.specs.Building.{AreFew, Builds, Kept, amount_of, beyond_of}
use Rattle.truth.specs.Limits.{max_clauses, max_literals}
use Rattle.builder.specs.Rows.{rows_of}

pub many_clauses : (rows : List (List Literal)) → max_clauses < length rows → beyond_of rows ≡ Some Clauses
many_clauses rows h =
    ap (λ b. if b then Some Clauses else if nat_lt max_literals (amount_of rows) then Some Literals else None)
    (lt-ltb max_clauses (length rows) h)

few_clauses : (rows : List (List Literal)) → length rows ≤ max_clauses
    → beyond_of rows ≡ (if nat_lt max_literals (amount_of rows) then Some Literals else None)
few_clauses rows h =
    ap (λ b. if b then Some Clauses else if nat_lt max_literals (amount_of rows) then Some Literals else None)
    (le-ltb max_clauses (length rows) h)

pub many_literals : (rows : List (List Literal)) → length rows ≤ max_clauses → max_literals < amount_of rows
    → beyond_of rows ≡ Some Literals
many_literals rows h k = few_clauses rows h
    ∙ ap (λ b. if b then Some Literals else None) (lt-ltb max_literals (amount_of rows) k)

pub no_limit : (rows : List (List Literal)) → AreFew rows → beyond_of rows ≡ None
no_limit rows few = few_clauses rows few.0
    ∙ ap (λ b. if b then Some Literals else None) (le-ltb max_literals (amount_of rows) few.1)

-- rows that go beyond no limit
pub few_from : (rows : List (List Literal)) → beyond_of rows ≡ None → AreFew rows
few_from rows e =
    by (nat_lt max_clauses (length rows)) (nat_lt max_literals (amount_of rows)) refl refl e
  where
    by : (a b : Bool) → nat_lt max_clauses (length rows) ≡ a → nat_lt max_literals (amount_of rows) ≡ b
        → (if a then Some Clauses else if b then Some Literals else None) ≡ None → AreFew rows
    by true b p q e = absurd (let f : Some Clauses ≡ None = e in cc)
    by false true p q e = absurd (let f : Some Literals ≡ None = e in cc)
    by false false p q e = (ltb-false max_clauses (length rows) p, ltb-false max_literals (amount_of rows) q)

module _ (build : Kept) (clauses : List (List ℕ)) (b : Builds build clauses) where
  pub beyond_clauses : 2 ^ 24 < build.count → beyond_of (rows_of clauses) ≡ Some Clauses
  beyond_clauses h = many_clauses (rows_of clauses) (omega (arith, b.count, h))

  pub beyond_literals : build.count ≤ 2 ^ 24 → 2 ^ 28 < build.amount → beyond_of (rows_of clauses) ≡ Some Literals
  beyond_literals h k =
      many_literals (rows_of clauses) (omega (arith, b.count, h)) (omega (arith, b.amount, k))

  pub within : build.count ≤ 2 ^ 24 → build.amount ≤ 2 ^ 28 → AreFew (rows_of clauses)
  within h k = (omega (arith, b.count, h), omega (arith, b.amount, k))

  pub finished : (rows : List (List Literal)) → rows ≡ build.rows → build.count ≤ 2 ^ 24 → build.amount ≤ 2 ^ 28
      → (rows ≡ rows_of clauses) × (beyond_of (rows_of clauses) ≡ None)
  finished rows is h k = (is ∙ b.rows (within h k), no_limit (rows_of clauses) (within h k))
