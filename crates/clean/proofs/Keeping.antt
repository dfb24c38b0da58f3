-- What stays of steps, reasons and counts while steps are added.
use Rattle.std.proofs.Common.{◌≡◌, ℕ, ◌+◌, true, List, Option, Some, None, is_some, refl, sym, subst, ap, ◌∙◌, arith}
use Rattle.std.specs.Prelude.{IsTrue}
use Rattle.prefix.specs.declared.quant.Quant.{Quant}
use Rattle.prefix.specs.Literal.{Literal, negation}
use Rattle.prefix.specs.Scopes.{Scope}
use Rattle.rows.specs.Arena.{literals_of}
use Rattle.calculus.specs.Rows.{IsRow, Row, reduce}
use Rattle.calculus.specs.Search.{IsCleanBut, IsUnitIn, before_on, value_on}
use Rattle.trail.specs.State.{TrailState}
use Rattle.steps.specs.Counter.{Counter, after}
use Rattle.derive.proofs.Growth.{grows_itself}
use Rattle.derive.specs.State.{Note, SameStep, State, IsLegalFor, has_rows, is_step, may_be_antecedent, note_at, row_of, side_at, side_in}
use Rattle.derive.specs.Growing.{AreUnlinked}
use Rattle.derive.specs.Theorems.{Grows}
use Rattle.derive.proofs.Legality.{listed_told}
use Rattle.clean.specs.Reasons.{HaveReasons, IsReason, IsReducedStep}
use Rattle.clean.proofs.Inferring.{inferred_none, inferred_twice}
use Rattle.clean.proofs.Links.{unlinked_twice}
use Rattle.clean.specs.Turns.{Resolves}

-- growth twice is growth
pub grows_twice : (a b c : State) → Grows a b → Grows b c → Grows a c
grows_twice a b c first second = record {
  longer = let l = first.longer in let m = second.longer in omega arith;
  others = λ id live.
      let one = first.others id live in
      let two = second.others id (ap is_some one.note ∙ live) in
      record { note = two.note ∙ one.note; row = two.row ∙ one.row };
  given = λ id below. let l = first.longer in second.given id (omega arith) ∙ first.given id below;
}

pub step_lives : (o : Option Note) → may_be_antecedent o ≡ true → is_some o ≡ true
step_lives None e = e
step_lives (Some note) e = refl

-- a step that was there stays
module _ (before after : State) (grows : Grows before after) (id : ℕ) (step : IsTrue (is_step before id)) where
  same_step : SameStep before after id
  same_step = grows.others id (step_lives (note_at before id) step)

  pub step_stays : IsTrue (is_step after id)
  step_stays = ap may_be_antecedent same_step.note ∙ step

  pub side_stays : side_at after id ≡ side_at before id
  side_stays = ap side_in same_step.note

  pub row_stays : row_of after id ≡ row_of before id
  row_stays = ap literals_of same_step.row

pub reduced_stays : (pivot : Quant) (scopes : List Scope) (before after : State) (id : ℕ) → Grows before after
    → IsReducedStep pivot scopes before id → IsReducedStep pivot scopes after id
reduced_stays pivot scopes before after id grows is =
    let row = row_stays before after grows id is.step in
    record {
      step = step_stays before after grows id is.step;
      of_side = side_stays before after grows id is.step ∙ is.of_side;
      reduced = ap (reduce pivot scopes) row ∙ (is.reduced ∙ sym row);
    }

pub reason_stays : (pivot : Quant) (scopes : List Scope) (before after : State) (t : TrailState) (kept : Literal)
    (id : ℕ) → Grows before after → IsReason pivot scopes before t kept id → IsReason pivot scopes after t kept id
reason_stays pivot scopes before after t kept id grows is =
    let row = sym (row_stays before after grows id is.step.step) in
    record {
      step = reduced_stays pivot scopes before after id grows is.step;
      unit = subst (λ (r : Row). IsUnitIn pivot scopes (value_on (before_on t.placed kept.variable)) r kept) row
          is.unit;
      clean = λ m. subst (λ (r : Row). IsCleanBut pivot t.placed kept r) row (is.clean m);
    }

pub reasons_stay : (pivot : Quant) (scopes : List Scope) (before after : State) (t : TrailState) → Grows before after
    → HaveReasons pivot scopes before t → HaveReasons pivot scopes after t
reasons_stay pivot scopes before after t grows have l id p bad cause =
    reason_stays pivot scopes before after t (negation l) id grows (have l id p bad cause)

-- the row of a step is a row
pub step_row : (scopes : List Scope) (d : State) (id : ℕ) → IsLegalFor scopes d → IsTrue (is_step d id)
    → IsRow scopes (row_of d id)
step_row scopes d id legal step = legal.rows _ (listed_told d id step)

pub resolves_more : (scopes : List Scope) (a b c : State) (m n r s : ℕ) → Resolves scopes a b m r
    → Resolves scopes b c n s → Resolves scopes a c (m + n) (r + s)
resolves_more scopes a b c m n r s first second =
    let x = first.resolvents in let y = second.resolvents in
    let p = first.reductions in let q = second.reductions in
    let f = first.fewer in let g = second.fewer in
    record {
      grows = grows_twice a b c first.grows second.grows;
      has_rows = second.has_rows;
      unlinked = λ (dead : AreUnlinked a a). unlinked_twice a b c
          (first.unlinked dead) first.grows.others second.grows.others second.unlinked;
      clauses = second.clauses ∙ first.clauses;
      resolvents = omega arith;
      reductions = omega arith;
      inferred = inferred_twice a b c first.inferred second.grows.others second.inferred;
      fewer = omega arith;
      legal = λ l. second.legal (first.legal l);
    }

-- nothing came in yet
pub resolves_none : (scopes : List Scope) (d : State) → IsTrue (has_rows d) → Resolves scopes d d 0 0
resolves_none scopes d rows = record {
  grows = grows_itself d;
  has_rows = rows;
  unlinked = λ dead. dead;
  clauses = refl;
  resolvents = omega arith;
  reductions = omega arith;
  inferred = inferred_none d;
  fewer = omega arith;
  legal = λ l. l;
}

-- counts add up
pub after_none : (c : Counter) → c ≡ after c 0
after_none c = ap (λ n. record { spent = n; budget = c.budget }) (let e : c.spent ≡ c.spent + 0 = omega arith in e)

pub after_more : (c : Counter) (m n : ℕ) → after (after c m) n ≡ after c (m + n)
after_more c m n = ap (λ k. record { spent = k; budget = c.budget })
    (let e : (c.spent + m) + n ≡ c.spent + (m + n) = omega arith in e)

-- two of two kinds
pub after_both : (c d e : Counter) (m n r s : ℕ) → d ≡ after c (m + r) → e ≡ after d (n + s)
    → e ≡ after c ((m + n) + (r + s))
after_both c d e m n r s first second =
    second ∙ (ap (λ (k : Counter). after k (n + s)) first ∙ (after_more c (m + r) (n + s)
    ∙ ap (after c) (let same : (m + r) + (n + s) ≡ (m + n) + (r + s) = omega arith in same)))
