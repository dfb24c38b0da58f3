-- The active groups of a formula as the core has them.
use Rattle.std.proofs.Common.{◌≡◌, ℕ, zero, suc, ◌+◌, Bool, true, false, List, [], ◌∷◌, ◌++◌, take, Some, None, arith, refl, sym, ap, ap₂, ◌∙◌, subst}
use Rattle.std.specs.Prelude.{if◌then◌else◌, slice_get, Err, IfSome, Ok, OnOk, Option, Result}
use Rattle.std.specs.List.{AllByRecursion}
use Rattle.calculus.specs.Rows.{Row}
use Rattle.calculus.proofs.Lists.{all_append, all_behind, all_front}
use Rattle.frames.specs.Groups.{Group, active_in, active_of, grouped_in}
use Rattle.cores.specs.Cores.{CoresAreMinimal, Group as Part, grouped_in as parts_in}
use Rattle.frames.specs.State.{OpenFormula, clauses_in}
use Rattle.truth.specs.Truth.{truth_under}
use Rattle.engine.specs.Asks.{IsVerdictOf}
use Rattle.engine.specs.Cores.{HasCore, active_parts, parts_with}
use Rattle.engine.specs.State.{VerdictState}
use Rattle.std.proofs.lemmas.List.{append-nil}

-- their clauses are the open ones of groups
pub parts_open : (gs : List Group) → parts_in (active_parts gs) ≡ active_in gs
parts_open [] = refl
parts_open (g ∷ gs) = by g.active (parts_open gs)
  where
    by : (b : Bool) → parts_in (active_parts gs) ≡ active_in gs
        → parts_in (if b then record { number = g.number; clauses = g.clauses } ∷ active_parts gs else active_parts gs)
        ≡ (if b then g.clauses else []) ++ active_in gs
    by true rest = ap (λ rs. g.clauses ++ rs) rest
    by false rest = rest

all_active : (P : Row → Type 0) (gs : List Group) → AllByRecursion P (grouped_in gs) → AllByRecursion P (active_in gs)
all_active P [] all = tt
all_active P (g ∷ gs) all = all_append P (active_of g) (active_in gs) (by g.active)
    (all_active P gs (all_behind P g.clauses (grouped_in gs) all))
  where
    by : (b : Bool) → AllByRecursion P (if b then g.clauses else [])
    by true = all_front P g.clauses (grouped_in gs) all
    by false = tt

pub all_parts : (P : Row → Type 0) (gs : List Group) → AllByRecursion P (grouped_in gs) → AllByRecursion P
    (parts_in (active_parts gs))
all_parts P gs all = subst (AllByRecursion P) (sym (parts_open gs)) (all_active P gs all)

-- one more group
abbrev made : ℕ → List Row → Part
made n rows = record { number = n; clauses = rows }

abbrev pub part_of : Group → Part
part_of g = record { number = g.number; clauses = g.clauses }

next_part : (gs : List Group) (i : ℕ) (g : Group) → slice_get gs i ≡ Some g
    → active_parts (take (suc i) gs) ≡ active_parts (take i gs) ++ parts_with g []
next_part [] i g e = absurd (cc)
next_part (h ∷ gs) zero g e =
    let same : h ≡ g = cc in ap (λ x. parts_with x []) same
next_part (h ∷ gs) (suc i) g e = by h.active (next_part gs i g e)
  where
    by : (b : Bool) → active_parts (take (suc i) gs) ≡ active_parts (take i gs) ++ parts_with g []
        → (if b then part_of h ∷ active_parts (take (suc i) gs) else active_parts (take (suc i) gs))
        ≡ (if b then part_of h ∷ active_parts (take i gs) else active_parts (take i gs)) ++ parts_with g []
    by true rest = ap (λ ps. part_of h ∷ ps) rest
    by false rest = rest

pub one_more : (gs : List Group) (i : ℕ) (g : Group) → slice_get gs i ≡ Some g
    → active_parts (take (i + 1) gs) ≡ active_parts (take i gs) ++ parts_with g []
one_more gs i g e = let same : i + 1 ≡ suc i = omega arith in
    ap (λ k. active_parts (take k gs)) same ∙ next_part gs i g e

pub same_part : (p : Part) (g : Group) (n : ℕ) (rows : List Row) → p ≡ made n rows → n ≡ g.number → rows ≡ g.clauses
    → p ≡ part_of g
same_part p g n rows is number clauses = is ∙ ap₂ made number clauses

-- an inactive group is left out, and an active one comes behind the others
pub left_out : (gs : List Group) (i : ℕ) (g : Group) → slice_get gs i ≡ Some g → g.active ≡ false
    → active_parts (take (i + 1) gs) ≡ active_parts (take i gs)
left_out gs i g e off = one_more gs i g e
    ∙ ap (λ b. active_parts (take i gs) ++ (if b then part_of g ∷ [] else [])) off
    ∙ append-nil (active_parts (take i gs))

pub put_behind : (gs : List Group) (i : ℕ) (g : Group) → slice_get gs i ≡ Some g → g.active ≡ true
    → active_parts (take (i + 1) gs) ≡ active_parts (take i gs) ++ part_of g ∷ []
put_behind gs i g e on = one_more gs i g e
    ∙ ap (λ b. active_parts (take i gs) ++ (if b then part_of g ∷ [] else [])) on

-- the core of a verdict that the formula is false
has_core : (f : OpenFormula) (v : VerdictState) → IsVerdictOf f v → v.truth ≡ false → CoresAreMinimal
    → HasCore f v.assumptions
has_core f v is refuted law = law v.assumptions f.scopes (clauses_in f.frames) (active_parts f.groups)
    (ap (λ rows. truth_under v.assumptions f.scopes (clauses_in f.frames ++ rows)) (parts_open f.groups)
    ∙ sym is.truth ∙ refuted)

on_ok_of : {T E : Type 0} (r : Result T E) (P : Type 0) → P → OnOk r P
on_ok_of (Ok x) P p = p
on_ok_of (Err e) P p = tt

pub cored : {T E : Type 0} (r : Result T E) (f : OpenFormula) (o : Option VerdictState) (v : VerdictState) → o ≡ Some v
    → IfSome o (IsVerdictOf f) → v.truth ≡ false → CoresAreMinimal
    → IfSome o (λ (w : VerdictState). OnOk r (HasCore f w.assumptions))
cored r f None v e facts refuted law = tt
cored r f (Some w) v e facts refuted law =
    let same : w ≡ v = cc in
    on_ok_of r (HasCore f w.assumptions)
    (has_core f w facts (ap (λ (x : VerdictState). x.truth) same ∙ refuted) law)
