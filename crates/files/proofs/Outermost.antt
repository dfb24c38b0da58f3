-- The values of the first scope, where this is the winner's.
use Rattle.std.proofs.Common.{◌≡◌, ◌≤◌, ◌+◌, ℕ, Bool, true, false, not, List, [], ◌∷◌, ◌++◌, length, Option, Some, None, Result, Ok, Err, refl, sym, ap, subst, ◌∙◌, arith}
use Rattle.std.specs.Prelude.{◌==◌, IsOk, MatchOption, flat_map, if◌then◌else◌, option_map, unwrap_or}
use Rattle.prefix.specs.declared.quant.Quant.{Quant}
use Rattle.prefix.specs.declared.quant.Quant.TheVariants.{Exists, Forall}
use Rattle.prefix.specs.Literal.{Literal}
use Rattle.prefix.specs.Scopes.{Scope, is_among, level_of, quantifier_at, variables_at}
use Rattle.prefix.specs.Sides.{is_of}
use Rattle.calculus.specs.Plays.{literals_of}
use Rattle.calculus.specs.Rows.{Assignment}
use Rattle.frames.specs.Fold.{Given}
use Rattle.frames.specs.State.{OpenFormula}
use Rattle.engine.specs.declared.refusal.AskRefusal.{AskRefusal}
use Rattle.engine.specs.declared.refusal.AskRefusal.TheVariants.{NotOutermost, NotWinner}
use Rattle.engine.specs.Asks.{values_of}
use Rattle.engine.specs.Refusals.{is_outermost, value_refusal, winner_of}
use Rattle.engine.specs.State.{EngineState, VerdictState}
use Rattle.files.specs.Jobs.{value_line}
use Rattle.solve.specs.Outputs.{Text}
use Rattle.solve.specs.Holding.{given_of}

-- the line of a variable's value
abbrev pub value_at : OpenFormula → VerdictState → ℕ → Text
value_at formula v x = value_line (record { variable = x; positive = values_of formula v x })

pub lines_at : (values : Assignment) (line : Literal → Text) (xs : List ℕ)
    → flat_map line (literals_of values xs) ≡ flat_map (λ x. line (record { variable = x; positive = values x })) xs
lines_at values line [] = refl
lines_at values line (x ∷ xs) =
    ap (λ t. line (record { variable = x; positive = values x }) ++ t) (lines_at values line xs)

-- a side is that of itself alone
pub is_of_itself : (q : Quant) → is_of (Some q) q ≡ true
is_of_itself Exists = refl
is_of_itself Forall = refl

pub of_side : (o : Option Quant) (q : Quant) → is_of o q ≡ true → o ≡ Some q
of_side None q e = absurd (let f : false ≡ true = e in cc)
of_side (Some Exists) Exists e = refl
of_side (Some Exists) Forall e = absurd (let f : false ≡ true = e in cc)
of_side (Some Forall) Exists e = absurd (let f : false ≡ true = e in cc)
of_side (Some Forall) Forall e = refl

pub there : (scopes : List Scope) (q : Quant) → is_of (quantifier_at scopes 1) q ≡ true → 1 ≤ length scopes
there [] q e = absurd (let f : false ≡ true = e in cc)
there (s ∷ ss) q e = omega arith

-- a variable of the first scope is outermost
outermost : (scopes : List Scope) (x : ℕ) → is_among x (variables_at scopes 1) ≡ true → is_outermost scopes x ≡ true
outermost [] x e = absurd (let f : false ≡ true = e in cc)
outermost (s ∷ ss) x e = ap (λ b. unwrap_or (if b then Some 1 else option_map (λ (n : ℕ). n + 1) (level_of ss x)) 0 ==
    1) e

no_test : (a b : Bool) → a ≡ true → b ≡ true
    → (if◌then◌else◌ {A = Option AskRefusal} (not a) (Some NotOutermost) (if not b then Some NotWinner else None)) ≡
    None
no_test true true first second = refl
no_test true false first second = absurd (let f : false ≡ true = second in cc)
no_test false b first second = absurd (let f : false ≡ true = first in cc)

-- so its value is told
pub value_told : (e : EngineState) (v : VerdictState) (x : ℕ) → e.verdict ≡ Some v
    → quantifier_at e.formula.scopes 1 ≡ Some (winner_of v.truth)
    → is_among x (variables_at e.formula.scopes 1) ≡ true → value_refusal e x ≡ None
value_told e v x some won among =
    subst (λ o. value_refusal (record e { verdict = o }) x ≡ None) (sym some)
    (no_test (is_outermost e.formula.scopes x) (is_of (quantifier_at e.formula.scopes 1) (winner_of v.truth))
    (outermost e.formula.scopes x among)
    (ap (λ o. is_of o (winner_of v.truth)) won ∙ is_of_itself (winner_of v.truth)))

-- what isn't refused is answered
pub not_refused : {T : Type 0} {P : Type 0} (o : Option AskRefusal) (r : Result T AskRefusal) → o ≡ None
    → MatchOption o (IsOk r) (λ y. r ≡ Err y) → ((t : T) → r ≡ Ok t → ⊥) → P
not_refused None (Ok t) none m never = absurd (never t refl)
not_refused None (Err e) none m never = absurd (let f : false ≡ true = m in cc)
not_refused (Some y) r none m never = absurd (let f : Some y ≡ None = none in cc)

-- the verdict of an engine by what it is given of it
pub verdict_by : {P : Type 0} (o : Option VerdictState) (truth : Bool) (given : Given) → given.truth ≡ truth
    → Some given ≡ option_map given_of o → ((v : VerdictState) → o ≡ Some v → v.truth ≡ truth → P) → P
verdict_by None truth given is told known = absurd (let f : Some given ≡ None = told in cc)
verdict_by (Some v) truth given is told known =
    known v refl (let same : given ≡ given_of v = cc in sym (ap (λ (g : Given). g.truth) same) ∙ is)
