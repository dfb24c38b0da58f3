-- Small tables over the variables 1 and 2, by cases.
use Rattle.std.proofs.Common.{◌≡◌, ℕ, zero, suc, List, [], ◌∷◌, Option, Some, None, IsTrue, is_some, Contains, ⊎_elim, unwrap_or, ap, subst}
use Rattle.std.proofs.lemmas.Bool.{false≢true}
use Rattle.prefix.specs.Literal.{Literal}
use Rattle.calculus.proofs.Lists.{contains_cons, contains_nil}
use Rattle.aig.specs.declared.edge.Edge.{Edge}
use Rattle.extract.specs.Tables.{CoversRow, edge_of}
use Rattle.extract.specs.Worked.{one_edge, two_edges}

pub no_value : {X : Type 0} (x : X) → None ≡ Some x → ⊥
no_value {X} x is = false≢true (ap (λ (o : Option X). is_some o) is)

pub value_is : {X : Type 0} (x y : X) → Some x ≡ Some y → x ≡ y
value_is {X} x y is = ap (λ (o : Option X). unwrap_or o x) is

by_place : (P : ℕ → Edge → Type 0) (a b : Option Edge) → ((e : Edge) → a ≡ Some e → P 1 e)
    → ((e : Edge) → b ≡ Some e → P 2 e) → (x : ℕ) (e : Edge) → edge_of (None ∷ a ∷ b ∷ []) x ≡ Some e → P x e
by_place P a b first second zero e is = absurd (no_value e is)
by_place P a b first second (suc zero) e is = first e is
by_place P a b first second (suc (suc zero)) e is = second e is
by_place P a b first second (suc (suc (suc x))) e is = absurd (no_value e is)

-- what holds of two edges at 1 and 2 holds of each edge of their table
pub each_of_two : (P : ℕ → Edge → Type 0) (a b : Edge) → P 1 a → P 2 b → (x : ℕ) (e : Edge)
    → edge_of (two_edges a b) x ≡ Some e → P x e
each_of_two P a b first second =
    by_place P (Some a) (Some b)
    (λ e is. subst (P 1) (value_is a e is) first)
    (λ e is. subst (P 2) (value_is b e is) second)

pub each_of_one : (P : ℕ → Edge → Type 0) (b : Edge) → P 2 b → (x : ℕ) (e : Edge)
    → edge_of (one_edge b) x ≡ Some e → P x e
each_of_one P b second =
    by_place P None (Some b)
    (λ e is. absurd (no_value e is))
    (λ e is. subst (P 2) (value_is b e is) second)

-- lists of one and of two elements
pub the_one : {X : Type 0} (P : X → Type 0) (a : X) → P a → (x : X) → Contains (a ∷ []) x → P x
the_one P a first x i = ⊎_elim (λ e. subst P e first) (λ j. absurd (contains_nil x j)) (contains_cons a [] x i)

pub each_of : {X : Type 0} (P : X → Type 0) (a b : X) → P a → P b → (x : X) → Contains (a ∷ b ∷ []) x → P x
each_of P a b first second x i = ⊎_elim (λ e. subst P e first) (the_one P b second x) (contains_cons a (b ∷ []) x i)

pub covers_one : (table : List (Option Edge)) (l : Literal) → IsTrue (is_some (edge_of table l.variable))
    → CoversRow table (l ∷ [])
covers_one table l t = the_one (λ (m : Literal). IsTrue (is_some (edge_of table m.variable))) l t
