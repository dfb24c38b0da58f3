-- The clauses of a group that come in and go.
use Rattle.std.proofs.Common.{◌≡◌, ℕ, ◌+◌, ◌<◌, ◌≤◌, take, length, get_or, Bool, true, false, not, List, [], ◌∷◌, ◌++◌, map, filter, Contains, refl, sym, ap, ap₂, subst, ◌∙◌, ⊎_elim, arith}
use Rattle.std.specs.Prelude.{◌==◌}
use Rattle.std.specs.List.{AllByRecursion}
use Rattle.std.proofs.lemmas.Bool.{cond-false}
use Rattle.std.proofs.lemmas.List.{append-nil, map-append, take_more}
use Rattle.std.proofs.lemmas.List.Elements.{filter-append}
use Rattle.prefix.specs.Scopes.{IsPrefix, Scope, all_variables}
use Rattle.calculus.specs.Derivations.{Extends}
use Rattle.calculus.specs.Rows.{Row}
use Rattle.calculus.proofs.Lists.{contains_cons, contains_head, contains_nil, contains_tail, filter_all}
use Rattle.derive.specs.State.{OpenClause, State, open_clauses}
use Rattle.search.specs.Changing.{AddsClauses, IsRoomy}
use Rattle.search.specs.Moves.{IsMatrix}
use Rattle.search.specs.State.{HasRoom, SearchState}

abbrev pub outside_group : OpenClause → Bool
outside_group c = not (c.frame == 65537)

abbrev pub rows_of : List OpenClause → List Row
rows_of clauses = map (λ (c : OpenClause). c.row) clauses

filter_none : {X : Type 0} (p : X → Bool) (xs : List X) → ((x : X) → Contains xs x → p x ≡ false) → filter p xs ≡ []
filter_none p [] none = refl
filter_none p (x ∷ xs) none =
    cond-false (p x) (x ∷ filter p xs) (filter p xs) (none x (contains_head x xs))
    ∙ filter_none p xs (λ y at. none y (contains_tail x xs y at))

-- the open clauses are these
pub matrix_of : (d : State) (rows : List Row) → open_clauses d ≡ rows → IsMatrix d rows
matrix_of d rows same = record {
  there = λ row at. subst (λ rs. Contains rs row) same at;
  none_else = λ row at. subst (λ rs. Contains rs row) (sym same) at;
}

pub open_first : (frame : ℕ) (rows : List Row) (old new : List OpenClause) → old ≡ [] → AddsClauses frame rows old new
    → rows_of new ≡ rows
open_first frame rows old new none adds = ap rows_of (adds.clauses ∙ ap (λ cs. cs ++ adds.added) none) ∙ adds.has_rows

pub open_more : (frame : ℕ) (first second : List Row) (old new : List OpenClause) → rows_of old ≡ first
    → AddsClauses frame second old new → rows_of new ≡ first ++ second
open_more frame first second old new are adds =
    ap rows_of adds.clauses
    ∙ (map-append (λ (c : OpenClause). c.row) old adds.added
    ∙ ap₂ (λ (xs ys : List Row). xs ++ ys) are adds.has_rows)

-- without the group's those of before are left
pub left_first : (rows second : List Row) (old one two : List OpenClause) → old ≡ [] → AddsClauses 0 rows old one
    → AddsClauses 65537 second one two → filter outside_group two ≡ one
left_first rows second old one two none first group =
    ap (filter outside_group) group.clauses
    ∙ (filter-append outside_group one group.added
    ∙ (ap₂ (λ (xs ys : List OpenClause). xs ++ ys)
    (filter_all outside_group one
    (λ c at. ap (λ f. not (f == 65537))
    (first.of_frame c (subst (λ cs. Contains cs c) (first.clauses ∙ ap (λ cs. cs ++ first.added) none) at))))
    (filter_none outside_group group.added (λ c at. ap (λ f. not (f == 65537)) (group.of_frame c at)))
    ∙ append-nil one))

-- one clause more of a list
pub one_more : (clauses : List Row) (k : ℕ) (row : Row) → k < length clauses → row ≡ get_or clauses k row
    → take (k + 1) clauses ≡ take k clauses ++ row ∷ []
one_more clauses k row below is = take_more clauses k row below ∙ ap (λ (r : Row). take k clauses ++ r ∷ []) (sym is)

-- a prefix extends that of no scopes
pub extends_none : (scopes : List Scope) → Extends [] scopes
extends_none scopes = record {
  has = λ x at. absurd (contains_nil x at);
  quantifiers = λ x at. absurd (contains_nil x at);
  depths = λ x y at to. absurd (contains_nil x at);
}

each : {X : Type 0} (P : X → Type 0) (xs : List X) (x : X) → AllByRecursion P xs → Contains xs x → P x
each P [] x all at = absurd (contains_nil x at)
each P (y ∷ ys) x all at = ⊎_elim (λ e. subst P e all.0) (λ rest. each P ys x all.1 rest) (contains_cons y ys x at)

abbrev may_be_variable : ℕ → Type 0
may_be_variable v = (1 ≤ v) × (v ≤ 1048576)

-- with room for every number that a variable may have there is room for those of a prefix
pub has_room : (scopes : List Scope) (s : SearchState) → IsPrefix scopes → IsRoomy 1048576 s → HasRoom scopes s
has_room scopes s prefix roomy = record {
  trail = λ x at. roomy.trail x (each may_be_variable (all_variables scopes) x prefix.in_range at).1;
  signs = λ x at. roomy.signs x (each may_be_variable (all_variables scopes) x prefix.in_range at).1;
}
