-- Which initial cubes miss a clause.
use Rattle.std.proofs.Common.{◌≡◌, ℕ, ◌+◌, ◌<◌, ◌≤◌, Bool, true, false, not, ◌&&◌, List, [], ◌∷◌, length, take, filter, Contains, Some, get_or, sym, refl, ap, subst, ◌∙◌, ⊎_elim, arith}
use Rattle.std.proofs.lemmas.Bool.{cases_Bool, and_parts, and_from, eq-eqb, false≢true}
use Rattle.std.proofs.lemmas.List.{take_more, take_all}
use Rattle.std.proofs.lemmas.List.Elements.{Contains-push_cases}
use Rattle.prefix.specs.declared.quant.Quant.{Quant}
use Rattle.prefix.specs.declared.quant.Quant.TheVariants.{Exists, Forall}
use Rattle.prefix.specs.Literal.{Literal}
use Rattle.rows.specs.Arena.{Arena, literals_at}
use Rattle.calculus.specs.Rows.{Row, same_literal}
use Rattle.calculus.specs.Derivations.{Hits, Why}
use Rattle.calculus.specs.Derivations.Why.{Given, ReducedFrom, ResolvedFrom, FinishedFrom}
use Rattle.calculus.proofs.Lists.{any_at, any_from, contains_cons, contains_nil, filter_from}
use Rattle.calculus.proofs.Merging.{same_literal_true}
use Rattle.derive.specs.State.{Note, Notes, note_in, side_in}
use Rattle.derive.specs.Antecedents.{AreSupported}
use Rattle.derive.specs.Dropping.{Falls, StepTest, holds_in, is_cube}
use Rattle.derive.specs.Dropping.Falls.{rests, root}
use Rattle.derive.specs.Cubes.{AreCubes, AreListed, hits_clause, is_cube_in, misses, misses_one, misses_some, stands_in}

-- a literal that stands in a row is in it
same_self : (l : Literal) → same_literal l l ≡ true
same_self l = and_from _ _ (eq-eqb l.variable l.variable refl) (same_sign l.positive)
  where
    same_sign : (b : Bool) → same_literal (record { variable = 0; positive = b })
        (record { variable = 0; positive = b }) ≡ true
    same_sign true = refl
    same_sign false = refl

pub hits_at : (row clause : Row) → hits_clause row clause ≡ true → (l : Literal) × Contains clause l × Contains row l
hits_at row clause h =
    let p = any_at (stands_in row) clause h in
    let q = any_at (same_literal p.0) row p.2 in
    (p.0, p.1, subst (λ (l : Literal). Contains row l) (sym (same_literal_true p.0 q.0 q.2)) q.1)

pub hits_from : (row clause : Row) (l : Literal) → Contains clause l → Contains row l → hits_clause row clause ≡ true
hits_from row clause l in_clause in_row = any_from (stands_in row) clause l in_clause
    (any_from (same_literal l) row l in_row (same_self l))

-- an initial cube that misses a clause is one
pub cube_missing : (clause : Row) (rows : Arena) (id : ℕ) (note : Note) → misses clause rows id note ≡ true
    → is_cube note.side note.why ≡ true
cube_missing clause rows id note m =
    (and_parts (is_cube note.side note.why) (not (hits_clause (literals_at rows id) clause)) m).0

pub cubes_missing : (clause : Row) (rows : Arena) → AreCubes (misses clause rows)
cubes_missing clause rows id note m = cube_missing clause rows id note m

-- and so is one that misses one of some clauses
pub cubes_missing_one : (clauses : List Row) (rows : Arena) → AreCubes (misses_one clauses rows)
cubes_missing_one clauses rows id note m =
    (and_parts (is_cube note.side note.why) (misses_some (literals_at rows id) clauses) m).0

-- of no clauses none is missed
and_false : (b : Bool) → (b && false) ≡ false
and_false true = refl
and_false false = refl

pub none_missed : (clauses : List Row) → clauses ≡ [] → (rows : Arena) (id : ℕ) (note : Note)
    → misses_one clauses rows id note ≡ false
none_missed clauses none rows id note = ap
    (λ cs. is_cube note.side note.why && misses_some (literals_at rows id) cs) none
    ∙ and_false (is_cube note.side note.why)

-- one that misses one of the clauses at hand misses one of all
pub misses_from : (clauses : List Row) (clause : Row) (rows : Arena) (id : ℕ) (note : Note) → Contains clauses clause
    → misses clause rows id note ≡ true → misses_one clauses rows id note ≡ true
misses_from clauses clause rows id note at m =
    let p = and_parts (is_cube note.side note.why) (not (hits_clause (literals_at rows id) clause)) m in
    and_from (is_cube note.side note.why) (misses_some (literals_at rows id) clauses) p.0
    (any_from (λ c. not (hits_clause (literals_at rows id) c)) clauses clause at p.1)

-- where one doesn't miss it, it holds a literal of it
pub hits_unless : (clause : Row) (rows : Arena) (id : ℕ) (note : Note) → is_cube note.side note.why ≡ true
    → (misses clause rows id note ≡ true → ⊥) → (l : Literal) × Contains clause l × Contains (literals_at rows id) l
hits_unless clause rows id note cube not_missing =
    hits_at (literals_at rows id) clause
    (⊎_elim
    (λ h. h)
    (λ h. absurd
    (not_missing (and_from (is_cube note.side note.why) (not (hits_clause (literals_at rows id) clause)) cube
    (ap not h))))
    (cases_Bool (hits_clause (literals_at rows id) clause)))

pub hit_no_miss : (clause : Row) (rows : Arena) (id : ℕ) (note : Note)
    → ((l : Literal) × Contains clause l × Contains (literals_at rows id) l) → misses clause rows id note ≡ true → ⊥
hit_no_miss clause rows id note hit m =
    let missed = (and_parts (is_cube note.side note.why) (not (hits_clause (literals_at rows id) clause)) m).1 in
    let held = hits_from (literals_at rows id) clause hit.0 hit.1 hit.2 in
    false≢true (sym (ap not held) ∙ missed)

pub hits_one : (row clause : Row) → ((l : Literal) × Contains clause l × Contains row l) → Hits row (clause ∷ [])
hits_one row clause hit other at =
    ⊎_elim
    (λ e. subst (λ c. (l : Literal) × Contains c l × Contains row l) e hit)
    (λ none. absurd (contains_nil other none))
    (contains_cons clause [] other at)

-- an initial cube rests on nothing
pub cube_given : (side : Quant) (why : Why) → is_cube side why ≡ true → why ≡ Given
cube_given Exists why e = absurd (false≢true e)
cube_given Forall Given e = refl
cube_given Forall (ReducedFrom a) e = absurd (false≢true e)
cube_given Forall (ResolvedFrom a b x) e = absurd (false≢true e)
cube_given Forall (FinishedFrom a) e = absurd (false≢true e)

-- the same rows are missed
pub misses_same : (clause : Row) (old_rows rows : Arena) (id : ℕ) (note : Note) → literals_at rows id ≡ literals_at
    old_rows id → misses clause rows id note ≡ misses clause old_rows id note
misses_same clause old_rows rows id note e = ap (λ (r : Row). is_cube note.side note.why && not (hits_clause r clause))
    e

pub misses_one_same : (clauses : List Row) (old_rows rows : Arena) (id : ℕ) (note : Note)
    → literals_at rows id ≡ literals_at old_rows id
    → misses_one clauses rows id note ≡ misses_one clauses old_rows id note
misses_one_same clauses old_rows rows id note e = ap
    (λ (r : Row). is_cube note.side note.why && misses_some r clauses) e

-- a pass over the list

-- a test holds of none of these ids that is below one
abbrev pub NoneHolds : StepTest → Notes → List ℕ → ℕ → Type 0
NoneHolds test notes ids first = (id : ℕ) → Contains ids id → id < first → holds_in test id (note_in notes id) ≡ false

pub none_yet : (test : StepTest) (notes : Notes) (ids : List ℕ) (first : ℕ) → NoneHolds test notes (take 0 ids) first
none_yet test notes ids first id at below = absurd (contains_nil id at)

-- an id that isn't below the first one, or of which the test doesn't hold
pub none_more : (test : StepTest) (notes : Notes) (ids : List ℕ) (n first : ℕ) → n < length ids
    → (get_or ids n 0 < first → holds_in test (get_or ids n 0) (note_in notes (get_or ids n 0)) ≡ false)
    → NoneHolds test notes (take n ids) first → NoneHolds test notes (take (n + 1) ids) first
none_more test notes ids n first low here none =
    subst (λ ks. NoneHolds test notes ks first) (sym (take_more ids n 0 low))
    (λ id at below. ⊎_elim
    (λ before. none id before below)
    (λ e. subst (λ k. holds_in test k (note_in notes k) ≡ false) e (here (subst (λ k. k < first) (sym e) below)))
    (Contains-push_cases (take n ids) (get_or ids n 0) id at))

pub none_below : (test : StepTest) (notes : Notes) (ids : List ℕ) (first lower : ℕ) → lower ≤ first
    → NoneHolds test notes ids first → NoneHolds test notes ids lower
none_below test notes ids first lower le none id at below = none id at (omega arith)

pub none_all : (test : StepTest) (notes : Notes) (ids : List ℕ) (n first : ℕ) → AreCubes test → length ids ≤ n
    → AreListed notes ids → NoneHolds test notes (take n ids) first → (id : ℕ) (note : Note)
    → note_in notes id ≡ Some note → id < first → test id note ≡ false
none_all test notes ids n first cubes all listed none id note there below =
    ⊎_elim
    (λ m.
    let at = listed id (ap is_cube_in there ∙ cubes id note m) in
    ap (holds_in test id) (sym there) ∙ none id (subst (λ ks. Contains ks id) (sym (take_all n ids all)) at) below)
    (λ f. f)
    (cases_Bool (test id note))

-- the list of what is left

pub listed_left : (notes : Notes) (ids left : List ℕ) → left ≡ filter (λ id. is_cube_in (note_in notes id)) ids
    → AreListed notes ids → AreListed notes left
listed_left notes ids left is listed id cube =
    rw is (filter_from (λ k. is_cube_in (note_in notes k)) ids id (listed id cube) cube)

-- what falls with initial cubes is a cube
cube_side : (side : Quant) (why : Why) → is_cube side why ≡ true → side ≡ Forall
cube_side Exists why e = absurd (false≢true e)
cube_side Forall why e = refl

pub falls_as_cube : (test : StepTest) (notes : Notes) → AreCubes test → AreSupported notes → (id : ℕ)
    → Falls test notes id → side_in (note_in notes id) ≡ Forall
falls_as_cube test notes cubes supported id (root j note there m) =
    ap side_in there ∙ cube_side note.side note.why (cubes id note m)
falls_as_cube test notes cubes supported id (rests j on note there r falls) =
    let a = (supported id note there).antecedents on r in
    ap side_in there ∙ sym a.one_side ∙ sym (ap side_in a.there) ∙ falls_as_cube test notes cubes supported on falls
