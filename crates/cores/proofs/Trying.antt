-- A search with groups under tags of their own.
use Rattle.std.proofs.Common.{◌≡◌, ℕ, zero, suc, ◌+◌, ◌-◌, ◌<◌, ◌≤◌, ◌⊎◌, Bool, true, false, not, List, [], ◌∷◌, ◌++◌, length, map, drop, filter, get_or, Contains, refl, sym, ap, ◌∙◌, subst, inl, inr, ⊎_elim, arith}
use Rattle.std.specs.Prelude.{◌==◌, IfSome, OnOk, Option, None, Some, Result, Ok, Err, is_none, is_some}
use Rattle.std.specs.List.{AllByRecursion}
use Rattle.std.proofs.lemmas.Bool.{eq-eqb, ne_eqb, true≢false}
use Rattle.std.proofs.lemmas.List.{drop_more, length-drop}
use Rattle.prefix.specs.Scopes.{IsPrefix, Scope, all_variables}
use Rattle.calculus.specs.Derivations.{Extends}
use Rattle.calculus.specs.Rows.{Row}
use Rattle.calculus.proofs.Lists.{contains_cons, contains_head, contains_nil, contains_tail, filter_at, filter_from}
use Rattle.derive.specs.State.{OpenClause, clauses_of, open_clauses}
use Rattle.search.specs.Changing.{AddsClauses, IsRoomy, RestingGrows}
use Rattle.search.specs.Moves.{IsMatrix}
use Rattle.search.specs.State.{IsResting, SearchState}
use Rattle.cores.specs.Cores.{Group, grouped_in}
use Rattle.cores.specs.Trials.{IsOfGroup, IsTrying, StandsAs}
use Rattle.cores.proofs.Minimal.{contains_either, contains_left, contains_right}

-- lists

pub dropped : {X : Type 0} (xs : List X) (i : ℕ) (x : X) → i < length xs → x ≡ get_or xs i x
    → drop i xs ≡ x ∷ drop (i + 1) xs
dropped xs i x low is = drop_more xs i x low ∙ ap (λ y. y ∷ drop (i + 1) xs) (sym is)

all_first : (P : Row → Type 0) (xs ys : List Row) → AllByRecursion P (xs ++ ys) → AllByRecursion P xs
all_first P [] ys h = tt
all_first P (x ∷ xs) ys h = (h.0, all_first P xs ys h.1)

all_second : (P : Row → Type 0) (xs ys : List Row) → AllByRecursion P (xs ++ ys) → AllByRecursion P ys
all_second P [] ys h = h
all_second P (x ∷ xs) ys h = all_second P xs ys h.1

-- the clauses of the group at a place
pub rows_at : (P : Row → Type 0) (gs : List Group) (i : ℕ) (g : Group) → i < length gs → g ≡ get_or gs i g
    → AllByRecursion P (grouped_in gs) → AllByRecursion P g.clauses
rows_at P [] i g low is h = absurd (omega (arith, low))
rows_at P (f ∷ gs) zero g low is h =
    subst (λ (x : Group). AllByRecursion P x.clauses) (sym is) (all_first P f.clauses (grouped_in gs) h)
rows_at P (f ∷ gs) (suc i) g low is h =
    rows_at P gs i g (omega (arith, low)) is (all_second P f.clauses (grouped_in gs) h)

-- the group at a place
pub here_at : (gs : List Group) (i : ℕ) → i < length gs → (g : Group) × (drop i gs ≡ g ∷ drop (i + 1) gs)
here_at [] i low = absurd (omega (arith, low))
here_at (g ∷ gs) i low = (get_or (g ∷ gs) i g, drop_more (g ∷ gs) i g low)

-- what follows from what holds at `Ok` holds there too
pub on_ok : {T E : Type 0} (r : Result T E) (P Q : Type 0) → OnOk r P → (P → Q) → OnOk r Q
on_ok (Ok x) P Q p f = f p
on_ok (Err e) P Q p f = tt

pub on_ok_always : {T E : Type 0} (r : Result T E) {P : Type 0} → P → OnOk r P
on_ok_always (Ok x) p = p
on_ok_always (Err e) p = tt

-- what is there, or not

pub none_of : (o : Option ℕ) → is_some o ≡ true → is_none o ≡ false
none_of None h = absurd (true≢false (sym h))
none_of (Some n) h = refl

pub none_there : (o : Option ℕ) → is_some o ≡ false → is_none o ≡ true
none_there None h = refl
none_there (Some n) h = absurd (true≢false h)

pub if_none : (o : Option ℕ) (P : ℕ → Type 0) → is_some o ≡ false → IfSome o P
if_none None P h = tt
if_none (Some n) P h = absurd (true≢false h)

pub if_some : (o : Option ℕ) (P Q : ℕ → Type 0) → IfSome o P → ((n : ℕ) → P n → Q n) → IfSome o Q
if_some None P Q p f = tt
if_some (Some n) P Q p f = f n p

-- room for a prefix

-- every prefix extends the one of no scopes
extends_none : (scopes : List Scope) → Extends [] scopes
extends_none scopes = record {
  has = λ x i. absurd (contains_nil x i);
  quantifiers = λ x i. absurd (contains_nil x i);
  depths = λ x y i j. absurd (contains_nil x i);
}

all_in : (P : ℕ → Type 0) (xs : List ℕ) → AllByRecursion P xs → (x : ℕ) → Contains xs x → P x
all_in P [] h x i = absurd (contains_nil x i)
all_in P (y ∷ xs) h x i =
    ⊎_elim (λ (e : y ≡ x). subst P e h.0) (λ j. all_in P xs h.1 x j) (contains_cons y xs x i)

pub in_range : (scopes : List Scope) → IsPrefix scopes → (x : ℕ) → Contains (all_variables scopes) x
    → (1 ≤ x) × (x ≤ 1048576)
in_range scopes valid = all_in (λ v. (1 ≤ v) × (v ≤ 1048576)) (all_variables scopes) valid.in_range

-- a search of nothing rests under a prefix for which it has room
pub rests_under : RestingGrows → (scopes : List Scope) (s : SearchState) (v : ℕ) → IsPrefix scopes → IsRoomy v s
    → ((x : ℕ) → Contains (all_variables scopes) x → x ≤ v) → IsResting [] s → IsResting scopes s
rests_under grows scopes s v valid roomy low resting =
    grows [] scopes s (extends_none scopes) (record {
      trail = λ x i. roomy.trail x (low x i);
      signs = λ x i. roomy.signs x (low x i);
    })
    resting

-- without variables there is room
pub rests_empty : RestingGrows → (scopes : List Scope) (s : SearchState)
    → ((x : ℕ) → Contains (all_variables scopes) x → ⊥) → IsResting [] s → IsResting scopes s
rests_empty grows scopes s none resting =
    grows [] scopes s (extends_none scopes) (record {
      trail = λ x i. absurd (none x i);
      signs = λ x i. absurd (none x i);
    })
    resting

-- clauses come in

-- these clauses come in under a tag
pub record GainsClauses (tag : ℕ) (rows : List Row) (old new : List OpenClause) : Type 0 where
  pub stay : (c : OpenClause) → Contains old c → Contains new c
  pub come : (row : Row) → Contains rows row → StandsAs new tag row
  pub none_else : (c : OpenClause) → Contains new c → Contains old c ⊎ ((c.frame ≡ tag) × Contains rows c.row)

-- those with a row that is listed
with_row : (cs : List OpenClause) (row : Row) → Contains (map (λ (c : OpenClause). c.row) cs) row
    → (c : OpenClause) × Contains cs c × (c.row ≡ row)
with_row [] row i = absurd (contains_nil row i)
with_row (c ∷ cs) row i =
    ⊎_elim (λ e. (c, contains_head c cs, e))
    (λ j. let r = with_row cs row j in (r.0, contains_tail c cs r.0 r.1, r.2))
    (contains_cons c.row (map (λ (c : OpenClause). c.row) cs) row i)

row_of_one : (cs : List OpenClause) (c : OpenClause) → Contains cs c
    → Contains (map (λ (c : OpenClause). c.row) cs) c.row
row_of_one [] c i = absurd (contains_nil c i)
row_of_one (d ∷ cs) c i =
    ⊎_elim
    (λ (e : d ≡ c). subst (λ r. Contains (d.row ∷ map (λ (c : OpenClause). c.row) cs) r)
    (ap (λ (x : OpenClause). x.row) e) (contains_head d.row (map (λ (c : OpenClause). c.row) cs)))
    (λ j. contains_tail d.row (map (λ (c : OpenClause). c.row) cs) c.row (row_of_one cs c j))
    (contains_cons d cs c i)

pub gains : (tag : ℕ) (rows : List Row) (old new : List OpenClause) → AddsClauses tag rows old new
    → GainsClauses tag rows old new
gains tag rows old new adds =
    let behind : (c : OpenClause) → Contains adds.added c → Contains new c =
    λ c i. subst (λ cs. Contains cs c) (sym adds.clauses) (contains_right old adds.added c i) in
    record {
      stay = λ c i. subst (λ cs. Contains cs c) (sym adds.clauses) (contains_left old adds.added c i);
      come = λ row i. let w = with_row adds.added row (subst (λ rs. Contains rs row) (sym adds.has_rows) i) in
          (w.0, behind w.0 w.1, adds.of_frame w.0 w.1, w.2);
      none_else =
          λ c i. ⊎_elim inl
          (λ j. inr (adds.of_frame c j, subst (λ rs. Contains rs c.row) adds.has_rows (row_of_one adds.added c j)))
          (contains_either old adds.added c (subst (λ cs. Contains cs c) adds.clauses i));
    }

-- groups and their tags

of_group_within : (gs : List Group) (tag : ℕ) (row : Row) → IsOfGroup gs tag row → (1 ≤ tag) × (tag ≤ length gs)
of_group_within [] tag row h = absurd h
of_group_within (g ∷ gs) tag row h =
    ⊎_elim (λ e. (let same : tag ≡ length (g ∷ gs) = e.0 in (omega (arith, same), omega (arith, same))))
    (λ r. (let within : (1 ≤ tag) × (tag ≤ length gs) = of_group_within gs tag row r in
    (within.0, omega (arith, within)))) h

in_group : (gs : List Group) (tag : ℕ) (row : Row) → IsOfGroup gs tag row → Contains (grouped_in gs) row
in_group [] tag row h = absurd h
in_group (g ∷ gs) tag row h =
    ⊎_elim (λ e. contains_left g.clauses (grouped_in gs) row e.1)
    (λ r. contains_right g.clauses (grouped_in gs) row (in_group gs tag row r)) h

of_some : (gs : List Group) (row : Row) → Contains (grouped_in gs) row → (tag : ℕ) × IsOfGroup gs tag row
of_some [] row i = absurd (contains_nil row i)
of_some (g ∷ gs) row i =
    ⊎_elim (λ l. (length (g ∷ gs), inl (refl, l))) (λ r. let s = of_some gs row r in (s.0, inr s.1))
    (contains_either g.clauses (grouped_in gs) row i)

-- whether an open clause is under another tag
abbrev is_other : ℕ → OpenClause → Bool
is_other n c = not (c.frame == n)

-- a search that tries groups

module _ (scopes : List Scope) where
  pub nothing_in : (s : SearchState) → IsResting scopes s → clauses_of s.derivation ≡ [] → IsTrying scopes s [] []
  nothing_in s resting none = record {
    resting = resting;
    none_else = λ c i. absurd (contains_nil c (subst (λ cs. Contains cs c) none i));
    kept_there = λ row i. absurd (contains_nil row i);
    rest_there = λ tag row h. absurd h;
  }

  -- the same clauses
  pub still_trying : (old new : SearchState) (kept : List Row) (gs : List Group) → IsResting scopes new
      → clauses_of new.derivation ≡ clauses_of old.derivation → IsTrying scopes old kept gs
      → IsTrying scopes new kept gs
  still_trying old new kept gs resting same h = record {
    resting = resting;
    none_else = λ c i. h.none_else c (subst (λ cs. Contains cs c) same i);
    kept_there = λ row i. stands 0 row (h.kept_there row i);
    rest_there = λ tag row of. stands tag row (h.rest_there tag row of);
  }
    where
      stands : (tag : ℕ) (row : Row) → StandsAs (clauses_of old.derivation) tag row
          → StandsAs (clauses_of new.derivation) tag row
      stands tag row s = subst (λ cs. StandsAs cs tag row) (sym same) s

  module _ (old new : SearchState) (kept : List Row) (gs : List Group) (resting : IsResting scopes new)
      (h : IsTrying scopes old kept gs) where
    stands : {tag : ℕ} {rows : List Row} (adds : GainsClauses tag rows (clauses_of old.derivation)
        (clauses_of new.derivation)) (t : ℕ) (row : Row) → StandsAs (clauses_of old.derivation) t row
        → StandsAs (clauses_of new.derivation) t row
    stands adds t row s = (s.0, adds.stay s.0 s.1, s.2, s.3)

    -- clauses are kept
    pub kept_in : (rows : List Row) → GainsClauses 0 rows (clauses_of old.derivation) (clauses_of new.derivation)
        → IsTrying scopes new (kept ++ rows) gs
    kept_in rows adds = record {
      resting = resting;
      none_else =
          λ c i. ⊎_elim
          (λ j. ⊎_elim (λ k. inl (k.0, contains_left kept rows c.row k.1)) inr (h.none_else c j))
          (λ e. inl (e.0, contains_right kept rows c.row e.1))
          (adds.none_else c i);
      kept_there =
          λ row i. ⊎_elim
          (λ j. stands adds 0 row (h.kept_there row j))
          (adds.come row)
          (contains_either kept rows row i);
      rest_there = λ t row of. stands adds t row (h.rest_there t row of);
    }

    -- a group comes before the others
    pub group_in : (g : Group)
        → GainsClauses (length (g ∷ gs)) g.clauses (clauses_of old.derivation) (clauses_of new.derivation)
        → IsTrying scopes new kept (g ∷ gs)
    group_in g adds = record {
      resting = resting;
      none_else =
          λ c i. ⊎_elim (λ j. ⊎_elim inl (λ of. inr (inr of)) (h.none_else c j)) (λ e. inr (inl e))
          (adds.none_else c i);
      kept_there = λ row i. stands adds 0 row (h.kept_there row i);
      rest_there =
          λ t row of. ⊎_elim
          (λ e. subst (λ x. StandsAs (clauses_of new.derivation) x row) (sym e.0) (adds.come row e.1))
          (λ r. stands adds t row (h.rest_there t row r))
          of;
    }

  -- the first group goes
  pub taken_out : (old new : SearchState) (kept : List Row) (g : Group) (gs : List Group) → IsResting scopes new
      → clauses_of new.derivation
      ≡ filter (λ (c : OpenClause). not (c.frame == length (g ∷ gs))) (clauses_of old.derivation)
      → IsTrying scopes old kept (g ∷ gs) → IsTrying scopes new kept gs
  taken_out old new kept g gs resting left h = record {
    resting = resting;
    none_else = λ c i. let was = here c i in
        ⊎_elim inl (λ of. ⊎_elim (λ e. absurd (was.1 e.0)) inr of) (h.none_else c was.0);
    kept_there = λ row i. stands 0 row (λ e. omega (arith, e)) (h.kept_there row i);
    rest_there = λ tag row of. let within : (1 ≤ tag) × (tag ≤ length gs) = of_group_within gs tag row of in
        stands tag row (λ e. omega (arith, within, e)) (h.rest_there tag row (inr of));
  }
    where
      here : (c : OpenClause) → Contains (clauses_of new.derivation) c
          → Contains (clauses_of old.derivation) c × (c.frame ≡ length (g ∷ gs) → ⊥)
      here c i =
          let at = filter_at (is_other (length (g ∷ gs))) (clauses_of old.derivation) c
          (subst (λ cs. Contains cs c) left i) in
          (at.0, λ e. true≢false (sym at.1 ∙ ap not (eq-eqb c.frame (length (g ∷ gs)) e)))

      stands : (tag : ℕ) (row : Row) → (tag ≡ length (g ∷ gs) → ⊥) → StandsAs (clauses_of old.derivation) tag row
          → StandsAs (clauses_of new.derivation) tag row
      stands tag row other s = (
        s.0,
        subst (λ cs. Contains cs s.0) (sym left)
            (filter_from (is_other (length (g ∷ gs))) (clauses_of old.derivation) s.0 s.1
            (ap not (ne_eqb s.0.frame (length (g ∷ gs)) (λ e. other (sym s.2 ∙ e))))),
        s.2,
        s.3,
      )

  -- the group at a place goes
  pub gone_at : (old new : SearchState) (kept : List Row) (place : ℕ) (groups : List Group) → place < length groups
      → IsResting scopes new
      → clauses_of new.derivation
      ≡ filter (λ (c : OpenClause). not (c.frame == length groups - place)) (clauses_of old.derivation)
      → IsTrying scopes old kept (drop place groups) → IsTrying scopes new kept (drop (place + 1) groups)
  gone_at old new kept place groups low resting left h =
      let at = here_at groups place low in
      taken_out old new kept at.0 (drop (place + 1) groups) resting
      (subst (λ (n : ℕ). clauses_of new.derivation
      ≡ filter (λ (c : OpenClause). not (c.frame == n)) (clauses_of old.derivation))
      (sym (length-drop place groups) ∙ ap length at.1) left)
      (subst (λ (gs : List Group). IsTrying scopes old kept gs) at.1 h)

  -- the group comes before which so many are in
  pub group_at : (old new : SearchState) (kept : List Row) (groups : List Group) (left : ℕ) (p : Group)
      → left < length groups → p ≡ get_or groups (length groups - 1 - left) p → IsResting scopes new
      → AddsClauses (left + 1) p.clauses (clauses_of old.derivation) (clauses_of new.derivation)
      → IsTrying scopes old kept (drop (length groups - left) groups)
      → IsTrying scopes new kept (drop (length groups - (left + 1)) groups)
  group_at old new kept groups left p low is resting adds h =
      let i = length groups - 1 - left in
      let within : i < length groups = omega (arith, low) in
      let next : i + 1 ≡ length groups - left = omega (arith, low) in
      let place : i ≡ length groups - (left + 1) = omega (arith, low) in
      let here : drop i groups ≡ p ∷ drop (i + 1) groups = dropped groups i p within is in
      let many : length groups - i ≡ left + 1 = omega (arith, low) in
      let tag : left + 1 ≡ length (p ∷ drop (i + 1) groups) =
      sym (sym (ap length here) ∙ length-drop i groups ∙ many) in
      subst (λ n. IsTrying scopes new kept (drop n groups)) place
      (subst (λ (gs : List Group). IsTrying scopes new kept gs) (sym here)
      (group_in old new kept (drop (i + 1) groups) resting
      (subst (λ n. IsTrying scopes old kept (drop n groups)) (sym next) h) p
      (subst (λ n. GainsClauses n p.clauses (clauses_of old.derivation) (clauses_of new.derivation)) tag
      (gains (left + 1) p.clauses (clauses_of old.derivation) (clauses_of new.derivation) adds))))

  -- the clauses that are in
  pub matrix_of : (s : SearchState) (kept : List Row) (gs : List Group) → IsTrying scopes s kept gs
      → IsMatrix s.derivation (kept ++ grouped_in gs)
  matrix_of s kept gs h = record {
    there = λ row i. let c = with_row (clauses_of s.derivation) row i in
        subst (λ r. Contains (kept ++ grouped_in gs) r) c.2
        (⊎_elim (λ k. contains_left kept (grouped_in gs) c.0.row k.1)
        (λ of. contains_right kept (grouped_in gs) c.0.row (in_group gs c.0.frame c.0.row of))
        (h.none_else c.0 c.1));
    none_else = λ row i. ⊎_elim
        (λ k. opened 0 row (h.kept_there row k))
        (λ r. let o = of_some gs row r in opened o.0 row (h.rest_there o.0 row o.1))
        (contains_either kept (grouped_in gs) row i);
  }
    where
      opened : (tag : ℕ) (row : Row) → StandsAs (clauses_of s.derivation) tag row
          → Contains (open_clauses s.derivation) row
      opened tag row st =
          subst (λ r. Contains (open_clauses s.derivation) r) st.3 (row_of_one (clauses_of s.derivation) st.0 st.1)
