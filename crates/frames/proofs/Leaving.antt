-- Variables that come and go with frames.
use Rattle.std.proofs.Common.{◌≡◌, ℕ, ◌-◌, Bool, true, false, cond, not, ◌||◌, List, [], ◌∷◌, ◌++◌, length, Some, None, refl, sym, ap, ap₂, ◌∙◌, subst, append_assoc, arith}
use Rattle.std.specs.Prelude.{◌==◌, if◌then◌else◌, is_some, Contains, nat_lt}
use Rattle.std.specs.List.{AllByRecursion}
use Rattle.std.proofs.lemmas.Bool.{eqb-true, or_parts, true≢false}
use Rattle.std.proofs.lemmas.Bool.Decides.{nat_tests}
use Rattle.std.proofs.lemmas.List.{append-nil}
use Rattle.std.proofs.lemmas.Grind.{flat_map-append}
use Rattle.prefix.specs.Literal.{Literal}
use Rattle.prefix.specs.Scopes.{Scope, AreDistinct, level_of, is_among, without_variable}
use Rattle.prefix.proofs.ScopeLemmas.{is_among-append}
use Rattle.prefix.proofs.RemovalLemmas.{level-without, removal_keeps_order}
use Rattle.calculus.specs.Derivations.{Extends}
use Rattle.calculus.specs.Rows.{Row, IsRow, without}
use Rattle.calculus.proofs.Changes.{extends_itself}
use Rattle.calculus.proofs.Growing.{extends_twice, kept_extends}
use Rattle.calculus.proofs.Lists.{contains_head, contains_tail, all_append, all_behind, all_front, all_map, all_more, all_of}
use Rattle.calculus.proofs.Levels.{has_level}
use Rattle.versions.specs.declared.version.Version.{Version}
use Rattle.versions.specs.declared.version.Version.TheVariants.{One, Two, Three}
use Rattle.frames.specs.State.{Frame, with_row, with_leaving, popped, pushed, clauses_in, depth, top_variables, with_variable, without_variables, without_assumed}
use Rattle.frames.specs.Leaving.{AreLeaving, ClausesOutlast, FirstKeeps, NamesNone, leaving}
use Rattle.frames.proofs.Starts.{all_but_last}
use Rattle.frames.proofs.Knowing.{in_prefix}

-- lists

distinct_front : (xs ys : List ℕ) → AreDistinct (xs ++ ys) → AreDistinct xs
distinct_front [] ys d = tt
distinct_front (x ∷ xs) ys d = (
  (or_parts (is_among x xs) (is_among x ys) (sym (is_among-append x xs ys) ∙ d.0)).0,
  distinct_front xs ys d.1,
)

pub distinct_back : (xs ys : List ℕ) → AreDistinct (xs ++ ys) → AreDistinct ys
distinct_back [] ys d = d
distinct_back (x ∷ xs) ys d = distinct_back xs ys d.1

-- what stands in the front doesn't stand behind it
distinct_apart : (xs ys : List ℕ) → AreDistinct (xs ++ ys) → AllByRecursion (λ x. is_among x ys ≡ false) xs
distinct_apart [] ys d = tt
distinct_apart (x ∷ xs) ys d = (
  (or_parts (is_among x xs) (is_among x ys) (sym (is_among-append x xs ys) ∙ d.0)).1,
  distinct_apart xs ys d.1,
)

among_alone : (x v : ℕ) (xs : List ℕ) → is_among x xs ≡ false → (v == x) ≡ false → is_among x (xs ++ v ∷ []) ≡ false
among_alone x v xs e f = is_among-append x xs (v ∷ []) ∙ ap₂ (λ (a b : Bool). a || (b || false)) e f

distinct_more : (xs : List ℕ) (v : ℕ) → AreDistinct xs → is_among v xs ≡ false → AreDistinct (xs ++ v ∷ [])
distinct_more [] v d e = (refl, tt)
distinct_more (x ∷ xs) v d e =
    let parts = or_parts (x == v) (is_among v xs) e in
    let first : (x == v) ≡ false = parts.0 in
    (among_alone x v xs d.0 (grind (arith, nat_tests, first)), distinct_more xs v d.1 parts.1)

-- rows that name none

pub names_nothing : (row : Row) → NamesNone [] row
names_nothing [] = tt
names_nothing (l ∷ ls) = (refl, names_nothing ls)

pub all_nothing : (rows : List Row) → AllByRecursion (NamesNone []) rows
all_nothing [] = tt
all_nothing (r ∷ rs) = (names_nothing r, all_nothing rs)

pub names_front : (vs ws : List ℕ) (row : Row) → NamesNone (vs ++ ws) row → NamesNone vs row
names_front vs ws row none = all_map (λ (l : Literal). is_among l.variable (vs ++ ws) ≡ false)
    (λ (l : Literal). is_among l.variable vs ≡ false) row
    (λ l e. (or_parts (is_among l.variable vs) (is_among l.variable ws)
    (sym (is_among-append l.variable vs ws) ∙ e)).0) none

pub names_back : (vs ws : List ℕ) (row : Row) → NamesNone (vs ++ ws) row → NamesNone ws row
names_back vs ws row none = all_map (λ (l : Literal). is_among l.variable (vs ++ ws) ≡ false)
    (λ (l : Literal). is_among l.variable ws ≡ false) row
    (λ l e. (or_parts (is_among l.variable vs) (is_among l.variable ws)
    (sym (is_among-append l.variable vs ws) ∙ e)).1) none

pub names_both : (vs ws : List ℕ) (row : Row) → NamesNone vs row → NamesNone ws row → NamesNone (vs ++ ws) row
names_both vs ws [] n m = tt
names_both vs ws (l ∷ ls) n m = (
  is_among-append l.variable vs ws
      ∙ ap₂ (λ (a b : Bool). a || b) n.0 m.0,
  names_both vs ws ls n.1 m.1,
)

pub all_both : (vs ws : List ℕ) (rows : List Row) → AllByRecursion (NamesNone vs) rows
    → AllByRecursion (NamesNone ws) rows → AllByRecursion (NamesNone (vs ++ ws)) rows
all_both vs ws [] n m = tt
all_both vs ws (r ∷ rs) n m = (names_both vs ws r n.0 m.0, all_both vs ws rs n.1 m.1)

-- rows of a prefix name no variable that isn't in it
new_to_row : (scopes : List Scope) (v : ℕ) (row ls : Row) → is_some (level_of scopes v) ≡ false
    → ((l : Literal) → Contains ls l → is_some (level_of scopes l.variable) ≡ true) → NamesNone (v ∷ []) ls
new_to_row scopes v row [] e h = tt
new_to_row scopes v row (l ∷ ls) e h = (
  by (v == l.variable) refl,
  new_to_row scopes v row ls e (λ m c. h m (contains_later m c)),
)
  where
    contains_later : (m : Literal) → Contains ls m → Contains (l ∷ ls) m
    contains_later m c = contains_tail l ls m c

    there : is_some (level_of scopes l.variable) ≡ true
    there = h l (contains_head l ls)

    by : (b : Bool) → (v == l.variable) ≡ b → (b || false) ≡ false
    by true f = absurd (true≢false (sym there ∙ ap (λ x. is_some (level_of scopes x)) (sym (eqb-true v l.variable f))
        ∙ e))
    by false f = refl

pub new_to_rows : (scopes : List Scope) (v : ℕ) (rows : List Row) → is_some (level_of scopes v) ≡ false
    → AllByRecursion (IsRow scopes) rows → AllByRecursion (NamesNone (v ∷ [])) rows
new_to_rows scopes v [] e all = tt
new_to_rows scopes v (r ∷ rs) e all = (
  new_to_row scopes v r r e (λ l c. has_level scopes l.variable (all.0.over_prefix l c)),
  new_to_rows scopes v rs e all.1,
)

-- variables taken out

pub level-without_variables : (vs : List ℕ) (ss : List Scope) (w : ℕ) → level_of (without_variables vs ss) w
    ≡ (if is_among w vs then None else level_of ss w)
level-without_variables [] ss w = refl
level-without_variables (v ∷ vs) ss w =
    let flip : (w == v) ≡ (v == w) = grind (arith, nat_tests) in
    level-without (without_variables vs ss) v w ∙ ap (λ b. cond b None (level_of (without_variables vs ss) w)) flip
    ∙ by (v == w) (level-without_variables vs ss w)
  where
    by : (b : Bool) → level_of (without_variables vs ss) w ≡ (if is_among w vs then None else level_of ss w)
        → cond b None (level_of (without_variables vs ss) w) ≡ cond (b || is_among w vs) None (level_of ss w)
    by true rest = refl
    by false rest = rest

pub without_extends : (vs : List ℕ) (ss : List Scope) → Extends (without_variables vs ss) ss
without_extends [] ss = extends_itself ss
without_extends (v ∷ vs) ss =
    let left : List Scope = without_variables vs ss in
    extends_twice (without_variable v left) left ss
    (kept_extends (without_variable v left) left (removal_keeps_order left v)) (without_extends vs ss)

still_level : (vs : List ℕ) (ss : List Scope) (w : ℕ) → is_among w vs ≡ false → is_some (level_of ss w) ≡ true
    → is_some (level_of (without_variables vs ss) w) ≡ true
still_level vs ss w none e = ap is_some (level-without_variables vs ss w)
    ∙ ap (λ b. is_some (if b then None else level_of ss w)) none ∙ e

-- rows that name none of them stay rows
pub rows_left : (vs : List ℕ) (ss : List Scope) (rows : List Row) → AllByRecursion (NamesNone vs) rows
    → AllByRecursion (IsRow ss) rows → AllByRecursion (IsRow (without_variables vs ss)) rows
rows_left vs ss [] none all = tt
rows_left vs ss (r ∷ rs) none all = (
  record {
    ascending = all.0.ascending;
    over_prefix = λ l c. in_prefix (without_variables vs ss) l.variable
        (still_level vs ss l.variable (all_of (λ (m : Literal). is_among m.variable vs ≡ false) r l none.0 c)
        (has_level ss l.variable (all.0.over_prefix l c)));
  },
  rows_left vs ss rs none.1 all.1,
)

known_left : (vs : List ℕ) (ss : List Scope) (ws : List ℕ) → AllByRecursion (λ w. is_among w vs ≡ false) ws
    → AllByRecursion (λ w. is_some (level_of ss w) ≡ true) ws
    → AllByRecursion (λ w. is_some (level_of (without_variables vs ss) w) ≡ true) ws
known_left vs ss [] none all = tt
known_left vs ss (w ∷ ws) none all = (still_level vs ss w none.0 all.0, known_left vs ss ws none.1 all.1)

one_outer : (v : ℕ) (ss : List Scope) (ls : List Literal)
    → AllByRecursion (λ (l : Literal). level_of ss l.variable ≡ Some 1) ls
    → AllByRecursion (λ (l : Literal). level_of (without_variable v ss) l.variable ≡ Some 1) (without v ls)
one_outer v ss [] all = tt
one_outer v ss (l ∷ ls) all = by (l.variable == v) refl (one_outer v ss ls all.1)
  where
    by : (b : Bool) → (l.variable == v) ≡ b → AllByRecursion
        (λ (m : Literal). level_of (without_variable v ss) m.variable ≡ Some 1) (without v ls)
        → AllByRecursion (λ (m : Literal). level_of (without_variable v ss) m.variable ≡ Some 1)
        (cond (not b) (l ∷ without v ls) (without v ls))
    by true e rest = rest
    by false e rest = (level-without ss v l.variable ∙ ap (λ b. cond b None (level_of ss l.variable)) e ∙ all.0, rest)

-- the other assumptions stay in the first scope
pub outer_left : (vs : List ℕ) (ss : List Scope) (ls : List Literal)
    → AllByRecursion (λ (l : Literal). level_of ss l.variable ≡ Some 1) ls
    → AllByRecursion (λ (l : Literal). level_of (without_variables vs ss) l.variable ≡ Some 1) (without_assumed vs ls)
outer_left [] ss ls all = all
outer_left (v ∷ vs) ss ls all = one_outer v (without_variables vs ss) (without_assumed vs ls)
    (outer_left vs ss ls all)

-- the last of them is taken out first
pub without_last : (vs : List ℕ) (v : ℕ) (ss : List Scope) → without_variables (vs ++ v ∷ []) ss
    ≡ without_variables vs (without_variable v ss)
without_last [] v ss = refl
without_last (w ∷ vs) v ss = ap (without_variable w) (without_last vs v ss)

pub without_last_assumed : (vs : List ℕ) (v : ℕ) (ls : List Literal) → without_assumed (vs ++ v ∷ []) ls
    ≡ without_assumed vs (without v ls)
without_last_assumed [] v ls = refl
without_last_assumed (w ∷ vs) v ls = ap (without w) (without_last_assumed vs v ls)

-- one more row

pub leaving_row : (r : Row) (frames : List Frame) → leaving (with_row r frames) ≡ leaving frames
leaving_row r [] = refl
leaving_row r (f ∷ []) = refl
leaving_row r (f ∷ g ∷ rest) = ap (λ vs. f.variables ++ vs) (leaving_row r (g ∷ rest))

outlast_row : (r : Row) (frames : List Frame) → ClausesOutlast frames → ClausesOutlast (with_row r frames)
outlast_row r [] o = tt
outlast_row r (f ∷ []) o = (all_nothing (f.clauses ++ r ∷ []), tt)
outlast_row r (f ∷ g ∷ rest) o = (
  subst (λ vs. AllByRecursion (NamesNone vs) f.clauses)
      (sym (leaving_row r (g ∷ rest))) o.0,
  outlast_row r (g ∷ rest) o.1,
)

outlast_back : (r : Row) (frames : List Frame) → ClausesOutlast (with_row r frames) → ClausesOutlast frames
outlast_back r [] o = tt
outlast_back r (f ∷ []) o = (all_nothing f.clauses, tt)
outlast_back r (f ∷ g ∷ rest) o = (
  subst (λ vs. AllByRecursion (NamesNone vs) f.clauses) (leaving_row r (g ∷ rest))
      o.0,
  outlast_back r (g ∷ rest) o.1,
)

first_row : (r : Row) (frames : List Frame) → FirstKeeps frames → FirstKeeps (with_row r frames)
first_row r [] k = tt
first_row r (f ∷ []) k = k
first_row r (f ∷ g ∷ rest) k = k

first_back : (r : Row) (frames : List Frame) → FirstKeeps (with_row r frames) → FirstKeeps frames
first_back r [] k = tt
first_back r (f ∷ []) k = k
first_back r (f ∷ g ∷ rest) k = k

module _ (version : Version) (scopes : List Scope) (r : Row) (frames : List Frame) where
  pub leave_row : AreLeaving version scopes frames → AreLeaving version scopes (with_row r frames)
  leave_row are = record {
    known = rw (leaving_row r frames) are.known;
    distinct = rw (leaving_row r frames) are.distinct;
    first = first_row r frames are.first;
    outlast = outlast_row r frames are.outlast;
    never = λ e. leaving_row r frames ∙ are.never e;
  }

  -- and back
  pub leave_back : AreLeaving version scopes (with_row r frames) → AreLeaving version scopes frames
  leave_back are =
      let same = leaving_row r frames in record {
        known = subst (AllByRecursion (λ v. is_some (level_of scopes v) ≡ true)) same are.known;
        distinct = subst AreDistinct same are.distinct;
        first = first_back r frames are.first;
        outlast = outlast_back r frames are.outlast;
        never = λ e. sym same ∙ are.never e;
      }

-- a frame more

pub leaving_pushed : (frames : List Frame) → leaving (pushed frames) ≡ leaving frames
leaving_pushed [] = refl
leaving_pushed (f ∷ frames) = ap (λ vs. f.variables ++ vs) (leaving_pushed frames)

outlast_pushed : (frames : List Frame) → ClausesOutlast frames → ClausesOutlast (pushed frames)
outlast_pushed [] o = (tt, tt)
outlast_pushed (f ∷ frames) o = (
  subst (λ vs. AllByRecursion (NamesNone vs) f.clauses) (sym (leaving_pushed frames))
      o.0,
  outlast_pushed frames o.1,
)

first_pushed : (frames : List Frame) → FirstKeeps frames → FirstKeeps (pushed frames)
first_pushed [] k = refl
first_pushed (f ∷ frames) k = k

pub leave_pushed : (version : Version) (scopes : List Scope) (frames : List Frame) → AreLeaving version scopes frames
    → AreLeaving version scopes (pushed frames)
leave_pushed version scopes frames are = record {
  known = rw (leaving_pushed frames) are.known;
  distinct = rw (leaving_pushed frames) are.distinct;
  first = first_pushed frames are.first;
  outlast = outlast_pushed frames are.outlast;
  never = λ e. leaving_pushed frames ∙ are.never e;
}

-- a frame less

pub leaving_last : (frames : List Frame) (f : Frame) → leaving (frames ++ f ∷ []) ≡ leaving frames ++ f.variables
leaving_last frames f = flat_map-append (λ (g : Frame). g.variables) frames (f ∷ [])
    ∙ ap (λ vs. leaving frames ++ vs) (append-nil f.variables)

outlast_popped : (frames : List Frame) (f : Frame) → ClausesOutlast (frames ++ f ∷ []) → ClausesOutlast frames
outlast_popped [] f o = tt
outlast_popped (g ∷ frames) f o = (
  all_map (NamesNone (leaving (frames ++ f ∷ []))) (NamesNone (leaving frames)) g.clauses
      (λ r none. names_front (leaving frames) f.variables r
      (subst (λ vs. NamesNone vs r) (leaving_last frames f) none)) o.0,
  outlast_popped frames f o.1,
)

-- the clauses below the top frame name none of the variables that leave with it
pub below_top : (frames : List Frame) (f : Frame) → ClausesOutlast (frames ++ f ∷ [])
    → AllByRecursion (NamesNone f.variables) (clauses_in frames)
below_top [] f o = tt
below_top (g ∷ frames) f o = all_append (NamesNone f.variables) g.clauses (clauses_in frames)
    (all_map (NamesNone (leaving (frames ++ f ∷ []))) (NamesNone f.variables) g.clauses
    (λ r none. names_back (leaving frames) f.variables r (subst (λ vs. NamesNone vs r) (leaving_last frames f) none))
    o.0)
    (below_top frames f o.1)

first_popped : (frames : List Frame) (f : Frame) → FirstKeeps (frames ++ f ∷ []) → FirstKeeps frames
first_popped [] f k = tt
first_popped (g ∷ frames) f k = k

nothing_front : (vs ws : List ℕ) → vs ++ ws ≡ [] → vs ≡ []
nothing_front [] ws e = refl
nothing_front (v ∷ vs) ws e = absurd (cc)

pub leave_popped : (version : Version) (scopes : List Scope) (frames : List Frame) (f : Frame)
    → AreLeaving version scopes (frames ++ f ∷ [])
    → AreLeaving version (without_variables f.variables scopes) frames
leave_popped version scopes frames f are =
    let parts = leaving_last frames f in
    let distinct = subst AreDistinct parts are.distinct in record {
      known = known_left f.variables scopes (leaving frames) (distinct_apart (leaving frames) f.variables distinct)
          (all_front (λ v. is_some (level_of scopes v) ≡ true) (leaving frames) f.variables
          (subst (AllByRecursion (λ v. is_some (level_of scopes v) ≡ true)) parts are.known));
      distinct = distinct_front (leaving frames) f.variables distinct;
      first = first_popped frames f are.first;
      outlast = outlast_popped frames f are.outlast;
      never = λ e. nothing_front (leaving frames) f.variables (sym parts ∙ are.never e);
    }

-- a variable more

pub leaving_more : (v : ℕ) (f : Frame) (frames : List Frame) → leaving (with_leaving v (f ∷ frames))
    ≡ leaving (f ∷ frames) ++ v ∷ []
leaving_more v f [] = append-nil (f.variables ++ v ∷ []) ∙ ap (λ vs. vs ++ v ∷ []) (sym (append-nil f.variables))
leaving_more v f (g ∷ rest) = ap (λ vs. f.variables ++ vs) (leaving_more v g rest)
    ∙ sym (append_assoc f.variables (leaving (g ∷ rest)) (v ∷ []))

outlast_more : (v : ℕ) (f : Frame) (frames : List Frame)
    → AllByRecursion (NamesNone (v ∷ [])) (clauses_in (f ∷ frames)) → ClausesOutlast (f ∷ frames)
    → ClausesOutlast (with_leaving v (f ∷ frames))
outlast_more v f [] new o = o
outlast_more v f (g ∷ rest) new o = (
  subst (λ vs. AllByRecursion (NamesNone vs) f.clauses) (sym (leaving_more v g rest))
      (all_both (leaving (g ∷ rest)) (v ∷ []) f.clauses o.0
      (all_front (NamesNone (v ∷ [])) f.clauses (clauses_in (g ∷ rest)) new)),
  outlast_more v g rest (all_behind (NamesNone (v ∷ [])) f.clauses (clauses_in (g ∷ rest)) new) o.1,
)

-- no variable that leaves is new to the prefix
new_to_leaving : (scopes : List Scope) (v : ℕ) (vs : List ℕ) → is_some (level_of scopes v) ≡ false
    → AllByRecursion (λ w. is_some (level_of scopes w) ≡ true) vs → is_among v vs ≡ false
new_to_leaving scopes v [] e all = refl
new_to_leaving scopes v (w ∷ ws) e all = by (w == v) refl (new_to_leaving scopes v ws e all.1)
  where
    by : (b : Bool) → (w == v) ≡ b → is_among v ws ≡ false → (b || is_among v ws) ≡ false
    by true f rest = absurd (true≢false (sym all.0 ∙ ap (λ x. is_some (level_of scopes x)) (eqb-true w v f) ∙ e))
    by false f rest = rest

pub leave_kept : (version : Version) (old new : List Scope) (frames : List Frame)
    → ((w : ℕ) → is_some (level_of old w) ≡ true → is_some (level_of new w) ≡ true)
    → AreLeaving version old frames → AreLeaving version new frames
leave_kept version old new frames kept are = record {
  known = all_map (λ w. is_some (level_of old w) ≡ true) (λ w. is_some (level_of new w) ≡ true) (leaving frames) kept
      are.known;
  distinct = are.distinct;
  first = are.first;
  outlast = are.outlast;
  never = are.never;
}

-- where the frames are more than one, and from version 2 on
leave_more : (version : Version) (old new : List Scope) (v : ℕ) (f g : Frame) (rest : List Frame)
    → (version ≡ One → ⊥) → is_some (level_of old v) ≡ false → is_some (level_of new v) ≡ true
    → ((w : ℕ) → is_some (level_of old w) ≡ true → is_some (level_of new w) ≡ true)
    → AllByRecursion (IsRow old) (clauses_in (f ∷ g ∷ rest))
    → AreLeaving version old (f ∷ g ∷ rest) → AreLeaving version new (with_leaving v (f ∷ g ∷ rest))
leave_more version old new v f g rest later free there kept rows are =
    let more = leaving_more v f (g ∷ rest) in record {
      known = subst (AllByRecursion (λ w. is_some (level_of new w) ≡ true)) (sym more)
          (all_more (λ w. is_some (level_of new w) ≡ true) (leaving (f ∷ g ∷ rest)) v
          (all_map (λ w. is_some (level_of old w) ≡ true) (λ w. is_some (level_of new w) ≡ true)
          (leaving (f ∷ g ∷ rest)) kept are.known) there);
      distinct = subst AreDistinct (sym more) (distinct_more (leaving (f ∷ g ∷ rest)) v are.distinct
          (new_to_leaving old v (leaving (f ∷ g ∷ rest)) free are.known));
      first = are.first;
      outlast = outlast_more v f (g ∷ rest) (new_to_rows old v (clauses_in (f ∷ g ∷ rest)) free rows) are.outlast;
      never = λ e. absurd (later e);
    }

leave_later : (version : Version) (old new : List Scope) (v : ℕ) (frames : List Frame) → (version ≡ One → ⊥)
    → is_some (level_of old v) ≡ false → is_some (level_of new v) ≡ true
    → ((w : ℕ) → is_some (level_of old w) ≡ true → is_some (level_of new w) ≡ true)
    → AllByRecursion (IsRow old) (clauses_in frames) → AreLeaving version old frames
    → AreLeaving version new (if nat_lt 0 (depth frames) then with_leaving v frames else frames)
leave_later version old new v [] later free there kept rows are = leave_kept version old new [] kept are
leave_later version old new v (f ∷ []) later free there kept rows are = leave_kept version old new (f ∷ []) kept are
leave_later version old new v (f ∷ g ∷ rest) later free there kept rows are =
    let deep : nat_lt 0 (length (f ∷ g ∷ rest) - 1) ≡ true = grind (arith, nat_tests) in
    subst (λ b. AreLeaving version new (if b then with_leaving v (f ∷ g ∷ rest) else f ∷ g ∷ rest)) (sym deep)
    (leave_more version old new v f g rest later free there kept rows are)

pub leave_variable : (version : Version) (old new : List Scope) (v : ℕ) (frames : List Frame)
    → is_some (level_of old v) ≡ false → is_some (level_of new v) ≡ true
    → ((w : ℕ) → is_some (level_of old w) ≡ true → is_some (level_of new w) ≡ true)
    → AllByRecursion (IsRow old) (clauses_in frames)
    → AreLeaving version old frames → AreLeaving version new (with_variable version v frames)
leave_variable One old new v frames free there kept rows are = leave_kept One old new frames kept are
leave_variable Two old new v frames free there kept rows are =
    leave_later Two old new v frames (λ (e : Two ≡ One). cc) free there kept rows are
leave_variable Three old new v frames free there kept rows are =
    leave_later Three old new v frames (λ (e : Three ≡ One). cc) free there kept rows are

-- what the top frame's variables are
pub top_is : (frames : List Frame) (f : Frame) → top_variables (frames ++ f ∷ []) ≡ f.variables
top_is [] f = refl
top_is (g ∷ []) f = refl
top_is (g ∷ h ∷ rest) f = top_is (h ∷ rest) f

-- what is known of the top frame's variables

pub all_top : (P : ℕ → Type 0) (frames : List Frame) → AllByRecursion P (leaving frames)
    → AllByRecursion P (top_variables frames)
all_top P [] all = tt
all_top P (f ∷ []) all = all_front P f.variables [] all
all_top P (f ∷ g ∷ rest) all = all_top P (g ∷ rest) (all_behind P f.variables (leaving (g ∷ rest)) all)

pub distinct_top : (frames : List Frame) → AreDistinct (leaving frames) → AreDistinct (top_variables frames)
distinct_top [] d = tt
distinct_top (f ∷ []) d = distinct_front f.variables [] d
distinct_top (f ∷ g ∷ rest) d = distinct_top (g ∷ rest) (distinct_back f.variables (leaving (g ∷ rest)) d)

nothing_behind : (vs ws : List ℕ) → vs ++ ws ≡ [] → ws ≡ []
nothing_behind [] ws e = e
nothing_behind (v ∷ vs) ws e = absurd (cc)

pub never_top : (frames : List Frame) → leaving frames ≡ [] → top_variables frames ≡ []
never_top [] e = refl
never_top (f ∷ []) e = nothing_front f.variables [] e
never_top (f ∷ g ∷ rest) e = never_top (g ∷ rest) (nothing_behind f.variables (leaving (g ∷ rest)) e)

pub first_top : (frames : List Frame) → FirstKeeps frames → depth frames ≡ 0 → top_variables frames ≡ []
first_top [] k e = refl
first_top (f ∷ []) k e = k
first_top (f ∷ g ∷ rest) k e = absurd (omega (arith, e))

last_one : (f : Frame) (rest : List Frame) → (below : List Frame) × (top : Frame) × (f ∷ rest ≡ below ++ top ∷ [])
last_one f [] = ([], f, refl)
last_one f (g ∷ rest) = let more = last_one g rest in (f ∷ more.0, more.1, ap (λ fs. f ∷ fs) more.2)

pub below_popped : (frames : List Frame) → ClausesOutlast frames
    → AllByRecursion (NamesNone (top_variables frames)) (clauses_in (popped frames))
below_popped [] o = tt
below_popped (f ∷ rest) o =
    let parts = last_one f rest in
    let none = below_top parts.0 parts.1 (subst ClausesOutlast parts.2 o) in
    subst (λ fs. AllByRecursion (NamesNone (top_variables fs)) (clauses_in (popped fs))) (sym parts.2)
    (rw (top_is parts.0 parts.1, all_but_last parts.0 parts.1) none)
