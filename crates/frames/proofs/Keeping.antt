-- The fields belong together after each command.
use Rattle.std.proofs.Common.{◌≡◌, ◌≢◌, ℕ, suc, ◌+◌, ◌-◌, ◌≤◌, Bool, true, false, List, [], ◌∷◌, ◌++◌, length, take, drop, Option, Some, None, refl, sym, ap, ap₂, subst, ◌∙◌, arith, length-append}
use Rattle.std.specs.Prelude.{◌==◌, if◌then◌else◌, is_some, ℤ, IfSome, MatchOption}
use Rattle.std.specs.List.{AllByRecursion}
use Rattle.std.proofs.lemmas.Bool.{ne_eqb, eqb-true}
use Rattle.std.proofs.lemmas.List.{length-take-le}
use Rattle.prefix.specs.Literal.{Literal}
use Rattle.prefix.specs.Scopes.{Scope, level_of}
use Rattle.truth.specs.Truth.{assumed_value}
use Rattle.calculus.specs.Rows.{Row, IsRow}
use Rattle.versions.specs.declared.version.Version.{Version}
use Rattle.versions.specs.declared.version.Version.TheVariants.{One}
use Rattle.frames.specs.declared.frames.Latest.{Latest}
use Rattle.frames.specs.declared.frames.Latest.TheVariants.{Other, LeftOut, Kept}
use Rattle.frames.specs.declared.frames.Start.{Start}
use Rattle.prefix.specs.Scopes.{IsAscending}
use Rattle.calculus.specs.Rows.{variables_in}
use Rattle.calculus.proofs.Lists.{all_more, all_taken}
use Rattle.clauses.specs.Clause.{as_row}
use Rattle.frames.specs.State.{Frame, OpenFormula, put_assumption, settled, pushed, popped, depth, top_variables, with_row, with_leaving, with_variable, leaves_in, without_variables, without_assumed}
use Rattle.frames.specs.Commands.{Pop, formula_after, max_pushed, with_row_at}
use Rattle.frames.specs.Groups.{Group}
use Rattle.frames.specs.Kept.{at_first, AreStarts, AreFrames, AreAssumptions, formula_of, state_of, frames_from, outside, rows_before, rows_with}
use Rattle.frames.specs.Places.{GroupsState, joined, with_joined, without_last}
use Rattle.frames.specs.Leaving.{AreLeaving, NamesNone}
use Rattle.frames.proofs.Starts.{frame, starts_more, starts_pushed, starts_popped, all_but_last, frames_clauses, frames_popped, frames_pushed, frames_with_leaving, frames_with_row, last_frame, depth_is}
use Rattle.frames.proofs.Grouping.{joined_back}
use Rattle.frames.proofs.Knowing.{rows_kept}
use Rattle.frames.proofs.Leaving.{below_top, leave_back, leave_popped, leave_pushed, leave_row, leave_variable, rows_left, top_is}
use Rattle.frames.proofs.Assuming.{put_again}

-- where so many rows and variables stand
abbrev pub ending : List Row → List ℕ → Start
ending rows vars = record { rows = length rows; vars = length vars }

pub grown : (old new : List Scope) (starts : List Start) (rows : List Row) (vars : List ℕ) (latest : Latest)
    → ((v : ℕ) → is_some (level_of old v) ≡ true → is_some (level_of new v) ≡ true)
    → AreFrames old starts rows vars latest → AreFrames new starts rows vars Other
grown old new starts rows vars latest h f = record {
  ascending = f.ascending;
  few_frames = f.few_frames;
  rows = rows_kept old new rows h f.rows;
  latest = tt;
}

pub settled_frames : (scopes : List Scope) (starts : List Start) (rows : List Row) (vars : List ℕ)
    (latest : Latest) → AreFrames scopes starts rows vars latest → AreFrames scopes starts rows vars Other
settled_frames scopes starts rows vars latest f = grown scopes scopes starts rows vars latest (λ v e. e) f

pub left_out : (scopes : List Scope) (starts : List Start) (rows : List Row) (vars : List ℕ) (latest : Latest)
    → AreFrames scopes starts rows vars latest → AreFrames scopes starts rows vars LeftOut
left_out scopes starts rows vars latest f = record {
  ascending = f.ascending;
  few_frames = f.few_frames;
  rows = f.rows;
  latest = tt;
}

-- a variable

if_leaves : (version : Version) (starts : List Start) (rows : List Row) (vars : List ℕ) (v : ℕ) (b : Bool)
    → AreStarts at_first starts (ending rows vars)
    → frames_from at_first starts rows (if b then vars ++ v ∷ [] else vars)
    ≡ (if b then with_leaving v (frames_from at_first starts rows vars) else frames_from at_first starts rows vars)
if_leaves version starts rows vars v true a = frames_with_leaving at_first starts (ending rows vars) rows vars v
    (omega arith) a
if_leaves version starts rows vars v false a = refl

module _ (version : Version) (old new : List Scope) (starts : List Start) (rows : List Row) (vars more : List ℕ)
    (latest : Latest) (v : ℕ)
    (is : more ≡ (if leaves_in version (length starts) then vars ++ v ∷ [] else vars))
    (f : AreFrames old starts rows vars latest) where
  longer : (b : Bool) → length vars ≤ length (if b then vars ++ v ∷ [] else vars)
  longer true = let count : length (vars ++ v ∷ [])
      ≡ length vars + 1 = length-append vars (v ∷ []) in omega (arith, count)
  longer false = omega arith

  pub listed_frames : ((w : ℕ) → is_some (level_of old w) ≡ true → is_some (level_of new w) ≡ true)
      → AreFrames new starts rows more Other
  listed_frames h = record {
    ascending = starts_more at_first starts (ending rows vars) (ending rows more) (omega arith)
        (subst (λ (vs : List ℕ). length vars ≤ length vs) (sym is) (longer (leaves_in version (length starts))))
        f.ascending;
    few_frames = f.few_frames;
    rows = rows_kept old new rows h f.rows;
    latest = tt;
  }

  pub frames_listed : frames_from at_first starts rows more
      ≡ with_variable version v (frames_from at_first starts rows vars)
  frames_listed =
      ap (frames_from at_first starts rows) is
      ∙ if_leaves version starts rows vars v (leaves_in version (length starts)) f.ascending
      ∙ ap (λ m. if leaves_in version m then with_leaving v (frames_from at_first starts rows vars) else frames_from
      at_first starts rows vars) (sym (depth_is at_first starts rows vars))

  pub listed_leaving : is_some (level_of old v) ≡ false → is_some (level_of new v) ≡ true
      → ((w : ℕ) → is_some (level_of old w) ≡ true → is_some (level_of new w) ≡ true)
      → AreLeaving version old (frames_from at_first starts rows vars)
      → AreLeaving version new (frames_from at_first starts rows more)
  listed_leaving free there kept are = subst (AreLeaving version new) (sym frames_listed)
      (leave_variable version old new v (frames_from at_first starts rows vars) free there kept
      (subst (AllByRecursion (IsRow old)) (sym (frames_clauses at_first starts rows vars)) f.rows) are)

-- a frame more

module _ (version : Version) (scopes : List Scope) (starts : List Start) (rows : List Row) (vars : List ℕ)
    (latest : Latest) (m : Start) (is : m.rows ≡ length rows) (same : m.vars ≡ length vars)
    (f : AreFrames scopes starts rows vars latest) where
  ends : AreStarts at_first starts m
  ends = starts_more at_first starts (ending rows vars) m (omega (arith, is)) (omega (arith, same)) f.ascending

  pub pushed_frames : length starts ≢ 65536 → AreFrames scopes (starts ++ m ∷ []) rows vars Other
  pushed_frames few =
      let count : length (starts ++ m ∷ []) ≡ length starts + 1 = length-append starts (m ∷ []) in
      let most : length starts ≤ 65536 = f.few_frames in
      let fits : length (starts ++ m ∷ []) ≤ 65536 = omega (arith, count, most, few) in
      record {
        ascending = starts_more at_first (starts ++ m ∷ []) m (ending rows vars) (omega (arith, is))
            (omega (arith, same)) (starts_pushed at_first starts m ends);
        few_frames = fits;
        rows = f.rows;
        latest = tt;
      }

  pub view_pushed : frames_from at_first (starts ++ m ∷ []) rows vars ≡ pushed (frames_from at_first starts rows vars)
  view_pushed = frames_pushed starts rows vars m is same ends

  pub pushed_leaving : AreLeaving version scopes (frames_from at_first starts rows vars)
      → AreLeaving version scopes (frames_from at_first (starts ++ m ∷ []) rows vars)
  pushed_leaving are = subst (AreLeaving version scopes) (sym view_pushed)
      (leave_pushed version scopes (frames_from at_first starts rows vars) are)

-- rows less

-- rows are cut at a place up to which the starts ascend
cut_frames : (scopes : List Scope) (starts : List Start) (rows : List Row) (vars : List ℕ) (k : ℕ) → k ≤ length rows
    → AreStarts at_first starts (record { rows = k; vars = length vars }) → length starts ≤ 65536
    → AllByRecursion (IsRow scopes) (take k rows) → AreFrames scopes starts (take k rows) vars Other
cut_frames scopes starts rows vars k low ascend few all =
    let long : length (take k rows) ≡ k = length-take-le k rows low in
    record {
      ascending = starts_more at_first starts (record { rows = k; vars = length vars }) (ending (take k rows) vars)
          (omega (arith, long)) (omega arith) ascend;
      few_frames = few;
      rows = all;
      latest = tt;
    }

-- a frame less

module _ (version : Version) (scopes : List Scope) (starts news : List Start) (rows : List Row) (vars : List ℕ)
    (latest : Latest) (s : Start) (e : starts ≡ news ++ s ∷ [])
    (f : AreFrames scopes starts rows vars latest) where
  pub popped_place : AreStarts at_first news s × (s.rows ≤ length rows) × (s.vars ≤ length vars)
  popped_place = starts_popped at_first news s (ending rows vars)
      (subst (λ ss. AreStarts at_first ss (ending rows vars)) e f.ascending)

  abbrev gone : List ℕ
  gone = drop s.vars vars

  abbrev below : List Frame
  below = frames_from at_first news (take s.rows rows) (take s.vars vars)

  abbrev top : Frame
  top = frame (drop s.rows rows) (drop s.vars vars)

  split : frames_from at_first starts rows vars ≡ below ++ top ∷ []
  split = ap (λ ss. frames_from at_first ss rows vars) e ∙ last_frame news s rows vars popped_place.0

  top_gone : top_variables (frames_from at_first starts rows vars) ≡ gone
  top_gone = ap top_variables split ∙ top_is below top

  module _ (are : AreLeaving version scopes (frames_from at_first starts rows vars)) where
    parts : AreLeaving version scopes (below ++ top ∷ [])
    parts = subst (AreLeaving version scopes) split are

    names : AllByRecursion (NamesNone gone) (take s.rows rows)
    names = subst (AllByRecursion (NamesNone gone))
        (frames_clauses at_first news (take s.rows rows) (take s.vars vars)) (below_top below top parts.outlast)

    pub popped_frames : (left : List Row) (stay : List ℕ) → left ≡ take s.rows rows → stay ≡ take s.vars vars
        → AreFrames (without_variables gone scopes) news left stay Other
    popped_frames left stay cut short =
        let count : length starts ≡ length news + 1 = ap length e ∙ length-append news (s ∷ []) in
        let most : length starts ≤ 65536 = f.few_frames in
        let long : length (take s.vars vars) ≡ s.vars = length-take-le s.vars vars popped_place.2 in
        rw (cut, short) (cut_frames (without_variables gone scopes) news rows (take s.vars vars) s.rows
        popped_place.1
        (starts_more at_first news s (record { rows = s.rows; vars = length (take s.vars vars) }) (omega arith)
        (omega (arith, long)) popped_place.0)
        (omega (arith, count, most))
        (rows_left gone scopes (take s.rows rows) names (all_taken (IsRow scopes) s.rows rows f.rows)))

    pub popped_leaving : (left : List Row) (stay : List ℕ) → left ≡ take s.rows rows → stay ≡ take s.vars vars
        → AreLeaving version (without_variables gone scopes) (frames_from at_first news left stay)
    popped_leaving left stay cut short = rw (cut, short) (leave_popped version scopes below top parts)

  pub view_popped : (left : List Row) (stay : List ℕ) (gs : GroupsState) (ls : List Literal) → left ≡ take s.rows rows
      → stay ≡ take s.vars vars
      → state_of version (without_variables gone scopes) news left stay gs (without_assumed gone ls) Other
      ≡ settled (formula_after (formula_of version scopes starts rows vars gs ls) Pop)
  view_popped left stay gs ls cut short =
      ap₂ (λ (vs : List ℕ) (fs : List Frame). settled
      (record {
        version = version;
        scopes = without_variables vs scopes;
        frames = fs;
        groups = gs.groups;
        current = gs.current;
        assumptions =
            without_assumed vs ls;
      }))
      (sym top_gone)
      (ap₂ (frames_from at_first news) cut short ∙ frames_popped news s rows vars popped_place.0
      ∙ ap (λ ss. popped (frames_from at_first ss rows vars)) (sym e))

pub depth_above : (starts news : List Start) (rows : List Row) (vars : List ℕ) (s : Start) → starts ≡ news ++ s ∷ []
    → (depth (frames_from at_first starts rows vars) == 0) ≡ false
depth_above starts news rows vars s e =
    let count : length starts ≡ length news + 1 = ap length e ∙ length-append news (s ∷ []) in
    ne_eqb (depth (frames_from at_first starts rows vars)) 0
    (λ q. omega (arith, count, q, depth_is at_first starts rows vars))

pub depth_short : (starts : List Start) (rows : List Row) (vars : List ℕ) → length starts ≢ 65536
    → (depth (frames_from at_first starts rows vars) == max_pushed) ≡ false
depth_short starts rows vars few = ne_eqb (depth (frames_from at_first starts rows vars)) 65536
    (λ q. few (sym (depth_is at_first starts rows vars) ∙ q))

pub none_there : (ls : List Literal) → (length ls == 0) ≡ true → ls ≡ []
none_there [] t = refl
none_there (l ∷ ls) t = let zero_is : length (l ∷ ls)
    ≡ 0 = eqb-true (length (l ∷ ls)) 0 t in absurd (omega (arith, zero_is))

pub view_again : (formula : OpenFormula) (ls : List Literal) (l : Literal) (b : Bool) → IsAscending (variables_in ls)
    → assumed_value ls l.variable ≡ Some b
    → settled (record formula { assumptions = ls }) ≡ settled (record formula { assumptions = put_assumption l ls })
view_again formula ls l b a e = ap (λ ms. settled (record formula { assumptions = ms })) (sym (put_again l ls b a e))

-- a row more

-- the formula with a row more: of the open group, or else behind the rows outside groups
with_row_is : (version : Version) (scopes : List Scope) (starts : List Start) (rows : List Row) (vars : List ℕ)
    (gs : List Group) (current : Option ℕ) (ls : List Literal) (r : Row)
    → AreStarts at_first starts (ending rows vars)
    → formula_of version scopes starts (rows_with current r rows) vars (record {
      groups = joined current r gs;
      current = current;
    }) ls
    ≡ with_row_at current r (formula_of version scopes starts rows vars (record {
      groups = gs;
      current = current;
    }) ls)
with_row_is version scopes starts rows vars gs None ls r a = ap (λ (fs : List Frame). record {
  version = version;
  scopes = scopes;
  frames = fs;
  groups = gs;
  current = None;
  assumptions = ls;
}) (frames_with_row at_first starts (ending rows vars) rows vars r (omega arith) a)
with_row_is version scopes starts rows vars gs (Some n) ls r a = refl

-- the formula has a row more than before, where this is the last one of the open group, or of those outside groups
pub last_formula : (version : Version) (scopes : List Scope) (starts : List Start) (rows : List Row) (vars : List ℕ)
    (gs : GroupsState) (ls : List Literal) (r : Row) → rows ≡ rows_with gs.current r (rows_before gs.current rows)
    → gs ≡ with_joined r (without_last gs) → AreStarts at_first starts (ending (rows_before gs.current rows) vars)
    → formula_of version scopes starts rows vars gs ls
    ≡ with_row_at gs.current r
    (formula_of version scopes starts (rows_before gs.current rows) vars (without_last gs) ls)
last_formula version scopes starts rows vars gs ls r e g a =
    ap₂ (λ (rs : List Row) (s : GroupsState). formula_of version scopes starts rs vars s ls) e g
    ∙ with_row_is version scopes starts (rows_before gs.current rows) vars (without_last gs).groups gs.current ls r a

pub starts_before : (scopes : List Scope) (starts : List Start) (rows : List Row) (vars : List ℕ) (current : Option ℕ)
    → AreFrames scopes starts rows vars (outside Kept current)
    → AreStarts at_first starts (ending (rows_before current rows) vars)
starts_before scopes starts rows vars None f =
    let some : 1 ≤ length rows = f.latest.0 in
    let long : length (take (length rows - 1) rows) ≡ length rows - 1 =
    length-take-le (length rows - 1) rows (omega (arith, some)) in
    rw long f.latest.1
starts_before scopes starts rows vars (Some n) f = f.ascending

-- what is told of the last row of a formula, with the formula before it
pub told_last : {A : Type 0} (now : A → Row) (o : Option A) (f b before : OpenFormula) → (o ≡ None → ⊥)
    → IfSome o (λ (x : A). f ≡ with_row_at b.current (now x) b) → Some b ≡ Some before
    → MatchOption o (f ≡ before) (λ (x : A). f ≡ with_row_at before.current (now x) before)
told_last now None f b before some is e = absurd (some refl)
told_last now (Some x) f b before some is e =
    let same : b ≡ before = cc in subst (λ (g : OpenFormula). f ≡ with_row_at g.current (now x) g) same is

pub if_plain : (t : Bool) (clause : List ℤ) (s : OpenFormula) → t ≡ false
    → with_row_at s.current (as_row clause) s ≡ (if t then s else with_row_at s.current (as_row clause) s)
if_plain true clause s e = absurd (cc)
if_plain false clause s e = refl

-- the row is the last one
row_back : (current : Option ℕ) (r : Row) (rows : List Row) → rows_before current (rows_with current r rows) ≡ rows
row_back None r rows = all_but_last rows r
row_back (Some n) r rows = refl

pub view_put : (version : Version) (scopes : List Scope) (starts : List Start) (rows more : List Row) (vars : List ℕ)
    (gs news : GroupsState) (ls : List Literal) (row : Row) → more ≡ rows_with gs.current row rows
    → news ≡ with_joined row gs → AreStarts at_first starts (ending rows vars)
    → state_of version scopes starts more vars news ls Kept ≡ record {
      formula = with_row_at gs.current row (formula_of version scopes starts rows vars gs ls);
      before = Some (formula_of version scopes starts rows vars gs ls);
    }
view_put version scopes starts rows more vars gs news ls row e g a =
    ap₂ (λ (rs : List Row) (s : GroupsState). state_of version scopes starts rs vars s ls Kept) e g
    ∙ ap₂ (λ (f b : OpenFormula). record { formula = f; before = Some b })
    (with_row_is version scopes starts rows vars gs.groups gs.current ls row a)
    (ap₂ (λ (rs : List Row) (hs : List Group). formula_of version scopes starts rs vars (record {
      groups = hs;
      current = gs.current;
    }) ls) (row_back gs.current row rows) (joined_back gs.current row gs.groups))

added_leaving : (version : Version) (scopes : List Scope) (starts : List Start) (rows : List Row) (vars : List ℕ)
    (r : Row) → AreStarts at_first starts (ending rows vars)
    → AreLeaving version scopes (frames_from at_first starts rows vars)
    → AreLeaving version scopes (frames_from at_first starts (rows ++ r ∷ []) vars)
added_leaving version scopes starts rows vars r a are =
    subst (AreLeaving version scopes) (sym (frames_with_row at_first starts (ending rows vars) rows vars r
    (omega arith) a)) (leave_row version scopes r (frames_from at_first starts rows vars) are)

last_of : (rows : List Row) (k : ℕ) → k + 1 ≡ length rows → (r : Row) × (rows ≡ take k rows ++ r ∷ [])
last_of [] k e = absurd (omega (arith, e))
last_of (r ∷ []) k e = let none : k ≡ 0 = omega (arith, e) in (r, ap (λ m. take m (r ∷ []) ++ r ∷ []) (sym none))
last_of (r ∷ s ∷ rows) k e =
    let less : (k - 1) + 1 ≡ length (s ∷ rows) = omega (arith, e) in
    let is : suc (k - 1) ≡ k = omega (arith, e) in
    let rest = last_of (s ∷ rows) (k - 1) less in
    (rest.0, ap (λ xs. r ∷ xs) rest.1 ∙ ap (λ m. take m (r ∷ s ∷ rows) ++ rest.0 ∷ []) is)

module _ (version : Version) (scopes : List Scope) (starts : List Start) (rows left : List Row) (vars : List ℕ)
    (k : ℕ) (one : k + 1 ≡ length rows) (cut : left ≡ take k rows)
    (f : AreFrames scopes starts rows vars Kept) where
  back_starts : AreStarts at_first starts (record { rows = k; vars = length vars })
  back_starts =
      let same : k ≡ length rows - 1 = omega (arith, one) in
      rw same f.latest.1

  cut_back : AreFrames scopes starts left vars Other
  cut_back = rw cut (cut_frames scopes starts rows vars k (omega (arith, one)) back_starts f.few_frames
      (all_taken (IsRow scopes) k rows f.rows))

  cut_leaving : AreLeaving version scopes (frames_from at_first starts rows vars)
      → AreLeaving version scopes (frames_from at_first starts left vars)
  cut_leaving are =
      let last = last_of rows k one in
      let long : length (take k rows) ≡ k = length-take-le k rows (omega (arith, one)) in
      let with : frames_from at_first starts rows vars
      ≡ with_row last.0 (frames_from at_first starts (take k rows) vars) =
      ap (λ rs. frames_from at_first starts rs vars) last.1
      ∙ frames_with_row at_first starts (record { rows = k; vars = length vars }) (take k rows) vars last.0
      (omega (arith, long)) back_starts in
      rw cut (leave_back version scopes last.0 (frames_from at_first starts (take k rows) vars)
      (subst (AreLeaving version scopes) with are))

-- a row is taken out of the open group, or else of those outside groups
pub taken_frames : (scopes : List Scope) (starts : List Start) (rows left : List Row) (vars : List ℕ)
    (current : Option ℕ) → left ≡ rows_before current rows → AreFrames scopes starts rows vars (outside Kept current)
    → AreFrames scopes starts left vars Other
taken_frames scopes starts rows left vars None e f =
    let some : 1 ≤ length rows = f.latest.0 in
    cut_back One scopes starts rows left vars (length rows - 1) (omega (arith, some)) e f
taken_frames scopes starts rows left vars (Some n) e f = rw e f

pub taken_leaving : (version : Version) (scopes : List Scope) (starts : List Start) (rows left : List Row)
    (vars : List ℕ) (current : Option ℕ) → left ≡ rows_before current rows
    → AreFrames scopes starts rows vars (outside Kept current)
    → AreLeaving version scopes (frames_from at_first starts rows vars)
    → AreLeaving version scopes (frames_from at_first starts left vars)
taken_leaving version scopes starts rows left vars None e f are =
    let some : 1 ≤ length rows = f.latest.0 in
    cut_leaving version scopes starts rows left vars (length rows - 1) (omega (arith, some)) e f are
taken_leaving version scopes starts rows left vars (Some n) e f are = rw e are

added_row : (scopes : List Scope) (starts : List Start) (rows : List Row) (vars : List ℕ) (latest : Latest) (r : Row)
    → IsRow scopes r → AreFrames scopes starts rows vars latest → AreFrames scopes starts (rows ++ r ∷ []) vars Kept
added_row scopes starts rows vars latest r row f =
    let count : length (rows ++ r ∷ []) ≡ length rows + 1 = length-append rows (r ∷ []) in
    let back : length (rows ++ r ∷ []) - 1 ≡ length rows = omega (arith, count) in
    let some : 1 ≤ length (rows ++ r ∷ []) = omega (arith, count) in
    record {
      ascending = starts_more at_first starts (ending rows vars) (ending (rows ++ r ∷ []) vars) (omega (arith, count))
          (omega arith) f.ascending;
      few_frames = f.few_frames;
      rows = all_more (IsRow scopes) rows r f.rows row;
      latest = (
        some,
        starts_more at_first starts (ending rows vars)
            (record { rows = length (rows ++ r ∷ []) - 1; vars = length vars }) (omega (arith, back)) (omega arith)
            f.ascending,
      );
    }

-- a row is put into the open group, or else behind those outside groups
pub put_frames : (scopes : List Scope) (starts : List Start) (rows more : List Row) (vars : List ℕ) (latest : Latest)
    (r : Row) (current : Option ℕ) → more ≡ rows_with current r rows → IsRow scopes r
    → AreFrames scopes starts rows vars latest → AreFrames scopes starts more vars (outside Kept current)
put_frames scopes starts rows more vars latest r None e row f = rw e (added_row scopes starts rows vars latest r row f)
put_frames scopes starts rows more vars latest r (Some n) e row f =
    rw e (settled_frames scopes starts rows vars latest f)

pub put_leaving : (version : Version) (scopes : List Scope) (starts : List Start) (rows more : List Row)
    (vars : List ℕ) (r : Row) (current : Option ℕ) → more ≡ rows_with current r rows
    → AreStarts at_first starts (ending rows vars)
    → AreLeaving version scopes (frames_from at_first starts rows vars)
    → AreLeaving version scopes (frames_from at_first starts more vars)
put_leaving version scopes starts rows more vars r None e a are =
    rw e (added_leaving version scopes starts rows vars r a are)
put_leaving version scopes starts rows more vars r (Some n) e a are = rw e are

pub none_assumed : (new : List Scope) (ls : List Literal) → ls ≡ [] → AreAssumptions new ls
none_assumed new [] e = tt
none_assumed new (l ∷ ls) e = absurd (cc)
