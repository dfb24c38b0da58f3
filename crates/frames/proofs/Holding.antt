-- Groups and counts belong with the other fields after each command.
use Rattle.std.proofs.Common.{◌≡◌, ℕ, ◌+◌, ◌-◌, ◌<◌, ◌≤◌, Bool, true, false, List, [], ◌∷◌, ◌++◌, length, take, drop, Option, Some, None, refl, sym, ap, ap₂, ◌∙◌, subst, arith, length-append}
use Rattle.std.specs.Prelude.{◌==◌, ◌||◌, if◌then◌else◌, IsSome, is_some, nat_le, nat_lt, option_map, unwrap_or}
use Rattle.std.specs.List.{AllByRecursion}
use Rattle.std.proofs.lemmas.Bool.{cond-true, cond-false, eq-eqb, eqb-true, ltb-false, leb-false}
use Rattle.std.proofs.lemmas.List.{take-append-drop}
use Rattle.prefix.specs.Scopes.{Scope, level_of}
use Rattle.calculus.specs.Rows.{Row, IsRow}
use Rattle.calculus.proofs.Lists.{all_map}
use Rattle.versions.specs.declared.version.Version.{Version}
use Rattle.frames.specs.declared.frames.Latest.{Latest}
use Rattle.frames.specs.declared.frames.Latest.TheVariants.{Kept, Other}
use Rattle.frames.specs.declared.frames.Start.{Start}
use Rattle.frames.specs.declared.total.Total.{Total}
use Rattle.frames.specs.Commands.{exceeds, is_beyond}
use Rattle.truth.specs.Limits.{max_clauses, max_literals}
use Rattle.frames.specs.Groups.{Group, active_in, clauses_at, group_at, grouped_in, grown, inactive_in, is_group, with_clause_at}
use Rattle.frames.specs.Kept.{at_first, frames_from, last_in, last_vars, outside, rows_with, AreCounted, AreFrames, AreGrouped, AreStarts, IsShallow, LeavesGroup}
use Rattle.frames.specs.Leaving.{AreLeaving, FirstKeeps, NamesNone}
use Rattle.frames.specs.Places.{AreInOrder, GroupsState, joined, with_joined, without_last}
use Rattle.frames.specs.State.{clauses_in, leaves_in, literals_in, top_variables, without_variables}
use Rattle.frames.proofs.Counting.{all_joined, all_shortened, length_all, length_grown, literals_all, literals_append, literals_grown}
use Rattle.frames.proofs.Grouping.{grown_one, grown_others}
use Rattle.frames.proofs.Knowing.{rows_kept}
use Rattle.frames.proofs.Leaving.{all_nothing, names_both, names_front, names_back, new_to_rows, rows_left}
use Rattle.frames.proofs.Starts.{frames_clauses, frames_top, literals_more}

-- groups

-- where nothing changes in them, and the prefix keeps its variables
pub held : (old new : List Scope) (starts : List Start) (vars : List ℕ) (gs : GroupsState) (latest : Latest)
    → ((v : ℕ) → is_some (level_of old v) ≡ true → is_some (level_of new v) ≡ true)
    → AreGrouped old starts vars gs latest → AreGrouped new starts vars gs Other
held old new starts vars gs latest h f = record {
  rows = rows_kept old new (grouped_in gs.groups) h f.rows;
  names = f.names;
  shallow = f.shallow;
  latest = tt;
}

pub held_settled : (scopes : List Scope) (starts : List Start) (vars : List ℕ) (gs : GroupsState) (latest : Latest)
    → AreGrouped scopes starts vars gs latest → AreGrouped scopes starts vars gs Other
held_settled scopes starts vars gs latest f = held scopes scopes starts vars gs latest (λ v e. e) f

-- a variable that leaves is new to the prefix
if_names : (b : Bool) (scopes : List Scope) (vars : List ℕ) (v : ℕ) (rows : List Row)
    → is_some (level_of scopes v) ≡ false → AllByRecursion (IsRow scopes) rows
    → AllByRecursion (NamesNone vars) rows
    → AllByRecursion (NamesNone (if b then vars ++ v ∷ [] else vars)) rows
if_names true scopes vars v rows free all names = both rows names (new_to_rows scopes v rows free all)
  where
    both : (rs : List Row) → AllByRecursion (NamesNone vars) rs → AllByRecursion (NamesNone (v ∷ [])) rs
        → AllByRecursion (NamesNone (vars ++ v ∷ [])) rs
    both [] n m = tt
    both (r ∷ rs) n m = (names_both vars (v ∷ []) r n.0 m.0, both rs n.1 m.1)
if_names false scopes vars v rows free all names = names

pub held_listed : (version : Version) (old new : List Scope) (starts : List Start) (vars more : List ℕ)
    (gs : GroupsState) (latest : Latest) (v : ℕ)
    → more ≡ (if leaves_in version (length starts) then vars ++ v ∷ [] else vars)
    → is_some (level_of old v) ≡ false
    → ((w : ℕ) → is_some (level_of old w) ≡ true → is_some (level_of new w) ≡ true)
    → AreGrouped old starts vars gs latest → AreGrouped new starts more gs Other
held_listed version old new starts vars more gs latest v is free h f = record {
  rows = rows_kept old new (grouped_in gs.groups) h f.rows;
  names = subst (λ (vs : List ℕ). AllByRecursion (NamesNone vs) (grouped_in gs.groups)) (sym is)
      (if_names (leaves_in version (length starts)) old vars v (grouped_in gs.groups) free f.rows f.names);
  shallow = f.shallow;
  latest = tt;
}

-- a frame is pushed where no group is open
pub held_pushed : (scopes : List Scope) (starts more : List Start) (vars : List ℕ) (gs : GroupsState)
    (latest : Latest) → is_some gs.current ≡ false → AreGrouped scopes starts vars gs latest
    → AreGrouped scopes more vars gs Other
held_pushed scopes starts more vars gs latest none f = record {
  rows = f.rows;
  names = f.names;
  shallow = by gs.current none;
  latest = tt;
}
  where
    by : (current : Option ℕ) → is_some current ≡ false → IsShallow current more
    by None e = tt
    by (Some n) e = absurd (let f : true ≡ false = e in cc)

front_names : (vs ws : List ℕ) (rows : List Row) → AllByRecursion (NamesNone (vs ++ ws)) rows
    → AllByRecursion (NamesNone vs) rows
front_names vs ws rows names = all_map (NamesNone (vs ++ ws)) (NamesNone vs) rows (names_front vs ws) names

back_names : (vs ws : List ℕ) (rows : List Row) → AllByRecursion (NamesNone (vs ++ ws)) rows
    → AllByRecursion (NamesNone ws) rows
back_names vs ws rows names = all_map (NamesNone (vs ++ ws)) (NamesNone ws) rows (names_back vs ws) names

-- a frame is popped where one was pushed, so that no group is open
pub held_popped : (scopes : List Scope) (starts news : List Start) (s : Start) (vars stay : List ℕ)
    (gs : GroupsState) (latest : Latest) → starts ≡ news ++ s ∷ [] → stay ≡ take s.vars vars
    → AreGrouped scopes starts vars gs latest
    → AreGrouped (without_variables (drop s.vars vars) scopes) news stay gs Other
held_popped scopes starts news s vars stay gs latest e short f =
    let parts = take-append-drop s.vars vars in
    let names = subst (λ (vs : List ℕ). AllByRecursion (NamesNone vs) (grouped_in gs.groups)) (sym parts) f.names in
    record {
      rows = rows_left (drop s.vars vars) scopes (grouped_in gs.groups)
          (back_names (take s.vars vars) (drop s.vars vars) (grouped_in gs.groups) names) f.rows;
      names = subst (λ (vs : List ℕ). AllByRecursion (NamesNone vs) (grouped_in gs.groups)) (sym short)
          (front_names (take s.vars vars) (drop s.vars vars) (grouped_in gs.groups) names);
      shallow = by gs.current f.shallow;
      latest = tt;
    }
  where
    longer : (news : List Start) → news ++ s ∷ [] ≡ [] → ⊥
    longer [] c = absurd (let d : s ∷ [] ≡ [] = c in cc)
    longer (n ∷ ns) c = absurd (let d : n ∷ (ns ++ s ∷ []) ≡ [] = c in cc)

    by : (current : Option ℕ) → IsShallow current starts → IsShallow current news
    by None c = tt
    by (Some n) c = absurd (longer news (sym e ∙ c))

-- where no frame is pushed no variable leaves
pub none_leaves : (version : Version) (scopes : List Scope) (starts : List Start) (rows : List Row) (vars : List ℕ)
    → starts ≡ [] → AreLeaving version scopes (frames_from at_first starts rows vars) → vars ≡ []
none_leaves version scopes starts rows vars e are =
    subst (λ (ss : List Start). FirstKeeps (frames_from at_first ss rows vars)) e are.first

one_more : (n : ℕ) (row : Row) (gs : List Group) → is_group gs n ≡ true
    → 1 ≤ length (clauses_at (with_clause_at row n gs) n)
one_more n row [] e = absurd (let f : false ≡ true = e in cc)
one_more n row (g ∷ gs) e = by (g.number == n) refl e (λ f. one_more n row gs f)
  where
    by : (b : Bool) → (g.number == n) ≡ b → is_some (if b then Some g else group_at gs n) ≡ true
        → (is_group gs n ≡ true → 1 ≤ length (clauses_at (with_clause_at row n gs) n))
        → 1 ≤ length (clauses_at (with_clause_at row n (g ∷ gs)) n)
    by true f there later =
        let is : g.number ≡ n = eqb-true g.number n f in
        let at : group_at (with_clause_at row n (g ∷ gs)) n ≡ Some (record g { clauses = g.clauses ++ row ∷ [] }) =
        ap (λ (h : Group). if h.number == n then Some h else group_at (with_clause_at row n gs) n)
        (grown_one row n g is)
        ∙ cond-true (g.number == n) (Some (record g { clauses = g.clauses ++ row ∷ [] }))
        (group_at (with_clause_at row n gs) n) f in
        let long : length (g.clauses ++ row ∷ []) ≡ length g.clauses + 1 = length-append g.clauses (row ∷ []) in
        subst (λ (o : Option Group). 1 ≤ length (unwrap_or (option_map (λ (h : Group). h.clauses) o) [])) (sym at)
        (omega (arith, long))
    by false f there later =
        let same : grown row n g ≡ g = grown_others row n g
        (λ c. absurd (let d : true ≡ false = sym (eq-eqb g.number n c) ∙ f in cc)) in
        let at : group_at (with_clause_at row n (g ∷ gs)) n ≡ group_at (with_clause_at row n gs) n =
        ap (λ (h : Group). if h.number == n then Some h else group_at (with_clause_at row n gs) n) same
        ∙ cond-false (g.number == n) (Some g) (group_at (with_clause_at row n gs) n) f in
        subst (λ (o : Option Group). 1 ≤ length (unwrap_or (option_map (λ (h : Group). h.clauses) o) [])) (sym at)
        (later there)

-- a row is put into the open group, or else outside groups
pub held_put : (version : Version) (scopes : List Scope) (starts : List Start) (rows : List Row) (vars : List ℕ)
    (gs : GroupsState) (latest : Latest) (row : Row) → IsRow scopes row → AreInOrder gs
    → AreLeaving version scopes (frames_from at_first starts rows vars)
    → AreGrouped scopes starts vars gs latest → AreGrouped scopes starts vars (with_joined row gs) Kept
held_put version scopes starts rows vars gs latest row is order are f = record {
  rows = all_joined (IsRow scopes) gs.current row gs.groups f.rows is;
  names = names gs.current f.shallow f.names;
  shallow = f.shallow;
  latest = last gs.current order.there;
}
  where
    names : (current : Option ℕ) → IsShallow current starts → AllByRecursion (NamesNone vars) (grouped_in gs.groups)
        → AllByRecursion (NamesNone vars) (grouped_in (joined current row gs.groups))
    names None shallow all = all
    names (Some n) shallow all =
        subst (λ (vs : List ℕ). AllByRecursion (NamesNone vs) (grouped_in (joined (Some n) row gs.groups)))
        (sym (none_leaves version scopes starts rows vars shallow are))
        (all_nothing (grouped_in (joined (Some n) row gs.groups)))

    last : (current : Option ℕ) → ((n : ℕ) → current ≡ Some n → is_group gs.groups n ≡ true)
        → LeavesGroup Kept current (joined current row gs.groups)
    last None there = tt
    last (Some n) there = one_more n row gs.groups (there n refl)

pub held_taken : (scopes : List Scope) (starts : List Start) (vars : List ℕ) (gs : GroupsState) (latest : Latest)
    → AreGrouped scopes starts vars gs latest → AreGrouped scopes starts vars (without_last gs) Other
held_taken scopes starts vars gs latest f = record {
  rows = all_shortened (IsRow scopes) gs.current gs.groups f.rows;
  names = all_shortened (NamesNone vars) gs.current gs.groups f.names;
  shallow = f.shallow;
  latest = tt;
}

-- another list of groups with the same clauses, and another group open or none
pub held_turned : (scopes : List Scope) (starts : List Start) (vars : List ℕ) (gs : GroupsState) (latest : Latest)
    (groups : List Group) (current : Option ℕ) → grouped_in groups ≡ grouped_in gs.groups → IsShallow current starts
    → AreGrouped scopes starts vars gs latest
    → AreGrouped scopes starts vars (record { groups = groups; current = current }) Other
held_turned scopes starts vars gs latest groups current same shallow f = record {
  rows = subst (AllByRecursion (IsRow scopes)) (sym same) f.rows;
  names = subst (AllByRecursion (NamesNone vars)) (sym same) f.names;
  shallow = shallow;
  latest = tt;
}

-- the variables of the top frame
pub held_top : (scopes : List Scope) (starts : List Start) (end : Start) (rows : List Row) (vars : List ℕ)
    (gs : GroupsState) (latest : Latest) → AreStarts at_first starts end → AreGrouped scopes starts vars gs latest
    → AllByRecursion (NamesNone (top_variables (frames_from at_first starts rows vars))) (grouped_in gs.groups)
held_top scopes starts end rows vars gs latest a f =
    subst (λ (vs : List ℕ). AllByRecursion (NamesNone vs) (grouped_in gs.groups))
    (sym (frames_top at_first starts end rows vars a))
    (back_names (take (last_vars starts - 0) vars) (drop (last_vars starts - 0) vars) (grouped_in gs.groups)
    (subst (λ (vs : List ℕ). AllByRecursion (NamesNone vs) (grouped_in gs.groups))
    (sym (take-append-drop (last_vars starts - 0) vars)) f.names))

-- the last row of the open group, or else of those outside groups, is there
pub last_there : (scopes : List Scope) (starts : List Start) (rows : List Row) (vars : List ℕ) (gs : GroupsState)
    → AreFrames scopes starts rows vars (outside Kept gs.current) → AreGrouped scopes starts vars gs Kept
    → 1 ≤ length (last_in gs.current rows gs.groups)
last_there scopes starts rows vars gs f h = by gs.current f h.latest
  where
    by : (current : Option ℕ) → AreFrames scopes starts rows vars (outside Kept current)
        → LeavesGroup Kept current gs.groups → 1 ≤ length (last_in current rows gs.groups)
    by None g last = g.latest.0
    by (Some n) g last = last

-- no frame is pushed while a group is open
pub flat_where : (current : Option ℕ) (starts : List Start) → IsShallow current starts → IsSome current
    → length starts ≡ 0
flat_where None starts shallow some = absurd (let f : false ≡ true = some in cc)
flat_where (Some n) starts shallow some = ap (λ (ss : List Start). length ss) shallow

-- counts

literals_taken : (rows : List Row) (k : ℕ) → literals_in (take k rows) ≤ literals_in rows
literals_taken rows k =
    let whole : literals_in rows ≡ literals_in (take k rows) + literals_in (drop k rows) =
    ap literals_in (sym (take-append-drop k rows)) ∙ literals_append (take k rows) (drop k rows) in
    omega (arith, whole)

length_taken : (rows : List Row) (k : ℕ) → length (take k rows) ≤ length rows
length_taken rows k =
    let whole : length rows ≡ length (take k rows) + length (drop k rows) =
    ap (λ (xs : List Row). length xs) (sym (take-append-drop k rows)) ∙ length-append (take k rows) (drop k rows) in
    omega (arith, whole)

-- rows outside groups are cut
pub counted_cut : (old new : Total) (rows left others : List Row) (k : ℕ) → left ≡ take k rows
    → new.clauses + length rows ≡ old.clauses + length left
    → new.literals + literals_in rows ≡ old.literals + literals_in left
    → AreCounted old (rows ++ others) → AreCounted new (left ++ others)
counted_cut old new rows left others k cut clauses literals f =
    let less : length left ≤ length rows = rw cut (length_taken rows k) in
    let fewer : literals_in left ≤ literals_in rows = rw cut (literals_taken rows k) in
    let long : length (rows ++ others) ≡ length rows + length others = length-append rows others in
    let short : length (left ++ others) ≡ length left + length others = length-append left others in
    let all : literals_in (rows ++ others) ≡ literals_in rows + literals_in others = literals_append rows others in
    let rest : literals_in (left ++ others) ≡ literals_in left + literals_in others = literals_append left others in
    let c : old.clauses ≡ length (rows ++ others) = f.counted.clauses in
    let l : old.literals ≡ literals_in (rows ++ others) = f.counted.literals in
    let few : length (rows ++ others) ≤ max_clauses = f.few_clauses in
    let most : literals_in (rows ++ others) ≤ max_literals = f.few_literals in
    record {
      counted = record {
        clauses = omega (arith, clauses, c, long, short);
        literals = omega (arith, literals, l, all, rest);
      };
      few_clauses = omega (arith, less, long, short, few);
      few_literals = omega (arith, fewer, all, rest, most);
    }

-- one row more, in the open group or outside groups
lengths_with : (current : Option ℕ) (row : Row) (rows : List Row) (gs : GroupsState) → gs.current ≡ current
    → AreInOrder gs
    → (length (rows_with current row rows ++ grouped_in (joined current row gs.groups))
    ≡ length (rows ++ grouped_in gs.groups) + 1)
    × (literals_in (rows_with current row rows ++ grouped_in (joined current row gs.groups))
    ≡ literals_in (rows ++ grouped_in gs.groups) + length row)
lengths_with None row rows gs e order =
    let one : length ((rows ++ row ∷ []) ++ grouped_in gs.groups)
    ≡ length (rows ++ row ∷ []) + length (grouped_in gs.groups) =
    length-append (rows ++ row ∷ []) (grouped_in gs.groups) in
    let two : length (rows ++ row ∷ []) ≡ length rows + 1 = length-append rows (row ∷ []) in
    let three : length (rows ++ grouped_in gs.groups) ≡ length rows + length (grouped_in gs.groups) =
    length-append rows (grouped_in gs.groups) in
    let four : literals_in ((rows ++ row ∷ []) ++ grouped_in gs.groups)
    ≡ literals_in (rows ++ row ∷ []) + literals_in (grouped_in gs.groups) =
    literals_append (rows ++ row ∷ []) (grouped_in gs.groups) in
    let five : literals_in (rows ++ row ∷ []) ≡ literals_in rows + length row = literals_more rows row in
    let six : literals_in (rows ++ grouped_in gs.groups) ≡ literals_in rows + literals_in (grouped_in gs.groups) =
    literals_append rows (grouped_in gs.groups) in
    (omega (arith, one, two, three), omega (arith, four, five, six))
lengths_with (Some n) row rows gs e order = by (group_at gs.groups n) refl (order.there n e)
  where
    by : (o : Option Group) → group_at gs.groups n ≡ o → is_some o ≡ true
        → (length (rows ++ grouped_in (with_clause_at row n gs.groups)) ≡ length (rows ++ grouped_in gs.groups) + 1)
        × (literals_in (rows ++ grouped_in (with_clause_at row n gs.groups))
        ≡ literals_in (rows ++ grouped_in gs.groups) + length row)
    by None f there = absurd (let g : false ≡ true = there in cc)
    by (Some found) f there =
        let one : length (rows ++ grouped_in (with_clause_at row n gs.groups))
        ≡ length rows + length (grouped_in (with_clause_at row n gs.groups)) =
        length-append rows (grouped_in (with_clause_at row n gs.groups)) in
        let two : length (grouped_in (with_clause_at row n gs.groups)) ≡ length (grouped_in gs.groups) + 1 =
        length_grown row n gs.groups found order.rising f in
        let three : length (rows ++ grouped_in gs.groups) ≡ length rows + length (grouped_in gs.groups) =
        length-append rows (grouped_in gs.groups) in
        let four : literals_in (rows ++ grouped_in (with_clause_at row n gs.groups))
        ≡ literals_in rows + literals_in (grouped_in (with_clause_at row n gs.groups)) =
        literals_append rows (grouped_in (with_clause_at row n gs.groups)) in
        let five : literals_in (grouped_in (with_clause_at row n gs.groups))
        ≡ literals_in (grouped_in gs.groups) + length row = literals_grown row n gs.groups found order.rising f in
        let six : literals_in (rows ++ grouped_in gs.groups) ≡ literals_in rows + literals_in (grouped_in gs.groups) =
        literals_append rows (grouped_in gs.groups) in
        (omega (arith, one, two, three), omega (arith, four, five, six))

-- what doesn't go beyond a limit
pub within : (clauses literals k : ℕ) → exceeds clauses literals k ≡ false
    → (clauses < max_clauses) × (literals + k ≤ max_literals)
within clauses literals k e = parts (nat_le max_clauses clauses) (nat_lt max_literals (literals + k)) refl refl e
  where
    parts : (s t : Bool) → nat_le max_clauses clauses ≡ s → nat_lt max_literals (literals + k) ≡ t
        → (s || t) ≡ false → (clauses < max_clauses) × (literals + k ≤ max_literals)
    parts true t f g h = absurd (cc)
    parts false true f g h = absurd (cc)
    parts false false f g h = (leb-false max_clauses clauses f, ltb-false max_literals (literals + k) g)

pub counted_put : (old new : Total) (rows more : List Row) (gs news : GroupsState) (row : Row)
    → more ≡ rows_with gs.current row rows → news ≡ with_joined row gs → AreInOrder gs
    → exceeds old.clauses old.literals (length row) ≡ false → new.clauses ≡ old.clauses + 1
    → new.literals ≡ old.literals + length row
    → AreCounted old (rows ++ grouped_in gs.groups) → AreCounted new (more ++ grouped_in news.groups)
counted_put old new rows more gs news row e g order fits clauses literals f =
    let sizes = lengths_with gs.current row rows gs refl order in
    let long : length (rows_with gs.current row rows ++ grouped_in (joined gs.current row gs.groups))
    ≡ length (rows ++ grouped_in gs.groups) + 1 = sizes.0 in
    let all : literals_in (rows_with gs.current row rows ++ grouped_in (joined gs.current row gs.groups))
    ≡ literals_in (rows ++ grouped_in gs.groups) + length row = sizes.1 in
    let room = within old.clauses old.literals (length row) fits in
    let free : old.clauses < max_clauses = room.0 in
    let left : old.literals + length row ≤ max_literals = room.1 in
    let c : old.clauses ≡ length (rows ++ grouped_in gs.groups) = f.counted.clauses in
    let l : old.literals ≡ literals_in (rows ++ grouped_in gs.groups) = f.counted.literals in
    rw (e, g) (record {
      counted = record {
        clauses = omega (arith, clauses, c, long);
        literals = omega (arith, literals, l, all);
      };
      few_clauses = omega (arith, free, c, long);
      few_literals = omega (arith, left, l, all);
    })

-- the row that is taken out is among those counted
pub taken_room : (old : Total) (rows left : List Row) (gs news : GroupsState) (row : Row)
    → rows ≡ rows_with news.current row left → gs ≡ with_joined row news → AreInOrder news
    → AreCounted old (rows ++ grouped_in gs.groups) → (1 ≤ old.clauses) × (length row ≤ old.literals)
taken_room old rows left gs news row e g order f =
    let sizes = lengths_with news.current row left news refl order in
    let long : length (rows_with news.current row left ++ grouped_in (joined news.current row news.groups))
    ≡ length (left ++ grouped_in news.groups) + 1 = sizes.0 in
    let all : literals_in (rows_with news.current row left ++ grouped_in (joined news.current row news.groups))
    ≡ literals_in (left ++ grouped_in news.groups) + length row = sizes.1 in
    let same : rows ++ grouped_in gs.groups
    ≡ rows_with news.current row left ++ grouped_in (joined news.current row news.groups) =
    ap₂ (λ (xs : List Row) (s : GroupsState). xs ++ grouped_in s.groups) e g in
    let c : old.clauses ≡ length (rows ++ grouped_in gs.groups) = f.counted.clauses in
    let l : old.literals ≡ literals_in (rows ++ grouped_in gs.groups) = f.counted.literals in
    let is : length (rows ++ grouped_in gs.groups)
    ≡ length (rows_with news.current row left ++ grouped_in (joined news.current row news.groups)) =
    ap (λ (xs : List Row). length xs) same in
    let too : literals_in (rows ++ grouped_in gs.groups)
    ≡ literals_in (rows_with news.current row left ++ grouped_in (joined news.current row news.groups)) =
    ap literals_in same in
    (omega (arith, c, is, long), omega (arith, l, too, all))

pub counted_taken : (old new : Total) (rows left : List Row) (gs news : GroupsState) (row : Row)
    → rows ≡ rows_with news.current row left → gs ≡ with_joined row news → AreInOrder news
    → old.clauses ≡ new.clauses + 1 → old.literals ≡ new.literals + length row
    → AreCounted old (rows ++ grouped_in gs.groups) → AreCounted new (left ++ grouped_in news.groups)
counted_taken old new rows left gs news row e g order clauses literals f =
    let sizes = lengths_with news.current row left news refl order in
    let long : length (rows_with news.current row left ++ grouped_in (joined news.current row news.groups))
    ≡ length (left ++ grouped_in news.groups) + 1 = sizes.0 in
    let all : literals_in (rows_with news.current row left ++ grouped_in (joined news.current row news.groups))
    ≡ literals_in (left ++ grouped_in news.groups) + length row = sizes.1 in
    let same : rows ++ grouped_in gs.groups
    ≡ rows_with news.current row left ++ grouped_in (joined news.current row news.groups) =
    ap₂ (λ (xs : List Row) (s : GroupsState). xs ++ grouped_in s.groups) e g in
    let c : old.clauses ≡ length (rows ++ grouped_in gs.groups) = f.counted.clauses in
    let l : old.literals ≡ literals_in (rows ++ grouped_in gs.groups) = f.counted.literals in
    let few : length (rows ++ grouped_in gs.groups) ≤ max_clauses = f.few_clauses in
    let most : literals_in (rows ++ grouped_in gs.groups) ≤ max_literals = f.few_literals in
    let is : length (rows ++ grouped_in gs.groups)
    ≡ length (rows_with news.current row left ++ grouped_in (joined news.current row news.groups)) =
    ap (λ (xs : List Row). length xs) same in
    let too : literals_in (rows ++ grouped_in gs.groups)
    ≡ literals_in (rows_with news.current row left ++ grouped_in (joined news.current row news.groups)) =
    ap literals_in same in
    record {
      counted = record {
        clauses = omega (arith, clauses, c, is, long);
        literals = omega (arith, literals, l, too, all);
      };
      few_clauses = omega (arith, few, is, long);
      few_literals = omega (arith, most, too, all);
    }

-- the count decides whether a row goes beyond a limit beside all clauses
pub beyond_is : (total : Total) (starts : List Start) (rows : List Row) (vars : List ℕ) (gs : List Group) (k : ℕ)
    → AreCounted total (rows ++ grouped_in gs)
    → is_beyond ((clauses_in (frames_from at_first starts rows vars) ++ active_in gs) ++ inactive_in gs) k
    ≡ exceeds total.clauses total.literals k
beyond_is total starts rows vars gs k f =
    ap (λ (xs : List Row). is_beyond ((xs ++ active_in gs) ++ inactive_in gs) k)
    (frames_clauses at_first starts rows vars)
    ∙ ap₂ (λ (m n : ℕ). exceeds m n k) (length_all rows gs ∙ sym f.counted.clauses)
    (literals_all rows gs ∙ sym f.counted.literals)

pub counted_same : (total : Total) (rows more : List Row) → more ≡ rows → AreCounted total rows → AreCounted total more
counted_same total rows more e f = rw e f
