-- A walk along a list, of which some rows leave while it goes on.
use Rattle.std.proofs.Common.{◌≡◌, ◌≢◌, ℕ, zero, suc, ◌+◌, ◌<◌, ◌≤◌, ◌⊎◌, Bool, true, false, not, ◌&&◌, List, [], ◌∷◌, length, Option, Some, None, refl, sym, ap, ◌∙◌, inl, inr, ⊎_elim, arith, nat_eq}
use Rattle.std.proofs.lemmas.Bool.{cases_eq, eq-eqb, ne_eqb, and_from, and_right}
use Rattle.prefix.specs.Literal.{Literal}
use Rattle.prefix.specs.declared.quant.Quant.{Quant}
use Rattle.truth.specs.Matrix.{Values}
use Rattle.rows.specs.Arena.{Arena, is_live, link_at, literals_at, next_id}
use Rattle.rows.proofs.Arenas.{is_live-given}
use Rattle.watch.specs.Links.{IsLinked, Linked, first_of, is_at, is_attached, owner}
use Rattle.watch.specs.Pairs.{HasGood}
use Rattle.watch.specs.State.{Passes, count_below, members}
use Rattle.watch.specs.Walks.{In, IsSifted, IsSifting, Path, behind}
use Rattle.watch.proofs.Boards.{count_less}
use Rattle.watch.proofs.Moving.{owner_attached, owner_live}
use Rattle.watch.proofs.Threads.{Linked-empty, option_parts, same_some, some_at, some_none}

-- how many steps there are from a row to the end, up to a number
abbrev pub steps : (ℕ → Option ℕ) → ℕ → Option ℕ → ℕ
steps next zero at = 0
steps next (suc n) None = 0
steps next (suc n) (Some x) = suc (steps next n (next x))

path_first : (next : ℕ → Option ℕ) (xs : List ℕ) (at : Option ℕ) (i : ℕ) → Path next xs at → at ≡ Some i → In xs i
path_first next [] at i p e = absurd (some_none i (sym e ∙ p))
path_first next (x ∷ xs) at i p e = inl (same_some i x (sym e ∙ p.0))

path_ended : (next : ℕ → Option ℕ) (xs : List ℕ) (at : Option ℕ) (i : ℕ) → Path next xs at → at ≡ None → In xs i → ⊥
path_ended next [] at i p e m = m
path_ended next (x ∷ xs) at i p e m = some_none x (sym p.0 ∙ e)

path_on : (next : ℕ → Option ℕ) (xs : List ℕ) (at : Option ℕ) (j i : ℕ) → Path next xs at → In xs j → next j ≡ Some i
    → In xs i
path_on next [] at j i p m e = absurd m
path_on next (x ∷ xs) at j i p m e =
    ⊎_elim (λ same. inr (path_first next xs (next x) i p.1 (ap next (sym same) ∙ e)))
    (λ later. inr (path_on next xs (next x) j i p.1 later e))
    m

path_same : (next next' : ℕ → Option ℕ) (xs : List ℕ) (at : Option ℕ) → ((i : ℕ) → In xs i → next' i ≡ next i)
    → Path next xs at → Path next' xs at
path_same next next' [] at same p = p
path_same next next' (x ∷ xs) at same p =
    let rest = path_same next next' xs (next x) (λ i m. same i (inr m)) p.1 in
    (p.0, rw (same x (inl refl)) rest)

path_steps : (next : ℕ → Option ℕ) (xs : List ℕ) (at : Option ℕ) (n : ℕ) → Path next xs at → length xs ≤ n
    → steps next n at ≡ length xs
path_steps next [] at zero p low = refl
path_steps next [] at (suc n) p low = ap (steps next (suc n)) p
path_steps next (x ∷ xs) at zero p low = absurd (omega arith)
path_steps next (x ∷ xs) at (suc n) p low = ap (steps next (suc n)) p.0
    ∙ ap suc (path_steps next xs (next x) n p.1 (omega arith))

-- what is behind the first row of a path
record IsTail (next : ℕ → Option ℕ) (xs : List ℕ) (x : ℕ) : Type 0 where
  pub rest : List ℕ
  pub path : Path next rest (next x)
  pub from : (i : ℕ) → In xs i → (i ≡ x) ⊎ In rest i
  pub into : (i : ℕ) → In rest i → In xs i
  pub count : length xs ≡ suc (length rest)

tail_of : (next : ℕ → Option ℕ) (xs : List ℕ) (x : ℕ) → Path next xs (Some x) → IsTail next xs x
tail_of next [] x p = absurd (some_none x p)
tail_of next (y ∷ ys) x p =
    let same : x ≡ y = same_some x y p.0 in
    record {
      rest = ys;
      path = rw same p.1;
      from = λ i m. ⊎_elim (λ e. inl (e ∙ sym same)) (λ later. inr later) m;
      into = λ i m. inr m;
      count = refl;
    }

-- paths of a list
module _ (head own prev next : ℕ → Option ℕ) (linked : Linked head own prev next) (name : ℕ) where
  -- ranks fall along them
  pub path_falls : (xs : List ℕ) (x i : ℕ) → own x ≡ Some name → Path next xs (next x) → In xs i → (own i ≡ Some name)
      × (linked.rank i < linked.rank x)
  path_falls [] x i o p m = absurd m
  path_falls (y ∷ ys) x i o p m =
      let f = linked.forth x y name o p.0 in
      let b = linked.back y x name f.0 f.1 in
      let below : linked.rank y < linked.rank x = b.2 in
      ⊎_elim (λ (same : i ≡ y). rw same (f.0, below))
      (λ later.
      let r = path_falls ys y i f.0 p.1 later in
      let low : linked.rank i < linked.rank y = r.1 in
      let all : linked.rank i < linked.rank x = omega arith in
      (r.0, all))
      m

  -- all of its rows are in the list
  pub path_owned : (xs : List ℕ) (x : ℕ) → own x ≡ Some name → Path next xs (Some x) → (i : ℕ) → In xs i
      → own i ≡ Some name
  path_owned [] x o p i m = absurd m
  path_owned (y ∷ ys) x o p i m =
      let here : own y ≡ Some name = ap own (sym (same_some x y p.0)) ∙ o in
      ⊎_elim (λ same. ap own same ∙ here) (λ later. (path_falls ys y i here p.1 later).0) m

  path_from : (gap x : ℕ) → linked.rank x < gap → own x ≡ Some name → (xs : List ℕ) × Path next xs (Some x)
  path_from zero x low o = absurd (omega arith)
  path_from (suc gap) x low o =
      ⊎_elim
      (λ j.
      let f = linked.forth x j.0 name o j.1 in
      let b = linked.back j.0 x name f.0 f.1 in
      let below : linked.rank j.0 < linked.rank x = b.2 in
      let rest = path_from gap j.0 (omega arith) f.0 in
      (x ∷ rest.0, (refl, rw j.1 rest.1)))
      (λ none. (x ∷ [], (refl, none)))
      (option_parts (next x))

  -- the path from the head has the whole list
  path_whole : (xs : List ℕ) → Path next xs (head name) → (gap i : ℕ) → own i ≡ Some name
      → linked.bound ≤ linked.rank i + gap → In xs i
  path_whole xs p zero i o far = absurd (let r : linked.rank i < linked.bound = linked.ranked i name o in omega arith)
  path_whole xs p (suc gap) i o far =
      ⊎_elim
      (λ j.
      let b = linked.back i j.0 name o j.1 in
      let above : linked.rank i < linked.rank j.0 = b.2 in
      path_on next xs (head name) j.0 i p (path_whole xs p gap j.0 b.0 (omega arith)) b.1)
      (λ none. path_first next xs (head name) i p (linked.begins i name o none))
      (option_parts (prev i))

  -- a path has at most as many rows as pass a test that all of them pass
  path_count : (xs : List ℕ) (at : Option ℕ) (test : ℕ → Bool) (n : ℕ) → Path next xs at
      → ((i : ℕ) → In xs i → own i ≡ Some name) → ((i : ℕ) → In xs i → (test i ≡ true) × (i < n))
      → length xs ≤ count_below test n
  path_count [] at test n p owned passes = omega arith
  path_count (x ∷ xs) at test n p owned passes =
      let other : ℕ → Bool = λ i. test i && not (nat_eq i x) in
      let apart : (i : ℕ) → In xs i → i ≢ x = λ i m same.
      let low : linked.rank i < linked.rank x = (path_falls xs x i (owned x (inl refl)) p.1 m).1 in
      let is : linked.rank i ≡ linked.rank x = ap linked.rank same in
      absurd (omega arith)
      in
      let here = passes x (inl refl) in
      let rest : length xs ≤ count_below other n = path_count xs (next x) other n p.1 (λ i m. owned i (inr m))
      (λ i m.
      let k = passes i (inr m) in
      (and_from (test i) (not (nat_eq i x)) k.0 (ap not (ne_eqb i x (apart i m))), k.1))
      in
      let fewer : count_below other n < count_below test n =
      count_less test other n x here.1 here.0 (and_right (test x) (not (nat_eq x x)) (ap not (eq-eqb x x refl)))
      (λ i differs. keeps (test i) (nat_eq i x) (ne_eqb i x differs))
      in
      omega arith
    where
      keeps : (b c : Bool) → c ≡ false → b && not c ≡ b
      keeps true true e = sym e
      keeps true false e = refl
      keeps false true e = refl
      keeps false false e = refl

module _ (pivot : Quant) (values : Values) (base name : ℕ) where
  pub sifting_begins : (heads : List (Option ℕ)) (at : Option ℕ) (arena : Arena) → IsLinked pivot heads arena base
      → at ≡ first_of heads name → IsSifting pivot values base name at arena
  sifting_begins heads at arena linked is =
      let own : ℕ → Option ℕ = owner pivot arena base in
      let prev : ℕ → Option ℕ = λ i. link_at arena i (base + 1) in
      ⊎_elim
      (λ x.
      let o = (linked.top x.0 name x.1).0 in
      let p = path_from (first_of heads) own prev (behind arena base) linked name (suc (linked.rank x.0)) x.0
      (omega arith) o in
      let q : Path (behind arena base) p.0 (first_of heads name) = rw x.1 p.1 in
      record {
        rows = p.0;
        path = rw is q;
        listed = path_owned (first_of heads) own prev (behind arena base) linked name p.0 x.0 o p.1;
        passed = λ i o. inl (path_whole (first_of heads) own prev (behind arena base) linked name p.0 q linked.bound i o
            (omega arith));
      })
      (λ none. record {
        rows = [];
        path = is ∙ none;
        listed = λ i m. absurd m;
        passed = λ i o. absurd (Linked-empty (first_of heads) own prev (behind arena base) linked i name none o);
      })
      (option_parts (first_of heads name))

  pub sifting_ends : (at : Option ℕ) (arena : Arena) → at ≡ None → IsSifting pivot values base name at arena
      → IsSifted pivot values arena base name
  sifting_ends at arena none s i o = ⊎_elim (λ m. absurd (path_ended (behind arena base) s.rows at i s.path none m))
      (λ good. good) (s.passed i o)

  pub sifting_here : (at : Option ℕ) (arena : Arena) (id : ℕ) → at ≡ Some id → IsSifting pivot values base name at
      arena → owner pivot arena base id ≡ Some name
  sifting_here at arena id is s = s.listed id (path_first (behind arena base) s.rows at id s.path is)

  pub sifting_attached : (at : Option ℕ) (arena : Arena) (id : ℕ) → at ≡ Some id → IsSifting pivot values base
      name at arena → is_attached pivot arena id ≡ true
  sifting_attached at arena id is s = owner_attached pivot arena base id name (sifting_here at arena id is s)

  pub sifting_live : (at : Option ℕ) (arena : Arena) (id : ℕ) → at ≡ Some id → IsSifting pivot values base name at
      arena → is_live arena id ≡ true
  sifting_live at arena id is s = owner_live pivot arena base id name (sifting_here at arena id is s)

  -- how many rows are left
  sifting_steps : (heads : List (Option ℕ)) (at : Option ℕ) (arena : Arena) → IsLinked pivot heads arena base
      → (s : IsSifting pivot values base name at arena) → steps (behind arena base)
      (members pivot arena base name) at ≡ length s.rows
  sifting_steps heads at arena linked s =
      path_steps (behind arena base) s.rows at (members pivot arena base name) s.path
      (path_count (first_of heads) (owner pivot arena base) (λ i. link_at arena i (base + 1)) (behind arena base) linked
      name s.rows at (λ i. is_at (owner pivot arena base i) name) (next_id arena) s.path s.listed
      (λ i m.
      let o = s.listed i m in
      (some_at (owner pivot arena base i) name o, is_live-given arena i (owner_live pivot arena base i name o))))

  pub sifting_falls : (heads heads' : List (Option ℕ)) (at at' : Option ℕ) (old new : Arena)
      → IsLinked pivot heads old base → IsLinked pivot heads' new base
      → (s : IsSifting pivot values base name at old) (t : IsSifting pivot values base name at' new)
      → length s.rows ≡ suc (length t.rows) → steps (behind new base) (members pivot new base name) at' < steps
      (behind old base) (members pivot old base name) at
  sifting_falls heads heads' at at' old new linked linked' s t count =
      let before = sifting_steps heads at old linked s in
      let after = sifting_steps heads' at' new linked' t in
      omega arith

  module _ (at : Option ℕ) (id : ℕ) (is : at ≡ Some id) where
    here_path : (arena : Arena) (s : IsSifting pivot values base name at arena) → Path (behind arena base) s.rows
        (Some id)
    here_path arena s = let p : Path (behind arena base) s.rows at = s.path in rw is at p

    -- the row is passed
    pub sifting_passes : (heads : List (Option ℕ)) (old new : Arena) (at' : Option ℕ) → IsLinked pivot heads old base
        → at' ≡ link_at old id (base + 2) → Passes pivot values base name old new id
        → ((i : ℕ) → literals_at new i ≡ literals_at old i)
        → (s : IsSifting pivot values base name at old)
        → (t : IsSifting pivot values base name at' new) × (length s.rows ≡ suc (length t.rows))
    sifting_passes heads old new at' linked is' p literals s =
        let tail = tail_of (behind old base) s.rows id (here_path old s) in
        let own = sifting_here at old id is s in
        let falls : (i : ℕ) → In tail.rest i → (owner pivot old base i ≡ Some name) × (linked.rank i < linked.rank id) =
        λ i m.
        path_falls (first_of heads) (owner pivot old base) (λ i. link_at old i (base + 1)) (behind old base) linked name
        tail.rest id i own tail.path m
        in
        let apart : (i : ℕ) → In tail.rest i → i ≢ id = λ i m same.
        let low : linked.rank i < linked.rank id = (falls i m).1 in
        let e : linked.rank i ≡ linked.rank id = ap linked.rank same in
        absurd (omega arith)
        in
        let after : (i : ℕ) → In tail.rest i → link_at old id (base + 1) ≢ Some i = λ i m e.
        let low : linked.rank i < linked.rank id = (falls i m).1 in
        let high : linked.rank id < linked.rank i = (linked.back id i name own e).2 in
        absurd (omega arith)
        in (
          record {
            rows = tail.rest;
            path = rw is' (path_same (behind old base) (behind new base) tail.rest (behind old base id)
                (λ i m. p.elsewhere i (apart i m) (after i m)) tail.path);
            listed = λ i m. p.others i (apart i m) ∙ (falls i m).0;
            passed = λ i o.
                ⊎_elim
                (λ (same : i ≡ id). inr (rw same (p.here (ap (owner pivot new base) (sym same) ∙ o))))
                (λ differs.
                ⊎_elim
                (λ m. ⊎_elim (λ same. absurd (differs same)) (λ later. inl later) (tail.from i m))
                (λ good. inr (rw (literals i) good))
                (s.passed i (sym (p.others i differs) ∙ o)))
                (cases_eq i id);
          },
          tail.count,
        )

-- what has a good literal has one when more are good
pub sifting_more : (pivot : Quant) (values values' : Values) (base name : ℕ) (at : Option ℕ) (arena : Arena)
    → ((row : List Literal) → HasGood pivot values row → HasGood pivot values' row)
    → IsSifting pivot values base name at arena → IsSifting pivot values' base name at arena
sifting_more pivot values values' base name at arena more s = record {
  rows = s.rows;
  path = s.path;
  listed = s.listed;
  passed = λ i o. ⊎_elim (λ m. inl m) (λ good. inr (more (literals_at arena i) good)) (s.passed i o);
}
