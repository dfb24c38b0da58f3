-- Scopes in the order of their ids.
use Rattle.std.proofs.Common.{◌≡◌, ◌≢◌, ℕ, zero, suc, ◌+◌, ◌<◌, ◌≤◌, Bool, true, false, List, [], ◌∷◌, ◌++◌, length, get_or, set, None, refl, sym, ap, ◌∙◌, arith}
use Rattle.std.specs.Prelude.{◌==◌, ◌||◌, insert, not, filter}
use Rattle.std.specs.List.{AllByRecursion}
use Rattle.std.proofs.lemmas.Bool.{ne_eqb, eqb-false}
use Rattle.std.proofs.lemmas.List.{length-map, map-append, map-set, set-get_or, get_or-map, get_or-set_same, get_or-set_other, get_or_append_left}
use Rattle.std.proofs.lemmas.List.Edits.{length-insert}
use Rattle.std.proofs.lemmas.List.Elements.{All-from_recursion}
use Rattle.prefix.specs.declared.blocks.Block.{Block}
use Rattle.std.proofs.Math.Seq.{get_or-append_seam}
use Rattle.prefix.specs.Scopes.{Scope, is_among, level_of, AreDistinct, IsAscending, insert_ascending, with_variable_at}
use Rattle.prefix.specs.Blocks.{scope_of, made_of, scope_with, scopes_of, IsOrder, IsTakenOut}
use Rattle.prefix.proofs.ScopeLemmas.{level_none_at, map-insert, set-with_variable_at}
use Rattle.prefix.proofs.TableLemmas.{all-insert}

cons : (s t : Scope) (ss ts : List Scope) → s ≡ t → ss ≡ ts → (s ∷ ss) ≡ (t ∷ ts)
cons s t ss ts p q = cc

parts : (b c : Bool) → (b || c) ≡ false → (b ≡ false) × (c ≡ false)
parts true c e = absurd (cc)
parts false c e = (refl, e)

-- one more scope leaves those with the ids that there were
more_made : (made : List Scope) (s : Scope) (ids : List ℕ) → AllByRecursion (λ id. id < length made) ids
    → scopes_of (made ++ s ∷ []) ids ≡ scopes_of made ids
more_made made s [] h = refl
more_made made s (id ∷ ids) h = cons _ _ _ _ (get_or_append_left made (s ∷ []) _ id h.0) (more_made made s ids h.1)

-- a scope is put in
pub scopes_more : (made : List Scope) (s : Scope) (ids : List ℕ) (place : ℕ) → AllByRecursion (λ id. id < length made)
    ids → scopes_of (made ++ s ∷ []) (insert ids place (length made)) ≡ insert (scopes_of made ids) place s
scopes_more made s ids place h =
    map-insert (scope_with (made ++ s ∷ [])) ids place (length made)
    ∙ ap (λ ss. insert ss place (scope_with (made ++ s ∷ []) (length made))) (more_made made s ids h)
    ∙ ap (insert (scopes_of made ids) place) (get_or-append_seam made s [] _)

-- the same, of blocks
pub scopes_put : (blocks after : List Block) (ids order : List ℕ) (place : ℕ) (b : Block)
    → IsOrder (length blocks) ids → after ≡ blocks ++ b ∷ [] → order ≡ insert ids place (length blocks)
    → b.vars.keys ≡ []
    → scopes_of (made_of after) order ≡ insert (scopes_of (made_of blocks) ids) place
    (record { quantifier = b.quant; variables = [] })
scopes_put blocks after ids order place b o e f g =
    let below : AllByRecursion (λ i. i < length (made_of blocks)) ids = rw length-map o.below in
    ap (λ bs. scopes_of (made_of bs) order) e ∙ ap (scopes_of (made_of (blocks ++ b ∷ []))) f
    ∙ ap (λ ts. scopes_of ts (insert ids place (length blocks))) (map-append scope_of blocks (b ∷ []))
    ∙ ap (λ n. scopes_of (made_of blocks ++ scope_of b ∷ []) (insert ids place n)) (sym (length-map blocks scope_of))
    ∙ scopes_more (made_of blocks) (scope_of b) ids place below
    ∙ ap (λ vs. insert (scopes_of (made_of blocks) ids) place (record { quantifier = b.quant; variables = vs })) g

up : (n : ℕ) (ids : List ℕ) → AllByRecursion (λ id. id < n) ids → AllByRecursion (λ id. id < n + 1) ids
up n [] h = tt
up n (id ∷ ids) h = (let low : id < n = h.0 in omega (arith, low), up n ids h.1)

not_below : (n : ℕ) (ids : List ℕ) → AllByRecursion (λ id. id < n) ids → is_among n ids ≡ false
not_below n [] h = refl
not_below n (id ∷ ids) h =
    let low : id < n = h.0 in
    let other : (id == n) ≡ false = ne_eqb id n (λ e. omega (arith, low, e)) in
    ap (λ b. b || is_among n ids) other ∙ not_below n ids h.1

not_among : (x n : ℕ) (ids : List ℕ) (place : ℕ) → (n == x) ≡ false → is_among x ids ≡ false
    → is_among x (insert ids place n) ≡ false
not_among x n ids zero e h = ap (λ b. b || is_among x ids) e ∙ h
not_among x n [] (suc place) e h = ap (λ b. b || false) e
not_among x n (id ∷ ids) (suc place) e h =
    let both = parts (id == x) (is_among x ids) h in
    ap (λ b. b || is_among x (insert ids place n)) both.0 ∙ not_among x n ids place e both.1

distinct_more : (n : ℕ) (ids : List ℕ) (place : ℕ) → is_among n ids ≡ false → AreDistinct ids
    → AreDistinct (insert ids place n)
distinct_more n ids zero h d = (h, d)
distinct_more n [] (suc place) h d = (refl, tt)
distinct_more n (id ∷ ids) (suc place) h d =
    let both = parts (id == n) (is_among n ids) h in
    let other : (n == id) ≡ false = ne_eqb n id (λ e. eqb-false id n both.0 (sym e)) in
    (not_among id n ids place other d.0, distinct_more n ids place both.1 d.1)

pub order_more : (n : ℕ) (ids : List ℕ) (place : ℕ) → place ≤ length ids → IsOrder n ids
    → IsOrder (n + 1) (insert ids place n)
order_more n ids place h o = record {
  all = length-insert ids place n h ∙ ap (λ k. k + 1) o.all;
  below = all-insert (λ id. id < n + 1) ids place n (omega arith) (up n ids o.below);
  distinct = distinct_more n ids place (not_below n ids o.below) o.distinct;
}

-- another scope with an id leaves those with other ids
others_stay : (made : List Scope) (s : Scope) (id : ℕ) (ids : List ℕ) → is_among id ids ≡ false
    → scopes_of (set made id s) ids ≡ scopes_of made ids
others_stay made s id [] h = refl
others_stay made s id (x ∷ ids) h =
    let both = parts (x == id) (is_among id ids) h in
    cons _ _ _ _ (get_or-set_other made id x s _ (eqb-false x id both.0)) (others_stay made s id ids both.1)

apart : (x : ℕ) (ids : List ℕ) (place : ℕ) → place < length ids → is_among x ids ≡ false → x ≢ get_or ids place 0
apart x [] place h n = absurd (omega (arith, h))
apart x (id ∷ ids) zero h n = λ e. eqb-false id x (parts (id == x) (is_among x ids) n).0 (sym e)
apart x (id ∷ ids) (suc place) h n = apart x ids place (omega (arith, h)) (parts (id == x) (is_among x ids) n).1

-- the scope at a place becomes another
pub scope_changed : (made : List Scope) (ids : List ℕ) (place : ℕ) (s : Scope) → AllByRecursion (λ id. id < length made)
    ids → AreDistinct ids → place < length ids
    → scopes_of (set made (get_or ids place 0) s) ids ≡ set (scopes_of made ids) place s
scope_changed made [] place s b d h = absurd (omega (arith, h))
scope_changed made (x ∷ ids) zero s b d h = cons _ _ _ _ (get_or-set_same made x s _ b.0) (others_stay made s x ids d.0)
scope_changed made (x ∷ ids) (suc place) s b d h =
    cons _ _ _ _ (get_or-set_other made (get_or ids place 0) x s _ (apart x ids place (omega (arith, h)) d.0))
    (scope_changed made ids place s b.1 d.1 (omega (arith, h)))

-- the scope at a place is the one with its id
pub scope_found : (made : List Scope) (ids : List ℕ) (place : ℕ) (d : Scope) → place < length ids
    → get_or (scopes_of made ids) place d ≡ scope_with made (get_or ids place 0)
scope_found made [] place d h = absurd (omega (arith, h))
scope_found made (x ∷ ids) zero d h = refl
scope_found made (x ∷ ids) (suc place) d h = scope_found made ids place d (omega (arith, h))

pub id_below : (n : ℕ) (ids : List ℕ) (place : ℕ) → AllByRecursion (λ id. id < n) ids → place < length ids
    → get_or ids place 0 < n
id_below n [] place b h = absurd (omega (arith, h))
id_below n (x ∷ ids) zero b h = b.0
id_below n (x ∷ ids) (suc place) b h = id_below n ids place b.1 (omega (arith, h))

-- a write to the block x, whose id is that of a place
module _ (blocks : List Block) (ids : List ℕ) (place id : ℕ) (x : Block) (order : IsOrder (length blocks) ids)
    (within : place < length ids) (named : id ≡ get_or ids place 0) (read : x ≡ get_or blocks id x) where
  abbrev ss : List Scope
  ss = scopes_of (made_of blocks) ids

  within_scopes : place < length ss
  within_scopes = rw length-map within

  pub scope_at : (d : Scope) → get_or ss place d ≡ scope_of x
  scope_at d =
      let low : id < length blocks = rw named (id_below (length blocks) ids place order.below within) in
      scope_found (made_of blocks) ids place d within ∙ ap (scope_with (made_of blocks)) (sym named)
      ∙ get_or-map scope_of blocks id x _ low ∙ ap scope_of (sym read)

  changed : (y : Block) → scopes_of (made_of (set blocks id y)) ids ≡ set ss place (scope_of y)
  changed y =
      let below : AllByRecursion (λ i. i < length (made_of blocks)) ids = rw length-map order.below in
      ap (λ ts. scopes_of ts ids) (map-set scope_of blocks id y)
      ∙ ap (λ i. scopes_of (set (made_of blocks) i (scope_of y)) ids) named
      ∙ scope_changed (made_of blocks) ids place (scope_of y) below order.distinct within

  -- a variable that no scope has isn't in this one
  pub none_at : (v : ℕ) → level_of ss v ≡ None → is_among v x.vars.keys ≡ false
  none_at v e =
      ap (λ (s : Scope). is_among v s.variables) (sym (scope_at (scope_of x)))
      ∙ level_none_at ss place v (scope_of x) within_scopes e

  pub ascending_at : AllByRecursion (λ s. IsAscending s.variables) ss → IsAscending x.vars.keys
  ascending_at a = rw (scope_at (scope_of x)) at (All-from_recursion (λ s. IsAscending s.variables) ss a place
      (scope_of x) within_scopes)

  pub same_scopes : (y : Block) → scope_of y ≡ scope_of x → scopes_of (made_of (set blocks id y)) ids ≡ ss
  same_scopes y e = changed y ∙ ap (set ss place) (e ∙ sym (scope_at (scope_of x))) ∙ set-get_or ss place (scope_of x)

  pub scopes_with : (y : Block) (v : ℕ) → y.quant ≡ x.quant → y.vars.keys ≡ insert_ascending v x.vars.keys
      → scopes_of (made_of (set blocks id y)) ids ≡ with_variable_at ss place v
  scopes_with y v e f =
      changed y ∙ ap (set ss place)
      (made y v e f
      ∙ sym (ap (λ (t : Scope). record { quantifier = t.quantifier; variables = insert_ascending v t.variables })
      (scope_at (scope_of x)))) ∙ set-with_variable_at ss place v (scope_of x) within_scopes
    where
      made : (z : Block) (w : ℕ) → z.quant ≡ x.quant → z.vars.keys ≡ insert_ascending w x.vars.keys
          → scope_of z ≡ record { quantifier = x.quant; variables = insert_ascending w x.vars.keys }
      made z w p q = cc

  pub scopes_taken : (y : Block) (v : ℕ) → y.quant ≡ x.quant
      → y.vars.keys ≡ filter (λ u. not (u == v)) x.vars.keys → IsTakenOut v place ss
      (scopes_of (made_of (set blocks id y)) ids)
  scopes_taken y v e f d =
      changed y ∙ ap (set ss place)
      (left y v e f
      ∙ sym (ap
      (λ (t : Scope). record { quantifier = t.quantifier; variables = filter (λ u. not (u == v)) t.variables })
      (scope_at d)))
    where
      left : (z : Block) (w : ℕ) → z.quant ≡ x.quant → z.vars.keys ≡ filter (λ u. not (u == w)) x.vars.keys
          → scope_of z ≡ record { quantifier = x.quant; variables = filter (λ u. not (u == w)) x.vars.keys }
      left z w p q = cc
