-- The core of a false formula is false, and without any one of its groups true.
use Rattle.std.proofs.Common.{◌≡◌, ◌⊎◌, Bool, true, false, List, [], ◌∷◌, ◌++◌, Contains, refl, sym, ap, ap₂, ◌∙◌, subst, inl, inr, ⊎_elim, append_assoc}
use Rattle.std.specs.Prelude.{if◌then◌else◌}
use Rattle.std.proofs.lemmas.List.{append-nil}
use Rattle.std.proofs.lemmas.Grind.{flat_map-append}
use Rattle.prefix.specs.Literal.{Literal}
use Rattle.calculus.specs.Rows.{Row}
use Rattle.calculus.proofs.Lists.{contains_cons, contains_head, contains_nil, contains_tail}
use Rattle.prefix.specs.Scopes.{Scope}
use Rattle.cores.specs.Cores.{Group, IsCore, core_from, core_groups, grouped_in, truth_with}
use Rattle.cores.proofs.Fewer.{IsPartOf, fewer_true}

-- membership in appended lists

pub contains_left : {X : Type 0} (xs ys : List X) (x : X) → Contains xs x → Contains (xs ++ ys) x
contains_left [] ys x i = absurd (contains_nil x i)
contains_left (y ∷ xs) ys x i =
    ⊎_elim (λ e. subst (λ z. Contains (y ∷ (xs ++ ys)) z) e (contains_head y (xs ++ ys)))
    (λ j. contains_tail y (xs ++ ys) x (contains_left xs ys x j))
    (contains_cons y xs x i)

pub contains_right : {X : Type 0} (xs ys : List X) (x : X) → Contains ys x → Contains (xs ++ ys) x
contains_right [] ys x i = i
contains_right (y ∷ xs) ys x i = contains_tail y (xs ++ ys) x (contains_right xs ys x i)

pub contains_either : {X : Type 0} (xs ys : List X) (x : X) → Contains (xs ++ ys) x → Contains xs x ⊎ Contains ys x
contains_either [] ys x i = inr i
contains_either (y ∷ xs) ys x i =
    ⊎_elim (λ e. inl (subst (λ z. Contains (y ∷ xs) z) e (contains_head y xs)))
    (λ j. ⊎_elim (λ l. inl (contains_tail y xs x l)) (λ r. inr r) (contains_either xs ys x j))
    (contains_cons y (xs ++ ys) x i)

-- with fewer groups there are fewer clauses

pub grouped_append : (gs hs : List Group) → grouped_in (gs ++ hs) ≡ grouped_in gs ++ grouped_in hs
grouped_append gs hs = flat_map-append (λ (g : Group). g.clauses) gs hs

one_less : (others : List Row) (gs hs : List Group) (g : Group)
    → IsPartOf (others ++ grouped_in (gs ++ hs)) (others ++ grouped_in (gs ++ g ∷ hs))
one_less others gs hs g row i =
    ⊎_elim (λ l. contains_left others (grouped_in (gs ++ g ∷ hs)) row l)
    (λ r. contains_right others (grouped_in (gs ++ g ∷ hs)) row
    (subst (λ rows. Contains rows row) (sym (grouped_append gs (g ∷ hs)))
    (⊎_elim (λ a. contains_left (grouped_in gs) (g.clauses ++ grouped_in hs) row a)
    (λ b. contains_right (grouped_in gs) (g.clauses ++ grouped_in hs) row
    (contains_right g.clauses (grouped_in hs) row b))
    (contains_either (grouped_in gs) (grouped_in hs) row
    (subst (λ rows. Contains rows row) (grouped_append gs hs) r)))))
    (contains_either others (grouped_in (gs ++ hs)) row i)

module _ (assumptions : List Literal) (scopes : List Scope) (others : List Row) where
  stays_true : (gs hs : List Group) (g : Group) → truth_with assumptions scopes others (gs ++ g ∷ hs) ≡ true
      → truth_with assumptions scopes others (gs ++ hs) ≡ true
  stays_true gs hs g e =
      fewer_true assumptions scopes (others ++ grouped_in (gs ++ hs)) (others ++ grouped_in (gs ++ g ∷ hs))
      (one_less others gs hs g) e

  -- with the groups still to be tried: without any one of those that are kept it is true
  abbrev pub EachIsNeeded : List Group → List Group → Type 0
  EachIsNeeded kept rest = (before behind : List Group) (g : Group) → kept ≡ before ++ g ∷ behind
      → truth_with assumptions scopes others ((before ++ behind) ++ rest) ≡ true

  -- one more is kept, since without it it is true
  module _ (rest : List Group) (k : Group) where
    last_or_not : (kept before behind : List Group) (g : Group) → kept ++ k ∷ [] ≡ before ++ g ∷ behind
        → ((left : List Group) × (behind ≡ left ++ k ∷ []) × (kept ≡ before ++ g ∷ left))
        ⊎ ((behind ≡ []) × (kept ≡ before))
    last_or_not [] [] behind g e = inr (tail_is [] behind (tails e), refl)
      where
        tails : k ∷ [] ≡ g ∷ behind → [] ≡ behind
        tails q = cc

        tail_is : (xs ys : List Group) → xs ≡ ys → ys ≡ xs
        tail_is xs ys q = sym q
    last_or_not [] (b ∷ before) behind g e = absurd (none before behind g (tails e))
      where
        tails : k ∷ [] ≡ b ∷ (before ++ g ∷ behind) → [] ≡ before ++ g ∷ behind
        tails q = cc

        none : (before behind : List Group) (g : Group) → [] ≡ before ++ g ∷ behind → ⊥
        none [] behind g q = cc
        none (b ∷ before) behind g q = cc
    last_or_not (h ∷ kept) [] behind g e = inl (kept, sym (tails e), ap (λ (x : Group). x ∷ kept) (heads e))
      where
        tails : h ∷ (kept ++ k ∷ []) ≡ g ∷ behind → kept ++ k ∷ [] ≡ behind
        tails q = cc

        heads : h ∷ (kept ++ k ∷ []) ≡ g ∷ behind → h ≡ g
        heads q = cc
    last_or_not (h ∷ kept) (b ∷ before) behind g e =
        ⊎_elim (λ l. inl (l.0, l.1, ap₂ (λ (x : Group) (xs : List Group). x ∷ xs) (heads e) l.2))
        (λ r. inr (r.0, ap₂ (λ (x : Group) (xs : List Group). x ∷ xs) (heads e) r.1))
        (last_or_not kept before behind g (tails e))
      where
        tails : h ∷ (kept ++ k ∷ []) ≡ b ∷ (before ++ g ∷ behind) → kept ++ k ∷ [] ≡ before ++ g ∷ behind
        tails q = cc

        heads : h ∷ (kept ++ k ∷ []) ≡ b ∷ (before ++ g ∷ behind) → h ≡ b
        heads q = cc

    one_more : (kept : List Group) → EachIsNeeded kept (k ∷ rest)
        → truth_with assumptions scopes others (kept ++ rest) ≡ true → EachIsNeeded (kept ++ k ∷ []) rest
    one_more kept needed without before behind g e =
        ⊎_elim
        (λ l.
        let same : ((before ++ behind) ++ rest) ≡ (before ++ l.0) ++ (k ∷ rest) =
        ap (λ (xs : List Group). (before ++ xs) ++ rest) l.1
        ∙ ap (λ (xs : List Group). xs ++ rest) (sym (append_assoc before l.0 (k ∷ [])))
        ∙ append_assoc (before ++ l.0) (k ∷ []) rest in
        ap (truth_with assumptions scopes others) same ∙ needed before l.0 g l.2)
        (λ r.
        let same : ((before ++ behind) ++ rest) ≡ kept ++ rest =
        ap (λ (xs : List Group). (before ++ xs) ++ rest) r.0
        ∙ ap (λ (xs : List Group). xs ++ rest) (append-nil before ∙ sym r.1) in
        ap (truth_with assumptions scopes others) same ∙ without)
        (last_or_not kept before behind g e)

    one_less_to_try : (kept : List Group) → EachIsNeeded kept (k ∷ rest) → EachIsNeeded kept rest
    one_less_to_try kept needed before behind g e = stays_true (before ++ behind) rest k (needed before behind g e)

  abbrev Found : List Group → List Group → Type 0
  Found rest gs = (truth_with assumptions scopes others (core_from assumptions scopes others gs rest) ≡ false)
      × EachIsNeeded (core_from assumptions scopes others gs rest) []

  pub is_minimal : (kept rest : List Group) → truth_with assumptions scopes others (kept ++ rest) ≡ false
      → EachIsNeeded kept rest
      → (truth_with assumptions scopes others (core_from assumptions scopes others kept rest) ≡ false)
      × EachIsNeeded (core_from assumptions scopes others kept rest) []
  is_minimal kept [] refuted needed = (
    ap (truth_with assumptions scopes others) (sym (append-nil kept)) ∙ refuted,
    needed,
  )
  is_minimal kept (k ∷ rest) refuted needed =
      by (truth_with assumptions scopes others (kept ++ rest)) refl (is_minimal (kept ++ k ∷ []) rest)
      (is_minimal kept rest)
    where
      by : (t : Bool) → truth_with assumptions scopes others (kept ++ rest) ≡ t
          → (truth_with assumptions scopes others ((kept ++ k ∷ []) ++ rest) ≡ false
          → EachIsNeeded (kept ++ k ∷ []) rest → Found rest (kept ++ k ∷ []))
          → (truth_with assumptions scopes others (kept ++ rest) ≡ false → EachIsNeeded kept rest → Found rest kept)
          → Found rest (if t then kept ++ k ∷ [] else kept)
      by true e more less =
          more (ap (truth_with assumptions scopes others) (append_assoc kept (k ∷ []) rest) ∙ refuted)
          (one_more rest k kept needed e)
      by false e more less = less e (one_less_to_try rest k kept needed)

  -- what is left was there
  pub is_among : (kept rest : List Group) (g : Group)
      → Contains (core_from assumptions scopes others kept rest) g → Contains (kept ++ rest) g
  is_among kept [] g i = contains_left kept [] g i
  is_among kept (k ∷ rest) g i =
      by (truth_with assumptions scopes others (kept ++ rest)) (is_among (kept ++ k ∷ []) rest g)
      (is_among kept rest g) i
    where
      by : (t : Bool)
          → (Contains (core_from assumptions scopes others (kept ++ k ∷ []) rest) g
          → Contains ((kept ++ k ∷ []) ++ rest) g)
          → (Contains (core_from assumptions scopes others kept rest) g → Contains (kept ++ rest) g)
          → Contains (core_from assumptions scopes others (if t then kept ++ k ∷ [] else kept) rest) g
          → Contains (kept ++ k ∷ rest) g
      by true more less j = subst (λ xs. Contains xs g) (append_assoc kept (k ∷ []) rest) (more j)
      by false more less j =
          ⊎_elim (λ l. contains_left kept (k ∷ rest) g l)
          (λ r. contains_right kept (k ∷ rest) g (contains_tail k rest g r))
          (contains_either kept rest g (less j))

none_needed : (assumptions : List Literal) (scopes : List Scope) (others : List Row) (rest : List Group)
    → EachIsNeeded assumptions scopes others [] rest
none_needed assumptions scopes others rest [] behind g e = absurd (cc)
none_needed assumptions scopes others rest (b ∷ before) behind g e = absurd (cc)

pub core_is : (assumptions : List Literal) (scopes : List Scope) (others : List Row) (groups : List Group)
    → truth_with assumptions scopes others groups ≡ false
    → IsCore assumptions scopes others groups (core_groups assumptions scopes others groups)
core_is assumptions scopes others groups refuted =
    let found =
    is_minimal assumptions scopes others [] groups refuted (none_needed assumptions scopes others groups) in
    record {
      refuted = found.0;
      minimal =
          λ before behind g e. ap (truth_with assumptions scopes others) (sym (append-nil (before ++ behind)))
          ∙ found.1 before behind g e;
      among = λ g i. is_among assumptions scopes others [] groups g i;
    }
