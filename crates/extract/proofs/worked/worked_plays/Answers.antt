use Rattle.std.proofs.Common.{◌≡◌, ◌≢◌, ◌<◌, ℕ, Bool, true, false, not, [], ◌∷◌, Some, None, Contains, unwrap_or, map, IsTrue, is_some, refl, sym, ap, ◌∙◌, arith}
use Rattle.std.proofs.lemmas.Bool.{false≢true}
use Rattle.prefix.specs.declared.quant.Quant.TheVariants.{Exists, Forall}
use Rattle.prefix.specs.Scopes.{quantifier_of}
use Rattle.truth.specs.Truth.{assumed_value}
use Rattle.calculus.specs.Rows.{Assignment}
use Rattle.calculus.specs.Plays.{first_forced}
use Rattle.calculus.specs.Worked.{existential_first, universal_first}
use Rattle.calculus.proofs.Lists.{contains_head, contains_tail}
use Rattle.aig.specs.Circuits.{IsEdge, value_of}
use Rattle.aig.specs.declared.edge.Node.TheVariants.{Constant}
use Rattle.extract.specs.Tables.{IsPlayTable, edge_of}
use Rattle.extract.specs.Worked.{always, clause_core, cube_core, minus, never, one_edge, only, other, same, two_edges, wire}
use Rattle.extract.proofs.Small.{each_of, each_of_two, no_value, value_is}
use Rattle.extract.proofs.worked.worked_plays.Goals as goal

not_forall : Some Forall ≡ Some Exists → ⊥
not_forall e = let g : Forall ≡ Exists = value_is Forall Exists e in absurd (cc)

not_exists : Some Exists ≡ Some Forall → ⊥
not_exists e = let g : Exists ≡ Forall = value_is Exists Forall e in absurd (cc)

by_two : (b : Bool) → b ≡ unwrap_or (first_forced Exists (λ x. b) 1 clause_core) false
by_two true = refl
by_two false = refl

by_one : (b : Bool) → not b ≡ unwrap_or (first_forced Forall (λ x. b) 2 cube_core) false
by_one true = refl
by_one false = refl

-- the tables stand, and have the variables of both prefixes
stands : IsEdge wire same
unfolding IsEdge
stands = let h : 0 < 1 = omega arith in h

turned_stands : IsEdge wire other
unfolding IsEdge
turned_stands = let h : 0 < 1 = omega arith in h

never_stands : IsEdge wire never
unfolding IsEdge
never_stands = tt

second : (x y : ℕ) → Contains (x ∷ y ∷ []) y
second x y = contains_tail x (y ∷ []) y (contains_head y [])

clauses : IsPlayTable Exists existential_first [] clause_core (2 ∷ []) wire (two_edges same same)
unfolding value_of
clauses = record {
  count = refl;
  stands = each_of_two (λ x e. IsEdge wire e) same same stands stands;
  covers = each_of (λ (x : ℕ). IsTrue (is_some (edge_of (two_edges same same) x))) 2 1 refl refl;
  inside = each_of_two (λ x e. Contains (2 ∷ 1 ∷ []) x) same same (second 2 1) (contains_head 2 (1 ∷ []));
  losers = λ x e q is. each_of_two
      (λ x e. quantifier_of existential_first x ≡ Some Exists → (given : Assignment) →
      value_of wire (map given (2 ∷ [])) e ≡ given x)
      same same
      (λ q. absurd (not_forall q))
      (λ q given. refl)
      x e is q;
  given = λ x b e a. absurd (no_value b a);
  constants = λ x b e a. absurd (no_value b a);
  ruled = λ x i other none inputs values agrees. each_of
      (λ (x : ℕ). quantifier_of existential_first x ≢ Some Exists →
      values x ≡ unwrap_or (first_forced Exists values x clause_core) false)
      2 1
      (λ loser. absurd (loser refl))
      (λ winner. agrees 1 same refl ∙ sym (agrees 2 same refl) ∙ by_two (values 2))
      x i other;
}

constant : IsPlayTable Exists existential_first [] clause_core (2 ∷ []) wire (two_edges always same) → ⊥
unfolding value_of
constant h =
    false≢true
    (sym
    (h.ruled 1 (second 2 1) not_forall refl (false ∷ []) (only 1)
    (each_of_two (λ x e. only 1 x ≡ value_of wire (false ∷ []) e) always same refl refl)))

half : IsPlayTable Exists existential_first [] clause_core (2 ∷ []) wire (one_edge same) → ⊥
half h = false≢true (h.covers 1 (second 2 1))

cubes : IsPlayTable Forall universal_first [] cube_core (1 ∷ []) wire (two_edges same other)
unfolding value_of
cubes = record {
  count = refl;
  stands = each_of_two (λ x e. IsEdge wire e) same other stands turned_stands;
  covers = each_of (λ (x : ℕ). IsTrue (is_some (edge_of (two_edges same other) x))) 1 2 refl refl;
  inside = each_of_two (λ x e. Contains (1 ∷ 2 ∷ []) x) same other (contains_head 1 (2 ∷ [])) (second 1 2);
  losers = λ x e q is. each_of_two
      (λ x e. quantifier_of universal_first x ≡ Some Forall → (given : Assignment) →
      value_of wire (map given (1 ∷ [])) e ≡ given x)
      same other
      (λ q given. refl)
      (λ q. absurd (not_exists q))
      x e is q;
  given = λ x b e a. absurd (no_value b a);
  constants = λ x b e a. absurd (no_value b a);
  ruled = λ x i other_side none inputs values agrees. each_of
      (λ (x : ℕ). quantifier_of universal_first x ≢ Some Forall →
      values x ≡ unwrap_or (first_forced Forall values x cube_core) false)
      1 2
      (λ loser. absurd (loser refl))
      (λ winner. agrees 2 other refl ∙ ap not (sym (agrees 1 same refl)) ∙ by_one (values 1))
      x i other_side;
}

equal : IsPlayTable Forall universal_first [] cube_core (1 ∷ []) wire (two_edges same same) → ⊥
unfolding value_of
equal h =
    false≢true
    (sym
    (h.ruled 2 (second 1 2) not_exists refl (true ∷ []) (λ x. true)
    (each_of_two (λ x e. true ≡ value_of wire (true ∷ []) e) same same refl refl)))

given : IsPlayTable Exists universal_first (minus 1 ∷ []) [] (2 ∷ []) wire (two_edges never same)
unfolding value_of
given = record {
  count = refl;
  stands = each_of_two (λ x e. IsEdge wire e) never same never_stands stands;
  covers = each_of (λ (x : ℕ). IsTrue (is_some (edge_of (two_edges never same) x))) 1 2 refl refl;
  inside = each_of_two (λ x e. Contains (1 ∷ 2 ∷ []) x) never same (contains_head 1 (2 ∷ [])) (second 1 2);
  losers = λ x e q is. each_of_two
      (λ x e. quantifier_of universal_first x ≡ Some Exists → (given : Assignment) →
      value_of wire (map given (2 ∷ [])) e ≡ given x)
      never same
      (λ q. absurd (not_forall q))
      (λ q given. refl)
      x e is q;
  given = λ x b e a winner is values. each_of_two
      (λ x e. assumed_value (minus 1 ∷ []) x ≡ Some b → value_of wire values e ≡ b)
      never same
      (λ a. value_is false b a)
      (λ a. absurd (no_value b a))
      x e is a;
  constants = λ x b e a winner is. each_of_two
      (λ x e. assumed_value (minus 1 ∷ []) x ≡ Some b → e ≡ record { node = Constant; negated = b })
      never same
      (λ a. ap (λ (b : Bool). record { node = Constant; negated = b }) (value_is false b a))
      (λ a. absurd (no_value b a))
      x e is a;
  ruled = λ x i other none inputs values agrees. each_of
      (λ (x : ℕ). quantifier_of universal_first x ≢ Some Exists → assumed_value (minus 1 ∷ []) x ≡ None →
      values x ≡ false)
      1 2
      (λ winner none. absurd (no_value false (sym none)))
      (λ loser none. absurd (loser refl))
      x i other none;
}

turned : IsPlayTable Exists universal_first (minus 1 ∷ []) [] (2 ∷ []) wire (two_edges always same) → ⊥
unfolding value_of
turned h = false≢true (sym (h.given 1 false always refl not_forall refl []))

pub returns : goal.returns
returns c = record {
  clauses = clauses;
  clauses_not = constant;
  half = half;
  cubes = cubes;
  cubes_not = equal;
  given = given;
  given_not = turned;
}
