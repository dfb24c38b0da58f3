use Rattle.std.proofs.Common.{◌≡◌, ◌<◌, ℕ, zero, suc, Bool, true, false, not, List, [], ◌∷◌, inl, inr, ⊎_elim, Contains, unwrap_or, get_or, IsTrue, is_some, refl, sym, ap, ◌∙◌, subst, arith}
use Rattle.std.proofs.lemmas.Bool.{false≢true}
use Rattle.prefix.specs.Literal.{Literal}
use Rattle.prefix.specs.declared.quant.Quant.TheVariants.{Exists, Forall}
use Rattle.calculus.specs.Rows.{Assignment, is_bad_throughout}
use Rattle.calculus.proofs.Lists.{contains_head, contains_nil}
use Rattle.aig.specs.Circuits.{IsEdge, value_of}
use Rattle.extract.specs.Removals.{first_bad}
use Rattle.extract.specs.Tables.{Agrees, AreKept, IsReady, IsRuledEdge, edge_of, removals_at, removed_of}
use Rattle.extract.specs.Worked.{always, clause_index, clause_rows, cube_index, cube_rows, minus, of_one, of_two, one_edge, only, other, plus, same, two_edges, wire}
use Rattle.extract.specs.declared.index.Removal.{Removal}
use Rattle.extract.proofs.Small.{each_of, each_of_one, each_of_two, the_one}
use Rattle.extract.proofs.worked.worked_edges.Goals as goal

by_two : (b : Bool) → b ≡ unwrap_or (first_bad Exists (λ x. b) of_one) false
by_two true = refl
by_two false = refl

by_one : (b : Bool) → not b ≡ unwrap_or (first_bad Forall (λ x. b) of_two) false
by_one true = refl
by_one false = refl

bad_two : (b : Bool) → not b ≡ is_bad_throughout Exists (λ x. b) (plus 2 ∷ [])
bad_two true = refl
bad_two false = refl

ruled : IsRuledEdge Exists clause_rows clause_index wire (two_edges same same) 1
unfolding value_of
ruled = record {
  ruled = λ inputs values agrees. agrees 1 same refl ∙ sym (agrees 2 same refl) ∙ by_two (values 2);
}

constant : IsRuledEdge Exists clause_rows clause_index wire (two_edges always same) 1 → ⊥
unfolding value_of
constant h =
    false≢true
    (sym
    (h.ruled (false ∷ []) (only 1)
    (each_of_two (λ x e. only 1 x ≡ value_of wire (false ∷ []) e) always same refl refl)))

cubes : IsRuledEdge Forall cube_rows cube_index wire (two_edges same other) 2
unfolding value_of
cubes = record {
  ruled = λ inputs values agrees. agrees 2 other refl ∙ ap not (sym (agrees 1 same refl)) ∙ by_one (values 1);
}

equal : IsRuledEdge Forall cube_rows cube_index wire (two_edges same same) 2 → ⊥
unfolding value_of
equal h =
    false≢true
    (sym
    (h.ruled (true ∷ []) (λ x. true)
    (each_of_two (λ x e. true ≡ value_of wire (true ∷ []) e) same same refl refl)))

kept : AreKept Exists clause_rows wire (one_edge same) (one_edge other)
unfolding value_of IsEdge
kept = record {
  stands = each_of_one (λ x e. IsEdge wire e) other (let h : 0 < 1 = omega arith in h);
  value = each_of_one
      (λ i e. (inputs : List Bool) (values : Assignment) → Agrees wire inputs (one_edge same) values →
      value_of wire inputs e ≡ is_bad_throughout Exists values (get_or clause_rows i []))
      other
      (λ inputs values agrees. ap not (sym (agrees 2 same refl)) ∙ bad_two (values 2));
}

turned : AreKept Exists clause_rows wire (one_edge same) (one_edge same) → ⊥
unfolding value_of
turned h =
    false≢true
    (sym
    (h.value 2 same refl (true ∷ []) (λ x. true)
    (each_of_one (λ x e. true ≡ value_of wire (true ∷ []) e) same refl)))

-- the rows that are left where a literal of 1 goes are over 2
over_two : (l : Literal) (r : Removal) → Contains (removals_at clause_index 1) r
    → Contains (removed_of clause_rows r).row l → 2 ≡ l.variable
over_two l =
    each_of (λ (r : Removal). Contains (removed_of clause_rows r).row l → 2 ≡ l.variable) _ _
    (the_one (λ (m : Literal). 2 ≡ m.variable) (plus 2) refl l)
    (the_one (λ (m : Literal). 2 ≡ m.variable) (minus 2) refl l)

ready : IsReady clause_rows clause_index (1 ∷ []) (one_edge same)
ready zero below none r l i j =
    inl (subst (λ (x : ℕ). IsTrue (is_some (edge_of (one_edge same) x))) (over_two l r i j) refl)
ready (suc n) below none r l i j = absurd (let h : suc n < 1 = below in omega arith)

in_order : IsReady clause_rows clause_index (2 ∷ 1 ∷ []) []
in_order zero below none r l i j = absurd (contains_nil r i)
in_order (suc zero) below none r l i j =
    inr (subst (λ (x : ℕ). Contains (2 ∷ []) x) (over_two l r i j) (contains_head 2 []))
in_order (suc (suc n)) below none r l i j = absurd (let h : suc (suc n) < 2 = below in omega arith)

abbrev first : Removal
first = record { step = 2; value = false }

abbrev second : Removal
second = record { step = 3; value = true }

late : IsReady clause_rows clause_index (1 ∷ 2 ∷ []) [] → ⊥
late h =
    ⊎_elim false≢true (contains_nil 2)
    (h 0 (let g : 0 < 2 = omega arith in g) refl first (plus 2) (contains_head first (second ∷ []))
    (contains_head (plus 2) []))

pub returns : goal.returns
returns c = record {
  ruled = ruled;
  ruled_not = constant;
  cubes = cubes;
  cubes_not = equal;
  kept = kept;
  kept_not = turned;
  ready = ready;
  ready_in_order = in_order;
  ready_not = late;
}
