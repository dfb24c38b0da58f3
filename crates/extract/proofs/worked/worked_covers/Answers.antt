use Rattle.std.proofs.Common.{◌≡◌, ◌<◌, ℕ, true, false, [], ◌∷◌, Some, IsTrue, is_some, refl, sym, ap, arith}
use Rattle.std.proofs.lemmas.Bool.{false≢true}
use Rattle.calculus.proofs.Lists.{contains_head, contains_tail}
use Rattle.aig.specs.Circuits.{IsEdge, value_of}
use Rattle.aig.specs.declared.edge.Edge.{Edge}
use Rattle.extract.specs.Removals.{Removed}
use Rattle.extract.specs.Tables.{Agrees, AreEdges, CoversRow, edge_of}
use Rattle.extract.specs.Worked.{always, minus, one_edge, only, other, plus, same, two_edges, wire}
use Rattle.extract.proofs.Small.{covers_one, each_of, each_of_one, each_of_two, the_one, value_is}
use Rattle.extract.proofs.worked.worked_covers.Goals as goal

agree : Agrees wire (true ∷ []) (two_edges same same) (λ x. true)
unfolding value_of
agree = each_of_two (λ x e. true ≡ value_of wire (true ∷ []) e) same same refl refl

disagree : Agrees wire (true ∷ []) (two_edges same same) (only 2) → ⊥
unfolding value_of
disagree h = false≢true (h 1 same refl)

stand : AreEdges wire (two_edges always other)
unfolding IsEdge
stand = each_of_two (λ x e. IsEdge wire e) always other tt (let h : 0 < 1 = omega arith in h)

no_input : AreEdges (record { inputs = 0; gates = [] }) (one_edge same) → ⊥
unfolding IsEdge
no_input h = let f : 0 < 0 = h 2 same refl in omega arith

pub returns : goal.returns
returns c = record {
  agrees = agree;
  agrees_not = disagree;
  covers = the_one (λ (x : ℕ). IsTrue (is_some (edge_of (one_edge same) x))) 2 refl;
  covers_not = λ h. false≢true (h 1 (contains_tail 2 (1 ∷ []) 1 (contains_head 1 [])));
  row = covers_one (one_edge same) (minus 2) refl;
  row_not = λ h. false≢true (h (plus 1) (contains_head (plus 1) (plus 2 ∷ [])));
  removed = each_of (λ (r : Removed). CoversRow (one_edge same) r.row) _ _ (covers_one (one_edge same) (plus 2) refl)
      (covers_one (one_edge same) (minus 2) refl);
  removed_not = λ h. false≢true (h _ (contains_head (record { row = minus 1 ∷ []; value = true })
      (record { row = plus 1 ∷ []; value = false } ∷ [])) (minus 1) (contains_head (minus 1) []));
  stand = stand;
  stand_not = no_input;
  keeps = each_of_one (λ x e. edge_of (two_edges always same) x ≡ Some e) same refl;
  keeps_not = λ h.
      false≢true (ap (λ (e : Edge). e.negated) (sym (value_is other same (h 2 same refl))));
}
