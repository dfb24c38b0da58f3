use Rattle.std.proofs.Common.{◌≡◌, ◌<◌, ℕ, true, false, [], ◌∷◌, refl, sym, ap, ◌∙◌, arith}
use Rattle.std.proofs.lemmas.Bool.{false≢true}
use Rattle.calculus.proofs.Lists.{contains_head}
use Rattle.aig.specs.Circuits.{IsEdge, value_of}
use Rattle.aig.specs.declared.edge.Edge.{Edge}
use Rattle.extract.specs.Tables.{IsAssumedEdge, IsInputEdge}
use Rattle.extract.specs.Worked.{always, minus, never, other, plus, same, wire}
use Rattle.extract.proofs.Small.{no_value, the_one, value_is}
use Rattle.extract.proofs.worked.worked_given.Goals as goal

input_edge : IsInputEdge wire (2 ∷ []) 2 same
unfolding value_of IsEdge
input_edge = record {
  listed = contains_head 2 [];
  stands = let h : 0 < 1 = omega arith in h;
  value = λ given. refl;
}

opposite_edge : IsInputEdge wire (2 ∷ []) 2 other → ⊥
unfolding value_of
opposite_edge h = false≢true (h.value (λ x. true))

apart : (m n : ℕ) → n < m → m ≡ n → ⊥
apart m n h e = omega arith

assumed_true : IsAssumedEdge (plus 1 ∷ []) 1 always
unfolding value_of IsEdge
assumed_true = record {
  positive = true;
  assumed = refl;
  edge = refl;
  stands = λ circuit. tt;
  value = λ circuit inputs. refl;
}

assumed_false : IsAssumedEdge (minus 1 ∷ []) 1 never
unfolding value_of IsEdge
assumed_false = record {
  positive = false;
  assumed = refl;
  edge = refl;
  stands = λ circuit. tt;
  value = λ circuit inputs. refl;
}

pub returns : goal.returns
returns c = record {
  input = input_edge;
  opposite_input = opposite_edge;
  no_input = λ h. apart 2 1 (omega arith) (the_one (λ (x : ℕ). 2 ≡ x) 2 refl 1 h.listed);
  assumed = assumed_true;
  assumed_false = assumed_false;
  turned = λ h. false≢true (value_is false h.positive h.assumed ∙ sym (ap (λ (e : Edge). e.negated) h.edge));
  not_assumed = λ h. no_value h.positive h.assumed;
}
