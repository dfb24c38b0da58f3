use Rattle.std.proofs.Common.{◌≡◌, ◌≤◌, true, false, Some, length, refl, sym, ap, ◌∙◌, arith}
use Rattle.prefix.specs.declared.quant.Quant.TheVariants.{Exists, Forall}
use Rattle.aig.specs.declared.edge.Edge.{Edge}
use Rattle.aig.specs.declared.edge.Node.TheVariants.{Constant}
use Rattle.engine.proofs.worked.worked_certificates.Goals as goal

not_false : false ≡ true → ⊥
not_false e = cc

other_edge : (a b : Edge) → Some a ≡ Some b → a ≡ b
other_edge a b e = (let f : Some a ≡ Some b = e in cc)

other_quantifier : Some Forall ≡ Some Exists → ⊥
other_quantifier e = cc

pub returns : goal.returns
returns c = record {
  changes_input = λ s e h. not_false (sym e ∙ h.keeps (λ _. true) 2 refl);
  too_large = λ s e h. let few : length s.aig.gates ≤ 1 = h.size in omega (arith, few, e);
  other_constant = λ s e h. not_false (ap (λ (x : Edge). x.negated)
      (other_edge (record { node = Constant; negated = false }) (record { node = Constant; negated = true })
      (sym e ∙ h.assumed 1 true refl other_quantifier)));
}
