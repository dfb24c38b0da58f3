use Rattle.std.proofs.Common.{◌<◌, [], ◌∷◌, inl, inr, refl, sym, ap, arith}
use Rattle.std.proofs.lemmas.Bool.{false≢true}
use Rattle.aig.specs.Circuits.{zero as never}
use Rattle.aig.specs.Worked.{gate}
use Rattle.aig.specs.declared.edge.And.{And}
use Rattle.aig.specs.declared.strategy.Output.{Output}
use Rattle.trim.specs.Trimmed.{IsAt, IsOver, IsReached}
use Rattle.trim.specs.Trimmed.IsReached.{of_output, of_gate}
use Rattle.trim.specs.Worked.{three, upper, with_outputs}
use Rattle.trim.proofs.Lists.{contains_head}
use Rattle.trim.proofs.Small.{apart, gate_number, lowest_not_reached, no_gate_of_input, upper_reached}
use Rattle.trim.proofs.worked.worked_reached.Goals as goal

not_there : IsAt three.gates 1 upper → ⊥
not_there at = false≢true (sym (ap (λ (g : And). g.right.negated) at.1))

not_over : IsOver upper 0 → ⊥
not_over (inl e) = apart 1 0 (omega arith) (ap gate_number e)
not_over (inr e) = no_gate_of_input 0 0 e

abbrev output : Output
output = record { var = 3; edge = gate 2 }

by_gate : IsReached (with_outputs three (gate 2) never) 1
by_gate =
    of_gate upper 2 1
    (of_output output 2 (contains_head output (record { var = 4; edge = never } ∷ [])) refl)
    ((let z : 2 < 3 = omega arith in z), refl) (inl refl)

pub returns : goal.returns
returns c = record {
  at_place = ((let z : 2 < 3 = omega arith in z), refl);
  at_no_place = not_there;
  over_gate = inl refl;
  over_input = not_over;
  from_output = upper_reached;
  from_gate = by_gate;
  not_reached = lowest_not_reached;
}
