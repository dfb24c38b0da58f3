use Rattle.std.proofs.Common.{◌≡◌, ◌<◌, ℕ, zero, suc, [], ◌∷◌, inl, ⊎_elim, true, false, refl, subst, arith}
use Rattle.std.proofs.lemmas.Bool.{false≢true}
use Rattle.aig.specs.Circuits.{zero as never}
use Rattle.aig.specs.Worked.{gate}
use Rattle.aig.specs.declared.strategy.Output.{Output}
use Rattle.trim.specs.Trimmed.{IsReached}
use Rattle.trim.specs.Trimmed.IsReached.{of_output}
use Rattle.trim.specs.Marks.{AreMarks, is_marked}
use Rattle.trim.specs.Worked.{three, untrimmed, upper, with_outputs}
use Rattle.trim.proofs.Lists.{contains_head, contains_nil}
use Rattle.trim.proofs.Small.{by_marks, fourth_var, gate_over, lowest_not_reached, middle_reached, output_gate, third_var, upper_reached}
use Rattle.trim.proofs.worked.worked_marks.Goals as goal

abbrev is_there : ℕ → Type 0
is_there j = is_marked (false ∷ true ∷ true ∷ []) j ≡ true

reached : AreMarks untrimmed untrimmed.outputs 0 (false ∷ true ∷ true ∷ [])
reached = record {
  room = refl;
  sound = by_marks (IsReached untrimmed) middle_reached upper_reached;
  first = λ o j c e. ⊎_elim (λ (i : 2 ≡ j). subst is_there i refl) (λ (i : 1 ≡ j). subst is_there i refl)
      (output_gate o j c e);
  closed = λ g k j low m at over. subst is_there (gate_over g k j at over) refl;
}

abbrev output : Output
output = record { var = 3; edge = gate 2 }

only : (j : ℕ) → is_marked (false ∷ false ∷ true ∷ []) j ≡ true → IsReached (with_outputs three (gate 2) never) j
only zero m = absurd (false≢true m)
only (suc zero) m = absurd (false≢true m)
only (suc (suc zero)) m = of_output output 2 (contains_head output (record { var = 4; edge = never } ∷ [])) refl
only (suc (suc (suc j))) m = absurd (false≢true m)

pub returns : goal.returns
returns c = record {
  marked = refl;
  unmarked = refl;
  behind = refl;
  none_before = refl;
  one_before = refl;
  two_before = refl;
  reached = reached;
  too_many = λ h. lowest_not_reached (h.sound 0 refl);
  too_few = λ h. false≢true (h.first third_var 2 (contains_head third_var (fourth_var ∷ [])) refl);
  not_closed = λ h.
      false≢true (h.closed upper 2 1 (omega arith) refl ((let z : 2 < 3 = omega arith in z), refl) (inl refl));
  closed_behind = record {
    room = refl;
    sound = only;
    first = λ o j c e. absurd (contains_nil o c);
    closed = λ g k j low m at over. let below : k < 3 = at.0 in absurd (omega arith);
  };
}
