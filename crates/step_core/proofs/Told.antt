-- What a step that is told says.
use Rattle.std.proofs.Common.{◌≡◌, ℕ, true, is_some, sym, ap, ◌∙◌, subst}
use Rattle.prefix.specs.declared.quant.Quant.{Quant}
use Rattle.calculus.specs.Derivations.{RestsOn, Why}
use Rattle.derive.specs.Antecedents.{IsAntecedentIn}
use Rattle.derive.specs.State.{State, is_live}
use Rattle.derive.specs.Told.{told, why_of}
use Rattle.derive.specs.declared.step.Step.{Step}
use Rattle.derive.proofs.Sweeps.{why_told}

-- the step that was told
pub why_is : (side : Quant) (why : Why) (step : Step) → step ≡ told side why → why ≡ why_of step
why_is side why step is = sym (ap why_of is ∙ why_told side why)

-- what is told to rest on something does
pub rests_told : (side : Quant) (why : Why) (step : Step) (on : ℕ) → step ≡ told side why → RestsOn (why_of step) on
    → RestsOn why on
rests_told side why step on is rests = subst (λ w. RestsOn w on) (sym (why_is side why step is)) rests

-- an antecedent is live
pub antecedent_live : (d : State) (id on : ℕ) (side : Quant) → IsAntecedentIn d.notes id side on → is_live d on ≡ true
antecedent_live d id on side a = ap is_some a.there
