use Rattle.std.proofs.Common.{◌≡◌, sym, subst}
use Rattle.std.proofs.lemmas.Result.{IfOk-weaker}
use Rattle.truth.specs.declared.formula.Formula.{Formula}
use Rattle.truth.specs.Truth.{truth}
use Rattle.truth.specs.Formed.{IsFormed}
use Rattle.qcir.specs.Truth.{circuit_truth}
use Rattle.qcir.specs.Translation.{translated}
use Rattle.qcir.proofs.Formed.{translated_formed}
use Rattle.qcir.proofs.formula.translate.Goals as goal

pub returns-clause-truth : goal.returns-clause-truth
returns-clause-truth c =
    let circuit = c.args.circuit.now in
    IfOk-weaker c.make.result (λ (f : Formula). f ≡ translated circuit)
    (λ (f : Formula). truth f.prefix f.clauses ≡ circuit_truth circuit)
    (λ f e.
    subst (λ (g : Formula). truth g.prefix g.clauses ≡ circuit_truth circuit) (sym e)
    (c.translations_decide.ensures circuit c.requires.circuit))
    c.make.ensures

pub returns-clause-formed : goal.returns-clause-formed
returns-clause-formed c =
    let circuit = c.args.circuit.now in
    IfOk-weaker c.make.result (λ (f : Formula). f ≡ translated circuit) IsFormed
    (λ f e. subst IsFormed (sym e) (translated_formed circuit c.requires.circuit c.requires.clauses))
    c.make.ensures
