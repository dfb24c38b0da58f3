use Rattle.std.proofs.Common.{◌≡◌, Some, None, Contains, IsTrue, ap, sym, subst, ◌∙◌}
use Rattle.calculus.specs.Search.{cause_on}
use Rattle.derive.specs.State.{is_live}
use Rattle.search.specs.Forgetting.{reason_of}
use Rattle.search.proofs.Learning.{on_ok}
use Rattle.search.proofs.Thinning.{reason_here}
use Rattle.search.proofs.forgetting.push_reason.Goals as goal

pub returns-in-Some-clause-there : goal.returns-in-Some-clause-there
returns-in-Some-clause-there c =
    on_ok c.push_live.result
    (λ there. λ x id place cause live.
    let e = reason_here c.args.trail.now.placed x c.at.result.variable id c.at.result.positive cause
    c.at.ensures.value (place ∙ sym c.at.ensures.place) in
    let g : Some c.in-Some.id ≡ Some id = sym c.in-Some.is ∙ (c.propagated_from.ensures
    ∙ (ap (λ v. reason_of (cause_on c.args.trail.now.placed v)) c.var.ensures ∙ e)) in
    let same : c.in-Some.id ≡ id = cc in
    subst (λ i. Contains c.push_live.new.keep.items i) same
    (there (subst (λ i. IsTrue (is_live c.args.derivation.now i))
    (sym same) live)))
    c.push_live.ensures.there

pub returns-in-None-clause-there : goal.returns-in-None-clause-there
returns-in-None-clause-there c = λ x id place cause live.
    let e = reason_here c.args.trail.now.placed x c.at.result.variable id c.at.result.positive cause
    c.at.ensures.value (place ∙ sym c.at.ensures.place) in
    absurd (let g : None ≡ Some id = sym c.in-None.is ∙ (c.propagated_from.ensures
    ∙ (ap (λ v. reason_of (cause_on c.args.trail.now.placed v)) c.var.ensures ∙ e)) in cc)
