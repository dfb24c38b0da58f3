use Rattle.std.proofs.Common.{◌+◌, ◌++◌, ap, sym, ◌∙◌, append_assoc, drop}
use Rattle.std.proofs.lemmas.List.{append-nil, drop_all}
use Rattle.cores.specs.Cores.{grouped_in}
use Rattle.cores.proofs.Trying.{dropped}
use Rattle.cores.proofs.trial.matrix_with.Goals as goal

pub loop-next-init : goal.loop-next-init
loop-next-init c = ap (λ m. m ++ grouped_in (drop c.args.from c.args.parts.now)) c.in_ok-matrix.ensures

pub loop-next-preserved : goal.loop-next-preserved
loop-next-preserved c =
    let parts = c.args.parts.now in
    let p = c.index-parts-next.result in
    let matrix = c.loop-next.matrix in
    let behind = grouped_in (drop (c.loop-next.next + 1) parts) in
    ap (λ m. m ++ behind) c.in_ok-push.ensures.ok
    ∙ ap (λ r. (matrix ++ r) ++ behind) c.clauses.ensures
    ∙ append_assoc matrix p.clauses behind
    ∙ ap (λ gs. matrix ++ grouped_in gs)
    (sym (dropped parts c.loop-next.next p c.loop-next-test.true c.index-parts-next.is))
    ∙ c.loop-next.invariant

pub returns : goal.returns
returns c =
    sym (append-nil c.loop-next.matrix)
    ∙ ap (λ gs. c.loop-next.matrix ++ grouped_in gs)
    (sym (drop_all c.loop-next.next c.args.parts.now c.loop-next-test.false))
    ∙ c.loop-next.invariant
