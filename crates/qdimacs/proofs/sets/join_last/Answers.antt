use Rattle.std.proofs.Common.{◌≡◌, ◌-◌, ◌<◌, ◌++◌, ◌∷◌, [], suc, ap, ◌∙◌, arith, length}
use Rattle.std.proofs.lemmas.Result.{err_from_is_err_and}
use Rattle.qdimacs.proofs.Lasts.{last_joined, set_same}
use Rattle.qdimacs.proofs.sets.join_last.Goals as goal

pub returns-clause-ok : goal.returns-clause-ok
returns-clause-ok c =
    let rows = c.args.rows.now.items in
    let long : length rows ≡ suc (c.len-last.result - 1) = omega (arith, c.len-last.ensures, c.requires) in
    let row = c.index_mut-row.result.now in
    last_joined c.args.v rows (c.len-last.result - 1) row _ long (ap (λ r. r.quant) c.index_mut-row.ensures.value)
    (c.in_ok-push.ensures.items ∙ ap (λ r. r.vars.items ++ c.args.v ∷ []) c.index_mut-row.ensures.value)

pub returns-in_err-push-clause-err : goal.returns-in_err-push-clause-err
returns-in_err-push-clause-err c =
    let rows = c.args.rows.now.items in
    let low : c.len-last.result - 1 < length rows = omega (arith, c.len-last.ensures, c.requires) in
    let row = c.index_mut-row.result.now in
    let p = err_from_is_err_and c.from_residual.result c.from_residual.ensures.1 in
    rw p.1 (set_same rows (c.len-last.result - 1) row (record { quant = row.quant; vars = c.push.new.self }) low
    (ap (λ r. r.quant) c.index_mut-row.ensures.value)
    (c.in_err-push.ensures.items ∙ ap (λ r. r.vars.items) c.index_mut-row.ensures.value))
