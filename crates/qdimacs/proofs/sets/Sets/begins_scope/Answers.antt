use Rattle.std.proofs.Common.{◌≡◌, ◌-◌, suc, sym, ap, ◌∙◌, arith, not, length}
use Rattle.qdimacs.specs.Formula.{same_quant}
use Rattle.qdimacs.proofs.Lasts.{differs_at}
use Rattle.qdimacs.proofs.sets.Sets.begins_scope.Goals as goal

pub returns-else-n-eq0 : goal.returns-else-n-eq0
returns-else-n-eq0 c =
    let rows = c.args.self.now.rows.items in
    let long : length rows ≡ suc (c.len-n.result - 1) = omega (arith, c.len-n.ensures, c.if-n-eq0.false) in
    ap not c.same.ensures ∙ ap (λ r. not (same_quant r.quant c.args.quant)) c.index.ensures
    ∙ sym (differs_at c.args.quant rows (c.len-n.result - 1) c.index.result.now long)
