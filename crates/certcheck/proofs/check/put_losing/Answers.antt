use Rattle.std.proofs.Common.{List, ℕ, Option, ◌+◌, refl, sym, ap₂, subst}
use Rattle.std.proofs.lemmas.Result.{on_ok_weaker}
use Rattle.certcheck.specs.Check.{names}
use Rattle.certcheck.specs.Tables.{IsTableOf}
use Rattle.certcheck.proofs.Joining.{losing_joined}
use Rattle.certcheck.proofs.check.put_losing.Goals as goal

pub returns : goal.returns
returns c =
    let s = c.args.s.now in
    let table : IsTableOf c.deref.result.now (names s) =
    subst (λ (t : List (Option ℕ)). IsTableOf t (names s)) (sym c.deref.ensures.value) c.in_ok-table.ensures.table in
    on_ok_weaker c.put_selectors.result
    (λ last. losing_joined c.args.build.now c.put_lost.new.build c.put_missed.new.build c.put_selectors.new.build
    c.args.clauses.now c.args.outputs.now s (c.inputs.result + c.gates.result + 1) c.lost_selectors-lost.result
    (ap₂ (λ a b. a + b + 1) c.inputs.ensures c.gates.ensures.count)
    (c.lost_selectors-lost.ensures c.args.clauses.now refl)
    (c.in_ok-put_lost.ensures.adds (names s) table) c.in_ok-put_missed.ensures.adds last)
    c.put_selectors.ensures.adds
