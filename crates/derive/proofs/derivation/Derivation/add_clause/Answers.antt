use Rattle.std.proofs.Common.{◌≡◌, ◌≢◌, ◌∙◌, ap, is_some, sym}
use Rattle.std.proofs.lemmas.Bool.{true≢false}
use Rattle.std.proofs.lemmas.Result.{IfOk-weaker}
use Rattle.prefix.specs.declared.quant.Quant.TheVariants.{Exists}
use Rattle.calculus.specs.Rows.{reduce}
use Rattle.derive.specs.Adding.{Adds, clause_note}
use Rattle.derive.proofs.Additions.{removes_none, removes_more}
use Rattle.derive.proofs.derivation.Derivation.add_clause.Goals as goal

pub returns-then-is_reduced_of-clause-ok : goal.returns-then-is_reduced_of-clause-ok
returns-then-is_reduced_of-clause-ok c =
    let whole = c.is_reduced_of.ensures.0 c.if-is_reduced_of.true in
    let adds : Adds c.args.self.now c.add.new.self c.in_ok-id.id (clause_note c.args.frame) c.args.lits.now =
    rw c.new-input.ensures at c.in_ok-id.ensures.ok in
    record {
      with_input = c.add.new.self;
      input = adds;
      reduction = removes_none _ _ _ _ adds.has_rows
          (ap is_some adds.there) (whole ∙ sym adds.has_row);
    }

pub returns-clause-ok : goal.returns-clause-ok
returns-clause-ok c =
    let reduced : c.as_slice.result.now ≡ reduce Exists c.args.prefix.now c.args.lits.now = c.as_slice.ensures
    ∙ c.in_ok-reduce_of.ensures in
    let shorter : reduce Exists c.args.prefix.now c.args.lits.now ≢ c.args.lits.now =
    λ e. true≢false (sym (c.is_reduced_of.ensures.1 e) ∙ c.if-is_reduced_of.false) in
    IfOk-weaker c.add_both.result _ _
    (λ ids both. record {
      with_input = both.with_input;
      input = both.input;
      reduction = removes_more _ _ _ _ _ _ (λ e. shorter (e ∙ both.input.has_row)) (rw reduced at both.reduction);
    })
    c.add_both.ensures.ok
