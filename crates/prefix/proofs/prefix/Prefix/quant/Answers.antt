use Rattle.std.proofs.Common.{sym, ◌∙◌, ap, None}
use Rattle.std.specs.Prelude.{is_some}
use Rattle.prefix.proofs.QuantLemmas.{quant_found, quant_is}
use Rattle.prefix.proofs.TableLemmas.{get_or_past}
use Rattle.prefix.proofs.prefix.Prefix.quant.Goals as goal

pub returns-in_err-get-clause-value : goal.returns-in_err-get-clause-value
returns-in_err-get-clause-value c =
    c.from_residual.ensures
    ∙ sym (quant_is _ _ _ _ _ _ c.self.invariant.1 c.self.view_is c.index.ensures.place c.deref.ensures.value None
    (get_or_past _ _ c.in_err-get.ensures.lookup.3))

pub returns-in_err-get-clause-found : goal.returns-in_err-get-clause-found
returns-in_err-get-clause-found c =
    ap is_some (returns-in_err-get-clause-value c) ∙ quant_found c.args.self.now c.args.v

pub returns-clause-value : goal.returns-clause-value
returns-clause-value c =
    sym (quant_is _ _ _ _ _ _ c.self.invariant.1 c.self.view_is c.index.ensures.place c.deref.ensures.value
    c.in_ok-get.field-0.now (c.in_ok-get.ensures.lookup.3.1 None))

pub returns-clause-found : goal.returns-clause-found
returns-clause-found c = ap is_some (returns-clause-value c) ∙ quant_found c.args.self.now c.args.v
