use Rattle.std.proofs.Common.{ℕ, ◌<◌, Option, sym, ap, ap₂, subst, ◌∙◌}
use Rattle.std.specs.Prelude.{IfSome, unwrap_or}
use Rattle.certcheck.specs.Check.{number_when}
use Rattle.certcheck.specs.Tables.{entry_of}
use Rattle.certcheck.proofs.Named.{entry_small, number_named}
use Rattle.certcheck.proofs.lost.number_of.Goals as goal

pub when-requires : goal.when-requires
when-requires c =
    subst (λ k. k < 2097154) (sym c.unwrap_or.ensures) (entry_small c.entry_at.result
    (subst (λ (o : Option ℕ). IfSome o (λ n. n < 2097154)) (sym c.entry_at.ensures) (c.requires c.var.result)))

pub returns-clause-value : goal.returns-clause-value
returns-clause-value c ns table =
    c.when.ensures.value
    ∙ ap₂ (λ b n. number_when b n) c.is_positive.ensures (c.unwrap_or.ensures
    ∙ ap (λ (o : Option ℕ). unwrap_or o 0) (c.entry_at.ensures ∙ ap (entry_of c.args.table.now) c.var.ensures
    ∙ table c.args.lit.variable) ∙ number_named ns c.args.lit.variable)
