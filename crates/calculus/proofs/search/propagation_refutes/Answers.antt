use Rattle.prefix.specs.declared.quant.Quant.TheVariants.{Exists}
use Rattle.calculus.specs.Rows.{reduce}
use Rattle.calculus.proofs.Propagation.{propagation_refutes}
use Rattle.calculus.proofs.search.propagation_refutes.Goals as goal

pub returns : goal.returns
returns c scopes clauses rows values literals among holds quiet refuted = propagation_refutes scopes clauses values
    literals holds
    (record {
      none_bad = λ clause i bad. quiet.none_bad (reduce Exists scopes clause) (among clause i) bad;
      none_unit =
          λ clause literal i unit. quiet.none_unit (reduce Exists scopes clause) literal (among clause i) unit;
    })
    refuted
