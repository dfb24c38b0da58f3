use Rattle.std.specs.Prelude.{IfOk}
use Rattle.solve.specs.Certificates.{Certifies, gates_after}
use Rattle.files.proofs.Circuits.{trimmed_certifies, trimmed_reached}
use Rattle.solve.proofs.Written.{some_map}
use Rattle.files.proofs.file.circuit_of.Goals as goal

pub returns-then-trimmed-clause-certifies : goal.returns-then-trimmed-clause-certifies
returns-then-trimmed-clause-certifies c terms s holds =
    let old = c.in_ok-whole.whole in
    let bound = gates_after terms s.script in
    some_map s.script.verdict (λ given. Certifies s.script.formula given s.witness.values bound old)
    (λ given. IfOk c.trim.result (Certifies s.script.formula given s.witness.values bound))
    (λ given is. trimmed_certifies s.script.formula given s.witness.values bound old c.trim.result is
    c.trim.ensures.trimmed c.trim.ensures.gates c.trim.ensures.plays)
    (c.in_ok-whole.ensures.certifies terms s holds)

pub returns-then-trimmed-clause-reached : goal.returns-then-trimmed-clause-reached
returns-then-trimmed-clause-reached c is = trimmed_reached c.in_ok-whole.whole c.trim.result c.trim.ensures.trimmed
