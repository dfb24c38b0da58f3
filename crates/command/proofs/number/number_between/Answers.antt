use Rattle.std.proofs.Common.{rules, ◌≡◌, ◌∙◌, ◌<◌, ◌^◌, sym, arith}
use Rattle.std.proofs.lemmas.Fmt.{decimal_injective}
use Rattle.command.proofs.number.number_between.Goals as goal
use Rattle.command.proofs.number.number_between.Goals.{then-number-from-via-then-number-from, then-number-from-via-else-number-from+then-from-number}

pub returns-then-number-from-clause-none : goal.returns-then-number-from-clause-none
returns-then-number-from-clause-none c = λ n low high is.
    let small : c.in_ok-number.number < 2 ^ 64 = search rules in
    let same : c.in_ok-number.number ≡ n =
    decimal_injective c.in_ok-number.number n small (omega (arith, high, c.ranges.most.fits))
    (sym c.in_ok-number.ensures.some ∙ is) in
    elim c.then-number-from.branch [
      | then-number-from-via-then-number-from w ↦ omega (arith, low, same, c.from.ensures, w.if-number-from.true)
      | then-number-from-via-else-number-from+then-from-number w ↦
          omega (arith, high, same, w.from-else-number-from.ensures, w.if-from-number.true)
    ]
