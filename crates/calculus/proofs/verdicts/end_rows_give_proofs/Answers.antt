use Rattle.calculus.specs.Derivations.{side_core}
use Rattle.calculus.proofs.Cores.{core_gives}
use Rattle.calculus.proofs.Needed.{its_core}
use Rattle.calculus.proofs.verdicts.end_rows_give_proofs.Goals as goal

pub returns : goal.returns
returns c = record {
  core = λ pivot scopes clauses assumptions steps end d one stands core ends. core_gives pivot scopes clauses
      assumptions steps end d one stands core ends;
  step = λ scopes clauses assumptions steps end d stands ends.
      let r = its_core scopes clauses steps end d stands in
      core_gives end.side scopes clauses assumptions (side_core steps end) end r.legal (λ s i. (r.part s i).1)
      r.holds_end r.is_core ends;
}
