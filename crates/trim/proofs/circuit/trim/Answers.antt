use Rattle.std.proofs.Common.{◌≡◌, [], ℕ, Result, Ok, ap, refl, ◌∙◌}
use Rattle.aig.specs.Circuits.{Circuit}
use Rattle.aig.specs.declared.strategy.Strategy.{Strategy}
use Rattle.trim.proofs.Rebuilding.{rebuilds_first}
use Rattle.trim.proofs.Trimming.{IsRebuilt, is_trimmed, keeps_reached, plays, rebuilt_from, stays}
use Rattle.trim.proofs.circuit.trim.Goals as goal

ok_is : {E : Type 0} (x y : Circuit) → ◌≡◌ {A = Result Circuit E} (Ok x) (Ok y) → x ≡ y
ok_is x y e = cc

pub put_gates-requires-clause-start : goal.put_gates-requires-clause-start
put_gates-requires-clause-start c =
    rebuilds_first c.args.strategy.now.aig c.deref.result.now c.new-table.result.items c.in_ok-aig.aig
    c.new-table.ensures.items
    (ok_is c.in_ok-aig.aig (record { inputs = c.inputs.result; gates = [] }) c.in_ok-aig.ensures
    ∙ ap (λ (n : ℕ). record { inputs = n; gates = [] }) c.inputs.ensures)

abbrev made : goal.After-drop-marks-2 → Strategy
made c = record {
  aig = c.put_gates.new.aig;
  winner = c.args.strategy.now.winner;
  inputs = c.from_vec.result;
  outputs = c.from_vec-2.result;
}

is_made : (c : goal.After-drop-marks-2)
    → IsRebuilt c.args.strategy.now c.deref.result.now c.put_gates.new.table.items (made c)
is_made c =
    rebuilt_from c.args.strategy.now (made c) c.in_ok-marks.marks.items c.deref.result.now c.put_gates.new.table.items
    c.deref-2.result.now c.in_ok-outputs.outputs.items c.requires c.put_gates.ensures.gates c.in_ok-marks.ensures
    c.deref.ensures.value c.in_ok-put_gates.ensures.all refl
    (c.from_vec.ensures ∙ c.in_ok-inputs.ensures.items ∙ c.vars.ensures) c.from_vec-2.ensures c.in_ok-outputs.ensures
    c.deref-2.ensures.value

pub returns-clause-trimmed : goal.returns-clause-trimmed
returns-clause-trimmed c =
    is_trimmed c.args.strategy.now c.deref.result.now c.put_gates.new.table.items (made c) (is_made c)

pub returns-clause-gates : goal.returns-clause-gates
returns-clause-gates c =
    keeps_reached c.args.strategy.now c.deref.result.now c.put_gates.new.table.items (made c) (is_made c)

pub returns-clause-whole : goal.returns-clause-whole
returns-clause-whole c =
    stays c.args.strategy.now c.deref.result.now c.put_gates.new.table.items (made c) (is_made c)

pub returns-clause-plays : goal.returns-clause-plays
returns-clause-plays c =
    plays c.args.strategy.now c.deref.result.now c.put_gates.new.table.items (made c) (is_made c)
