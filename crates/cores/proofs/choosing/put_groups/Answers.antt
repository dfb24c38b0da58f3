use Rattle.std.proofs.Common.{◌≡◌, ℕ, ◌-◌, ◌<◌, ◌≤◌, List, arith, drop, length, sym, subst}
use Rattle.std.proofs.lemmas.List.{drop_all}
use Rattle.calculus.specs.Rows.{IsRow}
use Rattle.cores.specs.Cores.{Group}
use Rattle.cores.specs.Trials.{IsTrying}
use Rattle.cores.proofs.Trying.{group_at, rows_at}
use Rattle.cores.proofs.choosing.put_groups.Goals as goal

pub loop-left-init : goal.loop-left-init
loop-left-init c = record {
  resting = c.requires.resting;
  groups = λ others start.
      subst (λ (gs : List Group). IsTrying c.args.prefix.now c.args.search.now others gs)
      (sym (drop_all (length c.args.parts.now - 0) c.args.parts.now (omega arith))) start;
}

pub add_clauses-requires-clause-rows : goal.add_clauses-requires-clause-rows
add_clauses-requires-clause-rows c =
    let low : length c.args.parts.now - 1 - c.loop-left.left < length c.args.parts.now =
    (let within : c.loop-left.left < length c.args.parts.now = c.loop-left-test.true in omega arith) in
    rw c.clauses.ensures (rows_at (IsRow c.args.prefix.now) c.args.parts.now
    (length c.args.parts.now - 1 - c.loop-left.left) c.index-parts-parts.result low c.index-parts-parts.is
    c.requires.parts)

pub loop-left-preserved : goal.loop-left-preserved
loop-left-preserved c = record {
  resting = c.add_clauses.ensures.resting;
  groups = λ others start.
      group_at c.args.prefix.now c.loop-left.search c.add_clauses.new.self others c.args.parts.now c.loop-left.left
      c.index-parts-parts.result c.loop-left-test.true c.index-parts-parts.is c.add_clauses.ensures.resting
      (rw c.clauses.ensures at c.in_ok-add_clauses.ensures.ok) (c.loop-left.invariant.groups others start);
}

pub returns : goal.returns
returns c others start =
    subst (λ (n : ℕ). IsTrying c.args.prefix.now c.loop-left.search others (drop n c.args.parts.now))
    (let high : length c.args.parts.now ≤ c.loop-left.left = c.loop-left-test.false in
    let none : length c.args.parts.now - c.loop-left.left ≡ 0 = omega arith in
    none)
    (c.loop-left.invariant.groups others start)
