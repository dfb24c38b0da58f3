-- The groups of clauses joined.
use Rattle.std.proofs.Common.{◌≡◌, ℕ, ◌+◌, List, [], ◌∷◌, ◌++◌, length, ap, ap₂, subst, ◌∙◌, append_assoc}
use Rattle.prefix.specs.Literal.{Literal}
use Rattle.calculus.specs.Rows.{Row}
use Rattle.aig.specs.declared.strategy.Strategy.{Strategy}
use Rattle.certcheck.specs.Check.{check_clauses, falsified, gate_clauses, given, given_outputs, greatest, lost, lost_count, named_inputs, names, numbered, selectors, units}
use Rattle.builder.specs.Building.{Adds, Builds}
use Rattle.certcheck.specs.Building.{losing_clauses}
use Rattle.builder.specs.Building.{Kept}
use Rattle.builder.proofs.Adding.{adds_more, adds_same}
use Rattle.certcheck.proofs.Selecting.{selectors_joined}

pub losing_joined : (first mid late last : Kept) (clauses : List Row) (outputs : List ℕ) (s : Strategy) (from k : ℕ)
    → from ≡ greatest s + 1 → k ≡ lost_count s.winner clauses
    → Adds first mid (lost s.winner from (numbered (names s) clauses))
    → Adds mid late (falsified (from + k) (units outputs))
    → Adds late last (selectors from (k + length outputs) ∷ [])
    → Adds first last (losing_clauses clauses outputs s)
losing_joined first mid late last clauses outputs s from k is count a b c =
    let xs = numbered (names s) clauses in
    adds_same first last
    (lost s.winner from xs ++ (falsified (from + k) (units outputs) ++ selectors from (k + length outputs) ∷ []))
    (losing_clauses clauses outputs s)
    (ap₂ (λ f n. lost s.winner f xs ++ (falsified (f + n) (units outputs) ++ selectors f (n + length outputs) ∷ []))
    is count)
    (adds_more first mid last (lost s.winner from xs)
    (falsified (from + k) (units outputs) ++ selectors from (k + length outputs) ∷ []) a
    (adds_more mid late last (falsified (from + k) (units outputs)) (selectors from (k + length outputs) ∷ []) b c))

pub all_joined : (first mid last : Kept) (clauses : List Row) (assumptions : List Literal) (outputs : List ℕ)
    (s : Strategy) → outputs ≡ given_outputs assumptions s → Builds first []
    → Adds first mid (units (given assumptions (named_inputs 0 s.inputs)) ++ gate_clauses s.aig.inputs 0 s.aig.gates)
    → Adds mid last (losing_clauses clauses outputs s) → Builds last (check_clauses clauses assumptions s)
all_joined first mid last clauses assumptions outputs s is begun a b =
    let front = units (given assumptions (named_inputs 0 s.inputs)) in
    let gates = gate_clauses s.aig.inputs 0 s.aig.gates in
    let from = greatest s + 1 in
    let k = lost_count s.winner clauses in
    let missed = given_outputs assumptions s in
    subst (Builds last)
    (append_assoc front gates (losing_clauses clauses outputs s)
    ∙ ap (λ o. front ++ (gates ++ losing_clauses clauses o s)) is
    ∙ ap (λ l. front ++ (gates ++ (lost s.winner from (numbered (names s) clauses)
    ++ (falsified (from + k) (units missed) ++ l ∷ [])))) (selectors_joined from k (length missed)))
    (adds_more first mid last (front ++ gates) (losing_clauses clauses outputs s) a b [] begun)
