-- Circuits that were trimmed.
use Rattle.std.proofs.Common.{◌≡◌, ◌∙◌, arith, ℕ, Bool, true, false, List, [], ◌∷◌, Option, Some, None, Result, Ok, Err, sym, ap, subst}
use Rattle.std.specs.Prelude.{IfOk, if◌then◌else◌, map, option_map, ◌==◌}
use Rattle.prefix.specs.Literal.{Literal}
use Rattle.calculus.specs.Plays.{Circuit, DependsOnEarlier, Wins}
use Rattle.frames.specs.Fold.{Given}
use Rattle.frames.specs.State.{OpenFormula, open_clauses}
use Rattle.engine.specs.Verdicts.{loser_of}
use Rattle.aig.specs.declared.edge.Edge.{Edge}
use Rattle.aig.specs.declared.edge.Node.TheVariants.{Constant}
use Rattle.aig.specs.declared.strategy.Output.{Output}
use Rattle.aig.specs.declared.strategy.Strategy.{Strategy}
use Rattle.aig.specs.Strategies.{output_of, values_of}
use Rattle.trim.specs.Trimmed.{IsTrimmed, KeepsReached, moved, moved_output}
use Rattle.solve.specs.Certificates.{AllReached, Certifies}

-- the edge of an output at another place
moved_if : (place : ℕ → ℕ) (first e : Edge) (rest moved_rest : Option Edge) (b : Bool)
    → (rest ≡ Some e → moved_rest ≡ Some (moved place e)) → (if b then Some first else rest) ≡ Some e
    → (if b then Some (moved place first) else moved_rest) ≡ Some (moved place e)
moved_if place first e rest moved_rest true later is = ap (option_map (moved place)) is
moved_if place first e rest moved_rest false later is = later is

moved_edge : (place : ℕ → ℕ) (outputs : List Output) (x : ℕ) (e : Edge) → output_of outputs x ≡ Some e
    → output_of (map (moved_output place) outputs) x ≡ Some (moved place e)
moved_edge place [] x e is = absurd (let f : None ≡ Some e = is in cc)
moved_edge place (o ∷ outputs) x e is =
    moved_if place o.edge e (output_of outputs x) (output_of (map (moved_output place) outputs) x) (o.var == x)
    (moved_edge place outputs x e) is

-- a circuit that certifies a verdict does so too when it is trimmed
still_certifies : (formula : OpenFormula) (given : Given) (values : List Literal) (bound : ℕ) (old new : Strategy)
    → Certifies formula given values bound old → IsTrimmed old new → KeepsReached old new
    → values_of new ≡ values_of old → Certifies formula given values bound new
still_certifies formula given values bound old new is trimmed kept plays = record {
  winner = trimmed.winner ∙ is.winner;
  inputs = trimmed.inputs ∙ is.inputs;
  outputs = trimmed.vars ∙ is.outputs;
  wins = subst (Wins (loser_of given.truth) formula.scopes (open_clauses formula) given.assumptions) (sym plays)
      is.wins;
  earlier = subst (DependsOnEarlier (loser_of given.truth) formula.scopes) (sym plays) is.earlier;
  assumed = λ x b some apart. ap (λ outputs. output_of outputs x) kept.outputs
      ∙ moved_edge kept.place old.outputs x (record { node = Constant; negated = b }) (is.assumed x b some apart);
  first_values = λ first l listed inputs. ap (λ (play : Circuit). play inputs l.variable) plays
      ∙ is.first_values first l listed inputs;
  few = let fewer = trimmed.size in let few = is.few in omega (arith, fewer, few);
}

pub trimmed_certifies : {E : Type 0} (formula : OpenFormula) (given : Given) (values : List Literal) (bound : ℕ)
    (old : Strategy) (r : Result Strategy E) → Certifies formula given values bound old → IfOk r (IsTrimmed old)
    → IfOk r (KeepsReached old) → IfOk r (λ s. values_of s ≡ values_of old)
    → IfOk r (Certifies formula given values bound)
trimmed_certifies formula given values bound old (Ok new) is trimmed kept plays =
    still_certifies formula given values bound old new is trimmed kept plays
trimmed_certifies formula given values bound old (Err e) is trimmed kept plays = tt

pub trimmed_reached : {E : Type 0} (old : Strategy) (r : Result Strategy E) → IfOk r (IsTrimmed old)
    → IfOk r AllReached
trimmed_reached old (Ok new) trimmed = trimmed.reached
trimmed_reached old (Err e) trimmed = tt
