use Rattle.std.proofs.Common.{ap, subst, ◌∙◌, rules}
use Rattle.decide.specs.Decision.{IsDecision}
use Rattle.search.specs.State.{SearchState}
use Rattle.search.proofs.Learning.{on_err}
use Rattle.search.proofs.Following.{advances_then, continues_moved, due_decision, due_then, ends_then, ends_within, halts_then}
use Rattle.search.proofs.search.Search.quiet.Goals as goal

pub returns-in_default-clause-goes : goal.returns-in_default-clause-goes
returns-in_default-clause-goes c =
    let goes = continues_moved (ap (λ (s : SearchState). s.derivation) c.self.view_is)
    (ap (λ (s : SearchState). s.trail) c.self.view_is) c.in_ok-cube.ensures.ok in
    record {
      go = λ is. advances_then goes (c.learn.ensures.goes.go is);
      end = ends_within c.learn.result _ _ (λ e. ends_then goes e.side e.row) c.learn.ensures.goes.end;
      restarts = search rules;
      long = search rules;
    }

pub returns-in_default-clause-stops : goal.returns-in_default-clause-stops
returns-in_default-clause-stops c =
    let goes = continues_moved (ap (λ (s : SearchState). s.derivation) c.self.view_is)
    (ap (λ (s : SearchState). s.trail) c.self.view_is) c.in_ok-cube.ensures.ok in
    record {
      err = on_err c.learn.result (halts_then goes) c.learn.ensures.stops.err;
      spent = search rules;
      due = λ is. due_then goes (c.learn.ensures.stops.due is);
      reductions = search rules;
    }

pub returns-in_err-decide-clause-stops : goal.returns-in_err-decide-clause-stops
returns-in_err-decide-clause-stops c = record {
  err = search rules;
  spent = search rules;
  due =
      λ is.
      due_decision c.args.prefix.now c.args.self.now c.decide.new.self c.in-Some.lit.variable c.requires.searching
      c.requires.allowed
      (subst (λ (s : SearchState). IsDecision c.args.prefix.now s.trail.placed c.in-Some.lit.variable) c.self.view_is
      c.in-Some.ensures.decision)
      (ap (λ (s : SearchState). s.trail.assigned) c.in_err-decide.ensures.same
      ∙ ap (λ (s : SearchState). s.trail.assigned) c.self.view_is);
  reductions = search rules;
}
