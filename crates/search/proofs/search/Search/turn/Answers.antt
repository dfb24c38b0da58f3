use Rattle.std.proofs.Common.{arith, rules}
use Rattle.std.proofs.lemmas.Result.{err_from_is_err_and}
use Rattle.prefix.specs.declared.quant.Quant.TheVariants.{Exists}
use Rattle.steps.specs.declared.stop.Stop.TheVariants.{Spent as spent}
use Rattle.search.proofs.Learning.{on_err, on_err_at}
use Rattle.search.proofs.Following.{advances_then, continues_owing, due_then, ends_then, ends_within, halts_now, halts_then, matrix_moves}
use Rattle.search.proofs.Forcing.{few_analysis, forced_level, never_quiet}
use Rattle.search.proofs.Reducing.{reductions_same}
use Rattle.search.proofs.search.Search.turn.Goals as goal

pub learn-requires-clause-row : goal.learn-requires-clause-row
learn-requires-clause-row c =
    let found = rw c.in-Some.is at c.in_ok-bad.ensures.found in
    c.propagate_all.ensures.goes.goes.searching.paused.intact.watched.sides c.in-Some.bad.side c.in-Some.bad.row found.0

pub quiet-requires-clause-matrix : goal.quiet-requires-clause-matrix
quiet-requires-clause-matrix c =
    matrix_moves c.args.self.now.derivation c.propagate_all.new.self.derivation c.args.matrix.now
    c.propagate_all.ensures.goes.goes.clauses c.requires.matrix

pub returns-in_err-bad-clause-stops : goal.returns-in_err-bad-clause-stops
returns-in_err-bad-clause-stops c = record {
  err =
      let p = err_from_is_err_and c.from_residual.result c.from_residual.ensures.1 in
      rw p.1 (halts_now c.propagate_all.ensures.goes.goes);
  spent = search rules;
  due = λ is. c.in_err-bad.ensures.due;
  reductions =
      let same = reductions_same c.args.self.now.derivation c.propagate_all.new.self.derivation
      c.propagate_all.ensures.goes.steps in
      omega (arith, same);
}

pub returns-in_err-bad-clause-refuted : goal.returns-in_err-bad-clause-refuted
returns-in_err-bad-clause-refuted c = λ start refuting is. c.in_err-bad.ensures.few c.args.matrix.now start refuting

pub returns-in-Some-clause-goes : goal.returns-in-Some-clause-goes
returns-in-Some-clause-goes c =
    let p = c.propagate_all.ensures.goes in
    let goes = continues_owing p.goes in
    record {
      go = λ is. advances_then goes (c.learn.ensures.goes.go is);
      end = ends_within c.learn.result _ _ (λ e. ends_then goes e.side e.row) c.learn.ensures.goes.end;
      restarts = λ few. c.learn.ensures.goes.restarts (rw p.restarts few);
      long = search rules;
    }

pub returns-in-Some-clause-stops : goal.returns-in-Some-clause-stops
returns-in-Some-clause-stops c =
    let p = c.propagate_all.ensures.goes in
    let goes = continues_owing p.goes in
    record {
      err = on_err c.learn.result (halts_then goes) c.learn.ensures.stops.err;
      spent = search rules;
      due = λ is. due_then goes (c.learn.ensures.stops.due is);
      reductions =
          let same = reductions_same c.args.self.now.derivation c.propagate_all.new.self.derivation p.steps in
          let rises = p.goes.rises in
          let few = c.learn.ensures.stops.reductions in
          omega (arith, same, rises, few);
    }

pub returns-in-Some-clause-forced : goal.returns-in-Some-clause-forced
returns-in-Some-clause-forced c = λ start refuting is.
    let now = c.propagate_all.ensures.goes.refuting c.args.matrix.now start refuting in
    absurd (c.learn.ensures.ends (forced_level c.args.prefix.now start c.propagate_all.new.self
    c.propagate_all.new.steps now.forced) is)

pub returns-in-Some-clause-refuted : goal.returns-in-Some-clause-refuted
returns-in-Some-clause-refuted c = λ start refuting is.
    let p = c.propagate_all.ensures.goes in
    let between = c.propagate_all.new.self in
    let steps = c.propagate_all.new.steps in
    let now = p.refuting c.args.matrix.now start refuting in
    let few = few_analysis c.args.prefix.now start between steps p.goes.searching now.forced
    (c.learn.ensures.few (forced_level c.args.prefix.now start between steps now.forced) is) in
    let halts = on_err_at c.learn.result spent is (λ h. h) c.learn.ensures.stops.err in
    rw halts.budget few

pub returns-in-None-clause-goes : goal.returns-in-None-clause-goes
returns-in-None-clause-goes c =
    let p = c.propagate_all.ensures.goes in
    record {
      go = λ is. advances_then p.goes (c.quiet.ensures.goes.go is);
      end = ends_within c.quiet.result _ _ (λ e. ends_then p.goes e.side e.row) c.quiet.ensures.goes.end;
      restarts = λ few. c.quiet.ensures.goes.restarts (rw p.restarts few);
      long = search rules;
    }

pub returns-in-None-clause-stops : goal.returns-in-None-clause-stops
returns-in-None-clause-stops c =
    let p = c.propagate_all.ensures.goes in
    record {
      err = on_err c.quiet.result (halts_then p.goes) c.quiet.ensures.stops.err;
      spent = search rules;
      due = λ is. due_then p.goes (c.quiet.ensures.stops.due is);
      reductions =
          let same = reductions_same c.args.self.now.derivation c.propagate_all.new.self.derivation p.steps in
          let rises = p.goes.rises in
          let few = c.quiet.ensures.stops.reductions in
          omega (arith, same, rises, few);
    }

pub returns-in-None-clause-forced : goal.returns-in-None-clause-forced
returns-in-None-clause-forced c = λ start refuting is.
    let p = c.propagate_all.ensures.goes in
    let found = rw c.in-None.is at c.in_ok-bad.ensures.found in
    absurd (never_quiet c.args.prefix.now c.args.matrix.now start c.propagate_all.new.self c.propagate_all.new.steps
    p.goes.searching.paused
    (matrix_moves c.args.self.now.derivation c.propagate_all.new.self.derivation c.args.matrix.now p.goes.clauses
    c.requires.matrix) (p.refuting c.args.matrix.now start refuting) (found Exists))

pub returns-in-None-clause-refuted : goal.returns-in-None-clause-refuted
returns-in-None-clause-refuted c = λ start refuting is.
    let p = c.propagate_all.ensures.goes in
    let found = rw c.in-None.is at c.in_ok-bad.ensures.found in
    absurd (never_quiet c.args.prefix.now c.args.matrix.now start c.propagate_all.new.self c.propagate_all.new.steps
    p.goes.searching.paused
    (matrix_moves c.args.self.now.derivation c.propagate_all.new.self.derivation c.args.matrix.now p.goes.clauses
    c.requires.matrix) (p.refuting c.args.matrix.now start refuting) (found Exists))
