use Rattle.std.proofs.Common.{◌≡◌, Err, sym, ap, subst, ◌∙◌, rules}
use Rattle.std.proofs.lemmas.Result.{err_from_is_err_and}
use Rattle.steps.specs.declared.stop.Stop.TheVariants.{Spent as spent}
use Rattle.analyse.specs.declared.lesson.Lesson.{Lesson}
use Rattle.analyse.specs.Lessons.{IsLesson}
use Rattle.clean.proofs.Rounds.{on_err}
use Rattle.clean.specs.Reasons.{IsReducedStep}
use Rattle.prefix.specs.declared.quant.Quant.{Quant}
use Rattle.search.specs.Counting.{lesson_cost, size_of}
use Rattle.search.specs.Moves.{Advances, Analyses}
use Rattle.search.specs.State.{IsSearching, SearchState}
use Rattle.search.proofs.Following.{advances_at, advances_forgot, advances_later, due_later, ends_analysed, ends_kept, halts_advanced, halts_later}
use Rattle.search.proofs.Reducing.{reductions_same}
use Rattle.search.proofs.search.Search.learn.Goals as goal
use Rattle.search.proofs.search.Search.learn.Goals.{then-is_restart_due+in_ok-restart-in-Learn, else-is_restart_due+in_ok-backjump-in-Learn}

pub attach_end-requires-clause-reduced : goal.attach_end-requires-clause-reduced
attach_end-requires-clause-reduced c =
    let lesson = subst (λ (l : Lesson). IsLesson c.args.side c.args.prefix.now c.analysed.new.self.trail.placed
    c.analysed.new.self.derivation l) c.in-End.is c.in_ok-row.ensures.lesson in
    subst (λ (q : Quant). IsReducedStep q c.args.prefix.now c.analysed.new.self.derivation c.in-End.row)
    (sym lesson.0.of_side) lesson.0

pub returns-in-End-clause-goes : goal.returns-in-End-clause-goes
returns-in-End-clause-goes c = record {
  go = search rules;
  end =
      let lesson = subst (λ (l : Lesson). IsLesson c.args.side c.args.prefix.now c.analysed.new.self.trail.placed
      c.analysed.new.self.derivation l) c.in-End.is c.in_ok-row.ensures.lesson in
      ends_kept c.args.prefix.now c.args.self.now c.analysed.new.self c.attach_end.new.self c.args.steps.now
      c.analysed.new.steps c.args.side c.in-End.row
      (ends_analysed c.args.prefix.now c.args.self.now c.analysed.new.self c.args.steps.now c.analysed.new.steps
      c.args.side c.in-End.row c.in_ok-row.ensures.ok lesson.0 lesson.1)
      c.attach_end.ensures.keeps;
  restarts = search rules;
  long = search rules;
}

pub returns-in-End-clause-stops : goal.returns-in-End-clause-stops
returns-in-End-clause-stops c = record {
  err = search rules;
  spent = search rules;
  due = search rules;
  reductions =
      let same = reductions_same c.analysed.new.self.derivation c.attach_end.new.self.derivation
      c.attach_end.ensures.keeps.steps in
      rw same c.in_ok-row.ensures.stops.reductions;
}

pub returns-in_err-restart-in-Learn-clause-stops : goal.returns-in_err-restart-in-Learn-clause-stops
returns-in_err-restart-in-Learn-clause-stops c = record {
  err =
      on_err c.from_residual-in_err-restart-in-Learn.result
      (halts_later c.args.prefix.now c.args.self.now c.is_restart_due.new.self c.restart.new.self c.args.steps.now
      c.analysed.new.steps c.analysed.new.steps
      (subst (λ (s : SearchState). Analyses c.args.prefix.now c.args.self.now s c.args.steps.now c.analysed.new.steps)
      (sym c.is_restart_due.ensures.same) c.in_ok-row.ensures.ok)
      (c.in_err-restart-in-Learn.ensures.err c.analysed.new.steps));
  spent = search rules;
  due = search rules;
  reductions = search rules;
}

pub returns-in_err-backjump-in-Learn-clause-stops : goal.returns-in_err-backjump-in-Learn-clause-stops
returns-in_err-backjump-in-Learn-clause-stops c = record {
  err =
      on_err c.from_residual-in_err-backjump-in-Learn.result
      (halts_later c.args.prefix.now c.args.self.now c.is_restart_due.new.self c.backjump.new.self c.args.steps.now
      c.analysed.new.steps c.backjump.new.steps
      (subst (λ (s : SearchState). Analyses c.args.prefix.now c.args.self.now s c.args.steps.now c.analysed.new.steps)
      (sym c.is_restart_due.ensures.same) c.in_ok-row.ensures.ok)
      c.in_err-backjump-in-Learn.ensures.err);
  spent = search rules;
  due =
      λ is.
      let p = err_from_is_err_and c.from_residual-in_err-backjump-in-Learn.result
      c.from_residual-in_err-backjump-in-Learn.ensures.1 in
      let same : c.in_err-backjump-in-Learn.field-0.0 ≡ spent = (let g = sym p.1 ∙ is in cc) in
      due_later c.args.prefix.now c.args.self.now c.is_restart_due.new.self c.backjump.new.self c.args.steps.now
      c.analysed.new.steps c.backjump.new.steps
      (subst (λ (s : SearchState). Analyses c.args.prefix.now c.args.self.now s c.args.steps.now c.analysed.new.steps)
      (sym c.is_restart_due.ensures.same) c.in_ok-row.ensures.ok)
      (c.in_err-backjump-in-Learn.ensures.due (ap Err same));
  reductions = search rules;
}

pub reduce_database-requires : goal.reduce_database-requires
reduce_database-requires c = record {
  searching = elim c.if-is_restart_due.branch [
    | then-is_restart_due+in_ok-restart-in-Learn w ↦ subst (IsSearching c.args.prefix.now) (sym w.self-is)
        (w.in_ok-restart-in-Learn.ensures.ok c.analysed.new.steps).searching
    | else-is_restart_due+in_ok-backjump-in-Learn w ↦ subst (IsSearching c.args.prefix.now) (sym w.self-is)
        w.in_ok-backjump-in-Learn.ensures.ok.searching
  ];
}

pub returns-in_err-reduce_database-in-Learn-clause-stops : goal.returns-in_err-reduce_database-in-Learn-clause-stops
returns-in_err-reduce_database-in-Learn-clause-stops c = record {
  err =
      let cost = lesson_cost (size_of c.args.prefix.now) in
      let went : Advances c.args.prefix.now cost c.is_restart_due.new.self c.if-is_restart_due.self c.analysed.new.steps
      c.if-is_restart_due.steps = elim c.if-is_restart_due.branch [
        | then-is_restart_due+in_ok-restart-in-Learn w ↦ advances_at c.args.prefix.now cost
            c.is_restart_due.new.self w.restart.new.self c.if-is_restart_due.self c.analysed.new.steps
            c.analysed.new.steps c.if-is_restart_due.steps w.self-is w.steps-is
            (w.in_ok-restart-in-Learn.ensures.ok c.analysed.new.steps)
        | else-is_restart_due+in_ok-backjump-in-Learn w ↦ advances_at c.args.prefix.now cost
            c.is_restart_due.new.self w.backjump.new.self c.if-is_restart_due.self c.analysed.new.steps
            w.backjump.new.steps c.if-is_restart_due.steps w.self-is w.steps-is w.in_ok-backjump-in-Learn.ensures.ok
      ] in
      on_err c.from_residual-in_err-reduce_database-in-Learn.result
      (halts_later c.args.prefix.now c.args.self.now c.is_restart_due.new.self c.reduce_database.new.self
      c.args.steps.now
      c.analysed.new.steps c.if-is_restart_due.steps
      (subst (λ (s : SearchState). Analyses c.args.prefix.now c.args.self.now s c.args.steps.now c.analysed.new.steps)
      (sym c.is_restart_due.ensures.same) c.in_ok-row.ensures.ok)
      (halts_advanced c.args.prefix.now cost c.is_restart_due.new.self c.if-is_restart_due.self
      c.reduce_database.new.self
      c.analysed.new.steps c.if-is_restart_due.steps went c.in_err-reduce_database-in-Learn.ensures.err));
  spent = search rules;
  due = search rules;
  reductions = search rules;
}

pub returns-in_ok-reduce_database-in-Learn-clause-goes : goal.returns-in_ok-reduce_database-in-Learn-clause-goes
returns-in_ok-reduce_database-in-Learn-clause-goes c = record {
  go =
      λ is.
      let cost = lesson_cost (size_of c.args.prefix.now) in
      let went : Advances c.args.prefix.now cost c.is_restart_due.new.self c.if-is_restart_due.self c.analysed.new.steps
      c.if-is_restart_due.steps = elim c.if-is_restart_due.branch [
        | then-is_restart_due+in_ok-restart-in-Learn w ↦ advances_at c.args.prefix.now cost
            c.is_restart_due.new.self w.restart.new.self c.if-is_restart_due.self c.analysed.new.steps
            c.analysed.new.steps c.if-is_restart_due.steps w.self-is w.steps-is
            (w.in_ok-restart-in-Learn.ensures.ok c.analysed.new.steps)
        | else-is_restart_due+in_ok-backjump-in-Learn w ↦ advances_at c.args.prefix.now cost
            c.is_restart_due.new.self w.backjump.new.self c.if-is_restart_due.self c.analysed.new.steps
            w.backjump.new.steps c.if-is_restart_due.steps w.self-is w.steps-is w.in_ok-backjump-in-Learn.ensures.ok
      ] in
      advances_later c.args.prefix.now c.args.self.now c.is_restart_due.new.self c.reduce_database.new.self
      c.args.steps.now
      c.analysed.new.steps c.if-is_restart_due.steps
      (subst (λ (s : SearchState). Analyses c.args.prefix.now c.args.self.now s c.args.steps.now c.analysed.new.steps)
      (sym c.is_restart_due.ensures.same) c.in_ok-row.ensures.ok)
      (advances_forgot c.args.kept c.args.prefix.now cost c.is_restart_due.new.self c.if-is_restart_due.self
      c.reduce_database.new.self
      c.analysed.new.steps c.if-is_restart_due.steps went c.in_ok-reduce_database-in-Learn.ensures.ok);
  end = search rules;
  restarts = search rules;
  long = search rules;
}
