use Rattle.std.proofs.Common.{◌≡◌, SFits, refl, rules, w64}
use Rattle.std.proofs.Math.Facts.{to_z-of_z}
use Rattle.std.specs.Prelude.{length, is_none, is_some, not, ◌&&◌, ◌==◌}
use Rattle.std.specs.List.{list_all}
use Rattle.std.proofs.lemmas.Result.{on_err_weaker, on_ok_weaker}
use Rattle.clauses.specs.Clause.{is_tautology, variables_of}
use Rattle.frames.specs.declared.refusal.FrameRefusal.TheVariants.{AssumeClash, AssumeScope, GroupFrame, GroupOpen, GroupRange, Limit, NoFrame, NoGroup, UnknownVar}
use Rattle.frames.specs.Commands.{Activate, AddClause, AddScope, AddVariable, Assume, CloseGroup, Deactivate, OpenGroup, Pop, Push, clashes_with, is_beyond, is_known, is_outermost, max_pushed}
use Rattle.frames.specs.Groups.{is_group, may_number}
use Rattle.frames.specs.State.{all_clauses, depth}
use Rattle.qscript.specs.declared.command.Command.TheVariants as command
use Rattle.session.proofs.Accepting.{accepts, always, has_changed, has_clause, has_group, held_again, one_numbered, scope_numbered, three_numbered, two_numbered, unless_memory, variable_numbered}
use Rattle.session.proofs.Leaving.{any_error, at_want, session_same, stays_refused}
use Rattle.session.proofs.session.Session.step.Goals as goal

pub returns-in-Scope-clause-steps : goal.returns-in-Scope-clause-steps
returns-in-Scope-clause-steps g c = rw (← c.self.view_is, c.in-Scope.is) (λ s holds.
    accepts g.S.Sink.written g.S.Sink.flushed g.S.Sink.faults g.S.Sink.has_room _
    (command.Scope c.in-Scope.quant c.in-Scope.at) (AddScope c.in-Scope.quant c.in-Scope.at)
    s c.self.inside.engine c.scope.new.self holds refl
    (λ out after h. h) refl refl refl refl refl refl (λ f. scope_numbered f c.in-Scope.quant c.in-Scope.at) _
    c.scope.result
    c.args.sink.now c.accept.new.sink c.accept.result
    (on_ok_weaker c.scope.result
    (λ same. has_changed (AddScope c.in-Scope.quant c.in-Scope.at) c.self.inside.engine c.scope.new.self _ same refl)
    c.scope.ensures.ok) c.scope.ensures.refused (unless_memory c.scope.result)
    (on_err_weaker c.scope.result (held_again _ s c.self.inside.engine c.scope.new.self _ holds)
    c.scope.ensures.err)
    c.accept.ensures)

pub returns-in-Var-clause-steps : goal.returns-in-Var-clause-steps
returns-in-Var-clause-steps g c = rw (← c.self.view_is, c.in-Var.is) (λ s holds.
    accepts g.S.Sink.written g.S.Sink.flushed g.S.Sink.faults g.S.Sink.has_room _
    (command.Var c.in-Var.var c.in-Var.scope) (AddVariable c.in-Var.var c.in-Var.scope)
    s c.self.inside.engine c.var.new.self holds refl
    (λ out after h. h) refl refl refl refl refl refl (λ f. variable_numbered f c.in-Var.var c.in-Var.scope) _
    c.var.result
    c.args.sink.now c.accept-in-Var.new.sink c.accept-in-Var.result
    (on_ok_weaker c.var.result
    (λ same. has_changed (AddVariable c.in-Var.var c.in-Var.scope) c.self.inside.engine c.var.new.self _ same refl)
    c.var.ensures.ok) c.var.ensures.refused (unless_memory c.var.result)
    (on_err_weaker c.var.result (held_again _ s c.self.inside.engine c.var.new.self _ holds)
    c.var.ensures.err)
    c.accept-in-Var.ensures)

pub returns-in-Clause-clause-steps : goal.returns-in-Clause-clause-steps
returns-in-Clause-clause-steps g c = rw (← c.self.view_is, c.in-Clause.is) (λ s holds.
    accepts g.S.Sink.written g.S.Sink.flushed g.S.Sink.faults g.S.Sink.has_room _
    (command.Clause c.in-Clause.lits) (AddClause c.in-Clause.lits) s c.self.inside.engine c.clause.new.self holds refl
    (λ out after h. h) refl refl refl refl refl refl (λ f. two_numbered
    (not (list_all (is_known f.scopes) c.in-Clause.lits))
    (not (is_tautology c.in-Clause.lits) && is_beyond (all_clauses f) (length (variables_of c.in-Clause.lits)))
    UnknownVar Limit refl refl) _ c.clause.result
    c.args.sink.now c.accept-in-Clause.new.sink c.accept-in-Clause.result
    (on_ok_weaker c.clause.result
    (λ same. has_clause c.in-Clause.lits c.self.inside.engine c.clause.new.self same)
    (rw c.numbers.ensures at c.clause.ensures.ok))
    (rw c.numbers.ensures at c.clause.ensures.refused) (unless_memory c.clause.result)
    (on_err_weaker c.clause.result (held_again _ s c.self.inside.engine c.clause.new.self _ holds)
    c.clause.ensures.err)
    c.accept-in-Clause.ensures)

pub returns-in-Push-clause-steps : goal.returns-in-Push-clause-steps
returns-in-Push-clause-steps g c = rw (← c.self.view_is, c.in-Push.is) (λ s holds.
    accepts g.S.Sink.written g.S.Sink.flushed g.S.Sink.faults g.S.Sink.has_room _
    command.Push Push s c.self.inside.engine c.push.new.self holds refl
    (λ out after h. h) refl refl refl refl refl refl (λ f. two_numbered (is_some f.current)
    (depth f.frames == max_pushed) GroupOpen Limit refl refl) _
    c.push.result c.args.sink.now c.accept-in-Push.new.sink c.accept-in-Push.result
    (on_ok_weaker c.push.result
    (λ same. has_changed Push c.self.inside.engine c.push.new.self _ same refl)
    c.push.ensures.ok) c.push.ensures.refused (unless_memory c.push.result)
    (on_err_weaker c.push.result (held_again _ s c.self.inside.engine c.push.new.self _ holds)
    c.push.ensures.err)
    c.accept-in-Push.ensures)

pub returns-in-Pop-clause-steps : goal.returns-in-Pop-clause-steps
returns-in-Pop-clause-steps g c = rw (← c.self.view_is, c.in-Pop.is) (λ s holds.
    accepts g.S.Sink.written g.S.Sink.flushed g.S.Sink.faults g.S.Sink.has_room _
    command.Pop Pop s c.self.inside.engine c.pop.new.self holds refl
    (λ out after h. h) refl refl refl refl refl refl (λ f. one_numbered (depth f.frames == 0) NoFrame refl) _
    c.pop.result
    c.args.sink.now c.accept-in-Pop.new.sink c.accept-in-Pop.result
    (on_ok_weaker c.pop.result
    (λ same. has_changed Pop c.self.inside.engine c.pop.new.self _ same refl)
    c.pop.ensures.ok) c.pop.ensures.refused (always c.pop.result)
    (on_err_weaker c.pop.result (held_again _ s c.self.inside.engine c.pop.new.self _ holds)
    c.pop.ensures.err)
    c.accept-in-Pop.ensures)

pub returns-in-Assume-clause-steps : goal.returns-in-Assume-clause-steps
returns-in-Assume-clause-steps g c = rw (← c.self.view_is, c.in-Assume.is) (λ s holds.
    let fits : SFits w64 c.in-Assume.lit = search rules in
    let same = to_z-of_z {w = w64} {z = c.in-Assume.lit} fits in
    let ok = rw same at c.assume.ensures.ok in
    let refused = rw same at c.assume.ensures.refused in
    accepts g.S.Sink.written g.S.Sink.flushed g.S.Sink.faults g.S.Sink.has_room _
    (command.Assume c.in-Assume.lit) (Assume c.in-Assume.lit) s c.self.inside.engine c.assume.new.self holds refl
    (λ out after h. h) refl refl refl refl refl refl (λ f. three_numbered
    (not (is_known f.scopes c.in-Assume.lit)) (not (is_outermost f.scopes c.in-Assume.lit))
    (clashes_with f.assumptions c.in-Assume.lit) UnknownVar AssumeScope AssumeClash refl refl refl) _ c.assume.result
    c.args.sink.now c.accept-in-Assume.new.sink c.accept-in-Assume.result
    (on_ok_weaker c.assume.result
    (λ same. has_changed (Assume c.in-Assume.lit) c.self.inside.engine c.assume.new.self _ same refl)
    ok) refused (unless_memory c.assume.result)
    (on_err_weaker c.assume.result (held_again _ s c.self.inside.engine c.assume.new.self _ holds)
    c.assume.ensures.err)
    c.accept-in-Assume.ensures)

pub returns-in-Solve-clause-steps : goal.returns-in-Solve-clause-steps
returns-in-Solve-clause-steps g c = rw (← c.self.view_is, c.in-Solve.is) (λ s holds.
    c.solve.ensures _ s refl holds)

pub returns-in-Value-clause-steps : goal.returns-in-Value-clause-steps
returns-in-Value-clause-steps g c = rw (← c.self.view_is, c.in-Value.is) (λ s holds.
    c.tell_value.ensures _ s holds)

pub returns-in-Relevant-clause-steps : goal.returns-in-Relevant-clause-steps
returns-in-Relevant-clause-steps g c = rw (← c.self.view_is, c.in-Relevant.is) (λ s holds.
    c.tell_relevant.ensures _ s holds)

pub returns-in-Trace-clause-steps : goal.returns-in-Trace-clause-steps
returns-in-Trace-clause-steps g c = rw (← c.self.view_is, c.in-Trace.is) (λ s holds.
    c.tell_trace.ensures _ s holds)

pub returns-in-Cert-clause-steps : goal.returns-in-Cert-clause-steps
returns-in-Cert-clause-steps g c = rw (← c.self.view_is, c.in-Cert.is) (λ s holds.
    c.tell_circuit.ensures _ s holds)

pub returns-in-OpenGroup-clause-steps : goal.returns-in-OpenGroup-clause-steps
returns-in-OpenGroup-clause-steps g c = rw (← c.self.view_is, c.in-OpenGroup.is) (λ s holds.
    accepts g.S.Sink.written g.S.Sink.flushed g.S.Sink.faults g.S.Sink.has_room _
    (command.OpenGroup c.in-OpenGroup.group) (OpenGroup c.in-OpenGroup.group) s c.self.inside.engine
    c.open_group.new.self holds refl
    (λ out after h. h) refl refl refl refl refl refl (λ f. three_numbered (not (may_number c.in-OpenGroup.group))
    (is_some f.current)
    (not (depth f.frames == 0)) GroupRange GroupOpen GroupFrame refl refl refl) _
    c.open_group.result c.args.sink.now c.accept-in-OpenGroup.new.sink c.accept-in-OpenGroup.result
    (on_ok_weaker c.open_group.result
    (λ same. has_changed (OpenGroup c.in-OpenGroup.group) c.self.inside.engine c.open_group.new.self _ same refl)
    c.open_group.ensures.ok) c.open_group.ensures.refused (unless_memory c.open_group.result)
    (on_err_weaker c.open_group.result (held_again _ s c.self.inside.engine c.open_group.new.self _ holds)
    c.open_group.ensures.err)
    c.accept-in-OpenGroup.ensures)

pub returns-in-CloseGroup-clause-steps : goal.returns-in-CloseGroup-clause-steps
returns-in-CloseGroup-clause-steps g c = rw (← c.self.view_is, c.in-CloseGroup.is) (λ s holds.
    accepts g.S.Sink.written g.S.Sink.flushed g.S.Sink.faults g.S.Sink.has_room _
    command.CloseGroup CloseGroup s c.self.inside.engine c.close_group.new.self holds refl
    (λ out after h. h) refl refl refl refl refl refl (λ f. one_numbered (is_none f.current) NoGroup refl) _
    c.close_group.result c.args.sink.now c.accept-in-CloseGroup.new.sink c.accept-in-CloseGroup.result
    (on_ok_weaker c.close_group.result
    (λ same. has_changed CloseGroup c.self.inside.engine c.close_group.new.self _ same refl)
    c.close_group.ensures.ok) c.close_group.ensures.refused (always c.close_group.result)
    (on_err_weaker c.close_group.result (held_again _ s c.self.inside.engine c.close_group.new.self _ holds)
    c.close_group.ensures.err)
    c.accept-in-CloseGroup.ensures)

pub returns-in-Activate-clause-steps : goal.returns-in-Activate-clause-steps
returns-in-Activate-clause-steps g c = rw (← c.self.view_is, c.in-Activate.is) (λ s holds.
    accepts g.S.Sink.written g.S.Sink.flushed g.S.Sink.faults g.S.Sink.has_room _
    (command.Activate c.in-Activate.group) (Activate c.in-Activate.group) s c.self.inside.engine c.activate.new.self
    holds refl
    (λ out after h. h) refl refl refl refl refl refl
    (λ f. three_numbered (not (may_number c.in-Activate.group)) (not (is_group f.groups c.in-Activate.group))
    (is_some f.current)
    GroupRange NoGroup GroupOpen refl refl refl) _
    c.activate.result c.args.sink.now c.accept-in-Activate.new.sink c.accept-in-Activate.result
    (on_ok_weaker c.activate.result
    (λ same. has_group c.in-Activate.group c.self.inside.engine c.activate.new.self same)
    c.activate.ensures.ok) c.activate.ensures.refused (unless_memory c.activate.result)
    (on_err_weaker c.activate.result (held_again _ s c.self.inside.engine c.activate.new.self _ holds)
    c.activate.ensures.err)
    c.accept-in-Activate.ensures)

pub returns-in-Deactivate-clause-steps : goal.returns-in-Deactivate-clause-steps
returns-in-Deactivate-clause-steps g c = rw (← c.self.view_is, c.in-Deactivate.is) (λ s holds.
    accepts g.S.Sink.written g.S.Sink.flushed g.S.Sink.faults g.S.Sink.has_room _
    (command.Deactivate c.in-Deactivate.group) (Deactivate c.in-Deactivate.group) s c.self.inside.engine
    c.deactivate.new.self holds refl
    (λ out after h. h) refl refl refl refl refl refl (λ f. three_numbered (not (may_number c.in-Deactivate.group))
    (not (is_group f.groups c.in-Deactivate.group)) (is_some f.current)
    GroupRange NoGroup GroupOpen refl refl refl) _
    c.deactivate.result c.args.sink.now c.accept-in-Deactivate.new.sink c.accept-in-Deactivate.result
    (on_ok_weaker c.deactivate.result
    (λ same. has_changed (Deactivate c.in-Deactivate.group) c.self.inside.engine c.deactivate.new.self _ same refl)
    c.deactivate.ensures.ok) c.deactivate.ensures.refused (always c.deactivate.result)
    (on_err_weaker c.deactivate.result (held_again _ s c.self.inside.engine c.deactivate.new.self _ holds)
    c.deactivate.ensures.err)
    c.accept-in-Deactivate.ensures)

pub returns-in-GroupCore-clause-steps : goal.returns-in-GroupCore-clause-steps
returns-in-GroupCore-clause-steps g c = rw (← c.self.view_is, c.in-GroupCore.is) (λ s holds.
    c.tell_core.ensures _ s refl holds)

-- what is left where a command is refused, asks, or wants memory

pub returns-in-Scope-clause-refused : goal.returns-in-Scope-clause-refused
returns-in-Scope-clause-refused g c = rw (← c.self.view_is, c.in-Scope.is) (λ s n holds number.
    stays_refused _ s c.self.inside.engine c.scope.new.self (AddScope c.in-Scope.quant c.in-Scope.at) n holds number _
    c.scope.result c.scope.ensures.refused
    (any_error (c.scope.new.self ≡ c.self.inside.engine) c.scope.result c.scope.ensures.err))

pub returns-in-Scope-clause-wants : goal.returns-in-Scope-clause-wants
returns-in-Scope-clause-wants g c = rw (← c.self.view_is, c.in-Scope.is) (λ none.
    session_same _ c.self.inside.engine c.scope.new.self
    (at_want g.S.Sink.written g.S.Sink.flushed g.S.Sink.faults g.S.Sink.has_room c.scope.result
    c.args.sink.now c.accept.new.sink c.accept.result c.accept.ensures c.scope.ensures.err none))

pub returns-in-Var-clause-refused : goal.returns-in-Var-clause-refused
returns-in-Var-clause-refused g c = rw (← c.self.view_is, c.in-Var.is) (λ s n holds number.
    stays_refused _ s c.self.inside.engine c.var.new.self (AddVariable c.in-Var.var c.in-Var.scope) n holds number _
    c.var.result c.var.ensures.refused
    (any_error (c.var.new.self ≡ c.self.inside.engine) c.var.result c.var.ensures.err))

pub returns-in-Var-clause-wants : goal.returns-in-Var-clause-wants
returns-in-Var-clause-wants g c = rw (← c.self.view_is, c.in-Var.is) (λ none.
    session_same _ c.self.inside.engine c.var.new.self
    (at_want g.S.Sink.written g.S.Sink.flushed g.S.Sink.faults g.S.Sink.has_room c.var.result
    c.args.sink.now c.accept-in-Var.new.sink c.accept-in-Var.result c.accept-in-Var.ensures c.var.ensures.err none))

pub returns-in-Clause-clause-refused : goal.returns-in-Clause-clause-refused
returns-in-Clause-clause-refused g c = rw (← c.self.view_is, c.in-Clause.is) (λ s n holds number.
    stays_refused _ s c.self.inside.engine c.clause.new.self (AddClause c.in-Clause.lits) n holds number _
    c.clause.result (rw c.numbers.ensures at c.clause.ensures.refused) c.clause.ensures.stays)

pub returns-in-Clause-clause-wants : goal.returns-in-Clause-clause-wants
returns-in-Clause-clause-wants g c = rw (← c.self.view_is, c.in-Clause.is) (λ none.
    record {
      rest = session_same _ (record c.self.inside.engine { kept_long = c.clause.new.self.kept_long }) c.clause.new.self
          (at_want g.S.Sink.written g.S.Sink.flushed g.S.Sink.faults g.S.Sink.has_room c.clause.result
          c.args.sink.now c.accept-in-Clause.new.sink c.accept-in-Clause.result c.accept-in-Clause.ensures
          c.clause.ensures.err none);
      fewer = at_want g.S.Sink.written g.S.Sink.flushed g.S.Sink.faults g.S.Sink.has_room c.clause.result
          c.args.sink.now c.accept-in-Clause.new.sink c.accept-in-Clause.result c.accept-in-Clause.ensures
          c.clause.ensures.fewer none;
    })

pub returns-in-Push-clause-refused : goal.returns-in-Push-clause-refused
returns-in-Push-clause-refused g c = rw (← c.self.view_is, c.in-Push.is) (λ s n holds number.
    stays_refused _ s c.self.inside.engine c.push.new.self (Push) n holds number _
    c.push.result c.push.ensures.refused
    (any_error (c.push.new.self ≡ c.self.inside.engine) c.push.result c.push.ensures.err))

pub returns-in-Push-clause-wants : goal.returns-in-Push-clause-wants
returns-in-Push-clause-wants g c = rw (← c.self.view_is, c.in-Push.is) (λ none.
    session_same _ c.self.inside.engine c.push.new.self
    (at_want g.S.Sink.written g.S.Sink.flushed g.S.Sink.faults g.S.Sink.has_room c.push.result
    c.args.sink.now c.accept-in-Push.new.sink c.accept-in-Push.result c.accept-in-Push.ensures c.push.ensures.err none))

pub returns-in-Pop-clause-refused : goal.returns-in-Pop-clause-refused
returns-in-Pop-clause-refused g c = rw (← c.self.view_is, c.in-Pop.is) (λ s n holds number.
    stays_refused _ s c.self.inside.engine c.pop.new.self (Pop) n holds number _
    c.pop.result c.pop.ensures.refused
    (any_error (c.pop.new.self ≡ c.self.inside.engine) c.pop.result c.pop.ensures.err))

pub returns-in-Pop-clause-wants : goal.returns-in-Pop-clause-wants
returns-in-Pop-clause-wants g c = rw (← c.self.view_is, c.in-Pop.is) (λ none.
    session_same _ c.self.inside.engine c.pop.new.self
    (at_want g.S.Sink.written g.S.Sink.flushed g.S.Sink.faults g.S.Sink.has_room c.pop.result
    c.args.sink.now c.accept-in-Pop.new.sink c.accept-in-Pop.result c.accept-in-Pop.ensures c.pop.ensures.err none))

pub returns-in-Assume-clause-refused : goal.returns-in-Assume-clause-refused
returns-in-Assume-clause-refused g c = rw (← c.self.view_is, c.in-Assume.is) (λ s n holds number.
    let fits : SFits w64 c.in-Assume.lit = search rules in
    let same = to_z-of_z {w = w64} {z = c.in-Assume.lit} fits in
    let unaccepted = rw same at c.assume.ensures.refused in
    stays_refused _ s c.self.inside.engine c.assume.new.self (Assume c.in-Assume.lit) n holds number _
    c.assume.result unaccepted
    (any_error (c.assume.new.self ≡ c.self.inside.engine) c.assume.result c.assume.ensures.err))

pub returns-in-Assume-clause-wants : goal.returns-in-Assume-clause-wants
returns-in-Assume-clause-wants g c = rw (← c.self.view_is, c.in-Assume.is) (λ none.
    session_same _ c.self.inside.engine c.assume.new.self
    (at_want g.S.Sink.written g.S.Sink.flushed g.S.Sink.faults g.S.Sink.has_room c.assume.result
    c.args.sink.now c.accept-in-Assume.new.sink c.accept-in-Assume.result c.accept-in-Assume.ensures
    c.assume.ensures.err none))

pub returns-in-OpenGroup-clause-refused : goal.returns-in-OpenGroup-clause-refused
returns-in-OpenGroup-clause-refused g c = rw (← c.self.view_is, c.in-OpenGroup.is) (λ s n holds number.
    stays_refused _ s c.self.inside.engine c.open_group.new.self (OpenGroup c.in-OpenGroup.group) n holds number _
    c.open_group.result c.open_group.ensures.refused
    (any_error (c.open_group.new.self ≡ c.self.inside.engine) c.open_group.result c.open_group.ensures.err))

pub returns-in-OpenGroup-clause-wants : goal.returns-in-OpenGroup-clause-wants
returns-in-OpenGroup-clause-wants g c = rw (← c.self.view_is, c.in-OpenGroup.is) (λ none.
    session_same _ c.self.inside.engine c.open_group.new.self
    (at_want g.S.Sink.written g.S.Sink.flushed g.S.Sink.faults g.S.Sink.has_room c.open_group.result
    c.args.sink.now c.accept-in-OpenGroup.new.sink c.accept-in-OpenGroup.result c.accept-in-OpenGroup.ensures
    c.open_group.ensures.err none))

pub returns-in-CloseGroup-clause-refused : goal.returns-in-CloseGroup-clause-refused
returns-in-CloseGroup-clause-refused g c = rw (← c.self.view_is, c.in-CloseGroup.is) (λ s n holds number.
    stays_refused _ s c.self.inside.engine c.close_group.new.self CloseGroup n holds number _
    c.close_group.result c.close_group.ensures.refused
    (any_error (c.close_group.new.self ≡ c.self.inside.engine) c.close_group.result c.close_group.ensures.err))

pub returns-in-CloseGroup-clause-wants : goal.returns-in-CloseGroup-clause-wants
returns-in-CloseGroup-clause-wants g c = rw (← c.self.view_is, c.in-CloseGroup.is) (λ none.
    session_same _ c.self.inside.engine c.close_group.new.self
    (at_want g.S.Sink.written g.S.Sink.flushed g.S.Sink.faults g.S.Sink.has_room c.close_group.result
    c.args.sink.now c.accept-in-CloseGroup.new.sink c.accept-in-CloseGroup.result c.accept-in-CloseGroup.ensures
    c.close_group.ensures.err none))

pub returns-in-Deactivate-clause-refused : goal.returns-in-Deactivate-clause-refused
returns-in-Deactivate-clause-refused g c = rw (← c.self.view_is, c.in-Deactivate.is) (λ s n holds number.
    stays_refused _ s c.self.inside.engine c.deactivate.new.self (Deactivate c.in-Deactivate.group) n holds number _
    c.deactivate.result c.deactivate.ensures.refused
    (any_error (c.deactivate.new.self ≡ c.self.inside.engine) c.deactivate.result c.deactivate.ensures.err))

pub returns-in-Deactivate-clause-wants : goal.returns-in-Deactivate-clause-wants
returns-in-Deactivate-clause-wants g c = rw (← c.self.view_is, c.in-Deactivate.is) (λ none.
    session_same _ c.self.inside.engine c.deactivate.new.self
    (at_want g.S.Sink.written g.S.Sink.flushed g.S.Sink.faults g.S.Sink.has_room c.deactivate.result
    c.args.sink.now c.accept-in-Deactivate.new.sink c.accept-in-Deactivate.result c.accept-in-Deactivate.ensures
    c.deactivate.ensures.err none))

pub returns-in-Activate-clause-refused : goal.returns-in-Activate-clause-refused
returns-in-Activate-clause-refused g c = rw (← c.self.view_is, c.in-Activate.is) (λ s n holds number.
    stays_refused _ s c.self.inside.engine c.activate.new.self (Activate c.in-Activate.group) n holds number _
    c.activate.result c.activate.ensures.refused c.activate.ensures.stays)

pub returns-in-Activate-clause-wants : goal.returns-in-Activate-clause-wants
returns-in-Activate-clause-wants g c = rw (← c.self.view_is, c.in-Activate.is) (λ none.
    record {
      rest = session_same _ (record c.self.inside.engine { kept_long = c.activate.new.self.kept_long })
          c.activate.new.self
          (at_want g.S.Sink.written g.S.Sink.flushed g.S.Sink.faults g.S.Sink.has_room c.activate.result
          c.args.sink.now c.accept-in-Activate.new.sink c.accept-in-Activate.result c.accept-in-Activate.ensures
          c.activate.ensures.err none);
      fewer = at_want g.S.Sink.written g.S.Sink.flushed g.S.Sink.faults g.S.Sink.has_room c.activate.result
          c.args.sink.now c.accept-in-Activate.new.sink c.accept-in-Activate.result c.accept-in-Activate.ensures
          c.activate.ensures.fewer none;
    })
