use Rattle.std.proofs.Common.{◌≡◌, List, ap, subst, ◌∙◌}
use Rattle.clean.proofs.Rounds.{on_err}
use Rattle.prefix.specs.Scopes.{Scope}
use Rattle.decide.specs.Memory.{Memory}
use Rattle.derive.specs.State.{State, side_at}
use Rattle.clean.specs.Turns.{reductions_in}
use Rattle.search.proofs.Reducing.{reductions_same}
use Rattle.search.specs.State.{IsAttached, SearchState}
use Rattle.search.specs.Moves.{BeginsAnew}
use Rattle.search.specs.contracts.search.Search.{the_view}
use Rattle.search.proofs.Following.{advances_anew, bumped_same, halts_anew, restarts_anew}
use Rattle.search.proofs.search.Search.restart.Goals as goal

began : (scopes : List Scope) (s old new : SearchState) (signs : Memory) → signs ≡ s.signs → s ≡ old
    → BeginsAnew scopes (record s { signs = signs }) new → BeginsAnew scopes old new
began scopes s old new signs same view h =
    subst (λ (t : SearchState). BeginsAnew scopes t new) (bumped_same s old signs same view) h

pub returns-clause-ok : goal.returns-clause-ok
returns-clause-ok c = λ steps.
    advances_anew c.args.prefix.now c.args.self.now c.undo_all.new.self c.attach_learned.new.self steps
    (began c.args.prefix.now (the_view c.self.inside) c.args.self.now c.undo_all.new.self _ c.bump.ensures
    c.self.view_is
    c.undo_all.ensures)
    c.attach_learned.ensures.keeps c.requires.small

pub returns-in_err-attach_learned-clause-err : goal.returns-in_err-attach_learned-clause-err
returns-in_err-attach_learned-clause-err c =
    on_err c.from_residual.result (λ steps.
    halts_anew c.args.prefix.now c.args.self.now c.undo_all.new.self c.attach_learned.new.self steps
    (began c.args.prefix.now (the_view c.self.inside) c.args.self.now c.undo_all.new.self _ c.bump.ensures
    c.self.view_is
    c.undo_all.ensures)
    c.attach_learned.ensures.keeps)

pub returns-clause-restarts : goal.returns-clause-restarts
returns-clause-restarts c =
    restarts_anew c.args.prefix.now c.args.self.now c.undo_all.new.self c.attach_learned.new.self
    (record { spent = 0; budget = 0 })
    (began c.args.prefix.now (the_view c.self.inside) c.args.self.now c.undo_all.new.self _ c.bump.ensures
    c.self.view_is
    c.undo_all.ensures)
    c.attach_learned.ensures.keeps c.requires.small

pub returns-in_err-attach_learned-clause-restarts : goal.returns-in_err-attach_learned-clause-restarts
returns-in_err-attach_learned-clause-restarts c =
    restarts_anew c.args.prefix.now c.args.self.now c.undo_all.new.self c.attach_learned.new.self
    (record { spent = 0; budget = 0 })
    (began c.args.prefix.now (the_view c.self.inside) c.args.self.now c.undo_all.new.self _ c.bump.ensures
    c.self.view_is
    c.undo_all.ensures)
    c.attach_learned.ensures.keeps c.requires.small

pub returns-clause-reductions : goal.returns-clause-reductions
returns-clause-reductions c =
    reductions_same c.undo_all.new.self.derivation c.attach_learned.new.self.derivation
    c.attach_learned.ensures.keeps.steps
    ∙ (ap reductions_in c.undo_all.ensures.derivation
    ∙ ap (λ (s : SearchState). reductions_in s.derivation) c.self.view_is)

pub returns-in_err-attach_learned-clause-reductions : goal.returns-in_err-attach_learned-clause-reductions
returns-in_err-attach_learned-clause-reductions c =
    reductions_same c.undo_all.new.self.derivation c.attach_learned.new.self.derivation
    c.attach_learned.ensures.keeps.steps
    ∙ (ap reductions_in c.undo_all.ensures.derivation
    ∙ ap (λ (s : SearchState). reductions_in s.derivation) c.self.view_is)

pub returns-clause-kept : goal.returns-clause-kept
returns-clause-kept c =
    let same : c.undo_all.new.self.derivation ≡ c.args.self.now.derivation =
    c.undo_all.ensures.derivation ∙ ap (λ (s : SearchState). s.derivation) c.self.view_is in
    subst (λ (d : State). IsAttached c.attach_learned.new.self (side_at d c.args.row) c.args.row) same
    c.in_ok-attach_learned.ensures.kept
