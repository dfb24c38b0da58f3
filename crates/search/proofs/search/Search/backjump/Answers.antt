use Rattle.std.proofs.Common.{◌≡◌, IsTrue, ap, sym, subst, ◌∙◌}
use Rattle.derive.specs.State.{State, arena_of, side_at}
use Rattle.watch.specs.Links.{is_attached}
use Rattle.clean.specs.Turns.{reductions_in}
use Rattle.search.specs.State.{IsAttached, SearchState}
use Rattle.search.specs.Moves.{Undoes}
use Rattle.search.specs.contracts.search.Search.{the_view}
use Rattle.search.proofs.Following.{advances_undone, bumped_same, due_unit}
use Rattle.search.proofs.Reducing.{reductions_same}
use Rattle.search.proofs.search.Search.backjump.Goals as goal

pub returns-clause-reductions : goal.returns-clause-reductions
returns-clause-reductions c =
    ap reductions_in c.in_ok-propagate.ensures.pushes.derivation
    ∙ (reductions_same c.undo.new.self.derivation c.attach_learned.new.self.derivation
    c.attach_learned.ensures.keeps.steps
    ∙ (ap reductions_in c.undo.ensures.derivation
    ∙ ap (λ (s : SearchState). reductions_in s.derivation) c.self.view_is))

pub returns-in_err-propagate-clause-due : goal.returns-in_err-propagate-clause-due
returns-in_err-propagate-clause-due c = λ is.
    let same = bumped_same (the_view c.self.inside) c.args.self.now _ c.bump.ensures c.self.view_is in
    let undoes = subst (λ (s : SearchState). Undoes c.args.prefix.now c.args.level s c.undo.new.self) same
    c.undo.ensures in
    due_unit c.args.prefix.now c.args.level c.args.self.now c.undo.new.self c.attach_learned.new.self
    c.propagate.new.self
    c.args.side c.args.row c.args.lit undoes c.attach_learned.ensures.keeps c.requires.row c.requires.unit.unit
    c.in_err-propagate.ensures.same

pub returns-in_err-attach_learned-clause-reductions : goal.returns-in_err-attach_learned-clause-reductions
returns-in_err-attach_learned-clause-reductions c =
    reductions_same c.undo.new.self.derivation c.attach_learned.new.self.derivation c.attach_learned.ensures.keeps.steps
    ∙ (ap reductions_in c.undo.ensures.derivation
    ∙ ap (λ (s : SearchState). reductions_in s.derivation) c.self.view_is)

pub returns-in_err-propagate-clause-reductions : goal.returns-in_err-propagate-clause-reductions
returns-in_err-propagate-clause-reductions c =
    ap (λ (s : SearchState). reductions_in s.derivation) c.in_err-propagate.ensures.same
    ∙ (reductions_same c.undo.new.self.derivation c.attach_learned.new.self.derivation
    c.attach_learned.ensures.keeps.steps
    ∙ (ap reductions_in c.undo.ensures.derivation
    ∙ ap (λ (s : SearchState). reductions_in s.derivation) c.self.view_is))

pub returns-clause-ok : goal.returns-clause-ok
returns-clause-ok c =
    let same = bumped_same (the_view c.self.inside) c.args.self.now _ c.bump.ensures c.self.view_is in
    let undoes = subst (λ (s : SearchState). Undoes c.args.prefix.now c.args.level s c.undo.new.self) same
    c.undo.ensures in
    advances_undone c.args.prefix.now c.args.level c.args.self.now c.undo.new.self c.attach_learned.new.self
    c.propagate.new.self c.args.steps.now c.propagate.new.steps undoes c.attach_learned.ensures.keeps
    c.in_ok-propagate.ensures.ok

pub returns-clause-kept : goal.returns-clause-kept
returns-clause-kept c =
    let same : c.undo.new.self.derivation ≡ c.args.self.now.derivation =
    c.undo.ensures.derivation ∙ ap (λ (s : SearchState). s.derivation) c.self.view_is in
    let side : side_at c.undo.new.self.derivation c.args.row ≡ c.args.side =
    ap (λ (d : State). side_at d c.args.row) same ∙ c.requires.row.of_side in
    subst (λ (d : State). IsTrue (is_attached c.args.side (arena_of d) c.args.row))
    (sym c.in_ok-propagate.ensures.pushes.derivation)
    (subst (λ q. IsAttached c.attach_learned.new.self q c.args.row) side c.in_ok-attach_learned.ensures.kept)
