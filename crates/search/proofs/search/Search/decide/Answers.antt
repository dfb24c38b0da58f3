use Rattle.std.proofs.Common.{◌≡◌, ◌+◌, ap, ◌∙◌}
use Rattle.std.proofs.lemmas.Bool.{false≢true}
use Rattle.calculus.specs.Search.Cause.{Assumed, Decided, Propagated}
use Rattle.trail.specs.State.{TrailState, with_literal}
use Rattle.search.specs.State.{SearchState}
use Rattle.search.proofs.Turning.{advances, changes_of}
use Rattle.search.proofs.Laws.{looking_laws}
use Rattle.search.proofs.search.Search.decide.Goals as goal

pub assign-requires-clause-room : goal.assign-requires-clause-room
assign-requires-clause-room c =
    rw (ap (λ (s : SearchState). s.trail.room) c.self.view_is)
    (c.requires.searching.paused.intact.room.trail c.args.lit.variable c.requires.decision.known)

pub returns-clause-ok : goal.returns-clause-ok
returns-clause-ok c =
    let s = c.args.self.now in
    let v = c.in_ok-assign.ensures in
    let literal : c.assign.new.self ≡ with_literal c.args.prefix.now s.trail c.args.lit Decided =
    v.ok ∙ ap (λ (x : SearchState). with_literal c.args.prefix.now x.trail c.args.lit Decided) c.self.view_is in
    rw v.counted (advances c.args.prefix.now s _ c.args.lit Decided c.args.steps.now looking_laws
    c.requires.searching
    (changes_of _ s c.assign.new.self c.self.view_is (ap (λ (t : TrailState). t.room) v.ok))
    literal
    c.assign.ensures.kept
    c.requires.decision.unassigned
    (λ e. let g : Decided ≡ Assumed = e in cc)
    (λ pivot id e p. absurd (let g : Decided ≡ Propagated id = e in cc))
    c.assign.ensures.within
    (λ e. false≢true (v.spent.1 e))
    (λ few. v.one (rw (ap (λ (x : SearchState). x.trail.assigned) c.self.view_is) few)
    ∙ ap (λ (x : SearchState). x.trail.assigned + 1) c.self.view_is))
