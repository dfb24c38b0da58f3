use Rattle.std.proofs.Common.{length, drop, ap, ◌∙◌}
use Rattle.calculus.specs.Search.{cut_trail, literals_on}
use Rattle.trail.specs.State.{undone_to}
use Rattle.search.specs.State.{SearchState}
use Rattle.search.proofs.Undoing.{cut_changes, saved_length, undoes}
use Rattle.search.proofs.Laws.{holding_laws, looking_laws}
use Rattle.search.proofs.search.Search.undo.Goals as goal

pub returns : goal.returns
returns c =
    let s = c.args.self.now in
    let e = c.self.view_is in
    undoes c.args.prefix.now c.args.level c.len_to-keep.result s _ holding_laws looking_laws
    c.requires.searching c.requires.below
    (cut_changes _ s c.undo_to.new.self c.len_to-keep.result c.undone.new.self.clauses c.undone.new.self.cubes
    c.undoing.new.self
    e c.undo_to.ensures.room c.undone.ensures.clauses c.undone.ensures.cubes
    (ap length c.undoing.ensures
    ∙ saved_length (drop c.len_to-keep.result (literals_on c.self.inside.trail.placed)) c.self.inside.decider)
    c.self.inside.joined)
    (c.undo_to.ensures.cut ∙ ap (λ (x : SearchState). undone_to c.args.level x.trail) e)
    (c.undo_to.ensures.kept c.args.prefix.now
    (rw (ap (λ (x : SearchState). x.trail) e) c.requires.searching.paused.intact.trail))
    (c.len_to-keep.ensures ∙ ap (λ (x : SearchState). length (cut_trail c.args.level x.trail.placed)) e)
