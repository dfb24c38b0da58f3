use Rattle.std.proofs.Common.{length, drop, ap, ◌∙◌}
use Rattle.calculus.specs.Search.{cut_trail, literals_on}
use Rattle.trail.specs.State.{restarted}
use Rattle.search.specs.State.{SearchState}
use Rattle.search.proofs.Undoing.{anew, cut_changes, saved_length}
use Rattle.search.proofs.Laws.{holding_laws, looking_laws}
use Rattle.search.proofs.search.Search.undo_all.Goals as goal

pub returns : goal.returns
returns c =
    let s = c.args.self.now in
    let e = c.self.view_is in
    anew c.args.prefix.now c.len_to-front.result s _ holding_laws looking_laws
    c.requires.searching c.requires.below
    (cut_changes _ s c.restart.new.self c.len_to-front.result c.undone.new.self.clauses c.undone.new.self.cubes
    c.undoing.new.self
    e c.restart.ensures.room c.undone.ensures.clauses c.undone.ensures.cubes
    (ap length c.undoing.ensures
    ∙ saved_length (drop c.len_to-front.result (literals_on c.self.inside.trail.placed)) c.self.inside.decider)
    c.self.inside.joined)
    (c.restart.ensures.value ∙ ap (λ (x : SearchState). restarted x.trail) e)
    (c.restart.ensures.kept c.args.prefix.now
    (rw (ap (λ (x : SearchState). x.trail) e) c.requires.searching.paused.intact.trail))
    (c.len_to-front.ensures ∙ ap (λ (x : SearchState). length (cut_trail 0 x.trail.placed)) e)
