use Rattle.std.proofs.Common.{◌≡◌, ◌^◌, ◌<◌, ◌∙◌, ap, subst, sym}
use Rattle.trail.specs.State.{TrailState, IsTrailFor, allowed_anew, counted, undone_to}
use Rattle.trail.proofs.Keeping.{kept_anew, kept_cut, undone_placed}
use Rattle.trail.proofs.trail.Trail.restart.Goals as goal

pub returns-clause-value : goal.returns-clause-value
returns-clause-value c =
    let is = c.self.view_is ∙ c.undo_to.ensures.cut in
    let restarts = c.saturating_add-self-inside.ensures ∙ ap (λ (t : TrailState). counted t.restarts 1) is in
    let allowed = c.anew-self-inside.ensures ∙ ap (λ (t : TrailState). allowed_anew t.allowed) is in
    λ i. record {
      placed = (is i).placed;
      depths = (is i).depths;
      marks = (is i).marks;
      finished = (is i).finished;
      assigned = (is i).assigned;
      restarts = restarts i;
      room = (is i).room;
      allowed = allowed i;
    }

pub returns-clause-placed : goal.returns-clause-placed
returns-clause-placed c = ap (λ (t : TrailState). t.placed) (c.self.view_is ∙ c.undo_to.ensures.cut)
    ∙ undone_placed c.args.self.now

pub returns-clause-kept : goal.returns-clause-kept
returns-clause-kept c = λ scopes kept.
    let old = c.args.self.now in
    let small : old.assigned < 2 ^ 64 = rw (← c.assigned-assigned.ensures.value) c.assigned-assigned.type_inv in
    let same : (undone_to 0 old).assigned ≡ old.assigned = ap (λ (t : TrailState). t.assigned)
    (sym c.undo_to.ensures.cut)
    ∙ c.undo_to.ensures.assigned in
    subst (IsTrailFor scopes) (sym (returns-clause-value c))
    (kept_anew scopes (undone_to 0 old) (rw same small) (kept_cut scopes 0 old kept))
