use Rattle.std.proofs.Common.{ap, length, ◌∙◌}
use Rattle.steps.specs.Counter.{left}
use Rattle.trail.specs.State.{TrailState}
use Rattle.trail.specs.Table.{depths_of, marks_of, trail_of}
use Rattle.trail.proofs.Assuming.{given_up_is, on_err_both}
use Rattle.trail.proofs.Keeping.{kept_given_up}
use Rattle.trail.proofs.trail.Trail.assume_all.Goals as goal

pub returns-then-is_err-clause-err : goal.returns-then-is_err-clause-err
returns-then-is_err-clause-err c =
    let items = c.self.inside.entries.items in
    let now = c.assume_each-assumed.new.self in
    let is = c.self.view_is in
    let undone = c.undo_all.ensures in
    on_err_both c.assume_each-assumed.result c.assume_each-assumed.ensures.err c.assume_each-assumed.ensures.fewer
    (given_up_is c.args.prefix.now c.args.self.now now c.args.lits.now (left c.args.steps.now) (trail_of items)
    (depths_of items) (marks_of items) c.self.inside.finished c.self.inside.assigned c.self.inside.restarts
    (length c.self.inside.spots)
    (ap (λ (t : TrailState). t.placed) is ∙ undone.placed)
    (ap (λ (t : TrailState). t.depths) is ∙ undone.depths)
    (ap (λ (t : TrailState). t.marks) is ∙ undone.marks)
    (ap (λ (t : TrailState). t.finished) is ∙ undone.finished)
    (ap (λ (t : TrailState). t.assigned) is ∙ undone.assigned)
    (ap (λ (t : TrailState). t.restarts) is ∙ undone.restarts)
    (ap (λ (t : TrailState). t.room) is ∙ undone.room))

pub returns-then-is_err-clause-kept : goal.returns-then-is_err-clause-kept
returns-then-is_err-clause-kept c =
    let items = c.self.inside.entries.items in
    let is = c.self.view_is in
    let undone = c.undo_all.ensures in
    kept_given_up c.args.prefix.now c.assume_each-assumed.new.self (trail_of items) (depths_of items) (marks_of items)
    c.self.inside.finished c.self.inside.assigned c.self.inside.restarts (length c.self.inside.spots)
    c.assume_each-assumed.ensures.kept
    (ap (λ (t : TrailState). t.placed) is ∙ undone.placed)
    (ap (λ (t : TrailState). t.depths) is ∙ undone.depths)
    (ap (λ (t : TrailState). t.marks) is ∙ undone.marks)
    (ap (λ (t : TrailState). t.finished) is ∙ undone.finished)
    (ap (λ (t : TrailState). t.assigned) is ∙ undone.assigned)
    (ap (λ (t : TrailState). t.restarts) is ∙ undone.restarts)
