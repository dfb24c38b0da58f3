use Rattle.std.proofs.Common.{ap, ◌∙◌}
use Rattle.watch.specs.State.{undone_to}
use Rattle.test_watch.proofs.Desks.{undone_ready}
use Rattle.test_watch.proofs.watch_tests.desk.Desk.undo.Goals as goal

pub invariant_of-self : goal.invariant_of-self
invariant_of-self g c =
    let d = c.self.inside in
    undone_ready g.S.Side.PIVOT d.prefix d.rows d.trail d.watch c.self.invariant c.undo_to.new.self c.undone.new.self
    c.args.level c.undo_to.ensures.cut (c.undone.ensures ∙ ap (λ n. undone_to n d.watch) c.len.ensures)
    (c.undo_to.ensures.kept d.prefix c.self.invariant.order)
