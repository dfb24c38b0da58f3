use Rattle.std.proofs.Common.{sym, ap, ◌∙◌}
use Rattle.qdimacs.specs.Kept.{sets_of}
use Rattle.qdimacs.proofs.Lasts.{put_begins, put_joins}
use Rattle.qdimacs.proofs.sets.Sets.push.Goals.{then-begins_scope+in_ok-begin_scope, else-begins_scope+in_ok-join_last}
use Rattle.qdimacs.proofs.sets.Sets.push.Goals as goal

pub returns-clause-rows : goal.returns-clause-rows
returns-clause-rows c =
    let q = c.args.quant in
    let scopes = sets_of c.args.self.now.rows.items in
    elim c.if-begins_scope.branch [
      | then-begins_scope+in_ok-begin_scope w ↦ ap (λ s. sets_of s.rows.items) w.self-is ∙ w.in_ok-begin_scope.ensures.ok
          ∙ sym (put_begins q c.args.v scopes (sym c.begins_scope.ensures ∙ w.if-begins_scope.true))
      | else-begins_scope+in_ok-join_last w ↦ ap (λ s. sets_of s.rows.items) w.self-is ∙ w.in_ok-join_last.ensures.ok
          ∙ sym (put_joins q c.args.v scopes (sym c.begins_scope.ensures ∙ w.if-begins_scope.false))
    ]
