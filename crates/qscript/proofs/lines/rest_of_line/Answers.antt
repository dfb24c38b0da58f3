use Rattle.std.proofs.Common.{rules, ◌≤◌, ◌∙◌, Option, List, arith}
use Rattle.lexer.specs.State.{upcoming}
use Rattle.lexer.specs.Words.{Item}
use Rattle.lexer.proofs.Going.{goes_on}
use Rattle.qscript.specs.Run.{within}
use Rattle.qscript.specs.State.{reading_at}
use Rattle.qscript.proofs.Lining.{on_line, stays_on, word_taken}
use Rattle.qscript.proofs.lines.rest_of_line.Goals as goal

pub loop-draft-preserved : goal.loop-draft-preserved
loop-draft-preserved g c =
    let left = g.D.Desk.left in
    let named = c.args.named in
    let n = c.args.line in
    let inv = c.loop-draft.invariant in
    let next = c.in_ok-token.ensures in
    let first : Option (List Item) = upcoming c.args.lexer.now (left c.args.desk.now) in
    let x : Option (List Item) = upcoming c.loop-draft.lexer (left c.loop-draft.desk) in
    let y : Option (List Item) = upcoming c.next_on_line.new.lexer (left c.next_on_line.new.desk) in
    let on = on_line c.in_ok-token.field-0 c.in-Some.token x y c.loop-draft.lexer.line c.in-Some.is next.ok in
    record {
      script = stays_on (reading_at (within named n c.args.draft) first)
          (reading_at (within named n c.loop-draft.draft) x) (reading_at (within named n c.in_ok-draft.draft) y)
          inv.script
          (word_taken named n c.loop-draft.draft c.in_ok-draft.draft c.in-Some.token x y c.in_ok-draft.ensures.ok
          (on.1 ∙ inv.line) on.0);
      ready = search rules;
      fresh = next.fresh;
      comments = next.comments;
      line = next.line ∙ inv.line;
      header = search rules;
      telling = search rules;
      room = let one : c.next_on_line.new.lexer.room ≤ c.loop-draft.lexer.room = next.room in
          let two : c.loop-draft.lexer.room ≤ c.args.lexer.now.room = inv.room in omega arith;
      kept = search rules;
      flows = λ flows. (next.flows (inv.flows flows)).1;
      content = λ n. next.content n ∙ inv.content n;
      stays = λ n steady. next.stays n (inv.stays n steady);
      reads = goes_on _ _ _ _ _ _ inv.reads next.reads;
    }
