use Rattle.std.proofs.Common.{◌≡◌, ℕ, Bool, ◌&&◌, not, false, sym, ap, ◌∙◌}
use Rattle.std.specs.Prelude.{slice_index_or}
use Rattle.prefix.specs.Scopes.{is_among}
use Rattle.qdimacs.proofs.Free.{free_put, free_left, below_not}
use Rattle.qdimacs.proofs.Lists.{distinct_more}
use Rattle.qdimacs.proofs.reader.free_of.Goals.{then-is_free+in_ok-push, else-is_free}
use Rattle.qdimacs.proofs.reader.free_of.Goals as goal

pub loop-v-preserved : goal.loop-v-preserved
loop-v-preserved c =
    let is : ℕ → Bool = λ u. slice_index_or c.args.occur.now u false && not (slice_index_or c.args.declared.now u false)
    in
    let fresh : is_among c.loop-v.v c.loop-v.free.items ≡ false = c.loop-v.invariant.those c.loop-v.v
    ∙ ap (λ b. b && is c.loop-v.v) (below_not c.loop-v.v) in
    elim c.if-is_free.branch [
      | then-is_free+in_ok-push w ↦ record {
        distinct = rw (w.free-is, w.in_ok-push.ensures.items)
            (distinct_more c.loop-v.free.items c.loop-v.v c.loop-v.invariant.distinct fresh);
        those = λ u. ap (λ f. is_among u f.items) w.free-is ∙ ap (is_among u) w.in_ok-push.ensures.items
            ∙ free_put c.loop-v.free.items c.loop-v.v is c.loop-v.invariant.those
            (sym c.is_free.ensures ∙ w.if-is_free.true) u;
      }
      | else-is_free w ↦ record {
        distinct = rw w.free-is c.loop-v.invariant.distinct;
        those = λ u. ap (λ f. is_among u f.items) w.free-is ∙ free_left c.loop-v.free.items c.loop-v.v is
            c.loop-v.invariant.those (sym c.is_free.ensures ∙ w.if-is_free.false) u;
      }
    ]
