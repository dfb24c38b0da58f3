use Rattle.calls.proofs.Splitting.{bytes_push, starts_with_item, words_before_next, words_at_end}
use Rattle.calls.proofs.words.words_of.Goals as goal

pub loop-word-preserved : goal.loop-word-preserved
loop-word-preserved c =
    let starts = starts_with_item _ c.in-Some.word.now _ c.in-Some.ensures.steps in
    let pushed = bytes_push _ _ _ _ c.in_ok-push-2.ensures.items c.in_ok-from_str-2.ensures.ok in
    words_before_next c.loop-word.invariant starts pushed

pub returns : goal.returns
returns c = words_at_end c.loop-word.invariant c.in-None.ensures.steps.1
