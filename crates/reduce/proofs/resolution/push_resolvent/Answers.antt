use Rattle.std.proofs.Common.{◌≡◌, ◌≤◌, ◌⊎◌, ◌++◌, ◌-◌, length, drop, take, inl, inr, arith, ◌∙◌, ap, ap₂}
use Rattle.std.proofs.lemmas.List.{take_rest}
use Rattle.calculus.specs.Rows.{Row, without, resolve}
use Rattle.reduce.proofs.Resolving.{room_rest, turn_end}
use Rattle.reduce.proofs.resolution.push_resolvent.Goals as goal
use Rattle.reduce.proofs.resolution.push_resolvent.Goals.{then-loop-i-test+else-j-b, else-loop-i-test}

pub returns : goal.returns
returns c =
    let ends : (length c.args.a.now ≤ c.loop-i.i) ⊎ (length c.args.b.now ≤ c.loop-i.j) =
    elim c.loop-i-test.branch [
      | then-loop-i-test+else-j-b w ↦ inr (omega (arith, w.if-j-b.false))
      | else-loop-i-test
          w ↦ inl (omega (arith, w.loop-i-test.false))
    ] in
    let first : c.push_without.new.out.items ≡ c.loop-i.out.items ++ without c.args.pivot
    (take (length c.args.a.now - c.loop-i.i) (drop c.loop-i.i c.args.a.now)) = c.push_without.ensures.items in
    let all : c.push_without.new.out.items ++ without c.args.pivot
    (take (length c.args.b.now - c.loop-i.j) (drop c.loop-i.j c.args.b.now)) ≡ c.args.out.now.items ++ resolve
    c.args.a.now c.args.b.now c.args.pivot =
    ap₂ (λ (o r : Row). o ++ without c.args.pivot r)
    (first ∙ ap (λ (r : Row). c.loop-i.out.items ++ without c.args.pivot r) (take_rest c.args.a.now c.loop-i.i))
    (take_rest c.args.b.now c.loop-i.j)
    ∙ (turn_end c.loop-i.out.items c.args.a.now c.args.b.now c.loop-i.i c.loop-i.j c.args.pivot ends
    ∙ c.loop-i.invariant.told) in
    c.push_without-2.ensures.items ∙ all

pub push_without-requires-2 : goal.push_without-requires-2
push_without-requires-2 c = record {
  room = room_rest c.push_without.new.out.items c.loop-i.out.items c.args.a.now c.args.b.now c.loop-i.i c.loop-i.j
      c.args.pivot c.push_without.new.out.capacity
      (rw c.push_without.ensures.capacity c.loop-i.invariant.room) c.push_without.ensures.items;
}
