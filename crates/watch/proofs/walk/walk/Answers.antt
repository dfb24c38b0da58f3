use Rattle.std.proofs.Common.{◌≡◌, ◌≤◌, arith, length, min}
use Rattle.std.proofs.lemmas.List.{length-map}
use Rattle.calculus.specs.Search.{Placed, literals_on}
use Rattle.watch.proofs.Keeping.{AreKept-calmer, AreKept-quiet}
use Rattle.watch.proofs.walk.walk.Goals as goal

pub returns-clause-held : goal.returns-clause-held
returns-clause-held g c =
    let size : length (literals_on c.args.trail.now.placed) ≡ length c.args.trail.now.placed =
    length-map c.args.trail.now.placed (λ (p : Placed). p.literal) in
    let past : length (literals_on c.args.trail.now.placed) ≤ min c.loop-first.ones c.loop-first.twos =
    omega (arith, c.loop-first-test.false, c.min.ensures, c.len.ensures, size) in
    let one : length (literals_on c.args.trail.now.placed) ≤ c.loop-first.ones = omega arith in
    let two : length (literals_on c.args.trail.now.placed) ≤ c.loop-first.twos = omega arith in
    record {
      kept = AreKept-calmer g.S.Side.PIVOT c.args.prefix.now (literals_on c.args.trail.now.placed) c.args.calm.now.items
          c.loop-first.ones c.loop-first.twos c.loop-first.first c.loop-first.second c.loop-first.rows
          c.loop-first.invariant.placed one two
          c.note_calm.new.calm.items c.requires.calm c.note_calm.ensures.noted;
      walking = c.loop-first.invariant.walking;
    }

pub returns-clause-event : goal.returns-clause-event
returns-clause-event g c =
    let size : length (literals_on c.args.trail.now.placed) ≡ length c.args.trail.now.placed =
    length-map c.args.trail.now.placed (λ (p : Placed). p.literal) in
    let past : length (literals_on c.args.trail.now.placed) ≤ min c.loop-first.ones c.loop-first.twos =
    omega (arith, c.loop-first-test.false, c.min.ensures, c.len.ensures, size) in
    let one : length (literals_on c.args.trail.now.placed) ≤ c.loop-first.ones = omega arith in
    let two : length (literals_on c.args.trail.now.placed) ≤ c.loop-first.twos = omega arith in
    AreKept-quiet g.S.Side.PIVOT c.args.prefix.now (literals_on c.args.trail.now.placed) c.args.calm.now.items
    c.loop-first.ones c.loop-first.twos c.loop-first.first c.loop-first.second c.loop-first.rows
    c.loop-first.invariant.placed one two
    c.loop-first.invariant.none
