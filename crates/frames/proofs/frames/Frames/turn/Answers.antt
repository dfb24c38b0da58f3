use Rattle.std.proofs.Common.{◌≡◌, ◌++◌, List, false, refl, ap}
use Rattle.calculus.specs.Rows.{Row}
use Rattle.frames.specs.Groups.{may_number, with_mark}
use Rattle.frames.proofs.Counting.{grouped_marked}
use Rattle.frames.proofs.Holding.{counted_same, held_turned}
use Rattle.frames.proofs.Keeping.{settled_frames}
use Rattle.frames.proofs.Refusing.{out_of_range}
use Rattle.frames.proofs.frames.Frames.turn.Goals as goal

pub returns-in_default-clause-refused : goal.returns-in_default-clause-refused
returns-in_default-clause-refused c =
    let out : may_number c.args.group ≡ false = out_of_range (may_number c.args.group) c.args.group
    c.group_number.result c.in_default.not-Some c.group_number.ensures in
    rw out refl

pub invariant_of-self : goal.invariant_of-self
invariant_of-self c =
    let self = c.self.inside in
    rw c.mark.ensures (
      settled_frames _ _ _ _ _ c.self.invariant.0,
      c.self.invariant.1,
      c.self.invariant.2,
      held_turned _ _ _ self.groups self.latest (with_mark c.args.active c.in-Some.number self.groups.groups)
          self.groups.current (grouped_marked c.args.active c.in-Some.number self.groups.groups)
          c.self.invariant.3.shallow c.self.invariant.3,
      counted_same self.total _ _ (ap (λ (rows : List Row). self.rows.items ++ rows)
          (grouped_marked c.args.active c.in-Some.number self.groups.groups)) c.self.invariant.4,
    )
