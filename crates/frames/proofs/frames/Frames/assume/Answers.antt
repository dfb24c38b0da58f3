use Rattle.std.proofs.Common.{◌≡◌, sym, ap, ◌∙◌, Some, nat_abs}
use Rattle.std.proofs.Math.Facts.{to_z-of_z}
use Rattle.prefix.specs.Literal.{Literal}
use Rattle.prefix.specs.Scopes.{level_of}
use Rattle.truth.specs.Truth.{assumed_value}
use Rattle.frames.specs.State.{literal_from}
use Rattle.frames.specs.Kept.{formula_of}
use Rattle.frames.proofs.Refusing.{is_one}
use Rattle.frames.proofs.Assuming.{put_outer}
use Rattle.frames.proofs.Holding.{held_settled}
use Rattle.frames.proofs.Keeping.{settled_frames, view_again}
use Rattle.frames.proofs.frames.Frames.assume.Goals as goal

pub invariant_of-self-in-None : goal.invariant_of-self-in-None
invariant_of-self-in-None c =
    let over : c.new.result.variable ≡ c.in-Some.v = ap (λ (l : Literal). l.variable) c.new.ensures in
    let level : level_of c.self.inside.prefix c.new.result.variable ≡ Some 1 = ap (level_of c.self.inside.prefix) over
    ∙ sym c.level.ensures.value ∙ is_one c.level.result (sym c.ne.ensures ∙ c.if-ne.false) in (
      settled_frames _ _ _ _ _ c.self.invariant.0,
      rw c.in_ok-put-in-None.ensures.ok (put_outer c.self.inside.prefix c.new.result c.self.inside.assumptions level
          c.self.invariant.1),
      c.self.invariant.2,
      held_settled _ _ _ _ _ c.self.invariant.3,
      c.self.invariant.4,
    )

pub returns-else-assumed-positive-clause-ok : goal.returns-else-assumed-positive-clause-ok
returns-else-assumed-positive-clause-ok c =
    let over : c.in-Some.v ≡ nat_abs c.args.lit = c.in-Some.ensures.variable ∙ ap nat_abs (to_z-of_z c.ranges.lit) in
    let there : assumed_value c.self.inside.assumptions (nat_abs c.args.lit) ≡ Some c.in-Some-sign.assumed =
    ap (assumed_value c.self.inside.assumptions) (sym over) ∙ sym c.sign.ensures.value ∙ c.in-Some-sign.is in
    rw (← c.self.view_is) (view_again (formula_of c.self.inside.version c.self.inside.prefix
    c.self.inside.starts.items c.self.inside.rows.items c.self.inside.vars.items c.self.inside.groups
    c.self.inside.assumptions)
    c.self.inside.assumptions (literal_from c.args.lit) c.in-Some-sign.assumed c.sign.ensures.ascending there)
