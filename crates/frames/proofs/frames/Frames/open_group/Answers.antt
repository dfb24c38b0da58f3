use Rattle.std.proofs.Common.{◌≡◌, ◌∙◌, true, false, ℕ, List, [], ◌++◌, Some, is_some, refl, sym, ap}
use Rattle.std.specs.Prelude.{◌==◌}
use Rattle.std.proofs.lemmas.Result.{err_from_is_err_and}
use Rattle.calculus.specs.Rows.{Row}
use Rattle.frames.specs.Groups.{may_number, with_group}
use Rattle.frames.specs.Kept.{at_first, frames_from}
use Rattle.frames.specs.State.{depth, settled}
use Rattle.frames.proofs.Counting.{grouped_new}
use Rattle.frames.proofs.Holding.{counted_same, held_turned}
use Rattle.frames.proofs.Keeping.{settled_frames}
use Rattle.frames.proofs.Refusing.{in_range, none_pushed, out_of_range}
use Rattle.frames.proofs.Starts.{depth_is}
use Rattle.frames.proofs.frames.Frames.open_group.Goals as goal

pub returns-in_default-clause-refused : goal.returns-in_default-clause-refused
returns-in_default-clause-refused c =
    let out : may_number c.args.group ≡ false = out_of_range (may_number c.args.group) c.args.group
    c.group_number.result c.in_default.not-Some c.group_number.ensures in
    rw out refl

pub returns-then-is_open-clause-refused : goal.returns-then-is_open-clause-refused
returns-then-is_open-clause-refused c =
    let fits = in_range (may_number c.args.group) c.args.group c.in-Some.number c.in-Some.ensures in
    let shut : is_some c.self.inside.groups.current ≡ true = sym c.is_open.ensures.value ∙ c.if-is_open.true in
    rw (← c.self.view_is, fits.0, shut) refl

pub returns-then-not-is_empty-clause-refused : goal.returns-then-not-is_empty-clause-refused
returns-then-not-is_empty-clause-refused c =
    let self = c.self.inside in
    let fits = in_range (may_number c.args.group) c.args.group c.in-Some.number c.in-Some.ensures in
    let shut : is_some self.groups.current ≡ false = sym c.is_open.ensures.value ∙ c.if-is_open.false in
    let deep : (depth (frames_from at_first self.starts.items self.rows.items self.vars.items) == 0) ≡ false =
    ap (λ (n : ℕ). n == 0) (depth_is at_first self.starts.items self.rows.items self.vars.items ∙ sym self.starts.ok.0)
    ∙ sym c.is_empty.ensures ∙ c.if-not-is_empty.true in
    rw (← c.self.view_is, fits.0, shut, deep) refl

pub returns-in_err-open_group-clause-refused : goal.returns-in_err-open_group-clause-refused
returns-in_err-open_group-clause-refused c =
    let self = c.self.inside in
    let fits = in_range (may_number c.args.group) c.args.group c.in-Some.number c.in-Some.ensures in
    let shut : is_some self.groups.current ≡ false = sym c.is_open.ensures.value ∙ c.if-is_open.false in
    let flat : (depth (frames_from at_first self.starts.items self.rows.items self.vars.items) == 0) ≡ true =
    ap (λ (n : ℕ). n == 0) (depth_is at_first self.starts.items self.rows.items self.vars.items ∙ sym self.starts.ok.0)
    ∙ sym c.is_empty.ensures ∙ c.if-not-is_empty.false in
    rw (← c.self.view_is, fits.0, shut, flat)
    (let h = err_from_is_err_and c.from_residual.result c.from_residual.ensures.1 in rw h.1 h.2)

pub returns-clause-refused : goal.returns-clause-refused
returns-clause-refused c =
    let self = c.self.inside in
    let fits = in_range (may_number c.args.group) c.args.group c.in-Some.number c.in-Some.ensures in
    let shut : is_some self.groups.current ≡ false = sym c.is_open.ensures.value ∙ c.if-is_open.false in
    let flat : (depth (frames_from at_first self.starts.items self.rows.items self.vars.items) == 0) ≡ true =
    ap (λ (n : ℕ). n == 0) (depth_is at_first self.starts.items self.rows.items self.vars.items ∙ sym self.starts.ok.0)
    ∙ sym c.is_empty.ensures ∙ c.if-not-is_empty.false in
    rw (← c.self.view_is, fits.0, shut, flat) tt

pub invariant_of-self-2 : goal.invariant_of-self-2
invariant_of-self-2 c =
    let self = c.self.inside in
    let flat : self.starts.items ≡ [] = none_pushed self.starts.items
    (ap (λ (n : ℕ). n == 0) (sym self.starts.ok.0) ∙ sym c.is_empty.ensures ∙ c.if-not-is_empty.false) in
    rw c.in_ok-open_group.ensures.ok (
      settled_frames _ _ _ _ _ c.self.invariant.0,
      c.self.invariant.1,
      c.self.invariant.2,
      held_turned _ _ _ self.groups self.latest (with_group c.in-Some.number self.groups.groups)
          (Some c.in-Some.number) (grouped_new c.in-Some.number self.groups.groups) flat c.self.invariant.3,
      counted_same self.total _ _ (ap (λ (rows : List Row). self.rows.items ++ rows)
          (grouped_new c.in-Some.number self.groups.groups)) c.self.invariant.4,
    )

pub returns-clause-ok : goal.returns-clause-ok
returns-clause-ok c =
    let self = c.self.inside in
    let fits = in_range (may_number c.args.group) c.args.group c.in-Some.number c.in-Some.ensures in
    rw (← c.self.view_is, c.in_ok-open_group.ensures.ok)
    (ap (λ (n : ℕ). settled (record {
      version = self.version;
      scopes = self.prefix;
      frames = frames_from at_first self.starts.items self.rows.items self.vars.items;
      groups = with_group n self.groups.groups;
      current = Some n;
      assumptions = self.assumptions;
    })) fits.1)
