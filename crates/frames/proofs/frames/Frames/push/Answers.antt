use Rattle.std.proofs.Common.{◌≡◌, ◌≢◌, false, List, [], ◌∷◌, ◌++◌, is_some, length, refl, sym, ap, ◌∙◌}
use Rattle.frames.specs.declared.frames.Start.{Start}
use Rattle.frames.specs.State.{Frame, settled}
use Rattle.frames.specs.Kept.{at_first, outside}
use Rattle.frames.proofs.Holding.{held_pushed}
use Rattle.frames.proofs.Starts.{depth_is}
use Rattle.frames.proofs.Keeping.{pushed_frames, pushed_leaving, view_pushed, depth_short}
use Rattle.std.proofs.lemmas.Result.{err_from_is_err_and}
use Rattle.frames.proofs.frames.Frames.push.Goals as goal

pub returns-then-len-eq-MAX_PUSHED-clause-refused : goal.returns-then-len-eq-MAX_PUSHED-clause-refused
returns-then-len-eq-MAX_PUSHED-clause-refused c =
    let self = c.self.inside in
    let full : length self.starts.items ≡ 65536 = sym (c.len.ensures ∙ self.starts.ok.0)
    ∙ c.if-len-eq-MAX_PUSHED.true in
    let closed : is_some self.groups.current ≡ false = ap is_some (sym c.current.ensures) ∙ sym c.is_some.ensures
    ∙ c.if-is_some.false in
    rw (← c.self.view_is, closed, depth_is at_first self.starts.items self.rows.items self.vars.items, full) refl

pub returns-in_err-push-clause-refused : goal.returns-in_err-push-clause-refused
returns-in_err-push-clause-refused c =
    let self = c.self.inside in
    let few : length self.starts.items ≢ 65536 = λ e. c.if-len-eq-MAX_PUSHED.false
    (c.len.ensures ∙ self.starts.ok.0 ∙ e) in
    let closed : is_some self.groups.current ≡ false = ap is_some (sym c.current.ensures) ∙ sym c.is_some.ensures
    ∙ c.if-is_some.false in
    rw (← c.self.view_is, closed, depth_short self.starts.items self.rows.items self.vars.items few)
    (let h = err_from_is_err_and c.from_residual.result c.from_residual.ensures.1 in rw h.1 h.2)

pub returns-clause-refused : goal.returns-clause-refused
returns-clause-refused c =
    let self = c.self.inside in
    let few : length self.starts.items ≢ 65536 = λ e. c.if-len-eq-MAX_PUSHED.false
    (c.len.ensures ∙ self.starts.ok.0 ∙ e) in
    let closed : is_some self.groups.current ≡ false = ap is_some (sym c.current.ensures) ∙ sym c.is_some.ensures
    ∙ c.if-is_some.false in
    rw (← c.self.view_is, closed, depth_short self.starts.items self.rows.items self.vars.items few) tt

pub invariant_of-self-2 : goal.invariant_of-self-2
invariant_of-self-2 c =
    let self = c.self.inside in
    let few : length self.starts.items ≢ 65536 = λ e. c.if-len-eq-MAX_PUSHED.false
    (c.len.ensures ∙ self.starts.ok.0 ∙ e) in
    let rows : c.len-2.result ≡ length self.rows.items = c.len-2.ensures ∙ self.rows.ok.0 in
    let vars : c.len-3.result ≡ length self.vars.items = c.len-3.ensures ∙ self.vars.ok.0 in
    let start : Start = record { rows = c.len-2.result; vars = c.len-3.result } in
    let closed : is_some self.groups.current ≡ false = ap is_some (sym c.current.ensures) ∙ sym c.is_some.ensures
    ∙ c.if-is_some.false in
    rw c.in_ok-push.ensures.items (
      pushed_frames self.version self.prefix self.starts.items self.rows.items self.vars.items
          (outside self.latest self.groups.current) start rows vars c.self.invariant.0 few,
      c.self.invariant.1,
      pushed_leaving self.version self.prefix self.starts.items self.rows.items self.vars.items
          (outside self.latest self.groups.current) start rows vars c.self.invariant.0 c.self.invariant.2,
      held_pushed self.prefix self.starts.items (self.starts.items ++ start ∷ []) self.vars.items self.groups
          self.latest closed c.self.invariant.3,
      c.self.invariant.4,
    )

pub returns-clause-ok : goal.returns-clause-ok
returns-clause-ok c =
    let self = c.self.inside in
    let rows : c.len-2.result ≡ length self.rows.items = c.len-2.ensures ∙ self.rows.ok.0 in
    let vars : c.len-3.result ≡ length self.vars.items = c.len-3.ensures ∙ self.vars.ok.0 in
    let start : Start = record { rows = c.len-2.result; vars = c.len-3.result } in
    rw (← c.self.view_is, c.in_ok-push.ensures.items)
    (ap (λ (frames : List Frame). settled (record {
      version = self.version;
      scopes = self.prefix;
      frames =
          frames;
      groups = self.groups.groups;
      current = self.groups.current;
      assumptions = self.assumptions;
    }))
    (view_pushed self.version self.prefix self.starts.items self.rows.items self.vars.items
    (outside self.latest self.groups.current) start rows vars c.self.invariant.0))
