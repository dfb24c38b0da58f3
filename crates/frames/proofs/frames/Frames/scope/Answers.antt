use Rattle.std.proofs.Common.{◌≡◌, ℕ, true, refl, sym, ap, ◌∙◌}
use Rattle.std.specs.Prelude.{is_some, Option, Some, None}
use Rattle.std.specs.Option.{option_map}
use Rattle.prefix.specs.Scopes.{level_of}
use Rattle.frames.specs.Kept.{at_first, frames_from, outside}
use Rattle.frames.proofs.Holding.{held}
use Rattle.frames.proofs.Keeping.{grown, none_assumed, none_there}
use Rattle.frames.proofs.Leaving.{leave_kept}
use Rattle.frames.proofs.frames.Frames.scope.Goals as goal

still_some : (o : Option ℕ) (f : ℕ → ℕ) → is_some o ≡ true → is_some (option_map f o) ≡ true
still_some (Some x) f e = refl
still_some None f e = absurd (cc)

pub invariant_of-self-2 : goal.invariant_of-self-2
invariant_of-self-2 c =
    let self = c.self.inside in
    let kept : (v : ℕ) → is_some (level_of self.prefix v) ≡ true → is_some (level_of c.add_scope.new.self v) ≡ true
    = λ v e. ap is_some (c.in_ok-add_scope.ensures.levels v) ∙ still_some _ _ e in (
      grown self.prefix c.add_scope.new.self self.starts.items self.rows.items self.vars.items
          (outside self.latest self.groups.current) kept c.self.invariant.0,
      none_assumed c.add_scope.new.self self.assumptions
          (none_there _ (sym c.is_empty.ensures ∙ c.if-not-is_empty.false)),
      leave_kept self.version self.prefix c.add_scope.new.self
          (frames_from at_first self.starts.items self.rows.items self.vars.items) kept c.self.invariant.2,
      held self.prefix c.add_scope.new.self self.starts.items self.vars.items self.groups self.latest kept
          c.self.invariant.3,
      c.self.invariant.4,
    )
