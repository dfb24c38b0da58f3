use Rattle.std.proofs.Common.{◌∙◌, ◌-◌, Option, Some, None, Bor, IfSome, length, option_copied, ap, arith}
use Rattle.std.specs.Prelude.{slice_get}
use Rattle.calculus.specs.Rows.{Row}
use Rattle.frames.proofs.Placing.{newest_is, newest_none, placed_low}
use Rattle.frames.proofs.groups.Groups.newest.Goals as goal

-- of what a reference lends
lent : (o : Option (Bor Row)) (P : Row → Type 0) → IfSome (option_copied o) P → IfSome o (λ r. P r.now)
lent None P is = tt
lent (Some r) P is = is

pub index-requires : goal.index-requires
index-requires c =
    let low = placed_low c.self.inside.groups.items c.self.inside.current c.in-Some.place c.in-Some.is
    c.self.invariant.placed in
    omega (arith, low, c.self.inside.groups.ok.0)

pub returns-in-Some-clause-last : goal.returns-in-Some-clause-last
returns-in-Some-clause-last c =
    rw (← c.self.view_is) (lent c.last.result _ (newest_is c.self.inside.groups.items c.self.inside.current
    c.in-Some.place c.index.result.now c.in-Some.is c.self.invariant c.index.ensures (option_copied c.last.result)
    (c.last.ensures.value ∙ ap (λ rows. slice_get rows (length rows - 1)) c.clauses.ensures)))

pub returns-in-Some-clause-none : goal.returns-in-Some-clause-none
returns-in-Some-clause-none c =
    rw (← c.self.view_is) (λ n at none. newest_none c.self.inside.groups.items c.self.inside.current
    c.in-Some.place c.index.result.now c.in-Some.is c.self.invariant c.index.ensures (option_copied c.last.result)
    (c.last.ensures.value ∙ ap (λ rows. slice_get rows (length rows - 1)) c.clauses.ensures) n at
    (ap option_copied none))
