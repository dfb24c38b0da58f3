use Rattle.std.proofs.Common.{◌∙◌, ◌≤◌, Option, Some, None, Bor, IfSome, length, ap, arith, sym, subst}
use Rattle.calculus.specs.Rows.{Row}
use Rattle.frames.specs.declared.frames.Latest.{Latest}
use Rattle.frames.specs.Kept.{AreFrames, AreGrouped, formula_of, last_in, outside, rows_before}
use Rattle.frames.specs.Places.{without_last}
use Rattle.frames.proofs.Holding.{last_there}
use Rattle.frames.proofs.Keeping.{last_formula, starts_before, told_last}
use Rattle.frames.proofs.frames.Frames.last_row.Goals as goal

both : {A : Type 0} (o : Option A) (P Q R : A → Type 0) → IfSome o P → IfSome o Q → ((x : A) → P x → Q x → R x)
    → IfSome o R
both None P Q R p q r = tt
both (Some x) P Q R p q r = r x p q

pub returns-in-Kept : goal.returns-in-Kept
returns-in-Kept c =
    let self = c.self.inside in
    let frames = subst (λ (l : Latest). AreFrames self.prefix self.starts.items self.rows.items self.vars.items
    (outside l self.groups.current)) c.in-Kept.is c.self.invariant.0 in
    let grouped = subst (AreGrouped self.prefix self.starts.items self.vars.items self.groups) c.in-Kept.is
    c.self.invariant.3 in
    let some : 1 ≤ length (last_in self.groups.current self.rows.items self.groups.groups) =
    last_there self.prefix self.starts.items self.rows.items self.vars.items self.groups frames grouped in
    let starts = starts_before self.prefix self.starts.items self.rows.items self.vars.items self.groups.current
    frames in
    rw (← c.self.view_is, c.in-Kept.is) (λ before is. told_last (λ (r : Bor Row). r.now) c.newest.result
    (formula_of self.version self.prefix self.starts.items self.rows.items self.vars.items self.groups
    self.assumptions)
    (formula_of self.version self.prefix self.starts.items (rows_before self.groups.current self.rows.items)
    self.vars.items (without_last self.groups) self.assumptions)
    before
    (λ none. absurd (let empty = ap length (ap (λ rows. last_in self.groups.current rows self.groups.groups)
    (sym c.deref.ensures.value) ∙ c.newest.ensures.none none) in omega (arith, some, empty)))
    (both c.newest.result _ _ _ (rw (← c.deref.ensures.value) c.newest.ensures.rows) c.newest.ensures.groups
    (λ r e g. last_formula self.version self.prefix self.starts.items self.rows.items self.vars.items self.groups
    self.assumptions r.now e g starts))
    is)
