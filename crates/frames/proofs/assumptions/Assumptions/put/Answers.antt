use Rattle.std.proofs.Common.{◌≡◌, ap, ◌∙◌, None, List, ℕ, Bool}
use Rattle.std.specs.BTreeMap.{insert_entry}
use Rattle.std.specs.Ordering.{nat_cmp}
use Rattle.prefix.specs.Literal.{Literal}
use Rattle.truth.specs.Truth.{assumed_value}
use Rattle.frames.specs.Kept.{literals_of}
use Rattle.frames.specs.State.{put_assumption}
use Rattle.frames.proofs.Assuming.{put_entry, put_ascends}
use Rattle.frames.proofs.assumptions.Assumptions.put.Goals as goal

-- what the map has then
placed : (old new : List (ℕ × Bool)) (l : Literal) (v : ℕ) (b : Bool) → new ≡ insert_entry nat_cmp old v b → v
    ≡ l.variable → b ≡ l.positive
    → assumed_value (literals_of old) l.variable ≡ None → literals_of new ≡ put_assumption l (literals_of old)
placed old new l v b is var sign free = ap literals_of is ∙ ap (λ k. literals_of (insert_entry nat_cmp old k b)) var
    ∙ ap (λ t. literals_of (insert_entry nat_cmp old l.variable t)) sign ∙ put_entry old l free

pub invariant_of-self-2 : goal.invariant_of-self-2
invariant_of-self-2 c =
    let free : assumed_value (literals_of c.self.inside.signs.entries) c.args.lit.variable
    ≡ None = ap (λ ls. assumed_value ls c.args.lit.variable) c.self.view_is ∙ c.requires.free in
    let is : literals_of c.insert.new.self.entries ≡ put_assumption c.args.lit
    (literals_of c.self.inside.signs.entries) = placed _ _ c.args.lit c.var.result c.is_positive.result
    c.in_ok-insert.ensures.entries c.var.ensures c.is_positive.ensures free in
    rw is (put_ascends c.args.lit (literals_of c.self.inside.signs.entries) c.self.invariant)

pub returns-clause-ok : goal.returns-clause-ok
returns-clause-ok c =
    let free : assumed_value (literals_of c.self.inside.signs.entries) c.args.lit.variable
    ≡ None = ap (λ ls. assumed_value ls c.args.lit.variable) c.self.view_is ∙ c.requires.free in
    placed _ _ c.args.lit c.var.result c.is_positive.result c.in_ok-insert.ensures.entries c.var.ensures
    c.is_positive.ensures free ∙ ap (put_assumption c.args.lit) c.self.view_is
