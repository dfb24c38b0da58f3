use Rattle.std.proofs.Common.{◌≡◌, ◌<◌, ◌∙◌, Some, sym, ap, length}
use Rattle.std.specs.Prelude.{slice_get}
use Rattle.std.proofs.lemmas.List.{length-map}
use Rattle.calculus.specs.Search.{Trail, literals_on, place_on, value_on}
use Rattle.trail.specs.State.{TrailState}
use Rattle.trail.specs.Table.{placed_of, trail_of}
use Rattle.trail.proofs.Placing.{value_at}
use Rattle.trail.proofs.Tables.{literal_at, placed_at}
use Rattle.trail.proofs.trail.Trail.at.Goals as goal

same : (c : goal.After-result-1) → trail_of c.self.inside.entries.items ≡ c.args.self.now.placed
same c = ap (λ (t : TrailState). t.placed) c.self.view_is

within : (c : goal.After-result-1) → c.args.place < length c.self.inside.entries.items
within c = rw (← length-map c.self.inside.entries.items placed_of) (rw (← c.self.view_is) at c.requires)

pub returns-clause-literal : goal.returns-clause-literal
returns-clause-literal c = ap (λ (t : Trail). slice_get (literals_on t) c.args.place) (sym (same c))
    ∙ literal_at c.self.inside.entries.items c.args.place c.index.result.now (within c) c.index.ensures

read : (c : goal.After-result-1) → slice_get (trail_of c.self.inside.entries.items) c.args.place ≡ Some
    (placed_of c.index.result.now)
read c = placed_at c.self.inside.entries.items c.args.place c.index.result.now (within c) c.index.ensures

place : (c : goal.After-result-1) → place_on (trail_of c.self.inside.entries.items) c.index.result.now.lit.variable ≡
    c.args.place
place c = c.self.invariant.0.once c.args.place (placed_of c.index.result.now) (read c)

pub returns-clause-place : goal.returns-clause-place
returns-clause-place c = ap (λ (t : Trail). place_on t c.index.result.now.lit.variable) (sym (same c)) ∙ place c

pub returns-clause-value : goal.returns-clause-value
returns-clause-value c =
    ap (λ (t : Trail). value_on t c.index.result.now.lit.variable) (sym (same c))
    ∙ value_at (trail_of c.self.inside.entries.items) c.args.place (placed_of c.index.result.now) (read c) (place c)
