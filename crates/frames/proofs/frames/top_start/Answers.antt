use Rattle.std.proofs.Common.{◌≡◌, ◌-◌, suc, List, [], ◌∷◌, length, ap, ◌∙◌, arith}
use Rattle.std.specs.Prelude.{Some, None, slice_get}
use Rattle.frames.specs.declared.frames.Start.{Start}
use Rattle.frames.specs.Kept.{last_vars}
use Rattle.frames.proofs.frames.top_start.Goals as goal

last_is : (starts : List Start) (s : Start) → Some s ≡ slice_get starts (length starts - 1) → s.vars ≡ last_vars starts
last_is [] s e = absurd (let f : Some s ≡ None = e in cc)
last_is (t ∷ []) s e = let f : Some s ≡ Some t = e in ap (λ (u : Start). u.vars) (let g : s ≡ t = cc in g)
last_is (t ∷ u ∷ rest) s e =
    let is : length (t ∷ u ∷ rest) - 1 ≡ suc (length (u ∷ rest) - 1) = omega arith in
    last_is (u ∷ rest) s (e ∙ ap (slice_get (t ∷ u ∷ rest)) is)

pub returns-in-Some : goal.returns-in-Some
returns-in-Some c = last_is c.args.starts.now c.in-Some.start.now c.in-Some.ensures.value
