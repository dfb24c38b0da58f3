-- The tag of a step is the greatest frame in its support.
use Rattle.std.proofs.Common.{◌≡◌, ℕ, zero, suc, ◌<◌, ◌≤◌, ◌⊎◌, true, [], ◌∷◌, get_or, is_some, Option, Some, sym, refl, ap, ◌∙◌, inl, inr, ⊎_elim, arith}
use Rattle.std.proofs.lemmas.Bool.{cases_lt, eqb-true, false≢true}
use Rattle.prefix.specs.declared.quant.Quant.TheVariants.{Forall}
use Rattle.calculus.specs.Derivations.{Why, RestsOn}
use Rattle.calculus.specs.Derivations.Why.{Given, ReducedFrom, ResolvedFrom, FinishedFrom}
use Rattle.derive.specs.State.{Note, Notes, note_in, tag_in}
use Rattle.derive.specs.Antecedents.{AreSupported, HasTag, Supports, IsGreatestFrame}
use Rattle.derive.specs.Antecedents.Supports.{itself, through}
use Rattle.derive.specs.Dropping.{Falls, has_tag}
use Rattle.derive.specs.Dropping.Falls.{rests, root}

module _ (notes : Notes) where
  -- two notes under an id are one
  one_note : (id : ℕ) (a b : Note) → note_in notes id ≡ Some a → note_in notes id ≡ Some b → a ≡ b
  one_note id a b p q = let e : Some a ≡ Some b = sym p ∙ q in cc

  -- what supports a step is the step itself, as an input, or supports what the step rests on
  bound_by : (id : ℕ) (note : Note) (tag : ℕ) → note_in notes id ≡ Some note → (note.why ≡ Given → note.tag ≤ tag)
      → ((on input : ℕ) → RestsOn note.why on → Supports notes on input → tag_in (note_in notes input) ≤ tag)
      → (input : ℕ) → Supports notes id input → tag_in (note_in notes input) ≤ tag
  bound_by id note tag there own others input (itself j n at given) =
      let same = one_note id note n there at in
      let h : note.tag ≤ tag = own (ap (λ (m : Note). m.why) same ∙ given) in
      let e : tag_in (note_in notes id) ≡ note.tag = ap tag_in there in
      omega arith
  bound_by id note tag there own others input (through j on i n at r s) =
      let same = one_note id note n there at in
      others on input (rw same r) s

  -- the greatest frame of a step that rests on others
  greatest_with : (id : ℕ) (note : Note) (why : Why) → note_in notes id ≡ Some note → note.why ≡ why
      → HasTag notes note.side note.tag why
      → ((on : ℕ) → RestsOn note.why on → IsGreatestFrame notes on (tag_in (note_in notes on)))
      → IsGreatestFrame notes id note.tag
  greatest_with id note Given there is has before =
      record {
        bound = bound_by id note note.tag there (λ e. omega arith) (λ on input r s. absurd (rw is at r));
        reached = (id, itself id note there is, ap tag_in there);
      }
  greatest_with id note (ReducedFrom a) there is has before =
      let r : RestsOn note.why a = rw is refl in
      let g = before a r in
      record {
        bound = bound_by id note note.tag there (λ e. let f : ReducedFrom a ≡ Given = sym is ∙ e in absurd (cc))
            (λ on input q s. let same : a ≡ on = rw is at q in let h = g.bound input (rw same s) in omega arith);
        reached = (g.reached.0, through id a g.reached.0 note there r g.reached.1, g.reached.2 ∙ sym has);
      }
  greatest_with id note (FinishedFrom a) there is has before =
      let r : RestsOn note.why a = rw is refl in
      let g = before a r in
      record {
        bound = bound_by id note note.tag there (λ e. let f : FinishedFrom a ≡ Given = sym is ∙ e in absurd (cc))
            (λ on input q s. let same : a ≡ on = rw is at q in let h = g.bound input (rw same s) in omega arith);
        reached = (g.reached.0, through id a g.reached.0 note there r g.reached.1, g.reached.2 ∙ sym has);
      }
  greatest_with id note (ResolvedFrom a b x) there is has before =
      let p : RestsOn note.why a = rw is (inl refl) in
      let q : RestsOn note.why b = rw is (inr refl) in
      let g = before a p in
      let h = before b q in
      record {
        bound = bound_by id note note.tag there (λ e. let f : ResolvedFrom a b x ≡ Given = sym is ∙ e in absurd (cc))
            (λ on input r s. ⊎_elim (λ same. let m = g.bound input (rw same s) in omega arith)
            (λ same. let m = h.bound input (rw same s) in omega arith)
            (let t : (a ≡ on) ⊎ (b ≡ on) = rw is at r in t));
        reached =
            ⊎_elim
            (λ less. let e : tag_in (note_in notes b) ≡ note.tag = omega arith in
            (h.reached.0, through id b h.reached.0 note there q h.reached.1, h.reached.2 ∙ e))
            (λ more. let e : tag_in (note_in notes a) ≡ note.tag = omega arith in
            (g.reached.0, through id a g.reached.0 note there p g.reached.1, g.reached.2 ∙ e))
            (cases_lt (tag_in (note_in notes a)) (tag_in (note_in notes b)));
      }

  greatest_below : AreSupported notes → (bound id : ℕ) → id < bound → (note : Note) → note_in notes id ≡ Some note
      → IsGreatestFrame notes id note.tag
  greatest_below supported zero id h note there = absurd (omega arith)
  greatest_below supported (suc bound) id h note there =
      let g = supported id note there in
      greatest_with id note note.why there refl g.tag
      (λ on r.
      let u = g.antecedents on r in
      let e = u.earlier in
      rw (u.there) (greatest_below supported bound on (omega arith) u.under u.there))

  pub greatest : AreSupported notes → (id : ℕ) (note : Note) (tag : ℕ) → note_in notes id ≡ Some note → tag ≡ note.tag
      → IsGreatestFrame notes id tag
  greatest supported id note tag there is = rw is (greatest_below supported (suc id) id (omega arith) note there)

-- what is read under a live id is the note there
pub note_found : (notes : Notes) (id : ℕ) (found : Option Note) → found ≡ get_or notes id found
    → is_some (note_in notes id) ≡ true → note_in notes id ≡ found
note_found [] id found is live = absurd (false≢true live)
note_found (first ∷ notes) zero found is live = sym is
note_found (first ∷ notes) (suc id) found is live = note_found notes id found is live

-- what supports a cube is a cube, and has tag 0
cube_support : (notes : Notes) → AreSupported notes → (id input : ℕ) → Supports notes id input → (note : Note)
    → note_in notes id ≡ Some note → note.side ≡ Forall → tag_in (note_in notes input) ≡ 0
cube_support notes supported id input (itself j n at given) note there side =
    let same = one_note notes id n note at there in
    let zero_tag : n.tag ≡ 0 = (let has = (supported id n at).tag in let h : HasTag notes n.side n.tag Given =
    rw given at has in h (ap (λ (m : Note). m.side) same ∙ side)) in
    ap tag_in at ∙ zero_tag
cube_support notes supported id input (through j on i n at r s) note there side =
    let same = one_note notes id n note at there in
    let g = (supported id n at).antecedents on r in
    cube_support notes supported on input s g.under g.there (g.one_side ∙ ap (λ (m : Note). m.side) same ∙ side)

pub cube_tag : (notes : Notes) → AreSupported notes → (id : ℕ) (note : Note) (tag : ℕ) → note_in notes id ≡ Some note
    → tag ≡ note.tag → note.side ≡ Forall → tag ≡ 0
cube_tag notes supported id note tag there is side =
    let g = greatest notes supported id note tag there is in
    sym g.reached.2 ∙ cube_support notes supported id g.reached.0 g.reached.1 note there side

-- a step has at least the tag of what it rests on
tag_over : (notes : Notes) (note : Note) (why : Why) (on : ℕ) → HasTag notes note.side note.tag why → RestsOn why on
    → tag_in (note_in notes on) ≤ note.tag
tag_over notes note Given on has r = absurd r
tag_over notes note (ReducedFrom a) on has r = let e : tag_in (note_in notes a) ≡ tag_in (note_in notes on) =
    ap (λ i. tag_in (note_in notes i)) r in omega arith
tag_over notes note (ResolvedFrom a b x) on has r =
    ⊎_elim
    (λ s. let e : tag_in (note_in notes a) ≡ tag_in (note_in notes on) = ap (λ i. tag_in (note_in notes i)) s in
    omega arith)
    (λ s. let e : tag_in (note_in notes b) ≡ tag_in (note_in notes on) = ap (λ i. tag_in (note_in notes i)) s in
    omega arith)
    r
tag_over notes note (FinishedFrom a) on has r = let e : tag_in (note_in notes a) ≡ tag_in (note_in notes on) =
    ap (λ i. tag_in (note_in notes i)) r in omega arith

-- what falls with a frame has it or a later one as its tag
pub frame_below : (frame : ℕ) (notes : Notes) → AreSupported notes → (id : ℕ) → Falls (has_tag frame) notes id
    → frame ≤ tag_in (note_in notes id)
frame_below frame notes supported id (root j note there test) =
    let e : note.tag ≡ frame = eqb-true note.tag frame test in
    let t : tag_in (note_in notes id) ≡ note.tag = ap tag_in there in
    omega arith
frame_below frame notes supported id (rests j on note there r falls) =
    let below = frame_below frame notes supported on falls in
    let over = tag_over notes note note.why on (supported id note there).tag r in
    let t : tag_in (note_in notes id) ≡ note.tag = ap tag_in there in
    omega arith
