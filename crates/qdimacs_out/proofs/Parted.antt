-- Texts of what stands in several lists.
use Rattle.std.proofs.Common.{◌≡◌, List, [], ◌∷◌, ◌++◌, refl, ap, ◌∙◌}
use Rattle.std.specs.List.{flat_map}
use Rattle.std.proofs.lemmas.List.Concat.{flat_map-append}

nested : {X Y A : Type 0} (f : Y → List A) (g : X → List Y) (xs : List X)
    → flat_map f (flat_map g xs) ≡ flat_map (λ x. flat_map f (g x)) xs
nested f g [] = refl
nested f g (x ∷ xs) = flat_map-append f (g x) (flat_map g xs) ∙ ap (λ t. flat_map f (g x) ++ t) (nested f g xs)

-- the text of the first list, and those of the others
pub text_parted : {X Y A : Type 0} (f : Y → List A) (g : X → List Y) (first : List Y) (more : List X)
    → flat_map f (first ++ flat_map g more) ≡ flat_map f first ++ flat_map (λ x. flat_map f (g x)) more
text_parted f g first more = flat_map-append f first (flat_map g more)
    ∙ ap (λ t. flat_map f first ++ t) (nested f g more)
