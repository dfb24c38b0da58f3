-- What both walks begin with: the parts as a type, the tokens of two type parameters, and an argument that is one word.
-- Assumes `Logic`.
use Rattle.std.proofs.Common.{◌≡◌, List, [], ◌∷◌, ◌++◌, ℕ, sym, subst}
use seplogic.Ra.Ura.{Ura}
use mir.Val.{Val}
use base.Logic.{SProp, ent, id⊢}
use base.Fml.{Lft, Share, ftrue, flft}
use contract.BorrowLft.{◌⊑◌}
use contract.Monad.{fact}
use types.Kit.{Item, ‵, raw, ◌⊛◌}
use denote.RattleType.{RattleType}
use denote.RawPtr.{block_ptr}
use Rattle.std_alloc.proofs.BoxSteps.Form.{Bx, P, R}
use Rattle.box_parts.specs.contracts.parts.Parts as parts

module _ (E : Bx) where
  abbrev pub Pieces : RattleType
  Pieces = parts.the_row (R E) (P E) E.al.g

  -- the parts of a value that lies at an offset of a block
  abbrev pub pieces : ℕ → ℕ → E.al.row.Denot → E.row.Denot → Pieces.Denot
  pieces b o a x = record { ptr = block_ptr b o; alloc = a; value = x }

  module _ {M : Type 1} (𝓤 : Ura M) (κ ν : Lft) where
    -- the lifetimes of the value and of the allocator aren't over
    abbrev pub tokens : Share → Share → Item 𝓤
    tokens q r = ‵ (flft κ q) ⊛ ‵ (flft ν r) ⊛ ‵ ftrue

    -- and these live as long
    abbrev pub outlived : Item 𝓤
    outlived = raw (fact 𝓤 (κ ⊑ E.row.lives)) ⊛ raw (fact 𝓤 (ν ⊑ E.al.row.lives)) ⊛ ‵ ftrue

-- what runs on one word runs on an argument that is this word
pub on_word : {M : Type 1} (𝓤 : Ura M) (Runs : List Val → SProp 𝓤) {vs : List Val} (w : Val) → vs ≡ w ∷ []
    → ent 𝓤 (Runs (w ∷ [])) (Runs (vs ++ []))
on_word 𝓤 Runs w is = subst (λ (us : List Val). ent 𝓤 (Runs (w ∷ [])) (Runs us)) (sym (λ i. is i ++ []))
    (id⊢ 𝓤 (Runs (w ∷ [])))
