-- Worked values: depths under e 1, a 2, e 3, a 4, for clauses.
use Rattle.std.specs.Prelude.{◌≡◌, true, false, List, [], ◌∷◌, Some, None}
use Rattle.prefix.specs.declared.quant.Quant.TheVariants.{Exists}
use Rattle.prefix.specs.Scopes.{Scope}
use Rattle.calculus.specs.Worked.{existential, minus, plus, universal}
use Rattle.reduce.specs.Deepest.{IsDeepestOther, goes_at, is_deeper, keeps_all, reaches}

-- e 1, a 2, e 3, a 4
abbrev pub four_scopes : List Scope
four_scopes = existential (1 ∷ []) ∷ universal (2 ∷ []) ∷ existential (3 ∷ []) ∷ universal (4 ∷ []) ∷ []

pub record WorkedDepths : Type 0 where
  -- where the deepest existential literals are of depth 3, 4 goes, 2 stays, and so does any existential one
  pub goes : goes_at Exists four_scopes 3 (plus 4) ≡ true
  pub smaller : goes_at Exists four_scopes 3 (minus 2) ≡ false
  pub existential_one : goes_at Exists four_scopes 1 (plus 3) ≡ false
  pub same_depth : reaches (Some 2) 2 ≡ true
  pub no_depth : reaches None 0 ≡ false
  pub too_small : reaches (Some 2) 3 ≡ false
  -- of 1 2 4 the deepest universal literal is of depth 4, and not of 2
  pub deepest : IsDeepestOther Exists four_scopes (plus 1 ∷ plus 2 ∷ plus 4 ∷ []) (Some 4)
  pub not_deepest : IsDeepestOther Exists four_scopes (plus 1 ∷ plus 2 ∷ plus 4 ∷ []) (Some 2) → ⊥
  -- 3 is an existential literal deeper than 2, and not than itself; 4 is none
  pub deeper : is_deeper Exists four_scopes 2 (plus 3) ≡ true
  pub not_deeper : is_deeper Exists four_scopes 3 (plus 3) ≡ false
  pub universal_one : is_deeper Exists four_scopes 2 (plus 4) ≡ false
  -- with 2 as the deepest universal literal, 2 3 is kept, 1 2 isn't, and 2 alone is
  pub kept : keeps_all Exists four_scopes 2 (plus 2 ∷ plus 3 ∷ []) ≡ true
  pub not_kept : keeps_all Exists four_scopes 2 (plus 1 ∷ plus 2 ∷ []) ≡ false
  pub alone : keeps_all Exists four_scopes 2 (plus 2 ∷ []) ≡ true
