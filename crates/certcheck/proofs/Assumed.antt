-- What says that variables have their assumed values, of one more variable.
use Rattle.std.proofs.Common.{◌≡◌, ℕ, Bool, List, [], ◌∷◌, ◌++◌, Option, Some, None, refl, sym, ap, ◌∙◌, append-nil}
use Rattle.std.proofs.lemmas.List.Concat.{flat_map-append}
use Rattle.prefix.specs.Literal.{Literal}
use Rattle.truth.specs.Truth.{assumed_value}
use Rattle.certcheck.specs.Check.{Named, given, given_of, number_when}

given_push : (assumptions : List Literal) (ns : List Named) (n : Named) → given assumptions (ns ++ n ∷ [])
    ≡ given assumptions ns ++ given_of n.number (assumed_value assumptions n.variable)
given_push assumptions ns n =
    flat_map-append (λ (m : Named). given_of m.number (assumed_value assumptions m.variable)) ns (n ∷ [])
    ∙ ap (λ r. given assumptions ns ++ r) (append-nil (given_of n.number (assumed_value assumptions n.variable)))

module _ (assumptions : List Literal) (ns ms : List Named) (n : Named) (more : ms ≡ ns ++ n ∷ [])
    (old : List ℕ) (before : old ≡ given assumptions ns) where
  grown : (new : List ℕ) (o : Option Bool) → o ≡ assumed_value assumptions n.variable
      → new ≡ old ++ given_of n.number o → new ≡ given assumptions ms
  grown new o is now =
      now ∙ ap (λ v. old ++ given_of n.number v) is
      ∙ ap (λ l. l ++ given_of n.number (assumed_value assumptions n.variable)) before
      ∙ sym (ap (given assumptions) more ∙ given_push assumptions ns n)

  -- its literal comes behind the others where it is assumed
  pub given_more : (new : List ℕ) (b : Bool) (m : ℕ) → Some b ≡ assumed_value assumptions n.variable
      → m ≡ number_when b n.number → new ≡ old ++ m ∷ [] → new ≡ given assumptions ms
  given_more new b m is number now = grown new (Some b) is (now ∙ ap (λ k. old ++ k ∷ []) number)

  pub given_same : (o : Option Bool) → o ≡ assumed_value assumptions n.variable
      → ((b : Bool) → o ≡ Some b → ⊥) → old ≡ given assumptions ms
  given_same None is none = grown old None is (sym (append-nil old))
  given_same (Some b) is none = absurd (none b refl)
