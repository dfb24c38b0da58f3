-- What tests on words tell.
use Rattle.std.proofs.Common.{◌≡◌, ℕ, pos, negsuc, Bool, true, false, not, List, None, refl, ap}
use Rattle.std.proofs.lemmas.Slice.Eq.{bytes_eq-Decides}
use Rattle.lexer.specs.declared.token.Word.{Word}
use Rattle.lexer.specs.declared.token.Word.TheVariants.{Num, Text, Other}
use Rattle.qdimacs.specs.Rules.{Outcome, first_of}
use Rattle.reading.specs.Words.{is_text, is_natural, natural_of}
use Rattle.std.specs.Prelude.{[], ◌∷◌, ◌++◌}

pub text_is : (t : List ℕ) (w : Word) → is_text t w ≡ true → w ≡ Text t
text_is t (Text bytes) h = ap Text ((bytes_eq-Decides bytes t).0 h)
text_is t (Num n) h = cc
text_is t Other h = cc

pub natural_is : (w : Word) → is_natural w ≡ true → w ≡ Num (pos (natural_of w))
natural_is (Num (pos n)) h = refl
natural_is (Num (negsuc n)) h = cc
natural_is (Text bytes) h = cc
natural_is Other h = cc

-- no rule of the list refuses
pub none_refuses : (test : Bool) (o : Outcome) (rules : List (Bool × Outcome)) → first_of ((test, o) ∷ rules) ≡ None
    → (test ≡ false) × (first_of rules ≡ None)
none_refuses true o rules h = cc
none_refuses false o rules h = (refl, h)

pub passes : (test : Bool) (o : Outcome) (rules : List (Bool × Outcome)) → first_of ((not test, o) ∷ rules) ≡ None
    → (test ≡ true) × (first_of rules ≡ None)
passes true o rules h = (refl, h)
passes false o rules h = cc

-- no rule of either list refuses
pub none_of_both : (xs ys : List (Bool × Outcome)) → first_of (xs ++ ys) ≡ None → (first_of xs ≡ None)
    × (first_of ys ≡ None)
none_of_both [] ys h = (refl, h)
none_of_both ((true, o) ∷ xs) ys h = cc
none_of_both ((false, o) ∷ xs) ys h = none_of_both xs ys h
