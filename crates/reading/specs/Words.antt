-- Tests of the words of a text, which its rules ask, and what a word says.
use Rattle.std.specs.Prelude.{ℕ, ℤ, pos, negsuc, nat_abs, Bool, true, false, ◌==◌, if◌then◌else◌, List, [], ◌∷◌, codes, Option, Some, None}
use Rattle.std.specs.Str.{bytes_eq}
use Rattle.lexer.specs.declared.token.Word.{Word}
use Rattle.lexer.specs.declared.token.Word.TheVariants.{Num, Text, Other}
use Rattle.prefix.specs.declared.quant.Quant.{Quant}
use Rattle.prefix.specs.declared.quant.Quant.TheVariants.{Exists, Forall}

abbrev pub is_text : List ℕ → Word → Bool
is_text t (Text bytes) = bytes_eq bytes t
is_text t (Num n) = false
is_text t Other = false

abbrev pub is_natural : Word → Bool
is_natural (Num (pos n)) = true
is_natural (Num (negsuc n)) = false
is_natural (Text bytes) = false
is_natural Other = false

abbrev pub natural_of : Word → ℕ
natural_of (Num n) = nat_abs n
natural_of (Text t) = 0
natural_of Other = 0

abbrev pub is_zero : ℤ → Bool
is_zero n = nat_abs n == 0

-- the quantifier that a word names (QDIMACS 1.1, input format: quantifier)
abbrev pub quant_of : Word → Option Quant
quant_of w = if is_text (codes "e") w then Some Exists else if is_text (codes "a") w then Some Forall else None

-- the word that names a quantifier
abbrev pub quant_word : Quant → Word
quant_word Exists = Text (codes "e")
quant_word Forall = Text (codes "a")
