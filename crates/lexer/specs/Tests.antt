-- Worked texts, of which the items are computed.
use Rattle.std.specs.Prelude.{◌≡◌, ℕ, pos, negsuc, ◌==◌, true, if◌then◌else◌, List, [], ◌∷◌, ◌++◌, map, codes, refl}
use Rattle.lexer.specs.declared.token.Comments.TheVariants.{Dimacs, Script, Hash}
use Rattle.lexer.specs.declared.token.Word.{Word}
use Rattle.lexer.specs.declared.token.Word.TheVariants.{Num, Text, Other}
use Rattle.lexer.specs.Words.{Item, word, bad_byte, number_range, too_long, the_end, items, items_from}

-- a text in which a stroke stands for each line end
abbrev pub text : List ℕ → List ℕ
text bytes = map (λ b. if b == 47 then 10 else b) bytes

abbrev pub at : ℕ → Word → Item
at line w = word (record { word = w; line = line })

two_lines : items Dimacs (text (codes "p cnf 0 1/0/")) ≡ at 1 (Text (codes "p")) ∷ at 1 (Text (codes "cnf"))
    ∷ at 1 (Num (pos 0)) ∷ at 1 (Num (pos 1)) ∷ at 2 (Num (pos 0)) ∷ the_end 3 ∷ []
two_lines = refl

carriage_returns_and_comments : items Dimacs (text (codes "c x" ++ 13 ∷ codes "/p cnf 1 1"
    ++ 13 ∷ codes "/e 1 0/c inside/1/0" ++ 13 ∷ 10 ∷ [])) ≡ at 2 (Text (codes "p")) ∷ at 2 (Text (codes "cnf"))
    ∷ at 2 (Num (pos 1)) ∷ at 2 (Num (pos 1)) ∷ at 3 (Text (codes "e")) ∷ at 3 (Num (pos 1)) ∷ at 3 (Num (pos 0))
    ∷ at 5 (Num (pos 1)) ∷ at 6 (Num (pos 0)) ∷ the_end 7 ∷ []
carriage_returns_and_comments = refl

empty : items Dimacs [] ≡ the_end 1 ∷ []
empty = refl

no_last_line_end : items Dimacs (text (codes "p cnf 1 1/1")) ≡ at 1 (Text (codes "p")) ∷ at 1 (Text (codes "cnf"))
    ∷ at 1 (Num (pos 1)) ∷ at 1 (Num (pos 1)) ∷ at 2 (Num (pos 1)) ∷ the_end 2 ∷ []
no_last_line_end = refl

out_of_range : items Dimacs (text (codes "1/99999999999999999999 9223372036854775807 -9223372036854775807"
    ++ codes " 9223372036854775808 -9223372036854775808"))
    ≡ at 1 (Num (pos 1)) ∷ number_range 2 ∷ at 2 (Num (pos 9223372036854775807))
    ∷ at 2 (Num (negsuc 9223372036854775806)) ∷ number_range 2 ∷ number_range 2 ∷ the_end 2 ∷ []
out_of_range = refl

texts : items Dimacs (text (codes "-0 -00 - +1 007 1x 1234567890abcdef 1234567890abcdefg cnf"))
    ≡ at 1 (Text (codes "-0")) ∷ at 1 (Text (codes "-00")) ∷ at 1 (Text (codes "-")) ∷ at 1 (Text (codes "+1"))
    ∷ at 1 (Num (pos 7)) ∷ at 1 (Text (codes "1x")) ∷ at 1 (Text (codes "1234567890abcdef")) ∷ at 1 Other
    ∷ at 1 (Text (codes "cnf")) ∷ the_end 1 ∷ []
texts = refl

gzip : items Dimacs (31 ∷ 139 ∷ 8 ∷ 10 ∷ []) ≡ bad_byte 1 ∷ the_end 2 ∷ []
gzip = refl

comments_hold_any_bytes : items Dimacs (99 ∷ 139 ∷ 0 ∷ 10 ∷ 49 ∷ []) ≡ at 2 (Num (pos 1)) ∷ the_end 2 ∷ []
comments_hold_any_bytes = refl

-- in a script `cx` is a word
script : items Script (text (codes "c x/cx/5 c 1/")) ≡ at 2 (Text (codes "cx")) ∷ at 3 (Num (pos 5))
    ∷ at 3 (Text (codes "c")) ∷ at 3 (Num (pos 1)) ∷ the_end 4 ∷ []
script = refl

script_bad : items Script (99 ∷ 139 ∷ 10 ∷ []) ≡ bad_byte 1 ∷ the_end 2 ∷ []
script_bad = refl

-- room for six bytes: at the limit, beyond it in a word, beyond it behind a word, beyond it in a comment
at_limit : items_from Dimacs true 1 6 (text (codes "12/345"))
    ≡ at 1 (Num (pos 12)) ∷ at 2 (Num (pos 345)) ∷ the_end 2 ∷ []
at_limit = refl

in_word : items_from Dimacs true 1 6 (text (codes "12/3456/1")) ≡ at 1 (Num (pos 12)) ∷ too_long 2 ∷ too_long 2 ∷ []
in_word = refl

behind_word : items_from Dimacs true 1 6 (text (codes "12/345/1"))
    ≡ at 1 (Num (pos 12)) ∷ at 2 (Num (pos 345)) ∷ too_long 2 ∷ []
behind_word = refl

in_comment : items_from Dimacs true 1 6 (text (codes "12/c45678")) ≡ at 1 (Num (pos 12)) ∷ too_long 2 ∷ []
in_comment = refl

bad_before : items_from Dimacs true 1 6 (49 ∷ 10 ∷ 50 ∷ 128 ∷ 51 ∷ 52 ∷ 53 ∷ 54 ∷ [])
    ≡ at 1 (Num (pos 1)) ∷ bad_byte 2 ∷ too_long 2 ∷ []
bad_before = refl

bad_beyond : items_from Dimacs true 1 6 (49 ∷ 10 ∷ 50 ∷ 50 ∷ 51 ∷ 52 ∷ 128 ∷ 54 ∷ [])
    ≡ at 1 (Num (pos 1)) ∷ too_long 2 ∷ too_long 2 ∷ []
bad_beyond = refl

-- a comment from # to its line's end, the next line after it; marks are words wherever they stand
hash : items Hash (text (codes "#Q 1/3=and(1,-2)#x/ #/4 = or ( )"))
    ≡ at 2 (Num (pos 3)) ∷ at 2 (Text (codes "=")) ∷ at 2 (Text (codes "and")) ∷ at 2 (Text (codes "("))
    ∷ at 2 (Num (pos 1)) ∷ at 2 (Text (codes ",")) ∷ at 2 (Num (negsuc 1)) ∷ at 2 (Text (codes ")"))
    ∷ at 4 (Num (pos 4)) ∷ at 4 (Text (codes "=")) ∷ at 4 (Text (codes "or")) ∷ at 4 (Text (codes "("))
    ∷ at 4 (Text (codes ")")) ∷ the_end 4 ∷ []
hash = refl

-- a # ends a word, and its comment may hold any bytes
hash_in_word : items Hash (120 ∷ 121 ∷ 35 ∷ 139 ∷ 0 ∷ 10 ∷ 49 ∷ [])
    ≡ at 1 (Text (codes "xy")) ∷ at 2 (Num (pos 1)) ∷ the_end 2 ∷ []
hash_in_word = refl

-- c begins no comment here, and a bad byte is refused
hash_bad : items Hash (99 ∷ 32 ∷ 40 ∷ 139 ∷ 41 ∷ []) ≡ at 1 (Text (codes "c")) ∷ at 1 (Text (codes "(")) ∷ bad_byte 1
    ∷ at 1 (Text (codes ")")) ∷ the_end 1 ∷ []
hash_bad = refl

-- room for six bytes: a word at the limit in front of a mark or a comment is whole, in front of another byte not
mark_beyond : items_from Hash true 1 6 (text (codes "12/345(1"))
    ≡ at 1 (Num (pos 12)) ∷ at 2 (Num (pos 345)) ∷ too_long 2 ∷ []
mark_beyond = refl

hash_beyond : items_from Hash true 1 6 (text (codes "12/345#/"))
    ≡ at 1 (Num (pos 12)) ∷ at 2 (Num (pos 345)) ∷ too_long 2 ∷ []
hash_beyond = refl

word_beyond : items_from Hash true 1 6 (text (codes "12/=455(")) ≡ at 1 (Num (pos 12)) ∷ at 2 (Text (codes "="))
    ∷ too_long 2 ∷ too_long 2 ∷ []
word_beyond = refl

in_hash_comment : items_from Hash true 1 6 (text (codes "12/#45678")) ≡ at 1 (Num (pos 12)) ∷ too_long 2 ∷ []
in_hash_comment = refl
