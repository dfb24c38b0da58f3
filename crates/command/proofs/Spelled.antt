-- A word with two hyphens is spelled by its name and its value.
use Rattle.std.proofs.Common.{◌≡◌, ◌+◌, ◌++◌, ◌==◌, ℕ, suc, take, drop, arith, Bool, cond, true, false, [], ◌∷◌, Option, Some, None, codes, refl, ap, subst, eqb-true}
use Rattle.std.specs.Prelude.{unwrap_or}
use Rattle.std.specs.List.{list_any}
use Rattle.clap.specs.Lexer.{long_of, long_of_rest, name_and_value}
use Rattle.std.specs.Str.{bytes_eq}
use Rattle.clap.specs.Words.{Text}
use Rattle.command.specs.Forms.{Flag, Setting, flag_name, setting_name}
use Rattle.command.specs.Forms.Flag.{the_qdo, the_qcir, the_binary, the_trim, the_decide}
use Rattle.command.specs.Forms.Setting.{the_budget, the_keep, the_restarts}

-- what stands behind a name: nothing, or `=` and the value
abbrev pub value_tail : Option Text → Text
value_tail None = []
value_tail (Some t) = 61 ∷ t

-- the text is the name with its value behind it
abbrev IsJoined : Text → Text × Option Text → Type 0
IsJoined text p = text ≡ p.0 ++ value_tail p.1

abbrev is_equals : ℕ → Bool
is_equals x = x == 61

-- a cut one place later, in a list that is one longer
cut_more : (x : ℕ) (xs : Text) (p q : ℕ) (has : Bool) → q ≡ suc p → q + 1 ≡ suc (p + 1)
    → IsJoined xs (take p xs, cond has (Some (drop (p + 1) xs)) None)
    → IsJoined (x ∷ xs) (take q (x ∷ xs), cond has (Some (drop (q + 1) (x ∷ xs))) None)
cut_more x xs p q has is next same = rw (next, is) (ap (λ t. x ∷ t) same)

split : (text : Text) → IsJoined text (name_and_value text)
split [] = refl
split (x ∷ xs) = go (x == 61) refl (split xs)
  where
    go : (b : Bool) → (x == 61) ≡ b → IsJoined xs (name_and_value xs) → IsJoined (x ∷ xs) (name_and_value (x ∷ xs))
    go true e same = rw e (ap (λ n. n ∷ xs) (eqb-true x 61 e))
    go false e same = rw e (cut_more x xs _ _ (list_any is_equals xs) (omega arith) (omega arith) same)

rest_spelled : (rest name : Text) (v : Option Text) → long_of_rest rest ≡ Some (name, v) → IsJoined rest (name, v)
rest_spelled [] name v e = absurd cc
rest_spelled (x ∷ xs) name v e =
    let is : name_and_value (x ∷ xs) ≡ (name, v) = ap (λ o. unwrap_or o ([], None)) e in
    subst (IsJoined (x ∷ xs)) is (split (x ∷ xs))

pub long_spelled : (w name : Text) (v : Option Text) → long_of w ≡ Some (name, v)
    → w ≡ 45 ∷ 45 ∷ (name ++ value_tail v)
long_spelled [] name v e = absurd cc
long_spelled (x ∷ []) name v e = go (x == 45) refl
  where
    go : (b : Bool) → (x == 45) ≡ b → x ∷ [] ≡ 45 ∷ 45 ∷ (name ++ value_tail v)
    go true t = let bad = rw t at e in absurd cc
    go false t = let bad = rw t at e in absurd cc
long_spelled (x ∷ y ∷ rest) name v e = go (x == 45) refl (y == 45) refl
  where
    go : (b : Bool) → (x == 45) ≡ b → (d : Bool) → (y == 45) ≡ d → x ∷ y ∷ rest ≡ 45 ∷ 45 ∷ (name ++ value_tail v)
    go false t d u = let bad = rw t at e in absurd cc
    go true t false u = let bad = rw (t, u) at e in absurd cc
    go true t true u =
        let same = rw (t, u) at e in
        (λ i. eqb-true x 45 t i ∷ eqb-true y 45 u i ∷ rest_spelled rest name v same i)

-- ---- the words of an option

abbrev pub option_word : Setting → Text
option_word s = codes "--" ++ setting_name s

abbrev pub joined_word : Setting → Text → Text
joined_word s t = codes "--" ++ (setting_name s ++ (codes "=" ++ t))

-- a word with this name is spelled so
pub option_spelled : (s : Setting) (w : Text) → long_of w ≡ Some (setting_name s, None) → w ≡ option_word s
option_spelled the_budget w e = long_spelled w (codes "budget") None e
option_spelled the_restarts w e = long_spelled w (codes "restarts") None e
option_spelled the_keep w e = long_spelled w (codes "keep") None e

pub joined_spelled : (s : Setting) (w t : Text) → long_of w ≡ Some (setting_name s, Some t) → w ≡ joined_word s t
joined_spelled the_budget w t e = long_spelled w (codes "budget") (Some t) e
joined_spelled the_restarts w t e = long_spelled w (codes "restarts") (Some t) e
joined_spelled the_keep w t e = long_spelled w (codes "keep") (Some t) e

-- and what is spelled so has this name
pub option_long : (s : Setting) → long_of (option_word s) ≡ Some (setting_name s, None)
option_long the_budget = refl
option_long the_restarts = refl
option_long the_keep = refl

pub joined_long : (s : Setting) (t : Text) → long_of (joined_word s t) ≡ Some (setting_name s, Some t)
joined_long the_budget t = refl
joined_long the_restarts t = refl
joined_long the_keep t = refl

-- it isn't `--`
pub option_not_dashes : (s : Setting) → bytes_eq (option_word s) (45 ∷ 45 ∷ []) ≡ false
option_not_dashes the_budget = refl
option_not_dashes the_restarts = refl
option_not_dashes the_keep = refl

pub joined_not_dashes : (s : Setting) (t : Text) → bytes_eq (joined_word s t) (45 ∷ 45 ∷ []) ≡ false
joined_not_dashes the_budget t = refl
joined_not_dashes the_restarts t = refl
joined_not_dashes the_keep t = refl

-- ---- the word of a flag

abbrev pub flag_word : Flag → Text
flag_word f = codes "--" ++ flag_name f

pub flag_spelled : (f : Flag) (w : Text) → long_of w ≡ Some (flag_name f, None) → w ≡ flag_word f
flag_spelled the_qdo w e = long_spelled w (codes "qdo") None e
flag_spelled the_qcir w e = long_spelled w (codes "qcir") None e
flag_spelled the_binary w e = long_spelled w (codes "binary") None e
flag_spelled the_trim w e = long_spelled w (codes "trim") None e
flag_spelled the_decide w e = long_spelled w (codes "decide") None e

pub flag_long : (f : Flag) → long_of (flag_word f) ≡ Some (flag_name f, None)
flag_long the_qdo = refl
flag_long the_qcir = refl
flag_long the_binary = refl
flag_long the_trim = refl
flag_long the_decide = refl

pub flag_not_dashes : (f : Flag) → bytes_eq (flag_word f) (45 ∷ 45 ∷ []) ≡ false
flag_not_dashes the_qdo = refl
flag_not_dashes the_qcir = refl
flag_not_dashes the_binary = refl
flag_not_dashes the_trim = refl
flag_not_dashes the_decide = refl
