-- The names of arguments: each is apart from the others.
use Rattle.std.proofs.Common.{◌≡◌, ◌∙◌, ◌+◌, ◌≤◌, ℕ, Bool, Decides, cond, true, false, List, [], ◌∷◌, map, codes, refl, sym, ap, subst, arith}
use Rattle.std.specs.Prelude.{⊤}
use Rattle.std.specs.Str.{bytes_eq}
use Rattle.std.proofs.lemmas.Slice.Eq.{bytes_eq-Decides}
use Rattle.command.specs.Forms.{Flag, Setting, Text, all_flags, flag_name, setting_name}
use Rattle.command.specs.Forms.Flag.{the_qdo, the_qcir, the_binary, the_trim, the_decide}
use Rattle.command.specs.Forms.Setting.{the_budget, the_keep, the_restarts}

-- ---- flags by their names

abbrev flag_at : Text → Flag
flag_at n = cond (bytes_eq n (codes "qdo")) the_qdo (cond (bytes_eq n (codes "qcir")) the_qcir
    (cond (bytes_eq n (codes "binary")) the_binary (cond (bytes_eq n (codes "trim")) the_trim the_decide)))

named : (f : Flag) → flag_at (flag_name f) ≡ f
named the_qdo = refl
named the_qcir = refl
named the_binary = refl
named the_trim = refl
named the_decide = refl

pub same_flag : (f g : Flag) → bytes_eq (flag_name g) (flag_name f) ≡ true → g ≡ f
same_flag f g e = sym (named g) ∙ ap flag_at ((bytes_eq-Decides (flag_name g) (flag_name f)).0 e) ∙ named f

-- ---- names that differ

apart_back : (a b : Text) → bytes_eq a b ≡ false → bytes_eq b a ≡ false
apart_back a b e = go (bytes_eq b a) refl (bytes_eq-Decides b a)
  where
    go : (d : Bool) → bytes_eq b a ≡ d → Decides d (b ≡ a) → d ≡ false
    go false is x = refl
    go true is x =
        let same : bytes_eq a a ≡ false = subst (λ t. bytes_eq a t ≡ false) (x.0 refl) e in
        let itself : bytes_eq a a ≡ true = subst (λ t. bytes_eq t a ≡ true) (x.0 refl) is in
        absurd (let bad : false ≡ true = sym same ∙ itself in cc)

pub setting_apart : (s : Setting) (f : Flag) → bytes_eq (setting_name s) (flag_name f) ≡ false
setting_apart the_budget the_qdo = refl
setting_apart the_budget the_qcir = refl
setting_apart the_budget the_binary = refl
setting_apart the_budget the_trim = refl
setting_apart the_budget the_decide = refl
setting_apart the_restarts the_qdo = refl
setting_apart the_restarts the_qcir = refl
setting_apart the_restarts the_binary = refl
setting_apart the_restarts the_trim = refl
setting_apart the_restarts the_decide = refl
setting_apart the_keep the_qdo = refl
setting_apart the_keep the_qcir = refl
setting_apart the_keep the_binary = refl
setting_apart the_keep the_trim = refl
setting_apart the_keep the_decide = refl

pub name_apart : (f : Flag) → bytes_eq (codes "name") (flag_name f) ≡ false
name_apart the_qdo = refl
name_apart the_qcir = refl
name_apart the_binary = refl
name_apart the_trim = refl
name_apart the_decide = refl

pub apart_setting : (f : Flag) (s : Setting) → bytes_eq (flag_name f) (setting_name s) ≡ false
apart_setting f s = apart_back (setting_name s) (flag_name f) (setting_apart s f)

pub apart_name : (f : Flag) → bytes_eq (flag_name f) (codes "name") ≡ false
apart_name f = apart_back (codes "name") (flag_name f) (name_apart f)

-- ---- how often a name is among others

abbrev pub bit : Bool → ℕ
bit b = cond b 1 0

abbrev pub times : Text → List Text → ℕ
times id [] = 0
times id (n ∷ ns) = bit (bytes_eq n id) + times id ns

abbrev AreApart : List Text → Type 0
AreApart [] = ⊤
AreApart (n ∷ ns) = (times n ns ≡ 0) × AreApart ns

once_at_most : (id : Text) (ns : List Text) → AreApart ns → times id ns ≤ 1
once_at_most id [] apart = omega arith
once_at_most id (n ∷ ns) apart = go (bytes_eq n id) (bytes_eq-Decides n id) (once_at_most id ns apart.1)
  where
    go : (b : Bool) → Decides b (n ≡ id) → times id ns ≤ 1 → bit b + times id ns ≤ 1
    go true is rest =
        let none : times id ns ≡ 0 = subst (λ t. times t ns ≡ 0) (is.0 refl) apart.0 in
        omega (arith, none)
    go false is rest = omega (arith, rest)

abbrev pub flag_names : List Text
flag_names = map flag_name all_flags

abbrev pub argument_names : List Text
argument_names = codes "budget" ∷ codes "restarts" ∷ codes "keep" ∷ codes "name" ∷ flag_names

-- an argument is one of these at most
pub one_argument : (id : Text) → times id argument_names ≤ 1
one_argument id = once_at_most id argument_names
    (refl, (refl, (refl, (refl, (refl, (refl, (refl, (refl, (refl, tt)))))))))
