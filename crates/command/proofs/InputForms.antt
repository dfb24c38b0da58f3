-- The form `[--budget N] [--restarts R] [--keep K] [--FLAG] .. [NAME]`, and `clap`'s account of the words.
use Rattle.std.proofs.Common.{◌≡◌, ◌≢◌, ◌⊎◌, ◌∙◌, ◌++◌, ◌&&◌, ◌+◌, ◌≤◌, ◌<◌, ◌^◌, ℕ, zero, suc, Bool, true, false, List, [], ◌∷◌, map, fold, Option, Some, None, IsPermutation, codes, decimal, option_map, slice_get, is_some, unwrap_or, refl, sym, ap, ap₂, subst, inl, inr, arith, append_assoc}
use Rattle.std.specs.Fmt.{digits}
use Rattle.std.specs.List.{AllByRecursion, filter, flat_map}
use Rattle.std.specs.Option.{option_map_or}
use Rattle.std.specs.Str.{bytes_eq}
use Rattle.std.proofs.lemmas.Fmt.{decimal_injective}
use Rattle.std.proofs.lemmas.List.Elements.{All-from_recursion, recursion_from_All}
use Rattle.std.proofs.lemmas.List.Sorted.{All-permutation, sum_by-IsPermutation}
use Rattle.std.proofs.lemmas.List.Sums.{sum_by-append}
use Rattle.clap.specs.Words.{Rule, Text, first_of}
use Rattle.clap.specs.Faults.{level_fault}
use Rattle.clap.specs.Walk.{nothing_held, rows_after, with_default}
use Rattle.command.specs.Account.{AreInput, HasNoHyphen, IsSet, default_text, is_set}
use Rattle.command.specs.Forms.{Flag, GivesInput, GivesName, GivesSetting, IsBetween, Part, Setting, all_flags, default_of, flag_name, flag_parts, greatest_of, least_of, setting_name, spelled}
use Rattle.command.specs.Forms.Flag.{the_qdo, the_qcir, the_binary, the_trim, the_decide}
use Rattle.command.specs.Forms.Part.{setting_part, joined_part, flag_part, name_part}
use Rattle.command.specs.Forms.Setting.{the_budget, the_keep, the_restarts}
use Rattle.command.proofs.DecimalWords.{decimal_passes, decimal_word, plain_word}
use Rattle.command.proofs.Names.{apart_name, apart_setting, bit, flag_names, name_apart, one_argument, same_flag, setting_apart, times}
use Rattle.command.proofs.Spelled.{flag_not_dashes, joined_not_dashes, option_not_dashes}
use Rattle.command.proofs.Turns.{IsPlainWord, leaf}
use Rattle.command.proofs.WordKinds.{KnowsFlag, KnowsSetting}
use Rattle.command.proofs.PartWalk.{AreTaken, LacksDashes}
use Rattle.command.proofs.PartUses.{AreOnce, IsAccepted, IsUnused, IsUsedOnce, argument_order, by_names, holds_of_part, of_itself, id_of, is_of, name_left, new_row, part_at, tally, tally-cons, unused, used_once, value_of}
use Rattle.command.proofs.InputWords.{AreInputRules, AreRead, flag_read, name_read, parts_pass, rows_of_passing, says_true, setting_read}

default_is : (s : Setting) → decimal (default_of s) ≡ default_text s
unfolding digits
default_is the_budget = refl
default_is the_restarts = refl
default_is the_keep = refl

default_small : (s : Setting) → default_of s < 2 ^ 64
default_small the_budget = omega arith
default_small the_restarts = omega arith
default_small the_keep = omega arith

-- numbers of options have 64 bits
pub greatest_small : (s : Setting) → greatest_of s < 2 ^ 64
greatest_small the_budget = omega arith
greatest_small the_restarts = omega arith
greatest_small the_keep = omega arith

pub setting_small : (s : Setting) (n : ℕ) → n ≤ greatest_of s → n < 2 ^ 64
setting_small s n most = let small = greatest_small s in omega (arith, most, small)

-- the numbers of the three
abbrev pub three : ℕ → ℕ → ℕ → Setting → ℕ
three n k l the_budget = n
three n k l the_restarts = k
three n k l the_keep = l

-- an argument is used once, or not at all
once_or_not : (id : Text) (ps : List Part) → tally id ps ≤ 1 → IsUnused id ps ⊎ IsUsedOnce id ps
once_or_not id ps h = go (tally id ps) refl h
  where
    go : (n : ℕ) → tally id ps ≡ n → n ≤ 1 → IsUnused id ps ⊎ IsUsedOnce id ps
    go zero e h = inl (unused id ps e)
    go (suc zero) e h = inr (used_once id ps e)
    go (suc (suc n)) e h = absurd (omega (arith, h))

-- ---- from the account to the form

-- a part of an option
record IsSettingPart (s : Setting) (p : Part) : Type 0 where
  pub either : (p ≡ setting_part s (value_of p)) ⊎ (p ≡ joined_part s (value_of p))

unlike : (b : Bool) → b ≡ false → b ≡ true → ⊥
unlike true f t = absurd (let bad : false ≡ true = sym f in cc)
unlike false f t = absurd (let bad : false ≡ true = t in cc)

setting_part_is : (s : Setting) (p : Part) → is_of (setting_name s) p ≡ true → IsSettingPart s p
setting_part_is the_budget (setting_part the_budget t) is = record { either = inl refl }
setting_part_is the_budget (joined_part the_budget t) is = record { either = inr refl }
setting_part_is the_budget (setting_part the_restarts t) is = absurd cc
setting_part_is the_budget (joined_part the_restarts t) is = absurd cc
setting_part_is the_budget (setting_part the_keep t) is = absurd cc
setting_part_is the_budget (joined_part the_keep t) is = absurd cc
setting_part_is the_budget (flag_part f) is = absurd (unlike _ (apart_setting f the_budget) is)
setting_part_is the_budget (name_part w) is = absurd cc
setting_part_is the_restarts (setting_part the_restarts t) is = record { either = inl refl }
setting_part_is the_restarts (joined_part the_restarts t) is = record { either = inr refl }
setting_part_is the_restarts (setting_part the_budget t) is = absurd cc
setting_part_is the_restarts (joined_part the_budget t) is = absurd cc
setting_part_is the_restarts (setting_part the_keep t) is = absurd cc
setting_part_is the_restarts (joined_part the_keep t) is = absurd cc
setting_part_is the_restarts (flag_part f) is = absurd (unlike _ (apart_setting f the_restarts) is)
setting_part_is the_restarts (name_part w) is = absurd cc
setting_part_is the_keep (setting_part the_keep t) is = record { either = inl refl }
setting_part_is the_keep (joined_part the_keep t) is = record { either = inr refl }
setting_part_is the_keep (setting_part the_budget t) is = absurd cc
setting_part_is the_keep (joined_part the_budget t) is = absurd cc
setting_part_is the_keep (setting_part the_restarts t) is = absurd cc
setting_part_is the_keep (joined_part the_restarts t) is = absurd cc
setting_part_is the_keep (flag_part f) is = absurd (unlike _ (apart_setting f the_keep) is)
setting_part_is the_keep (name_part w) is = absurd cc

-- a part of a flag
flag_part_is : (f : Flag) (p : Part) → is_of (flag_name f) p ≡ true → p ≡ flag_part f
flag_part_is f (setting_part s t) is = absurd (unlike _ (setting_apart s f) is)
flag_part_is f (joined_part s t) is = absurd (unlike _ (setting_apart s f) is)
flag_part_is f (flag_part g) is = ap flag_part (same_flag f g is)
flag_part_is f (name_part w) is = absurd (unlike _ (name_apart f) is)

module _ (s : Setting) (n : ℕ) (between : IsBetween (least_of s) (greatest_of s) n) (parts : List Part) where
  setting_alone : (p : Part) → IsSettingPart s p → parts ≡ p ∷ [] → value_of p ≡ decimal n → GivesSetting s parts n
  setting_alone p is alone e = go is.either
    where
      go : (p ≡ setting_part s (value_of p)) ⊎ (p ≡ joined_part s (value_of p)) → GivesSetting s parts n
      go (inl same) = inr (between, inl (alone ∙ ap (λ q. q ∷ []) (same ∙ ap (setting_part s) e)))
      go (inr same) = inr (between, inr (alone ∙ ap (λ q. q ∷ []) (same ∙ ap (joined_part s) e)))

name_alone : (parts : List Part) (p : Part) → is_of (codes "name") p ≡ true → parts ≡ p ∷ []
    → HasNoHyphen (Some (value_of p))
    → GivesName parts (Some (value_of p))
name_alone parts (setting_part the_budget t) is alone h = absurd cc
name_alone parts (setting_part the_restarts t) is alone h = absurd cc
name_alone parts (setting_part the_keep t) is alone h = absurd cc
name_alone parts (joined_part the_budget t) is alone h = absurd cc
name_alone parts (joined_part the_restarts t) is alone h = absurd cc
name_alone parts (joined_part the_keep t) is alone h = absurd cc
name_alone parts (flag_part f) is alone h = absurd (unlike _ (apart_name f) is)
name_alone parts (name_part w) is alone h = (alone, h)

module _ (ps : List Part) where
  setting_given : (s : Setting) (n : ℕ) → IsBetween (least_of s) (greatest_of s) n
      → IsUnused (setting_name s) ps ⊎ IsUsedOnce (setting_name s) ps
      → option_map_or value_of (part_at (setting_name s) ps) (default_text s) ≡ decimal n
      → GivesSetting s (filter (is_of (setting_name s)) ps) n
  setting_given s n between (inl u) e =
      let same : default_text s ≡ decimal n = rw u.none at e in
      inl (
        u.empty,
        sym (decimal_injective (default_of s) n (default_small s) (setting_small s n between.1)
            (default_is s ∙ same)),
      )
  setting_given s n between (inr o) e =
      setting_alone s n between _ o.part (setting_part_is s o.part o.is) o.alone (rw o.some at e)

  name_given : IsUnused (codes "name") ps ⊎ IsUsedOnce (codes "name") ps
      → HasNoHyphen (option_map value_of (part_at (codes "name") ps))
      → GivesName (filter (is_of (codes "name")) ps) (option_map value_of (part_at (codes "name") ps))
  name_given (inl u) h = rw u.none u.empty
  name_given (inr o) h = rw o.some (name_alone _ o.part o.is o.alone (rw o.some at h))

-- the parts of flags, each of which is used once or not at all
module _ (ps : List Part) (each : (id : Text) → IsUnused id ps ⊎ IsUsedOnce id ps) (flags : Flag → Bool)
    (are : (f : Flag) → flags f ≡ is_some (part_at (flag_name f) ps)) where
  flags_there : (fs : List Flag) → by_names (map flag_name fs) ps ≡ map flag_part (filter flags fs)
  flags_there [] = refl
  flags_there (f ∷ fs) = go (each (flag_name f)) (flags_there fs)
    where
      go : IsUnused (flag_name f) ps ⊎ IsUsedOnce (flag_name f) ps
          → by_names (map flag_name fs) ps ≡ map flag_part (filter flags fs)
          → by_names (map flag_name (f ∷ fs)) ps ≡ map flag_part (filter flags (f ∷ fs))
      go (inl u) rest =
          let given : flags f ≡ false = are f ∙ ap is_some u.none in
          rw (u.empty, given) rest
      go (inr o) rest =
          let given : flags f ≡ true = are f ∙ ap is_some o.some in
          let alone : filter (is_of (flag_name f)) ps ≡ flag_part f ∷ [] =
          o.alone ∙ ap (λ p. p ∷ []) (flag_part_is f o.part o.is) in
          rw (alone, given) (ap (λ l. flag_part f ∷ l) rest)

  regrouped : (b r k n f : List Part) → IsPermutation (b ++ (r ++ (k ++ (n ++ f)))) ps
      → IsPermutation (b ++ r ++ k ++ n ++ f) ps
  regrouped b r k n f h =
      rw (append_assoc (b ++ r ++ k) n f, append_assoc (b ++ r) k (n ++ f), append_assoc b r (k ++ (n ++ f))) h

  in_order : IsPermutation (filter (is_of (codes "budget")) ps ++ filter (is_of (codes "restarts")) ps
      ++ filter (is_of (codes "keep")) ps ++ filter (is_of (codes "name")) ps ++ flag_parts flags) ps
  in_order =
      let b = filter (is_of (codes "budget")) ps in
      let r = filter (is_of (codes "restarts")) ps in
      let k = filter (is_of (codes "keep")) ps in
      let n = filter (is_of (codes "name")) ps in
      regrouped b r k n (flag_parts flags)
      (subst (λ l. IsPermutation (b ++ (r ++ (k ++ (n ++ l)))) ps) (flags_there all_flags) (argument_order ps))

-- the account of words that don't fail, where its values are in form
pub in_form : (c : List Rule) (taken : List Flag) (r : AreInputRules c taken) (args : List Text) (a : AreRead c args)
    (n k l : ℕ) (given : Option Text) → AreInput (rows_after c [] args) n k l given → (flags : Flag → Bool)
    → ((f : Flag) → flags f ≡ is_some (part_at (flag_name f) a.parts)) → GivesInput args n k l flags given
in_form c taken r args a n k l given v flags are =
    let ps = a.parts in
    let each : (id : Text) → IsUnused id ps ⊎ IsUsedOnce id ps = λ id. once_or_not id ps (omega (arith, a.once id)) in
    let final = a.rows_are in
    let setting : (s : Setting) (m : ℕ) → IsSet s (rows_after c [] args) m
    → GivesSetting s (filter (is_of (setting_name s)) ps) m = λ s m set.
    setting_given ps s m set.1 (each (setting_name s)) (ap (λ o. unwrap_or o []) (sym (setting_read c taken r ps s)
    ∙ ap (first_of (setting_name s)) (sym final) ∙ set.0)) in
    let named : option_map value_of (part_at (codes "name") ps) ≡ given =
    sym (name_read c taken r ps) ∙ ap (first_of (codes "name")) (sym final) ∙ v.3 in
    record {
      budget_parts = filter (is_of (codes "budget")) ps;
      restarts_parts = filter (is_of (codes "restarts")) ps;
      kept_parts = filter (is_of (codes "keep")) ps;
      name_parts = filter (is_of (codes "name")) ps;
      gives_budget = setting the_budget n v.0;
      gives_restarts = setting the_restarts k v.1;
      gives_kept = setting the_keep l v.2;
      gives_name = subst (GivesName (filter (is_of (codes "name")) ps)) named
          (name_given ps (each (codes "name")) (subst HasNoHyphen (sym named) v.4));
      in_any_order = record { order = ps; permutation = in_order ps each flags are; words_are = a.words_are };
    }

-- a flag is set where it is among the words
pub flag_set : (c : List Rule) (taken : List Flag) → AreInputRules c taken → (f : Flag) (ps : List Part) → AreOnce [] ps
    → is_set (flag_name f) (fold with_default (map new_row ps) c) ≡ is_some (part_at (flag_name f) ps)
flag_set c taken r f ps once =
    flag_read c taken r ps f ∙ go (once_or_not (flag_name f) ps (omega (arith, once (flag_name f))))
  where
    go : IsUnused (flag_name f) ps ⊎ IsUsedOnce (flag_name f) ps
        → says_true (option_map value_of (part_at (flag_name f) ps)) ≡ is_some (part_at (flag_name f) ps)
    go (inl u) = rw u.none refl
    go (inr o) =
        let found : part_at (flag_name f) ps ≡ Some (flag_part f) = o.some ∙ ap Some (flag_part_is f o.part o.is) in
        rw found refl

-- a command that doesn't take a flag has no part of it
pub no_flag : (c : List Rule) (f : Flag) → (KnowsFlag f c → ⊥) → (left : List Rule) (ps : List Part)
    → AreTaken c left ps → part_at (flag_name f) ps ≡ None
no_flag c f none left [] taken = refl
no_flag c f none left (setting_part s t ∷ ps) taken = rw (setting_apart s f) (no_flag c f none left ps taken.1)
no_flag c f none left (joined_part s t ∷ ps) taken = rw (setting_apart s f) (no_flag c f none left ps taken.1)
no_flag c f none left (flag_part g ∷ ps) taken =
    rw (other (bytes_eq (flag_name g) (flag_name f)) refl) (no_flag c f none left ps taken.1)
  where
    other : (b : Bool) → bytes_eq (flag_name g) (flag_name f) ≡ b → bytes_eq (flag_name g) (flag_name f) ≡ false
    other false e = e
    other true e = absurd (none (subst (λ h. KnowsFlag h c) (same_flag f g e) taken.0))
no_flag c f none [] (name_part w ∷ ps) taken = absurd taken.0
no_flag c f none (a ∷ left) (name_part w ∷ ps) taken =
    rw (name_apart f) (no_flag c f none left ps taken.1)

-- ---- from the form to the account

-- what the values say of a part
abbrev IsGiven : List Rule → (Setting → ℕ) → Option Text → Part → Type 0
IsGiven c at given (setting_part s t) = t ≡ decimal (at s)
IsGiven c at given (joined_part s t) = t ≡ decimal (at s)
IsGiven c at given (flag_part f) = KnowsFlag f c
IsGiven c at given (name_part w) = (given ≡ Some w) × (slice_get w 0 ≢ Some 45)

all_append : (P : Part → Type 0) (xs ys : List Part) → AllByRecursion P xs → AllByRecursion P ys
    → AllByRecursion P (xs ++ ys)
all_append P [] ys a b = b
all_append P (x ∷ xs) ys a b = (a.0, all_append P xs ys a.1 b)

all_map : (P Q : Part → Type 0) → ((p : Part) → P p → Q p) → (ps : List Part) → AllByRecursion P ps
    → AllByRecursion Q ps
all_map P Q f [] a = tt
all_map P Q f (p ∷ ps) a = (f p a.0, all_map P Q f ps a.1)

lacks_append : (xs ys : List Text) → LacksDashes xs → LacksDashes ys → LacksDashes (xs ++ ys)
lacks_append [] ys a b = b
lacks_append (x ∷ xs) ys a b = (a.0, lacks_append xs ys a.1 b)

both_within : (a b : Bool) → bit (a && b) ≤ bit a
both_within true true = omega arith
both_within true false = omega arith
both_within false b = omega arith

both_given : (a : Bool) → bit a ≡ bit (a && true)
both_given true = refl
both_given false = refl

none_given : (a : Bool) → 0 ≡ bit (a && false)
none_given true = refl
none_given false = refl

-- how often an argument is among the flags that are given
module _ (flags : Flag → Bool) where
  abbrev given_times : Text → List Flag → ℕ
  given_times id [] = 0
  given_times id (f ∷ fs) = bit (bytes_eq (flag_name f) id && flags f) + given_times id fs

  flags_tally : (id : Text) (fs : List Flag) → tally id (map flag_part (filter flags fs)) ≡ given_times id fs
  flags_tally id [] = refl
  flags_tally id (f ∷ fs) = go (flags f) refl (flags_tally id fs)
    where
      go : (b : Bool) → flags f ≡ b → tally id (map flag_part (filter flags fs)) ≡ given_times id fs
          → tally id (map flag_part (filter flags (f ∷ fs))) ≡ given_times id (f ∷ fs)
      go true e rest = rw e (tally-cons id (flag_part f) (map flag_part (filter flags fs))
          ∙ ap₂ (λ m n. m + n) (both_given (bytes_eq (flag_name f) id)) rest)
      go false e rest =
          let none = none_given (bytes_eq (flag_name f) id) in
          rw e (omega (arith, rest, none))

  given_within : (id : Text) (fs : List Flag) → given_times id fs ≤ times id (map flag_name fs)
  given_within id [] = omega arith
  given_within id (f ∷ fs) =
      let one = both_within (bytes_eq (flag_name f) id) (flags f) in
      let rest = given_within id fs in
      omega (arith, one, rest)

  -- a flag is among them once, or not at all
  flag_tally : (f : Flag) → tally (flag_name f) (flag_parts flags) ≡ bit (flags f)
  flag_tally the_qdo = flags_tally (codes "qdo") all_flags ∙ omega arith
  flag_tally the_qcir = flags_tally (codes "qcir") all_flags ∙ omega arith
  flag_tally the_binary = flags_tally (codes "binary") all_flags ∙ omega arith
  flag_tally the_trim = flags_tally (codes "trim") all_flags ∙ omega arith
  flag_tally the_decide = flags_tally (codes "decide") all_flags ∙ omega arith

module _ (c : List Rule) (knows : (s : Setting) → KnowsSetting s c) (at : Setting → ℕ)
    (between : (s : Setting) → IsBetween (least_of s) (greatest_of s) (at s)) (given : Option Text) where
  abbrev Given : Part → Type 0
  Given p = IsGiven c at given p

  small : (s : Setting) → at s < 2 ^ 64
  small s = setting_small s (at s) (between s).1

  -- ---- one part of an argument, or none

  record IsOne (id : Text) (ps : List Part) : Type 0 where
    pub part : Part
    pub alone : ps ≡ part ∷ []
    pub own : id_of part ≡ id
    pub is_given : Given part

  abbrev AtMostOne : Text → List Part → Type 0
  AtMostOne id ps = (ps ≡ []) ⊎ IsOne id ps

  one_setting : (s : Setting) (ps : List Part)
      → (ps ≡ setting_part s (decimal (at s)) ∷ []) ⊎ (ps ≡ joined_part s (decimal (at s)) ∷ [])
      → IsOne (setting_name s) ps
  one_setting s ps (inl e) =
      record { part = setting_part s (decimal (at s)); alone = e; own = refl; is_given = refl }
  one_setting s ps (inr e) =
      record { part = joined_part s (decimal (at s)); alone = e; own = refl; is_given = refl }

  one_name : (ps : List Part) (w : Text) → given ≡ Some w → GivesName ps (Some w) → IsOne (codes "name") ps
  one_name ps w is h = record { part = name_part w; alone = h.0; own = refl; is_given = (is, h.1) }

  some_setting : (s : Setting) (ps : List Part) → GivesSetting s ps (at s) → AtMostOne (setting_name s) ps
  some_setting s ps (inl h) = inl h.0
  some_setting s ps (inr h) = inr (one_setting s ps h.1)

  some_name : (ps : List Part) (g : Option Text) → given ≡ g → GivesName ps g → AtMostOne (codes "name") ps
  some_name ps None is h = inl h
  some_name ps (Some w) is h = inr (one_name ps w is h)

  all_given : (id : Text) (ps : List Part) → AtMostOne id ps → AllByRecursion Given ps
  all_given id ps (inl e) = subst (AllByRecursion Given) (sym e) tt
  all_given id ps (inr o) = subst (AllByRecursion Given) (sym o.alone) (o.is_given, tt)

  one_tally : (id other : Text) (ps : List Part) → AtMostOne id ps → tally other ps ≤ bit (bytes_eq id other)
  one_tally id other ps (inl e) = subst (λ l. tally other l ≤ bit (bytes_eq id other)) (sym e) (omega arith)
  one_tally id other ps (inr o) = subst (λ l. tally other l ≤ bit (bytes_eq id other)) (sym o.alone)
      (subst (λ t. 0 + bit (bytes_eq (id_of o.part) other) ≤ bit (bytes_eq t other)) o.own (omega arith))

  -- ---- what `clap` takes

  taken_from : (b : Bool) (ps : List Part) → AllByRecursion Given ps → tally (codes "name") ps ≤ bit b
      → AreTaken c (name_left b) ps
  taken_from b [] all h = tt
  taken_from b (setting_part s t ∷ ps) all h = (
    (knows s, subst IsPlainWord (sym all.0) (decimal_word (at s) (small s))),
    taken_from b ps all.1 (omega (arith, h, tally-cons (codes "name") (setting_part s t) ps)),
  )
  taken_from b (joined_part s t ∷ ps) all h =
      (knows s, taken_from b ps all.1 (omega (arith, h, tally-cons (codes "name") (joined_part s t) ps)))
  taken_from b (flag_part f ∷ ps) all h =
      (all.0, taken_from b ps all.1 (omega (arith, h, tally-cons (codes "name") (flag_part f) ps)))
  taken_from true (name_part w ∷ ps) all h =
      (plain_word w all.0.1, taken_from false ps all.1 (omega (arith, h, tally-cons (codes "name") (name_part w) ps)))
  taken_from false (name_part w ∷ ps) all h = absurd (omega (arith, h, tally-cons (codes "name") (name_part w) ps))

  accepted : (p : Part) → Given p → IsAccepted p
  accepted (setting_part s t) e = subst (λ x. IsAccepted (setting_part s x)) (sym e)
      (decimal_passes (least_of s) (greatest_of s) (at s) (greatest_small s) (between s))
  accepted (joined_part s t) e = subst (λ x. IsAccepted (joined_part s x)) (sym e)
      (decimal_passes (least_of s) (greatest_of s) (at s) (greatest_small s) (between s))
  accepted (flag_part f) k = refl
  accepted (name_part w) h = refl

  lacks : (p : Part) → Given p → LacksDashes (spelled p)
  lacks (setting_part s t) e =
      (option_not_dashes s, ((subst IsPlainWord (sym e) (decimal_word (at s) (small s))).dashes, tt))
  lacks (joined_part s t) e = (joined_not_dashes s t, tt)
  lacks (flag_part f) k = (flag_not_dashes f, tt)
  lacks (name_part w) h = ((plain_word w h.1).dashes, tt)

  all_lack : (ps : List Part) → AllByRecursion Given ps → LacksDashes (flat_map spelled ps)
  all_lack [] all = tt
  all_lack (p ∷ ps) all = lacks_append (spelled p) (flat_map spelled ps) (lacks p all.0) (all_lack ps all.1)

  -- ---- what `clap` reads

  setting_value : (s : Setting) (p : Part) → IsSettingPart s p → Given p → value_of p ≡ decimal (at s)
  setting_value s p is e = go is.either
    where
      go : (p ≡ setting_part s (value_of p)) ⊎ (p ≡ joined_part s (value_of p)) → value_of p ≡ decimal (at s)
      go (inl same) = subst Given same e
      go (inr same) = subst Given same e

  name_value : (p : Part) → is_of (codes "name") p ≡ true → Given p → Some (value_of p) ≡ given
  name_value (setting_part the_budget t) is e = absurd cc
  name_value (setting_part the_restarts t) is e = absurd cc
  name_value (setting_part the_keep t) is e = absurd cc
  name_value (joined_part the_budget t) is e = absurd cc
  name_value (joined_part the_restarts t) is e = absurd cc
  name_value (joined_part the_keep t) is e = absurd cc
  name_value (flag_part f) is k = absurd (unlike _ (apart_name f) is)
  name_value (name_part w) is h = sym h.0

  -- `clap`'s account of words that have the form
  pub record AreTold (args : List Text) (q : Flag → Bool) : Type 0 where
    pub order : List Part
    pub words_are : args ≡ flat_map spelled order
    pub once : AreOnce [] order
    pub passes : level_fault (leaf c) [] nothing_held (flat_map spelled order) false [] ≡ []
    pub rows_are : rows_after c [] (flat_map spelled order) ≡ fold with_default (map new_row order) c
    pub values : AreInput (fold with_default (map new_row order) c) (at the_budget) (at the_restarts) (at the_keep)
        given
    pub flags : (f : Flag) → is_some (part_at (flag_name f) order) ≡ q f
    pub lacks : LacksDashes (flat_map spelled order)

  module _ (taken : List Flag) (r : AreInputRules c taken) (args : List Text) (q : Flag → Bool)
      (knows_flags : (f : Flag) → q f ≡ true → KnowsFlag f c)
      (s : GivesInput args (at the_budget) (at the_restarts) (at the_keep) q given) where
    abbrev order : List Part
    order = s.in_any_order.order

    budget_group : AtMostOne (codes "budget") s.budget_parts
    budget_group = some_setting the_budget s.budget_parts s.gives_budget

    restarts_group : AtMostOne (codes "restarts") s.restarts_parts
    restarts_group = some_setting the_restarts s.restarts_parts s.gives_restarts

    kept_group : AtMostOne (codes "keep") s.kept_parts
    kept_group = some_setting the_keep s.kept_parts s.gives_kept

    name_group : AtMostOne (codes "name") s.name_parts
    name_group = some_name s.name_parts given refl s.gives_name

    flags_given : (fs : List Flag) → AllByRecursion Given (map flag_part (filter q fs))
    flags_given [] = tt
    flags_given (f ∷ fs) = go (q f) refl (flags_given fs)
      where
        go : (b : Bool) → q f ≡ b → AllByRecursion Given (map flag_part (filter q fs))
            → AllByRecursion Given (map flag_part (filter q (f ∷ fs)))
        go true e rest = rw e (knows_flags f e, rest)
        go false e rest = rw e rest

    abbrev numbers : List Part
    numbers = s.budget_parts ++ s.restarts_parts ++ s.kept_parts

    all : AllByRecursion Given order
    all =
        let both = all_append Given s.budget_parts s.restarts_parts
        (all_given (codes "budget") s.budget_parts budget_group)
        (all_given (codes "restarts") s.restarts_parts restarts_group) in
        let settings = all_append Given (s.budget_parts ++ s.restarts_parts) s.kept_parts both
        (all_given (codes "keep") s.kept_parts kept_group) in
        let before = all_append Given (numbers ++ s.name_parts) (flag_parts q)
        (all_append Given numbers s.name_parts settings (all_given (codes "name") s.name_parts name_group))
        (flags_given all_flags) in
        recursion_from_All Given order
        (All-permutation Given (numbers ++ s.name_parts ++ flag_parts q) order s.in_any_order.permutation
        (All-from_recursion Given (numbers ++ s.name_parts ++ flag_parts q) before))

    count : (id : Text) → tally id order
        ≡ tally id s.budget_parts + tally id s.restarts_parts + tally id s.kept_parts + tally id s.name_parts
        + tally id (flag_parts q)
    count id =
        let f = λ (p : Part). bit (is_of id p) in
        sum_by-IsPermutation f _ order s.in_any_order.permutation
        ∙ sum_by-append f (numbers ++ s.name_parts) (flag_parts q)
        ∙ ap (λ k. k + tally id (flag_parts q)) (sum_by-append f numbers s.name_parts
        ∙ ap (λ k. k + tally id s.name_parts) (sum_by-append f (s.budget_parts ++ s.restarts_parts) s.kept_parts
        ∙ ap (λ k. k + tally id s.kept_parts) (sum_by-append f s.budget_parts s.restarts_parts)))

    limits : (id : Text) → (tally id s.budget_parts ≤ bit (bytes_eq (codes "budget") id))
        × (tally id s.restarts_parts ≤ bit (bytes_eq (codes "restarts") id))
        × (tally id s.kept_parts ≤ bit (bytes_eq (codes "keep") id))
        × (tally id s.name_parts ≤ bit (bytes_eq (codes "name") id))
        × (tally id (flag_parts q) ≤ times id flag_names)
    limits id = (
      one_tally (codes "budget") id s.budget_parts budget_group,
      one_tally (codes "restarts") id s.restarts_parts restarts_group,
      one_tally (codes "keep") id s.kept_parts kept_group,
      one_tally (codes "name") id s.name_parts name_group,
      subst (λ n. n ≤ times id flag_names) (sym (flags_tally q id all_flags)) (given_within q id all_flags),
    )

    order_once : AreOnce [] order
    order_once id =
        let l = limits id in
        let names : bit (bytes_eq (codes "budget") id) + (bit (bytes_eq (codes "restarts") id)
        + (bit (bytes_eq (codes "keep") id) + (bit (bytes_eq (codes "name") id) + times id flag_names))) ≤ 1 =
        one_argument id in
        omega (arith, count id, l.0, l.1, l.2, l.3, l.4, names)

    -- an argument without a part, and one with a part
    not_found : (id : Text) → tally id order ≡ 0 → part_at id order ≡ None
    not_found id e = (unused id order e).none

    found : (id : Text) → 1 ≤ tally id order
        → (p : Part) × (part_at id order ≡ Some p) × (is_of id p ≡ true) × Given p
    found id some =
        let u = used_once id order (omega (arith, order_once id, some)) in
        (u.part, u.some, u.is, holds_of_part Given id order u.part all u.some)

    one_of : (id : Text) (ps : List Part) → IsOne id ps → tally id ps ≡ 1
    one_of id ps o =
        let own : is_of id o.part ≡ true = subst (λ t. is_of t o.part ≡ true) o.own (of_itself o.part) in
        ap (tally id) o.alone ∙ ap (λ b. 0 + bit b) own

    abbrev parts_of : Setting → List Part
    parts_of the_budget = s.budget_parts
    parts_of the_restarts = s.restarts_parts
    parts_of the_keep = s.kept_parts

    -- the parts of an option are among all, and all its parts are these
    some_of : (x : Setting) → tally (setting_name x) (parts_of x) ≤ tally (setting_name x) order
    some_of the_budget = omega (arith, count (codes "budget"))
    some_of the_restarts = omega (arith, count (codes "restarts"))
    some_of the_keep = omega (arith, count (codes "keep"))

    none_of : (x : Setting) → tally (setting_name x) (parts_of x) ≡ 0 → tally (setting_name x) order ≡ 0
    none_of the_budget none =
        let id = codes "budget" in
        let r_none : tally id s.restarts_parts ≤ 0 = (limits id).1 in
        let k_none : tally id s.kept_parts ≤ 0 = (limits id).2 in
        let n_none : tally id s.name_parts ≤ 0 = (limits id).3 in
        let f_none : tally id (flag_parts q) ≤ 0 = (limits id).4 in
        omega (arith, count id, none, r_none, k_none, n_none, f_none)
    none_of the_restarts none =
        let id = codes "restarts" in
        let b_none : tally id s.budget_parts ≤ 0 = (limits id).0 in
        let k_none : tally id s.kept_parts ≤ 0 = (limits id).2 in
        let n_none : tally id s.name_parts ≤ 0 = (limits id).3 in
        let f_none : tally id (flag_parts q) ≤ 0 = (limits id).4 in
        omega (arith, count id, none, b_none, k_none, n_none, f_none)
    none_of the_keep none =
        let id = codes "keep" in
        let b_none : tally id s.budget_parts ≤ 0 = (limits id).0 in
        let r_none : tally id s.restarts_parts ≤ 0 = (limits id).1 in
        let n_none : tally id s.name_parts ≤ 0 = (limits id).3 in
        let f_none : tally id (flag_parts q) ≤ 0 = (limits id).4 in
        omega (arith, count id, none, b_none, r_none, n_none, f_none)

    setting_told : (x : Setting) → GivesSetting x (parts_of x) (at x)
        → option_map_or value_of (part_at (setting_name x) order) (default_text x) ≡ decimal (at x)
    setting_told x (inl h) =
        let id = setting_name x in
        let none : tally id (parts_of x) ≡ 0 = ap (tally id) h.0 in
        rw (not_found id (none_of x none)) (sym (default_is x) ∙ ap decimal (sym h.1))
    setting_told x (inr h) =
        let one = one_of (setting_name x) (parts_of x) (one_setting x (parts_of x) h.1) in
        let within = some_of x in
        let p = found (setting_name x) (omega (arith, one, within)) in
        rw p.1 (setting_value x p.0 (setting_part_is x p.0 p.2) p.3)

    setting_set : (x : Setting) → GivesSetting x (parts_of x) (at x)
        → IsSet x (fold with_default (map new_row order) c) (at x)
    setting_set x gives =
        (setting_read c taken r order x ∙ ap (λ t. Some t) (setting_told x gives), between x)

    name_told : (g : Option Text) → given ≡ g → GivesName s.name_parts g
        → option_map value_of (part_at (codes "name") order) ≡ g
    name_told None is h =
        let id = codes "name" in
        let none : tally id s.name_parts ≡ 0 = ap (tally id) h in
        let b_none : tally id s.budget_parts ≤ 0 = (limits id).0 in
        let r_none : tally id s.restarts_parts ≤ 0 = (limits id).1 in
        let k_none : tally id s.kept_parts ≤ 0 = (limits id).2 in
        let f_none : tally id (flag_parts q) ≤ 0 = (limits id).4 in
        rw (not_found id (omega (arith, count id, none, b_none, r_none, k_none, f_none))) refl
    name_told (Some w) is h =
        let one = one_of (codes "name") s.name_parts (one_name s.name_parts w is h) in
        let p = found (codes "name") (omega (arith, count (codes "name"), one)) in
        rw p.1 (name_value p.0 p.2 p.3 ∙ is)

    -- what a name takes that is another than a flag's
    not_flag : (id : Text) (f : Flag) → bytes_eq id (flag_name f) ≡ false → (ps : List Part)
        → tally (flag_name f) ps ≤ bit (bytes_eq id (flag_name f)) → tally (flag_name f) ps ≡ 0
    not_flag id f apart ps within = let none : bit (bytes_eq id (flag_name f)) ≡ 0 = ap bit apart in
        omega (arith, within, none)

    flag_count : (f : Flag) → tally (flag_name f) order ≡ bit (q f)
    flag_count f =
        let id = flag_name f in
        let l = limits id in
        let b_none = not_flag (codes "budget") f (setting_apart the_budget f) s.budget_parts l.0 in
        let r_none = not_flag (codes "restarts") f (setting_apart the_restarts f) s.restarts_parts l.1 in
        let k_none = not_flag (codes "keep") f (setting_apart the_keep f) s.kept_parts l.2 in
        let n_none = not_flag (codes "name") f (name_apart f) s.name_parts l.3 in
        omega (arith, count id, b_none, r_none, k_none, n_none, flag_tally q f)

    flag_told : (f : Flag) (b : Bool) → q f ≡ b → is_some (part_at (flag_name f) order) ≡ b
    flag_told f false e = rw (not_found (flag_name f) (flag_count f ∙ ap bit e)) refl
    flag_told f true e =
        let one : tally (flag_name f) order ≡ 1 = flag_count f ∙ ap bit e in
        let p = found (flag_name f) (omega (arith, one)) in
        rw p.1 refl

    no_hyphen : (g : Option Text) → GivesName s.name_parts g → HasNoHyphen g
    no_hyphen None h = tt
    no_hyphen (Some w) h = h.1

    pub are_told : AreTold args q
    are_told =
        let names : tally (codes "name") order ≤ bit true = omega (arith, order_once (codes "name")) in
        let parts = taken_from true order all names in
        let fine = all_map Given IsAccepted accepted order all in
        let name_is = name_read c taken r order ∙ name_told given refl s.gives_name in
        record {
          order = order;
          words_are = s.in_any_order.words_are;
          once = order_once;
          passes = parts_pass c taken r order parts fine order_once;
          rows_are = rows_of_passing c taken r order parts fine order_once;
          values = (
            setting_set the_budget s.gives_budget,
            setting_set the_restarts s.gives_restarts,
            setting_set the_keep s.gives_kept,
            name_is,
            no_hyphen given s.gives_name,
          );
          flags = λ f. flag_told f (q f) refl;
          lacks = all_lack order all;
        }
