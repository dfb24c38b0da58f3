-- The bytes of numbers: they are cut in one way, a number has one form of them, and it is the one that is written.
use Rattle.std.proofs.Common.{◌≡◌, ℕ, zero, suc, ◌+◌, ◌-◌, ◌*◌, ◌/◌, ◌%◌, ◌^◌, ◌<◌, ◌≤◌, ⊎_elim, Bool, true, false, List, [], ◌∷◌, ◌++◌, length, drop, get_or, refl, sym, ap, ap₂, subst, ◌∙◌, arith, append_assoc, length-append}
use Rattle.std.specs.Prelude.{if◌then◌else◌, nat_lt}
use Rattle.std.proofs.lemmas.Bool.{cases_lt, true≢false}
use Rattle.std.proofs.lemmas.Bool.Decides.{Decides-ltb}
use Rattle.std.proofs.lemmas.Grind.{pow_more}
use Rattle.aiger_out.specs.Binary.{AreGroups, IsDelta, groups_number}
use Rattle.aiger_out.specs.Written.{delta, groups}

-- groups that begin with those of a number begin with those of no other

same_first : (x y : ℕ) (xs ys : List ℕ) → x ∷ xs ≡ y ∷ ys → (x ≡ y) × (xs ≡ ys)
same_first x y xs ys e = (ap (λ (l : List ℕ). get_or l 0 0) e, ap (λ (l : List ℕ). drop 1 l) e)

groups_cut : (xs ys a b : List ℕ) → AreGroups xs → AreGroups ys → xs ++ a ≡ ys ++ b → (xs ≡ ys) × (a ≡ b)
groups_cut [] ys a b h k e = absurd h
groups_cut (x ∷ []) [] a b h k e = absurd k
groups_cut (x ∷ u ∷ xs) [] a b h k e = absurd k
groups_cut (x ∷ []) (y ∷ []) a b h k e =
    let first = same_first x y a b e in (ap (λ (z : ℕ). z ∷ []) first.0, first.1)
groups_cut (x ∷ []) (y ∷ v ∷ ys) a b h k e =
    let first = same_first x y a (v ∷ (ys ++ b)) e in absurd (omega (arith, first.0, h, k.0))
groups_cut (x ∷ u ∷ xs) (y ∷ []) a b h k e =
    let first = same_first x y (u ∷ (xs ++ a)) b e in absurd (omega (arith, first.0, h.0, k))
groups_cut (x ∷ u ∷ xs) (y ∷ v ∷ ys) a b h k e =
    let first = same_first x y (u ∷ (xs ++ a)) (v ∷ (ys ++ b)) e in
    let rest = groups_cut (u ∷ xs) (v ∷ ys) a b h.3 k.3 first.1 in
    (ap₂ (λ (z : ℕ) zs. z ∷ zs) first.0 rest.0, rest.1)

pub one_number : (m n : ℕ) (xs ys a b : List ℕ) → IsDelta m xs → IsDelta n ys → xs ++ a ≡ ys ++ b
    → (m ≡ n) × (xs ≡ ys) × (a ≡ b)
one_number m n xs ys a b h k e =
    let cut = groups_cut xs ys a b h.groups k.groups e in
    (sym h.value ∙ ap groups_number cut.0 ∙ k.value, cut.0, cut.1)

-- a number has one form

last_group : (x y : ℕ) → x < 128 → y < 128 → x % 128 + 128 * 0 ≡ y % 128 + 128 * 0 → x ≡ y
last_group x y h k e = omega arith

no_last_group : (x y n : ℕ) → 0 < n → x % 128 + 128 * 0 ≡ y % 128 + 128 * n → ⊥
no_last_group x y n more e = omega arith

first_group : (x y m n : ℕ) → 128 ≤ x → x < 256 → 128 ≤ y → y < 256 → x % 128 + 128 * m ≡ y % 128 + 128 * n
    → (x ≡ y) × (m ≡ n)
first_group x y m n x_high x_byte y_high y_byte e = (omega arith, omega arith)

groups_same : (xs ys : List ℕ) → AreGroups xs → AreGroups ys → groups_number xs ≡ groups_number ys → xs ≡ ys
groups_same [] ys h k e = absurd h
groups_same (x ∷ []) [] h k e = absurd k
groups_same (x ∷ u ∷ xs) [] h k e = absurd k
groups_same (x ∷ []) (y ∷ []) h k e = ap (λ (z : ℕ). z ∷ []) (last_group x y h k e)
groups_same (x ∷ []) (y ∷ v ∷ ys) h k e = absurd (no_last_group x y (groups_number (v ∷ ys)) k.2 e)
groups_same (x ∷ u ∷ xs) (y ∷ []) h k e = absurd (no_last_group y x (groups_number (u ∷ xs)) h.2 (sym e))
groups_same (x ∷ u ∷ xs) (y ∷ v ∷ ys) h k e =
    let first = first_group x y (groups_number (u ∷ xs)) (groups_number (v ∷ ys)) h.0 h.1 k.0 k.1 e in
    ap₂ (λ (z : ℕ) zs. z ∷ zs) first.0 (groups_same (u ∷ xs) (v ∷ ys) h.3 k.3 first.1)

pub one_form : (n : ℕ) (xs ys : List ℕ) → IsDelta n xs → IsDelta n ys → xs ≡ ys
one_form n xs ys h k = groups_same xs ys h.groups k.groups (h.value ∙ sym k.value)

-- the form that is written

pub one_group : (n : ℕ) → n < 128 → IsDelta n (n ∷ [])
one_group n h = record { groups = h; value = omega arith }

put_together : (n m : ℕ) → m ≡ n / 128 → (n % 128 + 128) % 128 + 128 * m ≡ n
put_together n m e = omega arith

pub one_more : (n : ℕ) (bytes : List ℕ) → 128 ≤ n → IsDelta (n / 128) bytes → IsDelta n ((n % 128 + 128) ∷ bytes)
one_more n [] h k = absurd k.groups
one_more n (b ∷ bytes) h k =
    let more : 0 < groups_number (b ∷ bytes) = some (groups_number (b ∷ bytes)) k.value in
    record {
      groups = (omega arith, omega arith, more, k.groups);
      value = put_together n (groups_number (b ∷ bytes)) k.value;
    }
  where
    some : (m : ℕ) → m ≡ n / 128 → 0 < m
    some m e = omega arith

groups_are : (steps n : ℕ) → n ≤ steps → IsDelta n (groups steps n)
groups_are zero n h = one_group n (omega arith)
groups_are (suc steps) n h = by (nat_lt n 128) refl (λ more. groups_are steps (n / 128) (omega arith))
  where
    by : (t : Bool) → nat_lt n 128 ≡ t → (128 ≤ n → IsDelta (n / 128) (groups steps (n / 128)))
        → IsDelta n (if t then n ∷ [] else (n % 128 + 128) ∷ groups steps (n / 128))
    by true e rest = one_group n ((Decides-ltb n 128).0 e)
    by false e rest = let more : 128 ≤ n = not_below n e in one_more n (groups steps (n / 128)) more (rest more)
      where
        not_below : (n : ℕ) → nat_lt n 128 ≡ false → 128 ≤ n
        not_below n e = ⊎_elim (λ (l : n < 128). absurd (true≢false (sym ((Decides-ltb n 128).1 l) ∙ e)))
            (λ (l : 128 ≤ n). l) (cases_lt n 128)

pub delta_is : (n : ℕ) → IsDelta n (delta n)
unfolding delta
delta_is n = groups_are n n (omega arith)

pub delta_last : (n : ℕ) → n < 128 → delta n ≡ n ∷ []
delta_last n h = one_form n (delta n) (n ∷ []) (delta_is n) (one_group n h)

pub delta_more : (n : ℕ) → 128 ≤ n → delta n ≡ (n % 128 + 128) ∷ delta (n / 128)
delta_more n h = one_form n (delta n) ((n % 128 + 128) ∷ delta (n / 128)) (delta_is n)
    (one_more n (delta (n / 128)) h (delta_is (n / 128)))

-- the groups one after the other

-- the first groups of a number stand behind what there was, and there is room for the rest
pub record IsBegun (number : ℕ) (old now : List ℕ) (rest : ℕ) : Type 0 where
  pub within : length now < length old + 19
  pub room : rest < 128 ^ (length old + 19 - length now)
  pub whole : now ++ delta rest ≡ old ++ delta number

pub begun : (number : ℕ) (old : List ℕ) → number < 2 ^ 128 → IsBegun number old old number
begun number old h = record {
  within = omega arith;
  room =
      let all : length old + 19 - length old ≡ 19 = omega arith in
      subst (λ n. number < 128 ^ n) (sym all) (let small : number < 128 ^ 19 = omega arith in small);
  whole = refl;
}

-- a number of more than one group has room for two, and without its first one for one less
two_left : (n room : ℕ) → 128 ≤ n → n < 128 ^ room → 2 ≤ room
two_left n zero h k = absurd (omega arith)
two_left n (suc zero) h k = absurd (omega arith)
two_left n (suc (suc room)) h k = omega arith

one_less : (n room : ℕ) → 0 < room → n < 128 ^ room → n / 128 < 128 ^ (room - 1)
one_less n room some h =
    let back : room ≡ room - 1 + 1 = omega arith in
    omega (arith, ap (λ j. 128 ^ j) back ∙ pow_more 128 (room - 1))

pub begun_more : (number : ℕ) (old now : List ℕ) (rest : ℕ) → 128 ≤ rest → IsBegun number old now rest
    → IsBegun number old (now ++ (rest % 128 + 128) ∷ []) (rest / 128)
begun_more number old now rest h b =
    let left = length old + 19 - length now in
    let two : 2 ≤ left = two_left rest left h b.room in
    let size : length (now ++ (rest % 128 + 128) ∷ []) ≡ length now + 1 = length-append now ((rest % 128 + 128) ∷ []) in
    let less : left - 1 ≡ length old + 19 - length (now ++ (rest % 128 + 128) ∷ []) = omega (arith, size) in
    record {
      within = omega (arith, size, two);
      room = subst (λ n. rest / 128 < 128 ^ n) less (one_less rest left (omega (arith, two)) b.room);
      whole = append_assoc now ((rest % 128 + 128) ∷ []) (delta (rest / 128))
          ∙ ap (λ z. now ++ z) (sym (delta_more rest h)) ∙ b.whole;
    }

pub begun_last : (number : ℕ) (old now : List ℕ) (rest : ℕ) → rest < 128 → IsBegun number old now rest
    → now ++ rest ∷ [] ≡ old ++ delta number
begun_last number old now rest h b = ap (λ z. now ++ z) (sym (delta_last rest h)) ∙ b.whole
